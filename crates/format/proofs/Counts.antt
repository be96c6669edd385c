-- What is read has taken just its rows and pool bytes, and has no more levels than were left, whatever the bytes.
use Prim.Native.Nat.{ℕ, zero, suc, ◌+◌, ◌*◌, ◌≤◌}
use mathlib.Core.Path.{◌≡◌, refl, ap}
use mathlib.Core.Bool.{Bool, true, false}
use mathlib.Core.List.{List, [], ◌∷◌, ◌++◌}
use native.Mathlib.Omega.{arith}
use lib.ListN.{length, get_or, length-append, length-take}
use Rattle.format.specs.declared.Header.{Header}
use Rattle.format.specs.Datatype.{leaf_pool, Datatype, enum_names, enum_values, no_members, depth, member_depth, pool_bytes, member_pool, row_count, member_row_count}
use Rattle.format.specs.Reading.{Answer, Reader, inner, read_name_of, read_members_of, read_names_of, read_values_of, read_variable, read_array, leaf_properties, read_properties, sized, read_type_of}
use Rattle.format.specs.Table.{LeafKind, isFixedPoint, isFloatingPoint, isTime, is_string_of, isBitField, isOpaque, isReference, Kind, is_leaf, isCompound, isEnumeration, isVariableLength, isArray, isUnknown}
use Rattle.format.proofs.Bytes.{length_dimensions, length-dimensions_from}
use Rattle.format.proofs.Sure.{Sure, met, nothing, sure_then, sure_moved, sure_require, sure_bytes, sure_number, sure_numbers, sure_skip, sure_piece, sure_name, sure_header, sure_row}

unfoldable pub joined : List (List ℕ) → List ℕ
joined [] = []
joined (b ∷ bs) = b ++ joined bs

-- a type of at most k levels, as many rows and pool bytes as it has taken
abbrev Typed : ℕ → ℕ → ℕ → Datatype → ℕ → ℕ → Type 0
Typed k r p t r' p' = (r ≡ row_count t + r') × (p ≡ length (pool_bytes t) + p') × (depth t ≤ k)

abbrev pub Counts : ℕ → Reader Datatype → Type 0
Counts k rd = (v at : ℕ) (s : List ℕ) (r p : ℕ) → Sure (λ t at' s' r' p'. Typed k r p t r' p') (rd v at s r p)

count-inner : (k : ℕ) (rd : Reader Datatype) → Counts k rd → Counts k (inner rd)
unfolding inner
count-inner k rd h v at s r p = sure_moved {Q = λ t s' r' p'. Typed k r p t r' p'} at (h (length s) 0 s r p)

count-name : (ver v at : ℕ) (s : List ℕ) (r p : ℕ) → Sure (λ b at' s' r' p'. (r ≡ suc r') × (p ≡ length b + p')) (read_name_of ver v at s r p)
unfolding read_name_of
count-name ver v at s r p =
    sure_then (sure_row v at s r p) λ u a1 s1 r1 p1 h1.
    sure_then (sure_name v a1 s1 r1 p1) λ b a2 s2 r2 p2 h2.
    sure_then (sure_piece v a2 s2 r2 p2 _) λ w a3 s3 r3 p3 h3.
    sure_then (sure_skip v a3 s3 r3 p3 _) λ x a4 s4 r4 p4 h4.
    met (omega arith)

count-members : (k ver size n : ℕ) (rd : Reader Datatype) → Counts k rd → (v at : ℕ) (s : List ℕ) (r p : ℕ)
    → Sure (λ ms at' s' r' p'. (r ≡ member_row_count ms + r') × (p ≡ length (member_pool ms) + p') × (member_depth ms ≤ k)) (read_members_of rd ver size n v at s r p)
unfolding read_members_of row_count pool_bytes depth
count-members k ver size zero rd h v at s r p = met {a = no_members} {r = r} {p = p} (omega arith)
count-members k ver size (suc n) rd h v at s r p =
    sure_then (count-name ver v at s r p) λ b a1 s1 r1 p1 h1.
    sure_then (sure_number v a1 s1 r1 p1 _) λ o a2 s2 r2 p2 h2.
    sure_then (sure_bytes v a2 s2 r2 p2 _) λ y a3 s3 r3 p3 h3.
    sure_then (count-inner k rd h v a3 s3 r3 p3) λ t a4 s4 r4 p4 h4.
    sure_then (count-members k ver size n rd h v a4 s4 r4 p4) λ ms a5 s5 r5 p5 h5.
    met (simp length-append (omega arith))

count-names : (ver n v at : ℕ) (s : List ℕ) (r p : ℕ)
    → Sure (λ bs at' s' r' p'. (r ≡ length bs + r') × (p ≡ length (joined bs) + p')) (read_names_of ver n v at s r p)
unfolding read_names_of joined
count-names ver zero v at s r p = met {a = []} {r = r} {p = p} (omega arith)
count-names ver (suc n) v at s r p =
    sure_then (count-name ver v at s r p) λ b a1 s1 r1 p1 h1.
    sure_then (count-names ver n v a1 s1 r1 p1) λ bs a2 s2 r2 p2 h2.
    met (simp length-append (omega arith))

count-values : (n : ℕ) (bs : List (List ℕ)) (v at : ℕ) (s : List ℕ) (r p : ℕ)
    → Sure (λ ms at' s' r' p'. (r ≡ r') × (p ≡ length (enum_values ms) + p') × (length ms ≡ length bs) × (enum_names ms ≡ joined bs)) (read_values_of n bs v at s r p)
unfolding read_values_of joined enum_values enum_names
count-values n [] v at s r p = met {a = []} {r = r} {p = p} (refl, omega arith, refl, refl)
count-values n (b ∷ bs) v at s r p =
    sure_then (sure_bytes v at s r p n) λ x a1 s1 r1 p1 h1.
    sure_then (sure_piece v a1 s1 r1 p1 x) λ w a2 s2 r2 p2 h2.
    sure_then (count-values n bs v a2 s2 r2 p2) λ ms a3 s3 r3 p3 h3.
    met (omega arith, simp length-append (omega arith), ap suc h3.2, ap (λ y. b ++ y) h3.3)

-- the properties of a class take what the type has beyond its own row
abbrev Below : ℕ → ℕ → ℕ → Datatype → ℕ → ℕ → Type 0
Below k r p t r' p' = (suc r ≡ row_count t + r') × (p ≡ length (pool_bytes t) + p') × (depth t ≤ suc k)

count_variable : (k : ℕ) (rd : Reader Datatype) → Counts k rd → (h : Header) (c : Bool) (v at : ℕ) (s : List ℕ) (r p : ℕ)
    → Sure (λ t at' s' r' p'. Below k r p t r' p') (read_variable rd h c v at s r p)
unfolding read_variable row_count pool_bytes depth
count_variable k rd i h true v at s r p =
    sure_then (sure_require v at s r p _ _) λ u a1 s1 r1 p1 h1.
    sure_then (sure_require v a1 s1 r1 p1 _ _) λ u a2 s2 r2 p2 h2.
    sure_then (count-inner k rd i v a2 s2 r2 p2) λ t a3 s3 r3 p3 h3.
    met (omega arith)
count_variable k rd i h false v at s r p =
    sure_then (count-inner k rd i v at s r p) λ t a1 s1 r1 p1 h1.
    met (omega arith)

count-array : (k : ℕ) (rd : Reader Datatype) → Counts k rd → (ver v at : ℕ) (s : List ℕ) (r p : ℕ)
    → Sure (λ t at' s' r' p'. Below k r p t r' p') (read_array rd ver v at s r p)
unfolding read_array row_count pool_bytes depth
count-array k rd i ver v at s r p =
    sure_then (sure_bytes v at s r p _) λ x a1 s1 r1 p1 h1.
    sure_then (sure_bytes v a1 s1 r1 p1 _) λ b a2 s2 r2 p2 h2.
    sure_then (sure_piece v a2 s2 r2 p2 _) λ w a3 s3 r3 p3 h3.
    sure_then (count-inner k rd i v a3 s3 r3 p3) λ t a4 s4 r4 p4 h4.
    met (simp (length-append, length_dimensions, length-dimensions_from) (omega (arith, length-take (4 * get_or x 0 0) b)))

count-leaf : (k : ℕ) (h : Header) (c : LeafKind) (v at : ℕ) (s : List ℕ) (r p : ℕ) → Sure (λ t at' s' r' p'. Below k r p t r' p') (leaf_properties h c v at s r p)
unfolding leaf_properties row_count pool_bytes leaf_pool depth
count-leaf k h isFixedPoint v at s r p = sure_then (sure_numbers v at s r p _) λ x a1 s1 r1 p1 h1. met (omega arith)
count-leaf k h isFloatingPoint v at s r p = sure_then (sure_numbers v at s r p _) λ x a1 s1 r1 p1 h1. met (omega arith)
count-leaf k h isTime v at s r p = sure_then (sure_numbers v at s r p _) λ x a1 s1 r1 p1 h1. met (omega arith)
count-leaf k h is_string_of v at s r p =
    sure_then (sure_require v at s r p _ _) λ u a1 s1 r1 p1 h1.
    sure_then (sure_require v a1 s1 r1 p1 _ _) λ u a2 s2 r2 p2 h2.
    met (omega arith)
count-leaf k h isBitField v at s r p = sure_then (sure_numbers v at s r p _) λ x a1 s1 r1 p1 h1. met (omega arith)
count-leaf k h isOpaque v at s r p =
    sure_then (sure_bytes v at s r p _) λ g a1 s1 r1 p1 h1.
    sure_then (sure_piece v a1 s1 r1 p1 g) λ w a2 s2 r2 p2 h2.
    sure_then (sure_skip v a2 s2 r2 p2 _) λ w a3 s3 r3 p3 h3.
    met (omega arith)
count-leaf k h isReference v at s r p = sure_then (sure_require v at s r p _ _) λ u a1 s1 r1 p1 h1. met (omega arith)

count_properties : (k : ℕ) (rd : Reader Datatype) → Counts k rd → (h : Header) (c : Kind) (v at : ℕ) (s : List ℕ) (r p : ℕ)
    → Sure (λ t at' s' r' p'. Below k r p t r' p') (read_properties rd h c v at s r p)
unfolding read_properties row_count pool_bytes depth
count_properties k rd i h (is_leaf c) v at s r p = count-leaf k h c v at s r p
count_properties k rd i h isCompound v at s r p =
    sure_then (sure_require v at s r p _ _) λ u a1 s1 r1 p1 h1.
    sure_then (sure_require v a1 s1 r1 p1 _ _) λ u a2 s2 r2 p2 h2.
    sure_then (count-members k _ _ _ rd i v a2 s2 r2 p2) λ ms a3 s3 r3 p3 h3.
    met (omega arith)
count_properties k rd i h isEnumeration v at s r p =
    sure_then (count-inner k rd i v at s r p) λ t a1 s1 r1 p1 h1.
    sure_then (count-names _ _ v a1 s1 r1 p1) λ bs a2 s2 r2 p2 h2.
    sure_then (count-values _ bs v a2 s2 r2 p2) λ ms a3 s3 r3 p3 h3.
    met (simp length-append (omega (arith, ap length h3.3)))
count_properties k rd i h isVariableLength v at s r p = count_variable k rd i h _ v at s r p
count_properties k rd i h isArray v at s r p =
    sure_then (sure_require v at s r p _ _) λ u a1 s1 r1 p1 h1.
    sure_then (sure_require v a1 s1 r1 p1 _ _) λ u a2 s2 r2 p2 h2.
    sure_so (count-array k rd i _ v a2 s2 r2 p2) (λ t a3 s3 r3 p3 h3. omega arith)
  where
    sure_so : {Q R : Datatype → ℕ → List ℕ → ℕ → ℕ → Type 0} {x : Answer Datatype} → Sure Q x
        → ((t : Datatype) (at : ℕ) (s : List ℕ) (r p : ℕ) → Q t at s r p → R t at s r p) → Sure R x
    sure_so (met q) f = met (f _ _ _ _ _ q)
    sure_so nothing f = nothing
count_properties k rd i h isUnknown v at s r p = nothing

pub counts : (l k : ℕ) → Counts k (read_type_of l k)
unfolding read_type_of sized
counts l zero v at s r p = nothing
counts l (suc k) v at s r p =
    sure_then (sure_row v at s r p) λ u a1 s1 r1 p1 h1.
    sure_then (sure_header v a1 s1 r1 p1 l) λ h a2 s2 r2 p2 h2.
    sure_then (count_properties k (read_type_of l k) (counts l k) h _ v a2 s2 r2 p2) λ t a3 s3 r3 p3 h3.
    sure_then (sure_require v a3 s3 r3 p3 _ _) λ w a4 s4 r4 p4 h4.
    met (omega arith)
