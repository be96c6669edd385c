-- What the walk finds is set out there: the rows and pool bytes of the type, and nothing between.
use Prim.Native.Nat.{ℕ, zero, suc, ◌+◌, ◌*◌, ◌≤◌}
use mathlib.Core.Path.{◌≡◌, refl, ap, sym, ◌∙◌}
use mathlib.Core.Bool.{Bool, true, false, cond, ◌&&◌}
use mathlib.Core.List.{List, [], ◌∷◌, ◌++◌, append_assoc}
use native.Mathlib.Omega.{arith}
use lib.ListN.{length, take, drop, length-append, length-take, length-drop, take-append-drop}
use lib.Seq.{drop-drop}
use lib.Dec.{leb, ltb}
use borrow.Author.Tests.{leb-true}
use Rattle.format.specs.Bytes.{AllBytes}
use Rattle.format.specs.Datatype.{leaf_pool, Datatype, leaf, compound, enumeration, variable_length, array, Members, no_members, member, EnumMember, member_count_of, depth, member_depth, row_count, member_row_count, pool_bytes, member_pool, enum_names, enum_values}
use Rattle.format.specs.Table.{tag_at, leaf_of, enum_rows, rows, member_rows, known, known_members, Found, found, bad, Walk, and_then, test, words_at, next_row_of, next_piece, column, members_at, enum_names_at, enum_values_at, LeafKind, isFixedPoint, isFloatingPoint, isTime, is_string_of, isBitField, isOpaque, isReference, Kind, is_leaf, isCompound, isEnumeration, isVariableLength, isArray, isUnknown, kind_of, type_from, type_at}
use Rattle.format.proofs.Booleans.{and_both, and_true}
use Rattle.format.proofs.Bytes.{bytes_take, bytes_drop, length-dimensions_from}
use Rattle.format.proofs.Zeros.{dimensions_of}
use Rattle.format.proofs.Rows.{same_words_true, words-then, heads, head_rows, head_names, length-heads, head_rows-heads, head_names-heads}

-- Q holds of what is found, with the next row and place
pub data Sure {A : Type 0} (Q : A → ℕ → ℕ → Type 0) : Found A → Type 0 where
  holds : {a : A} {r p : ℕ} → Q a r p → Sure Q (found a r p)
  fails : Sure Q bad

pub sure_then : {A B : Type 0} {Q : A → ℕ → ℕ → Type 0} {R : B → ℕ → ℕ → Type 0} {x : Found A} {k : A → Walk B}
    → Sure Q x → ((a : A) (r p : ℕ) → Q a r p → Sure R (k a r p)) → Sure R (and_then x k)
unfolding and_then
sure_then (holds h) f = f _ _ _ h
sure_then fails f = fails

sure_then-same : {A : Type 0} {Q R : A → ℕ → ℕ → Type 0} {x : Found A} → Sure Q x → ((a : A) (r p : ℕ) → Q a r p → R a r p) → Sure R x
sure_then-same (holds h) f = holds (f _ _ _ h)
sure_then-same fails f = fails

sure_cond : {A : Type 0} {Q : A → ℕ → ℕ → Type 0} {x : Found A} (c : Bool) → (c ≡ true → Sure Q x) → Sure Q (cond c x bad)
sure_cond true h = h refl
sure_cond false h = fails

pub sure_test : (c : Bool) (r p : ℕ) → Sure (λ u r' p'. (c ≡ true) × (r' ≡ r) × (p' ≡ p)) (test c r p)
unfolding test
sure_test c r p = sure_cond c (λ e. holds (e, refl, refl))

-- the words and pool bytes from a row and a place on, up to the next row and place
pub record TypeStands (table pool : List ℕ) (levels r p : ℕ) (t : Datatype) (r' p' : ℕ) : Type 0 where
  pub words : drop (r * 16) table ≡ rows p t ++ drop (r' * 16) table
  pub bytes : drop p pool ≡ pool_bytes t ++ drop p' pool
  pub row-behind : r' ≡ r + row_count t
  pub place-behind : p' ≡ p + length (pool_bytes t)
  pub codes : known t ≡ true
  pub deep : depth t ≤ levels

pub record MembersStand (table pool : List ℕ) (levels n r p : ℕ) (ms : Members) (r' p' : ℕ) : Type 0 where
  pub words : drop (r * 16) table ≡ member_rows p ms ++ drop (r' * 16) table
  pub bytes : drop p pool ≡ member_pool ms ++ drop p' pool
  pub row-behind : r' ≡ r + member_row_count ms
  pub place-behind : p' ≡ p + length (member_pool ms)
  pub codes : known_members ms ≡ true
  pub deep : member_depth ms ≤ levels
  pub count : member_count_of ms ≡ n

pub record HeadsStand (table pool : List ℕ) (n r p : ℕ) (ns : List (List ℕ × ℕ)) (r' p' : ℕ) : Type 0 where
  pub words : drop (r * 16) table ≡ head_rows p ns ++ drop (r' * 16) table
  pub bytes : drop p pool ≡ head_names ns ++ drop p' pool
  pub row-behind : r' ≡ r + n
  pub place-behind : p' ≡ p + length (head_names ns)
  pub count : length ns ≡ n

pub record ValuesStand (pool : List ℕ) (ns : List (List ℕ × ℕ)) (r p : ℕ) (ms : List EnumMember) (r' p' : ℕ) : Type 0 where
  pub bytes : drop p pool ≡ enum_values ms ++ drop p' pool
  pub row-behind : r' ≡ r
  pub place-behind : p' ≡ p + length (enum_values ms)
  pub have : heads ms ≡ ns

pub record PieceStands (pool : List ℕ) (n r p : ℕ) (g : List ℕ) (r' p' : ℕ) : Type 0 where
  pub is : g ≡ take n (drop p pool)
  pub bytes : drop p pool ≡ g ++ drop p' pool
  pub row-behind : r' ≡ r
  pub place-behind : p' ≡ p + n
  pub long : length g ≡ n

module _ (table pool : List ℕ) where
  sure_piece : (n r p : ℕ) → Sure (PieceStands pool n r p) (next_piece pool n r p)
  unfolding next_piece
  sure_piece n r p =
      sure_cond (leb (p + n) (length pool)) λ e.
      holds {a = take n (drop p pool)} {r = r} {p = p + n} (
      record {
        is = refl;
        bytes = sym (take-append-drop n (drop p pool)) ∙ ap (λ (x : List ℕ). take n (drop p pool) ++ x) (drop-drop n p pool);
        row-behind = refl;
        place-behind = refl;
        long = rw length-take (omega (arith, leb-true (p + n) (length pool) e, length-drop p pool));
      }
      )

  -- the tag of a leaf of each kind
  no_tag : (r p : ℕ) → Sure (λ g r' p'. ([] ≡ g) × (drop p pool ≡ g ++ drop p' pool) × (r' ≡ r) × (p' ≡ p + length g)) (found [] r p)
  no_tag r p = holds {a = []} {r = r} {p = p} (refl, refl, refl, omega arith)

  sure_tag : (w : ℕ → ℕ) (n r p : ℕ) (c : LeafKind)
      → Sure (λ g r' p'. (leaf_pool (leaf_of w g c) ≡ g) × (drop p pool ≡ g ++ drop p' pool) × (r' ≡ r) × (p' ≡ p + length g)) (tag_at pool n c r p)
  unfolding tag_at leaf_pool leaf_of
  sure_tag w n r p isFixedPoint = no_tag r p
  sure_tag w n r p isFloatingPoint = no_tag r p
  sure_tag w n r p isTime = no_tag r p
  sure_tag w n r p is_string_of = no_tag r p
  sure_tag w n r p isBitField = no_tag r p
  sure_tag w n r p isOpaque = sure_then-same (sure_piece n r p) λ g r1 p1 h. (refl, h.bytes, h.row-behind, omega arith)
  sure_tag w n r p isReference = no_tag r p

  abbrev pub Stands : ℕ → Walk Datatype → Type 0
  Stands k rd = (r p : ℕ) → Sure (TypeStands table pool k r p) (rd r p)

  sure_members : (k : ℕ) (rd : Walk Datatype) → Stands k rd → (n r p : ℕ) → Sure (MembersStand table pool k n r p) (members_at rd table pool n r p)
  unfolding members_at and_then next_row_of rows pool_bytes known row_count depth member_count_of
  sure_members k rd h zero r p =
      holds {a = no_members} {r = r} {p = p} (record { words = refl; bytes = refl; row-behind = omega arith; place-behind = omega arith; codes = refl; deep = omega arith; count = refl })
  sure_members k rd h (suc n) r p =
      sure_then (sure_test _ _ _) λ u r1 p1 h1.
      sure_then (sure_piece _ r1 p1) λ b r2 p2 h2.
      sure_then (h r2 p2) λ t r3 p3 h3.
      sure_then (sure_members k rd h n r3 p3) λ ms r4 p4 h4.
      let w = same_words_true _ _ h1.0 in
      holds {a = member b _ t ms} {r = r4} {p = p4} (
      record {
        words = simp append_assoc (cc (words-then table r));
        bytes = simp append_assoc (cc);
        row-behind = omega arith;
        place-behind = simp length-append (omega arith);
        codes = and_true _ _ h3.codes h4.codes;
        deep = omega arith;
        count = ap suc h4.count;
      }
      )

  sure_heads : (n r p : ℕ) → Sure (HeadsStand table pool n r p) (enum_names_at table pool n r p)
  unfolding enum_names_at and_then next_row_of head_rows head_names
  sure_heads zero r p =
      holds {a = []} {r = r} {p = p} (record { words = refl; bytes = refl; row-behind = omega arith; place-behind = omega arith; count = refl })
  sure_heads (suc n) r p =
      sure_then (sure_test _ _ _) λ u r1 p1 h1.
      sure_then (sure_piece _ r1 p1) λ b r2 p2 h2.
      sure_then (sure_heads n r2 p2) λ ns r3 p3 h3.
      let w = same_words_true _ _ h1.0 in
      holds {a = (b, _) ∷ ns} {r = r3} {p = p3} (
      record {
        words = simp append_assoc (cc (words-then table r));
        bytes = simp append_assoc (cc);
        row-behind = omega arith;
        place-behind = simp length-append (omega arith);
        count = ap suc h3.count;
      }
      )

  sure_values : (ns : List (List ℕ × ℕ)) (r p : ℕ) → Sure (ValuesStand pool ns r p) (enum_values_at pool ns r p)
  unfolding enum_values_at and_then enum_values heads
  sure_values [] r p = holds {a = []} {r = r} {p = p} (record { bytes = refl; row-behind = refl; place-behind = omega arith; have = refl })
  sure_values (x ∷ ns) r p =
      sure_then (sure_piece _ r p) λ v r1 p1 h1.
      sure_then (sure_values ns r1 p1) λ ms r2 p2 h2.
      holds {a = record { name = x.0; value = v } ∷ ms} {r = r2} {p = p2} (
      record {
        bytes = simp append_assoc (cc);
        row-behind = omega arith;
        place-behind = simp length-append (omega arith);
        have = rw (h1.long, h2.have);
      }
      )

  module _ (bytes : AllBytes pool) (k : ℕ) (rd : Walk Datatype) (inner : Stands k rd) where
    sure_from : (r p : ℕ) (c : Kind) → Sure (TypeStands table pool (suc k) r p) (type_from rd table pool (words_at table r) c (suc r) p)
    unfolding type_from and_then rows pool_bytes known row_count depth
    sure_from r p (is_leaf c) =
        sure_then (sure_tag (column (words_at table r)) _ (suc r) p c) λ g r1 p1 h1.
        sure_then (sure_test _ r1 p1) λ u r2 p2 h2.
        sure_then (sure_test _ r2 p2) λ u3 r3 p3 h3.
        let w = same_words_true _ _ h2.0 in
        let n : length (leaf_pool (leaf_of (column (words_at table r)) g c)) ≡ length g = ap length h1.0 in
        holds {a = leaf _ _} {r = r3} {p = p3} (
        record { words = cc (words-then table r); bytes = cc; row-behind = omega arith; place-behind = omega arith; codes = h3.0; deep = omega arith }
        )
    sure_from r p isCompound =
        sure_then (sure_test _ _ _) λ u r1 p1 h1.
        sure_then (sure_members k rd inner _ r1 p1) λ ms r2 p2 h2.
        let w = same_words_true _ _ h1.0 in
        holds {a = compound _ ms} {r = r2} {p = p2} (
        record {
          words = simp append_assoc (cc (words-then table r));
          bytes = cc;
          row-behind = omega arith;
          place-behind = omega arith;
          codes = h2.codes;
          deep = omega arith;
        }
        )
    sure_from r p isEnumeration =
        sure_then (sure_test _ _ _) λ u r1 p1 h1.
        sure_then (inner r1 p1) λ t r2 p2 h2.
        sure_then (sure_heads _ r2 p2) λ ns r3 p3 h3.
        sure_then (sure_values ns r3 p3) λ ms r4 p4 h4.
        let w = same_words_true _ _ h1.0 in
        let rs : head_rows p2 ns ≡ enum_rows p2 ms = rw (← h4.have) (head_rows-heads p2 ms) in
        let bs : head_names ns ≡ enum_names ms = rw (← h4.have) (head_names-heads ms) in
        let n : length ns ≡ length ms = rw (← h4.have) (length-heads ms) in
        let m : length (head_names ns) ≡ length (enum_names ms) = ap length bs in
        holds {a = enumeration _ t ms} {r = r4} {p = p4} (
        record {
          words = simp append_assoc (cc (words-then table r));
          bytes = simp append_assoc (cc);
          row-behind = omega arith;
          place-behind = simp length-append (omega arith);
          codes = h2.codes;
          deep = omega arith;
        }
        )
    sure_from r p isVariableLength =
        sure_then (sure_test _ _ _) λ u r1 p1 h1.
        sure_then (sure_test _ r1 p1) λ u2 r2 p2 h2.
        sure_then (inner r2 p2) λ t r3 p3 h3.
        let w = same_words_true _ _ h1.0 in
        let w5 = column (words_at table r) 5 in
        let w6 = column (words_at table r) 6 in
        let w7 = column (words_at table r) 7 in
        let c = and_both (ltb w5 2) (ltb w6 4 && ltb w7 3) h2.0 in
        let d = and_both (ltb w6 4) (ltb w7 3) c.1 in
        holds {a = variable_length w5 w6 w7 t} {r = r3} {p = p3} (
        record {
          words = simp append_assoc (cc (words-then table r));
          bytes = cc;
          row-behind = omega arith;
          place-behind = omega arith;
          codes = and_true _ _ c.0 (and_true _ _ d.0 (and_true _ _ d.1 h3.codes));
          deep = omega arith;
        }
        )
    sure_from r p isArray =
        sure_then (sure_test _ _ _) λ u r1 p1 h1.
        sure_then (sure_piece _ r1 p1) λ b r2 p2 h2.
        sure_then (inner r2 p2) λ t r3 p3 h3.
        let w = same_words_true _ _ h1.0 in
        let w3 = column (words_at table r) 3 in
        let d = dimensions_of w3 b (rw h2.is (bytes_take (w3 * 4) (drop p1 pool) (bytes_drop p1 pool bytes))) h2.long in
        let n = length-dimensions_from w3 b in
        holds {a = array _ t} {r = r3} {p = p3} (
        record {
          words = simp append_assoc (cc (words-then table r));
          bytes = simp append_assoc (cc);
          row-behind = omega arith;
          place-behind = simp length-append (rw d.bytes (omega arith));
          codes = and_true _ _ d.below h3.codes;
          deep = omega arith;
        }
        )
    sure_from r p isUnknown = fails

  -- what the walk finds is set out there
  pub type_at_sound : AllBytes pool → (k : ℕ) → Stands k (type_at k table pool)
  unfolding type_at and_then next_row_of
  type_at_sound b zero r p = fails
  type_at_sound b (suc k) r p = sure_from b k (type_at k table pool) (type_at_sound b k) r p (kind_of (column (words_at table r) 0))
