-- The lines of a type and of a compound's members: one law for each way out of `put_type` and `put_members`.
use Prim.Native.Nat.{ℕ, zero, suc, ◌+◌, ◌-◌, ◌<◌, ◌≤◌}
use mathlib.Core.Path.{◌≡◌, refl, sym, ap, ◌∙◌}
use mathlib.Core.List.{List, [], ◌∷◌, ◌++◌, append-nil}
use mathlib.Core.Option as maybe
use Rattle.std.specs.Prelude.{Option, Some, None}
use Rattle.std.specs.Option.{unwrap_or}
use native.Mathlib.Omega.{arith}
use native.Mathlib.Numerals.{add-one}
use lib.ListN.{length, take, drop}
use Rattle.format.specs.Datatype.{Datatype, Members, no_members, member, type_size_of, class_number}
use Rattle.format.specs.Table.{found, bad, Walk, and_then, type_at, members_at}
use Rattle.format.proofs.TableSteps.{no_found}
use Rattle.rows.specs.Entries.{entry_at, member_at_of, from_member}
use Rattle.rows.specs.declared.Member.{Member}
use Rattle.rows.proofs.Decode.{members_at-entry}
use Rattle.listing.specs.Text.{decimal, spaced, name_text, line, inner_lines, member_lines, lines}
use Rattle.listing.specs.Puts.{Puts, name_of, class_in, InsideAt, PutsLine, PutsType, PutsMembers}
use Rattle.listing.specs.declared.Inside.{Inside}
use Rattle.listing.specs.declared.Inside.TheVariants.{Nothing, Members as InsideMembers, Base}
use Rattle.table.specs.Known.{SizedTo, SizedAt}
use Rattle.table.specs.Survey.{survey_of}
use Rattle.table.specs.declared.Survey.{Survey}
use Rattle.listing.proofs.Pieces.{nothing_put, then-put, put_as}
use Rattle.listing.proofs.Shapes.{found-is, then_found, reached, somewhere, Inner, shape}

-- ---- one line

line_as : (l o : ℕ) (b : maybe.Option (List ℕ)) (t : Datatype) {c n : ℕ} → c ≡ class_number t → n ≡ type_size_of t → (decimal l ++ spaced (c ∷ o ∷ n ∷ [])) ++ ((32 ∷ name_text b) ++ (10 ∷ [])) ≡ line l o b t
unfolding line
line_as l o b t e f = rw (e, f)

lines_as : (l o : ℕ) (b : maybe.Option (List ℕ)) (t : Datatype) {s : List ℕ} → inner_lines l t ≡ s → line l o b t ++ s ≡ lines l o b t
unfolding lines
lines_as l o b t e = rw e

lines_none : (l o : ℕ) (b : maybe.Option (List ℕ)) (t : Datatype) → inner_lines l t ≡ [] → line l o b t ≡ lines l o b t
lines_none l o b t e = sym (append-nil (line l o b t)) ∙ lines_as l o b t e

module _ (level o : ℕ) (b : maybe.Option (List ℕ)) (at : ℕ) (table pool : List ℕ) (r p : ℕ) (out : List ℕ) where
  pub line-put : {c n a z : ℕ} {out₁ out₂ : List ℕ} → SizedAt (33 - level) table pool r n → c ≡ unwrap_or (class_in (entry_at table pool r p)) 0
      → Puts (decimal level ++ spaced (c ∷ o ∷ n ∷ [])) at a out out₁ → Puts ((32 ∷ name_text b) ++ (10 ∷ [])) a z out₁ out₂
      → PutsLine level o b at (type_at (33 - level) table pool r p) z out out₂
  unfolding SizedTo
  line-put {c = c} {n = n} h q m x =
      record {
        puts = λ t r' p' f.
            let e : n ≡ type_size_of t = rw f at (h.sized p) in
            let g : c ≡ class_number t = q ∙ ap (λ (k : Option ℕ). unwrap_or k 0) (shape (33 - level) table pool r p f).class in
            put_as (line_as level o b t g e) (then-put m x);
      }

  -- ---- a type

  pub type-shallow : {x : ℕ} {out' : List ℕ} → 32 < level → PutsType level o b at (type_at (33 - level) table pool r p) x out out'
  type-shallow h =
      let e : 33 - level ≡ 0 = omega arith in
      record { puts = λ t r' p' f. let g = rw e at f in let z : bad ≡ found t r' p' = unfold type_at in g in absurd (no_found z) }

  module _ {a : ℕ} {out₁ : List ℕ} (n : PutsLine level o b at (type_at (33 - level) table pool r p) a out out₁)
      {words : ℕ} {y : Inside} (q : InsideAt (entry_at table pool r p) words r p y) where
    inner : {z : Inside} {t : Datatype} {r' p' : ℕ} → y ≡ z → type_at (33 - level) table pool r p ≡ found t r' p' → Inner (type_at (33 - (level + 1)) table pool) table pool r p level t z
    inner i f =
        let e : 33 - level - 1 ≡ 33 - (level + 1) = omega arith in
        rw e at (rw (sym q.is ∙ i) at ((shape (33 - level) table pool r p f).inner level))

    pub type-plain : y ≡ Nothing → PutsType level o b at (type_at (33 - level) table pool r p) a out out₁
    unfolding Inner
    type-plain i =
        record {
          puts = λ t r' p' f.
              put_as (lines_none level o b t (inner i f)) (n.puts t r' p' f);
        }

    pub type-members : {k z : ℕ} {out₂ : List ℕ} → y ≡ InsideMembers k → PutsMembers (level + 1) a (members_at (type_at (33 - (level + 1)) table pool) table pool k (r + 1) p) z out₁ out₂
        → PutsType level o b at (type_at (33 - level) table pool r p) z out out₂
    unfolding Inner
    type-members i m =
        record {
          puts = λ t r' p' f.
              let w = inner i f in
              put_as (lines_as level o b t w.text) (then-put (n.puts t r' p' f) (rw (add-one level) at (m.puts w.members w.row w.place w.are)));
        }

    pub type-base : {k z : ℕ} {out₂ : List ℕ} → y ≡ Base k → PutsType (level + 1) 0 (name_of None) a (type_at (33 - (level + 1)) table pool (r + 1) k) z out₁ out₂
        → PutsType level o b at (type_at (33 - level) table pool r p) z out out₂
    unfolding Inner name_of
    type-base i m =
        record {
          puts = λ t r' p' f.
              let w = inner i f in
              put_as (lines_as level o b t w.text) (then-put (n.puts t r' p' f) (rw (add-one level) at (m.puts w.base w.row w.place w.is)));
        }

-- ---- the members of a compound

member_as : (l o : ℕ) (b : List ℕ) (t : Datatype) (ms : Members) → lines l o (maybe.some b) t ++ member_lines l ms ≡ member_lines l (member b o t ms)
unfolding lines member_lines
member_as l o b t ms = refl

no_lines : (l : ℕ) → [] ≡ member_lines l no_members
unfolding member_lines
no_lines l = refl

-- what is left to put, for what is to be put in all
pub record MembersLeft (rd : Walk Datatype) (table pool : List ℕ) (l count row place at : ℕ) (out₀ : List ℕ) (k r p a : ℕ) (out : List ℕ) : Type 0 where
  pub long : length out ≡ length out₀
  pub rest : (x : ℕ) (out' : List ℕ) → PutsMembers l a (members_at rd table pool k r p) x out out' → PutsMembers l at (members_at rd table pool count row place) x out₀ out'

module _ (rd : Walk Datatype) (table pool : List ℕ) (r p : ℕ) where
  members_as : (k : ℕ) {x : Option Member} {m : Member} → 0 < k → x ≡ member_at_of table pool r p → x ≡ Some m
      → members_at rd table pool k r p ≡ and_then (rd (r + 1) (p + m.name)) (λ t r₁ p₁. and_then (members_at rd table pool (k - 1) r₁ p₁) (λ ms r₂ p₂. found (member (take m.name (drop p pool)) m.number t ms) r₂ p₂))
  unfolding from_member
  members_as (suc k) h q e =
      let j : suc k - 1 ≡ k = omega arith in
      members_at-entry table pool k r p rd ∙ ap (from_member rd (members_at rd table pool k) pool r p) (sym q ∙ e) ∙ rw (j, add-one)
  members_as zero h q e = absurd (omega arith)

  members-none : (k : ℕ) {x : Option Member} → 0 < k → x ≡ member_at_of table pool r p → x ≡ None → members_at rd table pool k r p ≡ bad
  unfolding from_member
  members-none (suc k) h q e = members_at-entry table pool k r p rd ∙ ap (from_member rd (members_at rd table pool k) pool r p) (sym q ∙ e)
  members-none zero h q e = absurd (omega arith)

  -- the first of k members, and those behind it
  module _ (l k a : ℕ) {y : Option Member} {m : Member} {u : Option Survey} (h : 0 < k) (q : y ≡ member_at_of table pool r p) (e : y ≡ Some m) (d : u ≡ survey_of (rd (r + 1) (p + m.name))) where
    none_more : {z : ℕ} {out out₁ : List ℕ} → u ≡ None → PutsMembers l a (members_at rd table pool k r p) z out out₁
    none_more i =
        record {
          puts = λ ms r' p' f.
              let w = then_found (rd (r + 1) (p + m.name)) _ (sym (members_as k h q e) ∙ f) in
              absurd (somewhere _ d w.is i);
        }

    one_more : {b z : ℕ} {s : Survey} {out out₁ out₂ : List ℕ} → u ≡ Some s → PutsType l m.number (maybe.some (take m.name (drop p pool))) a (rd (r + 1) (p + m.name)) b out out₁
        → PutsMembers l b (members_at rd table pool (k - 1) s.row s.place) z out₁ out₂ → PutsMembers l a (members_at rd table pool k r p) z out out₂
    one_more {s = s} i t x =
        record {
          puts = λ ms r' p' f.
              let w = then_found (rd (r + 1) (p + m.name)) _ (sym (members_as k h q e) ∙ f) in
              let v = then_found (members_at rd table pool (k - 1) w.row w.place) _ w.rest in
              let g = reached _ d w.is i in
              let j : members_at rd table pool (k - 1) s.row s.place ≡ found v.first v.row v.place = rw (g.0, g.1.0) v.is in
              let c : member (take m.name (drop p pool)) m.number w.first v.first ≡ ms = (found-is v.rest).0 in
              put_as (member_as l m.number (take m.name (drop p pool)) w.first v.first ∙ ap (member_lines l) c)
              (then-put (t.puts w.first w.row w.place w.is) (x.puts v.first v.row v.place j));
        }

module _ {rd : Walk Datatype} {table pool : List ℕ} {l count row place at : ℕ} {out₀ : List ℕ} where
  pub members-begun : MembersLeft rd table pool l count row place at out₀ count row place at out₀
  members-begun = record { long = refl; rest = λ x o h. h }

  module _ {k r p a : ℕ} {out : List ℕ} (i : MembersLeft rd table pool l count row place at out₀ k r p a out) where
    pub members-ended : k ≤ 0 → PutsMembers l at (members_at rd table pool count row place) a out₀ out
    members-ended h =
        let z : k ≡ 0 = omega arith in
        i.rest a out (rw z (record {
          puts = λ ms r' p' f.
              let e : found no_members r p ≡ found ms r' p' = unfold members_at in f in
              put_as (no_lines l ∙ ap (member_lines l) (found-is e).0) nothing_put;
        }))

    module _ (h : 0 < k) {y : Option Member} (q : y ≡ member_at_of table pool r p) where
      pub members_unnamed : y ≡ None → PutsMembers l at (members_at rd table pool count row place) a out₀ out
      members_unnamed f = i.rest a out (rw (members-none rd table pool r p k h q f) (record { puts = λ ms r' p' g. absurd (no_found g) }))

      module _ {m : Member} {u : Option Survey} (e : y ≡ Some m) (d : u ≡ survey_of (rd (r + 1) (p + m.name))) where
        pub members_unsurveyed : {z : ℕ} {out' : List ℕ} → u ≡ None → PutsMembers l at (members_at rd table pool count row place) z out₀ out'
        members_unsurveyed f = i.rest _ _ (none_more rd table pool r p l k a h q e d f)

        pub members-next : {b less : ℕ} {s : Survey} {out₁ : List ℕ} → u ≡ Some s → length out₁ ≡ length out
            → PutsType l m.number (maybe.some (take (p + m.name - p) (drop p pool))) a (rd (r + 1) (p + m.name)) b out out₁ → less ≡ k - 1
            → MembersLeft rd table pool l count row place at out₀ less s.row s.place b out₁
        members-next f c t g =
            let j : p + m.name - p ≡ m.name = omega arith in
            rw g (record { long = c ∙ i.long; rest = λ z o' x. i.rest z o' (one_more rd table pool r p l k a h q e d f (rw j at t) x) })
