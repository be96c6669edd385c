-- The members of a compound, one a turn: the answer of the whole is that of the members left.
use Rattle.std.specs.Prelude.{Option, Some, None}
use Prim.Native.Nat.{ℕ, zero, suc, ◌+◌, ◌-◌, ◌<◌, ◌≤◌}
use mathlib.Core.Path.{◌≡◌, refl, sym, ap, ◌∙◌}
use mathlib.Core.Bool.{true}
use mathlib.Core.List.{List, [], ◌++◌, append_assoc}
use native.Mathlib.Omega.{arith}
use native.Mathlib.Numerals.{add-one}
use native.Mathlib.Nat.{sub-zero}
use lib.ListN.{length, take, drop, length-append}
use Rattle.format.specs.Bytes.{little_endian, zeros}
use Rattle.format.specs.Datatype.{Datatype, Members, member, member_count_of}
use Rattle.format.specs.Message.{message, member_bytes, name_bytes, offset_width, skipped_bytes_of, storable, storable_members, carried, carried_members}
use Rattle.format.specs.Table.{Found, found, bad, Walk, and_then, members_at}
use Rattle.format.proofs.Booleans.{and_both}
use Rattle.format.proofs.Storable.{Facts, all_facts}
use Rattle.rows.specs.Entries.{member_at_of, MemberInside, IfKnown, from_member}
use Rattle.rows.specs.declared.Member.{Member}
use Rattle.rows.proofs.Decode.{members_at-entry, named-inside}
use Rattle.rows.proofs.Known.{claim_of-members}
use Rattle.writer_parts.specs.Places.{Places, PlacesFrom, Stands}
use Rattle.writer_parts.specs.declared.Written.{Written}
use Rattle.writer_parts.proofs.Placing.{none-placed, stands, stands-behind, lost-behind, row-known, placed, unplaced, where_fits}
use Rattle.writer.specs.Writes.{PutsFound, PutsType, PutsFoundMembers, PutsMembers}

-- ---- as many members as the row says

unfoldable Many : ℕ → Found Members → Type 0
Many k (found ms r p) = member_count_of ms ≡ k
Many k bad = Unit {0}

module _ (rd : Walk Datatype) (table pool : List ℕ) where
  many_cons : (k : ℕ) (b : List ℕ) (o : ℕ) (t : Datatype) (y : Found Members) → Many k y → Many (suc k) (and_then y (λ ms r p. found (member b o t ms) r p))
  unfolding Many and_then member_count_of
  many_cons k b o t (found l r p) h = ap suc h
  many_cons k b o t bad h = tt

  many-type : (k : ℕ) (b : List ℕ) (o : ℕ) (y : Found Datatype) → ((r p : ℕ) → Many k (members_at rd table pool k r p))
      → Many (suc k) (and_then y (λ t r₁ p₁. and_then (members_at rd table pool k r₁ p₁) (λ ms r₂ p₂. found (member b o t ms) r₂ p₂)))
  unfolding and_then
  many-type k b o (found t r p) h = many_cons k b o t (members_at rd table pool k r p) (h r p)
  many-type k b o bad h = unfold Many in tt

  many-entry : (k r p : ℕ) (m : Option Member) → ((r p : ℕ) → Many k (members_at rd table pool k r p)) → Many (suc k) (from_member rd (members_at rd table pool k) pool r p m)
  unfolding from_member
  many-entry k r p (Some m) h = many-type k _ m.number (rd (suc r) (p + m.name)) h
  many-entry k r p None h = unfold Many in tt

  many-members : (k r p : ℕ) → Many k (members_at rd table pool k r p)
  many-members zero r p = unfold Many members_at member_count_of in refl
  many-members (suc k) r p = rw (members_at-entry table pool k r p rd) (many-entry k r p (member_at_of table pool r p) (many-members k))

  pub member-count : (k r p : ℕ) {ms : Members} {r' p' : ℕ} → members_at rd table pool k r p ≡ found ms r' p' → member_count_of ms ≡ k
  unfolding Many
  member-count k r p e = rw e at (many-members k r p)

  -- ---- one member

  module _ (r p : ℕ) where
    members_as : (k : ℕ) {m : Option Member} {u : Member} → 0 < k → m ≡ member_at_of table pool r p → m ≡ Some u
        → members_at rd table pool k r p ≡ and_then (rd (r + 1) (p + u.name)) (λ t r₁ p₁. and_then (members_at rd table pool (k - 1) r₁ p₁) (λ ms r₂ p₂. found (member (take u.name (drop p pool)) u.number t ms) r₂ p₂))
    unfolding from_member
    members_as (suc k) h q e =
        let j : suc k - 1 ≡ k = omega arith in
        members_at-entry table pool k r p rd ∙ ap (from_member rd (members_at rd table pool k) pool r p) (sym q ∙ e) ∙ rw (j, add-one)
    members_as zero h q e = absurd (omega arith)

    members-none : (k : ℕ) {m : Option Member} → 0 < k → m ≡ member_at_of table pool r p → m ≡ None → members_at rd table pool k r p ≡ bad
    unfolding from_member
    members-none (suc k) h q e = members_at-entry table pool k r p rd ∙ ap (from_member rd (members_at rd table pool k) pool r p) (sym q ∙ e)
    members-none zero h q e = absurd (omega arith)

-- what is ensured of a type, or of members, that are found
pub found-puts : {e at : ℕ} {t : Datatype} {r p : ℕ} {x : Option Written} {out out' : List ℕ} → PutsType e at (found t r p) x out out' → storable t ≡ true → carried e t ≡ true
    → Stands (message e t) r p at x out out'
unfolding PutsFound
found-puts h = h.puts

pub found-members : {e n at : ℕ} {ms : Members} {r p : ℕ} {x : Option Written} {out out' : List ℕ} → PutsMembers e n at (found ms r p) x out out' → storable_members n ms ≡ true → carried_members e ms ≡ true
    → Stands (member_bytes e n ms) r p at x out out'
unfolding PutsFoundMembers
found-members h = h.puts

-- what stands before a member's message
abbrev pub head_bytes : (edition size : ℕ) (name : List ℕ) (offset : ℕ) → List ℕ
head_bytes e s b o = name_bytes e b ++ (little_endian (offset_width e s) o ++ zeros (skipped_bytes_of e))

module _ (e s : ℕ) (b : List ℕ) (o : ℕ) (t : Datatype) (ms : Members) where
  member_is : member_bytes e s (member b o t ms) ≡ head_bytes e s b o ++ (message e t ++ member_bytes e s ms)
  unfolding member_bytes
  member_is = simp append_assoc

  first-storable : storable_members s (member b o t ms) ≡ true → (storable t ≡ true) × (storable_members s ms ≡ true)
  unfolding storable_members Facts
  first-storable h = let f = all_facts _ h in (f.1.1.1.0, f.1.1.1.1.0)

  first-carried : carried_members e (member b o t ms) ≡ true → (carried e t ≡ true) × (carried_members e ms ≡ true)
  unfolding carried_members
  first-carried h = and_both (carried e t) (carried_members e ms) h

module _ (e s a o : ℕ) (b out : List ℕ) {y : Option ℕ} {out₁ : List ℕ} (h : Places (head_bytes e s b o) a y out out₁) where
  -- no room for what stands before the message
  head-lost : y ≡ None → (x : Found Datatype) (rest : Walk Members) (out' : List ℕ)
      → PutsFoundMembers e s a (and_then x (λ t r₁ p₁. and_then (rest r₁ p₁) (λ ms r₂ p₂. found (member b o t ms) r₂ p₂))) None out out'
  unfolding and_then
  head-lost f (found t r p) rest out' = go (rest r p)
    where
      go : (z : Found Members) → PutsFoundMembers e s a (and_then z (λ ms r₂ p₂. found (member b o t ms) r₂ p₂)) None out out'
      go (found ms r₂ p₂) = unfold PutsFoundMembers and_then in λ g k. rw (member_is e s b o t ms) (lost-behind (head_bytes e s b o) _ r₂ p₂ a out h f)
      go bad = unfold PutsFoundMembers and_then in tt
  head-lost f bad rest out' = unfold PutsFoundMembers in tt

  module _ {d : ℕ} (f : y ≡ Some d) where
    -- no room for the message
    type-lost : (x : Found Datatype) {z : Option Written} {out₂ : List ℕ} → PutsType e d x z out₁ out₂ → z ≡ None → (rest : Walk Members) (out' : List ℕ)
        → PutsFoundMembers e s a (and_then x (λ t r₁ p₁. and_then (rest r₁ p₁) (λ ms r₂ p₂. found (member b o t ms) r₂ p₂))) None out out'
    unfolding and_then
    type-lost (found t r p) {z = z} {out₂ = out₂} k l rest out' = go (rest r p)
      where
        go : (w : Found Members) → PutsFoundMembers e s a (and_then w (λ ms r₂ p₂. found (member b o t ms) r₂ p₂)) None out out'
        go (found ms r₂ p₂) =
            unfold PutsFoundMembers and_then in λ g c.
            let n : Stands (message e t) r p d z out₁ out₂ = found-puts k (first-storable e s b o t ms g).0 (first-carried e s b o t ms c).0 in
            let v : Places (message e t) d None out₁ out' = unplaced n l in
            let m : Stands (message e t ++ member_bytes e s ms) r₂ p₂ d None out₁ out' = lost-behind (message e t) (member_bytes e s ms) r₂ p₂ d out₁ v refl in
            rw (member_is e s b o t ms) (stands-behind (head_bytes e s b o) _ r₂ p₂ a out h f m)
        go bad = unfold PutsFoundMembers and_then in tt
    type-lost bad k l rest out' = unfold PutsFoundMembers in tt

    -- the message stands, and the others behind it
    type_put : (x : Found Datatype) {z : Option Written} {out₂ : List ℕ} {w : Written} → PutsType e d x z out₁ out₂ → z ≡ Some w → (rest : Walk Members) (u : Option Written) (out' : List ℕ)
        → PutsMembers e s w.at (rest w.row w.place) u out₂ out'
        → PutsFoundMembers e s a (and_then x (λ t r₁ p₁. and_then (rest r₁ p₁) (λ ms r₂ p₂. found (member b o t ms) r₂ p₂))) u out out'
    unfolding and_then
    type_put (found t r p) {z = z} {out₂ = out₂} {w = w} k l rest u out' v = go (rest r p) refl
      where
        go : (y : Found Members) → rest r p ≡ y → PutsFoundMembers e s a (and_then y (λ ms r₂ p₂. found (member b o t ms) r₂ p₂)) u out out'
        go (found ms r₂ p₂) q =
            unfold PutsFoundMembers and_then in λ g c.
            let n : Stands (message e t) r p d z out₁ out₂ = found-puts k (first-storable e s b o t ms g).0 (first-carried e s b o t ms c).0 in
            let m : Stands (message e t ++ member_bytes e s ms) r₂ p₂ d u out₁ out' =
            where_fits λ fit.
            let i : w ≡ record { row = r; place = p; at = d + length (message e t) } = row-known n l (omega (arith, length-append (message e t) (member_bytes e s ms))) in
            let j : PutsMembers e s (d + length (message e t)) (found ms r₂ p₂) u out₂ out' = rw (i, q) at v in
            stands-behind (message e t) (member_bytes e s ms) r₂ p₂ d out₁ (rw i at (placed n l)) refl (found-members j (first-storable e s b o t ms g).1 (first-carried e s b o t ms c).1)
            in
            rw (member_is e s b o t ms) (stands-behind (head_bytes e s b o) _ r₂ p₂ a out h f m)
        go bad q = unfold PutsFoundMembers and_then in tt
    type_put bad k l rest u out' v = unfold PutsFoundMembers in tt

-- a member whose row is read again: nothing is said where the row is unknown
known-members : (rd : Walk Datatype) (table pool : List ℕ) (e s a k r p : ℕ) (x : Option Written) (out out' : List ℕ) {m : Option Member} → 0 < k → IfKnown (member_at_of table pool r p) m
    → (m ≡ member_at_of table pool r p → PutsMembers e s a (members_at rd table pool k r p) x out out') → PutsMembers e s a (members_at rd table pool k r p) x out out'
known-members rd table pool e s a (suc k) r p x out out' {m = m} h i c =
    claim_of-members table pool r p (λ y. PutsMembers e s a y x out out') (record { puts = unfold PutsFoundMembers in tt }) rd k m i (λ q. rw (members_at-entry table pool k r p rd, ← q) at (c q))
known-members rd table pool e s a zero r p x out out' h i c = absurd (omega arith)

-- ---- the loop

-- i members are stored, and the others are those from `end` on
pub record MembersLeft (rd : Walk Datatype) (table pool : List ℕ) (e s count row place at : ℕ) (out₀ : List ℕ) (i : ℕ) (end : Written) (out : List ℕ) : Type 0 where
  pub long : length out ≡ length out₀
  pub rest : (x : Option Written) (out' : List ℕ) → PutsMembers e s end.at (members_at rd table pool (count - i) end.row end.place) x out out' → PutsMembers e s at (members_at rd table pool count row place) x out₀ out'

module _ {rd : Walk Datatype} {table pool : List ℕ} {e s count row place at : ℕ} {out₀ : List ℕ} where
  pub members-begun : MembersLeft rd table pool e s count row place at out₀ 0 (record { row = row; place = place; at = at }) out₀
  members-begun = record { long = refl; rest = λ x o h. rw sub-zero at h }

  module _ {j : ℕ} {end : Written} {out : List ℕ} (i : MembersLeft rd table pool e s count row place at out₀ j end out) where
    abbrev r : ℕ
    r = end.row

    abbrev p : ℕ
    p = end.place

    abbrev a : ℕ
    a = end.at

    pub members-ended : count ≤ j → PutsMembers e s at (members_at rd table pool count row place) (Some end) out₀ out
    members-ended h =
        let z : count - j ≡ 0 = omega arith in
        i.rest _ out (rw z (record { puts = unfold PutsFoundMembers members_at member_bytes in λ g c. stands [] r p a none-placed refl }))

    module _ (more : j < count) {m : Option Member} (h : IfKnown (member_at_of table pool r p) m) where
      known : (x : Option Written) (out' : List ℕ) → (m ≡ member_at_of table pool r p → PutsMembers e s a (members_at rd table pool (count - j) r p) x out out') → PutsMembers e s at (members_at rd table pool count row place) x out₀ out'
      known x out' c = i.rest x out' (known-members rd table pool e s a (count - j) r p x out out' (omega arith) h c)

      pub members_unnamed : m ≡ None → PutsMembers e s at (members_at rd table pool count row place) None out₀ out
      members_unnamed f = known None out (λ q. rw (members-none rd table pool r p (count - j) (omega arith) q f) (record { puts = unfold PutsFoundMembers in tt }))

      module _ {w : Member} (f : m ≡ Some w) {y : Option ℕ} {out₁ : List ℕ} (g : PlacesFrom pool p w.name (head_bytes e s (take w.name (drop p pool)) w.number) a y out out₁) where
        pub members-full : MemberInside m (length table) (length pool) r p → y ≡ None → PutsMembers e s at (members_at rd table pool count row place) None out₀ out₁
        members-full d l =
            let b = named-inside (length table) (length pool) r p f d in
            known None out₁ (λ q. rw (members_as rd table pool r p (count - j) (omega arith) q f) (record { puts = head-lost e s a w.number (take w.name (drop p pool)) out (g.places (omega (arith, b.1))) l (rd (r + 1) (p + w.name)) (members_at rd table pool (count - j - 1)) out₁ }))

        module _ {d : ℕ} (v : y ≡ Some d) {z : Option Written} {out₂ : List ℕ} (t : PutsType e d (rd (r + 1) (p + w.name)) z out₁ out₂) where
          pub members-lost : z ≡ None → PutsMembers e s at (members_at rd table pool count row place) None out₀ out₂
          members-lost l = known None out₂ (λ q. rw (members_as rd table pool r p (count - j) (omega arith) q f) (record { puts = type-lost e s a w.number (take w.name (drop p pool)) out (g.places (g.inside _ v)) v (rd (r + 1) (p + w.name)) t l (members_at rd table pool (count - j - 1)) out₂ }))

          pub members-next : {c : Written} → z ≡ Some c → length out₁ ≡ length out → length out₂ ≡ length out₁
              → MembersLeft rd table pool e s count row place at out₀ (j + 1) c out₂
          members-next l b g₂ =
              let k : count - (j + 1) ≡ count - j - 1 = omega arith in
              record {
                long = g₂ ∙ b ∙ i.long;
                rest = λ x o' u. known x o' (λ q. rw (members_as rd table pool r p (count - j) (omega arith) q f) (record { puts = type_put e s a w.number (take w.name (drop p pool)) out (g.places (g.inside _ v)) v (rd (r + 1) (p + w.name)) t l (members_at rd table pool (count - j - 1)) x o' (rw k at u) }));
              }
