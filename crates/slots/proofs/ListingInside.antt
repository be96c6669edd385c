-- The second walk over the members of a compound: what is listed from each on.
use Rattle.std.proofs.Common.{◌≡◌, ℕ, suc, ◌+◌, ◌-◌, ◌<◌, ◌≤◌, Bool, false, ◌||◌, List, ◌++◌, length, refl, ◌∙◌, add-one, arith}
use Rattle.format.specs.Datatype.{Datatype, Members, member}
use Rattle.format.specs.Slots.{shifted, slots, member_slots, holds_other_reference, member_holds_other_reference, holds_hidden_reference, member_holds_hidden_reference, first_zero, member_first_zero}
use Rattle.format.specs.Table.{Found, found, bad, Walk, and_then, type_at, members_at}
use Rattle.format.proofs.Booleans.{or_neither}
use Rattle.format.proofs.Slots.{or_else_none}
use Rattle.format.proofs.TableSteps.{then_found}
use Rattle.std.specs.Prelude.{Option, Some, None}
use Rattle.rows.specs.Entries.{from_member, RowNames}
use Rattle.rows.specs.declared.Member.{Member}
use Rattle.rows.proofs.Known.{claim_of-members}
use Rattle.table.specs.Known.{PassesTo}
use Rattle.table.proofs.Passing.{passes-start, passes_end, passes_unnamed, passes-next}
use Rattle.slots.specs.Slots.{Fits, Listed, Listable, ListableIn, PutAs, PutIn, PutAt, PutInside}
use Rattle.slots.specs.declared.Put.{Put}
use Rattle.slots.proofs.Shifting.{shifted_append, shifted_twice, fits-first, fits-second, listed_both, listed-none}

-- what is listed from here on completes what the start asks for
pub record Puts (levels : ℕ) (table pool : List ℕ) (row count base : ℕ) (out₀ : List ℕ) (at₀ r left : ℕ) (out : List ℕ) (at : ℕ) : Type 0 where
  pub same : length out ≡ length out₀
  pub goes : (x : Put) (out' : List ℕ) → PutInside levels table pool r left base out at x out' → PutInside levels table pool row count base out₀ at₀ x out'

pub members-start : (levels : ℕ) (table pool : List ℕ) (row count base : ℕ) (out : List ℕ) (at : ℕ) → Puts levels table pool row count base out at row count out at
members-start levels table pool row count base out at = record { same = refl; goes = λ x out' h. h }

first_listable : (name : List ℕ) (o : ℕ) (t : Datatype) (ms : Members) → ListableIn (member name o t ms) → Listable t × ListableIn ms
unfolding member_first_zero member_holds_other_reference member_holds_hidden_reference
first_listable name o t ms l =
    let z = or_else_none (first_zero t) (member_first_zero ms) l.sized in
    let m = or_neither (holds_other_reference t || member_holds_other_reference ms) (holds_hidden_reference t || member_holds_hidden_reference ms) l.mapped in
    let u = or_neither (holds_other_reference t) (member_holds_other_reference ms) m.0 in
    let v = or_neither (holds_hidden_reference t) (member_holds_hidden_reference ms) m.1 in
    (record { sized = z.0; mapped = neither (holds_other_reference t) (holds_hidden_reference t) u.0 v.0 }, record { sized = z.1; mapped = neither (member_holds_other_reference ms) (member_holds_hidden_reference ms) u.1 v.1 })
  where
    neither : (a b : Bool) → a ≡ false → b ≡ false → (a || b) ≡ false
    neither a b h k = rw (h, k)

member-slots : (name : List ℕ) (base o : ℕ) (t : Datatype) (ms : Members) → shifted base (member_slots (member name o t ms)) ≡ shifted (base + o) (slots t) ++ shifted base (member_slots ms)
unfolding member_slots
member-slots name base o t ms = shifted_append base (shifted o (slots t)) (member_slots ms) ∙ rw (shifted_twice base o (slots t))

module _ (name : List ℕ) (o base : ℕ) (rest : Walk Members) (b : Put) (out : List ℕ) (at : ℕ) (out₁ : List ℕ) (y : ℕ) (out₂ : List ℕ) where
  put-behind : (t : Datatype) → (Listable t → Fits (shifted (base + o) (slots t)) out at → Listed (shifted (base + o) (slots t)) out at b.next out₁)
      → (m : Found Members) → PutIn m base out₁ b.next y out₂ → PutIn (and_then m (λ ms r₂ p₂. found (member name o t ms) r₂ p₂)) base out at y out₂
  unfolding and_then PutIn
  put-behind t v (found ms r p) w = λ l f.
      let e = member-slots name base o t ms in
      let k = first_listable name o t ms l in
      let g : Fits (shifted (base + o) (slots t) ++ shifted base (member_slots ms)) out at = rw e at f in
      let a = v k.0 (fits-first _ _ out at g) in
      let c = w k.1 (fits-second _ _ out at g a) in
      rw e (listed_both _ _ out at b.next y out₁ out₂ a c)
  put-behind t v bad w = tt

  put_next : (z : Found Datatype) → PassesTo z b.row → PutAs z (base + o) out at b.next out₁ → ((p : ℕ) → PutIn (rest b.row p) base out₁ b.next y out₂)
      → PutIn (and_then z (λ t r₁ p₁. and_then (rest r₁ p₁) (λ ms r₂ p₂. found (member name o t ms) r₂ p₂))) base out at y out₂
  unfolding PassesTo PutAs
  put_next (found t r p) g v w = rw (then_found t _ r p) (put-behind t v (rest r p) (rw g at (w p)))
  put_next bad g v w = unfold and_then PutIn in tt

module _ (levels : ℕ) (table pool : List ℕ) (r left base : ℕ) (out : List ℕ) (at : ℕ) {row count : ℕ} {out₀ : List ℕ} {at₀ : ℕ} (inv : Puts levels table pool row count base out₀ at₀ r left out at) where
  pub members_end : left ≤ 0 → PutInside levels table pool row count base out₀ at₀ (record { row = r; next = at }) out
  unfolding members_at PutIn member_slots shifted
  members_end l =
      let k : left ≡ 0 = omega arith in
      inv.goes _ out (record { passes = passes_end levels table r left r left (passes-start levels table r left) l; lists = λ p. rw k (λ m f. listed-none out at) })

  module _ {m : Option Member} (some_left : 0 < left) (s : RowNames table r m) where
    lists-from : (x : ℕ) (out' : List ℕ) {f : Option Member} → m ≡ f → (p : ℕ)
        → PutIn (from_member (type_at levels table pool) (members_at (type_at levels table pool) table pool (left - 1)) pool r p f) base out at x out' → PutIn (members_at (type_at levels table pool) table pool left r p) base out at x out'
    lists-from x out' h p v =
        let j : left ≡ suc (left - 1) = omega arith in
        rw j (claim_of-members table pool r p (λ (w : Found Members). PutIn w base out at x out') (unfold PutIn in tt) (type_at levels table pool) (left - 1) m (s.is pool p) (λ q. rw h v))

    pub members_unnamed : m ≡ None → PutInside levels table pool row count base out₀ at₀ (record { row = r; next = at }) out
    members_unnamed h =
        inv.goes _ out (record {
          passes = passes_unnamed levels table r left r left (passes-start levels table r left) some_left s r h;
          lists = λ p. lists-from at out h p (unfold from_member PutIn in tt);
        })

    pub members-next : (out₁ : List ℕ) {f : Member} {b : Put} {offset rest : ℕ} → m ≡ Some f → offset ≡ f.number → PutAt levels table pool (r + 1) (base + offset) out at b out₁ → length out₁ ≡ length out → rest ≡ left - 1
        → Puts levels table pool row count base out₀ at₀ b.row rest out₁ b.next
    members-next out₁ {f = f} {b = b} h j v e hr =
        rw hr (record {
          same = e ∙ inv.same;
          goes = λ x out₂ w.
              inv.goes x out₂ (record {
                passes = (passes-next levels table r left r left (passes-start levels table r left) some_left s h v.passes refl).on x.row w.passes;
                lists = λ p. lists-from x.next out₂ h p (unfold from_member in put_next _ f.number base (members_at (type_at levels table pool) table pool (left - 1)) b out at out₁ x.next out₂ _ (rw (add-one r) at (v.passes.passes pool (p + f.name))) (rw (add-one r, j) at (v.lists (p + f.name))) (λ p₁. w.lists p₁));
              });
        })
