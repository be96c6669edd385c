-- The first walk: what it counts of a type, one law for each way out of it.
use Rattle.std.proofs.Common.{◌≡◌, ℕ, suc, ◌+◌, ◌-◌, ◌*◌, ◌<◌, ◌≤◌, min, max, Bool, true, false, cond, not, ◌&&◌, ◌||◌, eqb, ltb, List, sym, refl, ap, ◌∙◌, one-mul, mul-zero, add-one, arith, ltb-false}
use mathlib.Core.Bool.{or-false, or-true}
use mathlib.Core.Option.{none}
use Rattle.format.specs.Datatype.{Datatype, leaf, compound, enumeration, variable_length, array, EnumMember, Members, no_members, member, product, type_size_of}
use Rattle.format.specs.Sizes.{holds_object_address, member_holds_object_address}
use Rattle.format.specs.Slots.{is_slot, slot_count, member_slot_count, moved_end_of, slot_end_of, member_slot_end, holds_other_reference, member_holds_other_reference, holds_hidden_reference, member_holds_hidden_reference, first_zero, member_first_zero}
use Rattle.format.specs.Table.{Found, found, bad, Walk, and_then, type_at, members_at, enum_names_at, enum_values_at}
use Rattle.format.proofs.Booleans.{or_neither}
use Rattle.format.proofs.Slots.{refers-within, first-zero-size, or_else_none, no_slot_no_reference}
use Rattle.format.proofs.TableSteps.{then_found}
use Rattle.std.specs.Prelude.{Option, Some, None}
use Rattle.rows.specs.Entries.{entry_at, leaf_type, from_entry, from_member, RowSays, RowNames}
use Rattle.rows.specs.declared.Entry.{Entry}
use Rattle.rows.specs.declared.Entry.TheVariants.{Leaf, Compound, Enumeration, VariableLength, Array}
use Rattle.rows.specs.declared.Member.{Member}
use Rattle.rows.proofs.Known.{claim_of-members}
use Rattle.rows.proofs.Leaves.{leaf_law}
use Rattle.table.specs.Known.{PassesTo, PassesType, PassesMembers, PassesNames, TotalAt, SizedTo, SizedAt}
use Rattle.table.specs.Path.{top_of, Entered}
use Rattle.table.specs.declared.path.Path.{Path}
use Rattle.table.proofs.Passing.{passes_none, passes_unknown, passes-leaf, passes-compound, passes-enumeration, passes-variable_length, passes-array, passes-start, passes_end, passes_unnamed, passes-next}
use Rattle.slots.specs.Slots.{most_slots, most_end, leaf_tally_of, hidden_tally_of, entries_tally_of, Counted, CountedAs, CountedIn, TallyAt, TallyIn}
use Rattle.slots.specs.declared.Tally.{Tally}
use Rattle.slots.proofs.Numbers.{times_stop, last-stops, sums_stop, moved-stops, ends_stop}
use Rattle.slots.proofs.Rows.{above, below, by_row}

-- ---- a leaf

module _ (table pool : List ℕ) (r p : ℕ) where
  -- what a leaf's row says of its type
  leaf-told : {k n l x : ℕ} → Some (Leaf k n l x) ≡ entry_at table pool r p → (row : ℕ) → CountedAs (found (leaf_type table pool r p k) (suc r) (p + l)) (leaf_tally_of k n x row)
  unfolding CountedAs leaf_tally_of holds_other_reference holds_hidden_reference slot_count slot_end_of
  leaf-told {k = k} {n = n} {x = x} q row =
      let h = leaf_law table pool r p q refl refl in
      rw h.is (λ z. rw (h.refers_by, h.refers_by) (one-slot (eqb k 7 && not (is_slot n x)) (eqb k 7 && is_slot n x)))
    where
      one-slot : (u b : Bool) → Counted (u || false) (cond b 1 0) (cond b 8 0) (record { row = row; unmapped = u; count = cond b 1 0; end = cond b 8 0 })
      one-slot u true = record { unmapped-is = sym (or-false u); count-is = refl; end_is = refl }
      one-slot u false = record { unmapped-is = sym (or-false u); count-is = refl; end_is = refl }

-- ---- a type below which no slot is

-- a type without a reference has none of any sort
record Bare (other hidden : Bool) (count : ℕ) : Type 0 where
  no_other : other ≡ false
  no_hidden : hidden ≡ false
  no_count : count ≡ 0

mutual
  unfolding holds_object_address holds_other_reference holds_hidden_reference slot_count

  bare : (t : Datatype) → holds_object_address t ≡ false → Bare (holds_other_reference t) (holds_hidden_reference t) (slot_count t)
  bare (leaf n x) h = record { no_other = rw (refers-within (λ k. not (is_slot n k)) x, h); no_hidden = refl; no_count = rw (refers-within (is_slot n) x, h) }
  bare (compound n ms) h = bare-members ms h
  bare (enumeration n t ms) h = record { no_other = (bare t h).no_other; no_hidden = h; no_count = refl }
  bare (variable_length i a d t) h = record { no_other = (bare t h).no_other; no_hidden = h; no_count = refl }
  bare (array ds t) h = let w = bare t h in record { no_other = w.no_other; no_hidden = w.no_hidden; no_count = rw w.no_count (mul-zero (product ds)) }

  bare-members : (ms : Members) → member_holds_object_address ms ≡ false → Bare (member_holds_other_reference ms) (member_holds_hidden_reference ms) (member_slot_count ms)
  bare-members no_members h = record { no_other = refl; no_hidden = refl; no_count = refl }
  bare-members (member b o t ms) h =
      let u = or_neither (holds_object_address t) (member_holds_object_address ms) h in
      let v = bare t u.0 in
      let w = bare-members ms u.1 in
      record { no_other = rw (v.no_other, w.no_other); no_hidden = rw (v.no_hidden, w.no_hidden); no_count = rw (v.no_count, w.no_count) }

-- so a type holds a reference if one is unmapped or there is a slot
held-counted : (t : Datatype) → first_zero t ≡ none → (holds_other_reference t || holds_object_address t) ≡ ((holds_other_reference t || holds_hidden_reference t) || ltb 0 (most_slots (slot_count t)))
held-counted t z = go (holds_object_address t) refl
  where
    counted : (b : Bool) → ((holds_other_reference t || holds_hidden_reference t) || ltb 0 (most_slots (slot_count t))) ≡ b → holds_object_address t ≡ true → true ≡ b
    counted true e h = refl
    counted false e h =
        let u = or_neither (holds_other_reference t || holds_hidden_reference t) _ e in
        let v = or_neither (holds_other_reference t) (holds_hidden_reference t) u.0 in
        sym h ∙ no_slot_no_reference t z v.0 v.1 (omega (arith, ltb-false 0 (most_slots (slot_count t)) u.1))

    go : (b : Bool) → holds_object_address t ≡ b → (holds_other_reference t || b) ≡ ((holds_other_reference t || holds_hidden_reference t) || ltb 0 (most_slots (slot_count t)))
    go true h = or-true (holds_other_reference t) ∙ counted _ refl h
    go false h = let w = bare t h in rw (w.no_other, w.no_hidden, w.no_count)

-- what is told of a base is told of what holds it
abbrev Base : Datatype → Tally → Type 0
Base t b = first_zero t ≡ none → Counted (holds_other_reference t || holds_hidden_reference t) (slot_count t) (slot_end_of t) b

hidden_as : (r : ℕ) (b : Tally) (t : Datatype) → Base t b → first_zero t ≡ none → Counted (holds_other_reference t || holds_object_address t) 0 0 (hidden_tally_of r b)
unfolding hidden_tally_of
hidden_as r b t h z = let c = h z in record { unmapped-is = rw (c.unmapped-is, c.count-is) (sym (held-counted t z)); count-is = refl; end_is = refl }

variable_counted : (r i a d : ℕ) (b : Tally) (x : Found Datatype) → CountedAs x b → CountedAs (and_then x (λ t r' p'. found (variable_length i a d t) r' p')) (hidden_tally_of r b)
unfolding CountedAs and_then first_zero holds_other_reference holds_hidden_reference slot_count slot_end_of
variable_counted r i a d b (found t r' p') h = λ z. hidden_as r b t h z
variable_counted r i a d b bad h = tt

module _ (table pool : List ℕ) (r n k : ℕ) (b : Tally) where
  enumeration_as : (t : Datatype) → Base t b → (y : Found (List EnumMember)) → CountedAs (and_then y (λ ms r₃ p₃. found (enumeration n t ms) r₃ p₃)) (hidden_tally_of r b)
  unfolding CountedAs and_then first_zero holds_other_reference holds_hidden_reference slot_count slot_end_of
  enumeration_as t h (found ms r₃ p₃) = λ z. hidden_as r b t h (or_else_none _ _ z).1
  enumeration_as t h bad = tt

  names_as : (t : Datatype) → Base t b → (y : Found (List (List ℕ × ℕ)))
      → CountedAs (and_then y (λ ns r₂ p₂. and_then (enum_values_at pool ns r₂ p₂) (λ ms r₃ p₃. found (enumeration n t ms) r₃ p₃))) (hidden_tally_of r b)
  names_as t h (found ns r₂ p₂) = unfold and_then in enumeration_as t h (enum_values_at pool ns r₂ p₂)
  names_as t h bad = unfold and_then CountedAs in tt

  enumeration-counted : (x : Found Datatype) → CountedAs x b
      → CountedAs (and_then x (λ t r₁ p₁. and_then (enum_names_at table pool k r₁ p₁) (λ ns r₂ p₂. and_then (enum_values_at pool ns r₂ p₂) (λ ms r₃ p₃. found (enumeration n t ms) r₃ p₃)))) (hidden_tally_of r b)
  unfolding CountedAs and_then
  enumeration-counted (found t r₁ p₁) h = names_as t h (enum_names_at table pool k r₁ p₁)
  enumeration-counted bad h = tt

array-counted : (ds : List ℕ) (b : Tally) (stride : ℕ) {n : ℕ} (x : Found Datatype) → CountedAs x b → SizedTo x stride → n ≡ min (1 * product ds) 4294967296
    → CountedAs (and_then x (λ t r p. found (array ds t) r p)) (entries_tally_of stride n b)
unfolding CountedAs SizedTo and_then first_zero entries_tally_of holds_other_reference holds_hidden_reference slot_count slot_end_of
array-counted ds b stride {n = n} (found t r p) h s i = λ z.
    let w = (or_else_none _ _ z).1 in
    let c = h w in
    let j : n ≡ min (product ds) 4294967296 = i ∙ ap (λ (k : ℕ). min k 4294967296) (one-mul (product ds)) in
    record {
      unmapped-is = c.unmapped-is;
      count-is = rw (j, c.count-is) (times_stop (product ds) (slot_count t));
      end_is = rw (j, s, c.end_is) (last-stops (type_size_of t) (slot_end_of t) (product ds) (first-zero-size t w));
    }
array-counted ds b stride bad h s i = tt

-- ---- by the row

module _ (table pool : List ℕ) (depth row : ℕ) {e : Option Entry} (shallow : depth ≤ 32) (s : RowSays table row e) where
  counts_by : (x : Tally) {f : Option Entry} → e ≡ f → ((p : ℕ) → f ≡ entry_at table pool row p → CountedAs (from_entry (type_at (32 - depth) table pool) table pool row p f) x) → (p : ℕ)
      → CountedAs (type_at (33 - depth) table pool row p) x
  counts_by x i v p = by_row table pool depth row shallow s (λ (y : Found Datatype). CountedAs y x) (unfold CountedAs in tt) p i (v p)

  deep : 33 - depth ≡ 0 → ⊥
  deep = above depth shallow

  pub type_unknown : (x : Tally) → e ≡ None → TallyAt (33 - depth) table pool row x
  type_unknown x i = record { passes = passes_unknown table row (33 - depth) deep s x.row i; counts = counts_by x i (λ p q. unfold from_entry CountedAs in tt) }

  pub type-leaf : {k n l code : ℕ} {x : Tally} {f : Entry} → e ≡ Some f → f ≡ Leaf k n l code → x ≡ leaf_tally_of k n code (row + 1) → TallyAt (33 - depth) table pool row x
  type-leaf i h j =
      rw j (record {
        passes = unfold leaf_tally_of in passes-leaf table row (33 - depth) deep s i h;
        counts = counts_by _ (i ∙ ap Some h) (λ p q. unfold from_entry in leaf-told table pool row p q (row + 1));
      })

  pub type-compound : {n k : ℕ} {x : Tally} {f : Entry} → e ≡ Some f → f ≡ Compound n k → TallyIn (32 - depth) table pool (row + 1) k x → TallyAt (33 - depth) table pool row x
  unfolding from_entry
  type-compound {n = n} {x = x} i h v =
      record {
        passes = passes-compound table row (33 - depth) deep s i h (rw (below depth) v.passes);
        counts = counts_by x (i ∙ ap Some h) (λ p q. go _ (rw (add-one row) at (v.counts p)));
      }
    where
      go : (y : Found Members) → CountedIn y x → CountedAs (and_then y (λ ms r' p'. found (compound n ms) r' p')) x
      go (found ms r p) h = unfold CountedAs CountedIn and_then first_zero slot_count slot_end_of holds_other_reference holds_hidden_reference in λ z. h (or_else_none _ _ z).1
      go bad h = unfold CountedAs and_then in tt

  module _ {b : Tally} (v : TallyAt (32 - depth) table pool (row + 1) b) where
    base-passes : PassesType (33 - depth - 1) table (row + 1) b.row
    base-passes = rw (below depth) v.passes

    base-counts : (p : ℕ) → CountedAs (type_at (32 - depth) table pool (suc row) p) b
    base-counts p = rw (add-one row) at (v.counts p)

    pub type-enumeration : {n k r : ℕ} {x : Tally} {f : Entry} → e ≡ Some f → f ≡ Enumeration n k → PassesNames table b.row k r → x ≡ hidden_tally_of r b → TallyAt (33 - depth) table pool row x
    type-enumeration {n = n} {k = k} {r = r} i h w j =
        rw j (record {
          passes = unfold hidden_tally_of in passes-enumeration table row (33 - depth) deep s i h base-passes w;
          counts = counts_by _ (i ∙ ap Some h) (λ p q. unfold from_entry in enumeration-counted table pool r n k b _ (base-counts p));
        })

    pub type-variable_length : {a c d : ℕ} {x : Tally} {f : Entry} → e ≡ Some f → f ≡ VariableLength a c d → x ≡ hidden_tally_of b.row b → TallyAt (33 - depth) table pool row x
    type-variable_length {a = a} {c = c} {d = d} i h j =
        rw j (record {
          passes = unfold hidden_tally_of in passes-variable_length table row (33 - depth) deep s i h base-passes;
          counts = counts_by _ (i ∙ ap Some h) (λ p q. unfold from_entry in variable_counted b.row a c d b _ (base-counts p));
        })

    pub type-array : {k stride n : ℕ} {x : Tally} {f : Entry} → e ≡ Some f → f ≡ Array k → SizedAt (32 - depth) table pool (row + 1) stride → TotalAt table pool row k 1 n → x ≡ entries_tally_of stride n b → TallyAt (33 - depth) table pool row x
    type-array {k = k} i h z t j =
        rw j (record {
          passes = unfold entries_tally_of in passes-array table row (33 - depth) deep s i h base-passes;
          counts = counts_by _ (i ∙ ap Some h) (λ p q. unfold from_entry in array-counted _ b _ _ (base-counts (p + k * 4)) (rw (add-one row) at (z.sized (p + k * 4))) (t.total p q));
        })

-- ---- a level further down

pub inner-none : (table pool : List ℕ) (depth row : ℕ) (x : Tally) → depth ≡ 32 → TallyAt (32 - depth) table pool row x
inner-none table pool depth row x h =
    let j : 32 - depth ≡ 0 = omega arith in
    record { passes = passes_none table row (32 - depth) x.row j; counts = λ p. rw j (unfold type_at CountedAs in tt) }

pub inner-leaf : (table pool : List ℕ) (depth row : ℕ) {e : Option Entry} {f : Entry} {k n l code : ℕ} {x : Tally} → depth ≤ 32 → (depth ≡ 32 → ⊥) → RowSays table row e → e ≡ Some f → f ≡ Leaf k n l code → x ≡ leaf_tally_of k n code (row + 1)
    → TallyAt (32 - depth) table pool row x
inner-leaf table pool depth row h d s i g j =
    let c : 33 - (depth + 1) ≡ 32 - depth = omega arith in
    rw c at (type-leaf table pool (depth + 1) row (omega (arith, d)) s i g j)

pub inner_type : (table pool : List ℕ) (path inner : Path) (row : ℕ) (x : Tally) → Entered path row inner → TallyAt (33 - inner.depth) table pool (top_of inner) x → TallyAt (32 - path.depth) table pool row x
inner_type table pool path inner row x e v =
    let j : 33 - inner.depth ≡ 32 - path.depth = omega (arith, e.deeper) in
    rw (j, e.top) at v

-- ---- the members of a compound

-- what a walk over the members answers that has counted so much before
unfoldable pub CountedOn : (unmapped : Bool) (count end : ℕ) → Found Members → Tally → Type 0
CountedOn u c e (found ms r p) x =
    member_first_zero ms ≡ none → Counted (u || (member_holds_other_reference ms || member_holds_hidden_reference ms)) (c + member_slot_count ms) (max e (member_slot_end ms)) x
CountedOn u c e bad x = Unit {0}

pub record TallyOn (levels : ℕ) (table pool : List ℕ) (row count : ℕ) (unmapped : Bool) (slots end : ℕ) (x : Tally) : Type 0 where
  pub passes : PassesMembers levels table row count x.row
  pub counts : (p : ℕ) → CountedOn unmapped slots end (members_at (type_at levels table pool) table pool count row p) x

-- what is answered from here on is the answer from the start
pub record Counts (levels : ℕ) (table pool : List ℕ) (row count r left : ℕ) (unmapped : Bool) (slots end : ℕ) : Type 0 where
  pub few : slots ≤ 1073741824
  pub near : end ≤ 4294967296
  pub goes : (x : Tally) → TallyOn levels table pool r left unmapped slots end x → TallyIn levels table pool row count x

pub members-start : (levels : ℕ) (table pool : List ℕ) (row count : ℕ) → Counts levels table pool row count row count false 0 0
unfolding CountedOn CountedIn
members-start levels table pool row count = record { few = omega arith; near = omega arith; goes = λ x h. record { passes = h.passes; counts = λ p. go x (members_at (type_at levels table pool) table pool count row p) (h.counts p) } }
  where
    go : (x : Tally) (y : Found Members) → CountedOn false 0 0 y x → CountedIn y x
    go x (found ms r p) h = λ z. let w = h z in record { unmapped-is = w.unmapped-is; count-is = w.count-is ∙ omega arith; end_is = w.end_is ∙ omega arith }
    go x bad h = tt

or_middle : (u a b c d : Bool) → (u || ((a || c) || (b || d))) ≡ ((u || (a || b)) || (c || d))
or_middle true a b c d = refl
or_middle false true b c d = refl
or_middle false false true true d = refl
or_middle false false true false d = refl
or_middle false false false c d = refl

module _ (u : Bool) (c e offset : ℕ) (b : Tally) {u' : Bool} {c' e' : ℕ} (hu : u' ≡ (u || b.unmapped)) (hc : c' ≡ most_slots (c + b.count)) (he : e' ≡ most_end (max e (moved_end_of offset b.end))) where
  counted-behind : (name : List ℕ) (t : Datatype) → Base t b → (x : Tally) (m : Found Members) → CountedOn u' c' e' m x
      → CountedOn u c e (and_then m (λ ms r₂ p₂. found (member name offset t ms) r₂ p₂)) x
  unfolding and_then CountedOn member_first_zero member_holds_other_reference member_holds_hidden_reference member_slot_count member_slot_end
  counted-behind name t h x (found ms r p) k = λ z.
      let v = or_else_none _ _ z in
      let f = h v.0 in
      let w = k v.1 in
      let eu : (u' || (member_holds_other_reference ms || member_holds_hidden_reference ms)) ≡ (u || ((holds_other_reference t || member_holds_other_reference ms) || (holds_hidden_reference t || member_holds_hidden_reference ms))) =
      rw (hu, f.unmapped-is) (sym (or_middle u (holds_other_reference t) (holds_hidden_reference t) (member_holds_other_reference ms) (member_holds_hidden_reference ms))) in
      let ec : most_slots (c' + member_slot_count ms) ≡ most_slots (c + (slot_count t + member_slot_count ms)) =
      ap (λ (j : ℕ). most_slots (j + member_slot_count ms)) (hc ∙ ap (λ (j : ℕ). most_slots (c + j)) f.count-is) ∙ sums_stop c (slot_count t) (member_slot_count ms) in
      let ee : most_end (max e' (member_slot_end ms)) ≡ most_end (max e (max (moved_end_of offset (slot_end_of t)) (member_slot_end ms))) =
      ap (λ (j : ℕ). most_end (max j (member_slot_end ms))) (he ∙ ap (λ (j : ℕ). most_end (max e (moved_end_of offset j))) f.end_is ∙ moved-stops e offset (slot_end_of t)) ∙ ends_stop e (moved_end_of offset (slot_end_of t)) (member_slot_end ms) in
      record { unmapped-is = w.unmapped-is ∙ eu; count-is = w.count-is ∙ ec; end_is = w.end_is ∙ ee }
  counted-behind name t h x bad k = tt

  counted_next : (name : List ℕ) (rest : Walk Members) (x : Tally) (y : Found Datatype) → CountedAs y b → PassesTo y b.row → ((p : ℕ) → CountedOn u' c' e' (rest b.row p) x)
      → CountedOn u c e (and_then y (λ t r₁ p₁. and_then (rest r₁ p₁) (λ ms r₂ p₂. found (member name offset t ms) r₂ p₂))) x
  unfolding CountedAs PassesTo
  counted_next name rest x (found t r p) h g k = rw (then_found t _ r p) (counted-behind name t h x (rest r p) (rw g at (k p)))
  counted_next name rest x bad h g k = unfold and_then CountedOn in tt

module _ (table pool : List ℕ) (levels row count r left : ℕ) (u : Bool) (c e : ℕ) (inv : Counts levels table pool row count r left u c e) where
  -- after the last
  pub members_end : left ≤ 0 → TallyIn levels table pool row count (record { row = r; unmapped = u; count = c; end = e })
  unfolding members_at CountedOn member_holds_other_reference member_holds_hidden_reference member_slot_count member_slot_end
  members_end l =
      let k : left ≡ 0 = omega arith in
      inv.goes _ (record {
        passes = passes_end levels table r left r left (passes-start levels table r left) l;
        counts = λ p. rw k (λ z. record { unmapped-is = sym (or-false u); count-is = omega (arith, inv.few); end_is = omega (arith, inv.near) });
      })

  module _ {m : Option Member} (some_left : 0 < left) (s : RowNames table r m) where
    counts-from : (x : Tally) {f : Option Member} → m ≡ f → (p : ℕ) → CountedOn u c e (from_member (type_at levels table pool) (members_at (type_at levels table pool) table pool (left - 1)) pool r p f) x
        → CountedOn u c e (members_at (type_at levels table pool) table pool left r p) x
    counts-from x h p v =
        let j : left ≡ suc (left - 1) = omega arith in
        rw j (claim_of-members table pool r p (λ (w : Found Members). CountedOn u c e w x) (unfold CountedOn in tt) (type_at levels table pool) (left - 1) m (s.is pool p) (λ q. rw h v))

    pub members_unnamed : (x : Tally) → m ≡ None → TallyIn levels table pool row count x
    members_unnamed x h =
        inv.goes x (record {
          passes = passes_unnamed levels table r left r left (passes-start levels table r left) some_left s x.row h;
          counts = λ p. counts-from x h p (unfold from_member CountedOn in tt);
        })

    pub members-next : {f : Member} {b : Tally} {c' e' rest : ℕ} → m ≡ Some f → TallyAt levels table pool (r + 1) b → c' ≡ most_slots (c + b.count) → e' ≡ most_end (max e (moved_end_of f.number b.end)) → rest ≡ left - 1
        → Counts levels table pool row count b.row rest (u || b.unmapped) c' e'
    members-next {f = f} {b = b} h v hc he hr =
        rw hr (record {
          few = omega (arith, hc);
          near = omega (arith, he);
          goes = λ x w.
              inv.goes x (record {
                passes = (passes-next levels table r left r left (passes-start levels table r left) some_left s h v.passes refl).on x.row w.passes;
                counts = λ p. counts-from x h p (unfold from_member in counted_next u c e f.number b refl hc he _ (members_at (type_at levels table pool) table pool (left - 1)) x _ (rw (add-one r) at (v.counts (p + f.name))) (rw (add-one r) at (v.passes.passes pool (p + f.name))) (λ p₁. w.counts p₁));
              });
        })
