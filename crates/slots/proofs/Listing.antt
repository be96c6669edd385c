-- The second walk: what it lists of a type, one law for each way out of it.
use Rattle.std.proofs.Common.{◌≡◌, ℕ, zero, suc, ◌+◌, ◌-◌, ◌*◌, ◌<◌, ◌≤◌, min, Bool, true, false, cond, not, ◌&&◌, eqb, List, [], ◌∷◌, ◌++◌, length, set, sym, refl, ap, ◌∙◌, add-zero, one-mul, mul-zero, add-one, arith, ne_eqb, eqb-true}
use borrow.Author.Tests.{eqb-false}
use Rattle.format.specs.Datatype.{Datatype, compound, array, Members, product, type_size_of}
use Rattle.format.specs.Slots.{is_slot, shifted, entries, slots, holds_other_reference, holds_hidden_reference, first_zero}
use Rattle.format.specs.Table.{Found, found, bad, Walk, and_then, type_at}
use Rattle.format.proofs.Booleans.{or_neither}
use Rattle.format.proofs.Slots.{first-zero-size, or_else_none}
use Rattle.std.specs.Prelude.{Option, Some, None}
use Rattle.rows.specs.Entries.{entry_at, leaf_type, from_entry, RowSays}
use Rattle.rows.specs.declared.Entry.{Entry}
use Rattle.rows.specs.declared.Entry.TheVariants.{Leaf, Compound, Enumeration, VariableLength, Array}
use Rattle.rows.proofs.Leaves.{leaf_law}
use Rattle.table.specs.Known.{TotalAt, SizedTo, SizedAt}
use Rattle.table.specs.Path.{top_of, Entered}
use Rattle.table.specs.declared.path.Path.{Path}
use Rattle.table.proofs.Passing.{passes_none, passes-leaf, passes-compound, passes-array}
use Rattle.slots.specs.Slots.{AllBelow, Fits, Listed, Listable, PutAs, PutIn, PutAt, PutInside, Passed, PutLeaf, Repeats}
use Rattle.slots.specs.declared.Put.{Put}
use Rattle.slots.proofs.Rows.{above, below, by_row}
use Rattle.slots.proofs.Shifting.{first-low, few-entries, entries-more, fits-first, listed-none, shifted_none, entries_none}

-- ---- where there is no slot, nothing is written

unfoldable Empty : Found Datatype → Type 0
Empty (found t r p) = slots t ≡ []
Empty bad = Unit {0}

empty_then : {A : Type 0} (x : Found A) (f : A → Walk Datatype) → ((a : A) (r p : ℕ) → Empty (f a r p)) → Empty (and_then x f)
unfolding and_then Empty
empty_then (found a r p) f h = h a r p
empty_then bad f h = tt

put_empty : (x : Found Datatype) (base : ℕ) (out : List ℕ) (at : ℕ) → Empty x → PutAs x base out at at out
unfolding Empty PutAs
put_empty (found t r p) base out at h = λ l f. rw (shifted_none base (slots t) h) (listed-none out at)
put_empty bad base out at h = tt

module _ (rd : Walk Datatype) (table pool : List ℕ) (r p : ℕ) where
  empty_enumeration : (n k : ℕ) → Empty (from_entry rd table pool r p (Some (Enumeration n k)))
  unfolding from_entry Empty slots
  empty_enumeration n k = empty_then _ _ (λ t r p. empty_then _ _ (λ ns r₁ p₁. empty_then _ _ (λ ms r₂ p₂. refl)))

  empty_variable_length : (i a c : ℕ) → Empty (from_entry rd table pool r p (Some (VariableLength i a c)))
  unfolding from_entry Empty slots
  empty_variable_length i a c = empty_then _ _ (λ t r p. refl)

-- ---- a leaf

module _ (row class base : ℕ) (out : List ℕ) (at : ℕ) where
  pub leaf_other : (class ≡ 7 → ⊥) → PutLeaf row class base out at (record { row = row; next = at }) out
  leaf_other h = record { behind = refl; one = λ i f. absurd (h i); none_else = λ i. listed-none out at }

  module _ (reference : class ≡ 7) where
    pub leaf-full : length out ≤ at → PutLeaf row class base out at (record { row = row; next = at }) out
    leaf-full h = record { behind = refl; one = λ i f. absurd (omega arith); none_else = λ i. absurd (i reference) }

    pub leaf-stored : PutLeaf row class base out at (record { row = row; next = at + 1 }) (set out at base)
    leaf-stored = record { behind = refl; one = λ i f. record { next = refl; out-is = refl }; none_else = λ i. absurd (i reference) }

-- what a leaf's row says of its type
module _ (table pool : List ℕ) (r p : ℕ) {k n l x : ℕ} (q : Some (Leaf k n l x) ≡ entry_at table pool r p) where
  leaf-slots : slots (leaf_type table pool r p k) ≡ cond (eqb k 7 && is_slot n x) (0 ∷ []) []
  unfolding slots
  leaf-slots = let h = leaf_law table pool r p q refl refl in rw (h.is, h.refers_by)

  leaf-others : holds_other_reference (leaf_type table pool r p k) ≡ (eqb k 7 && not (is_slot n x))
  unfolding holds_other_reference
  leaf-others = let h = leaf_law table pool r p q refl refl in rw (h.is, h.refers_by)

  leaf-none : (k ≡ 7 → ⊥) → slots (leaf_type table pool r p k) ≡ []
  leaf-none h = leaf-slots ∙ rw (ne_eqb k 7 h)

  leaf-one : k ≡ 7 → Listable (leaf_type table pool r p k) → slots (leaf_type table pool r p k) ≡ 0 ∷ []
  leaf-one h l = go (is_slot n x) (rw h at (sym leaf-others ∙ (or_neither _ _ l.mapped).0)) (leaf-slots ∙ rw h)
    where
      go : (b : Bool) → not b ≡ false → slots (leaf_type table pool r p k) ≡ cond b (0 ∷ []) [] → slots (leaf_type table pool r p k) ≡ 0 ∷ []
      go true f g = g
      go false f g = let z : ◌≡◌ {A = ℕ} 0 1 = cc in absurd (omega arith)

  leaf-put : (row base : ℕ) (out : List ℕ) (at : ℕ) (y : Put) (out' : List ℕ) (r' p' : ℕ) → PutLeaf row k base out at y out' → PutAs (found (leaf_type table pool r p k) r' p') base out at y.next out'
  unfolding PutAs
  leaf-put row base out at y out' r' p' w = λ l f. go (eqb k 7) refl l f
    where
      go : (b : Bool) → eqb k 7 ≡ b → Listable (leaf_type table pool r p k) → Fits (shifted base (slots (leaf_type table pool r p k))) out at → Listed (shifted base (slots (leaf_type table pool r p k))) out at y.next out'
      go true i l f =
          let h = eqb-true k 7 i in
          let e : shifted base (slots (leaf_type table pool r p k)) ≡ base ∷ [] = rw (leaf-one h l) (unfold shifted in rw (add-zero base)) in
          let g : Fits (base ∷ []) out at = rw e at f in
          rw e (w.one h g.room)
      go false i l f = let h = eqb-false k 7 i in rw (leaf-none h, shifted_none base [] refl) (w.none_else h)

-- ---- an array

array_listable : (ds : List ℕ) (t : Datatype) → Listable (array ds t) → Listable t
unfolding first_zero holds_other_reference holds_hidden_reference
array_listable ds t l = record { sized = (or_else_none _ _ l.sized).1; mapped = l.mapped }

-- it has entries
array-some : (ds : List ℕ) (t : Datatype) → Listable (array ds t) → product ds ≡ 0 → ⊥
array-some ds t l e = omega (arith, first-zero-size (array ds t) l.sized, none)
  where
    none : type_size_of (array ds t) ≡ 0
    none = unfold type_size_of in rw (e, mul-zero (type_size_of t))

all-entries : (ds : List ℕ) (stride base : ℕ) (ss : List ℕ) {n : ℕ} → 0 < stride → (ss ≡ [] → ⊥) → AllBelow 4294967296 (shifted base (entries stride ss 0 (product ds))) → n ≡ min (1 * product ds) 4294967296 → n ≡ product ds
all-entries ds stride base ss {n = n} h z f e = go (product ds) f (e ∙ ap (λ (k : ℕ). min k 4294967296) (one-mul (product ds)))
  where
    go : (k : ℕ) → AllBelow 4294967296 (shifted base (entries stride ss 0 k)) → n ≡ min k 4294967296 → n ≡ k
    go zero f e = omega arith
    go (suc k) f e = omega (arith, few-entries 4294967296 stride base ss z h 0 k f)

array-listed : (ds : List ℕ) (t : Datatype) (stride n base : ℕ) (out : List ℕ) (at next : ℕ) (out₁ : List ℕ) (x : ℕ) (out' : List ℕ)
    → (Listable t → Fits (shifted base (slots t)) out at → Listed (shifted base (slots t)) out at next out₁) → stride ≡ type_size_of t → n ≡ min (1 * product ds) 4294967296 → Repeats stride n at next out₁ x out'
    → Listable (array ds t) → Fits (shifted base (entries (type_size_of t) (slots t) 0 (product ds))) out at → Listed (shifted base (entries (type_size_of t) (slots t) 0 (product ds))) out at x out'
array-listed ds t stride n base out at next out₁ x out' v s e w l f = go (slots t) refl
  where
    lt : Listable t
    lt = array_listable ds t l

    first : Fits (shifted base (slots t)) out at
    first =
        let c : product ds ≡ suc (product ds - 1) = omega (arith, array-some ds t l) in
        let g : Fits (shifted base (slots t) ++ shifted (base + type_size_of t) (entries (type_size_of t) (slots t) 0 (product ds - 1))) out at =
        rw (← entries-more (type_size_of t) base (slots t) (product ds - 1), ← c) f in
        fits-first (shifted base (slots t)) (shifted (base + type_size_of t) (entries (type_size_of t) (slots t) 0 (product ds - 1))) out at g

    some : 0 < n
    some = omega (arith, array-some ds t l, e, one-mul (product ds))

    go : (ss : List ℕ) → slots t ≡ ss → Listed (shifted base (entries (type_size_of t) (slots t) 0 (product ds))) out at x out'
    go [] i =
        let j : entries (type_size_of t) (slots t) 0 n ≡ entries (type_size_of t) (slots t) 0 (product ds) = rw (i, entries_none (type_size_of t) 0 n, entries_none (type_size_of t) 0 (product ds)) in
        rw j at (rw s at (w.repeats base (slots t) out some) (rw j f) (v lt first))
    go (y ∷ ys) i =
        let z : slots t ≡ [] → ⊥ = λ h. let q : ◌≡◌ {A = ℕ} 0 1 = cc in omega arith in
        let m : n ≡ product ds = all-entries ds (type_size_of t) base (slots t) (first-zero-size t lt.sized) z f.low e in
        rw m at (rw s at (w.repeats base (slots t) out some) (rw m f) (v lt first))

array-put : (ds : List ℕ) (stride n base : ℕ) (out : List ℕ) (at next : ℕ) (out₁ : List ℕ) (x : ℕ) (out' : List ℕ) (y : Found Datatype) → PutAs y base out at next out₁ → SizedTo y stride
    → n ≡ min (1 * product ds) 4294967296 → Repeats stride n at next out₁ x out' → PutAs (and_then y (λ t r p. found (array ds t) r p)) base out at x out'
unfolding PutAs SizedTo and_then slots
array-put ds stride n base out at next out₁ x out' (found t r p) v s e w = array-listed ds t stride n base out at next out₁ x out' v s e w
array-put ds stride n base out at next out₁ x out' bad v s e w = tt

-- ---- by the row

module _ (table pool : List ℕ) (depth row base : ℕ) (out : List ℕ) (at : ℕ) {e : Option Entry} (shallow : depth ≤ 32) (s : RowSays table row e) where
  lists_by : (x : ℕ) (out' : List ℕ) {f : Option Entry} → e ≡ f → ((p : ℕ) → f ≡ entry_at table pool row p → PutAs (from_entry (type_at (32 - depth) table pool) table pool row p f) base out at x out') → (p : ℕ)
      → PutAs (type_at (33 - depth) table pool row p) base out at x out'
  lists_by x out' i v p = by_row table pool depth row shallow s (λ (y : Found Datatype). PutAs y base out at x out') (unfold PutAs in tt) p i (v p)

  deep : 33 - depth ≡ 0 → ⊥
  deep = above depth shallow

  type_empty : {x : Put} {f : Option Entry} → Passed (33 - depth) table row at x → e ≡ f → ((p : ℕ) → Empty (from_entry (type_at (32 - depth) table pool) table pool row p f)) → PutAt (33 - depth) table pool row base out at x out
  type_empty {x = x} v i h = record { passes = v.passes; lists = lists_by x.next out i (λ p q. rw v.stays (put_empty _ base out at (h p))) }

  pub type_unknown : {x : Put} → Passed (33 - depth) table row at x → e ≡ None → PutAt (33 - depth) table pool row base out at x out
  type_unknown v i = type_empty v i (λ p. unfold from_entry Empty in tt)

  pub type-enumeration : {x : Put} {n k : ℕ} {f : Entry} → Passed (33 - depth) table row at x → e ≡ Some f → f ≡ Enumeration n k → PutAt (33 - depth) table pool row base out at x out
  type-enumeration v i h = type_empty v (i ∙ ap Some h) (λ p. empty_enumeration _ table pool row p _ _)

  pub type-variable_length : {x : Put} {a c d : ℕ} {f : Entry} → Passed (33 - depth) table row at x → e ≡ Some f → f ≡ VariableLength a c d → PutAt (33 - depth) table pool row base out at x out
  type-variable_length v i h = type_empty v (i ∙ ap Some h) (λ p. empty_variable_length _ table pool row p _ _ _)

  pub type-leaf : (x : Put) (out' : List ℕ) {k n l y : ℕ} {f : Entry} → e ≡ Some f → f ≡ Leaf k n l y → PutLeaf (row + 1) k base out at x out' → PutAt (33 - depth) table pool row base out at x out'
  type-leaf x out' i h v =
      record {
        passes = rw v.behind (passes-leaf table row (33 - depth) deep s i h);
        lists = lists_by x.next out' (i ∙ ap Some h) (λ p q. unfold from_entry in leaf-put table pool row p q (row + 1) base out at x out' _ _ v);
      }

  pub type-compound : (x : Put) (out' : List ℕ) {n k : ℕ} {f : Entry} → e ≡ Some f → f ≡ Compound n k → PutInside (32 - depth) table pool (row + 1) k base out at x out' → PutAt (33 - depth) table pool row base out at x out'
  unfolding from_entry
  type-compound x out' {n = n} i h v =
      record {
        passes = passes-compound table row (33 - depth) deep s i h (rw (below depth) v.passes);
        lists = lists_by x.next out' (i ∙ ap Some h) (λ p q. go _ (rw (add-one row) at (v.lists p)));
      }
    where
      go : (y : Found Members) → PutIn y base out at x.next out' → PutAs (and_then y (λ ms r' p'. found (compound n ms) r' p')) base out at x.next out'
      go (found ms r p) w = unfold and_then PutAs PutIn slots first_zero holds_other_reference holds_hidden_reference in λ l f. w (record { sized = (or_else_none _ _ l.sized).1; mapped = l.mapped }) f
      go bad w = unfold and_then PutAs in tt

  pub row_is : {k : ℕ} {f : Entry} → e ≡ Some f → f ≡ Array k → RowSays table row (Some (Array k))
  row_is i h = rw (i, h) at s

pub type-array : (table pool : List ℕ) (depth row base : ℕ) (out : List ℕ) (at : ℕ) (out₁ : List ℕ) (x : ℕ) (out' : List ℕ) {k stride n : ℕ} {y : Put} → depth ≤ 32 → RowSays table row (Some (Array k))
    → PutAt (32 - depth) table pool (row + 1) base out at y out₁ → SizedAt (32 - depth) table pool (row + 1) stride → TotalAt table pool row k 1 n → Repeats stride n at y.next out₁ x out'
    → PutAt (33 - depth) table pool row base out at (record { row = y.row; next = x }) out'
type-array table pool depth row base out at out₁ x out' {k = k} {stride = stride} {n = n} {y = y} h s v z t w =
    record {
      passes = passes-array table row (33 - depth) (above depth h) s refl refl (rw (below depth) v.passes);
      lists = lists_by table pool depth row base out at h s x out' refl (λ p q. unfold from_entry in array-put _ stride n base out at y.next out₁ x out' _ (rw (add-one row) at (v.lists (p + k * 4))) (rw (add-one row) at (z.sized (p + k * 4))) (t.total p q) w);
    }

-- ---- a level further down

-- a type that begins past all places of 32 bits has no slot that fits
pub inner_far : (table pool : List ℕ) (levels row base : ℕ) (out : List ℕ) (at : ℕ) {x : Put} → Passed levels table row at x → 4294967296 ≤ base → PutAt levels table pool row base out at x out
inner_far table pool levels row base out at v h = record { passes = v.passes; lists = λ p. rw v.stays (go _) }
  where
    lists : (ss : List ℕ) → Fits (shifted base ss) out at → Listed (shifted base ss) out at at out
    lists [] f = unfold shifted in listed-none out at
    lists (y ∷ ys) f = absurd (omega (arith, first-low 4294967296 base (y ∷ ys) (λ e. let q : ◌≡◌ {A = ℕ} 0 1 = cc in omega arith) f.low))

    go : (y : Found Datatype) → PutAs y base out at at out
    go (found t r p) = unfold PutAs in λ l f. lists (slots t) f
    go bad = unfold PutAs in tt

pub inner-none : (table pool : List ℕ) (depth row base : ℕ) (out : List ℕ) (at : ℕ) (x : Put) → depth ≡ 32 → PutAt (32 - depth) table pool row base out at x out
inner-none table pool depth row base out at x h =
    let j : 32 - depth ≡ 0 = omega arith in
    record { passes = passes_none table row (32 - depth) x.row j; lists = λ p. rw j (unfold type_at PutAs in tt) }

pub inner-leaf : (table pool : List ℕ) (depth row base : ℕ) (out : List ℕ) (at : ℕ) (x : Put) (out' : List ℕ) {e : Option Entry} {f : Entry} {k n l y : ℕ} → depth ≤ 32 → (depth ≡ 32 → ⊥) → RowSays table row e → e ≡ Some f → f ≡ Leaf k n l y
    → PutLeaf (row + 1) k base out at x out' → PutAt (32 - depth) table pool row base out at x out'
inner-leaf table pool depth row base out at x out' h d s i g v =
    let c : 33 - (depth + 1) ≡ 32 - depth = omega arith in
    rw c at (type-leaf table pool (depth + 1) row base out at (omega (arith, d)) s x out' i g v)

pub inner_type : (table pool : List ℕ) (path inner : Path) (row base : ℕ) (out : List ℕ) (at : ℕ) (x : Put) (out' : List ℕ) → Entered path row inner → PutAt (33 - inner.depth) table pool (top_of inner) base out at x out'
    → PutAt (32 - path.depth) table pool row base out at x out'
inner_type table pool path inner row base out at x out' e v =
    let j : 33 - inner.depth ≡ 32 - path.depth = omega (arith, e.deeper) in
    rw (j, e.top) at v
