-- Rows that are not tested again: the row behind a type, its size, and the entries of an array. One law for each way out of the code.
use Prim.Native.Nat.{ℕ, zero, suc, ◌+◌, ◌-◌, ◌*◌, ◌/◌, ◌<◌, ◌≤◌, min}
use mathlib.Core.Path.{◌≡◌, refl, sym, ap, ◌∙◌}
use mathlib.Core.Bool.{Bool, true, false, cond, not, false≢true}
use mathlib.Core.List.{List, [], ◌∷◌}
use native.Mathlib.Omega.{arith}
use native.Mathlib.Numerals.{add-one}
use lib.ListN.{length, get_or, take, drop}
use lib.Dec.{leb}
use Rattle.std.specs.Prelude.{Option, Some, None}
use Rattle.std.specs.Option.{is_some}
use Rattle.format.specs.Bytes.{dimensions_from}
use Rattle.format.specs.Datatype.{Datatype, compound, enumeration, variable_length, array, Members, member, EnumMember, product, type_size_of}
use Rattle.format.specs.Table.{Found, found, bad, and_then, type_at, members_at, enum_names_at, enum_values_at}
use Rattle.format.proofs.Scaling.{cap_again}
use Rattle.format.proofs.TableSteps.{then-piece}
use Rattle.rows.specs.Entries.{entry_at, enum_member_at_of, from_entry, from_member, from_enum_member, RowSays, RowNames}
use Rattle.rows.specs.declared.Entry.{Entry}
use Rattle.rows.specs.declared.Entry.TheVariants.{Leaf, Compound, Enumeration, VariableLength, Array}
use Rattle.rows.specs.declared.Member.{Member}
use Rattle.rows.proofs.Columns.{short_enum_member}
use Rattle.rows.proofs.Decode.{enum_names_at-entry}
use Rattle.rows.proofs.Known.{claim_of-type, claim_of-members, array-stands}
use Rattle.rows.proofs.Leaves.{leaf_law}
use Rattle.table.specs.Known.{PassesTo, PassesType, PassesMembers, PassesNames, TotalAt, SizedTo, SizedAt}

-- what is made of what is found ends where that does
passes_then : {A B : Type 0} (y : Found A) (f : A → B) (x : ℕ) → PassesTo y x → PassesTo (and_then y (λ a r p. found (f a) r p)) x
unfolding PassesTo and_then
passes_then (found a r p) f x h = h
passes_then bad f x h = tt

-- ---- an enumeration's names and values

module _ (table : List ℕ) where
  names-step : (pool : List ℕ) (k r p : ℕ) → ((n : ℕ) → PassesTo (enum_names_at table pool k (suc r) (p + n)) (suc r + k)) → (m : Option Member)
      → PassesTo (from_enum_member (enum_names_at table pool k) pool r p m) (r + suc k)
  unfolding from_enum_member
  names-step pool k r p rest (Some m) = let e : r + suc k ≡ suc r + k = omega arith in passes_then (enum_names_at table pool k (suc r) (p + m.name)) _ (r + suc k) (rw e (rest m.name))
  names-step pool k r p rest None = unfold PassesTo in tt

  names-go : (pool : List ℕ) (k r p : ℕ) → PassesTo (enum_names_at table pool k r p) (r + k)
  names-go pool zero r p = unfold enum_names_at PassesTo in (omega arith)
  names-go pool (suc k) r p = rw (enum_names_at-entry table pool k r p) (names-step pool k r p (λ n. names-go pool k (suc r) (p + n)) (enum_member_at_of table pool r p))

  pub names-passed : (row count : ℕ) → PassesNames table row count (row + count)
  names-passed row count = record { passes = λ pool p. names-go pool count row p }

  names-none : (row count : ℕ) → length table / 16 ≤ row → (pool : List ℕ) (p : ℕ) → PassesTo (enum_names_at table pool count row p) row
  names-none row zero h pool p = unfold enum_names_at PassesTo in refl
  names-none row (suc k) h pool p = rw (enum_names_at-entry table pool k row p, ← short_enum_member table pool row p h) (unfold from_enum_member PassesTo in tt)

  pub names-outside : (row count : ℕ) → length table / 16 ≤ row → PassesNames table row count row
  names-outside row count h = record { passes = names-none row count h }

values-go : (pool : List ℕ) (ns : List (List ℕ × ℕ)) (r p : ℕ) → PassesTo (enum_values_at pool ns r p) r
unfolding enum_values_at
values-go pool [] r p = unfold PassesTo in refl
values-go pool (x ∷ ns) r p = rw then-piece (go (values-go pool ns r (p + x.1)) (leb (p + x.1) (length pool)))
  where
    go : PassesTo (enum_values_at pool ns r (p + x.1)) r → (b : Bool) → PassesTo (cond b (and_then (enum_values_at pool ns r (p + x.1)) (λ ms r' p'. found (record { name = x.0; value = take x.1 (drop p pool) } ∷ ms) r' p')) bad) r
    go rest true = passes_then (enum_values_at pool ns r (p + x.1)) _ r rest
    go rest false = unfold PassesTo in tt

-- ---- a type

module _ (table : List ℕ) (row levels : ℕ) where
  pub passes_none : (x : ℕ) → levels ≡ 0 → PassesType levels table row x
  passes_none x e = record { passes = λ pool p. rw e (unfold type_at PassesTo in tt) }

  module _ {e : Option Entry} (deep : levels ≡ 0 → ⊥) (s : RowSays table row e) where
    by_row : (C : Found Datatype → Type 0) → C bad → (pool : List ℕ) (p : ℕ) {f : Option Entry} → e ≡ f
        → (f ≡ entry_at table pool row p → C (from_entry (type_at (levels - 1) table pool) table pool row p f)) → C (type_at levels table pool row p)
    by_row C n pool p h v =
        let j : levels ≡ suc (levels - 1) = omega (arith, deep) in
        rw j (claim_of-type table pool row p C n (levels - 1) e (s.is pool p) (λ q. rw h (v (sym h ∙ q))))

    passes : (x : ℕ) {f : Option Entry} → e ≡ f → ((pool : List ℕ) (p : ℕ) → PassesTo (from_entry (type_at (levels - 1) table pool) table pool row p f) x) → PassesType levels table row x
    passes x h v = record { passes = λ pool p. by_row (λ (y : Found Datatype). PassesTo y x) (unfold PassesTo in tt) pool p h (λ q. v pool p) }

    pub passes_unknown : (x : ℕ) → e ≡ None → PassesType levels table row x
    passes_unknown x h = passes x h (λ pool p. unfold from_entry PassesTo in tt)

    pub passes-leaf : {c n l y : ℕ} {f : Entry} → e ≡ Some f → f ≡ Leaf c n l y → PassesType levels table row (row + 1)
    passes-leaf i h = passes (row + 1) (i ∙ ap Some h) (λ pool p. unfold from_entry PassesTo in (omega arith))

    pub passes-compound : {n k : ℕ} {x : ℕ} {f : Entry} → e ≡ Some f → f ≡ Compound n k → PassesMembers (levels - 1) table (row + 1) k x → PassesType levels table row x
    passes-compound {n = n} {x = x} i h v = passes x (i ∙ ap Some h) (λ pool p. unfold from_entry in passes_then _ (compound n) x (rw (add-one row) at (v.passes pool p)))

    enumeration_passes : (n k y x : ℕ) → PassesType (levels - 1) table (row + 1) y → PassesNames table y k x
        → (pool : List ℕ) (p : ℕ) → PassesTo (from_entry (type_at (levels - 1) table pool) table pool row p (Some (Enumeration n k))) x
    unfolding from_entry
    enumeration_passes n k y x v w pool₀ p₀ = go pool₀ (type_at (levels - 1) table pool₀ (suc row) p₀) (rw (add-one row) at (v.passes pool₀ p₀))
      where
        values : (pool : List ℕ) (t : Datatype) (z : Found (List (List ℕ × ℕ))) → PassesTo z x
            → PassesTo (and_then z (λ ns r₂ p₂. and_then (enum_values_at pool ns r₂ p₂) (λ ms r₃ p₃. found (enumeration n t ms) r₃ p₃))) x
        values pool t (found ns r p) g = unfold PassesTo and_then in passes_then (enum_values_at pool ns r p) (enumeration n t) x (rw g (values-go pool ns r p))
        values pool t bad g = unfold and_then PassesTo in tt

        go : (pool : List ℕ) (z : Found Datatype) → PassesTo z y
            → PassesTo (and_then z (λ t r₁ p₁. and_then (enum_names_at table pool k r₁ p₁) (λ ns r₂ p₂. and_then (enum_values_at pool ns r₂ p₂) (λ ms r₃ p₃. found (enumeration n t ms) r₃ p₃)))) x
        go pool (found t r p) g = unfold PassesTo and_then in values pool t (enum_names_at table pool k r p) (rw g at (w.passes pool p))
        go pool bad g = unfold and_then PassesTo in tt

    pub passes-enumeration : {n k : ℕ} {y x : ℕ} {f : Entry} → e ≡ Some f → f ≡ Enumeration n k → PassesType (levels - 1) table (row + 1) y → PassesNames table y k x → PassesType levels table row x
    passes-enumeration {n = n} {k = k} {y = y} {x = x} i h v w = passes x (i ∙ ap Some h) (enumeration_passes n k y x v w)

    pub passes-variable_length : {i a c : ℕ} {x : ℕ} {f : Entry} → e ≡ Some f → f ≡ VariableLength i a c → PassesType (levels - 1) table (row + 1) x → PassesType levels table row x
    passes-variable_length {i = i} {a = a} {c = c} {x = x} j h v = passes x (j ∙ ap Some h) (λ pool p. unfold from_entry in passes_then _ (variable_length i a c) x (rw (add-one row) at (v.passes pool p)))

    pub passes-array : {k : ℕ} {x : ℕ} {f : Entry} → e ≡ Some f → f ≡ Array k → PassesType (levels - 1) table (row + 1) x → PassesType levels table row x
    passes-array {k = k} {x = x} i h v = passes x (i ∙ ap Some h) (λ pool p. unfold from_entry in passes_then _ (array (dimensions_from k (take (k * 4) (drop p pool)))) x (rw (add-one row) at (v.passes pool (p + k * 4))))

-- ---- members

-- what is passed from here on is passed from the start on
pub record PassesOn (levels : ℕ) (table : List ℕ) (r left row count : ℕ) : Type 0 where
  pub on : (x : ℕ) → PassesMembers levels table r left x → PassesMembers levels table row count x

pub passes-start : (levels : ℕ) (table : List ℕ) (row count : ℕ) → PassesOn levels table row count row count
passes-start levels table row count = record { on = λ x h. h }

unnamed : (o : Option Member) {b : Bool} → is_some o ≡ not b → b ≡ true → o ≡ None
unnamed None i e = refl
unnamed (Some f) i e = absurd (false≢true (sym (i ∙ ap not e)))

module _ (levels : ℕ) (table : List ℕ) (r left row count : ℕ) (inv : PassesOn levels table r left row count) where
  pub passes_end : left ≤ 0 → PassesMembers levels table row count r
  passes_end e =
      let k : left ≡ 0 = omega arith in
      inv.on r (record { passes = λ pool p. rw k (unfold members_at PassesTo in refl) })

  module _ {m : Option Member} (some_left : 0 < left) (s : RowNames table r m) where
    passes-member : (x : ℕ) {f : Option Member} → m ≡ f → ((pool : List ℕ) (p : ℕ) → PassesTo (from_member (type_at levels table pool) (members_at (type_at levels table pool) table pool (left - 1)) pool r p f) x)
        → PassesMembers levels table row count x
    passes-member x h v =
        let j : left ≡ suc (left - 1) = omega arith in
        inv.on x (record { passes = λ pool p. rw j (claim_of-members table pool r p (λ (w : Found Members). PassesTo w x) (unfold PassesTo in tt) (type_at levels table pool) (left - 1) m (s.is pool p) (λ q. rw h (v pool p))) })

    pub passes_unnamed : (x : ℕ) → m ≡ None → PassesMembers levels table row count x
    passes_unnamed x h = passes-member x h (λ pool p. unfold from_member PassesTo in tt)

    pub passes-next : {f : Member} {y rest : ℕ} → m ≡ Some f → PassesType levels table (r + 1) y → rest ≡ left - 1 → PassesOn levels table y rest row count
    passes-next {f = f} {y = y} h v e = rw e (record { on = λ x w. passes-member x h (λ pool p. unfold from_member in go x w pool p (type_at levels table pool (suc r) (p + f.name)) (rw (add-one r) at (v.passes pool (p + f.name)))) })
      where
        go : (x : ℕ) → PassesMembers levels table y (left - 1) x → (pool : List ℕ) (p : ℕ) (z : Found Datatype) → PassesTo z y
            → PassesTo (and_then z (λ t r₁ p₁. and_then (members_at (type_at levels table pool) table pool (left - 1) r₁ p₁) (λ ms r₂ p₂. found (member (take f.name (drop p pool)) f.number t ms) r₂ p₂))) x
        go x w pool p (found t r₁ p₁) g = unfold PassesTo and_then in passes_then (members_at (type_at levels table pool) table pool (left - 1) r₁ p₁) (member (take f.name (drop p pool)) f.number t) x (rw g at (w.passes pool p₁))
        go x w pool p bad g = unfold and_then PassesTo in tt

    pub passes-is_none : (x : ℕ) {b : Bool} → is_some m ≡ not b → b ≡ true → PassesMembers levels table row count x
    passes-is_none x i e = passes_unnamed x (unnamed m i e)

    passes-some : (o : Option Member) → m ≡ o → {b : Bool} → is_some o ≡ not b → b ≡ false → {y rest : ℕ} → PassesType levels table (r + 1) y → rest ≡ left - 1 → PassesOn levels table y rest row count
    passes-some (Some f) h i e v w = passes-next h v w
    passes-some None h i e v w = absurd (false≢true (i ∙ ap not e))

    pub passes-is_some : {b : Bool} {y rest : ℕ} → is_some m ≡ not b → b ≡ false → PassesType levels table (r + 1) y → rest ≡ left - 1 → PassesOn levels table y rest row count
    passes-is_some i e v w = passes-some m refl i e v w

-- ---- sizes

module _ (table pool : List ℕ) (row rank size : ℕ) where
  pub total-outside : (x : ℕ) {place : ℕ} → place ≡ get_or table (row * 16 + 2) 0 → length pool < place + rank * 4 → TotalAt table pool row rank size x
  total-outside x e h = record { total = λ p q. let s = array-stands table pool row p q in absurd (omega (arith, s.0, s.1)) }

  pub total_scaled : {x place : ℕ} → place ≡ get_or table (row * 16 + 2) 0 → x ≡ min (size * product (dimensions_from rank (take (rank * 4) (drop place pool)))) 4294967296
      → TotalAt table pool row rank size x
  total_scaled {place = place} e h =
      record {
        total = λ p q.
            let s : place ≡ p = e ∙ (array-stands table pool row p q).0 in
            rw s at h;
      }

module _ (table pool : List ℕ) (row levels : ℕ) where
  pub sized-none : (x : ℕ) → levels ≡ 0 → SizedAt levels table pool row x
  sized-none x e = record { sized = λ p. rw e (unfold type_at SizedTo in tt) }

  module _ {e : Option Entry} (deep : levels ≡ 0 → ⊥) (s : RowSays table row e) where
    by_size : (x : ℕ) {f : Option Entry} → e ≡ f → ((p : ℕ) → f ≡ entry_at table pool row p → SizedTo (from_entry (type_at (levels - 1) table pool) table pool row p f) x) → SizedAt levels table pool row x
    by_size x h v = record { sized = λ p. by_row table row levels deep s (λ (y : Found Datatype). SizedTo y x) (unfold SizedTo in tt) pool p h (v p) }

    pub sized_unknown : (x : ℕ) → e ≡ None → SizedAt levels table pool row x
    sized_unknown x h = by_size x h (λ p q. unfold from_entry SizedTo in tt)

    pub sized-leaf : {c n l y : ℕ} {f : Entry} → e ≡ Some f → f ≡ Leaf c n l y → SizedAt levels table pool row n
    sized-leaf {n = n} i h = by_size n (i ∙ ap Some h) (λ p q. unfold from_entry SizedTo type_size_of in (rw (leaf_law table pool row p q refl refl).is))

    compound_sized : (n k p : ℕ) → SizedTo (from_entry (type_at (levels - 1) table pool) table pool row p (Some (Compound n k))) n
    unfolding from_entry
    compound_sized n k p₀ = go _
      where
        go : (y : Found Members) → SizedTo (and_then y (λ ms r' p'. found (compound n ms) r' p')) n
        go (found ms r p) = unfold and_then SizedTo type_size_of in refl
        go bad = unfold and_then SizedTo in tt

    pub sized-compound : {n k : ℕ} {f : Entry} → e ≡ Some f → f ≡ Compound n k → SizedAt levels table pool row n
    sized-compound {n = n} {k = k} i h = by_size n (i ∙ ap Some h) (λ p q. compound_sized n k p)

    enumeration_sized : (n k p : ℕ) → SizedTo (from_entry (type_at (levels - 1) table pool) table pool row p (Some (Enumeration n k))) n
    unfolding from_entry
    enumeration_sized n k p₀ = go _
      where
        values : (t : Datatype) (y : Found (List EnumMember)) → SizedTo (and_then y (λ ms r₃ p₃. found (enumeration n t ms) r₃ p₃)) n
        values t (found ms r p) = unfold and_then SizedTo type_size_of in refl
        values t bad = unfold and_then SizedTo in tt

        names : (t : Datatype) (y : Found (List (List ℕ × ℕ))) → SizedTo (and_then y (λ ns r₂ p₂. and_then (enum_values_at pool ns r₂ p₂) (λ ms r₃ p₃. found (enumeration n t ms) r₃ p₃))) n
        names t (found ns r p) = unfold and_then in values t (enum_values_at pool ns r p)
        names t bad = unfold and_then SizedTo in tt

        go : (y : Found Datatype)
            → SizedTo (and_then y (λ t r₁ p₁. and_then (enum_names_at table pool k r₁ p₁) (λ ns r₂ p₂. and_then (enum_values_at pool ns r₂ p₂) (λ ms r₃ p₃. found (enumeration n t ms) r₃ p₃)))) n
        go (found t r p) = unfold and_then in names t (enum_names_at table pool k r p)
        go bad = unfold and_then SizedTo in tt

    pub sized-enumeration : {n k : ℕ} {f : Entry} → e ≡ Some f → f ≡ Enumeration n k → SizedAt levels table pool row n
    sized-enumeration {n = n} {k = k} i h = by_size n (i ∙ ap Some h) (λ p q. enumeration_sized n k p)

    variable_sized : (i a c p : ℕ) → SizedTo (from_entry (type_at (levels - 1) table pool) table pool row p (Some (VariableLength i a c))) 16
    unfolding from_entry
    variable_sized i a c p₀ = go _
      where
        go : (y : Found Datatype) → SizedTo (and_then y (λ t r' p'. found (variable_length i a c t) r' p')) 16
        go (found t r p) = unfold and_then SizedTo type_size_of in refl
        go bad = unfold and_then SizedTo in tt

    pub sized-variable_length : {i a c : ℕ} {f : Entry} → e ≡ Some f → f ≡ VariableLength i a c → SizedAt levels table pool row 16
    sized-variable_length {i = i} {a = a} {c = c} j h = by_size 16 (j ∙ ap Some h) (λ p q. variable_sized i a c p)

    pub sized-array : {k base total x : ℕ} {f : Entry} → e ≡ Some f → f ≡ Array k → SizedAt (levels - 1) table pool (row + 1) base → TotalAt table pool row k base total → x ≡ min total 4294967295 → SizedAt levels table pool row x
    sized-array {k = k} {base = base} {total = total} {x = x} i h v w u = by_size x (i ∙ ap Some h) (λ p q. unfold from_entry in go (dimensions_from k (take (k * 4) (drop p pool))) (w.total p q) _ (rw (add-one row) at (v.sized (p + k * 4))))
      where
        go : (ds : List ℕ) → total ≡ min (base * product ds) 4294967296 → (y : Found Datatype) → SizedTo y base → SizedTo (and_then y (λ t r' p'. found (array ds t) r' p')) x
        go ds d (found t r p) g = unfold and_then SizedTo type_size_of in (u ∙ rw (d, ← g, cap_again))
        go ds d bad g = unfold and_then SizedTo in tt
