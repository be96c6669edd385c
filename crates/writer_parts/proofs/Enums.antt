-- The members of an enumeration: names one a turn, then all values in one piece, as they stand in the pool.
use Rattle.std.specs.Prelude.{Option, Some, None}
use Rattle.writer_parts.specs.declared.Written.{Written}
use Prim.Native.Nat.{ℕ, zero, suc, ◌+◌, ◌-◌, ◌<◌, ◌≤◌, max}
use mathlib.Core.Path.{◌≡◌, refl, sym, ap, ◌∙◌}
use mathlib.Core.Bool.{Bool, true, false, cond}
use mathlib.Core.List.{List, [], ◌∷◌, ◌++◌, append_assoc}
use native.Mathlib.Omega.{arith}
use native.Mathlib.Nat.{add-zero, zero-add}
use lib.ListN.{length, take, drop}
use lib.Dec.{leb}
use lib.Seq.{take-add, drop-drop}
use borrow.Author.Tests.{leb-true}
use Rattle.format.specs.Datatype.{EnumMember, enum_values}
use Rattle.format.specs.Message.{name_bytes, enum_name_bytes}
use Rattle.format.specs.Table.{Found, found, bad, and_then, enum_names_at, enum_values_at, next_piece}
use Rattle.rows.specs.Entries.{enum_member_at_of, MemberInside, IfKnown, from_enum_member}
use Rattle.rows.specs.declared.EnumPlace.{EnumPlace}
use Rattle.rows.specs.declared.Member.{Member}
use Rattle.rows.proofs.Decode.{enum_names_at-entry, named-inside}
use Rattle.rows.proofs.Known.{claim_of-enum_names}
use Rattle.rows.proofs.EnumNames.{names_as, names-none, values_long}
use Rattle.writer_parts.specs.Enum.{PutsEnum, PutsEnumOf}
use Rattle.writer_parts.specs.Places.{PlacesFrom, Inside, Stands}
use Rattle.writer_parts.proofs.Placing.{stands, lost, stands-behind, lost-behind}

-- the names in the message
unfoldable pub names_of : (edition : ℕ) → List (List ℕ × ℕ) → List ℕ
names_of e [] = []
names_of e (x ∷ ns) = name_bytes e x.0 ++ names_of e ns

-- names, and behind them values, of which so many bytes belong to names before these
unfoldable pub Rest : (edition : ℕ) (pool : List ℕ) (values at : ℕ) → Found (List (List ℕ × ℕ)) → Option Written → (out out' : List ℕ) → Type 0
Rest e pool v at (found ns r p) x out out' =
    Inside pool p (v + values_long ns) → Stands (names_of e ns ++ take (v + values_long ns) (drop p pool)) r (p + (v + values_long ns)) at x out out'
Rest e pool v at bad x out out' = Unit {0}

-- ---- the values that are found are one piece of the pool

record Valued (e : ℕ) (pool : List ℕ) (ns : List (List ℕ × ℕ)) (r p : ℕ) (ms : List EnumMember) (r' p' : ℕ) : Type 0 where
  pub row_is : r' ≡ r
  pub place_is : p' ≡ p + values_long ns
  pub inside : Inside pool p (values_long ns)
  pub names : enum_name_bytes e ms ≡ names_of e ns
  pub values : enum_values ms ≡ take (values_long ns) (drop p pool)
  pub many : length ms ≡ length ns

unfoldable ValuedAs : (e : ℕ) (pool : List ℕ) (ns : List (List ℕ × ℕ)) (r p : ℕ) → Found (List EnumMember) → Type 0
ValuedAs e pool ns r p (found ms r' p') = Valued e pool ns r p ms r' p'
ValuedAs e pool ns r p bad = Unit {0}

module _ (e : ℕ) (pool : List ℕ) where
  valued-more : (x : List ℕ × ℕ) (ns : List (List ℕ × ℕ)) (r p : ℕ) → p + x.1 ≤ length pool → (y : Found (List EnumMember)) → ValuedAs e pool ns r (p + x.1) y
      → ValuedAs e pool (x ∷ ns) r p (and_then y (λ ms. λ r' p'. found (record { name = x.0; value = take x.1 (drop p pool) } ∷ ms) r' p'))
  unfolding ValuedAs and_then names_of values_long enum_name_bytes enum_values
  valued-more x ns r p h (found ms r' p') v =
      record {
        row_is = v.row_is;
        place_is = let q = v.place_is in omega arith;
        inside = let q = v.inside in omega arith;
        names = rw v.names;
        values = rw (v.values, take-add x.1 (values_long ns) (drop p pool), drop-drop x.1 p pool);
        many = ap suc v.many;
      }
  valued-more x ns r p h bad v = tt

  valued-cond : (x : List ℕ × ℕ) (ns : List (List ℕ × ℕ)) (r p : ℕ) (b : Bool) → leb (p + x.1) (length pool) ≡ b
      → ValuedAs e pool ns r (p + x.1) (enum_values_at pool ns r (p + x.1))
      → ValuedAs e pool (x ∷ ns) r p (and_then (cond b (found (take x.1 (drop p pool)) r (p + x.1)) bad) (λ v r₁ p₁. and_then (enum_values_at pool ns r₁ p₁) (λ ms r' p'. found (record { name = x.0; value = v } ∷ ms) r' p')))
  unfolding and_then
  valued-cond x ns r p true t v = valued-more x ns r p (leb-true (p + x.1) (length pool) t) (enum_values_at pool ns r (p + x.1)) v
  valued-cond x ns r p false t v = unfold ValuedAs in tt

  valued : (ns : List (List ℕ × ℕ)) (r p : ℕ) → ValuedAs e pool ns r p (enum_values_at pool ns r p)
  unfolding enum_values_at next_piece
  valued [] r p =
      unfold ValuedAs names_of values_long enum_name_bytes enum_values in
      record { row_is = refl; place_is = sym (add-zero p); inside = omega arith; names = refl; values = refl; many = refl }
  valued (x ∷ ns) r p = valued-cond x ns r p (leb (p + x.1) (length pool)) refl (valued ns r (p + x.1))

  module _ (at : ℕ) (x : Option Written) (out out' : List ℕ) where
    from-values : (ns : List (List ℕ × ℕ)) (r p : ℕ) (y : Found (List EnumMember)) → ValuedAs e pool ns r p y → Rest e pool 0 at (found ns r p) x out out' → PutsEnumOf e at y x out out'
    unfolding PutsEnumOf ValuedAs Rest
    from-values ns r p (found ms r' p') v h =
        let i = v.inside in
        rw (v.names, v.values, v.row_is, v.place_is, ← zero-add (values_long ns)) (h (omega arith))
    from-values ns r p bad v h = tt

    from-rest : (y : Found (List (List ℕ × ℕ))) → Rest e pool 0 at y x out out' → PutsEnumOf e at (and_then y (enum_values_at pool)) x out out'
    unfolding and_then
    from-rest (found ns r p) h = from-values ns r p (enum_values_at pool ns r p) (valued ns r p) h
    from-rest bad h = unfold PutsEnumOf in tt

-- ---- the loop

-- a name whose row is read again: nothing is said where the row is unknown
known-names : (e : ℕ) (table pool : List ℕ) (v a k r p : ℕ) (x : Option Written) (out out' : List ℕ) {m : Option Member} → 0 < k → IfKnown (enum_member_at_of table pool r p) m
    → (m ≡ enum_member_at_of table pool r p → Rest e pool v a (enum_names_at table pool k r p) x out out') → Rest e pool v a (enum_names_at table pool k r p) x out out'
known-names e table pool v a (suc k) r p x out out' {m = m} h i c =
    claim_of-enum_names table pool r p (λ y. Rest e pool v a y x out out') (unfold Rest in tt) k m i (λ q. rw (enum_names_at-entry table pool k r p, ← q) at (c q))
known-names e table pool v a zero r p x out out' h i c = absurd (omega arith)

module _ (e : ℕ) (pool : List ℕ) (v a p n w : ℕ) (out : List ℕ) {y : Option ℕ} {out₁ : List ℕ} (h : PlacesFrom pool p n (name_bytes e (take n (drop p pool))) a y out out₁) where
  rest-next : (z : Found (List (List ℕ × ℕ))) {b : ℕ} → y ≡ Some b → (x : Option Written) (out' : List ℕ) → Rest e pool (v + w) b z x out₁ out'
      → Rest e pool v a (and_then z (λ ns r' p'. found ((take n (drop p pool), w) ∷ ns) r' p')) x out out'
  unfolding Rest and_then names_of values_long
  rest-next (found ns r' p') f x out' k =
      λ i.
      let q : v + (w + values_long ns) ≡ v + w + values_long ns = omega arith in
      rw (q, append_assoc) (stands-behind (name_bytes e (take n (drop p pool))) (names_of e ns ++ take (v + w + values_long ns) (drop p' pool)) r' (p' + (v + w + values_long ns)) a out (h.places (h.inside _ f)) f (k (rw q at i)))
  rest-next bad f x out' k = tt

  rest-full : (z : Found (List (List ℕ × ℕ))) → Inside pool p n → y ≡ None → (out' : List ℕ) → Rest e pool v a (and_then z (λ ns r' p'. found ((take n (drop p pool), w) ∷ ns) r' p')) None out out'
  unfolding Rest and_then names_of
  rest-full (found ns r' p') i f out' = λ g. rw append_assoc (lost-behind (name_bytes e (take n (drop p pool))) _ r' _ a out (h.places i) f)
  rest-full bad i f out' = tt

rest-past : (e : ℕ) (pool : List ℕ) (v a w : ℕ) (b : List ℕ) (z : Found (List (List ℕ × ℕ))) → length pool - v < w → (x : Option Written) (out out' : List ℕ)
    → Rest e pool v a (and_then z (λ ns r' p'. found ((b, w) ∷ ns) r' p')) x out out'
unfolding Rest and_then values_long
rest-past e pool v a w b (found ns r p) h x out out' = λ i. absurd (omega arith)
rest-past e pool v a w b bad h x out out' = tt

-- i names are stored, the others are those from a place on, and the answer of the whole is that of these and the values
pub record EnumLeft (e : ℕ) (table pool : List ℕ) (count row place at : ℕ) (out₀ : List ℕ) (i : ℕ) (from : EnumPlace) (a : ℕ) (out : List ℕ) : Type 0 where
  pub long : length out ≡ length out₀
  pub some : from.values ≤ length pool
  pub near : from.place ≤ max (length pool) place
  pub rest : (x : Option Written) (out' : List ℕ) → Rest e pool from.values a (enum_names_at table pool (count - i) from.row from.place) x out out' → PutsEnum e at table pool count row place x out₀ out'

module _ {e : ℕ} {table pool : List ℕ} {count row place at : ℕ} {out₀ : List ℕ} where
  pub enum_begun : EnumLeft e table pool count row place at out₀ 0 (record { row = row; place = place; values = 0 }) at out₀
  enum_begun =
      record {
        long = refl;
        some = omega arith;
        near = omega arith;
        rest = λ x o h.
            let z : count - 0 ≡ count = omega arith in
            record { puts = from-rest e pool at x out₀ o (enum_names_at table pool count row place) (rw z at h) };
      }

  module _ {j : ℕ} {from : EnumPlace} {a : ℕ} {out : List ℕ} (i : EnumLeft e table pool count row place at out₀ j from a out) where
    abbrev r : ℕ
    r = from.row

    abbrev p : ℕ
    p = from.place

    abbrev v : ℕ
    v = from.values

    abbrev k : ℕ
    k = count - j

    module _ (more : j < count) {m : Option Member} (h : IfKnown (enum_member_at_of table pool r p) m) where
      known : (x : Option Written) (out' : List ℕ) → (m ≡ enum_member_at_of table pool r p → Rest e pool v a (enum_names_at table pool k r p) x out out') → PutsEnum e at table pool count row place x out₀ out'
      known x out' c = i.rest x out' (known-names e table pool v a k r p x out out' (omega arith) h c)

      pub enum_unnamed : m ≡ None → PutsEnum e at table pool count row place None out₀ out
      enum_unnamed f = known None out (λ q. rw (names-none table pool r p k (omega arith) q f) (unfold Rest in tt))

      module _ {u : Member} (f : m ≡ Some u) {y : Option ℕ} {out₁ : List ℕ} (g : PlacesFrom pool p u.name (name_bytes e (take u.name (drop p pool))) a y out out₁) where
        pub enum_full : MemberInside m (length table) (length pool) r p → y ≡ None → PutsEnum e at table pool count row place None out₀ out₁
        enum_full d s =
            let b = named-inside (length table) (length pool) r p f d in
            known None out₁ (λ q. rw (names_as table pool r p k (omega arith) q f) (rest-full e pool v a p u.name u.number out g (enum_names_at table pool (k - 1) (r + 1) (p + u.name)) (omega (arith, b.1)) s out₁))

        pub enum_past : length pool - v < u.number → PutsEnum e at table pool count row place None out₀ out₁
        enum_past s = known None out₁ (λ q. rw (names_as table pool r p k (omega arith) q f) (rest-past e pool v a u.number (take u.name (drop p pool)) (enum_names_at table pool (k - 1) (r + 1) (p + u.name)) s None out out₁))

        enum_step : {b : ℕ} → y ≡ Some b → length out₁ ≡ length out → u.number ≤ length pool - v → EnumLeft e table pool count row place at out₀ (j + 1) (record { row = r + 1; place = p + u.name; values = v + u.number }) b out₁
        enum_step s t l =
            let z : count - (j + 1) ≡ k - 1 = omega arith in
            record {
              long = t ∙ i.long;
              some = let k = i.some in omega arith;
              near = omega (arith, i.near, g.inside _ s);
              rest = λ x o d. known x o (λ q. rw (names_as table pool r p k (omega arith) q f) (rest-next e pool v a p u.name u.number out g (enum_names_at table pool (k - 1) (r + 1) (p + u.name)) s x o (rw z at d)));
            }

        pub enum_next : {b : ℕ} {next : EnumPlace} → y ≡ Some b → length out₁ ≡ length out → (u.number ≤ length pool - v) × (next ≡ record { row = r + 1; place = p + u.name; values = v + u.number })
            → EnumLeft e table pool count row place at out₀ (j + 1) next b out₁
        enum_next s t q = rw q.1 (enum_step s t q.0)

    -- behind the last name
    module _ (h : count ≤ j) {y : Option ℕ} {out₁ : List ℕ} (g : PlacesFrom pool p v (take v (drop p pool)) a y out out₁) where
      ended : (x : Option Written) → (Inside pool p v → Stands (take v (drop p pool)) r (p + v) a x out out₁) → PutsEnum e at table pool count row place x out₀ out₁
      unfolding Rest enum_names_at names_of values_long
      ended x s =
          let z : k ≡ 0 = omega arith in
          i.rest x out₁ (rw (z, add-zero v) s)

      pub enum_cut : y ≡ None → PutsEnum e at table pool count row place None out₀ out₁
      enum_cut f = ended None (λ q. lost _ r (p + v) a (g.places q) f)

      pub enum_ended : {b : ℕ} → y ≡ Some b → PutsEnum e at table pool count row place (Some (record { row = r; place = p + v; at = b })) out₀ out₁
      enum_ended f = ended _ (λ q. stands _ r (p + v) a (g.places q) f)

-- ---- as many members as the row says

unfoldable Many : {A : Type 0} → ℕ → Found (List A) → Type 0
Many k (found l r p) = length l ≡ k
Many k bad = Unit {0}

module _ (table pool : List ℕ) where
  many_cons : {A : Type 0} (k : ℕ) (a : A) (y : Found (List A)) → Many k y → Many (suc k) (and_then y (λ l r p. found (a ∷ l) r p))
  unfolding Many and_then
  many_cons k a (found l r p) h = ap suc h
  many_cons k a bad h = tt

  many-entry : (k r p : ℕ) (m : Option Member) → ((r p : ℕ) → Many k (enum_names_at table pool k r p)) → Many (suc k) (from_enum_member (enum_names_at table pool k) pool r p m)
  unfolding from_enum_member
  many-entry k r p (Some m) h = many_cons k _ (enum_names_at table pool k (suc r) (p + m.name)) (h (suc r) (p + m.name))
  many-entry k r p None h = unfold Many in tt

  many-names : (k r p : ℕ) → Many k (enum_names_at table pool k r p)
  many-names zero r p = unfold Many enum_names_at in refl
  many-names (suc k) r p = rw (enum_names_at-entry table pool k r p) (many-entry k r p (enum_member_at_of table pool r p) (many-names k))

  many-valued : (k r p : ℕ) (ns : List (List ℕ × ℕ)) (y : Found (List EnumMember)) → length ns ≡ k → ValuedAs 0 pool ns r p y → Many k y
  unfolding Many ValuedAs
  many-valued k r p ns (found ms r' p') h v = v.many ∙ h
  many-valued k r p ns bad h v = tt

  many-values : (k : ℕ) (y : Found (List (List ℕ × ℕ))) → Many k y → Many k (and_then y (enum_values_at pool))
  unfolding Many and_then
  many-values k (found ns r p) h = many-valued k r p ns (enum_values_at pool ns r p) h (valued 0 pool ns r p)
  many-values k bad h = tt

  pub enum_count : (k r p : ℕ) {ms : List EnumMember} {r' p' : ℕ} → and_then (enum_names_at table pool k r p) (enum_values_at pool) ≡ found ms r' p' → length ms ≡ k
  unfolding Many
  enum_count k r p e = rw e at (many-values k (enum_names_at table pool k r p) (many-names k r p))
