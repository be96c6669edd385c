-- An enumeration's values, one a turn, and names and values together.
use Rattle.std.specs.Prelude.{Err, Ok, Result}
use mathlib.Core.Path.{◌≡◌, refl, sym, ap, ◌∙◌}
use mathlib.Core.List.{List, [], ◌∷◌, ◌++◌}
use Prim.Native.Nat.{ℕ, suc, ◌+◌, ◌-◌, ◌*◌, ◌<◌, ◌≤◌}
use native.Mathlib.Nat.{add-zero}
use native.Mathlib.Omega.{arith}
use lib.ListN.{length, take, drop, length-append, length-drop}
use lib.Seq.{sets, length-sets, length-take-le}
use Rattle.refusal.specs.declared.Refusal.{Refusal}
use Rattle.refusal.specs.declared.Refusal.TheVariants.{Short, PoolFull}
use Rattle.format.specs.Datatype.{EnumMember, enum_names, enum_values}
use Rattle.format.specs.Reading.{Answer, got, refused, then, read_names_of, read_values_of}
use Rattle.format.specs.Table.{enum_rows}
use Rattle.reading.specs.declared.Limits.{Limits}
use Rattle.reading.specs.declared.Cursor.{Cursor}
use Rattle.reading.specs.Contract.{run, name_rows, joined_names, AfterNames, AfterEnum, Valued, Values, read_enum_members_of}
use Rattle.reading.proofs.Steps.{bytes-go, bytes-short, piece-go, piece-full}
use Rattle.reading.proofs.Contracts.{by_done, not_done, by_refused, not-refused, refuses, ready_at}
use Rattle.format.proofs.Lists.{sets_append}

-- ---- values

module _ {bs : List (List ℕ)} {o : Answer (List EnumMember)} {width : ℕ} {d : List ℕ} {lim : Limits} {used pooled : ℕ} {p p' : List ℕ} where
  valued : {s : Cursor} → Valued o bs width d lim used pooled s p p' → Values bs o width d lim used pooled (Ok s) p p'
  valued w = record { done = by_done (λ s. Valued o bs width d lim used pooled s p p') w; denied = not-refused (λ e. o ≡ refused e) }

  unvalued : {e : Refusal} → o ≡ refused e → Values bs o width d lim used pooled (Err e) p p'
  unvalued q = record { done = not_done (λ s. Valued o bs width d lim used pooled s p p'); denied = by_refused (λ e. o ≡ refused e) q }

-- n values from a place on
abbrev pub ValuesFrom : (d : List ℕ) (lim : Limits) (width used n at pooled : ℕ) (r : Result Cursor Refusal) (p p' : List ℕ) → Type 0
ValuesFrom d lim width used n at pooled r p p' =
    (bs : List (List ℕ)) → length bs ≡ n → Values bs (run (read_values_of width bs) d lim at used pooled) width d lim used pooled r p p'

-- the steps of one value
module _ (d : List ℕ) (lim : Limits) (width used at pooled : ℕ) (b : List ℕ) (bs : List (List ℕ)) where
  value-short : 0 < width → length d < at + width → run (read_values_of width (b ∷ bs)) d lim at used pooled ≡ refused (Short (at + width) (length d))
  unfolding read_values_of then
  value-short w h = rw (bytes-short width at d (lim.rows - used) (lim.pool - pooled) w h)

  module _ (whole : at + width ≤ length d) where
    value-long : length (take width (drop at d)) ≡ width
    value-long = length-take-le width (drop at d) (omega (arith, length-drop at d))

    value-full : lim.pool - pooled < width → run (read_values_of width (b ∷ bs)) d lim at used pooled ≡ refused PoolFull
    unfolding read_values_of then
    value-full h =
        let x = take width (drop at d) in
        let l = value-long in
        rw (
          bytes-go width at d (lim.rows - used) (lim.pool - pooled) whole,
          piece-full x (length d) (at + width) (drop (at + width) d) (lim.rows - used) lim.pool pooled (omega arith),
        )

    value-go : width ≤ lim.pool - pooled → run (read_values_of width (b ∷ bs)) d lim at used pooled
        ≡ then (run (read_values_of width bs) d lim (at + width) used (pooled + width)) (λ ms a s r q. got (record { name = b; value = take width (drop at d) } ∷ ms) a s r q)
    unfolding read_values_of then
    value-go h =
        let x = take width (drop at d) in
        let l = value-long in
        rw (
          bytes-go width at d (lim.rows - used) (lim.pool - pooled) whole,
          piece-go x (length d) (at + width) (drop (at + width) d) (lim.rows - used) lim.pool pooled (omega arith),
          l,
        )

module _ (d : List ℕ) (lim : Limits) (width used n at pooled : ℕ) (p : List ℕ) where
  values_end : n ≡ 0 → pooled ≤ lim.pool → at ≤ length d + 7 → ValuesFrom d lim width used n at pooled (Ok (record { at = at; rows = used; pooled = pooled })) p p
  unfolding read_values_of enum_rows name_rows enum_names joined_names enum_values
  values_end z room near [] e =
      valued
      (record {
        members = [];
        is = refl;
        rows_same = λ place. refl;
        names_same = refl;
        count_same = refl;
        pooled_are = sym (add-zero pooled);
        pool = refl;
        rows_are = refl;
        room = room;
        near = near;
      })
  values_end z room near (b ∷ bs) e = absurd (omega arith)

  module _ (p' : List ℕ) (some : 0 < n) where
    values-short : 0 < width → length d < at + width → ValuesFrom d lim width used n at pooled (Err (Short (at + width) (length d))) p p'
    values-short w h [] e = absurd (omega arith)
    values-short w h (b ∷ bs) e = unvalued (value-short d lim width used at pooled b bs w h)

    module _ (whole : at + width ≤ length d) where
      values-full : lim.pool - pooled < width → ValuesFrom d lim width used n at pooled (Err PoolFull) p p'
      values-full h [] e = absurd (omega arith)
      values-full h (b ∷ bs) e = unvalued (value-full d lim width used at pooled b bs whole h)

      -- a value more in front
      values-more : (p₁ : List ℕ) (r : Result Cursor Refusal) → width ≤ lim.pool - pooled → p₁ ≡ sets p pooled (take width (drop at d))
          → ValuesFrom d lim width used (n - 1) (at + width) (pooled + width) r p₁ p' → ValuesFrom d lim width used n at pooled r p p'
      unfolding then enum_rows name_rows enum_names joined_names enum_values
      values-more p₁ r h ep w [] e = absurd (omega arith)
      values-more p₁ r h ep w (b ∷ bs) e =
          let x = take width (drop at d) in
          let k : length bs ≡ n - 1 = omega arith in
          let l = value-long d lim width used at pooled b bs whole in
          let g = value-go d lim width used at pooled b bs whole h in
          record {
            done = λ s q.
                let v = (w bs k).done s q in
                record {
                  members = record { name = b; value = x } ∷ v.members;
                  is = g ∙ rw v.is;
                  rows_same = λ place. rw (l, v.rows_same);
                  names_same = ap (λ (m : List ℕ). b ++ m) v.names_same;
                  count_same = ap suc v.count_same;
                  pooled_are = omega (arith, length-append x (enum_values v.members));
                  pool = v.pool ∙ rw (ep, sets_append x (enum_values v.members) p pooled, l);
                  rows_are = v.rows_are;
                  room = v.room;
                  near = v.near;
                };
            denied = λ f q. g ∙ rw ((w bs k).denied f q);
          }

-- the answer from value i on is the answer from the start
abbrev pub Onward : (d : List ℕ) (lim : Limits) (width used count at₀ pooled₀ : ℕ) (p₀ : List ℕ) (i at pooled : ℕ) (p : List ℕ) → Type 0
Onward d lim width used count at₀ pooled₀ p₀ i at pooled p =
    (r : Result Cursor Refusal) (p' : List ℕ) → ValuesFrom d lim width used (count - i) at pooled r p p' → ValuesFrom d lim width used count at₀ pooled₀ r p₀ p'

module _ (d : List ℕ) (lim : Limits) (width used count at₀ pooled₀ : ℕ) (p₀ : List ℕ) where
  pub onward_start : Onward d lim width used count at₀ pooled₀ p₀ 0 at₀ pooled₀ p₀
  onward_start r p' w bs e = w bs (omega arith)

  module _ (i at pooled : ℕ) (p : List ℕ) (go : Onward d lim width used count at₀ pooled₀ p₀ i at pooled p) where
    pub onward_end : {rows : ℕ} → rows ≡ used → count ≤ i → pooled ≤ lim.pool → at ≤ length d + 7 → ValuesFrom d lim width used count at₀ pooled₀ (Ok (record { at = at; rows = rows; pooled = pooled })) p₀ p
    onward_end e h room near = rw e (go _ p (values_end d lim width used (count - i) at pooled p (omega arith) room near))

    module _ (more : i < count) where
      pub onward_short : 0 < width → length d < at + width → ValuesFrom d lim width used count at₀ pooled₀ (Err (Short (at + width) (length d))) p₀ p
      onward_short w h = go _ p (values-short d lim width used (count - i) at pooled p p (omega arith) w h)

      module _ (whole : at + width ≤ length d) where
        pub onward_full : lim.pool - pooled < width → ValuesFrom d lim width used count at₀ pooled₀ (Err PoolFull) p₀ p
        onward_full h = go _ p (values-full d lim width used (count - i) at pooled p p (omega arith) whole h)

        pub onward_more : (p₁ : List ℕ) → width ≤ lim.pool - pooled → p₁ ≡ sets p pooled (take width (drop at d)) → Onward d lim width used count at₀ pooled₀ p₀ (i + 1) (at + width) (pooled + width) p₁
        onward_more p₁ h ep r p' w =
            go r p' (values-more d lim width used (count - i) at pooled p p' (omega arith) whole p₁ r h ep (λ bs e. w bs (omega arith)))

-- ---- names, then values

-- values behind the names
joined : (ns ms vs p p₁ p' : List ℕ) (i j : ℕ) → ns ≡ ms → j ≡ i + length ms → p₁ ≡ sets p i ms → p' ≡ sets p₁ j vs → p' ≡ sets p i (ns ++ vs)
joined ns ms vs p p₁ p' i j e f g h = h ∙ rw (f, g, e, sets_append ms vs p i)

module _ (d : List ℕ) (lim : Limits) (v count width at used pooled : ℕ) (r : Result Cursor Refusal) (t t₁ p p₁ : List ℕ)
    (names : AfterNames count width (run (read_names_of v count) d lim at used pooled) d lim used pooled r t t₁ p p₁) where
  pub names-refused : {e : Refusal} → r ≡ Err e
      → AfterEnum count (run (read_enum_members_of v count width) d lim at used pooled) d lim used pooled (Err e) t t₁ p p₁
  unfolding read_enum_members_of then
  names-refused {e} q = refuses (rw (names.denied e q))

  -- what the values ask, behind the names
  module _ {s : Cursor} (q : r ≡ Ok s) where
    pub names-room : s.pooled ≤ lim.pool
    names-room = (names.done s q).ready.room

    pub names-near : s.at ≤ length d + 7
    names-near = (names.done s q).near

    pub names-held : lim.pool ≤ length p₁
    names-held = (names.done s q).ready.pool

  pub names-valued : {s : Cursor} {r' : Result Cursor Refusal} {p' : List ℕ} → r ≡ Ok s → ValuesFrom d lim width s.rows count s.at s.pooled r' p₁ p'
      → AfterEnum count (run (read_enum_members_of v count width) d lim at used pooled) d lim used pooled r' t t₁ p p'
  unfolding read_enum_members_of then
  names-valued {s} q w =
      let l = names.done s q in
      let bs = l.tree in
      let o : run (read_enum_members_of v count width) d lim at used pooled ≡ run (read_values_of width bs) d lim s.at s.rows s.pooled = rw l.is in
      record {
        done = λ z e.
            let m = (w bs l.such).done z e in
            record {
              tree = m.members;
              such = m.count_same ∙ l.such;
              is = o ∙ m.is;
              rows_are = omega (arith, m.count_same);
              pooled_are = omega (arith, length-append (enum_names m.members) (enum_values m.members), ap length m.names_same);
              table = l.table ∙ ap (sets t (used * 16)) (sym (m.rows_same pooled));
              pool = joined (enum_names m.members) (joined_names bs) (enum_values m.members) p p₁ _ pooled s.pooled m.names_same l.pooled_are l.pool m.pool;
              ready = ready_at z.rows z.pooled l.ready (omega (arith, m.rows_are, l.ready.filled)) m.room refl (ap length m.pool ∙ length-sets p₁ s.pooled (enum_values m.members));
              near = m.near;
            };
        denied = λ f e. o ∙ (w bs l.such).denied f e;
      }
