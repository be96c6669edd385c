-- The walk over a compound's members, and over an array's entries: one law for each way out of them.
use Rattle.std.specs.Prelude.{Option, Some, None}
use Prim.Native.Nat.{ℕ, suc, ◌+◌, ◌-◌, ◌*◌, ◌<◌, ◌≤◌}
use mathlib.Core.Path.{◌≡◌, refl, ◌∙◌}
use mathlib.Core.List.{List, [], ◌++◌}
use native.Mathlib.Omega.{arith}
use native.Mathlib.Numerals.{add-one}
use native.Mathlib.Nat.{suc-mul, mul-le-mul_right}
use lib.ListN.{length, take, drop}
use Rattle.format.specs.Datatype.{Datatype, Members, member, type_size_of}
use Rattle.format.specs.Image.{Field, move_fields, field_entries, fields_of, member_fields}
use Rattle.format.specs.Table.{Found, found, bad, Walk, and_then, type_at, members_at}
use Rattle.format.proofs.Walking.{member_walked, entry_walked}
use Rattle.rows.specs.Entries.{member_at_of, from_member, RowNames}
use Rattle.rows.specs.declared.Member.{Member}
use Rattle.rows.proofs.Decode.{members_at-entry}
use Rattle.rows.proofs.Known.{claim_of-members}
use Rattle.compare.specs.Agreeing.{Admitted, AdmittedIn}
use Rattle.compare.proofs.Inside.{First, first_of_lem}
use Rattle.groups.specs.Runs.{RunList, add_runs}
use Rattle.groups.proofs.Runs.{runs_append}
use Rattle.runs.specs.Listing.{Held, Grows, Lists, ListsAs, ListsIn, ListsEach, ListsAt, ListsMembers, ListsEntries}
use Rattle.runs.specs.declared.Runs.{Runs}
use Rattle.runs.proofs.Storing.{grows_same, grows_both}

-- ---- fields, and others behind them

-- fields listed, whatever the row
pub record Adds (fs : List Field) (s : Runs) (w : List ℕ) (s' : Runs) (w' : List ℕ) : Type 0 where
  pub holds : (len : ℕ) (v : RunList) → Held len v s w → Held len (add_runs v fs) s' w'

adds_none : {s : Runs} {w : List ℕ} → Adds [] s w s w
unfolding add_runs
adds_none = record { holds = λ len v h. h }

adds_both : {fs gs : List Field} {s : Runs} {w : List ℕ} {s₁ : Runs} {w₁ : List ℕ} {s₂ : Runs} {w₂ : List ℕ} → Adds fs s w s₁ w₁ → Adds gs s₁ w₁ s₂ w₂ → Adds (fs ++ gs) s w s₂ w₂
adds_both {fs = fs} {gs = gs} h k = record { holds = λ len v g. rw (runs_append v fs gs) (k.holds len (add_runs v fs) (h.holds len v g)) }

adds_of : {fs : List Field} {next : ℕ} {s : Runs} {w : List ℕ} {s' : Runs} {w' : List ℕ} → Lists fs next s w s' w' → Adds fs s w s' w'
adds_of h = record { holds = h.holds }

-- ---- one member more

module _ (name : List ℕ) (o : ℕ) (rest : Walk Members) (limit at : ℕ) where
  -- the walk from the member on, by the walk to its type
  abbrev Behind : Found Datatype → Found Members
  Behind x = and_then x (λ t r₁ p₁. and_then (rest r₁ p₁) (λ ms r₂ p₂. found (member name o t ms) r₂ p₂))

  -- what is to be shown where a first member and others are found
  behind : (s : Runs) (w : List ℕ) (s' : Runs) (w' : List ℕ) (x : Found Datatype)
      → ((t : Datatype) (r p : ℕ) (ms : Members) (r' p' n : ℕ) → x ≡ found t r p → rest r p ≡ found ms r' p' → First n o t ms → at + n ≤ limit
      → Lists (move_fields at (member_fields (member name o t ms))) r' s w s' w')
      → ListsIn (Behind x) limit at s w s' w'
  unfolding and_then
  behind s w s' w' (found t r p) h = go (rest r p) refl
    where
      go : (y : Found Members) → rest r p ≡ y → ListsIn (and_then y (λ ms r₂ p₂. found (member name o t ms) r₂ p₂)) limit at s w s' w'
      go (found ms r' p') e = unfold and_then ListsIn in λ n d l. h t r p ms r' p' n refl e (first_of_lem n name o t ms d) l
      go bad e = unfold and_then ListsIn in tt
  behind s w s' w' bad h = unfold ListsIn in tt

  past : (s : Runs) (w : List ℕ) (s' : Runs) (w' : List ℕ) (x : Found Datatype) → limit - at < o → ListsIn (Behind x) limit at s w s' w'
  past s w s' w' x h = behind s w s' w' x (λ t r p ms r' p' n e g f l. absurd (omega (arith, f.ends)))

  others : (s : Runs) (w : List ℕ) (s' : Runs) (w' : List ℕ) (y : Found Members) (ms : Members) (r p n : ℕ) → y ≡ found ms r p → ListsIn y limit at s w s' w' → AdmittedIn n ms → at + n ≤ limit
      → Lists (move_fields at (member_fields ms)) r s w s' w'
  unfolding ListsIn
  others s w s' w' y ms r p n u v d l = rw u at v n d l

  module _ (s : Runs) (w : List ℕ) (s₁ : Runs) (w₁ : List ℕ) (x : Found Datatype) (h : ListsAs x limit (at + o) s w s₁ w₁) where
    -- the first member's fields
    first : (t : Datatype) (r p : ℕ) (ms : Members) (n : ℕ) → x ≡ found t r p → First n o t ms → at + n ≤ limit → Lists (move_fields (at + o) (fields_of t)) r s w s₁ w₁
    unfolding ListsAs
    first t r p ms n e f l = rw e at h f.type (omega (arith, f.ends))

    next : (s₂ : Runs) (w₂ : List ℕ) → ((p : ℕ) → ListsIn (rest s₁.row p) limit at s₁ w₁ s₂ w₂) → ListsIn (Behind x) limit at s w s₂ w₂
    next s₂ w₂ v =
        behind s w s₂ w₂ x (λ t r p ms r' p' n e g f l.
        let i = first t r p ms n e f l in
        let u : rest s₁.row p ≡ found ms r' p' = rw i.row_is g in
        let k = others s₁ w₁ s₂ w₂ (rest s₁.row p) ms r' p' n u (v p) f.others l in
        record { row_is = k.row_is; holds = rw (member_walked at name o t ms) (adds_both (adds_of i) (adds_of k)).holds })

-- ---- members

-- what is listed of the members behind the first k is listed of all
pub record Leads (most levels : ℕ) (table pool : List ℕ) (k r count row limit at : ℕ) (s : Runs) (w : List ℕ) (s₁ : Runs) (w₁ : List ℕ) : Type 0 where
  pub same : length w₁ ≡ length w
  pub leads : (s' : Runs) (w' : List ℕ) → ListsMembers most levels table pool (count - k) r limit at s₁ w₁ s' w' → ListsMembers most levels table pool count row limit at s w s' w'

pub members-start : (most levels : ℕ) (table pool : List ℕ) (count row limit at : ℕ) (s : Runs) (w : List ℕ) → Leads most levels table pool 0 row count row limit at s w s w
members-start most levels table pool count row limit at s w = let e : count - 0 ≡ count = omega arith in record { same = refl; leads = λ s' w' h. rw e at h }

module _ (table pool : List ℕ) (most depth k r count row limit at : ℕ) (s : Runs) (w : List ℕ) (s₁ : Runs) (w₁ : List ℕ) (inv : Leads most (32 - depth) table pool k r count row limit at s w s₁ w₁) where
  pub members_end : count ≤ k → ListsMembers most (32 - depth) table pool count row limit at s w (record { row = r; closed = s₁.closed; last = s₁.last }) w₁
  members_end e =
      let k : count - k ≡ 0 = omega arith in
      inv.leads _ _ (record { grows = grows_same s₁.closed; lists = λ z p. rw k (unfold members_at ListsIn in λ n d l. unfold fields_of move_fields add_runs in (record { row_is = refl; holds = λ len v h. record { open_is = h.open_is; low = h.low; closed_is = h.closed_is; stored = h.stored } })) })

  pub members-stopped : most ≤ s₁.closed → ListsMembers most (32 - depth) table pool count row limit at s w s₁ w₁
  members-stopped h = inv.leads s₁ w₁ (record { grows = grows_same s₁.closed; lists = λ z. absurd (omega arith) })

  module _ (some_left : k < count) where
    -- how many are left behind the member at hand
    abbrev left : ℕ
    left = count - (k + 1)

    abbrev rd : Walk Datatype
    rd = type_at (32 - depth) table pool

    members_as : (s' : Runs) (w' : List ℕ) → Grows s₁.closed s'.closed → (s'.closed < most → (p : ℕ) → ListsIn (members_at rd table pool (suc left) r p) limit at s₁ w₁ s' w') → ListsMembers most (32 - depth) table pool count row limit at s w s' w'
    members_as s' w' c h =
        let j : count - k ≡ suc left = omega arith in
        inv.leads s' w' (record { grows = c; lists = λ z p. rw j (h z p) })

    pub members-deep : 32 ≤ depth → ListsMembers most (32 - depth) table pool count row limit at s w s₁ w₁
    members-deep h = members_as s₁ w₁ (grows_same s₁.closed) (λ z p. rw (members_at-entry table pool left r p rd) (go p (member_at_of table pool r p)))
      where
        go : (p : ℕ) (m : Option Member) → ListsIn (from_member (type_at (32 - depth) table pool) (members_at (type_at (32 - depth) table pool) table pool left) pool r p m) limit at s₁ w₁ s₁ w₁
        go p (Some m) = let k : 32 - depth ≡ 0 = omega arith in rw k (unfold from_member type_at and_then ListsIn in tt)
        go p None = unfold from_member ListsIn in tt

    module _ {m : Option Member} (names : RowNames table r m) where
      by_member : (s' : Runs) (w' : List ℕ) {f : Option Member} → m ≡ f → Grows s₁.closed s'.closed → (s'.closed < most → (p : ℕ) → ListsIn (from_member rd (members_at rd table pool left) pool r p f) limit at s₁ w₁ s' w')
          → ListsMembers most (32 - depth) table pool count row limit at s w s' w'
      by_member s' w' e c h =
          members_as s' w' c (λ z p. claim_of-members table pool r p (λ (y : Found Members). ListsIn y limit at s₁ w₁ s' w') (unfold ListsIn in tt) rd left m (names.is pool p) (λ q. rw e (h z p)))

      pub members_unnamed : m ≡ None → ListsMembers most (32 - depth) table pool count row limit at s w s₁ w₁
      members_unnamed e = by_member s₁ w₁ e (grows_same s₁.closed) (λ z p. unfold from_member ListsIn in tt)

      module _ {v : Member} (e : m ≡ Some v) where
        members-named : (s' : Runs) (w' : List ℕ) → Grows s₁.closed s'.closed → (s'.closed < most → (p : ℕ) → ListsIn (Behind (take v.name (drop p pool)) v.number (members_at rd table pool left) limit at (rd (r + 1) (p + v.name))) limit at s₁ w₁ s' w')
            → ListsMembers most (32 - depth) table pool count row limit at s w s' w'
        members-named s' w' c h = by_member s' w' e c (λ z p. unfold from_member in (rw (add-one r) at (h z p)))

        pub members-past : limit - at < v.number → ListsMembers most (32 - depth) table pool count row limit at s w s₁ w₁
        members-past h = members-named s₁ w₁ (grows_same s₁.closed) (λ z p. past _ v.number _ limit at s₁ w₁ s₁ w₁ _ h)

        pub members-next : (s₂ : Runs) (w₂ : List ℕ) → ListsAt most (32 - depth) table pool (r + 1) limit (at + v.number) s₁ w₁ s₂ w₂ → length w₂ ≡ length w₁
            → Leads most (32 - depth) table pool (k + 1) s₂.row count row limit at s w s₂ w₂
        members-next s₂ w₂ g q =
            record {
              same = q ∙ inv.same;
              leads = λ s' w' h.
                  members-named s' w' (grows_both g.grows h.grows) (λ z p.
                  let below : s₂.closed < most = omega (arith, h.grows.more) in
                  next _ v.number _ limit at s₁ w₁ s₂ w₂ _ (g.lists below (p + v.name)) s' w' (h.lists z));
            }

-- ---- entries

-- the first k entries are listed, and behind the last of them the next row is known
unfoldable pub Done : Found Datatype → (stride k at : ℕ) (s : Runs) (w : List ℕ) (s₁ : Runs) (w₁ : List ℕ) → Type 0
Done (found t r p) stride k at s w s₁ w₁ = Admitted t → stride ≡ type_size_of t → Adds (move_fields at (field_entries stride (fields_of t) 0 k)) s w s₁ w₁ × (0 < k → s₁.row ≡ r)
Done bad stride k at s w s₁ w₁ = Unit {0}

-- k of so many entries are done, and the next begins at `start`
pub record Going (most levels : ℕ) (table pool : List ℕ) (row stride count k start limit at : ℕ) (s : Runs) (w : List ℕ) (s₁ : Runs) (w₁ : List ℕ) : Type 0 where
  pub same : length w₁ ≡ length w
  pub within : k ≤ count
  pub here : start ≡ at + k * stride
  pub begins : start ≤ limit
  pub grows : Grows s.closed s₁.closed
  pub done : s₁.closed < most → (p : ℕ) → Done (type_at levels table pool row p) stride k at s w s₁ w₁

module _ (most levels : ℕ) (table pool : List ℕ) (row stride count limit at : ℕ) (s : Runs) (w : List ℕ) where
  pub entries-start : at ≤ limit → Going most levels table pool row stride count 0 at limit at s w s w
  entries-start h = record { same = refl; within = omega arith; here = omega arith; begins = h; grows = grows_same s.closed; done = λ z p. go (type_at levels table pool row p) }
    where
      go : (x : Found Datatype) → Done x stride 0 at s w s w
      go (found t r p) = unfold Done field_entries move_fields in λ d e. (adds_none, λ z. absurd (omega arith))
      go bad = unfold Done in tt

  module _ (k start : ℕ) (s₁ : Runs) (w₁ : List ℕ) (g : Going most levels table pool row stride count k start limit at s w s₁ w₁) where
    pub entries_end : count ≤ k → ListsEntries most levels table pool row stride count limit at s w s₁ w₁
    entries_end l =
        let e : k ≡ count = omega (arith, g.within) in
        record { grows = g.grows; lists = λ z p. go (type_at levels table pool row p) (rw e at (g.done z p)) }
      where
        go : (x : Found Datatype) → Done x stride count at s w s₁ w₁ → ListsEach x stride count limit at s w s₁ w₁
        go (found t r p) h = unfold Done ListsEach in λ d e n l. record { row_is = (h d e).1 n; holds = (h d e).0.holds }
        go bad h = unfold ListsEach in tt

    pub entries-stopped : most ≤ s₁.closed → ListsEntries most levels table pool row stride count limit at s w s₁ w₁
    entries-stopped h = record { grows = g.grows; lists = λ z. absurd (omega arith) }

    module _ (some_left : k < count) where
      -- the entry at hand ends before the last does
      ends : at + count * stride ≤ limit → start + stride ≤ limit
      ends l = omega (arith, g.here, mul-le-mul_right stride some_left, suc-mul k stride)

      pub entries-past : limit - start < stride → ListsEntries most levels table pool row stride count limit at s w s₁ w₁
      entries-past h = record { grows = g.grows; lists = λ z p. go (type_at levels table pool row p) }
        where
          go : (x : Found Datatype) → ListsEach x stride count limit at s w s₁ w₁
          go (found t r p) = unfold ListsEach in λ d e n l. absurd (omega (arith, ends l))
          go bad = unfold ListsEach in tt

      pub entries_next : (s₂ : Runs) (w₂ : List ℕ) (k' start' : ℕ) → ListsAt most levels table pool row limit start s₁ w₁ s₂ w₂ → length w₂ ≡ length w₁ → k' ≡ k + 1 → start' ≡ start + stride → stride ≤ limit - start
          → Going most levels table pool row stride count k' start' limit at s w s₂ w₂
      entries_next s₂ w₂ k' start' v q i j l =
          rw (i, j)
          (record {
            same = q ∙ g.same;
            within = omega arith;
            here = rw (add-one k) (omega (arith, g.here, suc-mul k stride));
            begins = omega (arith, g.begins);
            grows = grows_both g.grows v.grows;
            done = λ z p.
                let below : s₁.closed < most = omega (arith, v.grows.more) in
                go (type_at levels table pool row p) (g.done below p) (v.lists z p);
          })
        where
          go : (x : Found Datatype) → Done x stride k at s w s₁ w₁ → ListsAs x limit start s₁ w₁ s₂ w₂ → Done x stride (k + 1) at s w s₂ w₂
          go (found t r p) h u = unfold Done ListsAs in λ d e.
              let i = u d (omega (arith, g.begins)) in
              (rw (add-one k, entry_walked at stride (fields_of t) k) (adds_both (h d e).0 (rw g.here at (adds_of i))), λ z. i.row_is)
          go bad h u = unfold Done in tt
