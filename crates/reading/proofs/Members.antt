-- The members of a compound, one turn of the loop after another.
use Rattle.std.specs.Prelude.{Err, Ok, Result}
use mathlib.Core.Path.{◌≡◌, refl, sym, ap, ◌∙◌}
use mathlib.Core.List.{List, ◌++◌, append_assoc, append-nil}
use Prim.Native.Nat.{ℕ, suc, ◌+◌, ◌-◌, ◌*◌, ◌<◌, ◌≤◌}
use native.Mathlib.Omega.{arith}
use native.Mathlib.Nat.{add-zero}
use lib.ListN.{length, take, drop, length-append}
use lib.Seq.{sets, length-sets}
use mir.Syntax.{w64}
use mir.Val.{Fits}
use Rattle.refusal.specs.declared.Refusal.{Refusal}
use Rattle.format.specs.Datatype.{Datatype, Members, no_members, member, member_count_of, row_count, member_row_count, pool_bytes, member_pool, type_size_of}
use Rattle.format.specs.Reading.{Answer, got, refused, Reader, then, read_members_of}
use Rattle.format.specs.Table.{rows, member_row, member_rows}
use Rattle.format.proofs.Rows.{length-member_row, length-member_rows}
use Rattle.format.proofs.Lists.{sets_more, part-all}
use Rattle.reading.specs.declared.Limits.{Limits}
use Rattle.reading.specs.declared.Cursor.{Cursor}
use Rattle.reading.specs.declared.State.{State}
use Rattle.reading.specs.Contract.{run, Ready, Landed, AfterType, AfterMembers, Entered, Enters}
use Rattle.reading.proofs.Contracts.{lands, refuses, part-near}
use Rattle.reading.proofs.Steps.{inner-go, inner_no}
use Rattle.reading.specs.Members.{join_members, Progress}

-- ---- members behind members

pub join-none : (ms : Members) → join_members ms no_members ≡ ms
unfolding join_members
join-none no_members = refl
join-none (member b o t ms) = ap (member b o t) (join-none ms)

join-join : (ms ns qs : Members) → join_members (join_members ms ns) qs ≡ join_members ms (join_members ns qs)
unfolding join_members
join-join no_members ns qs = refl
join-join (member b o t ms) ns qs = ap (member b o t) (join-join ms ns qs)

join-count : (ms ns : Members) → member_count_of (join_members ms ns) ≡ member_count_of ms + member_count_of ns
unfolding join_members member_count_of
join-count no_members ns = omega arith
join-count (member b o t ms) ns = omega (arith, join-count ms ns)

join-rows : (ms ns : Members) → member_row_count (join_members ms ns) ≡ member_row_count ms + member_row_count ns
unfolding join_members row_count
join-rows no_members ns = omega arith
join-rows (member b o t ms) ns = omega (arith, join-rows ms ns)

join-pool : (ms ns : Members) → member_pool (join_members ms ns) ≡ member_pool ms ++ member_pool ns
unfolding join_members pool_bytes
join-pool no_members ns = refl
join-pool (member b o t ms) ns = simp (join-pool ms ns, append_assoc)

join-words : (ms ns : Members) (p : ℕ) → member_rows p (join_members ms ns) ≡ member_rows p ms ++ member_rows (p + length (member_pool ms)) ns
unfolding join_members rows pool_bytes
join-words no_members ns p = rw (add-zero p)
join-words (member b o t ms) ns p =
    let e : p + length b + length (pool_bytes t) + length (member_pool ms) ≡ p + length (b ++ (pool_bytes t ++ member_pool ms)) = simp length-append (omega arith) in
    rw (join-words ms ns (p + length b + length (pool_bytes t)), e) (simp append_assoc)

then_same : {A : Type 0} (x : Answer A) → x ≡ then x (λ a at s r p. got a at s r p)
unfolding then
then_same (got a at s r p) = refl
then_same (refused e) = refl

-- the answer behind one member more
one_more : (x : Answer Members) (front : Members) (b : List ℕ) (o : ℕ) (t : Datatype)
    → then (then x (λ ms at s r p. got (member b o t ms) at s r p)) (λ ms at s r p. got (join_members front ms) at s r p)
    ≡ then x (λ ms at s r p. got (join_members (join_members front (member b o t no_members)) ms) at s r p)
unfolding then join_members
one_more (got ms at s r p) front b o t = ap (λ (m : Members). got m at s r p) (sym (join-join front (member b o t no_members) ms))
one_more (refused e) front b o t = refl

member-words : (p : ℕ) (b : List ℕ) (o : ℕ) (t : Datatype) → member_rows p (member b o t no_members) ≡ member_row p o (length b) ++ rows (p + length b) t
unfolding rows
member-words p b o t = ap (λ (l : List ℕ). member_row p o (length b) ++ l) (append-nil (rows (p + length b) t))

member-bytes : (b : List ℕ) (o : ℕ) (t : Datatype) → member_pool (member b o t no_members) ≡ b ++ pool_bytes t
unfolding pool_bytes
member-bytes b o t = ap (λ (l : List ℕ). b ++ l) (append-nil (pool_bytes t))

member-rows : (b : List ℕ) (o : ℕ) (t : Datatype) → member_row_count (member b o t no_members) ≡ 1 + row_count t
unfolding row_count
member-rows b o t = omega arith

member-one : (b : List ℕ) (o : ℕ) (t : Datatype) → member_count_of (member b o t no_members) ≡ 1
unfolding member_count_of
member-one b o t = refl

abbrev pub LandedType : Answer Datatype → List ℕ → Limits → (used pooled : ℕ) → State → (t t' p p' : List ℕ) → Type 0
LandedType o d lim used pooled s = Landed rows pool_bytes row_count (λ t. (s.size ≡ type_size_of t) × (0 < type_size_of t)) o d lim used pooled s.end

-- ---- the loop

module _ (rd : Reader Datatype) (d : List ℕ) (lim : Limits) (v size count : ℕ) {start : Cursor} {i : ℕ} {c : Cursor} {t t₁ t₂ t₃ p p₁ p₂ p₃ : List ℕ}
    (w : Progress rd d lim v size count start i c t t₁ p p₁) (more : i < count) {s : Cursor} {z : State} where
  turned : Entered d lim v size c s t₁ t₂ p₁ p₂
      → LandedType (run rd (take (length d - s.at) (drop s.at d)) lim 0 s.rows s.pooled) (take (length d - s.at) (drop s.at d)) lim s.rows s.pooled z t₂ t₃ p₂ p₃
      → Progress rd d lim v size count start (i + 1) (record { at = s.at + z.end.at; rows = z.end.rows; pooled = z.end.pooled }) t t₃ p p₃
  unfolding then
  turned e l =
      let b = e.name in
      let one = member b e.offset l.tree no_members in
      let left : count - i ≡ suc (count - (i + 1)) = omega arith in
      let rest = run (read_members_of rd v size (count - (i + 1))) d lim (s.at + z.end.at) z.end.rows z.end.pooled in
      let words₂ : t₂ ≡ sets t (start.rows * 16) (member_rows start.pooled w.front ++ member_row c.pooled e.offset (length b)) =
      sets_more t (member_rows start.pooled w.front) (member_row c.pooled e.offset (length b)) (start.rows * 16) (c.rows * 16) w.table e.table (omega (arith, w.rows_are, length-member_rows w.front start.pooled)) in
      let words₃ : t₃ ≡ sets t (start.rows * 16) ((member_rows start.pooled w.front ++ member_row c.pooled e.offset (length b)) ++ rows s.pooled l.tree) =
      sets_more t (member_rows start.pooled w.front ++ member_row c.pooled e.offset (length b)) (rows s.pooled l.tree) (start.rows * 16) (s.rows * 16) words₂ l.table
      (omega (arith, w.rows_are, e.rows_are, length-member_rows w.front start.pooled, length-member_row c.pooled e.offset (length b), length-append (member_rows start.pooled w.front) (member_row c.pooled e.offset (length b)))) in
      let bytes₂ : p₂ ≡ sets p start.pooled (member_pool w.front ++ b) = sets_more p (member_pool w.front) b start.pooled c.pooled w.pool e.pool w.place_is in
      let bytes₃ : p₃ ≡ sets p start.pooled ((member_pool w.front ++ b) ++ pool_bytes l.tree) =
      sets_more p (member_pool w.front ++ b) (pool_bytes l.tree) start.pooled s.pooled bytes₂ l.pool (omega (arith, e.pooled_are, w.place_is, length-append (member_pool w.front) b)) in
      let words : member_rows start.pooled (join_members w.front one) ≡ (member_rows start.pooled w.front ++ member_row c.pooled e.offset (length b)) ++ rows s.pooled l.tree =
      join-words w.front one start.pooled ∙ rw (member-words (start.pooled + length (member_pool w.front)) b e.offset l.tree, ← w.place_is, ← e.pooled_are, append_assoc) in
      let bytes : member_pool (join_members w.front one) ≡ (member_pool w.front ++ b) ++ pool_bytes l.tree =
      join-pool w.front one ∙ rw (member-bytes b e.offset l.tree, append_assoc) in
      record {
        front = join_members w.front one;
        is = w.is ∙ rw (left, e.is rd (count - (i + 1)), inner-go rd d _ s.at (part-all d s.at) lim s.rows s.pooled l.tree z.end l.is) (one_more rest w.front b e.offset l.tree);
        counted = join-count w.front one ∙ omega (arith, w.counted, member-one b e.offset l.tree);
        inside = omega arith;
        rows_are = l.rows_are ∙ omega (arith, e.rows_are, w.rows_are, join-rows w.front one, member-rows b e.offset l.tree);
        place_is = l.pooled_are ∙ omega (arith, e.pooled_are, w.place_is, ap length bytes, length-append (member_pool w.front ++ b) (pool_bytes l.tree), length-append (member_pool w.front) b);
        table = words₃ ∙ ap (sets t (start.rows * 16)) (sym words);
        pool = bytes₃ ∙ ap (sets p start.pooled) (sym bytes);
        ready = l.ready;
        near = part-near d e.within l.near;
        few = w.few;
        short = w.short;
      }

-- the table and the pool keep their lengths, in the calls of a turn too
module _ {rd : Reader Datatype} {d : List ℕ} {lim : Limits} {v size count : ℕ} {start : Cursor} {i : ℕ} {c : Cursor} {t t₁ p p₁ : List ℕ}
    (w : Progress rd d lim v size count start i c t t₁ p p₁) where
  pub progress_table : length t₁ ≡ length t
  progress_table = ap length w.table ∙ length-sets t (start.rows * 16) (member_rows start.pooled w.front)

  pub progress_pool : length p₁ ≡ length p
  progress_pool = ap length w.pool ∙ length-sets p start.pooled (member_pool w.front)

  module _ {n : ℕ} where
    pub table-entered : n ≡ length t₁ → n ≡ length t
    table-entered h = h ∙ progress_table

    pub pool-entered : n ≡ length p₁ → n ≡ length p
    pool-entered h = h ∙ progress_pool

    module _ {m : ℕ} where
      pub table-turned : m ≡ length t₁ → n ≡ m → n ≡ length t
      table-turned h g = g ∙ h ∙ progress_table

      pub pool-turned : m ≡ length p₁ → n ≡ m → n ≡ length p
      pool-turned h g = g ∙ h ∙ progress_pool

-- what a member's entering leaves for its type
pub entered-ready : {d : List ℕ} {lim : Limits} {v size : ℕ} {c : Cursor} {t t₂ p p₂ : List ℕ} {x : Result Cursor Refusal} {s : Cursor}
    → Enters d lim v size c x t t₂ p p₂ → x ≡ Ok s → Ready lim s.rows s.pooled t₂ p₂
entered-ready {s = s} m q = (m.entered s q).ready

-- the place behind that type and the number of the next member do not wrap
module _ {rd : Reader Datatype} {d : List ℕ} {lim : Limits} {v size count : ℕ} {start : Cursor} {i : ℕ} {c : Cursor} {t t₁ p p₁ : List ℕ}
    (w : Progress rd d lim v size count start i c t t₁ p p₁) where
  pub entered-behind : {t₂ t₃ p₂ p₃ : List ℕ} {o : Answer Datatype} {x : Result Cursor Refusal} {y : Result State Refusal} {s : Cursor} {z : State} → Enters d lim v size c x t₁ t₂ p₁ p₂ → x ≡ Ok s
      → AfterType o (take (length d - s.at) (drop s.at d)) lim s.rows s.pooled y t₂ t₃ p₂ p₃ → y ≡ Ok z → s.at + z.end.at < 18446744073709551616
  entered-behind {s = s} {z = z} m q n k =
      let near = part-near d (m.entered s q).within (n.done z k).near in
      let l = w.short in
      omega arith

  pub entered-next : i < count → Fits w64 (i + 1)
  entered-next h = let l = w.few in record { fits = omega arith }

module _ (rd : Reader Datatype) (d : List ℕ) (lim : Limits) (v size count : ℕ) (start : Cursor) where
  pub members-begun : {t p : List ℕ} → Ready lim start.rows start.pooled t p → start.at ≤ length d + 7 → count < 65536 → length d * 1 < 9223372036854775808 → Progress rd d lim v size count start 0 start t t p p
  unfolding join_members member_count_of row_count pool_bytes rows
  members-begun ready near few short =
      let whole : count - 0 ≡ count = omega arith in
      record {
        front = no_members;
        is = rw whole (then_same (run (read_members_of rd v size count) d lim start.at start.rows start.pooled));
        counted = refl;
        inside = omega arith;
        rows_are = omega arith;
        place_is = omega arith;
        table = refl;
        pool = refl;
        ready = ready;
        near = near;
        few = few;
        short = short;
      }

  module _ {i : ℕ} {c : Cursor} {t t₁ p p₁ : List ℕ} (w : Progress rd d lim v size count start i c t t₁ p p₁) where
    pub members-ended : count ≤ i
        → AfterMembers count (run (read_members_of rd v size count) d lim start.at start.rows start.pooled) d lim start.rows start.pooled (Ok c) t t₁ p p₁
    unfolding read_members_of then
    members-ended h =
        let none_left : count - i ≡ 0 = omega (arith, w.inside) in
        lands (record {
          tree = w.front;
          such = omega (arith, w.counted, w.inside);
          is = w.is ∙ rw (none_left, join-none w.front);
          rows_are = w.rows_are;
          pooled_are = w.place_is;
          table = w.table;
          pool = w.pool;
          ready = w.ready;
          near = w.near;
        })

    module _ (more : i < count) where
      one_left : count - i ≡ suc (count - (i + 1))
      one_left = omega arith

      module _ {x : Result Cursor Refusal} {t₂ p₂ : List ℕ} (m : Enters d lim v size c x t₁ t₂ p₁ p₂) where
        pub members-stopped : {e : Refusal} → x ≡ Err e
            → AfterMembers count (run (read_members_of rd v size count) d lim start.at start.rows start.pooled) d lim start.rows start.pooled (Err e) t t₂ p p₂
        unfolding then
        members-stopped {e} q = refuses (w.is ∙ rw (one_left, m.stopped e q rd (count - (i + 1))))

        module _ {s : Cursor} (q : x ≡ Ok s) where
          pub entered-within : s.at ≤ length d
          entered-within = (m.entered s q).within

          module _ {y : Result State Refusal} {t₃ p₃ : List ℕ}
              (n : AfterType (run rd (take (length d - s.at) (drop s.at d)) lim 0 s.rows s.pooled) (take (length d - s.at) (drop s.at d)) lim s.rows s.pooled y t₂ t₃ p₂ p₃) where
            pub members-refused : {e : Refusal} → y ≡ Err e
                → AfterMembers count (run (read_members_of rd v size count) d lim start.at start.rows start.pooled) d lim start.rows start.pooled (Err e) t t₃ p p₃
            unfolding then
            members-refused {e} k =
                refuses (w.is ∙ rw (one_left, (m.entered s q).is rd (count - (i + 1)), inner_no rd d _ s.at (part-all d s.at) lim s.rows s.pooled e (n.denied e k)))

            pub members-turned : {z : State} → y ≡ Ok z
                → Progress rd d lim v size count start (i + 1) (record { at = s.at + z.end.at; rows = z.end.rows; pooled = z.end.pooled }) t t₃ p p₃
            members-turned {z} k = turned rd d lim v size count w more (m.entered s q) (n.done z k)
