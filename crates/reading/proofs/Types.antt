-- A type, by what its header opens: one law for each way out of the reader's function.
use Rattle.std.specs.Prelude.{true, Err, Ok, Result}
use mathlib.Core.Path.{◌≡◌, refl, sym, ap, ◌∙◌}
use mathlib.Core.List.{List, ◌++◌}
use Prim.Native.Nat.{ℕ, suc, ◌+◌, ◌-◌, ◌*◌, ◌<◌, ◌≤◌}
use native.Mathlib.Omega.{arith}
use lib.ListN.{length, take, drop}
use lib.Seq.{sets, length-sets}
use Rattle.refusal.specs.declared.Refusal.{Refusal}
use Rattle.refusal.specs.declared.Refusal.TheVariants.{TooDeep}
use Rattle.format.specs.declared.Header.{Header}
use Rattle.format.specs.Datatype.{Datatype, compound, Members, member_count_of, row_count, pool_bytes, type_size_of}
use Rattle.format.specs.Reading.{Answer, refused, then, count_of, read_members_of, read_type_of, sized, class_kind}
use Rattle.format.specs.Table.{compound_row, rows, member_rows}
use Rattle.format.proofs.Rows.{length-compound_row, length-rows}
use Rattle.format.proofs.Lists.{part-all, sets_more}
use Rattle.reading.specs.declared.Base.{Base}
use Rattle.reading.specs.declared.LeafKind.{LeafKind}
use Rattle.reading.specs.declared.Limits.{Limits}
use Rattle.reading.specs.declared.Cursor.{Cursor}
use Rattle.reading.specs.declared.State.{State}
use Rattle.reading.specs.declared.LeafKind.TheVariants.{FixedPoint, FloatingPoint, Time, String, BitField, Opaque, Reference}
use Rattle.reading.specs.declared.Opened.{Opened}
use Rattle.reading.specs.declared.Opened.TheVariants.{Leaf, Compound, Based}
use Rattle.reading.specs.Contract.{run, here, Ready, AfterType, AfterMembers, Heads, Opens, leaf_kind, kind_of_leaf, read_leaf_of, read_compound, read_based, behind, dimensions_of_lem, Surrounds, BaseRead, Ended, Ends, EndsRow}
use Rattle.reading.proofs.Contracts.{same, refuses, ready_at, part-near, sets-before}
use Rattle.reading.proofs.Members.{LandedType}
use Rattle.reading.proofs.Steps.{type-deep, sized_no, sized-go, sized-zero, inner-go, inner_no}

-- ---- what is known of an opened type, whatever the levels left

leaf-of : (k : LeafKind) → leaf_kind (kind_of_leaf k) ≡ true
unfolding leaf_kind kind_of_leaf
leaf-of FixedPoint = refl
leaf-of FloatingPoint = refl
leaf-of Time = refl
leaf-of String = refl
leaf-of BitField = refl
leaf-of Opaque = refl
leaf-of Reference = refl

module _ {d : List ℕ} {lim : Limits} {used pooled : ℕ} {h : Header} {o : Opened} (w : Opens d lim used pooled h (Ok o)) where
  module _ {k : LeafKind} (q : o ≡ Leaf k) where
    pub leaf-free : used < lim.rows
    leaf-free = (w.leaf k (ap Ok q)).free

    pub leaf-long : 8 ≤ length d
    leaf-long = (w.leaf k (ap Ok q)).long

    pub leaf-kind : leaf_kind (class_kind h.class) ≡ true
    leaf-kind = rw ((w.leaf k (ap Ok q)).kind) (leaf-of k)

  module _ {v : ℕ} (q : o ≡ Compound v) where
    pub compound-free : used < lim.rows
    compound-free = (w.compound v (ap Ok q)).free

    pub compound-long : 8 ≤ length d
    compound-long = (w.compound v (ap Ok q)).long

    pub compound-ready : {t p : List ℕ} → Ready lim used pooled t p → Ready lim (used + 1) pooled t p
    compound-ready ready = ready_at (used + 1) pooled ready (omega (arith, compound-free)) ready.room refl refl

  module _ {b : Base} (q : o ≡ Based b) where
    pub based-free : used < lim.rows
    based-free = (w.based b (ap Ok q)).free

    pub based-within : b.from ≤ length d
    based-within = (w.based b (ap Ok q)).within

    pub based-ready : {t p : List ℕ} → Ready lim used pooled t p → Ready lim (used + 1) b.place t p
    based-ready ready = ready_at (used + 1) b.place ready (omega (arith, based-free)) (w.based b (ap Ok q)).room refl refl

    pub based_around : Surrounds d (class_kind h.class) b.around
    based_around = (w.based b (ap Ok q)).around

    module _ {inner : Answer Datatype} {r : Result State Refusal} {t t₂ p p₂ : List ℕ} {s : State}
        (n : AfterType inner (take (length d - b.from) (drop b.from d)) lim (used + 1) b.place r t t₂ p p₂) (k : r ≡ Ok s) where
      based_near : b.from + s.end.at ≤ length d + 7
      based_near = part-near d based-within (n.done s k).near

      pub based_fits : length d * 1 < 9223372036854775808 → b.from + s.end.at < 18446744073709551616
      based_fits l = let m = based_near in omega arith

      pub based_read : BaseRead d lim used pooled (dimensions_of_lem d b.around) (record { end = record { at = b.from + s.end.at; rows = s.end.rows; pooled = s.end.pooled }; size = s.size }) t₂ p₂
      based_read =
          let l = n.done s k in
          record {
            ready = l.ready;
            near = based_near;
            some_size = omega (arith, l.such.0, l.such.1);
            more = omega (arith, l.rows_are);
            place = omega (arith, l.pooled_are, (w.based b (ap Ok q)).place_is);
          }

pub compound-filled : (used : ℕ) {d : List ℕ} {lim : Limits} {pooled count : ℕ} {inner : Answer Members} {r : Result Cursor Refusal} {t t₂ p p₂ : List ℕ} {s : Cursor}
    → AfterMembers count inner d lim (used + 1) pooled r t t₂ p p₂ → r ≡ Ok s → used * 16 + 16 ≤ length t₂
compound-filled used {s = s} m k =
    let l = m.done s k in
    let n = l.ready.filled in
    let x = l.ready.table in
    omega (arith, l.rows_are)

-- ---- a type

level : {levels : ℕ} → (levels ≡ 0 → ⊥) → levels ≡ suc (levels - 1)
level more = omega arith

module _ {d : List ℕ} {lim : Limits} {used pooled levels : ℕ} where
  pub type-ends : {t t' p p' : List ℕ} → levels ≡ 0 → AfterType (run (read_type_of lim.version levels) d lim 0 used pooled) d lim used pooled (Err TooDeep) t t' p p'
  type-ends h = refuses (type-deep lim.version levels d lim used pooled h)

  pub type-headless : {r : Result Header Refusal} {e : Refusal} {t t' p p' : List ℕ} → (levels ≡ 0 → ⊥) → Heads d lim used r → r ≡ Err e
      → AfterType (run (read_type_of lim.version levels) d lim 0 used pooled) d lim used pooled (Err e) t t' p p'
  type-headless {e = e} more w q =
      refuses (ap (λ (n : ℕ). run (read_type_of lim.version n) d lim 0 used pooled) (level more) ∙ w.shut e q (levels - 1) pooled)

  module _ {h : Header} {r : Result Opened Refusal} (more : levels ≡ 0 → ⊥) (w : Opens d lim used pooled h r) where
    at_level : {x : Answer Datatype} → run (read_type_of lim.version (suc (levels - 1))) d lim 0 used pooled ≡ x → run (read_type_of lim.version levels) d lim 0 used pooled ≡ x
    at_level e = ap (λ (n : ℕ). run (read_type_of lim.version n) d lim 0 used pooled) (level more) ∙ e

    pub type-shuts : {e : Refusal} {t t' p p' : List ℕ} → r ≡ Err e
        → AfterType (run (read_type_of lim.version levels) d lim 0 used pooled) d lim used pooled (Err e) t t' p p'
    type-shuts {e} q = refuses (at_level (w.shut e q (levels - 1)))

  module _ {h : Header} {o : Opened} (more : levels ≡ 0 → ⊥) (w : Opens d lim used pooled h (Ok o)) where
    module _ {k : LeafKind} (q : o ≡ Leaf k) where
      pub type-leaf : {r : Result State Refusal} {t t' p p' : List ℕ} → AfterType (run (sized h (read_leaf_of h)) d lim 8 (used + 1) pooled) d lim used pooled r t t' p p'
          → AfterType (run (read_type_of lim.version levels) d lim 0 used pooled) d lim used pooled r t t' p p'
      type-leaf = same (at_level more w ((w.leaf k (ap Ok q)).is (levels - 1)))

    -- ---- a compound

    module _ {v : ℕ} (q : o ≡ Compound v) where
      module _ {count : ℕ} {r : Result Cursor Refusal} {t t₂ p p₂ : List ℕ} (counted : count ≡ count_of h)
          (m : AfterMembers count (run (read_members_of (read_type_of lim.version (levels - 1)) v h.size count) d lim 8 (used + 1) pooled) d lim (used + 1) pooled r t t₂ p p₂) where
        compound_no : (e : Refusal) → run (read_members_of (read_type_of lim.version (levels - 1)) v h.size count) d lim 8 (used + 1) pooled ≡ refused e
            → run (read_compound (read_type_of lim.version (levels - 1)) h v) d lim 8 (used + 1) pooled ≡ refused e
        unfolding read_compound then
        compound_no e k = rw (← counted, k)

        compound-is : (ms : Members) (s : Cursor) → run (read_members_of (read_type_of lim.version (levels - 1)) v h.size count) d lim 8 (used + 1) pooled ≡ here ms d lim s
            → run (read_compound (read_type_of lim.version (levels - 1)) h v) d lim 8 (used + 1) pooled ≡ here (compound h.size ms) d lim s
        unfolding read_compound then
        compound-is ms s k = rw (← counted, k)

        pub compound-refuses : {e : Refusal} → r ≡ Err e
            → AfterType (run (read_type_of lim.version levels) d lim 0 used pooled) d lim used pooled (Err e) t t₂ p p₂
        compound-refuses {e} k =
            refuses (at_level more w ((w.compound v (ap Ok q)).is (levels - 1) ∙ sized_no h (read_compound (read_type_of lim.version (levels - 1)) h v) _ _ _ _ _ e (compound_no e (m.denied e k))))

        module _ {s : Cursor} (k : r ≡ Ok s) where
          module _ {y : Result State Refusal} {t₃ : List ℕ} (c : EndsRow used h.class (compound_row h.size count) s h.size y t₂ t₃) where
            compound_landed : (z : State) → y ≡ Ok z → LandedType (run (read_type_of lim.version levels) d lim 0 used pooled) d lim used pooled z t t₃ p p₂
            unfolding type_size_of rows pool_bytes row_count
            compound_landed z e =
                let l = m.done s k in
                let x = c.done z e in
                let head = compound_row h.size (member_count_of l.tree) in
                let stored : t₃ ≡ sets (sets t ((used + 1) * 16) (member_rows pooled l.tree)) (used * 16) head = x.2 ∙ rw (← l.table, l.such) in
                rw x.0 (record {
                  tree = compound h.size l.tree;
                  such = (refl, x.1);
                  is = at_level more w ((w.compound v (ap Ok q)).is (levels - 1) ∙ sized-go h (read_compound (read_type_of lim.version (levels - 1)) h v) _ _ _ _ _ _ _ _ _ _ (compound-is l.tree s l.is) x.1);
                  rows_are = l.rows_are ∙ omega arith;
                  pooled_are = l.pooled_are;
                  table = stored ∙ sets-before head (member_rows pooled l.tree) t (used * 16) ((used + 1) * 16) (omega (arith, length-compound_row h.size (member_count_of l.tree)));
                  pool = l.pool;
                  ready = ready_at s.rows s.pooled l.ready l.ready.filled l.ready.room (ap length x.2 ∙ length-sets t₂ (used * 16) (compound_row h.size count)) refl;
                  near = l.near;
                })

            zero-sized : (e : Refusal) → y ≡ Err e → run (read_type_of lim.version levels) d lim 0 used pooled ≡ refused e
            unfolding type_size_of
            zero-sized e j =
                let x = c.denied e j in
                at_level more w ((w.compound v (ap Ok q)).is (levels - 1) ∙ sized-zero h (read_compound (read_type_of lim.version (levels - 1)) h v) _ _ _ _ _ _ _ _ _ _ (compound-is (m.done s k).tree s (m.done s k).is) x.1 ∙ ap refused (sym x.0))

            pub compound-ends : AfterType (run (read_type_of lim.version levels) d lim 0 used pooled) d lim used pooled y t t₃ p p₂
            compound-ends = record { done = compound_landed; denied = zero-sized }

    -- ---- a type over a base

    module _ {b : Base} (q : o ≡ Based b) where
      module _ {r : Result State Refusal} {t t₂ p p₂ : List ℕ}
          (n : AfterType (run (read_type_of lim.version (levels - 1)) (take (length d - b.from) (drop b.from d)) lim 0 (used + 1) b.place) (take (length d - b.from) (drop b.from d)) lim (used + 1) b.place r t t₂ p p₂) where
        based_no : (e : Refusal) → run (read_type_of lim.version (levels - 1)) (take (length d - b.from) (drop b.from d)) lim 0 (used + 1) b.place ≡ refused e
            → run (read_based (read_type_of lim.version (levels - 1)) h (dimensions_of_lem d b.around)) d lim b.from (used + 1) b.place ≡ refused e
        unfolding read_based then
        based_no e k = rw (inner_no (read_type_of lim.version (levels - 1)) d _ b.from (part-all d b.from) lim (used + 1) b.place e k)

        pub based-refuses : {e : Refusal} → r ≡ Err e
            → AfterType (run (read_type_of lim.version levels) d lim 0 used pooled) d lim used pooled (Err e) t t₂ p p₂
        based-refuses {e} k =
            refuses (at_level more w ((w.based b (ap Ok q)).is (levels - 1) ∙ sized_no h (read_based (read_type_of lim.version (levels - 1)) h (dimensions_of_lem d b.around)) _ _ _ _ _ e (based_no e (n.denied e k))))

        module _ {s : State} (k : r ≡ Ok s) where
          base_landed : LandedType (run (read_type_of lim.version (levels - 1)) (take (length d - b.from) (drop b.from d)) lim 0 (used + 1) b.place) (take (length d - b.from) (drop b.from d)) lim (used + 1) b.place s t t₂ p p₂
          base_landed = n.done s k

          sized-behind : run (sized h (read_based (read_type_of lim.version (levels - 1)) h (dimensions_of_lem d b.around))) d lim b.from (used + 1) b.place
              ≡ run (sized h (behind h (dimensions_of_lem d b.around) (class_kind h.class) base_landed.tree)) d lim (b.from + s.end.at) s.end.rows s.end.pooled
          unfolding sized read_based then
          sized-behind = rw (inner-go (read_type_of lim.version (levels - 1)) d _ b.from (part-all d b.from) lim (used + 1) b.place base_landed.tree s.end base_landed.is)

          at_base : {x : Answer Datatype} → run (sized h (behind h (dimensions_of_lem d b.around) (class_kind h.class) base_landed.tree)) d lim (b.from + s.end.at) s.end.rows s.end.pooled ≡ x
              → run (read_type_of lim.version levels) d lim 0 used pooled ≡ x
          at_base e = at_level more w ((w.based b (ap Ok q)).is (levels - 1) ∙ sized-behind ∙ e)

          module _ {y : Result State Refusal} {t₃ p₃ : List ℕ} (c : Ends d lim used pooled h (dimensions_of_lem d b.around) (record { end = record { at = b.from + s.end.at; rows = s.end.rows; pooled = s.end.pooled }; size = s.size }) y t₂ t₃ p₂ p₃) where
            based_landed : (z : State) → y ≡ Ok z → LandedType (run (read_type_of lim.version levels) d lim 0 used pooled) d lim used pooled z t t₃ p p₃
            based_landed z e = stored (c.done z e l.tree (sym l.such.0) l.rows_are (omega (arith, l.pooled_are, (w.based b (ap Ok q)).place_is)))
              where
                l : LandedType (run (read_type_of lim.version (levels - 1)) (take (length d - b.from) (drop b.from d)) lim 0 (used + 1) b.place) (take (length d - b.from) (drop b.from d)) lim (used + 1) b.place s t t₂ p p₂
                l = base_landed

                stored : Ended d lim used pooled h (dimensions_of_lem d b.around) l.tree (record { at = b.from + s.end.at; rows = s.end.rows; pooled = s.end.pooled }) z t₂ t₃ p₂ p₃ → LandedType (run (read_type_of lim.version levels) d lim 0 used pooled) d lim used pooled z t t₃ p p₃
                stored x =
                    let place : b.place ≡ pooled + length x.before = (w.based b (ap Ok q)).place_is ∙ omega (arith, x.before-long) in
                    let inside : sets t₂ (s.end.rows * 16) x.more ≡ sets t ((used + 1) * 16) (rows b.place l.tree ++ x.more) =
                    sets_more t (rows b.place l.tree) x.more ((used + 1) * 16) (s.end.rows * 16) l.table refl (omega (arith, l.rows_are, length-rows l.tree b.place)) in
                    let pooled-inside : sets p₂ s.end.pooled x.after ≡ sets p b.place (pool_bytes l.tree ++ x.after) =
                    sets_more p (pool_bytes l.tree) x.after b.place s.end.pooled l.pool refl l.pooled_are in
                    record {
                      tree = x.tree;
                      such = (x.size_is, x.some_size);
                      is = at_base x.is;
                      rows_are = x.rows_are;
                      pooled_are = x.pooled_are;
                      table = x.table ∙ ap (λ (m : List ℕ). sets m (used * 16) x.head) inside
                          ∙ sets-before x.head (rows b.place l.tree ++ x.more) t (used * 16) ((used + 1) * 16) (omega (arith, x.head-long))
                          ∙ ap (sets t (used * 16)) (ap (λ (m : ℕ). x.head ++ (rows m l.tree ++ x.more)) place ∙ sym x.words_are);
                      pool = x.pool ∙ ap (λ (m : List ℕ). sets m pooled x.before) pooled-inside
                          ∙ sets-before x.before (pool_bytes l.tree ++ x.after) p pooled b.place place
                          ∙ ap (sets p pooled) (sym x.bytes-are);
                      ready = ready_at z.end.rows z.end.pooled l.ready x.filled x.room
                          (ap length x.table ∙ length-sets (sets t₂ (s.end.rows * 16) x.more) (used * 16) x.head ∙ length-sets t₂ (s.end.rows * 16) x.more)
                          (ap length x.pool ∙ length-sets (sets p₂ s.end.pooled x.after) pooled x.before ∙ length-sets p₂ s.end.pooled x.after);
                      near = x.near;
                    }

            based-denied : (e : Refusal) → y ≡ Err e → run (read_type_of lim.version levels) d lim 0 used pooled ≡ refused e
            based-denied e j = at_base (c.denied e j base_landed.tree (sym base_landed.such.0))

          pub based-ends : {m : Cursor} {y : Result State Refusal} {t₃ p₃ : List ℕ} → m ≡ record { at = b.from + s.end.at; rows = s.end.rows; pooled = s.end.pooled }
              → Ends d lim used pooled h (dimensions_of_lem d b.around) (record { end = m; size = s.size }) y t₂ t₃ p₂ p₃ → AfterType (run (read_type_of lim.version levels) d lim 0 used pooled) d lim used pooled y t t₃ p p₃
          based-ends moved c = let ends = rw moved at c in record { done = based_landed ends; denied = based-denied ends }
