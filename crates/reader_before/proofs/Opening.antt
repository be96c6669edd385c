-- The ways out of `open_headed`, `open_variable` and `open_array`: each law's premises are the facts that the code has there.
use Rattle.std.specs.Prelude.{Err, Ok, Result}
use mathlib.Core.Path.{◌≡◌, refl, sym, ap, ◌∙◌}
use mathlib.Core.List.{List, []}
use Prim.Native.Nat.{ℕ, suc, ◌+◌, ◌-◌, ◌*◌, ◌<◌, ◌≤◌}
use native.Mathlib.Omega.{arith}
use lib.ListN.{length, get_or, take, drop}
use Rattle.refusal.specs.declared.Refusal.{Refusal}
use Rattle.refusal.specs.declared.Refusal.TheVariants.{TooDeep, Short, BadClass, BadVersion, BadPadding, BadCharset, PoolFull}
use Rattle.format.specs.declared.Header.{Header}
use Rattle.format.specs.Bits.{low_bits, high_bits}
use Rattle.format.specs.Bytes.{dimensions_from}
use Rattle.format.specs.Datatype.{Datatype}
use Rattle.format.specs.Message.{reserved_bytes_of, permutation_bytes_of}
use Rattle.format.specs.Reading.{refused, Reader, refuse, class_kind, layout_version, read_properties, sized, read_type_of}
use Rattle.format.specs.Table.{isCompound, isVariableLength, isArray}
use Rattle.reading.specs.declared.Limits.{Limits}
use Rattle.reading.specs.declared.LeafKind.{LeafKind}
use Rattle.reading.specs.declared.Around.{Around}
use Rattle.reading.specs.declared.Around.TheVariants.{Enumeration, VariableLength, Array}
use Rattle.reading.specs.declared.Base.{Base}
use Rattle.reading.specs.declared.Opened.TheVariants.{Leaf, Compound, Based}
use Rattle.reading.specs.Contract.{run, kind_of_leaf, read_leaf_of, read_compound, read_based, Begun, Surrounds, StringCodes, dimensions_of_lem, OpensLeaf, OpensCompound, OpensBased, Opens}
use Rattle.format.proofs.Bytes.{length-dimensions_from}
use Rattle.reading.proofs.Contracts.{by_refused, by_code}
use Rattle.reading.proofs.Steps.{sized_no}
use Rattle.reader_before.proofs.Classes.{class_of, kind-leaf, unknown_high, kind-compound, kind_packed, kind-enumeration, own_layout, packed_layout, leaf-same}
use Rattle.reader_before.proofs.Properties.{properties_at, compound-go, compound-old, compound-new, enumeration-go, unknown_no, sequence_go, text_padding, text-charset, text-go, array_rest, array-old, array-new, array-is, rank_short, rank_go, rest-short, rest-full, rest-go}

-- ---- what is returned, by cases

module _ {d : List ℕ} {lim : Limits} {used pooled : ℕ} {h : Header} where
  leaves : {k : LeafKind} → OpensLeaf d lim used pooled h k → Opens d lim used pooled h (Ok (Leaf k))
  leaves {k} w =
      record {
        leaf = λ l q. let e : k ≡ l = cc in rw e at w;
        compound = λ v q. absurd (cc);
        based = λ b q. absurd (cc);
        shut = λ e q. absurd (cc);
      }

  compounds : {v : ℕ} → OpensCompound d lim used pooled h v → Opens d lim used pooled h (Ok (Compound v))
  compounds {v} w =
      record {
        leaf = λ k q. absurd (cc);
        compound = λ u q. let e : v ≡ u = cc in rw e at w;
        based = λ b q. absurd (cc);
        shut = λ e q. absurd (cc);
      }

  bases : {b : Base} → OpensBased d lim used pooled h b → Opens d lim used pooled h (Ok (Based b))
  bases {b} w =
      record {
        leaf = λ k q. absurd (cc);
        compound = λ v q. absurd (cc);
        based = λ a q. let e : b ≡ a = cc in rw e at w;
        shut = λ e q. absurd (cc);
      }

  shuts : {e : Refusal} → ((n : ℕ) → run (read_type_of lim.version (suc n)) d lim 0 used pooled ≡ refused e) → Opens d lim used pooled h (Err e)
  shuts w =
      record {
        leaf = λ k q. absurd (cc);
        compound = λ v q. absurd (cc);
        based = λ b q. absurd (cc);
        shut = λ f q n. by_refused (λ e. run (read_type_of lim.version (suc n)) d lim 0 used pooled ≡ refused e) (w n) f q;
      }

-- ---- the size check stands around the properties

sized_same : (h : Header) (m m' : Reader Datatype) (v at : ℕ) (s : List ℕ) (r p at' : ℕ) (s' : List ℕ) (r' p' : ℕ) → m v at s r p ≡ m' v at' s' r' p' → sized h m v at s r p ≡ sized h m' v at' s' r' p'
unfolding sized
sized_same h m m' v at s r p at' s' r' p' q = rw q

-- ---- the ways out

-- the properties as a reader from some place on
module _ {d : List ℕ} {lim : Limits} {used : ℕ} {h : Header} (w : Begun d lim used h) where
  goes : (pooled n : ℕ) (m : Reader Datatype) (at place : ℕ)
      → properties_at (read_type_of lim.version n) h d (lim.rows - (used + 1)) (lim.pool - pooled) ≡ run m d lim at (used + 1) place
      → run (read_type_of lim.version (suc n)) d lim 0 used pooled ≡ run (sized h m) d lim at (used + 1) place
  goes pooled n m at place q =
      w.is n pooled
      ∙ sized_same h (read_properties (read_type_of lim.version n) h (class_kind h.class)) m (length d) 8 (drop 8 d) (lim.rows - (used + 1)) (lim.pool - pooled) at (drop at d) (lim.rows - (used + 1)) (lim.pool - place) q

module _ {d : List ℕ} {lim : Limits} {used pooled : ℕ} {h : Header} (w : Begun d lim used h) where
  ends : {e : Refusal} → ((n : ℕ) → properties_at (read_type_of lim.version n) h d (lim.rows - (used + 1)) (lim.pool - pooled) ≡ refused e)
      → Opens d lim used pooled h (Err e)
  ends {e} q =
      shuts
      (λ n. w.is n pooled
      ∙ sized_no h (read_properties (read_type_of lim.version n) h (class_kind h.class)) (length d) 8 (drop 8 d) (lim.rows - (used + 1)) (lim.pool - pooled) e (q n))

  begun-leaf : (k : LeafKind) → class_kind h.class ≡ kind_of_leaf k → Opens d lim used pooled h (Ok (Leaf k))
  unfolding read_leaf_of
  begun-leaf k e =
      leaves
      record {
        is = λ n. goes w pooled n (read_leaf_of h) 8 pooled (ap (λ (m : Reader Datatype). run m d lim 8 (used + 1) pooled) (leaf-same (read_type_of lim.version n) (refuse TooDeep) h (class_kind h.class) k e));
        kind = e;
        long = w.long;
        free = w.free;
      }

  begun-compound : (v : ℕ) → class_kind h.class ≡ isCompound → layout_version h ≡ v → 0 < v → v ≤ 4 → Opens d lim used pooled h (Ok (Compound v))
  begun-compound v k e a b =
      compounds
      record {
        is = λ n. goes w pooled n (read_compound (read_type_of lim.version n) h v) 8 pooled (compound-go (read_type_of lim.version n) h d (lim.rows - (used + 1)) lim.pool pooled k v e a b);
        long = w.long;
        free = w.free;
      }

  -- a base right behind the header, with no dimensions
  begun-based : (a : Around) → dimensions_of_lem d a ≡ [] → Surrounds d (class_kind h.class) a → ((s k : ℕ) → a ≡ Array s k → ⊥) → pooled ≤ lim.pool
      → ((n : ℕ) → properties_at (read_type_of lim.version n) h d (lim.rows - (used + 1)) (lim.pool - pooled)
      ≡ run (read_based (read_type_of lim.version n) h []) d lim 8 (used + 1) pooled)
      → Opens d lim used pooled h (Ok (Based (record { from = 8; place = pooled; around = a })))
  begun-based a none k unlike room q =
      bases
      record {
        is = λ n. rw none (goes w pooled n (read_based (read_type_of lim.version n) h []) 8 pooled (q n));
        around = k;
        within = w.long;
        sought = λ s k e. absurd (unlike s k e);
        place_is = rw none (omega arith);
        room = room;
        free = w.free;
      }

module _ {d : List ℕ} {lim : Limits} {used pooled : ℕ} {h : Header} (w : Begun d lim used h) where
  pub opens_leaf : {k : LeafKind} → h.class ≡ class_of k → Opens d lim used pooled h (Ok (Leaf k))
  opens_leaf {k} c = begun-leaf w k (kind-leaf k h.class c)

  module _ (c : h.class ≡ 6) where
    pub opens_compound : 1 ≤ h.version → h.version < 5 → Opens d lim used pooled h (Ok (Compound h.version))
    opens_compound a b = begun-compound w h.version (kind-compound h.class c) (own_layout h c) (omega arith) (omega arith)

    pub opens_old : h.version < 1 → Opens d lim used pooled h (Err (BadVersion 6 h.version))
    opens_old a =
        ends
        w
        (λ n. compound-old (read_type_of lim.version n) h d (lim.rows - (used + 1)) lim.pool pooled (kind-compound h.class c) h.version (own_layout h c) a
        ∙ ap (λ (k : ℕ). refused (BadVersion k h.version)) c)

    pub opens_new : 5 ≤ h.version → Opens d lim used pooled h (Err (BadVersion 6 h.version))
    opens_new a =
        ends
        w
        (λ n. compound-new (read_type_of lim.version n) h d (lim.rows - (used + 1)) lim.pool pooled (kind-compound h.class c) h.version (own_layout h c) (omega arith)
        ∙ ap (λ (k : ℕ). refused (BadVersion k h.version)) c)

  pub opens_packed : h.class ≡ 11 → Opens d lim used pooled h (Ok (Compound 3))
  opens_packed c = begun-compound w 3 (kind_packed h.class c) (packed_layout h c) (omega arith) (omega arith)

  pub opens_enumeration : h.class ≡ 8 → pooled ≤ lim.pool → Opens d lim used pooled h (Ok (Based (record { from = 8; place = pooled; around = Enumeration })))
  unfolding dimensions_of_lem
  opens_enumeration c room =
      begun-based
      w
      Enumeration
      refl
      (record { enumeration = λ e. kind-enumeration h.class c; variable = λ e. absurd (cc); array = λ s k e. absurd (cc) })
      (λ s k e. absurd (cc))
      room
      (λ n. enumeration-go (read_type_of lim.version n) h d (lim.rows - (used + 1)) lim.pool pooled (kind-enumeration h.class c))

  pub opens_unknown : ((((((((((((Unit {0} × (h.class ≡ 0 → ⊥)) × (h.class ≡ 1 → ⊥)) × (h.class ≡ 2 → ⊥)) × (h.class ≡ 3 → ⊥)) × (h.class ≡ 4 → ⊥)) × (h.class ≡ 5 → ⊥)) × (h.class ≡ 6 → ⊥)) × (h.class ≡ 7 → ⊥)) × (h.class ≡ 8 → ⊥)) × (h.class ≡ 9 → ⊥)) × (h.class ≡ 10 → ⊥)) × (h.class ≡ 11 → ⊥))
      → Opens d lim used pooled h (Err (BadClass h.class))
  opens_unknown others =
      ends
      w
      (λ n. unknown_no (read_type_of lim.version n) h d (lim.rows - (used + 1)) lim.pool pooled (unknown_high h.class (omega (arith, others))))

module _ {d : List ℕ} {lim : Limits} {used pooled : ℕ} {h : Header} (w : Begun d lim used h) (l : pooled ≤ lim.pool) (v : class_kind h.class ≡ isVariableLength) {kind : ℕ} (a : kind ≡ low_bits 4 h.f0) where
  variable_based : ((n : ℕ) → properties_at (read_type_of lim.version n) h d (lim.rows - (used + 1)) (lim.pool - pooled)
      ≡ run (read_based (read_type_of lim.version n) h []) d lim 8 (used + 1) pooled)
      → Opens d lim used pooled h (Ok (Based (record { from = 8; place = pooled; around = VariableLength })))
  unfolding dimensions_of_lem
  variable_based q =
      begun-based w VariableLength refl (record { enumeration = λ e. absurd (cc); variable = λ e. v; array = λ s k e. absurd (cc) }) (λ s k e. absurd (cc)) l q

  pub variable_sequence : (kind ≡ 1 → ⊥) → Opens d lim used pooled h (Ok (Based (record { from = 8; place = pooled; around = VariableLength })))
  variable_sequence other =
      variable_based (λ n. sequence_go (read_type_of lim.version n) h d (lim.rows - (used + 1)) lim.pool pooled v (λ e. other (a ∙ e)))

  module _ (text : kind ≡ 1) {padding charset : ℕ} (b : (padding ≡ high_bits 4 h.f0) × (padding < 16)) (c : (charset ≡ low_bits 4 h.f1) × (charset < 16)) {r : Result (Unit {0}) Refusal}
      (x : StringCodes padding charset r) where
    pub variable_unknown : {e : Refusal} → r ≡ Err e → Opens d lim used pooled h (Err e)
    variable_unknown q =
        by_code
        (λ e. Opens d lim used pooled h (Err e))
        x
        q
        (λ p. ends
        w
        (λ n. text_padding (read_type_of lim.version n) h d (lim.rows - (used + 1)) lim.pool pooled v (omega arith) (omega arith) ∙ ap (λ (k : ℕ). refused (BadPadding k)) (sym b.0)))
        (λ p m. ends
        w
        (λ n. text-charset (read_type_of lim.version n) h d (lim.rows - (used + 1)) lim.pool pooled v (omega arith) (omega arith) (omega arith)
        ∙ ap (λ (k : ℕ). refused (BadCharset k)) (sym c.0)))

    pub variable_string : r ≡ Ok tt → Opens d lim used pooled h (Ok (Based (record { from = 8; place = pooled; around = VariableLength })))
    variable_string q =
        let f = x.known q in
        variable_based
        (λ n. text-go (read_type_of lim.version n) h d (lim.rows - (used + 1)) lim.pool pooled v (omega arith) (omega arith) (omega arith))

module _ {d : List ℕ} {lim : Limits} {used pooled : ℕ} {h : Header} (w : (Begun d lim used h × ((pooled ≤ lim.pool) × (lim.pool ≤ 65536))) × (class_kind h.class ≡ isArray)) where
  pub array-below : h.version < 2 → Opens d lim used pooled h (Err (BadVersion h.class h.version))
  array-below a = ends w.0.0 (λ n. array-old (read_type_of lim.version n) h d (lim.rows - (used + 1)) lim.pool pooled w.1 a)

  pub array_above : 4 ≤ h.version → Opens d lim used pooled h (Err (BadVersion h.class h.version))
  array_above a = ends w.0.0 (λ n. array-new (read_type_of lim.version n) h d (lim.rows - (used + 1)) lim.pool pooled w.1 a)

  module _ (low : 2 ≤ h.version) (high : h.version < 4) {rb : ℕ} (re : (rb ≡ reserved_bytes_of h.version) × (rb ≤ 3)) where
    pub array_no_rank : length d < 9 + rb → Opens d lim used pooled h (Err (Short (9 + rb) (length d)))
    array_no_rank a =
        ends
        w.0.0
        (λ n. array-is (read_type_of lim.version n) h d (lim.rows - (used + 1)) lim.pool pooled w.1 low high
        ∙ rank_short (read_type_of lim.version n) h d (lim.rows - (used + 1)) lim.pool pooled w.1 rb re.0 a)

    module _ (there : 9 + rb ≤ length d) {k pb : ℕ} (ke : k ≡ get_or d 8 0) (pe : (pb ≡ permutation_bytes_of h.version k) × (pb ≤ 1020)) where
      array-rest : (n : ℕ) → properties_at (read_type_of lim.version n) h d (lim.rows - (used + 1)) (lim.pool - pooled)
          ≡ array_rest (read_type_of lim.version n) k (4 * k + pb) (length d) (9 + rb) (drop (9 + rb) d) (lim.rows - (used + 1)) (lim.pool - pooled)
      array-rest n =
          array-is (read_type_of lim.version n) h d (lim.rows - (used + 1)) lim.pool pooled w.1 low high
          ∙ rank_go (read_type_of lim.version n) h d (lim.rows - (used + 1)) lim.pool pooled w.1 rb re.0 there k pb ke pe.0

      pub array_cut : length d < 9 + rb + 4 * k + pb → Opens d lim used pooled h (Err (Short (9 + rb + 4 * k + pb) (length d)))
      array_cut a =
          ends
          w.0.0
          (λ n. array-rest n ∙ rest-short (read_type_of lim.version n) d (lim.rows - (used + 1)) lim.pool pooled (9 + rb) k pb there a)

      module _ (whole : 9 + rb + 4 * k + pb ≤ length d) where
        pub array-full : lim.pool - pooled < 4 * k → Opens d lim used pooled h (Err PoolFull)
        array-full a =
            ends
            w.0.0
            (λ n. array-rest n ∙ rest-full (read_type_of lim.version n) d (lim.rows - (used + 1)) lim.pool pooled (9 + rb) k pb whole a)

        pub array-based : ((i : ℕ) → get_or d i 0 < 256) → 4 * k ≤ lim.pool - pooled → Opens d lim used pooled h (Ok (Based (record { from = 9 + rb + 4 * k + pb; place = pooled + 4 * k; around = Array (9 + rb) k })))
        unfolding dimensions_of_lem
        array-based small a =
            bases
            record {
              is = λ n. goes w.0.0 pooled n (read_based (read_type_of lim.version n) h (dimensions_from k (take (4 * k) (drop (9 + rb) d)))) (9 + rb + 4 * k + pb) (pooled + 4 * k)
                  (array-rest n ∙ rest-go (read_type_of lim.version n) d (lim.rows - (used + 1)) lim.pool pooled (9 + rb) k pb whole h w.1 a);
              around = record {
                enumeration = λ e. absurd (cc);
                variable = λ e. absurd (cc);
                array = λ s n e. let a : 9 + rb ≡ s = cc in let b : k ≡ n = cc in (w.1, omega (arith, small 8), omega arith);
              };
              within = whole;
              sought = λ s n e. let a : 9 + rb ≡ s = cc in let b : k ≡ n = cc in omega arith;
              place_is = rw (length-dimensions_from k (take (4 * k) (drop (9 + rb) d))) refl;
              room = omega arith;
              free = w.0.0.free;
            }
