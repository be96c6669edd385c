-- The types with no type inside: a law for each way out of a function that reads one.
use Rattle.std.specs.Prelude.{Err, Ok, Result, true, false}
use mathlib.Core.Path.{◌≡◌, refl, sym, ◌∙◌, ap}
use mathlib.Core.List.{List, [], ◌∷◌}
use Prim.Native.Nat.{ℕ, zero, suc, ◌+◌, ◌-◌, ◌*◌, ◌<◌, ◌≤◌}
use native.Mathlib.Omega.{arith}
use borrow.Author.Tests.{le-leb, lt-leb}
use lib.ListN.{length, get_or, take, drop}
use lib.Seq.{sets, take-take, drop-drop}
use Rattle.refusal.specs.declared.Refusal.{Refusal}
use Rattle.refusal.specs.declared.Refusal.TheVariants.{TooDeep, Short, BadReferenceKind, PoolFull, ZeroSize}
use Rattle.format.specs.declared.Header.{Header}
use Rattle.format.specs.Bits.{low_bits, high_bits, bit_at, float_order_of}
use Rattle.format.specs.Bytes.{number_from, padding_to8, total_width, unpack_numbers}
use Rattle.format.specs.Datatype.{float_layout, leaf_class, leaf_pool, Datatype, leaf, fixed_point, floating_point, time, string, bit_field, opaque, reference, type_size_of, row_count, pool_bytes}
use Rattle.format.specs.Message.{bit_widths, float_widths, time_widths}
use Rattle.format.specs.Reading.{refused, then, ◌>>=◌, give, refuse, require, numbers, class_kind, leaf_properties, read_properties, sized}
use Rattle.format.specs.Table.{columns_of, leaf_row, row, rows}
use Rattle.format.proofs.Lists.{drop-take, length_part}
use Rattle.reading.specs.declared.Limits.{Limits}
use Rattle.reading.specs.declared.Cursor.{Cursor}
use Rattle.reading.specs.declared.State.{State}
use Rattle.reading.specs.declared.LeafKind.{LeafKind}
use Rattle.reading.specs.declared.LeafKind.TheVariants.{FixedPoint, FloatingPoint, Time, String, BitField, Opaque, Reference}
use Rattle.reading.specs.Contract.{run, here, Ready, AfterType, EndsRow, StringCodes, leaf_kind, kind_of_leaf, read_leaf_of}
use Rattle.reading.proofs.Steps.{bytes-go, bytes-short, skip-go, piece-go, piece-full, sized_no, sized-go, sized-zero}
use Rattle.reading.proofs.Contracts.{by_done, not_done, by_refused, not-refused, lands, refuses, one-row, by_row, by_code}
use Rattle.reader_leaf.specs.Describing.{Described, Describes, IsBits}
use Rattle.reader_leaf.specs.declared.Properties.{Properties}

-- ---- what all classes share

-- what a function that reads a leaf of a kind requires, and what it ensures of its answer
abbrev Asked : LeafKind → Header → List ℕ → Limits → (used pooled : ℕ) (t p : List ℕ) → Type 0
Asked k h d lim used pooled t p = ((Ready lim used pooled t p × (used < lim.rows)) × (8 ≤ length d)) × (class_kind h.class ≡ kind_of_leaf k)

abbrev Ends : Header → List ℕ → Limits → (used pooled : ℕ) (t p : List ℕ) → Result State Refusal → (t' p' : List ℕ) → Type 0
Ends h d lim used pooled t p r t' p' = AfterType (run (sized h (read_leaf_of h)) d lim 8 (used + 1) pooled) d lim used pooled r t t' p p'

-- where it ends, its row and its pool bytes counted
abbrev ended : (at used pooled : ℕ) → Cursor
ended at used pooled = record { at = at; rows = used + 1; pooled = pooled }

-- a type of one row, of the header's size, with its pool bytes
record Leaf (h : Header) (pooled : ℕ) (tree : Datatype) (words bytes : List ℕ) : Type 0 where
  size : type_size_of tree ≡ h.size
  count : row_count tree ≡ 1
  words_are : rows pooled tree ≡ words
  bytes-are : pool_bytes tree ≡ bytes

module _ (k : LeafKind) (h : Header) (d : List ℕ) {lim : Limits} {used pooled : ℕ} {t t' p p' : List ℕ} (asked : Asked k h d lim used pooled t p) where
  leaf-refuses : {e : Refusal} → run (read_properties (refuse TooDeep) h (kind_of_leaf k)) d lim 8 (used + 1) pooled ≡ refused e → Ends h d lim used pooled t p (Err e) t' p'
  unfolding read_leaf_of
  leaf-refuses q = refuses (sized_no h (read_leaf_of h) (length d) 8 (drop 8 d) (lim.rows - (used + 1)) (lim.pool - pooled) _ (rw asked.1 q))

  leaf-zero : {w b : List ℕ} (tree : Datatype) (s : Cursor) → run (read_properties (refuse TooDeep) h (kind_of_leaf k)) d lim 8 (used + 1) pooled ≡ here tree d lim s → Leaf h pooled tree w b → h.size ≡ 0
      → Ends h d lim used pooled t p (Err (ZeroSize h.class)) t' p'
  unfolding read_leaf_of
  leaf-zero tree s q l z =
      refuses (sized-zero h (read_leaf_of h) (length d) 8 (drop 8 d) (lim.rows - (used + 1)) (lim.pool - pooled) tree s.at (drop s.at d) (lim.rows - s.rows) (lim.pool - s.pooled) (rw asked.1 q) (l.size ∙ z))

  leaf-lands : {w b : List ℕ} (tree : Datatype) (s : Cursor) → run (read_properties (refuse TooDeep) h (kind_of_leaf k)) d lim 8 (used + 1) pooled ≡ here tree d lim s → Leaf h pooled tree w b
      → 0 < h.size → s.rows ≡ used + 1 → s.pooled ≡ pooled + length b → s.pooled ≤ lim.pool → s.at ≤ length d + 7
      → t' ≡ sets t (used * 16) w → p' ≡ sets p pooled b → Ends h d lim used pooled t p (Ok (record { end = s; size = h.size })) t' p'
  unfolding read_leaf_of
  leaf-lands {w} {b} tree s q l z er ep room near et eb =
      let some : 0 < type_size_of tree = omega (arith, l.size) in
      lands (one-row tree w b
      (sized-go h (read_leaf_of h) (length d) 8 (drop 8 d) (lim.rows - (used + 1)) (lim.pool - pooled) tree s.at (drop s.at d) (lim.rows - s.rows) (lim.pool - s.pooled) (rw asked.1 q) some)
      l.words_are l.bytes-are l.count (sym l.size, some) er ep et eb asked.0.0.0 asked.0.0.1 room near)

  -- its row ends it
  leaf-ends : {w b : List ℕ} (tree : Datatype) (at place : ℕ) → run (read_properties (refuse TooDeep) h (kind_of_leaf k)) d lim 8 (used + 1) pooled ≡ here tree d lim (ended at used place) → Leaf h pooled tree w b
      → place ≡ pooled + length b → place ≤ lim.pool → at ≤ length d + 7 → p' ≡ sets p pooled b
      → (r : Result State Refusal) → EndsRow used h.class w (ended at used place) h.size r t t' → Ends h d lim used pooled t p r t' p'
  leaf-ends tree at place q l ep room near eb r x =
      by_row (λ r. Ends h d lim used pooled t p r t' p') r x
      (λ z et. leaf-lands tree (ended at used place) q l z refl ep room near et eb)
      (leaf-zero tree (ended at used place) q l)

-- ---- the end of a leaf that has no pool bytes

module _ {k : LeafKind} {h : Header} {d : List ℕ} {lim : Limits} {used pooled : ℕ} {t t' p : List ℕ} (asked : Asked k h d lim used pooled t p) {x : Result Properties Refusal} (c : Describes d h k x) where
  pub described_no : {e : Refusal} → x ≡ Err e → Ends h d lim used pooled t p (Err e) t' p
  described_no {e} q = leaf-refuses k h d asked (c.denied e q (lim.rows - (used + 1)) (lim.pool - pooled))

  pub described-ends : {y : Properties} {r : Result State Refusal} → x ≡ Ok y → EndsRow used h.class y.words (ended y.end used pooled) h.size r t t' → Ends h d lim used pooled t p r t' p
  described-ends {y} {r} q w =
      let z = c.done y q in
      leaf-ends k h d asked z.tree y.end pooled (z.is (lim.rows - (used + 1)) (lim.pool - pooled))
      (record { size = z.size; count = z.count; words_are = z.words_are pooled; bytes-are = z.bytes-are }) (omega arith) asked.0.0.0.room z.near refl r w

-- what is answered in a kind's arm describes the kind that was matched
pub in_arm : {d : List ℕ} {h : Header} {j k : LeafKind} {x y : Result Properties Refusal} → j ≡ k → y ≡ x → Describes d h k x → Describes d h j y
in_arm e q w = rw (e, q) w

module _ {d : List ℕ} {h : Header} {k : LeafKind} where
  describes : {x : Properties} → Described d h k x → Describes d h k (Ok x)
  describes w = record { done = by_done (Described d h k) w; denied = not-refused _ }

  undescribed : {e : Refusal} → ((n p : ℕ) → read_properties (refuse TooDeep) h (kind_of_leaf k) (length d) 8 (drop 8 d) n p ≡ refused e) → Describes d h k (Err e)
  undescribed w = record { done = not_done _; denied = by_refused (λ e. (n p : ℕ) → read_properties (refuse TooDeep) h (kind_of_leaf k) (length d) 8 (drop 8 d) n p ≡ refused e) w }

-- ---- properties that are numbers, sought together

-- numbers of given widths, one behind another from a place of the message on
unfoldable numbers_at : (widths : List ℕ) (at : ℕ) → List ℕ → List ℕ
numbers_at [] at d = []
numbers_at (w ∷ ws) at d = number_from (take w (drop at d)) ∷ numbers_at ws (at + w) d

unpack_at : (ws : List ℕ) (at : ℕ) (d : List ℕ) → unpack_numbers ws (take (total_width ws) (drop at d)) ≡ numbers_at ws at d
unfolding unpack_numbers total_width numbers_at
unpack_at [] at d = refl
unpack_at (w ∷ ws) at d =
    rw (take-take w (w + total_width ws) (drop at d) (omega arith), drop-take w (total_width ws) (w + total_width ws) (drop at d) refl, drop-drop w at d, unpack_at ws (at + w) d)

-- a kind with such properties, which end at a place
pub record Block (h : Header) (k : LeafKind) (widths : List ℕ) (end : ℕ) (type : List ℕ → Datatype) : Type 0 where
  is : read_properties (refuse TooDeep) h (kind_of_leaf k) ≡ (numbers widths >>= (λ (x : List ℕ). give (type x)))
  ends : end ≡ 8 + total_width widths
  some : 8 < end
  leaf : (pooled : ℕ) (x : List ℕ) → Leaf h pooled (type x) (rows 0 (type x)) []

module _ {h : Header} {k : LeafKind} {widths : List ℕ} {end : ℕ} {type : List ℕ → Datatype} (b : Block h k widths end type) {d : List ℕ} where
  pub block_cut : length d < end → Describes d h k (Err (Short end (length d)))
  unfolding numbers then
  block_cut l =
      let e = b.ends in
      let m = b.some in
      undescribed (λ n p. rw (b.is, bytes-short (total_width widths) 8 d n p (omega arith) (omega arith), e))

  block-go : end ≤ length d → {w : List ℕ} → rows 0 (type (numbers_at widths 8 d)) ≡ w → Describes d h k (Ok (record { words = w; end = end }))
  unfolding numbers then
  block-go l ew =
      let e = b.ends in
      let f = b.leaf 0 (numbers_at widths 8 d) in
      describes (record {
        tree = type (numbers_at widths 8 d);
        is = λ n p. rw (b.is, bytes-go (total_width widths) 8 d n p (omega arith), unpack_at widths 8 d, e);
        words_are = λ place. (b.leaf place (numbers_at widths 8 d)).words_are ∙ ew;
        size = f.size;
        count = f.count;
        bytes-are = f.bytes-are;
        near = omega arith;
      })

module _ (h : Header) where
  pub fixed_points : Block h FixedPoint bit_widths 12 (λ x. leaf h.size (fixed_point (bit_at 0 h.f0) (bit_at 3 h.f0) (get_or x 0 0) (get_or x 1 0)))
  unfolding kind_of_leaf read_properties leaf_properties total_width type_size_of row_count pool_bytes leaf_pool rows leaf_row columns_of
  fixed_points = record { is = refl; ends = refl; some = omega arith; leaf = λ p x. record { size = refl; count = refl; words_are = refl; bytes-are = refl } }

  pub floating_points : Block h FloatingPoint float_widths 20 (λ x. leaf h.size (floating_point (float_order_of h.f0) (float_layout x)))
  unfolding kind_of_leaf read_properties leaf_properties total_width type_size_of row_count pool_bytes leaf_pool rows leaf_row columns_of
  floating_points = record { is = refl; ends = refl; some = omega arith; leaf = λ p x. record { size = refl; count = refl; words_are = refl; bytes-are = refl } }

  pub times : Block h Time time_widths 10 (λ x. leaf h.size (time (bit_at 0 h.f0) (get_or x 0 0)))
  unfolding kind_of_leaf read_properties leaf_properties total_width type_size_of row_count pool_bytes leaf_pool rows leaf_row columns_of
  times = record { is = refl; ends = refl; some = omega arith; leaf = λ p x. record { size = refl; count = refl; words_are = refl; bytes-are = refl } }

  pub bit_fields : Block h BitField bit_widths 12 (λ x. leaf h.size (bit_field (bit_at 0 h.f0) (get_or x 0 0) (get_or x 1 0)))
  unfolding kind_of_leaf read_properties leaf_properties total_width type_size_of row_count pool_bytes leaf_pool rows leaf_row columns_of
  bit_fields = record { is = refl; ends = refl; some = omega arith; leaf = λ p x. record { size = refl; count = refl; words_are = refl; bytes-are = refl } }

-- a number of one byte
one_byte : (at : ℕ) (d : List ℕ) → number_from (take 1 (drop at d)) ≡ get_or d at 0
unfolding number_from
one_byte zero [] = refl
one_byte zero (b ∷ d) = omega arith
one_byte (suc at) [] = refl
one_byte (suc at) (b ∷ d) = one_byte at d

module _ {h : Header} {d : List ℕ} where
  -- an order, an offset and a precision
  pub bits_cut : length d < 12 → (k : LeafKind) (kind signed : ℕ) → IsBits k h kind signed → Describes d h k (Err (Short 12 (length d)))
  unfolding IsBits
  bits_cut l FixedPoint kind signed i = block_cut (fixed_points h) l
  bits_cut l FloatingPoint kind signed i = absurd i
  bits_cut l Time kind signed i = absurd i
  bits_cut l String kind signed i = absurd i
  bits_cut l BitField kind signed i = block_cut (bit_fields h) l
  bits_cut l Opaque kind signed i = absurd i
  bits_cut l Reference kind signed i = absurd i

  pub bits-go : {o f q kind signed : ℕ} → 12 ≤ length d → (o ≡ bit_at 0 h.f0) × (o < 2) → f ≡ number_from (take 2 (drop 8 d)) → q ≡ number_from (take 2 (drop 10 d))
      → (k : LeafKind) → IsBits k h kind signed
      → Describes d h k (Ok (record { words = kind ∷ h.size ∷ 0 ∷ 0 ∷ 0 ∷ o ∷ signed ∷ f ∷ q ∷ 0 ∷ 0 ∷ 0 ∷ 0 ∷ 0 ∷ 0 ∷ 0 ∷ []; end = 12 }))
  unfolding IsBits rows leaf_row leaf_class leaf_pool columns_of row float_layout numbers_at
  bits-go long eo ef eq FixedPoint i = block-go (fixed_points h) long (rw (eo.0, i.0, i.1, ef, eq) refl)
  bits-go long eo ef eq FloatingPoint i = absurd i
  bits-go long eo ef eq Time i = absurd i
  bits-go long eo ef eq String i = absurd i
  bits-go long eo ef eq BitField i = block-go (bit_fields h) long (rw (eo.0, i.0, i.1, ef, eq) refl)
  bits-go long eo ef eq Opaque i = absurd i
  bits-go long eo ef eq Reference i = absurd i

  pub floating_point-go : {o f q el es ml ms x : ℕ} → 20 ≤ length d
      → (o ≡ float_order_of h.f0) × (o < 3) → f ≡ number_from (take 2 (drop 8 d)) → q ≡ number_from (take 2 (drop 10 d))
      → el ≡ get_or d 12 0 → es ≡ get_or d 13 0 → ml ≡ get_or d 14 0 → ms ≡ get_or d 15 0 → x ≡ number_from (take 4 (drop 16 d))
      → Describes d h FloatingPoint (Ok (record { words = 2 ∷ h.size ∷ 0 ∷ 0 ∷ 0 ∷ o ∷ 0 ∷ f ∷ q ∷ el ∷ es ∷ ml ∷ ms ∷ x ∷ 0 ∷ 0 ∷ []; end = 20 }))
  unfolding rows leaf_row leaf_class leaf_pool columns_of row float_layout numbers_at
  floating_point-go long eo ef eq a b c e ex =
      block-go (floating_points h) long (rw (eo.0, ef, eq, a ∙ sym (one_byte 12 d), b ∙ sym (one_byte 13 d), c ∙ sym (one_byte 14 d), e ∙ sym (one_byte 15 d), ex) refl)

  pub time-go : {o q : ℕ} → 10 ≤ length d → (o ≡ bit_at 0 h.f0) × (o < 2) → q ≡ number_from (take 2 (drop 8 d))
      → Describes d h Time (Ok (record { words = 3 ∷ h.size ∷ 0 ∷ 0 ∷ 0 ∷ o ∷ 0 ∷ 0 ∷ q ∷ 0 ∷ 0 ∷ 0 ∷ 0 ∷ 0 ∷ 0 ∷ 0 ∷ []; end = 10 }))
  unfolding rows leaf_row leaf_class leaf_pool columns_of row float_layout numbers_at
  time-go long eo eq = block-go (times h) long (rw (eo.0, eq) refl)

-- ---- strings and references: codes alone

module _ {h : Header} {d : List ℕ} (long : 8 ≤ length d) where
  module _ {a c : ℕ} (ea : (a ≡ low_bits 4 h.f0) × (a < 16)) (ec : (c ≡ high_bits 4 h.f0) × (c < 16)) {r : Result (Unit {0}) Refusal} (x : StringCodes a c r) where
    pub string_unknown : {e : Refusal} → r ≡ Err e → Describes d h String (Err e)
    unfolding kind_of_leaf read_properties leaf_properties then require
    string_unknown q =
        by_code (λ e. Describes d h String (Err e)) x q
        (λ m. undescribed (λ n p. rw (← ea.0, lt-leb a 2 m)))
        (λ f m. undescribed (λ n p. rw (← ea.0, ← ec.0, le-leb a 2 f, lt-leb c 1 m)))

    pub string-go : r ≡ Ok tt → {u v : ℕ} → u ≡ a → v ≡ c
        → Describes d h String (Ok (record { words = 4 ∷ h.size ∷ 0 ∷ 0 ∷ 0 ∷ u ∷ v ∷ 0 ∷ 0 ∷ 0 ∷ 0 ∷ 0 ∷ 0 ∷ 0 ∷ 0 ∷ 0 ∷ []; end = 8 }))
    unfolding kind_of_leaf read_properties leaf_properties then require type_size_of row_count pool_bytes leaf_pool leaf_class columns_of leaf_row rows row
    string-go q eu ev =
        let f = x.known q in
        describes (record {
          tree = leaf h.size (string a c);
          is = λ n p. rw (← ea.0, ← ec.0, le-leb a 2 f.0, le-leb c 1 f.1);
          words_are = λ place. rw (eu, ev) refl;
          size = refl;
          count = refl;
          bytes-are = refl;
          near = omega arith;
        })

  module _ {c : ℕ} (ec : (c ≡ low_bits 4 h.f0) × (c < 16)) where
    pub reference_unknown : 1 < c → Describes d h Reference (Err (BadReferenceKind c))
    unfolding kind_of_leaf read_properties leaf_properties then require
    reference_unknown m = undescribed (λ n p. rw (← ec.0, lt-leb c 1 m))

    pub reference-go : c ≤ 1 → {u : ℕ} → u ≡ c → Describes d h Reference (Ok (record { words = 8 ∷ h.size ∷ 0 ∷ 0 ∷ 0 ∷ u ∷ 0 ∷ 0 ∷ 0 ∷ 0 ∷ 0 ∷ 0 ∷ 0 ∷ 0 ∷ 0 ∷ 0 ∷ []; end = 8 }))
    unfolding kind_of_leaf read_properties leaf_properties then require type_size_of row_count pool_bytes leaf_pool leaf_class columns_of leaf_row rows row
    reference-go m eu =
        describes (record {
          tree = leaf h.size (reference c);
          is = λ n p. rw (← ec.0, le-leb c 1 m);
          words_are = λ place. rw eu refl;
          size = refl;
          count = refl;
          bytes-are = refl;
          near = omega arith;
        })

-- ---- opaque: a tag, and its padding

opaque-leaf : (h : Header) (pooled n : ℕ) (d : List ℕ) → 8 + n ≤ length d → Leaf h pooled (leaf h.size (opaque (take n (drop 8 d)))) (6 ∷ h.size ∷ pooled ∷ n ∷ 0 ∷ 0 ∷ 0 ∷ 0 ∷ 0 ∷ 0 ∷ 0 ∷ 0 ∷ 0 ∷ 0 ∷ 0 ∷ 0 ∷ []) (take n (drop 8 d))
unfolding type_size_of row_count pool_bytes leaf_pool leaf_class columns_of leaf_row rows row
opaque-leaf h pooled n d long = record { size = refl; count = refl; words_are = rw (length_part d 8 n long); bytes-are = refl }

module _ (h : Header) (d : List ℕ) {lim : Limits} {used pooled : ℕ} {t p : List ℕ} where
  module _ (n : ℕ) (asked : Asked Opaque h d lim used pooled t p) (en : n ≡ h.f0) where
    pub opaque_cut : {t' p' : List ℕ} → length d < 8 + n → Ends h d lim used pooled t p (Err (Short (8 + n) (length d))) t' p'
    unfolding kind_of_leaf read_properties leaf_properties then
    opaque_cut l =
        let k = asked.0.1 in
        leaf-refuses Opaque h d asked (rw (← en, bytes-short n 8 d (lim.rows - (used + 1)) (lim.pool - pooled) (omega arith) l))

    module _ (long : 8 + n ≤ length d) where
      pub opaque-full : {t' p' : List ℕ} → lim.pool - pooled < n → Ends h d lim used pooled t p (Err PoolFull) t' p'
      unfolding kind_of_leaf read_properties leaf_properties then
      opaque-full m =
          let k : lim.pool - pooled < length (take n (drop 8 d)) = omega (arith, length_part d 8 n long) in
          leaf-refuses Opaque h d asked (rw (
            ← en,
            bytes-go n 8 d (lim.rows - (used + 1)) (lim.pool - pooled) long,
            piece-full (take n (drop 8 d)) (length d) (8 + n) (drop (8 + n) d) (lim.rows - (used + 1)) lim.pool pooled k,
          ))

      module _ (room : n ≤ lim.pool - pooled) where
        opaque-is : run (read_properties (refuse TooDeep) h (kind_of_leaf Opaque)) d lim 8 (used + 1) pooled
            ≡ here (leaf h.size (opaque (take n (drop 8 d)))) d lim (ended (8 + n + padding_to8 n) used (pooled + n))
        unfolding kind_of_leaf read_properties leaf_properties then
        opaque-is =
            let k : length (take n (drop 8 d)) ≤ lim.pool - pooled = omega (arith, length_part d 8 n long) in
            rw (
              ← en,
              bytes-go n 8 d (lim.rows - (used + 1)) (lim.pool - pooled) long,
              piece-go (take n (drop 8 d)) (length d) (8 + n) (drop (8 + n) d) (lim.rows - (used + 1)) lim.pool pooled k,
              length_part d 8 n long,
              skip-go (padding_to8 n) (8 + n) d (lim.rows - (used + 1)) (lim.pool - (pooled + n)) (length d),
            )

        pub opaque-ends : {r : Result State Refusal} {t' p' : List ℕ} (pad : ℕ) → (pad ≡ padding_to8 n) × (pad < 8) → p' ≡ sets p pooled (take n (drop 8 d))
            → EndsRow used h.class (6 ∷ h.size ∷ pooled ∷ n ∷ 0 ∷ 0 ∷ 0 ∷ 0 ∷ 0 ∷ 0 ∷ 0 ∷ 0 ∷ 0 ∷ 0 ∷ 0 ∷ 0 ∷ []) (ended (8 + n + pad) used (pooled + n)) h.size r t t'
            → Ends h d lim used pooled t p r t' p'
        opaque-ends {r} pad e ep w =
            let place = asked.0.0.0.room in
            leaf-ends Opaque h d asked _ (8 + n + pad) (pooled + n) (rw e.0 opaque-is) (opaque-leaf h pooled n d long) (omega (arith, length_part d 8 n long)) (omega arith) (omega arith) ep r w

-- ---- the class's number

pub kind_at : (n : ℕ) (k : LeafKind) → class_kind n ≡ kind_of_leaf k → (c : ℕ) → c ≡ n → class_kind c ≡ kind_of_leaf k
kind_at n k e c q = ap class_kind q ∙ e

no : false ≡ true → ⊥
no e = let z : ◌≡◌ {A = ℕ} 0 1 = cc in omega arith

-- of classes 6 and up only 7 has no type inside
from-six : (c m : ℕ) → c ≡ suc (suc (suc (suc (suc (suc m))))) → leaf_kind (class_kind c) ≡ true → class_kind c ≡ kind_of_leaf Reference
unfolding leaf_kind kind_of_leaf class_kind
from-six c zero e l = absurd (no (rw e at l))
from-six c (suc zero) e l = rw e
from-six c (suc (suc zero)) e l = absurd (no (rw e at l))
from-six c (suc (suc (suc zero))) e l = absurd (no (rw e at l))
from-six c (suc (suc (suc (suc zero)))) e l = absurd (no (rw e at l))
from-six c (suc (suc (suc (suc (suc zero))))) e l = absurd (no (rw e at l))
from-six c (suc (suc (suc (suc (suc (suc m)))))) e l = absurd (no (rw e at l))

pub last_kind : (c : ℕ) → leaf_kind (class_kind c) ≡ true → (c ≡ 0 → ⊥) → (c ≡ 1 → ⊥) → (c ≡ 2 → ⊥) → (c ≡ 3 → ⊥) → (c ≡ 4 → ⊥) → (c ≡ 5 → ⊥) → class_kind c ≡ kind_of_leaf Reference
last_kind c l n₀ n₁ n₂ n₃ n₄ n₅ = from-six c (c - 6) (omega arith) l
