-- What is read behind a header, kind by kind, and the refusals met there.
use mathlib.Core.Path.{◌≡◌, sym, ◌∙◌}
use mathlib.Core.List.{List, []}
use Prim.Native.Nat.{ℕ, ◌+◌, ◌-◌, ◌*◌, ◌<◌, ◌≤◌}
use native.Mathlib.Omega.{arith}
use borrow.Author.Tests.{le-leb, lt-leb, lt-ltb, le-ltb, eq-eqb, ne_eqb}
use lib.ListN.{length, get_or, take, drop, length-drop}
use lib.Seq.{get_or-take, get_or-drop, take-take, length-take-le}
use Rattle.refusal.specs.declared.Refusal.TheVariants.{Short, BadClass, BadVersion, BadPadding, BadCharset, PoolFull}
use Rattle.format.specs.declared.Header.{Header}
use Rattle.format.specs.Bits.{low_bits, high_bits}
use Rattle.format.specs.Bytes.{dimensions_from}
use Rattle.format.specs.Datatype.{Datatype, array}
use Rattle.format.specs.Message.{reserved_bytes_of, permutation_bytes_of}
use Rattle.format.specs.Reading.{Answer, refused, Reader, then, ◌>>=◌, ◌>>◌, give, require, bytes, piece, inner, class_kind, count_of, read_names_of, layout_version, read_variable, read_array, read_properties}
use Rattle.format.specs.Table.{isCompound, isEnumeration, isVariableLength, isArray, isUnknown}
use Rattle.format.proofs.Bytes.{dimensions_front}
use Rattle.reading.specs.Contract.{read_compound, variable_of, read_enum_members_of, behind, read_based}
use Rattle.reading.proofs.Steps.{then-then, then-each, bytes-go, bytes-short, piece-go, piece-full}

-- ---- a type of each kind behind its header

abbrev pub properties_at : Reader Datatype → Header → List ℕ → (rows pool : ℕ) → Answer Datatype
properties_at rd h d r p = read_properties rd h (class_kind h.class) (length d) 8 (drop 8 d) r p

module _ (rd : Reader Datatype) (h : Header) (d : List ℕ) (r cap pooled : ℕ) where
  module _ (kind : class_kind h.class ≡ isCompound) (v : ℕ) (layout : layout_version h ≡ v) where
    pub compound-go : 0 < v → v ≤ 4 → properties_at rd h d r (cap - pooled) ≡ read_compound rd h v (length d) 8 (drop 8 d) r (cap - pooled)
    unfolding read_properties then require read_compound
    compound-go a b = rw (kind, layout, lt-ltb 0 v a, le-leb v 4 b)

    pub compound-old : v < 1 → properties_at rd h d r (cap - pooled) ≡ refused (BadVersion h.class v)
    unfolding read_properties then require
    compound-old a = rw (kind, layout, le-ltb 0 v (omega arith))

    pub compound-new : 4 < v → properties_at rd h d r (cap - pooled) ≡ refused (BadVersion h.class v)
    unfolding read_properties then require
    compound-new a = rw (kind, layout, lt-ltb 0 v (omega arith), lt-leb v 4 a)

  pub enumeration-go : class_kind h.class ≡ isEnumeration → properties_at rd h d r (cap - pooled) ≡ read_based rd h [] (length d) 8 (drop 8 d) r (cap - pooled)
  unfolding read_properties read_based behind read_enum_members_of
  enumeration-go kind =
      rw
      kind
      (then-each
      (inner rd (length d) 8 (drop 8 d) r (cap - pooled))
      (λ t at s r p. sym (then-then (read_names_of h.version (count_of h) (length d) at s r p) _ _)))

  pub unknown_no : class_kind h.class ≡ isUnknown → properties_at rd h d r (cap - pooled) ≡ refused (BadClass h.class)
  unfolding read_properties
  unknown_no kind = rw kind

  module _ (kind : class_kind h.class ≡ isVariableLength) where
    pub sequence_go : (low_bits 4 h.f0 ≡ 1 → ⊥) → properties_at rd h d r (cap - pooled) ≡ read_based rd h [] (length d) 8 (drop 8 d) r (cap - pooled)
    unfolding read_properties then read_variable read_based behind variable_of
    sequence_go n = rw (kind, ne_eqb (low_bits 4 h.f0) 1 n)

    module _ (text : low_bits 4 h.f0 ≡ 1) where
      pub text_padding : 2 < high_bits 4 h.f0 → properties_at rd h d r (cap - pooled) ≡ refused (BadPadding (high_bits 4 h.f0))
      unfolding read_properties then read_variable require
      text_padding a = rw (kind, eq-eqb (low_bits 4 h.f0) 1 text, lt-leb (high_bits 4 h.f0) 2 a)

      module _ (padding : high_bits 4 h.f0 ≤ 2) where
        pub text-charset : 1 < low_bits 4 h.f1 → properties_at rd h d r (cap - pooled) ≡ refused (BadCharset (low_bits 4 h.f1))
        unfolding read_properties then read_variable require
        text-charset a = rw (kind, eq-eqb (low_bits 4 h.f0) 1 text, le-leb (high_bits 4 h.f0) 2 padding, lt-leb (low_bits 4 h.f1) 1 a)

        pub text-go : low_bits 4 h.f1 ≤ 1 → properties_at rd h d r (cap - pooled) ≡ read_based rd h [] (length d) 8 (drop 8 d) r (cap - pooled)
        unfolding read_properties then read_variable require read_based behind variable_of
        text-go a = rw (kind, eq-eqb (low_bits 4 h.f0) 1 text, le-leb (high_bits 4 h.f0) 2 padding, le-leb (low_bits 4 h.f1) 1 a)

-- ---- an array

-- what stands behind an array's rank and reserved bytes: n bytes, of which the dimensions are the first
unfoldable pub array_rest : Reader Datatype → (rank n : ℕ) → Reader Datatype
array_rest rd k n = do
  b ← bytes n
  piece (take (4 * k) b)
  t ← inner rd
  give (array (dimensions_from k b) t)

module _ (rd : Reader Datatype) (h : Header) (d : List ℕ) (r cap pooled : ℕ) (kind : class_kind h.class ≡ isArray) where
  pub array-old : h.version < 2 → properties_at rd h d r (cap - pooled) ≡ refused (BadVersion h.class h.version)
  unfolding read_properties then require
  array-old a = rw (kind, le-ltb 1 h.version (omega arith))

  pub array-new : 4 ≤ h.version → properties_at rd h d r (cap - pooled) ≡ refused (BadVersion h.class h.version)
  unfolding read_properties then require
  array-new a = rw (kind, lt-ltb 1 h.version (omega arith), lt-leb h.version 3 (omega arith))

  module _ (low : 2 ≤ h.version) (high : h.version < 4) where
    pub array-is : properties_at rd h d r (cap - pooled) ≡ read_array rd h.version (length d) 8 (drop 8 d) r (cap - pooled)
    unfolding read_properties then require
    array-is = rw (kind, lt-ltb 1 h.version (omega arith), le-leb h.version 3 (omega arith))

  module _ (rb : ℕ) (reserved : rb ≡ reserved_bytes_of h.version) where
    pub rank_short : length d < 9 + rb → read_array rd h.version (length d) 8 (drop 8 d) r (cap - pooled) ≡ refused (Short (9 + rb) (length d))
    unfolding read_array then
    rank_short a =
        let e : 8 + (1 + rb) ≡ 9 + rb = omega arith in
        rw (← reserved, bytes-short (1 + rb) 8 d r (cap - pooled) (omega arith) (omega arith), e)

    module _ (there : 9 + rb ≤ length d) (k pb : ℕ) (rank : k ≡ get_or d 8 0) (permutation : pb ≡ permutation_bytes_of h.version k) where
      pub rank_go : read_array rd h.version (length d) 8 (drop 8 d) r (cap - pooled) ≡ array_rest rd k (4 * k + pb) (length d) (9 + rb) (drop (9 + rb) d) r (cap - pooled)
      unfolding read_array then array_rest
      rank_go =
          let e : 8 + (1 + rb) ≡ 9 + rb = omega arith in
          let f : get_or (take (1 + rb) (drop 8 d)) 0 0 ≡ k = get_or-take (1 + rb) (drop 8 d) 0 0 (omega arith) ∙ (get_or-drop 8 d 0 0 ∙ sym rank) in
          rw (← reserved, bytes-go (1 + rb) 8 d r (cap - pooled) (omega arith), f, ← permutation, e)

module _ (rd : Reader Datatype) (d : List ℕ) (r cap pooled start k pb : ℕ) where
  pub rest-short : start ≤ length d → length d < start + 4 * k + pb → array_rest rd k (4 * k + pb) (length d) start (drop start d) r (cap - pooled) ≡ refused (Short (start + 4 * k + pb) (length d))
  unfolding then array_rest
  rest-short a b =
      let e : start + (4 * k + pb) ≡ start + 4 * k + pb = omega arith in
      rw (bytes-short (4 * k + pb) start d r (cap - pooled) (omega arith) (omega arith), e)

  module _ (there : start + 4 * k + pb ≤ length d) where
    -- the dimensions' bytes
    rest_dimensions : take (4 * k) (take (4 * k + pb) (drop start d)) ≡ take (4 * k) (drop start d)
    rest_dimensions = take-take (4 * k) (4 * k + pb) (drop start d) (omega arith)

    rest-long : length (take (4 * k) (drop start d)) ≡ 4 * k
    rest-long = length-take-le (4 * k) (drop start d) (omega (arith, length-drop start d))

    pub rest-full : cap - pooled < 4 * k → array_rest rd k (4 * k + pb) (length d) start (drop start d) r (cap - pooled) ≡ refused PoolFull
    unfolding then array_rest
    rest-full a =
        rw (
          bytes-go (4 * k + pb) start d r (cap - pooled) (omega arith),
          rest_dimensions,
          piece-full (take (4 * k) (drop start d)) (length d) (start + (4 * k + pb)) (drop (start + (4 * k + pb)) d) r cap pooled (omega (arith, rest-long)),
        )

    pub rest-go : (h : Header) → class_kind h.class ≡ isArray → 4 * k ≤ cap - pooled → array_rest rd k (4 * k + pb) (length d) start (drop start d) r (cap - pooled)
        ≡ read_based rd h (dimensions_from k (take (4 * k) (drop start d))) (length d) (start + 4 * k + pb) (drop (start + 4 * k + pb) d) r (cap - (pooled + 4 * k))
    unfolding then array_rest read_based behind
    rest-go h kind a =
        let e : start + (4 * k + pb) ≡ start + 4 * k + pb = omega arith in
        let f : dimensions_from k (take (4 * k + pb) (drop start d)) ≡ dimensions_from k (take (4 * k) (drop start d)) = dimensions_front k (4 * k + pb) (drop start d) (omega arith) ∙ sym (dimensions_front k (4 * k) (drop start d) (omega arith)) in
        rw (
          kind,
          bytes-go (4 * k + pb) start d r (cap - pooled) (omega arith),
          rest_dimensions,
          piece-go (take (4 * k) (drop start d)) (length d) (start + (4 * k + pb)) (drop (start + (4 * k + pb)) d) r cap pooled (omega (arith, rest-long)),
          rest-long,
          f,
          e,
        )
