-- The fields of a type, which bytes of a record they count, and a record as it is compared.
use Rattle.std.specs.Prelude.{ℕ, zero, suc, ◌+◌, ◌*◌, ◌≡◌, Bool, true, false, cond, not, ◌&&◌, ◌||◌, List, [], ◌∷◌, ◌++◌, get_or, take, drop, leb, ltb, eqb}
use Rattle.format.specs.Datatype.{Leaf, fixed_point, floating_point, time, string, bit_field, opaque, reference, Datatype, leaf, compound, enumeration, variable_length, array, Members, no_members, member, type_size_of, product}
use Rattle.format.specs.Table.{same_words}

-- where a field has its bytes, and whether it is "a NUL-terminated string field"
pub record Field : Type 0 where
  pub place : ℕ
  pub size : ℕ
  pub ended : Bool

-- class 3 with padding 0, of any size and charset
unfoldable pub leaf_ends : Leaf → Bool
leaf_ends (fixed_point o s f q) = false
leaf_ends (floating_point o y) = false
leaf_ends (time o q) = false
leaf_ends (string a c) = eqb a 0
leaf_ends (bit_field o f q) = false
leaf_ends (opaque g) = false
leaf_ends (reference k) = false

-- an enumeration over such a string is none
unfoldable pub ends : Datatype → Bool
ends (leaf n x) = leaf_ends x
ends (compound n ms) = false
ends (enumeration n t ms) = false
ends (variable_length i a c t) = false
ends (array ds t) = false

-- the field that a type is at a place
unfoldable pub field_of : Datatype → (place : ℕ) → Field
field_of t p = record { place = p; size = type_size_of t; ended = ends t }

-- each field of a list, moved by an offset
unfoldable pub move_field : ℕ → Field → Field
move_field o f = record { place = o + f.place; size = f.size; ended = f.ended }

unfoldable pub move_fields : ℕ → List Field → List Field
move_fields o [] = []
move_fields o (f ∷ fs) = move_field o f ∷ move_fields o fs

-- a list for each of n entries from the k-th on, "array entries a base size apart"
unfoldable pub field_entries : (stride : ℕ) → List Field → (k n : ℕ) → List Field
field_entries stride fs k zero = []
field_entries stride fs k (suc n) = move_fields (k * stride) fs ++ field_entries stride fs (suc k) n

unfoldable mutual
  -- the fields in walking order; "compounds and arrays aren't themselves fields here"
  pub fields_of : Datatype → List Field
  fields_of (leaf n x) = field_of (leaf n x) 0 ∷ []
  fields_of (compound n ms) = member_fields ms
  fields_of (enumeration n t ms) = field_of (enumeration n t ms) 0 ∷ []
  fields_of (variable_length i a c t) = field_of (variable_length i a c t) 0 ∷ []
  fields_of (array ds t) = field_entries (type_size_of t) (fields_of t) 0 (product ds)

  pub member_fields : Members → List Field
  member_fields no_members = []
  member_fields (member b o t ms) = move_fields o (fields_of t) ++ member_fields ms

-- no byte of a record from place p on and before place i is NUL
unfoldable pub no_nul_between : List ℕ → (p i : ℕ) → Bool
no_nul_between r p zero = true
no_nul_between r p (suc i) = (ltb i p || not (eqb (get_or r i 0) 0)) && no_nul_between r p i

-- a place is one of the field's bytes
unfoldable pub owned_by : Field → ℕ → Bool
owned_by f i = leb f.place i && ltb i (f.place + f.size)

-- In such a string "every byte after the first NUL is compared as if it were zero; one with no NUL, and every other field, counts whole"
unfoldable pub counted_by : Field → List ℕ → ℕ → Bool
counted_by f r i = owned_by f i && (not f.ended || no_nul_between r f.place i)

-- some field of a list passes a test
unfoldable pub some_field : (Field → Bool) → List Field → Bool
some_field test [] = false
some_field test (f ∷ fs) = test f || some_field test fs

-- some field of a list counts place i of a record
unfoldable pub counted_in : List Field → List ℕ → ℕ → Bool
counted_in fs r i = some_field (λ f. counted_by f r i) fs

-- the byte as it is taken
unfoldable pub taken_in : List Field → List ℕ → ℕ → ℕ
taken_in fs r i = cond (counted_in fs r i) (get_or r i 0) 0

-- n bytes from place i on, as they are taken
unfoldable pub image_from : List Field → List ℕ → (i n : ℕ) → List ℕ
image_from fs r i zero = []
image_from fs r i (suc n) = taken_in fs r i ∷ image_from fs r (suc i) n

-- of a record of a type: whether a place counts, the byte there as it is taken, and the whole record so taken
unfoldable pub counts : Datatype → List ℕ → ℕ → Bool
counts t r i = counted_in (fields_of t) r i

unfoldable pub taken : Datatype → List ℕ → ℕ → ℕ
taken t r i = taken_in (fields_of t) r i

unfoldable pub image : Datatype → List ℕ → List ℕ
image t r = image_from (fields_of t) r 0 (type_size_of t)

-- "Demand 3's agreement is then of the bytes so taken"
unfoldable pub agree : Datatype → (a b : List ℕ) → Bool
agree t a b = same_words (image t a) (image t b)

-- bytes up to and with the first NUL, or all where there is none
unfoldable pub up_to_nul : List ℕ → List ℕ
up_to_nul [] = []
up_to_nul (zero ∷ s) = zero ∷ []
up_to_nul (suc b ∷ s) = suc b ∷ up_to_nul s

-- the bytes of one field that are compared, where it is looked at by itself
unfoldable pub bytes_of : Field → List ℕ → List ℕ
bytes_of f r = take f.size (drop f.place r)

unfoldable pub compared_of : Field → List ℕ → List ℕ
compared_of f r = cond f.ended (up_to_nul (bytes_of f r)) (bytes_of f r)

-- What a walk over fields finds: equal bytes at each place that a field counts in the first record,
pub record FieldsAgree (fs : List Field) (a b : List ℕ) : Type 0 where
  pub equal : (i : ℕ) → counted_in fs a i ≡ true → get_or a i 0 ≡ get_or b i 0

-- or a place that they count in both records and at which these differ
pub record FieldsDiffer (fs : List Field) (a b : List ℕ) : Type 0 where
  pub place : ℕ
  pub first : counted_in fs a place ≡ true
  pub second : counted_in fs b place ≡ true
  pub differs : get_or a place 0 ≡ get_or b place 0 → ⊥
