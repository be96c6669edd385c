-- What the functions of the reader ensure, by what they return.
use Rattle.std.specs.Prelude.{◌≡◌, ◌⊎◌, Bool, true, false, List, [], ◌∷◌, ◌++◌, ℕ, suc, ◌+◌, ◌-◌, ◌*◌, ◌≤◌, ◌<◌, eqb, length, take, drop, Err, Ok, Result}
use Rattle.std.proofs.lemmas.List.Edits.{sets}
use Rattle.refusal.specs.declared.Refusal.{Refusal}
use Rattle.refusal.specs.declared.Refusal.TheVariants.{TooDeep, BadPadding, BadCharset, ZeroSize}
use Rattle.format.specs.declared.Header.{Header}
use Rattle.format.specs.Bits.{low_bits, high_bits}
use Rattle.format.specs.Bytes.{dimensions_from}
use Rattle.format.specs.Datatype.{Datatype, compound, enumeration, variable_length, array, Members, member, EnumMember, enum_names, enum_values, member_count_of, type_size_of, row_count, member_row_count, pool_bytes, member_pool}
use Rattle.format.specs.Reading.{Answer, got, refused, Reader, then, ◌>>=◌, give, refuse, inner, count_of, read_members_of, read_name_of, read_names_of, read_values_of, read_properties, class_kind, sized, read_type_of}
use Rattle.format.specs.Table.{Kind, is_leaf, isCompound, isEnumeration, isVariableLength, isArray, isUnknown, isFixedPoint, isFloatingPoint, isTime, is_string_of, isBitField, isOpaque, isReference, rows, member_rows, member_row, enum_rows, enum_member_row}
use Rattle.reading.specs.declared.Limits.{Limits}
use Rattle.reading.specs.declared.Cursor.{Cursor}
use Rattle.reading.specs.declared.State.{State}
use Rattle.reading.specs.declared.LeafKind.{LeafKind}
use Rattle.reading.specs.declared.LeafKind.TheVariants.{FixedPoint, FloatingPoint, Time, String, BitField, Opaque, Reference}
use Rattle.reading.specs.declared.Around.{Around}
use Rattle.reading.specs.declared.Around.TheVariants.{Enumeration, VariableLength, Array}
use Rattle.reading.specs.declared.Base.{Base}
use Rattle.reading.specs.declared.Opened.{Opened}
use Rattle.reading.specs.declared.Opened.TheVariants.{Leaf, Compound, Based}

-- a reader of the format at a place of the message d, with rows and pool bytes used
abbrev pub run : {A : Type 0} → Reader A → List ℕ → Limits → (at used pooled : ℕ) → Answer A
run m d lim at used pooled = m (length d) at (drop at d) (lim.rows - used) (lim.pool - pooled)

-- a was read, up to a cursor
abbrev pub here : {A : Type 0} → A → List ℕ → Limits → Cursor → Answer A
here a d lim s = got a s.at (drop s.at d) (lim.rows - s.rows) (lim.pool - s.pooled)

-- the table and the pool hold what the limits say, of which some is used
pub record Ready (lim : Limits) (used pooled : ℕ) (t p : List ℕ) : Type 0 where
  pub filled : used ≤ lim.rows
  pub few : lim.rows ≤ 4096
  pub table : lim.rows * 16 ≤ length t
  pub room : pooled ≤ lim.pool
  pub small : lim.pool ≤ 65536
  pub pool : lim.pool ≤ length p

-- what was read stands in the table and the pool: its words, and its pool bytes
pub record Landed {A : Type 0} (words : ℕ → A → List ℕ) (bytes : A → List ℕ) (count : A → ℕ) (Q : A → Type 0) (o : Answer A) (d : List ℕ) (lim : Limits) (used pooled : ℕ) (s : Cursor) (t t' p p' : List ℕ) : Type 0 where
  pub tree : A
  pub such : Q tree
  pub is : o ≡ here tree d lim s
  pub rows_are : s.rows ≡ used + count tree
  pub pooled_are : s.pooled ≡ pooled + length (bytes tree)
  pub table : t' ≡ sets t (used * 16) (words pooled tree)
  pub pool : p' ≡ sets p pooled (bytes tree)
  pub ready : Ready lim s.rows s.pooled t' p'
  pub near : s.at ≤ length d + 7

-- by what is returned, which says where it ends; a refusal says nothing of the table and the pool
pub record After {A S : Type 0} (end : S → Cursor) (words : ℕ → A → List ℕ) (bytes : A → List ℕ) (count : A → ℕ) (Q : S → A → Type 0) (o : Answer A) (d : List ℕ) (lim : Limits) (used pooled : ℕ) (r : Result S Refusal) (t t' p p' : List ℕ) : Type 0 where
  pub done : (s : S) → r ≡ Ok s → Landed words bytes count (Q s) o d lim used pooled (end s) t t' p p'
  pub denied : (e : Refusal) → r ≡ Err e → o ≡ refused e

-- a type and its size, which is not 0
abbrev pub AfterType : Answer Datatype → List ℕ → Limits → (used pooled : ℕ) → Result State Refusal → (t t' p p' : List ℕ) → Type 0
AfterType = After (λ s. s.end) rows pool_bytes row_count (λ s t. (s.size ≡ type_size_of t) × (0 < type_size_of t))

-- so many members
abbrev pub AfterMembers : (count : ℕ) → Answer Members → List ℕ → Limits → (used pooled : ℕ) → Result Cursor Refusal → (t t' p p' : List ℕ) → Type 0
AfterMembers k = After (λ s. s) member_rows member_pool member_row_count (λ s ms. member_count_of ms ≡ k)

-- a type's own row is stored and ends it, or its size is 0
pub record EndsRow (used class : ℕ) (words : List ℕ) (end : Cursor) (size : ℕ) (r : Result State Refusal) (t t' : List ℕ) : Type 0 where
  pub done : (s : State) → r ≡ Ok s → (s ≡ record { end = end; size = size }) × (0 < size) × (t' ≡ sets t (used * 16) words)
  pub denied : (e : Refusal) → r ≡ Err e → (e ≡ ZeroSize class) × (size ≡ 0) × (t' ≡ t)

-- the codes of a string are known, or the first that is not is refused
pub record StringCodes (padding charset : ℕ) (r : Result (Unit {0}) Refusal) : Type 0 where
  pub known : r ≡ Ok tt → (padding ≤ 2) × (charset ≤ 1)
  pub unknown : (e : Refusal) → r ≡ Err e → ((2 < padding) × (e ≡ BadPadding padding)) ⊎ ((padding ≤ 2) × (1 < charset) × (e ≡ BadCharset charset))

-- ---- before a nested message

-- classes 0 to 5 and 7 have no type inside
unfoldable pub leaf_kind : Kind → Bool
leaf_kind (is_leaf k) = true
leaf_kind isCompound = false
leaf_kind isEnumeration = false
leaf_kind isVariableLength = false
leaf_kind isArray = false
leaf_kind isUnknown = false

-- the kinds of type with no type inside
unfoldable pub kind_of_leaf : LeafKind → Kind
kind_of_leaf FixedPoint = is_leaf isFixedPoint
kind_of_leaf FloatingPoint = is_leaf isFloatingPoint
kind_of_leaf Time = is_leaf isTime
kind_of_leaf String = is_leaf is_string_of
kind_of_leaf BitField = is_leaf isBitField
kind_of_leaf Opaque = is_leaf isOpaque
kind_of_leaf Reference = is_leaf isReference

-- a type with no type inside: the reader of the types inside is never asked
unfoldable pub read_leaf_of : Header → Reader Datatype
read_leaf_of h = read_properties (refuse TooDeep) h (class_kind h.class)

-- a compound in the layout of a version
unfoldable pub read_compound : Reader Datatype → Header → (version : ℕ) → Reader Datatype
read_compound rd h v = do
  ms ← read_members_of rd v h.size (count_of h)
  give (compound h.size ms)

-- a variable-length type by its flags
unfoldable pub variable_of : Header → Bool → Datatype → Datatype
variable_of h true t = variable_length 1 (suc (high_bits 4 h.f0)) (suc (low_bits 4 h.f1)) t
variable_of h false t = variable_length 0 0 0 t

-- an enumeration's names and values
unfoldable pub read_enum_members_of : (version count size : ℕ) → Reader (List EnumMember)
read_enum_members_of v k n = do
  bs ← read_names_of v k
  read_values_of n bs

-- what stands behind the base's message
unfoldable pub behind : Header → (dimensions : List ℕ) → Kind → Datatype → Reader Datatype
behind h ds isEnumeration t = do
  ms ← read_enum_members_of h.version (count_of h) (type_size_of t)
  give (enumeration h.size t ms)
behind h ds isVariableLength t = give (variable_of h (eqb (low_bits 4 h.f0) 1) t)
behind h ds isArray t = give (array ds t)
behind h ds (is_leaf k) t = refuse TooDeep
behind h ds isCompound t = refuse TooDeep
behind h ds isUnknown t = refuse TooDeep

-- a type over a base
unfoldable pub read_based : Reader Datatype → Header → (dimensions : List ℕ) → Reader Datatype
read_based rd h ds = do
  t ← inner rd
  behind h ds (class_kind h.class) t

-- a header was read
pub record Begun (d : List ℕ) (lim : Limits) (used : ℕ) (h : Header) : Type 0 where
  pub is : (n pooled : ℕ) → run (read_type_of lim.version (suc n)) d lim 0 used pooled
      ≡ run (sized h (read_properties (read_type_of lim.version n) h (class_kind h.class))) d lim 8 (used + 1) pooled
  pub long : 8 ≤ length d
  pub free : used < lim.rows

pub record Heads (d : List ℕ) (lim : Limits) (used : ℕ) (r : Result Header Refusal) : Type 0 where
  pub begun : (h : Header) → r ≡ Ok h → Begun d lim used h
  pub shut : (e : Refusal) → r ≡ Err e → (n pooled : ℕ) → run (read_type_of lim.version (suc n)) d lim 0 used pooled ≡ refused e

pub record OpensLeaf (d : List ℕ) (lim : Limits) (used pooled : ℕ) (h : Header) (k : LeafKind) : Type 0 where
  pub is : (n : ℕ) → run (read_type_of lim.version (suc n)) d lim 0 used pooled ≡ run (sized h (read_leaf_of h)) d lim 8 (used + 1) pooled
  pub kind : class_kind h.class ≡ kind_of_leaf k
  pub long : 8 ≤ length d
  pub free : used < lim.rows

pub record OpensCompound (d : List ℕ) (lim : Limits) (used pooled : ℕ) (h : Header) (v : ℕ) : Type 0 where
  pub is : (n : ℕ) → run (read_type_of lim.version (suc n)) d lim 0 used pooled ≡ run (sized h (read_compound (read_type_of lim.version n) h v)) d lim 8 (used + 1) pooled
  pub long : 8 ≤ length d
  pub free : used < lim.rows

-- the dimensions in the message, of class 10 alone
unfoldable pub dimensions_of_lem : List ℕ → Around → List ℕ
dimensions_of_lem d Enumeration = []
dimensions_of_lem d VariableLength = []
dimensions_of_lem d (Array start rank) = dimensions_from rank (take (4 * rank) (drop start d))

-- what stands around the base is of the header's class, and the dimensions stand in the message
pub record Surrounds (d : List ℕ) (k : Kind) (a : Around) : Type 0 where
  pub enumeration : a ≡ Enumeration → k ≡ isEnumeration
  pub variable : a ≡ VariableLength → k ≡ isVariableLength
  pub array : (start rank : ℕ) → a ≡ Array start rank → (k ≡ isArray) × (rank ≤ 255) × (start + 4 * rank ≤ length d)

pub record OpensBased (d : List ℕ) (lim : Limits) (used pooled : ℕ) (h : Header) (b : Base) : Type 0 where
  pub is : (n : ℕ) → run (read_type_of lim.version (suc n)) d lim 0 used pooled
      ≡ run (sized h (read_based (read_type_of lim.version n) h (dimensions_of_lem d b.around))) d lim b.from (used + 1) b.place
  pub around : Surrounds d (class_kind h.class) b.around
  pub within : b.from ≤ length d
  pub sought : (start rank : ℕ) → b.around ≡ Array start rank → start + 4 * rank ≤ b.from
  pub place_is : b.place ≡ pooled + 4 * length (dimensions_of_lem d b.around)
  pub room : b.place ≤ lim.pool
  pub free : used < lim.rows

pub record Opens (d : List ℕ) (lim : Limits) (used pooled : ℕ) (h : Header) (r : Result Opened Refusal) : Type 0 where
  pub leaf : (k : LeafKind) → r ≡ Ok (Leaf k) → OpensLeaf d lim used pooled h k
  pub compound : (v : ℕ) → r ≡ Ok (Compound v) → OpensCompound d lim used pooled h v
  pub based : (b : Base) → r ≡ Ok (Based b) → OpensBased d lim used pooled h b
  pub shut : (e : Refusal) → r ≡ Err e → (n : ℕ) → run (read_type_of lim.version (suc n)) d lim 0 used pooled ≡ refused e

-- ---- a member

-- a member is begun: its row and its name are stored, and its type comes next
pub record Entered (d : List ℕ) (lim : Limits) (v size : ℕ) (c s : Cursor) (t t' p p' : List ℕ) : Type 0 where
  pub name : List ℕ
  pub offset : ℕ
  pub is : (rd : Reader Datatype) (k : ℕ) → run (read_members_of rd v size (suc k)) d lim c.at c.rows c.pooled
      ≡ then (run (inner rd) d lim s.at s.rows s.pooled) (λ t at s r p. then (read_members_of rd v size k (length d) at s r p) (λ ms at s r p. got (member name offset t ms) at s r p))
  pub rows_are : s.rows ≡ c.rows + 1
  pub pooled_are : s.pooled ≡ c.pooled + length name
  pub table : t' ≡ sets t (c.rows * 16) (member_row c.pooled offset (length name))
  pub pool : p' ≡ sets p c.pooled name
  pub ready : Ready lim s.rows s.pooled t' p'
  pub within : s.at ≤ length d

pub record Enters (d : List ℕ) (lim : Limits) (v size : ℕ) (c : Cursor) (r : Result Cursor Refusal) (t t' p p' : List ℕ) : Type 0 where
  pub entered : (s : Cursor) → r ≡ Ok s → Entered d lim v size c s t t' p p'
  pub stopped : (e : Refusal) → r ≡ Err e → (rd : Reader Datatype) (k : ℕ) → run (read_members_of rd v size (suc k)) d lim c.at c.rows c.pooled ≡ refused e

-- ---- an enumeration's members

-- a name's row and bytes, the value's length beside it
pub record Named (d : List ℕ) (lim : Limits) (v width : ℕ) (c s : Cursor) (t t' p p' : List ℕ) : Type 0 where
  pub name : List ℕ
  pub is : run (read_name_of v) d lim c.at c.rows c.pooled ≡ here name d lim s
  pub rows_are : s.rows ≡ c.rows + 1
  pub pooled_are : s.pooled ≡ c.pooled + length name
  pub table : t' ≡ sets t (c.rows * 16) (enum_member_row c.pooled (length name) width)
  pub pool : p' ≡ sets p c.pooled name
  pub filled : s.rows ≤ lim.rows
  pub room : s.pooled ≤ lim.pool
  pub near : s.at ≤ length d + 7

pub record Names (d : List ℕ) (lim : Limits) (v width : ℕ) (c : Cursor) (r : Result Cursor Refusal) (t t' p p' : List ℕ) : Type 0 where
  pub named : (s : Cursor) → r ≡ Ok s → Named d lim v width c s t t' p p'
  pub stopped : (e : Refusal) → r ≡ Err e → run (read_name_of v) d lim c.at c.rows c.pooled ≡ refused e

-- rows of names whose values have one width
unfoldable pub name_rows : (width place : ℕ) → List (List ℕ) → List ℕ
name_rows w p [] = []
name_rows w p (b ∷ bs) = enum_member_row p (length b) w ++ name_rows w (p + length b) bs

unfoldable pub joined_names : List (List ℕ) → List ℕ
joined_names [] = []
joined_names (b ∷ bs) = b ++ joined_names bs

-- so many names
abbrev pub AfterNames : (count width : ℕ) → Answer (List (List ℕ)) → List ℕ → Limits → (used pooled : ℕ) → Result Cursor Refusal → (t t' p p' : List ℕ) → Type 0
AfterNames k w = After (λ s. s) (name_rows w) joined_names length (λ s bs. length bs ≡ k)

-- values, which take no rows
pub record Valued (o : Answer (List EnumMember)) (bs : List (List ℕ)) (width : ℕ) (d : List ℕ) (lim : Limits) (used pooled : ℕ) (s : Cursor) (p p' : List ℕ) : Type 0 where
  pub members : List EnumMember
  pub is : o ≡ here members d lim s
  pub rows_same : (place : ℕ) → enum_rows place members ≡ name_rows width place bs
  pub names_same : enum_names members ≡ joined_names bs
  pub count_same : length members ≡ length bs
  pub pooled_are : s.pooled ≡ pooled + length (enum_values members)
  pub pool : p' ≡ sets p pooled (enum_values members)
  pub rows_are : s.rows ≡ used
  pub room : s.pooled ≤ lim.pool
  pub near : s.at ≤ length d + 7

pub record Values (bs : List (List ℕ)) (o : Answer (List EnumMember)) (width : ℕ) (d : List ℕ) (lim : Limits) (used pooled : ℕ) (r : Result Cursor Refusal) (p p' : List ℕ) : Type 0 where
  pub done : (s : Cursor) → r ≡ Ok s → Valued o bs width d lim used pooled s p p'
  pub denied : (e : Refusal) → r ≡ Err e → o ≡ refused e

-- names and values together: rows behind rows, names and values behind what is in the pool
abbrev pub AfterEnum : (count : ℕ) → Answer (List EnumMember) → List ℕ → Limits → (used pooled : ℕ) → Result Cursor Refusal → (t t' p p' : List ℕ) → Type 0
AfterEnum k = After (λ s. s) enum_rows (λ ms. enum_names ms ++ enum_values ms) length (λ s ms. length ms ≡ k)

-- ---- behind a nested message

-- a base was read behind the dimensions ds, up to `inner` in the message d
pub record BaseRead (d : List ℕ) (lim : Limits) (used pooled : ℕ) (ds : List ℕ) (inner : State) (t p : List ℕ) : Type 0 where
  pub ready : Ready lim inner.end.rows inner.end.pooled t p
  pub near : inner.end.at ≤ length d + 7
  pub some_size : 0 < inner.size
  pub more : used < inner.end.rows
  pub place : pooled + 4 * length ds ≤ inner.end.pooled

-- the rest of a type over a base that stands in the table and the pool already: its own row, and rows, pool bytes before and behind
pub record Ended (d : List ℕ) (lim : Limits) (used pooled : ℕ) (h : Header) (ds : List ℕ) (base : Datatype) (c : Cursor) (s : State) (t t' p p' : List ℕ) : Type 0 where
  pub tree : Datatype
  pub is : run (sized h (behind h ds (class_kind h.class) base)) d lim c.at c.rows c.pooled ≡ here tree d lim s.end
  pub size_is : s.size ≡ type_size_of tree
  pub some_size : 0 < type_size_of tree
  pub head : List ℕ
  pub more : List ℕ
  pub before : List ℕ
  pub after : List ℕ
  pub head-long : length head ≡ 16
  pub before-long : length before ≡ 4 * length ds
  pub words_are : rows pooled tree ≡ head ++ (rows (pooled + length before) base ++ more)
  pub bytes-are : pool_bytes tree ≡ before ++ (pool_bytes base ++ after)
  pub table : t' ≡ sets (sets t (c.rows * 16) more) (used * 16) head
  pub pool : p' ≡ sets (sets p c.pooled after) pooled before
  pub rows_are : s.end.rows ≡ used + row_count tree
  pub pooled_are : s.end.pooled ≡ pooled + length (pool_bytes tree)
  pub filled : s.end.rows ≤ lim.rows
  pub room : s.end.pooled ≤ lim.pool
  pub near : s.end.at ≤ length d + 7

-- for every base of this size whose rows and pool bytes end where the state says
pub record Ends (d : List ℕ) (lim : Limits) (used pooled : ℕ) (h : Header) (ds : List ℕ) (inner : State) (r : Result State Refusal) (t t' p p' : List ℕ) : Type 0 where
  pub done : (s : State) → r ≡ Ok s → (base : Datatype) → type_size_of base ≡ inner.size → inner.end.rows ≡ used + 1 + row_count base → inner.end.pooled ≡ pooled + 4 * length ds + length (pool_bytes base)
      → Ended d lim used pooled h ds base inner.end s t t' p p'
  pub denied : (e : Refusal) → r ≡ Err e → (base : Datatype) → type_size_of base ≡ inner.size
      → run (sized h (behind h ds (class_kind h.class) base)) d lim inner.end.at inner.end.rows inner.end.pooled ≡ refused e
