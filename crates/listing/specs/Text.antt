-- The text of program `fields`, as bytes: a heading and "one line per type row", or the line of a refusal.
use Rattle.std.specs.Prelude.{ℕ, zero, suc, ◌+◌, ◌/◌, ◌%◌, cond, List, [], ◌∷◌, ◌++◌, length, leb, ltb}
use Rattle.std.proofs.Math.Option.{Option, none, some}
use Rattle.refusal.specs.Refusal.{number_of, values_of}
use Rattle.refusal.specs.declared.Refusal.{Refusal}
use Rattle.refusal.specs.declared.Refusal.TheVariants.{NoRoom}
use Rattle.format.specs.Datatype.{Datatype, leaf, compound, enumeration, variable_length, array, Members, no_members, member, type_size_of, class_number}
use Rattle.format.specs.Outcome.{Outcome, gives, when_given, unless, needed}
use Rattle.format.specs.Table.{type_of}

-- a number in decimal, at most so many digits of it
unfoldable pub decimal_in : (digits number : ℕ) → List ℕ
decimal_in zero n = []
decimal_in (suc k) n = cond (ltb n 10) ((48 + n) ∷ []) (decimal_in k (n / 10) ++ ((48 + n % 10) ∷ []))

-- all of its digits: a number of 64 bits has at most 20
unfoldable pub decimal : ℕ → List ℕ
decimal n = decimal_in 20 n

-- numbers in decimal, a space before each
unfoldable pub spaced : List ℕ → List ℕ
spaced [] = []
spaced (n ∷ ns) = (32 ∷ decimal n) ++ spaced ns

-- 0 to 9 and A to F
unfoldable pub hex_digit_of : ℕ → ℕ
hex_digit_of d = cond (ltb d 10) (48 + d) (55 + d)

-- bytes in hexadecimal, two digits each
unfoldable pub hexadecimal : List ℕ → List ℕ
hexadecimal [] = []
hexadecimal (b ∷ s) = hex_digit_of (b / 16) ∷ hex_digit_of (b % 16) ∷ hexadecimal s

-- "the name is hexadecimal, `-` where there is none, `.` where empty"
unfoldable pub name_text : Option (List ℕ) → List ℕ
name_text none = 45 ∷ []
name_text (some []) = 46 ∷ []
name_text (some (b ∷ s)) = hexadecimal (b ∷ s)

-- the line of one type: level, class, offset, size, name
unfoldable pub line : (level offset : ℕ) (name : Option (List ℕ)) → Datatype → List ℕ
line l o b t = (decimal l ++ spaced (class_number t ∷ o ∷ type_size_of t ∷ [])) ++ ((32 ∷ name_text b) ++ (10 ∷ []))

unfoldable mutual
  -- the lines of the types inside a type of a level; "offset is the member's, else 0"
  pub inner_lines : (level : ℕ) → Datatype → List ℕ
  inner_lines l (leaf n x) = []
  inner_lines l (compound n ms) = member_lines (suc l) ms
  inner_lines l (enumeration n t ms) = line (suc l) 0 none t ++ inner_lines (suc l) t
  inner_lines l (variable_length i a c t) = line (suc l) 0 none t ++ inner_lines (suc l) t
  inner_lines l (array ds t) = line (suc l) 0 none t ++ inner_lines (suc l) t

  pub member_lines : (level : ℕ) → Members → List ℕ
  member_lines l no_members = []
  member_lines l (member b o t ms) = (line l o (some b) t ++ inner_lines l t) ++ member_lines l ms

-- a type's line and those of the types inside
unfoldable pub lines : (level offset : ℕ) (name : Option (List ℕ)) → Datatype → List ℕ
lines l o b t = line l o b t ++ inner_lines l t

-- `level class offset size name`
unfoldable pub heading : List ℕ
heading =
    108 ∷ 101 ∷ 118 ∷ 101 ∷ 108 ∷ 32 ∷ 99 ∷ 108 ∷ 97 ∷ 115 ∷ 115 ∷ 32 ∷ 111 ∷ 102 ∷ 102 ∷ 115 ∷ 101 ∷ 116 ∷ 32 ∷ 115 ∷ 105 ∷ 122 ∷ 101 ∷ 32 ∷ 110 ∷ 97 ∷ 109 ∷ 101 ∷ 10 ∷ []

-- of the outermost type, whose level is 1
unfoldable pub fields_text : Datatype → List ℕ
fields_text t = heading ++ lines 1 0 none t

-- "`refused`, number and values on one line, spaces between"
unfoldable pub refusal_text : Refusal → List ℕ
refusal_text e = ((114 ∷ 101 ∷ 102 ∷ 117 ∷ 115 ∷ 101 ∷ 100 ∷ []) ++ spaced (number_of e ∷ values_of e)) ++ (10 ∷ [])

-- a text into so much room: refusal 21
unfoldable pub fitting : (room : ℕ) → List ℕ → Outcome (List ℕ)
fitting room s = unless (leb (length s) room) (NoRoom (needed (length s))) (gives s)

-- the text of the type that a table and pool set out: refusal 1 first
unfoldable pub fields_listing : (table pool : List ℕ) (room : ℕ) → Outcome (List ℕ)
fields_listing table pool room = when_given (type_of table pool) λ t. fitting room (fields_text t)

unfoldable pub refusal_listing : Refusal → (room : ℕ) → Outcome (List ℕ)
refusal_listing e room = fitting room (refusal_text e)
