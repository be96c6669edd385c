-- Document 01, "The numbered refusals": the number and the values of each.
use Rattle.std.specs.Prelude.{ℕ, List, [], ◌∷◌, ◌++◌, slice_get, codes, Result, Ok, Err}
use Rattle.std.specs.Fmt.{decimal}
use Rattle.refusal.specs.declared.Refusal.{Refusal}
use Rattle.refusal.specs.declared.Refusal.TheVariants.{BadTable, TooDeep, TooMany, Short, TooNew, BadClass, BadVersion, BadPadding, BadCharset, BadReferenceKind, PoolFull, ZeroSize, NoSuchEdition, Unstorable, NotInEdition, OutsideRecord, HeapHeld, WrongLength, Unmapped, SlotOutside, NoRoom}
use Rattle.refusal.specs.declared.RefusalValues.{RefusalValues}

-- the number of a refusal
abbrev pub number_of : Refusal → ℕ
number_of BadTable = 1
number_of TooDeep = 2
number_of TooMany = 3
number_of (Short expected available) = 4
number_of (TooNew version) = 5
number_of (BadClass class) = 6
number_of (BadVersion class version) = 7
number_of (BadPadding code) = 8
number_of (BadCharset code) = 9
number_of (BadReferenceKind code) = 10
number_of PoolFull = 11
number_of (ZeroSize class) = 12
number_of NoSuchEdition = 13
number_of Unstorable = 14
number_of NotInEdition = 15
number_of OutsideRecord = 16
number_of HeapHeld = 17
number_of WrongLength = 18
number_of Unmapped = 19
number_of SlotOutside = 20
number_of (NoRoom needed) = 21

-- the values that a refusal bears, in the paper's order
abbrev pub values_of : Refusal → List ℕ
values_of BadTable = []
values_of TooDeep = []
values_of TooMany = []
values_of (Short expected available) = expected ∷ available ∷ []
values_of (TooNew version) = version ∷ []
values_of (BadClass class) = class ∷ []
values_of (BadVersion class version) = class ∷ version ∷ []
values_of (BadPadding code) = code ∷ []
values_of (BadCharset code) = code ∷ []
values_of (BadReferenceKind code) = code ∷ []
values_of PoolFull = []
values_of (ZeroSize class) = class ∷ []
values_of NoSuchEdition = []
values_of Unstorable = []
values_of NotInEdition = []
values_of OutsideRecord = []
values_of HeapHeld = []
values_of WrongLength = []
values_of Unmapped = []
values_of SlotOutside = []
values_of (NoRoom needed) = needed ∷ []

-- the first and the second of the values, where there are so many
abbrev pub values_from : Refusal → RefusalValues
values_from e = record { first = slice_get (values_of e) 0; second = slice_get (values_of e) 1 }

-- "`refused`, number and values on one line, spaces between"
unfoldable pub spaced : List ℕ → List ℕ
spaced [] = []
spaced (n ∷ ns) = codes " " ++ decimal n ++ spaced ns

unfoldable pub refused_text : Refusal → List ℕ
refused_text e = codes "refused" ++ spaced (number_of e ∷ values_of e)

-- the number of an answer: 0 for a result, or the refusal's; and its values
unfoldable pub answer_number : {A : Type 0} → Result A Refusal → ℕ
answer_number (Ok x) = 0
answer_number (Err e) = number_of e

unfoldable pub answer_values : {A : Type 0} → (A → List ℕ) → Result A Refusal → List ℕ
answer_values shown (Ok x) = shown x
answer_values shown (Err e) = values_of e
