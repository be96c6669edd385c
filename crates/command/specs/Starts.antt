-- How bytes begin.
use Rattle.std.specs.Prelude.{ℕ, Bool, List, [], ◌∷◌, length, take}
use Rattle.format.specs.Table.{same_words}

-- the first bytes are these
unfoldable pub starts_as : (start s : List ℕ) → Bool
starts_as start s = same_words (take (length start) s) start

-- the signature of an HDF5 file: 89 48 44 46 0D 0A 1A 0A
abbrev pub signature : List ℕ
signature = 137 ∷ 72 ∷ 68 ∷ 70 ∷ 13 ∷ 10 ∷ 26 ∷ 10 ∷ []

-- `--help`
abbrev pub help_word : List ℕ
help_word = 45 ∷ 45 ∷ 104 ∷ 101 ∷ 108 ∷ 112 ∷ []
