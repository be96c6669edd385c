-- The number that decimal digits write.
use Rattle.std.specs.Prelude.{ℕ, ◌+◌, ◌-◌, ◌*◌, Bool, cond, ◌&&◌, List, [], ◌∷◌, leb, ltb, Option, Some, None}

-- `0` to `9`
unfoldable pub is_digit : ℕ → Bool
is_digit b = leb 48 b && leb b 57

-- behind digits that write a value, as long as 64 bits hold it
unfoldable pub decimal_from : (value : ℕ) → List ℕ → Option ℕ
decimal_from v [] = Some v
decimal_from v (b ∷ s) =
    cond (is_digit b && ltb (10 * v + (b - 48)) 18446744073709551616) (decimal_from (10 * v + (b - 48)) s) None

-- of at least one digit
unfoldable pub decimal_of : List ℕ → Option ℕ
decimal_of [] = None
decimal_of (b ∷ s) = decimal_from 0 (b ∷ s)
