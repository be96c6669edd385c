-- Names are made valid by the rule of `String::from_utf8_lossy`: each maximal ill-formed part becomes EF BF BD.
-- One pass over the bytes, whose state carries at most three of them.
use Rattle.std.specs.Prelude.{ℕ, zero, suc, Bool, true, false, cond, ◌&&◌, List, [], ◌∷◌, ◌++◌, leb}

-- what a byte may begin: a character of its own, or one of more bytes, of which the next lies from low to high
pub data Lead : Type 0 where
  single ill : Lead
  lead : (more low high : ℕ) → Lead

unfoldable pub up_to : List (ℕ × Lead) → ℕ → Lead
up_to [] b = ill
up_to (x ∷ xs) b = cond (leb b x.0) x.1 (up_to xs b)

-- Unicode, table 3-7 (well-formed UTF-8 byte sequences), by the greatest first byte of each line
unfoldable pub leads : List (ℕ × Lead)
leads =
    (0x7f, single)
    ∷ (0xc1, ill)
    ∷ (0xdf, lead 1 0x80 0xbf)
    ∷ (0xe0, lead 2 0xa0 0xbf)
    ∷ (0xec, lead 2 0x80 0xbf)
    ∷ (0xed, lead 2 0x80 0x9f)
    ∷ (0xef, lead 2 0x80 0xbf)
    ∷ (0xf0, lead 3 0x90 0xbf)
    ∷ (0xf3, lead 3 0x80 0xbf)
    ∷ (0xf4, lead 3 0x80 0x8f)
    ∷ []

-- between characters, or after the bytes of one of which so many are still to come, the next from low to high
pub data Utf8State : Type 0 where
  ready : Utf8State
  waiting : (before : List ℕ) (more low high : ℕ) → Utf8State

-- a step's output and next state; sound, if nothing was mended
pub record Utf8Step : Type 0 where
  pub sound : Bool
  pub out : List ℕ
  pub next : Utf8State

-- U+FFFD
unfoldable pub replacement : List ℕ
replacement = 0xef ∷ 0xbf ∷ 0xbd ∷ []

-- a byte between characters
unfoldable pub begin : ℕ → Lead → Utf8Step
begin b single = record { sound = true; out = b ∷ []; next = ready }
begin b (lead n lo hi) = record { sound = true; out = []; next = waiting (b ∷ []) n lo hi }
begin b ill = record { sound = false; out = replacement; next = ready }

-- a character breaks off before this step
unfoldable pub broken : Utf8Step → Utf8Step
broken x = record { sound = false; out = replacement ++ x.out; next = x.next }

-- a character goes on, and is whole or has more to come
unfoldable pub going : List ℕ → ℕ → Utf8Step
going w zero = record { sound = true; out = w; next = ready }
going w (suc n) = record { sound = true; out = []; next = waiting w (suc n) 0x80 0xbf }

unfoldable pub step : Utf8State → ℕ → Utf8Step
step ready b = begin b (up_to leads b)
step (waiting w zero lo hi) b = broken (begin b (up_to leads b))
step (waiting w (suc n) lo hi) b = cond (leb lo b && leb b hi) (going (w ++ (b ∷ [])) n) (broken (begin b (up_to leads b)))

unfoldable pub at_end : Utf8State → List ℕ
at_end ready = []
at_end (waiting w n lo hi) = replacement

unfoldable pub mended_from : Utf8State → List ℕ → List ℕ
mended_from st [] = at_end st
mended_from st (b ∷ s) = (step st b).out ++ mended_from (step st b).next s

-- the name made valid
unfoldable pub mended : List ℕ → List ℕ
mended s = mended_from ready s

unfoldable pub is_ready : Utf8State → Bool
is_ready ready = true
is_ready (waiting w n lo hi) = false

unfoldable pub well_formed_from : Utf8State → List ℕ → Bool
well_formed_from st [] = is_ready st
well_formed_from st (b ∷ s) = (step st b).sound && well_formed_from (step st b).next s

-- valid UTF-8
unfoldable pub well_formed : List ℕ → Bool
well_formed s = well_formed_from ready s

-- The pass can be broken off after any byte and taken up again from the state: the bytes it carries, its state after some bytes, and what it gave out for them.
unfoldable pub carried : Utf8State → List ℕ
carried ready = []
carried (waiting w n lo hi) = w

unfoldable pub state_after : Utf8State → List ℕ → Utf8State
state_after st [] = st
state_after st (b ∷ s) = state_after (step st b).next s

unfoldable pub output_of : Utf8State → List ℕ → List ℕ
output_of st [] = []
output_of st (b ∷ s) = (step st b).out ++ output_of (step st b).next s
