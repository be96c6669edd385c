-- The state of the pass over a name, as the code holds it.
use Rattle.std.specs.Prelude.{◌≡◌, ◌&&◌, cond, leb, List, [], ◌∷◌, ℕ, zero, suc, ◌+◌, ◌≤◌, ◌<◌, length, take}
use Rattle.format.specs.Utf8.{Lead, single, ill, lead, up_to, leads, Utf8State, ready, waiting, Utf8Step}
use Rattle.names.specs.declared.Start.{Start}
use Rattle.names.specs.declared.Start.TheVariants.{Single, Ill, More}
use Rattle.names.specs.declared.Carry.{Carry}
use Rattle.names.specs.declared.Stepped.{Stepped}

unfoldable pub lead_of : Start → Lead
lead_of Single = single
lead_of Ill = ill
lead_of (More n lo hi) = lead n lo hi

-- one to three bytes are to follow a first byte
unfoldable pub Sized : Start → Type 0
Sized Single = Unit {0}
Sized Ill = Unit {0}
Sized (More n lo hi) = (0 < n) × (n ≤ 3)

unfoldable pub carrying : (count : ℕ) (bytes : List ℕ) (more low high : ℕ) → Utf8State
carrying zero w n lo hi = ready
carrying (suc k) w n lo hi = waiting (take (suc k) w) n lo hi

unfoldable pub state_of : Carry → Utf8State
state_of c = carrying c.count (c.first ∷ c.second ∷ c.third ∷ []) c.more c.low c.high

-- what is to follow the next byte: nothing follows one that is ill
unfoldable pub less_one : (more : ℕ) → Lead
less_one zero = single
less_one (suc zero) = single
less_one (suc (suc n)) = lead (suc n) 0x80 0xbf

unfoldable pub follow_of : Lead → (b : ℕ) → Lead
follow_of single b = up_to leads b
follow_of ill b = ill
follow_of (lead n lo hi) b = cond (leb lo b && leb b hi) (less_one n) ill

-- nothing is given out, and so many bytes are carried on: the next one is any that may follow
abbrev pub carry_on_of : (count first second third more : ℕ) → Stepped
carry_on_of k a b c n = record { out = 0 ∷ 0 ∷ 0 ∷ 0 ∷ 0 ∷ 0 ∷ []; len = 0; next = record { count = k; first = a; second = b; third = c; more = n; low = 0x80; high = 0xbf } }

-- what is carried and what is to come are at most four bytes, of which one is to come
pub record Fits (c : Carry) : Type 0 where
  pub few : c.count ≤ 3
  pub waits : 0 < c.count → (0 < c.more) × (c.count + c.more ≤ 4)

-- the code's step is the definition's
pub record Steps (r : Stepped) (x : Utf8Step) : Type 0 where
  pub out : take r.len r.out ≡ x.out
  pub next : state_of r.next ≡ x.next
  pub fits : Fits r.next
  pub six : length r.out ≡ 6
  pub short : r.len ≤ 6
