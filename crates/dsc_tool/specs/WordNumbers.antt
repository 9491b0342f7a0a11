-- Numbers on the command line, in decimal digits.
use Rattle.std.specs.Prelude.{ℕ, ◌+◌, ◌-◌, ◌*◌, ◌^◌, ◌&&◌, nat_lt, nat_le, if◌then◌else◌, List, [], ◌∷◌, length, Option, Some, None, option_and_then}

-- the most inputs that a command takes, and the most dylibs of a trial
abbrev pub most_inputs : ℕ
most_inputs = 4096

abbrev pub digit : ℕ → Option ℕ
digit c = if nat_le 48 c && nat_le c 57 then Some (c - 48) else None

-- the number that digits spell behind earlier ones, which spell a number
abbrev pub digits_behind : ℕ → List ℕ → Option ℕ
digits_behind n [] = Some n
digits_behind n (c ∷ rest) = option_and_then (λ d. digits_behind (10 * n + d) rest) (digit c)

-- the number that 1 to so many digits spell
abbrev pub number_of : ℕ → List ℕ → Option ℕ
number_of most digits = if nat_lt 0 (length digits) && nat_le (length digits) most then digits_behind 0 digits else None

-- a number from 1 up to another one, and one below another
abbrev pub from_1_to : ℕ → ℕ → Option ℕ
from_1_to most n = if nat_le 1 n && nat_le n most then Some n else None

abbrev pub below : ℕ → ℕ → Option ℕ
below limit n = if nat_lt n limit then Some n else None

-- the number of jobs, which is 1 where the words don't tell it
abbrev pub jobs_of : Option (List ℕ) → Option ℕ
jobs_of None = Some 1
jobs_of (Some text) = option_and_then (from_1_to 64) (number_of 2 text)

-- the seed of a trial, and how many dylibs it has
abbrev pub seed_of : List ℕ → Option ℕ
seed_of text = option_and_then (below (2 ^ 64)) (number_of 20 text)

abbrev pub count_of : List ℕ → Option ℕ
count_of text = option_and_then (from_1_to most_inputs) (number_of 4 text)
