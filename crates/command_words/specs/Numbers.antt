-- Numbers as they are written on a command line.
-- number_of, IsNumber, Reads. Assumes nothing.
use Rattle.std.specs.Prelude.{◌≡◌, ℕ, ◌^◌, ◌<◌, List, Some, None, Option}
use Rattle.std.specs.Str.Parse.{IsNumeral, without_leading_plus, digits_value}

-- the number that digits write, a plus before them or not
abbrev pub number_of : List ℕ → ℕ
number_of text = digits_value 10 (without_leading_plus text)

-- such digits, of a number below 2^64
abbrev pub IsNumber : List ℕ → Type 0
IsNumber text = IsNumeral 10 (without_leading_plus text) × (number_of text < 2 ^ 64)

-- the number that a text writes, and none exactly where it writes none
abbrev pub Reads : List ℕ → Option ℕ → Type 0
Reads text None = IsNumber text → ⊥
Reads text (Some n) = IsNumber text × (number_of text ≡ n)
