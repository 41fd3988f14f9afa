-- Numbers as bytes, high byte first.
-- four_bytes, three_bytes, four_at, three_at, numbers_of, bytes_of_numbers, are_small. Assumes nothing.
use Rattle.std.specs.Prelude.{ℕ, suc, ◌+◌, ◌*◌, ◌/◌, ◌%◌, ◌^◌, Bool, true, ◌&&◌, List, [], ◌∷◌, nat_lt, slice_index}
use Rattle.std.specs.List.{flat_map}

abbrev pub four_bytes : ℕ → List ℕ
four_bytes n = (n / 2 ^ 24 % 256) ∷ (n / 2 ^ 16 % 256) ∷ (n / 2 ^ 8 % 256) ∷ (n % 256) ∷ []

abbrev pub three_bytes : ℕ → List ℕ
three_bytes n = (n / 2 ^ 16 % 256) ∷ (n / 2 ^ 8 % 256) ∷ (n % 256) ∷ []

-- the number of four bytes at a place of some bytes
abbrev pub four_at : ℕ → List ℕ → ℕ
four_at i bs = slice_index bs i * 2 ^ 24 + slice_index bs (suc i) * 2 ^ 16 + slice_index bs (suc (suc i)) * 2 ^ 8 + slice_index bs (suc (suc (suc i)))

-- the number of three bytes at a place of some bytes
abbrev pub three_at : ℕ → List ℕ → ℕ
three_at i bs = slice_index bs i * 2 ^ 16 + slice_index bs (suc i) * 2 ^ 8 + slice_index bs (suc (suc i))

-- the numbers in some bytes, four bytes each; fewer than four bytes at the end are none
unfoldable pub numbers_of : List ℕ → List ℕ
numbers_of [] = []
numbers_of (a ∷ []) = []
numbers_of (a ∷ b ∷ []) = []
numbers_of (a ∷ b ∷ c ∷ []) = []
numbers_of (a ∷ b ∷ c ∷ d ∷ rest) = four_at 0 (a ∷ b ∷ c ∷ d ∷ []) ∷ numbers_of rest

-- the bytes of numbers, one after the other
abbrev pub bytes_of_numbers : List ℕ → List ℕ
bytes_of_numbers numbers = flat_map four_bytes numbers

-- each of the numbers is below 2^30
unfoldable pub are_small : List ℕ → Bool
are_small [] = true
are_small (n ∷ ns) = nat_lt n (2 ^ 30) && are_small ns
