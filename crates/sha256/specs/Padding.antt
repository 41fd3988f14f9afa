-- How a message is padded to whole blocks of 64 bytes and cut into words, FIPS 180-4, 5.1.1 and 5.2.1.
-- zeros, length_field, padding, padded, word_at, words_from. Assumes nothing.
use Rattle.std.specs.Prelude.{ℕ, zero, suc, ◌+◌, ◌-◌, ◌*◌, ◌/◌, ◌%◌, ◌^◌, List, [], ◌∷◌, ◌++◌, length, replicate, slice_index}

-- how many zero bytes follow the byte 128 after a message of n bytes: with the eight bytes of its length they fill the last block
abbrev pub zeros : ℕ → ℕ
zeros n = (119 - n % 64) % 64

-- the length in bits as 64 bits, high byte first; the standard has it for messages below 2^61 bytes, and of longer ones this is the length modulo 2^64
abbrev pub length_field : ℕ → List ℕ
length_field n =
    (n / 2 ^ 56 % 256) ∷ (n / 2 ^ 48 % 256) ∷ (n / 2 ^ 40 % 256) ∷ (n / 2 ^ 32 % 256) ∷ (n / 2 ^ 24 % 256) ∷ (n / 2 ^ 16 % 256) ∷ (n / 2 ^ 8 % 256) ∷ (n % 256) ∷ []

-- what follows a message of n bytes
unfoldable pub padding : ℕ → List ℕ
padding n = 128 ∷ (replicate (zeros n) 0 ++ length_field (8 * n))

unfoldable pub padded : List ℕ → List ℕ
padded m = m ++ padding (length m)

-- the word number n of these bytes, high byte first
abbrev pub word_at : List ℕ → ℕ → ℕ
word_at bs n = slice_index bs (4 * n) * 2 ^ 24 + slice_index bs (4 * n + 1) * 2 ^ 16 + slice_index bs (4 * n + 2) * 2 ^ 8 + slice_index bs (4 * n + 3)

-- the first n words of the block that begins at this word
unfoldable pub words_from : List ℕ → ℕ → ℕ → List ℕ
words_from bs from zero = []
words_from bs from (suc n) = words_from bs from n ++ (word_at bs (from + n) ∷ [])
