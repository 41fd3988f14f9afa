-- The twelve bytes of a word on the air, high byte first: the sender's number (3), the frame modulo 256 (1), the word (4),
-- and the first four bytes of SHA-256 over these eight and the part (1).
-- body, sum_of, air_bytes. Assumes nothing.
use Rattle.std.specs.Prelude.{ℕ, ◌/◌, ◌%◌, ◌^◌, List, [], ◌∷◌, ◌++◌, take}
use Rattle.sha256.specs.Hash.{digest}

-- the eight bytes that say something; the frame is the number modulo 256
abbrev pub body : (sender frame word : ℕ) → List ℕ
body sender frame word =
    (sender / 2 ^ 16 % 256) ∷ (sender / 2 ^ 8 % 256) ∷ (sender % 256) ∷ frame ∷ (word / 2 ^ 24 % 256) ∷ (word / 2 ^ 16 % 256) ∷ (word / 2 ^ 8 % 256) ∷ (word % 256) ∷ []

-- the four bytes that follow these in a part
abbrev pub sum_of : List ℕ → (part : ℕ) → List ℕ
sum_of bytes part = take 4 (digest (bytes ++ (part ∷ [])))

abbrev pub air_bytes : (sender frame word part : ℕ) → List ℕ
air_bytes sender frame word part = let said = body sender frame word in said ++ sum_of said part
