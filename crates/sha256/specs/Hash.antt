-- The digest of a message, FIPS 180-4, 6.2.
-- next_word, schedule (W), round_on, rounds, sums, compressed, blocks_done, word_bytes, bytes_of, digest. Assumes nothing.
use Rattle.std.specs.Prelude.{ℕ, zero, suc, ◌+◌, ◌*◌, ◌/◌, ◌%◌, ◌^◌, List, [], ◌∷◌, ◌++◌, length, slice_index, slice_index_or}
use Rattle.sha256.specs.Constants.{constants, initial}
use Rattle.sha256.specs.Functions.{add, Ch, Maj, big_sigma0, big_sigma1, sigma0, sigma1}
use Rattle.sha256.specs.Padding.{padded, words_from}

-- the word that follows the first n + 16 words of the schedule
abbrev pub next_word : List ℕ → ℕ → ℕ
next_word w n = add (add (add (sigma1 (slice_index w (n + 14))) (slice_index w (n + 9))) (sigma0 (slice_index w (n + 1)))) (slice_index w n)

-- the first n + 16 words of the schedule of a block: the block's own, and n words made from those before them
unfoldable pub schedule : List ℕ → ℕ → List ℕ
schedule m zero = m
schedule m (suc n) = let w = schedule m n in w ++ (next_word w n ∷ [])

-- one round on the working variables a to h, with the round's constant k and word w
abbrev pub round_on : List ℕ → ℕ → ℕ → List ℕ
round_on s k w =
    let a = slice_index_or s 0 0 in let b = slice_index_or s 1 0 in let c = slice_index_or s 2 0 in let d = slice_index_or s 3 0 in
    let e = slice_index_or s 4 0 in let f = slice_index_or s 5 0 in let g = slice_index_or s 6 0 in let h = slice_index_or s 7 0 in
    let t1 = add (add (add (add h (big_sigma1 e)) (Ch e f g)) k) w in
    let t2 = add (big_sigma0 a) (Maj a b c) in
    add t1 t2 ∷ a ∷ b ∷ c ∷ add d t1 ∷ e ∷ f ∷ g ∷ []

-- the working variables after n rounds
unfoldable pub rounds : List ℕ → List ℕ → ℕ → List ℕ
rounds w s zero = s
rounds w s (suc n) = round_on (rounds w s n) (slice_index constants n) (slice_index w n)

-- word by word the sums of two hash values
abbrev pub sums : List ℕ → List ℕ → List ℕ
sums s t =
    add (slice_index s 0) (slice_index t 0) ∷ add (slice_index s 1) (slice_index t 1) ∷ add (slice_index s 2) (slice_index t 2) ∷ add (slice_index s 3) (slice_index t 3) ∷
    add (slice_index s 4) (slice_index t 4) ∷ add (slice_index s 5) (slice_index t 5) ∷ add (slice_index s 6) (slice_index t 6) ∷ add (slice_index s 7) (slice_index t 7) ∷ []

-- the hash value after a block of 16 words
abbrev pub compressed : List ℕ → List ℕ → List ℕ
compressed s m = sums s (rounds (schedule m 48) s 64)

-- the hash value after the first n blocks of a padded message
unfoldable pub blocks_done : List ℕ → ℕ → List ℕ
blocks_done bs zero = initial
blocks_done bs (suc n) = compressed (blocks_done bs n) (words_from bs (16 * n) 16)

-- a word as bytes, high byte first
abbrev pub word_bytes : ℕ → List ℕ
word_bytes w = (w / 2 ^ 24 % 256) ∷ (w / 2 ^ 16 % 256) ∷ (w / 2 ^ 8 % 256) ∷ (w % 256) ∷ []

-- the first n words of a hash value as bytes
unfoldable pub bytes_of : List ℕ → ℕ → List ℕ
bytes_of s zero = []
bytes_of s (suc n) = bytes_of s n ++ word_bytes (slice_index s n)

-- the digest of a message of bytes
unfoldable pub digest : List ℕ → List ℕ
digest m = let bs = padded m in bytes_of (blocks_done bs (length bs / 64)) 8
