-- What is to be made of the words heard of one sender, whatever they are, some of them perhaps wrong.
-- spare, Near, Found, Made; the same as a definition that gives the answer: or_else, first_of, first_read, read_as, reads, reads_in. Assumes nothing.
use Rattle.std.specs.Prelude.{◌≡◌, ℕ, zero, suc, ◌-◌, ◌/◌, ◌<◌, ◌≤◌, min, cond, ◌||◌, T, List, [], ◌∷◌, length, nat_le, nat_lt}
use Rattle.speakall.specs.Code.{Read, TooFew, Reads, Doubtful, off_of, sound_in}
use Rattle.speakall.specs.Frame.{Word, p}
use Rattle.speakall.specs.Plan.{below}

-- numbers of a message are below 2^30
abbrev pub limit : ℕ
limit = 1073741824

-- of w words of a message of s numbers so many may be off: half of those above s, rounded down, at most 4
abbrev pub spare : (w s : ℕ) → ℕ
spare w s = min 4 ((w - s) / 2)

-- a message of s numbers that at most e of the words are off
pub record Near (s e : ℕ) (ws : List Word) (m : List ℕ) : Type 0 where
  pub long : length m ≡ s
  pub small : T (below limit m)
  pub near : off_of m ws ≤ e

-- the message m is found: the words are sound and enough, so many may be off it, and no other polynomial of s coefficients is so near
pub record Found (q s : ℕ) (ws : List Word) (m : List ℕ) : Type 0 where
  pub enough : s ≤ length ws
  pub sound : T (sound_in q ws)
  pub near : Near s (spare (length ws) s) ws m
  pub only : (n : List ℕ) → length n ≡ s → T (below p n) → off_of n ws ≤ spare (length ws) s → n ≡ m

-- what is made of the words ws, with parts below q, of a message of s numbers: too few exactly if they are fewer than s, with their count;
-- a message exactly if one is near enough, and then that one, with the count of all words and of those off it;
-- doubtful exactly if there are enough words and no message is near enough, or they are not sound
abbrev pub Made : (q s : ℕ) → List Word → Read → Type 0
Made q s ws (TooFew n) = (n ≡ length ws) × (length ws < s)
Made q s ws (Reads m n o) = (n ≡ length ws) × (o ≡ off_of m ws) × Found q s ws m
Made q s ws Doubtful = (s ≤ length ws) × (T (sound_in q ws) → (m : List ℕ) → Near s (spare (length ws) s) ws m → ⊥)

-- the first of two answers that is not doubtful
abbrev pub or_else : Read → Read → Read
or_else (TooFew n) r = TooFew n
or_else (Reads m n o) r = Reads m n o
or_else Doubtful r = r

-- the first answer for 0, 1, .., n - 1 that is not doubtful
unfoldable pub first_of : (n : ℕ) → (ℕ → Read) → Read
first_of zero answer = Doubtful
first_of (suc n) answer = or_else (first_of n answer) (answer n)

-- the first answer for the lists of s numbers below n that is not doubtful
unfoldable pub first_read : (s n : ℕ) → (List ℕ → Read) → Read
first_read zero n answer = answer []
first_read (suc s) n answer = first_of n (λ a. first_read s n (λ m. answer (a ∷ m)))

-- the message m is read if at most e of the words are off it
abbrev pub read_as : (e : ℕ) → List Word → List ℕ → Read
read_as e ws m = cond (nat_le (off_of m ws) e) (Reads m (length ws) (off_of m ws)) Doubtful

-- too few, or the first message of s numbers below 2^30 that is near enough, or doubtful if none is
unfoldable pub reads : (s : ℕ) → List Word → Read
reads s ws = cond (nat_lt (length ws) s) (TooFew (length ws)) (first_read s limit (read_as (spare (length ws) s) ws))

-- the same for words with parts below q: where there are enough and they are not sound, doubtful
abbrev pub reads_in : (q s : ℕ) → List Word → Read
reads_in q s ws = cond (nat_lt (length ws) s || sound_in q ws) (reads s ws) Doubtful
