-- What the code must be, to be this system: a sender's slot and word for a part, and what a listener makes of the words heard of one sender.
-- Read, off_of, has_part, sound, sound_in, OnlyOne, Code. Assumes nothing.
use Rattle.std.specs.Prelude.{◌≡◌, ℕ, ◌+◌, ◌*◌, ◌<◌, ◌≤◌, Bool, true, false, cond, not, ◌&&◌, ◌||◌, T, List, [], ◌∷◌, length, ◌==◌, nat_lt}
use mathlib.Core.List.{Memᴰ}
use Rattle.speakall.specs.Plan.{Channel, Good, Plan, IsPlan, slot_at, below, size}
use Rattle.speakall.specs.Frame.{p, Speaker, Word, got, word_at}
use Rattle.speakall.specs.Promise.{Frame}

-- what is made of the words of one sender: too few with their count, a message with the count of words and of words off it, or doubtful
pub data Read : Type 0 where
  TooFew : (count : ℕ) → Read
  Reads : (message : List ℕ) → (count off : ℕ) → Read
  Doubtful : Read

-- how many words a message is off
unfoldable pub off_of : List ℕ → List Word → ℕ
off_of m [] = 0
off_of m (w ∷ ws) = cond (word_at m w.part == w.word) 0 1 + off_of m ws

unfoldable pub has_part : ℕ → List Word → Bool
has_part x [] = false
has_part x (w ∷ ws) = x == w.part || has_part x ws

-- all of different parts, and numbers below p
unfoldable pub sound : List Word → Bool
sound [] = true
sound (w ∷ ws) = not (has_part w.part ws) && nat_lt w.part p && nat_lt w.word p && sound ws

-- the same, with parts below q
unfoldable pub sound_in : ℕ → List Word → Bool
sound_in q [] = true
sound_in q (w ∷ ws) = not (has_part w.part ws) && nat_lt w.part q && nat_lt w.word p && sound_in q ws

-- At most one message of s numbers lies within e of w sound words when 2 e + s ≤ w.
abbrev pub OnlyOne : Type 0
OnlyOne =
    (q : ℕ) → q < 252 → (ws : List Word) → T (sound_in q ws) → (s e : ℕ) → 2 * e + s ≤ length ws → (m n : List ℕ) → length m ≡ s → length n ≡ s →
    T (below p m) → T (below p n) → off_of m ws ≤ e → off_of n ws ≤ e → m ≡ n

-- the sender's slot and word for a part, and what a listener makes of the words heard of one sender, whatever they are
pub record Code (c : Channel) : Type 0 where
  pub slot : Plan → (part : ℕ) → ℕ
  pub word : List ℕ → (part : ℕ) → ℕ
  pub reads : List Word → Read
  pub slot_so : (f : Plan) (x : ℕ) → IsPlan c f → x < c.q → slot f x ≡ slot_at c.q f x
  pub word_so : (m : List ℕ) (x : ℕ) → length m ≡ size c → T (below p m) → x < c.q → word m x ≡ word_at m x
  pub too_few : (ws : List Word) → length ws < size c → reads ws ≡ TooFew (length ws)
  -- what it reads lies on the words but for those off, which are at most half of those above the size; and numbers are below 2 to the 30
  pub reads_so : (ws : List Word) (m : List ℕ) (n o : ℕ) → reads ws ≡ Reads m n o → (length m ≡ size c) × T (below 1073741824 m) × (n ≡ length ws) × (2 * o + size c ≤ length ws) × (off_of m ws ≡ o)
  -- and where there is such a message, with at most 4 words off, it is read
  pub found : (ws : List Word) (m : List ℕ) → T (sound ws) → length m ≡ size c → T (below 1073741824 m) → 2 * off_of m ws + size c ≤ length ws → off_of m ws ≤ 4 → reads ws ≡ Reads m (length ws) (off_of m ws)
  -- and of up to k + 1 speakers it reads each one's message, resting on all words heard
  pub all_read : Good c → (ss : List Speaker) → Frame c ss → (s : Speaker) → Memᴰ s ss → T (below 1073741824 s.message) → reads (got c ss s.plan) ≡ Reads s.message (length (got c ss s.plan)) 0
