-- What is said in a frame, what is heard, and how messages lie on the words heard.
-- p, word_at, Speaker, Slot, with_one, heard, Word, word_if, words_of, got, agrees, plans_of. Assumes nothing.
use Rattle.std.specs.Prelude.{ℕ, zero, suc, ◌+◌, ◌*◌, ◌%◌, Bool, true, cond, ◌&&◌, List, [], ◌∷◌, ◌++◌, ◌==◌}
use Rattle.speakall.specs.Plan.{Channel, Plan, slot_at, same}

-- words are numbers modulo this prime, 2^31 - 1
abbrev pub p : ℕ
p = 2147483647

-- a message: numbers below p, the coefficients of a polynomial. In part x its value at x is said
unfoldable pub word_at : List ℕ → ℕ → ℕ
word_at [] x = 0
word_at (a ∷ as') x = (a + x * word_at as' x) % p

pub record Speaker : Type 0 where
  pub plan : Plan
  pub message : List ℕ

-- in one slot of one part: nobody, one with its word, or noise
pub data Slot : Type 0 where
  Silence : Slot
  One : (plan : Plan) → (word : ℕ) → Slot
  Noise : Slot

-- one more speaks in a slot
abbrev pub with_one : Plan → ℕ → Slot → Slot
with_one f w Silence = One f w
with_one f w (One g v) = Noise
with_one f w Noise = Noise

-- what is heard in slot s of part x
unfoldable pub heard : ℕ → List Speaker → ℕ → ℕ → Slot
heard q [] x s = Silence
heard q (a ∷ as') x s = cond (slot_at q a.plan x == s) (with_one a.plan (word_at a.message x) (heard q as' x s)) (heard q as' x s)

-- what is heard of a sender: in which parts it was alone, and its words there
pub record Word : Type 0 where
  pub part : ℕ
  pub word : ℕ

abbrev pub word_if : Plan → ℕ → Slot → List Word
word_if f x Silence = []
word_if f x Noise = []
word_if f x (One g w) = cond (same f g) (record { part = x; word = w } ∷ []) []

-- the words heard of plan f in the n parts from x on
unfoldable pub words_of : ℕ → List Speaker → Plan → ℕ → ℕ → List Word
words_of q ss f x zero = []
words_of q ss f x (suc n) = word_if f x (heard q ss x (slot_at q f x)) ++ words_of q ss f (x + 1) n

abbrev pub got : Channel → List Speaker → Plan → List Word
got c ss f = words_of c.q ss f 0 c.q

-- a message lies on all these words
unfoldable pub agrees : List ℕ → List Word → Bool
agrees m [] = true
agrees m (w ∷ ws) = word_at m w.part == w.word && agrees m ws

unfoldable pub plans_of : List Speaker → List Plan
plans_of [] = []
plans_of (s ∷ ss) = s.plan ∷ plans_of ss
