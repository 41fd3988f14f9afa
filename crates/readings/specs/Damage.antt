-- What damaged words can do to a message, and what they cannot; and that the answers by definition are those that the system's record asks for.
-- Damage, TheCode, Coded, split, Majority. Assumes nothing.
use Rattle.std.specs.Prelude.{◌≡◌, ℕ, ◌<◌, ◌≤◌, T, List, [], ◌∷◌, length, ◌≢◌}
use Rattle.readings.specs.Reads.{limit, reads, reads_in, spare}
use Rattle.speakall.specs.Code.{Code, Read, Reads, Doubtful, off_of, sound_in}
use Rattle.speakall.specs.Frame.{Word, p, word_at}
use Rattle.speakall.specs.Plan.{Channel, Plan, below, size, slot_at}

-- m was said, and r is what is made of the words ws heard: off_of m ws of them are wrong, which are those that are not the words of m
pub record Damage (q s : ℕ) (ws : List Word) (r : Read) : Type 0 where
  -- where no more words are wrong than may be, m is read, with the count of wrong ones
  pub still_read : (m : List ℕ) → T (sound_in q ws) → s ≤ length ws → length m ≡ s → T (below limit m) → off_of m ws ≤ spare (length ws) s → r ≡ Reads m (length ws) (off_of m ws)
  -- a message that was not said is read only if more are wrong
  pub not_believed : (m n : List ℕ) (w o : ℕ) → length m ≡ s → T (below p m) → r ≡ Reads n w o → (n ≢ m) → spare (length ws) s < off_of m ws

-- a term of the system's record whose slot, word and answer are the definitions that the code's contracts cite
pub record TheCode (c : Channel) : Type 0 where
  pub code : Code c
  pub slot_is : (f : Plan) (x : ℕ) → code.slot f x ≡ slot_at c.q f x
  pub word_is : (m : List ℕ) (x : ℕ) → code.word m x ≡ word_at m x
  pub reads_is : (ws : List Word) → code.reads ws ≡ reads (size c) ws

-- for every channel there is one
abbrev pub Coded : Type 0
Coded = (c : Channel) → TheCode c

-- five words, in the parts 0 to 4
abbrev pub split : List Word
split = record { part = 0; word = 10 } ∷ record { part = 1; word = 11 } ∷ record { part = 2; word = 99 } ∷ record { part = 3; word = 98 } ∷ record { part = 4; word = 14 } ∷ []

abbrev pub one : List ℕ
one = 10 ∷ 1 ∷ 0 ∷ []

abbrev pub other : List ℕ
other = 10 ∷ 88 ∷ 536870890 ∷ []

-- three of the five words, the majority, lie on the one message, and three on the other: one of them at least was never said, and we read none
pub record Majority : Type 0 where
  pub messages : T (below limit one) × T (below limit other)
  pub on_one : off_of one split ≡ 2
  pub on_other : off_of other split ≡ 2
  pub doubtful : reads_in 5 3 split ≡ Doubtful
