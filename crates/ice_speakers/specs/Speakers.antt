-- The speakers that the senders' words give.
-- Says, number_in. Assumes nothing.
use Rattle.std.specs.Prelude.{◌≡◌, ℕ, vec_items}
use Rattle.frames.specs.declared.speaker.Speaker.{Speaker}
use Rattle.ice_speakers.specs.Wide.{message_of, narrow}
use Rattle.sender_words.specs.declared.spoken.Spoken.{Spoken}

-- a speaker says what a word gives, where messages have so many numbers
pub record Says (size : ℕ) (w : Spoken) (s : Speaker) : Type 0 where
  pub number : s.number ≡ narrow w.number
  pub message : vec_items s.message ≡ message_of size w.message

abbrev pub number_in : Speaker → ℕ
number_in s = s.number
