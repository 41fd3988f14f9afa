-- What a sender says, and which bytes heard in a slot count as a sender's word; all others are noise.
-- SaidBy, Speaks, Counts, sender_in, word_in, is_counted. Assumes nothing.
use Rattle.std.specs.Prelude.{◌≡◌, ℕ, ◌+◌, ◌*◌, ◌%◌, ◌^◌, ◌<◌, Bool, ◌&&◌, List, ◌==◌, nat_lt, slice_index}
use Rattle.std.specs.Str.{bytes_eq}
use Rattle.speakall.specs.Plan.{Channel, slot_at, plan_of}
use Rattle.speakall.specs.Frame.{p}
use Rattle.words.specs.Bytes.{air_bytes}

-- the number, the frame and the word that stand on the air for the word of a sender that is there
pub record SaidBy (c : Channel) (sender frame word : ℕ) (s f w : ℕ) : Type 0 where
  pub there : sender < c.q ^ c.d
  pub number : s ≡ sender
  pub remainder : f ≡ frame % 256
  pub same : w ≡ word

-- a sender that is there speaks in this slot of this part, by its plan
pub record Speaks (c : Channel) (sender part slot : ℕ) : Type 0 where
  pub there : sender < c.q ^ c.d
  pub in-part : part < c.q
  pub in-slot : slot ≡ slot_at c.q (plan_of c sender) part

-- the bytes heard in this slot are those of this sender's word in this part of this frame, and the sender speaks there
pub record Counts (c : Channel) (frame part slot : ℕ) (bytes : List ℕ) (sender word : ℕ) : Type 0 where
  pub said : bytes ≡ air_bytes sender (frame % 256) word part
  pub speaks : Speaks c sender part slot
  pub below : word < p

-- the sender's number in the bytes of a word
abbrev pub sender_in : List ℕ → ℕ
sender_in bytes = slice_index bytes 0 * 2 ^ 16 + slice_index bytes 1 * 2 ^ 8 + slice_index bytes 2

-- the word in the bytes of a word
abbrev pub word_in : List ℕ → ℕ
word_in bytes = slice_index bytes 4 * 2 ^ 24 + slice_index bytes 5 * 2 ^ 16 + slice_index bytes 6 * 2 ^ 8 + slice_index bytes 7

-- the same as a test: what the bytes say has these bytes in this part and frame, the sender is there and speaks in this slot of this part, and the word is below p
unfoldable pub is_counted : Channel → (frame part slot : ℕ) → List ℕ → Bool
is_counted c frame part slot bytes =
    let sender = sender_in bytes in
    let word = word_in bytes in
    bytes_eq bytes (air_bytes sender (frame % 256) word part) && nat_lt sender (c.q ^ c.d) && nat_lt part c.q && slot == slot_at c.q (plan_of c sender) part && nat_lt word p
