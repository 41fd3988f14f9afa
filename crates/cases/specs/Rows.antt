-- The worked cases as rows of one table, and what it is for a row to hold, by the definitions that the contracts of the code cite.
-- Row, meeting, said, Holds, channel, five, three, table, Cases. Assumes nothing.
use Rattle.std.specs.Prelude.{◌≡◌, ℕ, zero, suc, ◌^◌, cond, List, [], ◌∷◌, ◌++◌, map, ◌==◌}
use Rattle.std.specs.List.{AllByRecursion}
use Rattle.frames.specs.Slots.{speaker}
use Rattle.messages.specs.Made.{Made}
use Rattle.planning.specs.Wishes.{Best, slots}
use Rattle.planning.specs.declared.wish.Wish.{Wish}
use Rattle.speakall.specs.Code.{Read}
use Rattle.speakall.specs.Frame.{Noise, Speaker, Word, got, heard, word_at}
use Rattle.speakall.specs.Plan.{Channel, plan_of, size, slot_at}
use Rattle.speakall.specs.Promise.{table_of}

pub data Row : Type 0 where
  -- the slots of a sender, part by part
  Slots : (c : Channel) (number : ℕ) (found : List ℕ) → Row
  -- the parts in which two senders' plans have one slot
  Meet : (c : Channel) (one other : ℕ) (parts : List ℕ) → Row
  -- how many numbers a message has, and how many senders there are
  Sizes : (c : Channel) (numbers senders : ℕ) → Row
  -- the words of a message in the first parts
  Words : (message found : List ℕ) → Row
  -- with these speakers there is noise in this slot
  Noisy : (c : Channel) (speakers : List Speaker) (part slot : ℕ) → Row
  -- with these speakers a sender is alone in these parts
  Alone : (c : Channel) (speakers : List Speaker) (number : ℕ) (parts : List ℕ) → Row
  -- with these speakers a sender's message is read, resting on so many words, none off
  Heard : (c : Channel) (speakers : List Speaker) (number : ℕ) (message : List ℕ) (count : ℕ) → Row
  -- the channel for what is asked, its numbers of a message and its slots of a frame
  Planned : (wish : Wish) (c : Channel) (numbers found : ℕ) → Row

-- the parts below n in which two have one slot
unfoldable pub meeting : (f g : ℕ → ℕ) → ℕ → List ℕ
meeting f g zero = []
meeting f g (suc n) = meeting f g n ++ cond (f n == g n) (n ∷ []) []

-- the words of a message in the parts below n
unfoldable pub said : List ℕ → ℕ → List ℕ
said m zero = []
said m (suc n) = said m n ++ (word_at m n ∷ [])

abbrev pub Holds : Row → Type 0
Holds (Slots c n found) = table_of c.q (plan_of c n) c.q ≡ found
Holds (Meet c n m parts) = meeting (slot_at c.q (plan_of c n)) (slot_at c.q (plan_of c m)) c.q ≡ parts
Holds (Sizes c numbers senders) = (size c ≡ numbers) × (c.q ^ c.d ≡ senders)
Holds (Words m found) = said m 5 ≡ found
Holds (Noisy c ss x y) = heard c.q ss x y ≡ Noise
Holds (Alone c ss n parts) = map (λ (w : Word). w.part) (got c ss (plan_of c n)) ≡ parts
Holds (Heard c ss n m count) = Made c.q (size c) (got c ss (plan_of c n)) (Read.Reads m count 0)
Holds (Planned w c numbers found) = Best w c × (size c ≡ numbers) × (slots c ≡ found)

abbrev pub channel : (q d k : ℕ) → Channel
channel q d k = record { q = q; d = d; k = k }

abbrev pub five : Channel
five = channel 5 2 2

-- three speak, each with three numbers
abbrev pub three : List Speaker
three = speaker five 7 (10 ∷ 1 ∷ 0 ∷ []) ∷ speaker five 17 (3 ∷ 1 ∷ 4 ∷ []) ∷ speaker five 12 (1 ∷ 0 ∷ 5 ∷ []) ∷ []

abbrev pub table : List Row
table =
    Slots five 7 (2 ∷ 3 ∷ 4 ∷ 0 ∷ 1 ∷ []) ∷
    Slots five 17 (2 ∷ 0 ∷ 3 ∷ 1 ∷ 4 ∷ []) ∷
    Slots five 12 (2 ∷ 4 ∷ 1 ∷ 3 ∷ 0 ∷ []) ∷
    Meet five 7 17 (0 ∷ []) ∷
    Sizes five 3 25 ∷
    Words (10 ∷ 1 ∷ 0 ∷ []) (10 ∷ 11 ∷ 12 ∷ 13 ∷ 14 ∷ []) ∷
    Noisy five three 0 2 ∷
    Alone five three 7 (1 ∷ 2 ∷ 3 ∷ 4 ∷ []) ∷
    Alone five three 17 (1 ∷ 2 ∷ 3 ∷ 4 ∷ []) ∷
    Alone five three 12 (1 ∷ 2 ∷ 3 ∷ 4 ∷ []) ∷
    Heard five three 7 (10 ∷ 1 ∷ 0 ∷ []) 4 ∷
    Heard five three 17 (3 ∷ 1 ∷ 4 ∷ []) 4 ∷
    Heard five three 12 (1 ∷ 0 ∷ 5 ∷ []) 4 ∷
    Sizes (channel 5 3 2) 1 125 ∷
    Planned (record { senders = 9000; others = 9; numbers = 10 }) (channel 29 3 9) 11 841 ∷
    []

-- the theorem: every row holds
abbrev pub Cases : Type 0
Cases = AllByRecursion Holds table
