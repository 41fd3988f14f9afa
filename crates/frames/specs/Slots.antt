-- What is heard in the slots of a frame, in the code's terms and in the statement's.
-- joined, own_word, slot_in, Said, is_there, there_in, misplaced, slot_of, Hears, refusal, speaker, Spoke. Assumes nothing.
use Rattle.std.specs.Prelude.{◌≡◌, ℕ, ◌+◌, ◌*◌, ◌^◌, ◌<◌, ◌≤◌, Bool, true, cond, ◌&&◌, List, [], ◌∷◌, length, Some, None, Option, ◌==◌, ◌≢◌, nat_lt, slice_index_or}
use Rattle.channels.specs.declared.fault.Fault.{Fault}
use Rattle.channels.specs.declared.fault.Fault.TheVariants as fault
use Rattle.frames.specs.declared.slot.Slot.{Slot}
use Rattle.frames.specs.declared.slot.Slot.TheVariants.{Silence, One, Noise}
use Rattle.polynomials.specs.declared.words.PartWord.{PartWord}
use Rattle.speakall.specs.Frame as statement
use Rattle.speakall.specs.Plan.{Channel, Plan, below, plan_of, size, slot_at}

-- one sender more speaks in a slot
abbrev pub joined : (sender word : ℕ) → Slot → Slot
joined n w Silence = One n w
joined n w (One m v) = Noise
joined n w Noise = Noise

-- the word of a sender in a slot of part x, if it is alone there
abbrev pub own_word : (number x : ℕ) → Slot → Option PartWord
own_word n x Silence = None
own_word n x (One m w) = cond (m == n) (Some (record { part = x; value = w })) None
own_word n x Noise = None

-- what stands in slot y of part x
abbrev pub slot_in : ℕ → List Slot → (x y : ℕ) → Slot
slot_in q slots x y = slice_index_or slots (x * q + y) Silence

-- a sender with plan f has spoken its message in the parts below n, and in the others the slots are as before
pub record Said (q : ℕ) (f : Plan) (sender : ℕ) (message : List ℕ) (n : ℕ) (before after : List Slot) : Type 0 where
  pub long : length after ≡ length before
  pub own : (x : ℕ) → x < n → slot_in q after x (slot_at q f x) ≡ joined sender (statement.word_at message x) (slot_in q before x (slot_at q f x))
  pub others : (x y : ℕ) → x < n → y < q → (slot_at q f x ≢ y) → slot_in q after x y ≡ slot_in q before x y
  pub later : (x y : ℕ) → n ≤ x → y < q → slot_in q after x y ≡ slot_in q before x y

-- a word that is heard is of a sender below n
abbrev pub is_there : ℕ → Slot → Bool
is_there n Silence = true
is_there n (One m w) = nat_lt m n
is_there n Noise = true

-- only senders below n are heard
unfoldable pub there_in : ℕ → List Slot → Bool
there_in n [] = true
there_in n (s ∷ ss) = is_there n s && there_in n ss

-- why a slot cannot be put there: a part or slot that isn't there, or the word of a sender that isn't
abbrev pub misplaced : Channel → (x y : ℕ) → Slot → Option Fault
misplaced c x y s = cond (nat_lt x c.q && nat_lt y c.q) (cond (is_there (c.q ^ c.d) s) None (Some fault.Sender)) (Some fault.Order)

-- the code's slot as the statement's
abbrev pub slot_of : Channel → Slot → statement.Slot
slot_of c Silence = statement.Silence
slot_of c (One n w) = statement.One (plan_of c n) w
slot_of c Noise = statement.Noise

-- these slots are what is heard when ss speak
abbrev pub Hears : Channel → List statement.Speaker → List Slot → Type 0
Hears c ss slots = (x y : ℕ) → x < c.q → y < c.q → slot_of c (slot_in c.q slots x y) ≡ statement.heard c.q ss x y

-- a sender with its message, as the statement has it
abbrev pub speaker : Channel → ℕ → List ℕ → statement.Speaker
speaker c n m = record { plan = plan_of c n; message = m }

-- why a sender cannot speak: it isn't there, or its message is of a wrong length or has a number of 2^30 or above
abbrev pub refusal : Channel → ℕ → List ℕ → Option Fault
refusal c n m = cond (nat_lt n (c.q ^ c.d)) (cond (length m == size c && below 1073741824 m) None (Some fault.Message)) (Some fault.Sender)

-- a sender spoke that can, and whoever was heard before, now it is heard with them
pub record Spoke (c : Channel) (n : ℕ) (m : List ℕ) (before after : List Slot) : Type 0 where
  pub can : refusal c n m ≡ None
  pub heard : (ss : List statement.Speaker) → Hears c ss before → Hears c (speaker c n m ∷ ss) after
