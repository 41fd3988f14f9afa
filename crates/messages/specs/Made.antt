-- What a listener makes of the words heard of one sender, and what the code says of it.
-- read_of, fault_of, Zeros, Cleared, Fits, Found, Made. Assumes nothing.
use Rattle.std.specs.Prelude.{◌≡◌, ℕ, ◌<◌, ◌≤◌, T, List, length, Some, None, Option, slice_index}
use Rattle.channels.specs.declared.fault.Fault.{Fault}
use Rattle.channels.specs.declared.fault.Fault.TheVariants as fault
use Rattle.messages.specs.declared.listen.Reading.{Reading}
use Rattle.messages.specs.declared.listen.Reading.TheVariants.{TooFew, Message, Doubtful}
use Rattle.speakall.specs.Code.{Read, sound_in}
use Rattle.speakall.specs.Frame.{Word, agrees, p}
use Rattle.speakall.specs.Plan.{below}

-- the code's reading, with the numbers that it left in the lent memory
abbrev pub read_of : Reading → List ℕ → Read
read_of (TooFew n) left = Read.TooFew n
read_of (Message n o) left = Read.Reads left n o
read_of Doubtful left = Read.Doubtful

-- the fault that is told in the place of a message
abbrev pub fault_of : Reading → Option Fault
fault_of (TooFew n) = Some fault.TooFew
fault_of (Message n o) = None
fault_of Doubtful = Some fault.Doubtful

abbrev pub Zeros : List ℕ → Type 0
Zeros left = (k : ℕ) → slice_index left k ≡ 0

-- where no message was read, the lent memory holds zeros
abbrev pub Cleared : Reading → List ℕ → Type 0
Cleared (TooFew n) left = Zeros left
Cleared (Message n o) left = Unit {0}
Cleared Doubtful left = Zeros left

-- a message of s numbers that lies on all the words
pub record Fits (s : ℕ) (ws : List Word) (m : List ℕ) : Type 0 where
  pub long : length m ≡ s
  pub small : T (below 1073741824 m)
  pub on : T (agrees m ws)

-- the message m was read: it fits the words, which are sound and enough, and no other polynomial of s coefficients does
pub record Found (q s : ℕ) (ws : List Word) (m : List ℕ) : Type 0 where
  pub enough : s ≤ length ws
  pub sound : T (sound_in q ws)
  pub fits : Fits s ws m
  pub only : (n : List ℕ) → length n ≡ s → T (below p n) → T (agrees n ws) → n ≡ m

-- what is made of the words ws, with parts below q, of a message of s numbers: too few exactly if they are fewer than s;
-- a message exactly if one fits, and then that one; doubtful exactly if there are enough and none fits, or they are not sound
abbrev pub Made : (q s : ℕ) → List Word → Read → Type 0
Made q s ws (Read.TooFew n) = (n ≡ length ws) × (length ws < s)
Made q s ws (Read.Reads m n o) = (n ≡ length ws) × (o ≡ 0) × Found q s ws m
Made q s ws Read.Doubtful = (s ≤ length ws) × (T (sound_in q ws) → (m : List ℕ) → Fits s ws m → ⊥)
