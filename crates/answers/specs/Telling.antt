-- The record of what is told of a frame in place of a message.
-- sender_of, number_of, Numbered, telling_bytes, bytes_of_telling, bytes_of_told, told_as, told_in. Assumes nothing.
use Rattle.std.specs.Prelude.{◌≡◌, ◌≢◌, ℕ, cond, ◌&&◌, List, [], ◌∷◌, ◌++◌, ◌==◌, slice_index, Ok, Err, Result, MatchResult}
use Rattle.channels.specs.declared.fault.Fault.{Fault}
use Rattle.channels.specs.declared.fault.Fault.TheVariants.{Kind as FaultKind}
use Rattle.records.specs.Kinds.{of_kind}
use Rattle.records.specs.declared.unread.Unread.{Unread}
use Rattle.records.specs.declared.unread.Unread.TheVariants.{Wrong}
use Rattle.answers.specs.declared.told.Told.{Told}
use Rattle.answers.specs.declared.told.Telling.{Telling}
use Rattle.answers.specs.declared.told.Telling.TheVariants.{TooFew, Doubtful, Crowded}
use Rattle.answers.specs.declared.told.Cause.{Cause}
use Rattle.answers.specs.declared.told.Cause.TheVariants.{TooFew as NumberTooFew, Doubtful as NumberDoubtful, Crowded as NumberCrowded}
use Rattle.records.specs.Numbers.{four_bytes, three_bytes, four_at, three_at}

-- the sender that is told of, and 0 where too many were heard
abbrev pub sender_of : Telling → ℕ
sender_of (TooFew sender count) = sender
sender_of (Doubtful sender count) = sender
sender_of Crowded = 0

-- the fault's number
abbrev pub number_of : Cause → ℕ
number_of NumberTooFew = 6
number_of NumberDoubtful = 7
number_of NumberCrowded = 8

-- which is told by a number; no other number tells any
abbrev pub Numbered : ℕ → Result Cause Fault → Type 0
Numbered n r = MatchResult r (λ cause. n ≡ number_of cause) (λ e. (e ≡ FaultKind) × (n ≢ 6) × (n ≢ 7) × (n ≢ 8))

-- the byte 5, the frame, the sender, the fault's number, and how many words
abbrev pub telling_bytes : (frame sender number count : ℕ) → List ℕ
telling_bytes frame sender number count = 5 ∷ (four_bytes frame ++ (three_bytes sender ++ (number ∷ count ∷ [])))

-- too few words are 6, doubtful ones 7, too many senders 8 with no sender and no count
abbrev pub bytes_of_telling : (frame : ℕ) → Telling → List ℕ
bytes_of_telling frame (TooFew sender count) = telling_bytes frame sender 6 count
bytes_of_telling frame (Doubtful sender count) = telling_bytes frame sender 7 count
bytes_of_telling frame Crowded = telling_bytes frame 0 8 0

abbrev pub bytes_of_told : Told → List ℕ
bytes_of_told t = bytes_of_telling t.frame t.telling

-- what a fault's number tells
abbrev pub told_as : (frame sender number count : ℕ) → Result Told Unread
told_as frame sender number count =
    cond (number == 6) (Ok (record { frame = frame; telling = TooFew sender count }))
    (cond (number == 7) (Ok (record { frame = frame; telling = Doubtful sender count }))
    (cond (number == 8 && sender == 0 && count == 0) (Ok (record { frame = frame; telling = Crowded })) (Err (Wrong FaultKind))))

-- what is told first in some bytes
abbrev pub told_in : List ℕ → Result Told Unread
told_in bs = of_kind 5 10 bs (told_as (four_at 1 bs) (three_at 5 bs) (slice_index bs 8) (slice_index bs 9))
