-- The record of what was heard in a slot that isn't silent.
-- place_of, after_heard, heard_size, bytes_of_heard, said_byte, Decodes, bytes_in, whole_in, ordered, heard_in. Assumes nothing.
use Rattle.std.specs.Prelude.{◌≡◌, ◌≢◌, ℕ, ◌+◌, ◌*◌, cond, ◌&&◌, List, [], ◌∷◌, ◌++◌, length, take, drop, ◌==◌, nat_le, nat_lt, slice_index, Ok, Err, Result, MatchResult}
use Rattle.channels.specs.declared.fault.Fault.{Fault}
use Rattle.channels.specs.declared.fault.Fault.TheVariants.{Kind as FaultKind, Order as FaultOrder}
use Rattle.records.specs.Kinds.{of_kind}
use Rattle.records.specs.declared.unread.Unread.{Unread}
use Rattle.records.specs.declared.unread.Unread.TheVariants.{Wrong, Short}
use Rattle.records.specs.declared.heard.What.{What}
use Rattle.records.specs.declared.heard.What.TheVariants.{Word, Noise}
use Rattle.records.specs.declared.heard.Heard.{Heard}
use Rattle.records.specs.declared.heard.Said.{Said}
use Rattle.records.specs.declared.heard.Said.TheVariants.{Word as SaidWord, Noise as SaidNoise}
use Rattle.records.specs.declared.heard.HeardBytes.{HeardBytes}
use Rattle.records.specs.declared.heard.HeardBytes.TheVariants.{Word as WordBytes, Noise as NoiseBytes}
use Rattle.records.specs.Numbers.{four_bytes, four_at}

-- where a record stands in the order of frame, part and slot
abbrev pub place_of : Heard → ℕ
place_of h = h.frame * 65536 + h.part * 256 + h.slot

-- the lowest place that the next record may have
abbrev pub after_heard : Heard → ℕ
after_heard h = place_of h + 1

-- how many bytes a record has
abbrev pub what_size : What → ℕ
what_size (Word w) = 20
what_size Noise = 8

abbrev pub heard_size : Heard → ℕ
heard_size h = what_size h.what

-- the byte that says what was heard, and the bytes of a word after it
abbrev pub bytes_of_what : What → List ℕ
bytes_of_what (Word w) = 1 ∷ w
bytes_of_what Noise = 2 ∷ []

abbrev pub bytes_of_heard : Heard → List ℕ
bytes_of_heard h = 3 ∷ (four_bytes h.frame ++ (h.part ∷ h.slot ∷ bytes_of_what h.what))

-- the byte that says what was heard
abbrev pub said_byte : Said → ℕ
said_byte SaidWord = 1
said_byte SaidNoise = 2

-- what a byte says was heard; no other byte says anything
abbrev pub Decodes : ℕ → Result Said Fault → Type 0
Decodes b r = MatchResult r (λ said. b ≡ said_byte said) (λ e. (e ≡ FaultKind) × (b ≢ 1) × (b ≢ 2))

-- the bytes in the two arrays that a record is given as
abbrev pub bytes_in : HeardBytes → List ℕ
bytes_in (WordBytes bs) = bs
bytes_in (NoiseBytes bs) = bs

-- the record of the first bytes, with what was heard
abbrev pub headed : List ℕ → What → Heard
headed bs what = record { frame = four_at 1 bs; part = slice_index bs 5; slot = slice_index bs 6; what = what }

-- the record that stands first in some bytes, by its kind and length
abbrev pub whole_in : List ℕ → Result Heard Unread
whole_in bs =
    of_kind 3 8 bs
    (cond (slice_index bs 7 == 1) (cond (nat_lt (length bs) 20) (Err Short) (Ok (headed bs (Word (take 12 (drop 8 bs))))))
    (cond (slice_index bs 7 == 2) (Ok (headed bs Noise)) (Err (Wrong FaultKind))))

-- a record whose part and slot are there, of q, and whose place is low or above
abbrev pub ordered : (q low : ℕ) → Heard → Result Heard Unread
ordered q low h = cond (nat_lt h.part q && nat_lt h.slot q && nat_le low (place_of h)) (Ok h) (Err (Wrong FaultOrder))

abbrev pub in_order : (q low : ℕ) → Result Heard Unread → Result Heard Unread
in_order q low (Ok h) = ordered q low h
in_order q low (Err e) = Err e

-- the record that stands first in some bytes: whole by its kind and length first, and then in its place
abbrev pub heard_in : (q low : ℕ) → List ℕ → Result Heard Unread
heard_in q low bs = in_order q low (whole_in bs)
