-- The record of a message that was read.
-- read_size, bytes_of_read, read_in. Assumes nothing.
use Rattle.std.specs.Prelude.{ℕ, ◌+◌, ◌*◌, cond, List, [], ◌∷◌, ◌++◌, length, nat_lt, slice_index, Ok, Err, Result}
use Rattle.records.specs.Kinds.{of_kind}
use Rattle.records.specs.declared.unread.Unread.{Unread}
use Rattle.records.specs.declared.unread.Unread.TheVariants.{Short}
use Rattle.answers.specs.declared.read.Read.{Read}
use Rattle.records.specs.Numbers.{four_bytes, three_bytes, four_at, three_at}

-- how many bytes the record has, with its numbers
abbrev pub read_size : Read → ℕ
read_size r = 11 + 4 * r.count

-- the bytes before the numbers: the byte 4, the frame, the sender, the words heard, those off, and how many numbers follow
abbrev pub bytes_of_read : Read → List ℕ
bytes_of_read r = 4 ∷ (four_bytes r.frame ++ (three_bytes r.sender ++ (r.words ∷ r.off ∷ r.count ∷ [])))

-- the first eleven bytes as a record
abbrev pub read_head : List ℕ → Read
read_head bs = record { frame = four_at 1 bs; sender = three_at 5 bs; words = slice_index bs 8; off = slice_index bs 9; count = slice_index bs 10 }

-- what the record says that stands first in some bytes, with all its numbers
abbrev pub read_in : List ℕ → Result Read Unread
read_in bs = of_kind 4 11 bs (cond (nat_lt (length bs) (11 + 4 * slice_index bs 10)) (Err Short) (Ok (read_head bs)))
