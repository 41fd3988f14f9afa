-- The record of a message to a sender.
-- message_size, bytes_of_message, count_in, numbers_after, sized, message_in. Assumes nothing.
use Rattle.std.specs.Prelude.{ℕ, ◌+◌, ◌*◌, cond, ◌&&◌, List, ◌∷◌, length, take, drop, ◌==◌, nat_lt, slice_index, Ok, Err, Result}
use Rattle.channels.specs.declared.fault.Fault.TheVariants.{Message as FaultMessage}
use Rattle.records.specs.Kinds.{of_kind}
use Rattle.records.specs.declared.unread.Unread.{Unread}
use Rattle.records.specs.declared.unread.Unread.TheVariants.{Wrong, Short}
use Rattle.records.specs.Numbers.{numbers_of, bytes_of_numbers, are_small}

-- how many bytes the record of a message has
abbrev pub message_size : List ℕ → ℕ
message_size numbers = 2 + 4 * length numbers

-- the byte 2, how many numbers, and the numbers
abbrev pub bytes_of_message : List ℕ → List ℕ
bytes_of_message numbers = 2 ∷ length numbers ∷ bytes_of_numbers numbers

-- how many numbers the message has that stands first in some bytes, by its kind and length
abbrev pub count_in : List ℕ → Result ℕ Unread
count_in bs = of_kind 2 2 bs (cond (nat_lt (length bs) (2 + 4 * slice_index bs 1)) (Err Short) (Ok (slice_index bs 1)))

-- as many numbers as were found stand after the first two bytes
abbrev pub numbers_after : List ℕ → Result ℕ Unread → Result (List ℕ) Unread
numbers_after bs (Ok n) = Ok (numbers_of (take (4 * n) (drop 2 bs)))
numbers_after bs (Err e) = Err e

-- a message has s numbers below 2^30
abbrev pub sized : (s : ℕ) → List ℕ → Result ℕ Unread → Result (List ℕ) Unread
sized s bs (Ok n) = cond (n == s && are_small (numbers_of (take (4 * n) (drop 2 bs)))) (Ok (numbers_of (take (4 * n) (drop 2 bs)))) (Err (Wrong FaultMessage))
sized s bs (Err e) = Err e

-- the message that stands first in some bytes, of s numbers: whole by its kind and length first, and then its numbers
abbrev pub message_in : (s : ℕ) → List ℕ → Result (List ℕ) Unread
message_in s bs = sized s bs (count_in bs)
