-- What stands first in some bytes, by its kind.
-- byte_of, of_kind, after_kind. Assumes nothing.
use Rattle.std.specs.Prelude.{ℕ, cond, List, [], ◌∷◌, length, ◌==◌, nat_lt, slice_index, Err, Ok, Result}
use Rattle.channels.specs.declared.fault.Fault.TheVariants.{Kind as FaultKind}
use Rattle.records.specs.declared.kind.Kind.{Kind}
use Rattle.records.specs.declared.kind.Kind.TheVariants.{Channel, Message, Heard, Read, Told}
use Rattle.records.specs.declared.unread.Unread.{Unread}
use Rattle.records.specs.declared.unread.Unread.TheVariants.{Wrong, Short}

-- the byte that records of a kind begin with
abbrev pub byte_of : Kind → ℕ
byte_of Channel = 1
byte_of Message = 2
byte_of Heard = 3
byte_of Read = 4
byte_of Told = 5

-- a record of this kind with at least so many bytes, and what is found in these: short without a byte, wrong with another kind, short with fewer bytes
unfoldable pub of_kind : {A : Type 0} → (kind least : ℕ) → List ℕ → Result A Unread → Result A Unread
of_kind kind least bs found = cond (length bs == 0) (Err Short) (cond (slice_index bs 0 == kind) (cond (nat_lt (length bs) least) (Err Short) found) (Err (Wrong FaultKind)))

-- what stands after the byte of this kind: short without a byte, wrong with another kind
abbrev pub after_kind : (kind : ℕ) → List ℕ → Result (List ℕ) Unread
after_kind kind [] = Err Short
after_kind kind (b ∷ bs) = cond (b == kind) (Ok bs) (Err (Wrong FaultKind))
