-- The record of a channel.
-- bytes_of_channel, channel_in, settled. Assumes nothing.
use Rattle.std.specs.Prelude.{ℕ, cond, List, [], ◌∷◌, slice_index, Ok, Err, Result}
use Rattle.channels.specs.declared.channel.Channel.{Channel}
use Rattle.channels.specs.declared.fault.Fault.TheVariants.{Channel as FaultChannel}
use Rattle.channels.specs.Settings.{settings}
use Rattle.channels.specs.Valid.{is_valid}
use Rattle.records.specs.Kinds.{of_kind}
use Rattle.records.specs.declared.unread.Unread.{Unread}
use Rattle.records.specs.declared.unread.Unread.TheVariants.{Wrong}
use Rattle.speakall.specs.Plan as statement

-- the byte 1, then q, d and k
abbrev pub bytes_of_channel : (q d k : ℕ) → List ℕ
bytes_of_channel q d k = 1 ∷ q ∷ d ∷ k ∷ []

-- the settings of the channel that stands first in some bytes: whole by its kind and length first, and then a channel
abbrev pub channel_in : List ℕ → Result statement.Channel Unread
channel_in bs =
    of_kind 1 4 bs (cond (is_valid (slice_index bs 1) (slice_index bs 2) (slice_index bs 3)) (Ok (record { q = slice_index bs 1; d = slice_index bs 2; k = slice_index bs 3 })) (Err (Wrong FaultChannel)))

-- the code's channel has these settings
abbrev pub settled : Result Channel Unread → Result statement.Channel Unread
settled (Ok c) = Ok (settings c)
settled (Err e) = Err e
