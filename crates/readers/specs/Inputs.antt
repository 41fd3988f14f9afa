-- A whole input: the record of a channel, and then records of one kind.
-- Input, read_input; RecordsAre, InputIs, HeardIs, HeardInputIs, MessagesAre, MessageInputIs, no_channel. Assumes nothing.
use Rattle.std.specs.Prelude.{◌≡◌, ℕ, List, [], map, drop, Some, None, Vec, vec_items, Option, Ok, Err, Result}
use Rattle.std.specs.Global.{Global}
use Rattle.channels.specs.declared.channel.Channel.{Channel}
use Rattle.channels.specs.declared.fault.Fault.TheVariants.{Kind as FaultKind}
use Rattle.channels.specs.Settings.{settings}
use Rattle.records.specs.Channels.{channel_in}
use Rattle.records.specs.declared.unread.Unread.{Unread}
use Rattle.records.specs.declared.unread.Unread.TheVariants.{Wrong, Short}
use Rattle.records.specs.declared.heard.Heard.{Heard}
use Rattle.reading.specs.declared.Stopped.{Stopped}
use Rattle.reading.specs.Reading.{Format, Reading, cut_at, fault_at, read_from, stopped_at}
use Rattle.readers.specs.declared.records_read.RecordsRead.{RecordsRead}
use Rattle.readers.specs.declared.input_read.InputRead.{InputRead}
use Rattle.speakall.specs.Plan as statement

-- what is read of a whole input: its channel, if it has one, and the records after it
pub record Input (A : Type 0) : Type 0 where
  pub channel : Option statement.Channel
  pub reading : Reading A

-- with a channel, its records begin at byte 4; without one, nothing is read, and the fault is at byte 0
abbrev pub input_from : {A : Type 0} → (statement.Channel → Format A) → List ℕ → Result statement.Channel Unread → Input A
input_from format bs (Ok c) = record { channel = Some c; reading = read_from (format c) 0 4 0 (drop 4 bs) }
input_from format bs (Err (Wrong f)) = record { channel = None; reading = record { given = []; ending = fault_at f 0 } }
input_from format bs (Err Short) = record { channel = None; reading = record { given = []; ending = cut_at 0 } }

-- a whole input, whose records have a format by their channel
abbrev pub read_input : {A : Type 0} → (statement.Channel → Format A) → List ℕ → Input A
read_input format bs = input_from format bs (channel_in bs)

-- where a reading stops that found no channel
abbrev pub no_channel : Result Channel Unread → Stopped
no_channel (Ok c) = record { fault = FaultKind; byte = 0 }
no_channel (Err (Wrong f)) = record { fault = f; byte = 0 }
no_channel (Err Short) = record { fault = FaultKind; byte = 0 }

-- the statement's channel of a channel, if there is one
abbrev pub settings_if : Option Channel → Option statement.Channel
settings_if None = None
settings_if (Some c) = Some (settings c)

-- the records that are given, as they are seen, and the fault with its byte
pub record RecordsAre {R A : Type 0} (seen : R → A) (h : RecordsRead R) (r : Reading A) : Type 0 where
  pub given : map seen (vec_items h.records) ≡ r.given
  pub stopped : h.stopped ≡ stopped_at r.ending

pub record InputIs {R A : Type 0} (seen : R → A) (i : InputRead R) (r : Input A) : Type 0 where
  pub channel : settings_if i.channel ≡ r.channel
  pub read : RecordsAre seen i.read r.reading

-- of what was heard
pub record HeardIs (h : RecordsRead Heard) (r : Reading Heard) : Type 0 where
  pub given : vec_items h.records ≡ r.given
  pub stopped : h.stopped ≡ stopped_at r.ending

pub record HeardInputIs (i : InputRead Heard) (r : Input Heard) : Type 0 where
  pub channel : settings_if i.channel ≡ r.channel
  pub heard : HeardIs i.read r.reading

-- of messages, each as its numbers
abbrev pub MessagesAre : RecordsRead (Vec ℕ Global) → Reading (List ℕ) → Type 0
MessagesAre m r = RecordsAre (λ v. vec_items v) m r

abbrev pub MessageInputIs : InputRead (Vec ℕ Global) → Input (List ℕ) → Type 0
MessageInputIs i r = InputIs (λ v. vec_items v) i r
