-- What a reader will still give of the bytes that come.
-- Answer, told, answered, coming, after. Assumes nothing.
use Rattle.std.specs.Prelude.{ℕ, ◌-◌, ◌^◌, min, List, [], ◌++◌, Some, None, Option}
use Rattle.channels.specs.Settings.{settings}
use Rattle.records.specs.declared.heard.Heard.{Heard}
use Rattle.reading.specs.declared.Stopped.{Stopped}
use Rattle.reading.specs.Formats.{heard_format}
use Rattle.reading.specs.Reading.{read_from, stopped_at}
use Rattle.readers.specs.Inputs.{Input, read_input, settings_if}
use Rattle.pieces.specs.declared.phase.Phase.{Phase}
use Rattle.pieces.specs.declared.phase.Phase.TheVariants.{Opening, Records, Over}
use Rattle.speakall.specs.Plan as statement

-- a channel, if there is one, the records of what was heard on it, and where the reading stopped, if it did before the end
pub record Answer : Type 0 where
  pub channel : Option statement.Channel
  pub given : List Heard
  pub stopped : Option Stopped

-- a byte is counted up to 2^64 - 1, and those beyond are told as that
abbrev pub told : Option Stopped → Option Stopped
told None = None
told (Some s) = Some (record { fault = s.fault; byte = min s.byte (2 ^ 64 - 1) })

-- what is told of an input that was read
abbrev pub answered : Input Heard → Answer
answered i = record { channel = i.channel; given = i.reading.given; stopped = told (stopped_at i.reading.ending) }

-- what will be given in a phase, with these bytes held, of which the first is at `byte` of the input, and these to come
abbrev pub coming : Phase → (byte : ℕ) → (held more : List ℕ) → Answer
coming Opening byte held more = answered (read_input (λ c. heard_format c.q) (held ++ more))
coming (Records channel low) byte held more = answered (record { channel = Some (settings channel); reading = read_from (heard_format channel.q) low byte 0 (held ++ more) })
coming (Over channel stopped) byte held more = record { channel = settings_if channel; given = []; stopped = Some stopped }

-- records that were given, and then an answer
abbrev pub after : List Heard → Answer → Answer
after xs a = record { channel = a.channel; given = xs ++ a.given; stopped = a.stopped }
