-- The two kinds of records that stand one after the other, behind the record of a channel.
-- heard_format, message_format. Assumes nothing.
use Rattle.std.specs.Prelude.{ℕ, List}
use Rattle.records.specs.declared.heard.Heard.{Heard}
use Rattle.records.specs.Hearing.{after_heard, heard_in, heard_size}
use Rattle.records.specs.Messages.{message_in, message_size}
use Rattle.reading.specs.Reading.{Format}

-- what was heard, on a channel with q parts: each record in a higher place than the one before
abbrev pub heard_format : (q : ℕ) → Format Heard
heard_format q = record { first = heard_in q; size = heard_size; after = after_heard }

-- messages of s numbers, in any order
abbrev pub message_format : (s : ℕ) → Format (List ℕ)
message_format s = record { first = λ low. message_in s; size = message_size; after = λ numbers. 0 }
