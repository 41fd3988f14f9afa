-- What an input that was read gives.
-- Gives. Assumes nothing.
use Rattle.std.specs.Prelude.{◌≡◌, vec_items}
use Rattle.readers.specs.Inputs.{settings_if}
use Rattle.readers.specs.declared.input_read.InputRead.{InputRead}
use Rattle.records.specs.declared.heard.Heard.{Heard}
use Rattle.pieces.specs.Coming.{Answer}

-- an input's channel, its records, and where it stopped
pub record Gives (i : InputRead Heard) (a : Answer) : Type 0 where
  pub channel : settings_if i.channel ≡ a.channel
  pub given : vec_items i.read.records ≡ a.given
  pub stopped : i.read.stopped ≡ a.stopped
