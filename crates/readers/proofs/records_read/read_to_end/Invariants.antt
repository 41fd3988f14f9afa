use Rattle.std.proofs.Common.{◌≡◌, ◌+◌, length, map, vec_items}
use Rattle.channels.specs.Settings.{settings}
use Rattle.reading.specs.Reading.{onto, read_from}
use Rattle.readers.proofs.records_read.read_to_end.Given as goal

-- what was read, and what will be of the bytes left
abbrev pub invariant-loop-left : goal.invariant-loop-left
invariant-loop-left g l =
    (onto (map g.R.Record.seen (vec_items l.records)) (read_from (g.R.Record.format (settings l.channel)) l.low l.byte 0 l.left) ≡ read_from (g.R.Record.format (settings l.channel)) 0 4 0 l.bytes)
    × (l.byte + length l.left ≡ 4 + length l.bytes)

abbrev pub decreases-loop-left : goal.decreases-loop-left
decreases-loop-left g l = length l.left
