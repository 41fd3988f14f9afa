use Rattle.std.proofs.Common.{◌≡◌, true, drop}
use Rattle.speakall.specs.Plan.{listed}
use Rattle.channels.specs.Rows.{rows}
use Rattle.channels.proofs.channel.make.entry.Given as goal

-- the side is among those left, and the rows left are theirs
abbrev pub invariant-loop-side : goal.invariant-loop-side
invariant-loop-side l =
    (listed l.q (drop l.side-index l.sides) ≡ true) × (rows (drop l.side-index l.sides) l.rows ≡ true)
