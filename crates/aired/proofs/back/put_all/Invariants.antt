use Rattle.std.proofs.Common.{◌≡◌, drop, vec_items}
use Rattle.channels.specs.Settings.{settings}
use Rattle.aired.specs.Aired.{outside, placed}
use Rattle.aired.proofs.back.put_all.Given as goal

-- what is left decides
abbrev pub invariant-loop-heard : goal.invariant-loop-heard
invariant-loop-heard l =
    (l.frame.channel ≡ l.initial.frame.channel)
    × (placed (settings l.initial.frame.channel) l.number (drop l.heard-index l.records) (vec_items l.frame.slots) ≡ placed (settings l.initial.frame.channel) l.number l.records (vec_items l.initial.frame.slots))
    × (outside (settings l.initial.frame.channel) l.number (drop l.heard-index l.records) ≡ outside (settings l.initial.frame.channel) l.number l.records)
