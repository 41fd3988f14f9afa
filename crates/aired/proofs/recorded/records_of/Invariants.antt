use Rattle.std.proofs.Common.{◌≡◌, ◌+◌, ◌*◌, vec_items}
use Rattle.aired.specs.Aired.{records_to}
use Rattle.aired.proofs.recorded.records_of.Given as goal

abbrev pub invariant-loop-part : goal.invariant-loop-part
invariant-loop-part l = vec_items l.records ≡ records_to l.frame.channel.q l.number (vec_items l.frame.slots) (l.part * l.frame.channel.q)

abbrev pub invariant-loop-y : goal.invariant-loop-y
invariant-loop-y l = vec_items l.records ≡ records_to l.frame.channel.q l.number (vec_items l.frame.slots) (l.part * l.frame.channel.q + l.y)
