use Rattle.std.proofs.Common.{◌≡◌, ◌++◌, vec_items, string_bytes}
use Rattle.ice_grid.proofs.Signs.{signs_to}
use Rattle.ice_grid.proofs.grid.put_signs.Given as goal

abbrev pub invariant-loop-part : goal.invariant-loop-part
invariant-loop-part l = string_bytes l.text ≡ string_bytes l.initial.text ++ signs_to l.frame.channel.q (vec_items l.frame.slots) l.numbers l.y l.part
