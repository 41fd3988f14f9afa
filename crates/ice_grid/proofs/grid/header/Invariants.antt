use Rattle.std.proofs.Common.{◌≡◌, ◌++◌, string_bytes, codes}
use Rattle.ice_grid.specs.Marks.{digits_to}
use Rattle.ice_grid.proofs.grid.header.Given as goal

abbrev pub invariant-loop-part : goal.invariant-loop-part
invariant-loop-part l = string_bytes l.text ≡ codes "   " ++ digits_to l.place l.part
