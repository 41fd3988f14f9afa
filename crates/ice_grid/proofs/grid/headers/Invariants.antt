use Rattle.std.proofs.Common.{◌≡◌, take, vec_items}
use Rattle.std.specs.List.{flat_map}
use Rattle.ice_grid.specs.Marks.{header_of, lines_in}
use Rattle.ice_grid.proofs.Signs.{places}
use Rattle.ice_grid.proofs.grid.headers.Given as goal

abbrev pub invariant-loop-place : goal.invariant-loop-place
invariant-loop-place l = lines_in (vec_items l.lines) ≡ flat_map (header_of l.q) (take l.place-index places)
