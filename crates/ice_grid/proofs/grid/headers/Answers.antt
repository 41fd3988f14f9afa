use Rattle.std.proofs.Common.{get_or, vec_items, ap, ◌∙◌}
use Rattle.ice_grid.specs.Marks.{lines_in}
use Rattle.ice_grid.proofs.Signs.{header_here, header_not, headers_more, places}
use Rattle.ice_grid.proofs.grid.headers.Goals as goal
use Rattle.ice_grid.proofs.grid.headers.Goals.{then-place-q+in_ok-header+in_ok-push, else-place-q}

pub loop-place-preserved : goal.loop-place-preserved
loop-place-preserved c =
    headers_more c.args.q c.loop-place.place-index (lines_in (vec_items c.loop-place.lines)) _ c.loop-place-test.true c.loop-place.invariant
    (elim c.if-place-q.branch [
      | then-place-q+in_ok-header+in_ok-push w ↦
          ap (λ v. lines_in (vec_items v)) w.lines-is
          ∙ header_here c.args.q (get_or places c.loop-place.place-index 0) (vec_items c.loop-place.lines) _ w.in_ok-header.field-0 w.if-place-q.true w.in_ok-header.ensures w.in_ok-push.ensures.items
      | else-place-q w ↦
          ap (λ v. lines_in (vec_items v)) w.lines-is ∙ header_not c.args.q (get_or places c.loop-place.place-index 0) (vec_items c.loop-place.lines) w.if-place-q.false
    ])
