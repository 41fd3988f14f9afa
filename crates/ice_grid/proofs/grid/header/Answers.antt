use Rattle.std.proofs.Common.{string_bytes, codes, rules}
use Rattle.ice_grid.proofs.Signs.{header_none, header_more}
use Rattle.ice_grid.proofs.grid.header.Goals as goal

pub loop-part-init : goal.loop-part-init
loop-part-init c = header_none c.args.place (codes "   ") (string_bytes c.in_ok-text.text) (search rules)

pub loop-part-preserved : goal.loop-part-preserved
loop-part-preserved c =
    header_more c.args.place c.loop-part.part (codes "   ") (string_bytes c.loop-part.text) (string_bytes c.put.new.text) c.digit.result c.loop-part.invariant c.digit.ensures c.in_ok-put.ensures
