use Rattle.std.proofs.Common.{◌≡◌, length, sym, arith, rules}
use Rattle.std.proofs.lemmas.List.{length-take-le}
use Rattle.pieces.specs.Waiting.{held_in}
use Rattle.pieces.proofs.held.Held.count.Goals as goal

pub returns : goal.returns
unfolding held_in
returns c =
    let twenty : length c.args.self.bytes ≡ 20 = search rules in
    sym (length-take-le c.args.self.count c.args.self.bytes (omega (arith, c.args.self.fits)))
