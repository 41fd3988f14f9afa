use Rattle.std.proofs.Common.{◌≡◌, length, arith, rules}
use Rattle.std.proofs.lemmas.List.{length-take-le, take_more_set}
use Rattle.pieces.specs.Waiting.{held_in}
use Rattle.pieces.proofs.held.Held.push.Goals as goal

pub bounds-bytes-from : goal.bounds-bytes-from
unfolding held_in
bounds-bytes-from c =
    let twenty : length c.args.self.bytes ≡ 20 = search rules in
    let long = length-take-le c.args.self.count c.args.self.bytes (omega (arith, c.args.self.fits)) in
    omega (arith, c.requires, c.from.ensures)

pub invariant_of-result : goal.invariant_of-result
unfolding held_in
invariant_of-result c =
    let twenty : length c.args.self.bytes ≡ 20 = search rules in
    let long = length-take-le c.args.self.count c.args.self.bytes (omega (arith, c.args.self.fits)) in
    record { fits = omega (arith, c.requires) }

pub returns : goal.returns
unfolding held_in
returns c =
    let twenty : length c.args.self.bytes ≡ 20 = search rules in
    let long = length-take-le c.args.self.count c.args.self.bytes (omega (arith, c.args.self.fits)) in
    rw c.from.ensures (take_more_set c.args.self.bytes c.args.self.count c.args.b (omega (arith, c.requires)))
