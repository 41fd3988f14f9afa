use Rattle.std.proofs.Common.{◌≡◌, [], ◌∷◌, ◌++◌, take, drop, arith}
use Rattle.std.proofs.lemmas.Grind.{common_steps}
use Rattle.speakall.specs.Plan.{digits}
use Rattle.speakall.proofs.Reached.{below-digits}
use Rattle.channels.proofs.plan.make.written.Goals as goal

pub returns-clause-below : goal.returns-clause-below
returns-clause-below c =
    let all : take c.args.count (c.write_digits.new.digits ++ drop c.from.result (0 ∷ 0 ∷ 0 ∷ 0 ∷ [])) ≡ digits c.args.q c.args.number c.args.count = grind (arith, common_steps) in
    rw all (below-digits c.args.q c.args.number c.args.count (omega arith))
