-- Each number is tested.
use Rattle.std.proofs.Common.{ltb, refl, rules}
use Rattle.std.proofs.lemmas.List.Recursion.{and_is}
use Rattle.polynomials.proofs.checks.is_message.Goals as goal
use Rattle.speakall.specs.Plan.{below}

pub returns : goal.returns
unfolding below
returns c = and_is (below 1073741824) (λ v. ltb v 1073741824) refl (λ _ _. refl) c.args.values.now 0 _ (search rules) (search rules)
