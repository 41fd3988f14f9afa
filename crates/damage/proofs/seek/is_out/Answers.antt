-- Each block left out is looked at.
use Rattle.std.proofs.Common.{eqb, refl, rules}
use Rattle.std.proofs.lemmas.List.Recursion.{or_is}
use Rattle.damage.proofs.seek.is_out.Goals as goal
use Rattle.readings.specs.Blocks.{is_among}

pub returns : goal.returns
unfolding is_among
returns c = or_is (is_among c.args.block) (λ y. eqb c.args.block y) refl (λ _ _. refl) c.args.out.now 0 _ (search rules) (search rules)
