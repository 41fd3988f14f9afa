-- The values of sound words are reduced, and a polynomial that has them lies on the words.
use Rattle.std.proofs.Common.{◌∙◌, arith, rules}
use Rattle.polynomials.proofs.Points.{agrees_values, reduced_values}
use Rattle.polynomials.proofs.through.fit.Goals as goal

pub through-requires-clause-reduced : goal.through-requires-clause-reduced
through-requires-clause-reduced c = reduced_values 251 _ c.args.words.now _ (search rules) c.requires.sound (search rules) c.loop-i.invariant

pub returns-clause-agrees : goal.returns-clause-agrees
returns-clause-agrees c = agrees_values _ c.args.words.now (λ k lt. c.through.ensures.through k lt ∙ c.loop-i.invariant k (omega arith))
