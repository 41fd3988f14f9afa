-- What all coefficients come to.
use Rattle.std.proofs.Common.{◌-◌, arith}
use Rattle.polynomials.proofs.Points.{coefficients_all, product_is}
use Rattle.polynomials.proofs.through.times.Goals as goal

pub returns-clause-product : goal.returns-clause-product
returns-clause-product c =
    product_is _ (2147483647 - c.from-minus.result) c.args.values.now c.loop-i.values (omega (arith, c.from-minus.ensures)) c.loop-i.auto.values (
    coefficients_all _ c.loop-i.i _ _ c.requires c.loop-i-test.false c.loop-i.invariant.1 c.loop-i.invariant.2)
