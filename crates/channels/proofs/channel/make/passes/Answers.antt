use Rattle.std.proofs.Common.{arith, rules}
use Rattle.std.proofs.lemmas.Bool.Decides.{nat_tests}
use Rattle.channels.specs.Valid.{is_valid}
use Rattle.channels.proofs.Facts.{pow_fits}
use Rattle.channels.proofs.channel.make.passes.Goals as goal

pub pow-requires : goal.pow-requires
pow-requires c = search (rules, pow_fits)

pub returns-then-from : goal.returns-then-from
unfolding is_valid
returns-then-from c = grind (arith, nat_tests)

pub returns-else-from : goal.returns-else-from
unfolding is_valid
returns-else-from c = grind (arith, nat_tests)
