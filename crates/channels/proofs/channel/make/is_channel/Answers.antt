use Rattle.std.proofs.Common.{sym, ◌∙◌}
use Rattle.std.proofs.lemmas.Bool.{both_ways}
use Rattle.channels.specs.Valid.{is_valid}
use Rattle.channels.proofs.Facts.{fit_from_test, test_from_valid}
use Rattle.channels.proofs.channel.make.is_channel.Goals as goal

pub returns : goal.returns
returns c =
    let q = c.args.q in
    let d = c.args.d in
    let k = c.args.k in
    let same = sym c.passes.ensures in
    record { yes = λ e. fit_from_test q d k (same ∙ e); no = λ e v. both_ways (is_valid q d k) (same ∙ e) (test_from_valid q d k v) }
