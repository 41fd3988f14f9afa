use Rattle.std.proofs.Common.{ap, arith}
use Rattle.channels.specs.Settings.{settings}
use Rattle.aired.proofs.Keeping.{framed, kept}
use Rattle.aired.proofs.back.frame_of.Goals as goal

pub returns-clause-kept : goal.returns-clause-kept
returns-clause-kept c =
    let silent = c.in_ok-frame.ensures in
    let put = framed (settings c.args.channel) _ _ _ _ _ (ap settings silent.0) silent.2 c.in_ok-put_all.ensures.cases in
    kept (settings c.args.channel) _ _ _ (omega arith) (omega arith) put.1
