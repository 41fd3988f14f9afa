use Rattle.std.proofs.Common.{rules}
use Rattle.writers.proofs.Backward.{input_back}
use Rattle.writers.proofs.heard.heard_input_bytes.Goals as goal

pub returns-clause-back : goal.returns-clause-back
returns-clause-back c = input_back c.args.channel c.args.records.now _ (search rules) c.in_ok-write_all.ensures.back
