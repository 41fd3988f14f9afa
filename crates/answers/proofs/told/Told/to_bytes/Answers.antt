use Rattle.std.proofs.Common.{rules}
use Rattle.answers.proofs.Said.{told_back}
use Rattle.answers.proofs.told.Told.to_bytes.Goals as goal

pub returns-clause-back : goal.returns-clause-back
returns-clause-back c = told_back c.args.self c.bytes.result (search rules) (search rules) c.bytes.ensures
