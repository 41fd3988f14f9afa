use Rattle.std.proofs.Common.{rules}
use Rattle.answers.proofs.Said.{read_back}
use Rattle.answers.proofs.read.Read.to_bytes.Goals as goal

pub returns-clause-back : goal.returns-clause-back
returns-clause-back c = read_back c.args.self c.laid_out.result (search rules) (search rules) c.laid_out.ensures
