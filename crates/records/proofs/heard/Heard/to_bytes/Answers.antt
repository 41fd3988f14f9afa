use Rattle.std.proofs.Common.{rules}
use Rattle.records.specs.Hearing.{bytes_in}
use Rattle.records.proofs.Back.{heard_back}
use Rattle.records.proofs.heard.Heard.to_bytes.Goals as goal

pub returns-clause-back : goal.returns-clause-back
returns-clause-back c = heard_back c.args.self (bytes_in c.laid_out.result) (search rules) c.laid_out.ensures.bytes c.laid_out.ensures.size
