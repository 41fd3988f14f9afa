use Rattle.records.proofs.Back.{channel_back}
use Rattle.records.proofs.channel_record.channel_bytes.Goals as goal

pub returns-clause-back : goal.returns-clause-back
returns-clause-back c = channel_back c.args.channel c.laid_out.result c.laid_out.ensures
