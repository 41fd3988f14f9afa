use Rattle.channels.proofs.Listed.{listed_any}
use Rattle.channels.proofs.channel.make.is_side.Goals as goal

pub returns : goal.returns
returns c = let any = listed_any c.args.q c.sides.result.now in cc
