use Rattle.std.proofs.Common.{arith, rules}
use Rattle.pieces.specs.Waiting.{held_in}
use Rattle.pieces.proofs.Feeding.{finish_none, finish_cut}
use Rattle.pieces.proofs.heard_reader.HeardReader.finish.Goals as goal

pub returns-in-Records : goal.returns-in-Records
returns-in-Records c =
    let r = finish_none c.args.self.phase c.args.self.byte (held_in c.args.self.held) c.in-Records.field-0 c.in-Records.field-1 c.in-Records.is (omega arith) in
    record { stopped = r.0; nothing = r.1 }

pub returns-in-Records-2 : goal.returns-in-Records-2
returns-in-Records-2 c =
    let r = finish_cut c.args.self.phase c.args.self.byte (held_in c.args.self.held) c.in-Records.field-0 c.in-Records.field-1 c.in-Records.is (omega (arith, c.if-count-eq0.false)) (search rules) c.args.self.waits in
    record { stopped = r.0; nothing = r.1 }
