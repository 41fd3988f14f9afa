use Rattle.std.proofs.Common.{◌+◌, ◌*◌, ◌≤◌, length, vec_items, rules}
use Rattle.readers.proofs.Wholes.{message_taken, message_there}
use Rattle.readers.proofs.message_input.VecU32Record.first.Goals as goal

pub slice_bounds-numbers_in-end : goal.slice_bounds-numbers_in-end
slice_bounds-numbers_in-end c =
    let w = message_there _ c.args.bytes.now c.in-Ok.count c.from.result c.in-Ok.ensures.numbers c.in-Ok.ensures.count c.from.ensures in
    let l : 2 + 4 * c.from.result ≤ length c.args.bytes.now = w.0 in
    search rules

pub returns : goal.returns
returns c =
    let w = message_there _ c.args.bytes.now c.in-Ok.count c.from.result c.in-Ok.ensures.numbers c.in-Ok.ensures.count c.from.ensures in
    message_taken _ c.args.bytes.now c.in-Ok.count c.from.result (vec_items c.in_ok-record.record) c.in-Ok.ensures.numbers w.1 c.from.ensures c.in_ok-record.ensures
