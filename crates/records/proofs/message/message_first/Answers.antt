use Rattle.std.proofs.Common.{◌+◌, ◌*◌, ◌≤◌, length, sym, rules}
use Rattle.records.proofs.Firsts.{count_within}
use Rattle.records.proofs.message.message_first.Goals as goal

pub slice_bounds-are_small-end : goal.slice_bounds-are_small-end
slice_bounds-are_small-end c =
    let all = count_within c.args.bytes.now c.in_ok-count.count (sym c.in_ok-count.ensures) in
    let l : 2 + 4 * c.from.result ≤ length c.args.bytes.now = rw c.from.ensures all in
    search rules
