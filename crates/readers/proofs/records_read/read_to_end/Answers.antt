use Rattle.std.proofs.Common.{◌≡◌, ◌<◌, ◌≤◌, length, map, vec_items, rules}
use Rattle.channels.specs.Settings.{settings}
use Rattle.reading.specs.Reading.{read_from}
use Rattle.reading.proofs.Loops.{loop-more, left_more, loop-unread, loop-none}
use Rattle.readers.proofs.Wholes.{seen_more}
use Rattle.readers.proofs.records_read.read_to_end.Goals as goal

pub loop-left-preserved : goal.loop-left-preserved
loop-left-preserved g c =
    let law = g.met.R.Record.lawful (settings c.args.channel) in
    let found = rw c.in-Ok.is at c.in_ok-first.ensures in
    let there : c.in-Ok.first.size ≤ length c.loop-left.left.now = rw found.1 (law.sized c.loop-left.low c.loop-left.left.now (g.R.Record.seen c.in-Ok.first.record) found.0).1 in
    let more = seen_more g.R.Record.seen (vec_items c.loop-left.records) (vec_items c.push.new.self) c.in-Ok.first.record c.in_ok-push.ensures.items in (
      loop-more (g.R.Record.format (settings c.args.channel)) law (map g.R.Record.seen (vec_items c.loop-left.records)) c.loop-left.low c.loop-left.byte c.loop-left.left.now (read_from (g.R.Record.format (settings c.args.channel)) 0 4 0 c.args.bytes.now) c.loop-left.invariant.0
          (map g.R.Record.seen (vec_items c.push.new.self)) c.in-Ok.first.next c.in-Ok.first.size (g.R.Record.seen c.in-Ok.first.record) found.0 more found.2 found.1,
      left_more c.loop-left.left.now c.loop-left.byte c.in-Ok.first.size _ there c.loop-left.invariant.1,
    )

pub returns-in-Err : goal.returns-in-Err
returns-in-Err g c =
    let law = g.met.R.Record.lawful (settings c.args.channel) in
    let some : 0 < length c.loop-left.left.now = search rules in
    let found = rw c.in-Err.is at c.in_ok-first.ensures in
    let r = loop-unread (g.R.Record.format (settings c.args.channel)) law (map g.R.Record.seen (vec_items c.loop-left.records)) c.loop-left.low c.loop-left.byte c.loop-left.left.now (read_from (g.R.Record.format (settings c.args.channel)) 0 4 0 c.args.bytes.now) c.loop-left.invariant.0
    c.in-Err.unread some found in
    record { given = r.0; stopped = rw c.fault-fault.ensures r.1 }

pub returns : goal.returns
returns g c =
    let law = g.met.R.Record.lawful (settings c.args.channel) in
    let none : length c.loop-left.left.now ≡ 0 = search rules in
    let r = loop-none (g.R.Record.format (settings c.args.channel)) law (map g.R.Record.seen (vec_items c.loop-left.records)) c.loop-left.low c.loop-left.byte c.loop-left.left.now (read_from (g.R.Record.format (settings c.args.channel)) 0 4 0 c.args.bytes.now) c.loop-left.invariant.0 none in
    record { given = r.0; stopped = r.1 }
