use Rattle.std.proofs.Common.{◌≡◌, ◌-◌, take, sym, refl, ◌∙◌, arith}
use Rattle.std.proofs.lemmas.Bool.{both_ways}
use Rattle.speakall.specs.Plan.{listed}
use Rattle.channels.proofs.Listed.{listed_more, listed_none}
use Rattle.channels.proofs.Entries.{rows_entry, rows_more}
use Rattle.channels.proofs.channel.make.entry.Goals as goal

pub returns-then-q-side : goal.returns-then-q-side
returns-then-q-side c =
    let entry = rows_entry c.args.sides.now c.loop-side.rows.now c.loop-side.side-index c.args.q (omega arith) c.if-q-side.true c.loop-side.invariant.1 c.args.a (omega arith) (omega arith) in
    let row : c.split_at.result.0.now ≡ take (c.args.q - 1) c.loop-side.rows.now = cc in
    let place : c.from-then-q-side.result ≡ c.args.a = c.from-then-q-side.ensures in
    rw (row, place) entry

pub loop-side-preserved : goal.loop-side-preserved
loop-side-preserved c =
    let more = rows_more c.args.sides.now c.loop-side.rows.now c.loop-side.side-index _ (omega arith) refl c.loop-side.invariant.1 in
    (sym (listed_more c.args.q c.args.sides.now c.loop-side.side-index (omega arith) c.if-q-side.false) ∙ c.loop-side.invariant.0, cc)

pub returns : goal.returns
returns c =
    both_ways (listed c.args.q _) (listed_none c.args.q c.args.sides.now c.loop-side.side-index (omega arith)) c.loop-side.invariant.0
