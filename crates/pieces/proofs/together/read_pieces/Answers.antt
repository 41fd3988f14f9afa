use Rattle.std.proofs.Common.{vec_items, sym, ap, ◌∙◌}
use Rattle.pieces.specs.Coming.{Answer}
use Rattle.pieces.proofs.Joining.{joins_more, joins_all}
use Rattle.pieces.proofs.together.read_pieces.Goals as goal

pub loop-piece-preserved : goal.loop-piece-preserved
loop-piece-preserved c =
    joins_more (λ v. vec_items v) c.args.pieces.now c.loop-piece.piece-index c.piece-item.result c.deref.result.now (vec_items c.loop-piece.records) (vec_items c.feed.new.records) c.loop-piece.reader
    c.in_ok-reader.reader c.loop-piece-test.true c.piece-item.is c.deref.ensures.value c.loop-piece.invariant c.in_ok-reader.ensures

pub returns : goal.returns
returns c =
    let e = joins_all (λ v. vec_items v) c.args.pieces.now c.loop-piece.piece-index (vec_items c.loop-piece.records) c.loop-piece.reader c.loop-piece-test.false c.loop-piece.invariant c.finish.ensures.nothing in
    record {
      channel = c.channel.ensures ∙ ap (λ (a : Answer). a.channel) (sym e);
      given = ap (λ (a : Answer). a.given) (sym e);
      stopped = c.finish.ensures.stopped ∙ ap (λ (a : Answer). a.stopped) (sym e);
    }
