use Rattle.std.proofs.Common.{◌≡◌, lit<, length, vec_items, Err, Some, None, rules}
use Rattle.std.proofs.lemmas.List.{map_push}
use Rattle.std.proofs.lemmas.Iterator.Splits.{YieldsList-from_str_split}
use Rattle.std.proofs.lemmas.Iterator.Consumers.{YieldsList-at, YieldsList-end, YieldsList-turn}
use Rattle.command_words.proofs.Grown.{each_push}
use Rattle.command_words.specs.Each.{Each}
use Rattle.sender_words.specs.Pieces.{Writes, pieces}
use Rattle.sender_words.specs.declared.spoken.Wrong.TheVariants.{NoMessage}
use Rattle.sender_words.proofs.Cutting.{reads_number, reads_none}
use Rattle.sender_words.proofs.pieces.listed.Goals as goal

pub loop-piece-init : goal.loop-piece-init
unfolding Each
loop-piece-init c = (search rules, search rules, simp c.new-numbers.ensures.items tt)

pub loop-piece-preserved : goal.loop-piece-preserved
loop-piece-preserved c =
    let read : c.number.result ≡ Some c.in_ok-ok_or.field-0 = search rules in
    let writes = reads_number c.in-Some.piece.now c.in_ok-ok_or.field-0 c.number.result read c.number.ensures in (
      search rules,
      search rules,
      rw (map_push (λ x. x.now) c.loop-piece.yielded c.in-Some.piece)
          (simp c.in_ok-push.ensures.items (each_push Writes _ (vec_items c.loop-piece.numbers) c.in-Some.piece.now c.in_ok-ok_or.field-0 c.loop-piece.invariant.2 writes)),
    )

pub returns-in_err-ok_or : goal.returns-in_err-ok_or
returns-in_err-ok_or c =
    let answer : c.from_residual.result ≡ Err NoMessage = search rules in
    let none : c.number.result ≡ None = search rules in
    let turn = YieldsList-turn (YieldsList-at c.into_iter-piece-iterator.ensures.into_iter_gives (YieldsList-from_str_split 44 c.args.text.now (lit< tt) c.split-piece-items.ensures.text c.split-piece-items.ensures.has_more c.split-piece-items.ensures.pattern))
    c.loop-piece.yielded _ c.loop-piece.yielded_by _ _ _ c.in-Some.is c.next.ensures.steps in
    rw answer (reads_none c.in-Some.piece.now (pieces 44 c.args.text.now) (length c.loop-piece.yielded) c.number.result none turn.0 turn.1 c.number.ensures)

pub returns : goal.returns
returns c =
    let all = YieldsList-end (YieldsList-at c.into_iter-piece-iterator.ensures.into_iter_gives (YieldsList-from_str_split 44 c.args.text.now (lit< tt) c.split-piece-items.ensures.text c.split-piece-items.ensures.has_more c.split-piece-items.ensures.pattern))
    c.loop-piece.yielded _ c.loop-piece.yielded_by _ _ c.in-None.is c.next.ensures.steps in
    rw all.0 at c.loop-piece.invariant.2
