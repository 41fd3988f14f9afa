use Rattle.std.proofs.Common.{◌≡◌, ◌++◌, get_or, vec_items, Option, refl, ap, sym, ◌∙◌}
use Rattle.std.proofs.lemmas.List.{append-nil}
use Rattle.records.specs.declared.heard.Heard.{Heard}
use Rattle.std.specs.Option.{option_to_list}
use Rattle.pieces.proofs.Feeding.{fed_more}
use Rattle.pieces.proofs.heard_reader.HeardReader.feed_bytes.Goals as goal
use Rattle.pieces.proofs.heard_reader.HeardReader.feed_bytes.Goals.{in-Some+in_ok-push, in_default}

pub loop-b-preserved : goal.loop-b-preserved
loop-b-preserved c =
    let put : vec_items c.match-step.records ≡ vec_items c.loop-b.records ++ option_to_list c.step-step.result.heard =
    elim c.match-step.branch [
      | in-Some+in_ok-push w ↦ ap vec_items w.records-is ∙ w.in_ok-push.ensures.items ∙ ap (λ (o : Option Heard). vec_items c.loop-b.records ++ option_to_list o) (sym w.in-Some.is)
      | in_default w ↦ ap vec_items w.records-is ∙ sym (append-nil (vec_items c.loop-b.records)) ∙ ap (λ (o : Option Heard). vec_items c.loop-b.records ++ option_to_list o) (sym w.in_default.is)
    ] in
    fed_more c.args.self c.loop-b.reader c.step-step.result.reader c.args.piece.now (vec_items c.args.records.now) (vec_items c.loop-b.records) (vec_items c.match-step.records)
    (option_to_list c.step-step.result.heard) c.loop-b.b-index (get_or c.args.piece.now c.loop-b.b-index 0) c.loop-b-test.true refl c.loop-b.invariant c.step-step.ensures put
