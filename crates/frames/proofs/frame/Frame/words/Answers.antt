use Rattle.std.proofs.Common.{◌≡◌, ◌++◌, vec_items, sym, ap, ◌∙◌, rules}
use Rattle.std.proofs.lemmas.Iterator.Adapters.{YieldsList-from_once, fact_from_extend}
use Rattle.std.proofs.lemmas.List.{map-id}
use Rattle.std.specs.Option.{option_to_list}
use Rattle.frames.proofs.Own.{gathered_none, gathered_more, gathered_all}
use Rattle.frames.proofs.frame.Frame.words.Goals as goal

pub loop-part-init : goal.loop-part-init
loop-part-init c = search (rules, gathered_none)

pub loop-part-preserved : goal.loop-part-preserved
loop-part-preserved c =
    let words = vec_items c.loop-part.words in
    let word = option_to_list c.word_in.result in
    let more : vec_items c.extend.new.self ≡ words ++ word =
    rw c.in_ok-extend.was at (fact_from_extend (λ x. x) c.extend.result c.extend.ensures.ran (λ it b. YieldsList-from_once c.word_in.result b.0) (λ xs e h. h.0 ∙ ap (λ l. words ++ l) (sym (map-id xs) ∙ e))) in
    rw more (search (rules, gathered_more))

pub returns : goal.returns
returns c = search (rules, gathered_all)
