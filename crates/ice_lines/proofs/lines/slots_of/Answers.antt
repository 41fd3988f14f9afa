use Rattle.std.proofs.Common.{ℕ, map, rules, arith, refl, sym, ap, ◌∙◌}
use Rattle.std.specs.List.{filter_map, range_with_len}
use Rattle.speakall.specs.Promise.{table_of}
use Rattle.channels.specs.Plans.{plan_in}
use Rattle.std.proofs.lemmas.Iterator.{YieldsList-from_range, YieldsList-from_map, items_from_collect}
use Rattle.std.proofs.lemmas.Iterator.Consumers.{YieldsList-at, YieldsList-from_filter_map}
use Rattle.std.proofs.lemmas.Result.{IfOk-weaker}
use Rattle.ice_lines.proofs.Spaced.{slot_in_part, slot_or_none, slots_all}
use Rattle.ice_lines.proofs.lines.slots_of.Goals as goal

pub returns : goal.returns
returns c =
    let q = c.args.plan.q in
    let f = plan_in c.args.plan in
    IfOk-weaker c.collect.result _ _ (λ v e.
    e ∙ ap (λ (n : ℕ). map (λ x. x) (filter_map (slot_in_part q f) (range_with_len 0 n))) (sym c.requires) ∙ slots_all q f ∙ ap (λ (n : ℕ). table_of n f n) c.requires) (items_from_collect c.collect.result c.collect.ensures.ran
    (YieldsList-from_map _ (λ x. x) (YieldsList-at c.map.ensures.source (YieldsList-from_filter_map _ (slot_in_part q f) (YieldsList-at c.filter_map.ensures.source (YieldsList-from_range 0 c.args.q c.args.q refl (omega arith))) c.filter_map.ensures.closure (λ x r p k. (search rules, slot_or_none q f x r (search rules))))) c.map.ensures.closure (λ x r p k. search rules)))
