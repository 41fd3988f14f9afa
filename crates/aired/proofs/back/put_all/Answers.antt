use Rattle.std.proofs.Common.{sym, refl, ap, ◌∙◌, rules}
use Rattle.channels.specs.Settings.{settings}
use Rattle.aired.proofs.Taking.{placed_more, outside_more, outside_here, placed_all, outside_all}
use Rattle.aired.proofs.back.put_all.Goals as goal

pub returns-in_err-put_one-clause-cases : goal.returns-in_err-put_one-clause-cases
returns-in_err-put_one-clause-cases c =
    let same = ap settings c.loop-heard.invariant.0 in
    let out = sym c.loop-heard.invariant.2 ∙ outside_here _ _ same _ _ _ _ _ c.loop-heard-test.true refl _ c.in_err-put_one.ensures.cases in
    search (rules, out)

pub loop-heard-preserved : goal.loop-heard-preserved
loop-heard-preserved c =
    let same = ap settings c.loop-heard.invariant.0 in
    let here = c.in_ok-put_one.ensures.cases in (
      c.put_one.ensures.same ∙ c.loop-heard.invariant.0,
      placed_more _ _ same _ _ _ _ _ c.loop-heard-test.true refl _ _ here.1 ∙ c.loop-heard.invariant.1,
      outside_more _ _ same _ _ _ _ _ c.loop-heard-test.true refl here.0 ∙ c.loop-heard.invariant.2,
    )

pub returns-clause-cases : goal.returns-clause-cases
returns-clause-cases c =
    let end = c.loop-heard-test.false in
    (sym c.loop-heard.invariant.2 ∙ outside_all _ _ _ _ end, sym (placed_all _ _ _ _ _ end) ∙ c.loop-heard.invariant.1)
