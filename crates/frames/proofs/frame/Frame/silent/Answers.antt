use Rattle.std.proofs.Common.{replicate, refl, ap, ◌∙◌, rules}
use Rattle.channels.specs.Settings.{settings}
use Rattle.frames.specs.declared.slot.Slot.TheVariants.{Silence}
use Rattle.frames.proofs.Hearing.{there_silent, silent_hears}
use Rattle.frames.proofs.frame.Frame.silent.Goals as goal

pub invariant_of-result : goal.invariant_of-result
invariant_of-result c =
    let items = c.in_ok-slots.ensures.items_if_clones_equal (λ y e. e) in
    record { whole = search rules; there = rw items (there_silent _ _) }

pub returns : goal.returns
returns c =
    let items = c.in_ok-slots.ensures.items_if_clones_equal (λ y e. e) ∙ ap (λ n. replicate n Silence) c.slots.ensures in
    (refl, rw items (silent_hears (settings c.args.channel)), items)
