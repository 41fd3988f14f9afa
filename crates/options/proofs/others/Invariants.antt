use Rattle.std.proofs.Common.{◌≡◌, ◌++◌, drop, vec_items}
use Rattle.command_words.specs.Wrong.{words_in}
use Rattle.options.specs.Options.{without}
use Rattle.options.proofs.others.Given as goal

abbrev pub invariant-loop-text : goal.invariant-loop-text
invariant-loop-text l = words_in (vec_items l.words) ++ without l.option (words_in (drop l.text-index l.texts)) ≡ without l.option (words_in l.texts)
