-- The words left are sound, and the polynomial through their slopes gives the one through all.
use Rattle.std.proofs.Common.{◌<◌, length, rules}
use Rattle.polynomials.proofs.Points.{reduced_first, reduced_left, through_more}
use Rattle.polynomials.proofs.Sound.{sound_apart, sound-first, sound-left}
use Rattle.polynomials.proofs.through.+through.Goals as goal
use Rattle.std.proofs.lemmas.List.{take_rest}

pub slopes-requires-clause-first : goal.slopes-requires-clause-first
slopes-requires-clause-first t c = (sound-first 251 _ (search rules) c.requires.sound, c.requires.reduced 0)

pub slopes-requires-clause-apart : goal.slopes-requires-clause-apart
slopes-requires-clause-apart t c = sound_apart 251 _ _ (take_rest c.args.words.now 1) (search rules) c.requires.sound

pub slopes-requires-clause-reduced : goal.slopes-requires-clause-reduced
slopes-requires-clause-reduced t c = reduced_left _ _ (take_rest c.args.values.now 1) c.requires.reduced

pub through-requires : goal.through-requires
through-requires t c = (search rules, (search rules, (sound-left 251 _ _ (take_rest c.args.words.now 1) c.requires.sound, c.slopes.ensures.reduced)))

pub times-requires : goal.times-requires
times-requires t c = let some : 0 < length c.args.values.now = search rules in reduced_first _ _ some c.requires.reduced c.through.ensures.reduced

pub returns-clause-through : goal.returns-clause-through
returns-clause-through t c =
    let some : 0 < length c.args.values.now = search rules in
    through_more _ _ _ _ _ _ _ (take_rest c.args.words.now 1) (take_rest c.args.values.now 1) c.requires.long some c.requires.reduced c.slopes.ensures.slopes c.through.ensures.through c.times.ensures.product
