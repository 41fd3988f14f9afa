-- What a set leaves is enough; and where all sets fail there is no message.
use Rattle.std.proofs.Common.{◌-◌, [], ◌∷◌, length, take, refl, arith}
use Rattle.damage.proofs.Trying.{block-some, left-enough, length_taken, sets-fail, tried-none}
use Rattle.damage.proofs.seek.Search.seek.Goals as goal
use Rattle.polynomials.proofs.Sound.{sound_few}

pub without-found-requires-clause-few : goal.without-found-requires-clause-few
without-found-requires-clause-few c = omega (arith, sound_few 251 c.args.self.now.words.now c.args.self.now.sound)

pub without-found-requires-clause-enough : goal.without-found-requires-clause-enough
without-found-requires-clause-enough c =
    let pos = block-some _ _ _ c.requires.some c.requires.enough in
    let set = c.sets.i ∷ c.loop-j.j ∷ c.loop-k.k ∷ c.loop-l.l ∷ [] in
    let out = take (c.args.self.now.spare - 0) set in
    omega (arith, left-enough (length c.args.message.now) c.args.self.now.spare c.args.self.now.words.now _ out c.requires.some pos refl (omega arith) (length_taken c.args.self.now.spare set))

pub returns-after-sets : goal.returns-after-sets
returns-after-sets c = tried-none _ _ _ _ _ _ c.sets.invariant.0 (sets-fail _ _ _ _ c.requires.some c.args.self.now.few c.requires.enough c.sets-test.false c.sets.invariant.1)
