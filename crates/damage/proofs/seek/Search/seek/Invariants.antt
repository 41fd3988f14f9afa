-- At each level: nothing was found, and all sets so far fail.
use Rattle.std.proofs.Common.{◌≡◌, None}
use Rattle.damage.proofs.seek.Search.seek.Given as goal
use Rattle.polynomials.specs.Heard.{words_in}
use Rattle.readings.proofs.Chosen.{NoI, NoJ, NoK, NoL}

abbrev pub invariant-loop-l : goal.invariant-loop-l
invariant-loop-l l = (l.found ≡ None) × NoL l.size l.spare (words_in l.self.words.now) l.block l.i l.j l.k l.l

abbrev pub invariant-loop-k : goal.invariant-loop-k
invariant-loop-k l = (l.found ≡ None) × NoK l.size l.spare (words_in l.self.words.now) l.block l.i l.j l.k

abbrev pub invariant-loop-j : goal.invariant-loop-j
invariant-loop-j l = (l.found ≡ None) × NoJ l.size l.spare (words_in l.self.words.now) l.block l.i l.j

abbrev pub invariant-sets : goal.invariant-sets
invariant-sets l = (l.found ≡ None) × NoI l.size l.spare (words_in l.self.words.now) l.block l.i
