use Rattle.std.proofs.Common.{rules}
use Rattle.frames.proofs.There.{there_joined, there_set}
use Rattle.frames.proofs.frame.Frame.say_in.Goals as goal

pub invariant_of-self : goal.invariant_of-self
invariant_of-self c =
    let joined = there_joined _ c.args.sender c.args.word c.index.result.now c.requires.sender in
    record { whole = search rules; there = there_set _ _ _ _ (rw c.with.ensures joined) c.args.self.now.there }
