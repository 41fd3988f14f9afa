use Rattle.std.proofs.Common.{vec_items}
use Rattle.channels.specs.Settings.{settings}
use Rattle.frames.proofs.Hearing.{said_hears}
use Rattle.frames.proofs.frame.Frame.speak.Goals as goal

pub returns-clause-cases : goal.returns-clause-cases
returns-clause-cases c =
    let frame = c.args.self.now in
    let said = rw c.in_ok-plan.ensures.plan at c.say.ensures.said in
    record { can = c.in_ok-check_speaker.ensures; heard = said_hears (settings frame.channel) c.args.number c.args.message.now (vec_items frame.slots) (vec_items c.say.new.self.slots) said }
