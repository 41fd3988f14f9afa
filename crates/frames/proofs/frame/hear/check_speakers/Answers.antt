use Rattle.std.proofs.Common.{sym, ◌∙◌, arith, rules}
use Rattle.channels.specs.Settings.{settings}
use Rattle.frames.proofs.Faults.{refusal_here, refusal_more, refusal_none}
use Rattle.frames.proofs.frame.hear.check_speakers.Goals as goal

pub returns-in_err-check_speaker : goal.returns-in_err-check_speaker
returns-in_err-check_speaker c =
    let first = refusal_here (settings c.args.channel) c.args.speakers.now c.loop-speaker.speaker-index c.speaker-item.result (omega arith) c.speaker-item.is _ c.deref.result.now
    c.deref.ensures.value c.in_err-check_speaker.ensures c.loop-speaker.invariant in
    search rules

pub loop-speaker-preserved : goal.loop-speaker-preserved
loop-speaker-preserved c =
    refusal_more (settings c.args.channel) c.args.speakers.now c.loop-speaker.speaker-index c.speaker-item.result (omega arith) c.speaker-item.is c.deref.result.now
    c.deref.ensures.value c.in_ok-check_speaker.ensures c.loop-speaker.invariant

pub returns : goal.returns
returns c = sym c.loop-speaker.invariant ∙ search (rules, refusal_none)
