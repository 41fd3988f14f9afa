use Rattle.writers.proofs.Backward.{back_from}
use Rattle.writers.proofs.heard.write_heard.Goals as goal

pub returns-in-Word : goal.returns-in-Word
returns-in-Word c = record {
  bytes = rw c.in-Word.ensures.bytes at c.put.ensures;
  back = back_from c.args.heard c.in-Word.bytes c.in-Word.ensures.bytes c.in-Word.ensures.size c.in-Word.ensures.back;
}

pub returns-in-Noise : goal.returns-in-Noise
returns-in-Noise c = record {
  bytes = rw c.in-Noise.ensures.bytes at c.put-in-Noise.ensures;
  back = back_from c.args.heard c.in-Noise.bytes c.in-Noise.ensures.bytes c.in-Noise.ensures.size c.in-Noise.ensures.back;
}
