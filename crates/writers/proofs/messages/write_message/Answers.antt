use Rattle.writers.proofs.Backward.{messages_back}
use Rattle.writers.proofs.messages.write_message.Goals as goal

pub returns-in_err-count-clause-back : goal.returns-in_err-count-clause-back
returns-in_err-count-clause-back c = messages_back

pub returns-clause-back : goal.returns-clause-back
returns-clause-back c = messages_back
