use Rattle.txn_dialogue.proofs.Steadiness.{copy_is_steady, cancel_is_steady, ack_is_steady, timer_is_steady, reply_is_steady, runless_is_steady}
use Rattle.txn_dialogue.proofs.laws.a_step_without_a_run_is_never_aborted.Goals as goal

pub returns : goal.returns
returns c = record { copy = copy_is_steady; cancel = cancel_is_steady; ack = ack_is_steady; timer = timer_is_steady; reply = reply_is_steady; runless = runless_is_steady }
