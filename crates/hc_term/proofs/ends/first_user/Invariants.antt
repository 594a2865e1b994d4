use Rattle.std.proofs.Common.{◌≡◌, drop}
use Rattle.hc_term.specs.Ends.{user_from}
use Rattle.hc_term.proofs.ends.first_user.Given as goal

abbrev pub invariant-loop-process : goal.invariant-loop-process
invariant-loop-process l = record {
  counted : l.number ≡ l.process-index;
  same : user_from l.sending l.channel 0 l.processes ≡ user_from l.sending l.channel l.number (drop l.process-index l.processes);
}
