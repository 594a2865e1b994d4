use Rattle.hc_words.proofs.InOrder.{in_order_ask, run_in_order_asks}
use Rattle.hc_words.proofs.OneRequest.{one_request, one_run}
use Rattle.hc_words.proofs.laws.call_laws.Goals as goal

pub returns : goal.returns
returns c = record { one_request = one_request; in_order = in_order_ask; one_run = one_run; run_in_order = run_in_order_asks }
