use Rattle.hc_trace.proofs.OneTrace.{one_trace}
use Rattle.hc_trace.proofs.Refusals.{one_refusal, texts_are_not_refused}
use Rattle.hc_trace.proofs.WrittenTrace.{written_is_trace}
use Rattle.hc_trace.proofs.laws.reading_laws.Goals as goal

pub returns-clause-one_trace : goal.returns-clause-one_trace
returns-clause-one_trace c = one_trace

pub returns-clause-one_refusal : goal.returns-clause-one_refusal
returns-clause-one_refusal c = one_refusal

pub returns-clause-not_refused : goal.returns-clause-not_refused
returns-clause-not_refused c = texts_are_not_refused

pub returns-clause-written : goal.returns-clause-written
returns-clause-written c = written_is_trace
