use Rattle.std.proofs.Common.{◌∙◌, ℕ, ap}
use Rattle.std.proofs.lemmas.Result.{IfOk-weaker}
use Rattle.hc_cmd.specs.Traced.{judged}
use Rattle.hc_cmd.proofs.tracing.verdict_of.Goals as goal

pub returns : goal.returns
returns c =
    let verdict = c.in_ok-verdict.verdict in
    IfOk-weaker c.text_of_verdict.result _ _ (λ text e. record {
      task = c.task_of-task.result;
      parts = c.task_of-task.ensures;
      verdict = verdict;
      judges = c.in_ok-verdict.ensures;
      stands = e ∙ ap (λ (n : ℕ). judged n verdict) c.len.ensures;
    }) c.text_of_verdict.ensures
