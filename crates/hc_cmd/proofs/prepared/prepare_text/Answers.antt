use Rattle.std.proofs.Common.{sym, subst}
use Rattle.hc_words.specs.declared.requests.Request.{Request}
use Rattle.hc_cmd.specs.Answers.{Answers}
use Rattle.hc_cmd.specs.Prepared.{Prepares}
use Rattle.hc_cmd.proofs.prepared.prepare_text.Goals as goal

pub returns-in-Check : goal.returns-in-Check
returns-in-Check c = subst (λ (r : Request). Prepares (Answers r c.args.text.now) c.prepare_size.result) (sym c.in-Check.is) c.prepare_size.ensures

pub returns-in-Print : goal.returns-in-Print
returns-in-Print c = subst (λ (r : Request). Prepares (Answers r c.args.text.now) c.prepare_spelling.result) (sym c.in-Print.is) c.prepare_spelling.ensures

pub returns-in-Simulate : goal.returns-in-Simulate
returns-in-Simulate c =
    subst (λ (r : Request). Prepares (Answers r c.args.text.now) c.prepare_simulation.result) (sym c.in-Simulate.is) c.prepare_simulation.ensures

pub returns-in-Channels : goal.returns-in-Channels
returns-in-Channels c = subst (λ (r : Request). Prepares (Answers r c.args.text.now) c.prepare_listing.result) (sym c.in-Channels.is) c.prepare_listing.ensures

pub returns-in-Convert : goal.returns-in-Convert
returns-in-Convert c = subst (λ (r : Request). Prepares (Answers r c.args.text.now) c.prepare_conversion.result) (sym c.in-Convert.is) c.prepare_conversion.ensures

pub returns-in-Verify : goal.returns-in-Verify
returns-in-Verify c =
    subst (λ (r : Request). Prepares (Answers r c.args.text.now) c.prepare_verdict.result) (sym c.in-Verify.is) c.prepare_verdict.ensures

pub returns-in-Cexec : goal.returns-in-Cexec
returns-in-Cexec c =
    subst (λ (r : Request). Prepares (Answers r c.args.text.now) c.prepare_execution.result) (sym c.in-Cexec.is) c.prepare_execution.ensures

pub returns-in-Make : goal.returns-in-Make
returns-in-Make c = subst (λ (r : Request). Prepares (Answers r c.args.text.now) c.prepare_made.result) (sym c.in-Make.is) c.prepare_made.ensures
