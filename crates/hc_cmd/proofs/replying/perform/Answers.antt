use Rattle.std.proofs.Common.{Result, Ok, refl, sym, subst}
use Rattle.hc_cmd.specs.declared.prepared.Prepared.{Prepared}
use Rattle.hc_cmd.specs.declared.refusal.Refusal.{Refusal}
use Rattle.hc_cmd.specs.Prepared.{Performs, reply_of}
use Rattle.hc_cmd.proofs.Finding.{untouched}
use Rattle.hc_cmd.proofs.replying.perform.Goals as goal

-- a refusal leaves nothing on output
pub returns-in-Err : goal.returns-in-Err
returns-in-Err g c =
    subst (λ (p : Result Prepared Refusal). Performs {E = Unit {0}} g.O.Sink.state c.args.out.now c.args.out.now (reply_of p) (Ok c.end.result)) (sym c.in-Err.is)
    (untouched g.O.Sink.state c.args.out.now c.args.out.now refl, c.end.ensures.0, c.end.ensures.1)
