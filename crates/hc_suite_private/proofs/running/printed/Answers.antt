use Rattle.std.proofs.Common.{subst}
use Rattle.std.specs.Prelude.{Result, IfOk}
use Rattle.hc_cast.specs.declared.program.CProgram.{CProgram}
use Rattle.hc_cread.specs.declared.whole.CStop.{CStop}
use Rattle.hc_cgrammar.specs.Prelude.{behind_prelude}
use Rattle.hc_cgrammar.specs.Text.{IsCText}
use Rattle.hc_suite_private.proofs.running.printed.Goals as goal

pub exec-requires : goal.exec-requires
exec-requires c =
    let text : IsCText c.deref.result.now c.in-Some-Ok.program =
    subst (λ (r : Result CProgram CStop). IfOk r (IsCText c.deref.result.now)) c.in-Some-Ok.field-0-is c.in-Some-Ok.ensures in
    c.program_laws.ensures.calls behind_prelude text.unit _ text.is_unit
