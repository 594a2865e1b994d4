use Rattle.std.proofs.Common.{length}
use Rattle.hc_term.specs.declared.model.ProcessState.{ProcessState}
use Rattle.hc_code.specs.Stands.{Table, AllAgree}
use Rattle.hc_step.specs.Represents.{Represents, Keeps}
use Rattle.hc_step.proofs.Stretching.{IsUnderWay}
use Rattle.hc_step.proofs.local.Local.stretch.Given as goal

abbrev pub invariant-loop-steps : goal.invariant-loop-steps
invariant-loop-steps l = record {
  kept : Keeps (length l.code.instrs) l.fn.self l.self;
  going : (t : Table) (q : ProcessState) → AllAgree t l.code.instrs t → Represents t l.clock l.fn.self q →
      IsUnderWay t l.clock l.seed l.fn.self.process l.most l.steps q l.self;
}
