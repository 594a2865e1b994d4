use Rattle.std.proofs.Common.{ap, ◌∙◌, refl}
use Rattle.hc_step.specs.Arriving.{plain_post}
use Rattle.hc_step.proofs.Going.{went, carried_again}
use Rattle.hc_step.proofs.local.Local.go.Goals as goal

pub returns-clause-stands : goal.returns-clause-stands
returns-clause-stands c t clock q rest all at carries =
    went t c.args.code.now.instrs clock c.at.result.now c.args.next q rest _ all at c.at.ensures refl refl
    (c.show.ensures ∙ ap plain_post c.phase_at.ensures) (carried_again c.args.self.now _ q carries refl refl refl)
