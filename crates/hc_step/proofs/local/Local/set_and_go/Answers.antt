use Rattle.std.proofs.Common.{refl}
use Rattle.std.specs.Prelude.{slice_set}
use Rattle.hc_step.proofs.Going.{carried_set}
use Rattle.hc_step.proofs.local.Local.set_and_go.Goals as goal

pub returns-clause-stands : goal.returns-clause-stands
returns-clause-stands c t clock q rest all at carries =
    c.go.ensures.stands t clock (record q { store = slice_set q.store c.args.variable c.args.value }) rest all at
    (carried_set c.args.self.now _ q c.args.variable c.args.value carries c.requires.in_range refl refl refl)
