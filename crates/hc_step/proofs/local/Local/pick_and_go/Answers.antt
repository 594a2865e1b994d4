use Rattle.std.proofs.Common.{◌+◌, refl}
use Rattle.hc_step.proofs.Going.{carried_pick}
use Rattle.hc_step.proofs.local.Local.pick_and_go.Goals as goal

pub returns-clause-stands : goal.returns-clause-stands
returns-clause-stands c t clock q rest all at carries =
    c.go.ensures.stands t clock (record q { choices = q.choices + 1 }) rest all at (carried_pick c.args.self.now _ q carries refl refl refl)
