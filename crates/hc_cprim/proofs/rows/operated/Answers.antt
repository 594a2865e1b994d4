use Rattle.hc_cprim.specs.Deeds.{exact}
use Rattle.hc_cprim.proofs.Deeds.{computed_by}
use Rattle.hc_cprim.proofs.rows.operated.Goals as goal

pub returns : goal.returns
returns g c q =
    computed_by c.args.seat.now q c.way-row.result c.args.r c.args.d c.args.a c.args.b c.register.result c.register-2.result c.computed.result (c.way-row.ensures q)
    (c.register.ensures q) (c.register-2.ensures q) (exact c.args.op) (c.computed.ensures c.args.seat.now q _ c.two-value.ensures)
