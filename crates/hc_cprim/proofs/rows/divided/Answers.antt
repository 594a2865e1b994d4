use Rattle.std.proofs.Common.{◌≡◌, false, None}
use Rattle.hc_rational.specs.Words.{is_zero}
use Rattle.hc_cprim.specs.Deeds.{kind_beyond}
use Rattle.hc_cprim.proofs.Deeds.{divided_by}
use Rattle.hc_cprim.proofs.rows.divided.Goals as goal

pub returns : goal.returns
returns g c q =
    let here : kind_beyond c.way-row.result ≡ None = cc in
    let some : is_zero c.register-divisor.result ≡ false = cc in
    divided_by c.args.seat.now q c.way-row.result c.args.r c.args.d c.args.a c.args.b c.register.result c.register-divisor.result c.computed.result
    (c.way-row.ensures q) (c.register.ensures q) (c.register-divisor.ensures q) here some (c.computed.ensures c.args.seat.now q _ c.two-value.ensures)
