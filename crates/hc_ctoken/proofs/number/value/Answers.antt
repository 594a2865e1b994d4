use Rattle.std.proofs.Common.{◌∙◌, arith, rules}
use Rattle.hc_token.proofs.Values.{next_digit}
use Rattle.hc_ctoken.proofs.number.value.Goals as goal

pub loop-digit-preserved : goal.loop-digit-preserved
loop-digit-preserved c =
    let at = c.loop-digit in
    let more = next_digit c.args.digits.now at.digit-index at.value c.saturating_add-value.result c.requires
    (search rules) (omega arith) in
    (more ∙ c.loop-digit.invariant.0, omega arith)
