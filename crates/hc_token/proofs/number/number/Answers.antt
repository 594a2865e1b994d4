use Rattle.std.proofs.Common.{◌∙◌, length, ap}
use Rattle.std.proofs.lemmas.List.{take_rest}
use Rattle.hc_token.specs.Numbers.{point_digits}
use Rattle.hc_token.proofs.Ranges.{number_read}
use Rattle.hc_token.proofs.number.number.Goals as goal

pub returns-clause-number : goal.returns-clause-number
returns-clause-number c =
    let z = c.args.text.now in
    let whole = c.front_digits-whole.result.now in
    let behind = c.point_digits-places.ensures.value ∙ ap point_digits (take_rest z (length whole)) in
    c.number_of.ensures
    ∙ number_read z whole c.point_digits-places.result.now c.with_digits.result c.with_digits-value.result
    c.front_digits-whole.ensures.value behind c.with_digits.ensures c.with_digits-value.ensures
