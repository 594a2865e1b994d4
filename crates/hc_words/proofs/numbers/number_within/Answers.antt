use Rattle.std.proofs.Common.{◌∙◌, sym, ap}
use Rattle.hc_words.specs.Numbers.{is_digits}
use Rattle.hc_words.proofs.Digits.{too_large}
use Rattle.hc_words.proofs.numbers.number_within.Goals as goal

pub returns-in_default : goal.returns-in_default
returns-in_default c =
    let digits = sym (ap is_digits c.as_bytes.ensures.value) ∙ sym c.is_digits.ensures ∙ c.if-not-is_digits.false in
    too_large c.args.text.now c.args.least c.args.most digits c.ranges.most.fits (c.in_default.ensures {u = tt}).value.0
