use Rattle.std.proofs.Common.{◌∙◌, sym, subst}
use Rattle.hc_words.specs.Numbers.{IsDecimalText, decimal, fraction}
use Rattle.hc_words.proofs.numbers.positive_fraction.Goals as goal
use Rattle.hc_words.proofs.numbers.positive_fraction.Goals.{in-Some+else-is_positive, in_default}

pub returns-then-is_positive-2-clause-some : goal.returns-then-is_positive-2-clause-some
returns-then-is_positive-2-clause-some c =
    let found : IsDecimalText c.as_bytes-2.result.now c.in_ok-number.number = c.in_ok-number.ensures.only in (
      decimal c.in_ok-number.number (subst (λ t. IsDecimalText t c.in_ok-number.number) c.as_bytes-2.ensures.value found) c.value-value.ensures,
      sym (c.if-is_positive-2.ensures {u = tt}),
    )

pub returns-in_err-number-clause-none : goal.returns-in_err-number-clause-none
returns-in_err-number-clause-none c = λ e q both. elim both.0 [
  | fraction fits is ↦ elim c.match-read.branch [
    | in-Some+else-is_positive w ↦
        let read = c.read.ensures.every q fits (is ∙ sym c.as_bytes.ensures.value) in
        let none = w.if-is_positive.ensures {u = tt} in
        let same = w.in-Some.is in
        let positive = both.1 in
        cc (read, same, none, positive)
    | in_default w ↦ w.in_default.not-Some q (c.read.ensures.every q fits (is ∙ sym c.as_bytes.ensures.value))
  ]
  | decimal d is value ↦
      let some = c.decimal_of.ensures.every d (subst (λ t. IsDecimalText t d) (sym c.as_bytes-2.ensures.value) is) in
      let none = c.in_err-number.was {u = tt} in
      cc (some, none)
]
