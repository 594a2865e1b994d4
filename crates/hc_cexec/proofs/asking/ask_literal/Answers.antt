use Rattle.std.proofs.Common.{rules, subst, sym, [], ◌∷◌, Ok}
use Rattle.hc_cast.specs.declared.primitive.Primitive.TheVariants.{FrSet}
use Rattle.hc_cprim.specs.Deeds.{IsDeedOf}
use Rattle.hc_cmach.specs.Expression.{Value, together}
use Rattle.hc_cexec.specs.Asks.{SetsLiteral}
use Rattle.hc_cexec.proofs.asking.ask_literal.Goals as goal

pub returns-in-Ok-Ok : goal.returns-in-Ok-Ok
returns-in-Ok-Ok c =
    let of : IsDeedOf c.args.seat.now FrSet (c.in-Ok-Ok.row ∷ c.in-Ok-Ok.register ∷ c.args.numerator ∷ c.args.denominator ∷ []) c.literal-deed.result = search rules in
    subst
    (λ (v : Value). SetsLiteral c.args.seat.now (together v (together c.args.register (Ok []))) c.args.numerator c.args.denominator c.args.target c.args.next c.done.result)
    (sym c.in-Ok-Ok.is-0)
    (
    subst
    (λ (v : Value).
    SetsLiteral c.args.seat.now (together (Ok c.in-Ok-Ok.row) (together v (Ok []))) c.args.numerator c.args.denominator c.args.target c.args.next c.done.result
    )
    (sym c.in-Ok-Ok.is-1) (record { deed = c.literal-deed.result; of = of; is = c.done.ensures })
    )
