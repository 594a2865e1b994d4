use Rattle.std.proofs.Common.{◌≡◌, sym, subst, None, option_map}
use Rattle.std.specs.Prelude.{IfSome}
use Rattle.hc_rational.specs.Words.{Rational}
use Rattle.hc_words.specs.Requests.{IsHorizon}
use Rattle.hc_words.proofs.requests.horizon_of.Goals as goal

pub returns-in-Some-clause-some : goal.returns-in-Some-clause-some
returns-in-Some-clause-some c =
    subst (λ t. IfSome c.positive_fraction.result (IsHorizon (option_map (λ s. s.now) t))) (sym c.in-Some.is) c.positive_fraction.ensures.some

pub returns-in-Some-clause-none : goal.returns-in-Some-clause-none
returns-in-Some-clause-none c =
    subst (λ t. c.positive_fraction.result ≡ None → (q : Rational) → IsHorizon (option_map (λ s. s.now) t) q → ⊥) (sym c.in-Some.is) c.positive_fraction.ensures.none
