-- The end moment of an evolution of the profile: a delay takes away from it, and it isn't past.
use Rattle.std.proofs.Common.{◌≡◌, ◌∙◌, IsTrue, true, List, length, Option, Some, None}
use Rattle.std.specs.Prelude.{MatchOption}
use Rattle.std.proofs.lemmas.Bool.{and_parts}
use Rattle.hc_rational.specs.Words.{Rational, zero_ℚ, ◌≤ℚ◌}
use Rattle.hc_term.specs.declared.expr.Cond.{Cond}
use Rattle.hc_term.specs.declared.stmt.Rate.{Rate}
use Rattle.hc_term.specs.Value.{Store}
use Rattle.hc_term.specs.Motion.{Rates, rates_in, after}
use Rattle.hc_term.specs.EndMoment.{EndsAt, Endless, end_moment, is_domain}
use Rattle.hc_term.specs.Profile.{is_cond, is_moving_domain, pattern_of}
use Rattle.hc_term.specs.Moved.{IsWithin, less_by}
use Rattle.hc_cross.proofs.EndsRight.{right}
use Rattle.hc_cross.proofs.Delays.{end_after}
use Rattle.hc_runs.proofs.Alike.{same_domain}
use Rattle.hc_runs.proofs.Rated.{length-rates_in, alike}

pub record Ending (s : Store) (r : Rates) (c : Cond) : Type 0 where
  pub later : (d : Rational) → zero_ℚ ≤ℚ d → IsWithin d (end_moment s r c) → end_moment (after s r d) r c ≡ less_by d (end_moment s r c)
  pub not_past : IsWithin zero_ℚ (end_moment s r c)

not_past_by : (c : Cond) (s : Store) (r : Rates) (x : Option Rational) → MatchOption x (Endless c s r) (λ d. EndsAt c s r d) → IsWithin zero_ℚ x
not_past_by c s r None h = tt
not_past_by c s r (Some d) h = h.not_past

pub ending : (s : Store) (rs : List Rate) (c : Cond) → is_moving_domain (length s) (pattern_of (length s) rs) c ≡ true → Ending s (rates_in rs s) c
ending s rs c h =
    let n = length s in
    let r = rates_in rs s in
    let parts = and_parts (is_cond n c) (is_domain (pattern_of n rs) c) h in
    let domain : IsTrue (is_domain r c) = same_domain r (pattern_of n rs) (alike rs s) c ∙ parts.1 in
    record {
      later = λ d k w. end_after c s r d (length-rates_in rs s) domain k w;
      not_past = not_past_by c s r (end_moment s r c) (right c s r (length-rates_in rs s) domain);
    }
