-- What the rules say of an evolution, in the words of its code.
use Rattle.std.specs.Prelude.{◌≡◌, ◌≤◌, ℕ, Bool, ◌&&◌, nat_le, nat_lt, List, [], ◌∷◌, length, IsTrue}
use Rattle.std.specs.List.{list_all}
use Rattle.std.proofs.Common.{refl, sym, subst, ◌<◌}
use Rattle.std.proofs.lemmas.Bool.{and_parts, and_from}
use Rattle.hc_rational.specs.Words.{Rational}
use Rattle.hc_term.specs.declared.expr.Cond.{Cond}
use Rattle.hc_term.specs.declared.stmt.Rate.{Rate}
use Rattle.hc_term.specs.Motion.{Rates}
use Rattle.hc_term.specs.EndMoment.{is_domain}
use Rattle.hc_term.specs.Profile.{is_expr, is_cond, pattern_of, same_variable, all_apart, is_rate, are_rates, is_moving_domain, sends_affine, is_evolution, are_guards}
use Rattle.hc_code.specs.declared.code.Way.{Way}
use Rattle.hc_code.specs.Kept.{ios_of}
use Rattle.hc_step.proofs.Evolves.{evolves}
use Rattle.hc_cast.specs.declared.program.CProgram.{CProgram}
use Rattle.hc_cstep.specs.Locals.{Base}
use Rattle.hc_cstep.specs.Parts.{Parts}
use Rattle.hc_cstep.specs.Premises.{PartsWork, is_sent}
use Rattle.hc_cstep.proofs.Branches.{few_ways, all_io, all_good, all_lines, with_line}
use Rattle.hc_cstep.proofs.Evolves.{Ruled}

all_both : {A : Type 0} (f h : A → Bool) (xs : List A) → IsTrue (list_all f xs) → IsTrue (list_all h xs) → IsTrue (list_all (λ (x : A). f x && h x) xs)
all_both f h [] i j = refl
all_both f h (x ∷ xs) i j =
    let first = and_parts (f x) (list_all f xs) i in
    let second = and_parts (h x) (list_all h xs) j in
    and_from (f x && h x) (list_all (λ x. f x && h x) xs) (and_from (f x) (h x) first.0 second.0) (all_both f h xs first.1 second.1)

module _ (g : CProgram) (p : ℕ) (low : p < 64) (b : Base) (vars : ℕ) (few : vars ≤ 64) (room : ℕ) (n late : ℕ) (c : Parts) (works : PartsWork g p n late b vars room c) (clock : Rational)
    (s : List Rational) (same_vars : length s ≡ vars) (channels : ℕ) (rates : List Rate) (domain : Cond) (ways : List Way) where
  pub record Rules : Type 0 where
    pub ruled : Ruled g p low b vars few room n late c works clock s same_vars rates domain (ios_of ways)
    pub apart : IsTrue (all_apart same_variable rates)

  module _ (kept : IsTrue (is_evolution vars rates domain (ios_of ways) && are_guards channels vars (ios_of ways)))
      (coded : IsTrue (list_all (λ (r : Rate). c.is_value r.value) rates && list_all (is_sent c.is_line) (ios_of ways) && c.is_end domain)) where
    abbrev pattern : Rates
    pattern = pattern_of vars rates

    pub ruled_here : Rules
    ruled_here =
        let two = and_parts (is_evolution vars rates domain (ios_of ways)) (are_guards channels vars (ios_of ways)) kept in
        let known = evolves s rates domain ways (subst (λ (k : ℕ). IsTrue (is_evolution k rates domain (ios_of ways))) (sym same_vars) two.0) in
        let parts = and_parts (are_rates vars pattern rates && is_moving_domain vars pattern domain) (list_all (sends_affine pattern) (ios_of ways)) two.0 in
        let first = and_parts (are_rates vars pattern rates) (is_moving_domain vars pattern domain) parts.0 in
        let rated = and_parts (nat_le 1 (length rates) && all_apart same_variable rates) (list_all (is_rate vars pattern) rates) first.0 in
        let moving = and_parts (is_cond vars domain) (is_domain pattern domain) first.1 in
        let code = and_parts (list_all (λ (r : Rate). c.is_value r.value) rates && list_all (is_sent c.is_line) (ios_of ways)) (c.is_end domain) coded in
        let front = and_parts (list_all (λ (r : Rate). c.is_value r.value) rates) (list_all (is_sent c.is_line) (ios_of ways)) code.0 in
        let few_here : length rates ≤ vars = subst (λ (k : ℕ). length rates ≤ k) same_vars known.few in
        record {
          ruled = record {
            in_range = subst (λ (k : ℕ). IsTrue (list_all (λ (r : Rate). nat_lt r.variable k) rates)) same_vars known.in_range;
            good_rates =
                all_both (λ (r : Rate). is_expr vars r.value) (λ (r : Rate). c.is_value r.value) rates
                (subst (λ (k : ℕ). IsTrue (list_all (λ (r : Rate). is_expr k r.value) rates)) same_vars known.valued) front.0;
            few_rates = few_here;
            few_ways = few_ways channels vars (ios_of ways) two.1;
            good_ways =
                all_good channels vars (with_line pattern c.is_line) (ios_of ways) (all_io channels vars (ios_of ways) two.1)
                (all_lines pattern c.is_line (ios_of ways) parts.1 front.1);
            is_cond_here = moving.0;
            is_domain_here = moving.1;
            has_end = code.1;
          };
          apart = (and_parts (nat_le 1 (length rates)) (all_apart same_variable rates) rated.0).1;
        }
