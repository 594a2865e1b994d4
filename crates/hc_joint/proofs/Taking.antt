-- The steps of an advance that a member took over, where a limit leaves so many.
use Rattle.std.proofs.Common.{sym, subst, ℕ, ◌≤◌, length, min, arith}
use Rattle.hc_limits.specs.Limits.{most_silent_steps}
use Rattle.hc_rational.specs.Words.{Rational}
use Rattle.hc_term.specs.declared.model.ProcessState.{ProcessState}
use Rattle.hc_term.specs.Event.{Progress, progress}
use Rattle.hc_step.specs.declared.stretch.Stretch.{Stretch}
use Rattle.hc_member.specs.declared.member.Member.{Member}
use Rattle.hc_member.specs.States.{IsIn, Progresses}
use Rattle.hc_joint.proofs.Within.{few_steps, fits_limit}
use Rattle.hc_joint.proofs.Running.{TakesAll}

-- where the limit leaves as many steps as it has, the stretch is the one that the event has
pub takes_by_limit : (old new : Member) (st : Stretch) (seed left : ℕ) (clock : Rational) → st.steps ≤ left →
    TakesAll most_silent_steps seed clock old st new → TakesAll (min most_silent_steps left) seed clock old st new
takes_by_limit old new st seed left clock few takes p q is =
    let done = takes p q is in
    let short : length (progress most_silent_steps seed p clock q).logs ≤ left = omega (arith, done.counted, few) in
    subst (λ (g : Progress). Progresses p clock st new g) (sym (fits_limit seed p clock left q short)) done

-- no more than an event may have
pub few_taken : (old new : Member) (st : Stretch) (seed left p : ℕ) (clock : Rational) (q : ProcessState) → st.steps ≤ left →
    TakesAll most_silent_steps seed clock old st new → IsIn p clock old q → st.steps ≤ min most_silent_steps left
few_taken old new st seed left p clock q few takes is =
    let done = takes p q is in
    let short = few_steps seed p clock most_silent_steps q in
    omega (arith, done.counted, few, short)
