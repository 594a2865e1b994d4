-- The clock never passes the horizon.
use Rattle.std.proofs.Common.{◌≡◌, refl, sym, subst, Bool, true, false, if◌then◌else◌, List, [], ◌∷◌, Option, Some, None}
use Rattle.std.specs.declared.cmp.Ordering.{Ordering}
use Rattle.std.specs.declared.cmp.Ordering.TheVariants as side
use Rattle.hc_rational.specs.Words.{Rational, zero_ℚ, ◌+ℚ◌, ◌-ℚ◌, ◌≤ℚ◌, rank}
use Rattle.hc_rational.proofs.FieldLaws.{+ℚ_comm, -ℚ-+ℚ}
use Rattle.hc_rational.proofs.OrderLaws.{≤ℚ_refl, ≤ℚ_antisymm, ≤ℚ-from_<ℚ, +ℚ-≤ℚ}
use Rattle.hc_rational.proofs.RankLaws.{rank_is, is_positive_is, lesser_is}
use Rattle.hc_term.specs.declared.task.Task.{Task}
use Rattle.hc_term.specs.declared.run.Step.{Step}
use Rattle.hc_term.specs.declared.run.Step.TheVariants.{Silent, Comm, Delay}
use Rattle.hc_term.specs.declared.run.Item.{Item}
use Rattle.hc_term.specs.declared.post.Post.{Post}
use Rattle.hc_term.specs.declared.model.Configuration.{Configuration}
use Rattle.hc_term.specs.Posts.{least_bound, is_timed, length_of_delay, NoBound, AtHorizon, Overflows, Took, passing_below}
use Rattle.hc_term.specs.Step.{opening, posts, StepTo, Leads}
use Rattle.hc_term.specs.Laws.{ClockKeepsHorizon, HorizonIsReached}
use Rattle.hc_term.proofs.Turns.{passing-quiet}

-- ---- one delay

length_of_delay-most : (most : Rational) (b : Option Rational) → length_of_delay most b ≤ℚ most
length_of_delay-most most None = ≤ℚ_refl most
length_of_delay-most most (Some b) = (lesser_is b most).second

-- a delay of at most the rest to the horizon leads to the horizon at most
rest-keeps : (clock horizon d : Rational) → d ≤ℚ horizon -ℚ clock → clock +ℚ d ≤ℚ horizon
rest-keeps clock horizon d h =
    subst (λ q. q ≤ℚ horizon) (+ℚ_comm d clock)
    (subst (λ q. d +ℚ clock ≤ℚ q) (-ℚ-+ℚ horizon clock) (+ℚ-≤ℚ d (horizon -ℚ clock) clock h))

module _ (clock horizon : Rational) (ps : List Post) where
  taken : (d by : Rational) (b : Bool) → (if b then Took d else Overflows) ≡ Took by → d ≡ by
  taken d by true e = cc
  taken d by false e = cc

  below-most : (o : Ordering) (d : Rational) → passing_below o clock horizon ps ≡ Took d → d ≤ℚ horizon -ℚ clock
  below-most side.Less d e =
      subst (λ q. q ≤ℚ horizon -ℚ clock) (taken (length_of_delay (horizon -ℚ clock) (least_bound ps)) d _ e)
      (length_of_delay-most (horizon -ℚ clock) (least_bound ps))
  below-most side.Equal d e = cc
  below-most side.Greater d e = cc

  took-most : (b : Bool) (d : Rational) →
      (if b then passing_below (rank clock horizon) clock horizon ps else NoBound) ≡ Took d →
      d ≤ℚ horizon -ℚ clock
  took-most true d e = below-most (rank clock horizon) d e
  took-most false d e = cc

  for-at : (d : Rational) (b : Bool) → (if b then Took d else Overflows) ≡ AtHorizon → ⊥
  for-at d true e = cc
  for-at d false e = cc

  below-at : (o : Ordering) → rank clock horizon ≡ o → passing_below o clock horizon ps ≡ AtHorizon →
      horizon ≤ℚ clock
  below-at side.Less r e = absurd (for-at _ _ e)
  below-at side.Equal r e = subst (λ q. horizon ≤ℚ q) (sym ((rank_is clock horizon).equal.0 r)) (≤ℚ_refl horizon)
  below-at side.Greater r e = ≤ℚ-from_<ℚ horizon clock ((rank_is clock horizon).greater.0 r)

  at-horizon : (b : Bool) →
      (if b then passing_below (rank clock horizon) clock horizon ps else NoBound) ≡ AtHorizon → horizon ≤ℚ clock
  at-horizon true e = below-at (rank clock horizon) refl e
  at-horizon false e = cc

-- ---- a run

module _ (t : Task) where
  step-keeps : (step : Step) (c new : Configuration) → StepTo t c step new → c.clock ≤ℚ t.horizon →
      new.clock ≤ℚ t.horizon
  step-keeps (Silent p logged) c new s h = subst (λ (i : Configuration). i.clock ≤ℚ t.horizon) (sym s.2) h
  step-keeps (Comm channel value) c new s h = subst (λ (i : Configuration). i.clock ≤ℚ t.horizon) (sym s.5) h
  step-keeps (Delay d) c new s h =
      let took = (passing-quiet t c (Took d) s.0).what in
      subst (λ (i : Configuration). i.clock ≤ℚ t.horizon) (sym s.1)
      (rest-keeps c.clock t.horizon d (took-most c.clock t.horizon (posts c) (is_timed (posts c)) d took))

  run-keeps : (items : List Item) (c new : Configuration) → Leads t c items new → c.clock ≤ℚ t.horizon →
      new.clock ≤ℚ t.horizon
  run-keeps [] c new l h = subst (λ (i : Configuration). i.clock ≤ℚ t.horizon) (sym l) h
  run-keeps (i ∷ is) c new l h = run-keeps is l.1.0 new l.1.2 (step-keeps i.step c l.1.0 l.1.1 h)

pub clock_keeps_horizon : ClockKeepsHorizon
clock_keeps_horizon t items c run =
    run-keeps t items (opening t) c run (≤ℚ-from_<ℚ zero_ℚ t.horizon ((is_positive_is t.horizon).0 t.positive))

pub horizon_is_reached : HorizonIsReached
horizon_is_reached t items c run e =
    let at = (passing-quiet t c AtHorizon e).what in
    ≤ℚ_antisymm c.clock t.horizon (clock_keeps_horizon t items c run)
    (at-horizon c.clock t.horizon (posts c) (is_timed (posts c)) at)
