-- The delay that time takes: the clock is before the horizon, the delay lasts to the least bound or to the horizon, and its working
-- values fit.
use Rattle.std.proofs.Common.{◌≡◌, refl, sym, ap, subst, Bool, true, false, if◌then◌else◌, List, Option, Some, None, ◌⊎◌, inl, inr, ⊎_elim}
use Rattle.std.specs.declared.cmp.Ordering.{Ordering}
use Rattle.std.specs.declared.cmp.Ordering.TheVariants as side
use Rattle.hc_rational.specs.Words.{Rational, ◌-ℚ◌, ◌<ℚ◌, rank}
use Rattle.hc_rational.proofs.RankLaws.{rank_is, lesser_is}
use Rattle.hc_term.specs.Moved.{IsWithin}
use Rattle.hc_term.specs.declared.task.Task.{Task}
use Rattle.hc_term.specs.declared.post.Post.{Post}
use Rattle.hc_term.specs.declared.model.Configuration.{Configuration}
use Rattle.hc_term.specs.Posts.{NoBound, Overflows, Took, least_bound, is_timed, length_of_delay, delay_fits, passing_below}
use Rattle.hc_term.specs.Step.{posts, passing}
use Rattle.hc_term.proofs.Turns.{passing-quiet}
use Rattle.hc_runs.specs.Laws.{DelayFits}

lasts_by : (most : Rational) (b : Option Rational) → (b ≡ Some (length_of_delay most b)) ⊎ (length_of_delay most b ≡ most)
lasts_by most None = inr refl
lasts_by most (Some b) = ⊎_elim (λ e. inl (ap Some (sym e))) (λ e. inr e) (lesser_is b most).one

within_by : (most : Rational) (b : Option Rational) → IsWithin (length_of_delay most b) b
within_by most None = tt
within_by most (Some b) = (lesser_is b most).first

module _ (clock horizon : Rational) (ps : List Post) where
  pub record Taking (d : Rational) : Type 0 where
    pub before : clock <ℚ horizon
    pub lasts : (least_bound ps ≡ Some d) ⊎ (d ≡ horizon -ℚ clock)
    pub within : IsWithin d (least_bound ps)
    pub fitting : delay_fits d clock ps ≡ true

  taken : (d by : Rational) (b : Bool) → delay_fits d clock ps ≡ b → (if b then Took d else Overflows) ≡ Took by → (d ≡ by) × (delay_fits d clock ps ≡ true)
  taken d by true h e = (cc, h)
  taken d by false h e = cc

  taking_below : (o : Ordering) (d : Rational) → rank clock horizon ≡ o → passing_below o clock horizon ps ≡ Took d → Taking d
  taking_below side.Less d h e =
      let most = horizon -ℚ clock in
      let long = length_of_delay most (least_bound ps) in
      let is = taken long d (delay_fits long clock ps) refl e in
      subst Taking is.0
      (record { before = (rank_is clock horizon).less.0 h; lasts = lasts_by most (least_bound ps); within = within_by most (least_bound ps); fitting = is.1 })
  taking_below side.Equal d h e = cc
  taking_below side.Greater d h e = cc

  taking_by : (b : Bool) (d : Rational) → (if b then passing_below (rank clock horizon) clock horizon ps else NoBound) ≡ Took d → Taking d
  taking_by true d e = taking_below (rank clock horizon) d refl e
  taking_by false d e = cc

pub taking : (t : Task) (c : Configuration) (d : Rational) → passing t c ≡ Some (Took d) → Taking c.clock t.horizon (posts c) d
taking t c d e = taking_by c.clock t.horizon (posts c) (is_timed (posts c)) d (passing-quiet t c (Took d) e).what

pub delay_is_fit : DelayFits
delay_is_fit t c d e = (taking t c d e).fitting
