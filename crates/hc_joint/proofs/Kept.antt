-- What a joint keeps, from what its parts stand for.
use Rattle.std.proofs.Common.{◌≡◌, sym, ap, subst, ◌∙◌, ℕ, List, slice_get, Option}
use Rattle.hc_term.specs.declared.post.Post.{Post}
use Rattle.hc_term.specs.declared.run.Stop.{Stop}
use Rattle.hc_term.specs.declared.model.Configuration.{Configuration}
use Rattle.hc_runs.specs.Turns.{Turns}
use Rattle.hc_runs.proofs.Turning.{turns_stop, turns_go_on}
use Rattle.hc_joint.specs.declared.scene.Scene.{Scene}
use Rattle.hc_joint.specs.Able.{is_able, shows_step_if}
use Rattle.hc_joint.specs.Keeps.{IsMade, IsReached, Keeps, seen}
use Rattle.hc_joint.proofs.Once.{reached_once}
use Rattle.hc_joint.proofs.Showing.{able_shown}

module _ (s : Scene) (stop : Option Stop) (turns recomputed : ℕ) (m : IsMade s stop turns recomputed) where
  pub made_keeps : Keeps (seen s.task s.clock s.history.items stop turns recomputed)
  made_keeps = record {
    reached = m.reached;
    is_reached = record { leads = m.at.leads; clock = m.at.clock };
    only = λ c run. reached_once s.task s.history.items c m.reached run m.at.leads;
    is_run = record { leads = m.at.leads; within = m.at.within };
    turned = m.turned;
    compared = m.compared;
    stops = λ set e.
        turns_stop s.task turns s.history.items m.reached set
        (subst (λ (o : Option Stop). Turns s.task turns s.history.items m.reached o) e m.turned);
    goes_on = λ e.
        turns_go_on s.task turns s.history.items m.reached
        (subst (λ (o : Option Stop). Turns s.task turns s.history.items m.reached o) e m.turned);
  }

  pub able_seen : (p : ℕ) (c : Configuration) → IsReached (seen s.task s.clock s.history.items stop turns recomputed) c →
      shows_step_if (slice_get s.board.posts p) ≡ is_able p c.processes
  able_seen p c is =
      ap (λ (ps : List Post). shows_step_if (slice_get ps p)) m.at.shown
      ∙ able_shown m.reached.clock p m.reached.processes
      ∙ ap (λ (x : Configuration). is_able p x.processes) (sym (reached_once s.task s.history.items c m.reached is.leads m.at.leads))
