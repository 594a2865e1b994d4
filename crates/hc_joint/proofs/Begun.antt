-- A scene at the opening of its task.
use Rattle.std.proofs.Common.{◌≡◌, refl, sym, ap, subst, ◌∙◌, ℕ, List, [], map, length, replicate, arith}
use Rattle.hc_rational.specs.Words.{zero_ℚ}
use Rattle.hc_term.specs.declared.system.Process.{Process}
use Rattle.hc_term.specs.declared.run.Item.{Item}
use Rattle.hc_term.specs.Offers.{going_post}
use Rattle.hc_term.specs.Step.{opening_of, opening, Leads}
use Rattle.hc_runs.proofs.Parts.{all_processes}
use Rattle.hc_member.specs.States.{AllIn, AllOpen}
use Rattle.hc_member.proofs.Shown.{all_going}
use Rattle.hc_member.proofs.Opened.{opened_in}
use Rattle.hc_joint.specs.declared.scene.Scene.{Scene}
use Rattle.hc_joint.specs.Stands.{IsAt}

pub is_at_opening : (s : Scene) (ps : List Process) (channels : ℕ) → ps ≡ s.task.system.processes → channels ≡ length s.task.system.channels →
    s.history.items ≡ [] → AllOpen ps s.members.items → s.board ≡ record { posts = replicate (length ps) going_post; channels = channels } →
    s.clock ≡ zero_ℚ → IsAt s (opening s.task)
is_at_opening s ps channels same count empty all board clock = record {
  leads = subst (λ (l : List Item). Leads s.task (opening s.task) l (opening s.task)) (sym empty) refl;
  within = omega (arith, ap length empty);
  members = subst (λ (l : List Process). AllIn zero_ℚ s.members.items (map opening_of l)) same (opened_in zero_ℚ ps s.members.items all);
  shown =
      ap (λ b. b.posts) board ∙ ap (λ (l : List Process). replicate (length l) going_post) same
      ∙ sym (all_going zero_ℚ (length s.task.system.channels) s.task.system.processes (all_processes s.task));
  channels = ap (λ b. b.channels) board ∙ count;
  clock = clock;
}
