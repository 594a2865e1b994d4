-- A walk at the opening of its task.
use Rattle.std.proofs.Common.{◌≡◌, sym, ap, subst, ◌∙◌, ℕ, List, map, length, replicate}
use Rattle.hc_rational.specs.Words.{zero_ℚ}
use Rattle.hc_term.specs.declared.system.Process.{Process}
use Rattle.hc_term.specs.declared.task.Task.{Task}
use Rattle.hc_term.specs.Offers.{going_post}
use Rattle.hc_term.specs.Step.{opening_of, opening}
use Rattle.hc_runs.proofs.Parts.{all_processes}
use Rattle.hc_member.specs.States.{AllIn, AllOpen}
use Rattle.hc_member.proofs.Shown.{all_going}
use Rattle.hc_member.proofs.Opened.{opened_in}
use Rattle.hc_verify.specs.declared.walk.Walk.{Walk}
use Rattle.hc_verify.specs.Stands.{IsAt}

pub is_at_opening : (t : Task) (w : Walk) (ps : List Process) (channels : ℕ) → ps ≡ t.system.processes →
    channels ≡ length t.system.channels → AllOpen ps w.members.items →
    w.board ≡ record { posts = replicate (length ps) going_post; channels = channels } → w.clock ≡ zero_ℚ →
    IsAt t.system w (opening t)
is_at_opening t w ps channels same count all board clock = record {
  members = subst (λ (l : List Process). AllIn zero_ℚ w.members.items (map opening_of l)) same (opened_in zero_ℚ ps w.members.items all);
  shown =
      ap (λ b. b.posts) board ∙ ap (λ (l : List Process). replicate (length l) going_post) same
      ∙ sym (all_going zero_ℚ (length t.system.channels) t.system.processes (all_processes t));
  channels = ap (λ b. b.channels) board ∙ count;
  clock = clock;
}
