-- Two processes that take all their invisible steps, one after the other.
use Rattle.std.proofs.Common.{◌≡◌, ◌≢◌, sym, ◌∙◌, ℕ, ◌+◌, ◌-◌, ◌≤◌, ◌<◌, length, slice_get, Some, None, arith}
use Rattle.hc_term.specs.declared.task.Task.{Task}
use Rattle.hc_term.specs.declared.model.ProcessState.{ProcessState}
use Rattle.hc_term.specs.declared.model.Meeting.{Meeting}
use Rattle.hc_term.specs.declared.model.Configuration.{Configuration}
use Rattle.hc_term.specs.Step.{replaced}
use Rattle.hc_term.proofs.Places.{get-set_other}
use Rattle.hc_verify.specs.declared.walk.Walk.{Walk}
use Rattle.hc_verify.specs.Stands.{IsAt}
use Rattle.hc_verify.specs.Halting.{Halts}
use Rattle.hc_verify.specs.Communicating.{BothHalt}
use Rattle.hc_runs.proofs.Basics.{length-set}
use Rattle.hc_verify.proofs.Logging.{is_there}
use Rattle.hc_verify.proofs.Stilling.{longest, all_shown}

module _ (t : Task) (m : Meeting) (room : ℕ) (c : Configuration) (q r : ProcessState) where
  module _ (k : ℕ) (mid : Walk) (first : Halts t m.sender room c q mid (Some k)) where
    abbrev pub between : Configuration
    between = replaced c m.sender first.1.0

    pub still_there : m.sender ≢ m.receiver → slice_get c.processes m.receiver ≡ Some r → slice_get between.processes m.receiver ≡ Some r
    still_there differ there = get-set_other c.processes m.sender m.receiver first.1.0 differ ∙ there

    pub receiver_cannot : (new : Walk) → Halts t m.receiver (room - k) between r new None → BothHalt t m room c q r new None
    receiver_cannot new h n all le =
        let least = longest t c.clock m.sender k all.sending q first.1.0 all.sender first.1.1 all.sender_strolls all.sender_still in
        h all.receiving all.receiver all.receiver_strolls all.receiver_still (omega (arith, le, least, first.0, all.counted))

    pub both_halt : (n : ℕ) (new : Walk) → Halts t m.receiver (room - k) between r new (Some n) → BothHalt t m room c q r new (Some (k + n))
    both_halt n new h = (
      omega (arith, h.0, first.0),
      (
        record {
          sender = first.1.0;
          receiver = h.1.0;
          sending = k;
          receiving = n;
          counted = omega arith;
          sender_strolls = first.1.1;
          receiver_strolls = h.1.1;
          sender_still = first.1.2;
          receiver_still = h.1.2;
        },
        h.1.3,
      ),
    )

-- what the first of them did, for any configuration for which the walk stands
module _ (t : Task) (p room : ℕ) (w new : Walk) (k : ℕ)
    (halts : (c : Configuration) (q : ProcessState) → IsAt t.system w c → slice_get c.processes p ≡ Some q → Halts t p room c q new (Some k))
    (there : p < length w.members.items) (at : (c : Configuration) × IsAt t.system w c) where
  first_halts : Halts t p room at.0 (is_there at.0.processes p (omega (arith, there, at.1.members.counted))).0 new (Some k)
  first_halts =
      let q = is_there at.0.processes p (omega (arith, there, at.1.members.counted)) in
      halts at.0 q.0 at.1 q.1

  pub within_room : k ≤ room
  within_room = first_halts.0

  pub members_after : length new.members.items ≡ length w.members.items
  members_after =
      first_halts.1.3.members.counted ∙ length-set at.0.processes p first_halts.1.0 ∙ sym at.1.members.counted

  pub shown_after : length new.board.posts ≡ length new.members.items
  shown_after = all_shown t.system new (replaced at.0 p first_halts.1.0) first_halts.1.3

  -- so the walk stands for a configuration again
  pub at_after : (d : Configuration) × IsAt t.system new d
  at_after = (replaced at.0 p first_halts.1.0, first_halts.1.3)
