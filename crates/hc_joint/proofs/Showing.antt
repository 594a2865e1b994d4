-- Whether a process is able, and whether all have ended, stands in what all processes show.
use Rattle.std.proofs.Common.{◌≡◌, refl, ap, ◌∙◌, ℕ, zero, suc, Bool, if◌then◌else◌, List, [], ◌∷◌, map, slice_get}
use Rattle.std.specs.List.{list_all}
use Rattle.hc_rational.specs.Words.{Rational}
use Rattle.hc_term.specs.declared.post.Post.{Post}
use Rattle.hc_term.specs.declared.run.Stop.TheVariants.{Terminated, Deadlock}
use Rattle.hc_term.specs.declared.model.ProcessState.{ProcessState}
use Rattle.hc_term.specs.declared.model.Configuration.{Configuration}
use Rattle.hc_term.specs.Offers.{post}
use Rattle.hc_term.specs.Step.{posts}
use Rattle.hc_term.specs.Canonical.{ended_by}
use Rattle.hc_member.specs.Ended.{is_ended}
use Rattle.hc_member.proofs.Showing.{shows, ended_shown}
use Rattle.hc_joint.specs.Able.{shows_step_if, is_able}

pub able_shown : (clock : Rational) (p : ℕ) (qs : List ProcessState) → shows_step_if (slice_get (map (post clock) qs) p) ≡ is_able p qs
able_shown clock p [] = refl
able_shown clock zero (q ∷ qs) = shows clock q
able_shown clock (suc p) (q ∷ qs) = able_shown clock p qs

-- the stop where nothing waits for time
pub end_shown : (b : Bool) (c : Configuration) (ps : List Post) → b ≡ list_all (λ (p : Post). is_ended p.phase) ps → ps ≡ posts c →
    (if b then Terminated else Deadlock) ≡ ended_by c
end_shown b c ps is same =
    ap (λ (a : Bool). if a then Terminated else Deadlock)
    (is ∙ ap (λ (l : List Post). list_all (λ (p : Post). is_ended p.phase) l) same ∙ ended_shown c.clock c.processes)
