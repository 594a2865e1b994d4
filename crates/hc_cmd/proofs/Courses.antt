-- The runs of `make` and `channels`: the horizon of a made source, and that a joint that is finished from its opening has the canonical run.
use Rattle.std.proofs.Common.{◌≡◌, ◌-◌, ◌∙◌, ℕ, true, List, [], Option, None, refl, ap, ap₂, subst, arith}
use Rattle.std.specs.Prelude.{pos, IsTrue}
use Rattle.hc_rational.specs.Gcd.{gcd}
use Rattle.hc_rational.specs.Rational.{whole, quotient, ratio}
use Rattle.hc_rational.specs.Words.{Rational, IsFrac, is_positive}
use Rattle.hc_term.specs.declared.run.Item.{Item}
use Rattle.hc_term.specs.declared.run.Stop.{Stop}
use Rattle.hc_term.specs.declared.system.System.{System}
use Rattle.hc_term.specs.declared.task.Task.{Task}
use Rattle.hc_term.specs.Step.{opening}
use Rattle.hc_term.specs.Canonical.{canonical, course}
use Rattle.hc_det.specs.Text.{channels_text, text_at}
use Rattle.hc_joint.specs.Seen.{Seen}
use Rattle.hc_joint.specs.Keeps.{opened, HasCourse, IsFinished}
use Rattle.hc_cmd.specs.Reply.{Reply}
use Rattle.hc_cmd.specs.Answers.{listed, status_at}
use Rattle.hc_cmd.specs.Running.{status_by, told}

pub horizon_value : ratio (pos 30000) (pos 1) ≡ whole (pos 30000)
unfolding ratio quotient whole gcd
horizon_value = refl

pub horizon_fits : IsFrac (ratio (pos 30000) (pos 1))
unfolding ratio quotient whole gcd
horizon_fits = refl

pub horizon_positive : IsTrue (is_positive (whole (pos 30000)))
unfolding whole
horizon_positive = refl

finished_opened : (t : Task) (new : Seen) → IsFinished None (opened t) new → HasCourse new (canonical t)
finished_opened t new h =
    let all : t.limit - 0 ≡ t.limit = omega arith in
    subst (λ (n : ℕ). HasCourse new (course n t (opening t))) all (h (opening t) (record { leads = refl; clock = refl }))

pub finished_course : (t : Task) (old new : Seen) → old ≡ opened t → IsFinished old.stop old new → HasCourse new (canonical t)
finished_course t old new is h = finished_opened t new (subst (λ (s : Seen). IsFinished s.stop s new) is h)

-- a joint with the canonical run hands over what that run does
pub course_listed : (t : Task) (s : Seen) → s.task ≡ t → HasCourse s (canonical t) → told true s [] ≡ listed t
course_listed t s is has =
    let run = canonical t in
    let reply : System → List Item → Rational → Reply =
    λ sys items at. record { status = status_at run.stop; out = channels_text sys items at run.stop; err = [] } in
    ap (λ (o : Option Stop). record { status = status_by o; out = text_at o s; err = [] }) has.stop
    ∙ ap (λ (u : Task). reply u.system s.history s.clock) is
    ∙ ap₂ (reply t.system) has.items has.clock
