-- The call `answer_run` is well made; and what a run tells is a behaviour of its task, with the numbers of its turns.
use Rattle.std.proofs.Common.{◌≡◌, ℕ, Bool, true, false, Option, Some, None, refl, sym, ap, ap₂, subst, ◌∙◌}
use Rattle.std.specs.Prelude.{IsSome, IsTrue}
use Rattle.hc_rational.specs.Words.{Rational}
use Rattle.hc_term.specs.declared.model.Configuration.{Configuration}
use Rattle.hc_term.specs.declared.run.Stop.{Stop}
use Rattle.hc_term.specs.declared.system.System.{System}
use Rattle.hc_term.specs.declared.task.Task.{Task}
use Rattle.hc_term.specs.Canonical.{canonical}
use Rattle.hc_term.specs.Given.{HasParts}
use Rattle.hc_term.specs.Laws.{CanonicalIsBehaviour}
use Rattle.hc_term.specs.Stop.{IsBehaviour}
use Rattle.hc_runs.specs.Turns.{Turns}
use Rattle.hc_order.specs.Determinate.{is_determinate}
use Rattle.hc_order.specs.Laws.{IsSettled}
use Rattle.hc_joint.specs.Seen.{Seen}
use Rattle.hc_sim.specs.Told as trace
use Rattle.hc_det.specs.Laws.{OneChannelsText}
use Rattle.hc_det.specs.Text.{channels_text}
use Rattle.hc_det.specs.Text as channels
use Rattle.hc_words.specs.declared.settings.RunRequest.{RunRequest}
use Rattle.hc_words.proofs.OneRequest.{one_run}
use Rattle.hc_cmd.specs.Reply.{Reply}
use Rattle.hc_cmd.specs.Answers.{OfTask, listed, status_at}
use Rattle.hc_cmd.specs.Running.{running, Runs, status_by, text_for}
use Rattle.hc_cmd.specs.Laws.{RunsBehaviour, text_asked}
use Rattle.hc_cmd.proofs.Calling.{IsWell}
use Rattle.hc_cmd.proofs.OneReply.{one_task}
use Rattle.hc_cmd.proofs.Statuses.{IsAnswer, is_done, does, same_answer, source_answers, status_is_done}

-- a stop that stands
stop_there : (o : Option Stop) → IsSome o → (stop : Stop) × (o ≡ Some stop)
stop_there None h = cc h
stop_there (Some stop) h = (stop, refl)

-- ---- answers

status_done : (o : Option Stop) → IsSome o → IsTrue (is_done (status_by o))
status_done None h = cc h
status_done (Some stop) h = status_is_done stop

run_answers : (asked : RunRequest) (system : System) (reply : Reply) → Runs asked system reply → IsAnswer reply
run_answers asked system reply r = same_answer reply _ r.stands (does (status_done r.joint.stop r.outcome.stopped))

pub run_is_well : IsWell running
run_is_well = record {
  one = one_run;
  answer = λ asked text reply a. source_answers (λ flat. Runs asked) text reply (λ flat system r. run_answers asked system reply r) a;
}

-- ---- what a run tells

-- the text of a joint at its stop
text_there : (asked : Bool) (joint : Seen) (stop : Stop) → joint.stop ≡ Some stop →
    text_for asked joint ≡ text_asked asked joint.task.system joint.history joint.clock stop
text_there false joint stop e = ap (λ (o : Option Stop). trace.text_at o joint) e
text_there true joint stop e = ap (λ (o : Option Stop). channels.text_at o joint) e

pub run_tells : (asked : RunRequest) (system : System) (reply : Reply) → Runs asked system reply →
    (task : Task) × HasParts system asked.settings.seed asked.settings.horizon asked.settings.limit task × RunsBehaviour asked task reply
run_tells asked system reply r =
    let joint : Seen = r.joint in
    let out = r.outcome in
    let stands = stop_there joint.stop out.stopped in
    let stop : Stop = stands.0 in
    let end : Configuration = out.keeps.reached in
    let behaves : IsBehaviour r.task joint.history end stop =
    subst (λ (t : Task). IsBehaviour t joint.history end stop) out.task_is (out.keeps.stops stop stands.1) in
    let turned : Turns r.task joint.turns joint.history end (Some stop) =
    subst (λ (o : Option Stop). Turns r.task joint.turns joint.history end o) stands.1
    (subst (λ (t : Task). Turns t joint.turns joint.history end joint.stop) out.task_is out.keeps.turned) in
    let text : text_for asked.channels joint ≡ text_asked asked.channels r.task.system joint.history end.clock stop =
    text_there asked.channels joint stop stands.1
    ∙ ap₂ (λ (t : Task) (q : Rational). text_asked asked.channels t.system joint.history q stop) out.task_is out.keeps.is_reached.clock in (
      r.task,
      r.parts,
      record {
        items = joint.history;
        end = end;
        stop = stop;
        behaviour = behaves;
        out = ap (λ (x : Reply). x.out) r.stands ∙ text;
        status = ap (λ (x : Reply). x.status) r.stands ∙ ap status_by stands.1;
        recomputed = joint.recomputed;
        turns = r.turns;
        own = r.own;
        workers = out.workers_are;
        events = subst (λ (n : ℕ). Turns r.task n joint.history end (Some stop)) (sym out.adds_up) turned;
        err = ap (λ (x : Reply). x.err) r.stands;
      },
    )

-- what a run of a determinate system hands over is what the canonical run hands over
pub run_lists : CanonicalIsBehaviour → OneChannelsText → (asked : RunRequest) (system : System) (task : Task) (reply other : Reply) →
    is_determinate system ≡ true → HasParts system asked.settings.seed asked.settings.horizon asked.settings.limit task →
    IsSettled (canonical task).stop → asked.channels ≡ true → Runs asked system reply → OfTask listed asked.settings system other →
    (reply.out ≡ other.out) × (reply.status ≡ other.status)
run_lists canonical_is one asked system task reply other single parts settled channels r s =
    let told = run_tells asked system reply r in
    let set = asked.settings in
    let run : RunsBehaviour asked task reply =
    subst (λ (t : Task). RunsBehaviour asked t reply) (one_task system set.seed set.horizon set.limit told.0 task told.1 parts) told.2 in
    let stands : other ≡ listed task = s.stands ∙ ap listed (one_task system set.seed set.horizon set.limit s.task task s.parts parts) in
    let same = one task (canonical task).items run.items (canonical task).end run.end (canonical task).stop run.stop
    (ap is_determinate parts.same_system ∙ single) (canonical_is task) settled run.behaviour in
    let text : reply.out ≡ channels_text task.system run.items run.end.clock run.stop =
    subst (λ (b : Bool). reply.out ≡ text_asked b task.system run.items run.end.clock run.stop) channels run.out in (
      text ∙ sym same.1 ∙ sym (ap (λ (x : Reply). x.out) stands),
      run.status ∙ ap status_at (sym same.0) ∙ sym (ap (λ (x : Reply). x.status) stands),
    )
