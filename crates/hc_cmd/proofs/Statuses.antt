-- The statuses of answers: those of what is done, and those of refusals, which leave nothing on output.
use Rattle.std.proofs.Common.{◌≡◌, ◌≢◌, ◌==◌, ℕ, Bool, true, false, if◌then◌else◌, List, [], ◌∷◌, take, drop, Result, Ok, Err, IsTrue, refl, sym, ap, subst, ◌∙◌}
use Rattle.std.specs.List.{list_any}
use Rattle.hc_ast.specs.declared.tree.Tree.{Tree}
use Rattle.hc_modules.specs.declared.flat.Flat.{Flat}
use Rattle.hc_modules.specs.declared.flat.ModuleStop.{ModuleStop}
use Rattle.hc_modules.specs.declared.flat.ModuleStop.TheVariants as expanding
use Rattle.hc_finds.specs.declared.stop.CheckStop.{CheckStop}
use Rattle.hc_finds.specs.declared.stop.CheckStop.TheVariants as check
use Rattle.hc_rational.specs.Words.{Rational}
use Rattle.hc_term.specs.declared.run.Item.{Item}
use Rattle.hc_term.specs.declared.run.Stop.{Stop}
use Rattle.hc_term.specs.declared.run.Stop.TheVariants.{Terminated, Deadlock, Horizon, Limit, Overflow}
use Rattle.hc_term.specs.declared.system.System.{System}
use Rattle.hc_term.specs.Canonical.{canonical}
use Rattle.hc_term.specs.TraceText.{whole}
use Rattle.hc_det.specs.Text.{channels_text}
use Rattle.hc_trace.specs.declared.traces.Trace.{Trace}
use Rattle.hc_verify.specs.declared.verdict.Verdict.{Verdict}
use Rattle.hc_verify.specs.declared.verdict.Verdict.TheVariants.{Yes, No}
use Rattle.hc_words.specs.declared.requests.Request.{Request}
use Rattle.hc_cast.specs.declared.program.CProgram.{CProgram}
use Rattle.hc_cmach.specs.declared.exec_end.ExecEnd.{ExecEnd}
use Rattle.hc_cmach.specs.declared.exec_end.ExecEnd.TheVariants.{Ended, UsedUp, Undefined}
use Rattle.hc_cmach.specs.Seeded.{performed}
use Rattle.hc_words.specs.declared.requests.Request.TheVariants.{Check, Print, Simulate, Channels, Convert, Verify, Make, Cexec}
use Rattle.hc_words.specs.declared.settings.Settings.{Settings}
use Rattle.hc_cmd.specs.Reply.{Reply}
use Rattle.hc_cmd.specs.Refusals.{status_of_module_stop, status_of_check_stop}
use Rattle.hc_cmd.specs.Sources.{OfText, no_source, source, OfTree, unexpanded, unchecked, accepted, OfSource}
use Rattle.hc_cmd.specs.Executed.{OfC, no_program, program, status_by}
use Rattle.hc_cgrammar.specs.declared.flaw.Refusal.TheVariants as why
use Rattle.hc_cmd.specs.Traced.{OfTrace, refused_at_line, traced, OfTraced, no_trace, long_source, cut, converted, judged}
use Rattle.hc_cmd.specs.Answers.{OfTask, Answers, status_at, telling}

-- what is done ends with one of these
abbrev pub is_done : ℕ → Bool
is_done status = list_any (λ k. k == status) (0 ∷ 10 ∷ 11 ∷ 12 ∷ 13 ∷ 14 ∷ 15 ∷ [])

-- a text is refused with one of these, or memory runs out
abbrev pub is_refusal : ℕ → Bool
is_refusal status = list_any (λ k. k == status) (1 ∷ 5 ∷ [])

-- the answer does what was asked for, or refuses the text and leaves nothing on output
pub data IsAnswer (reply : Reply) : Type 0 where
  does : IsTrue (is_done reply.status) → IsAnswer reply
  refuses : IsTrue (is_refusal reply.status) → reply.out ≡ [] → IsAnswer reply

-- no answer has another status
pub not_other : (reply : Reply) (k : ℕ) → is_done k ≡ false → is_refusal k ≡ false → IsAnswer reply → reply.status ≢ k
not_other reply k not_done not_refusal (does is) e = cc (sym is ∙ ap is_done e ∙ not_done)
not_other reply k not_done not_refusal (refuses is none) e = cc (sym is ∙ ap is_refusal e ∙ not_refusal)

-- a refusal leaves nothing on output
pub nothing_out : (reply : Reply) (k : ℕ) → is_done k ≡ false → IsAnswer reply → reply.status ≡ k → reply.out ≡ []
nothing_out reply k not_done (does is) e = absurd (cc (sym is ∙ ap is_done e ∙ not_done))
nothing_out reply k not_done (refuses is none) e = none

-- ---- refusals

unexpanded_status : (s : ModuleStop) → IsTrue (is_refusal (status_of_module_stop s))
unexpanded_status (expanding.RepeatedModule p) = refl
unexpanded_status (expanding.RepeatedParameter p) = refl
unexpanded_status (expanding.ParameterWritten p) = refl
unexpanded_status (expanding.TooManyProcesses p) = refl
unexpanded_status (expanding.RepeatedProcess p) = refl
unexpanded_status (expanding.UnknownModule p) = refl
unexpanded_status (expanding.WrongArgumentCount p) = refl
unexpanded_status (expanding.WrongArgumentKind p) = refl
unexpanded_status (expanding.TooManyStatements p) = refl
unexpanded_status (expanding.TooManyNodes p) = refl
unexpanded_status expanding.Memory = refl

unchecked_status : (s : CheckStop) → IsTrue (is_refusal (status_of_check_stop s))
unchecked_status (check.TooMany what p) = refl
unchecked_status (check.DivisorNotLiteral p) = refl
unchecked_status (check.ZeroDivisor p) = refl
unchecked_status (check.RepeatedRate p) = refl
unchecked_status (check.RateEvolves p) = refl
unchecked_status (check.NotAffine p) = refl
unchecked_status (check.RepeatedGuard p) = refl
unchecked_status (check.SelfChannel p) = refl
unchecked_status (check.TwoSenders p) = refl
unchecked_status (check.TwoReceivers p) = refl
unchecked_status check.Memory = refl

-- ---- answers

pub status_is_done : (s : Stop) → IsTrue (is_done (status_at s))
status_is_done Terminated = refl
status_is_done Deadlock = refl
status_is_done Horizon = refl
status_is_done Limit = refl
status_is_done (Overflow p) = refl

pub same_answer : (reply same : Reply) → reply ≡ same → IsAnswer same → IsAnswer reply
same_answer reply same e is = subst IsAnswer (sym e) is

text_answers : (G : Tree → Reply → Type 0) (text : List ℕ) (reply : Reply) → ((tree : Tree) → G tree reply → IsAnswer reply) →
    OfText G text reply → IsAnswer reply
text_answers G text reply given (no_source flaw place is e) = same_answer reply _ e (refuses refl refl)
text_answers G text reply given (source tree is g) = given tree g

tree_answers : (G : Flat → System → Reply → Type 0) (tree : Tree) (reply : Reply) → ((flat : Flat) (system : System) → G flat system reply → IsAnswer reply) →
    OfTree G tree reply → IsAnswer reply
tree_answers G tree reply given (unexpanded s is e) = same_answer reply _ e (refuses (unexpanded_status s) refl)
tree_answers G tree reply given (unchecked flat s from is e) = same_answer reply _ e (refuses (unchecked_status s) refl)
tree_answers G tree reply given (accepted flat system from is g) = given flat system g

-- a source, where what an accepted one gives is an answer
pub source_answers : (G : Flat → System → Reply → Type 0) (text : List ℕ) (reply : Reply) → ((flat : Flat) (system : System) → G flat system reply → IsAnswer reply) →
    OfSource G text reply → IsAnswer reply
source_answers G text reply given a = text_answers (OfTree G) text reply (λ tree. tree_answers G tree reply given) a

trace_answers : (G : Trace → Reply → Type 0) (bytes : List ℕ) (reply : Reply) → ((trace : Trace) → G trace reply → IsAnswer reply) →
    OfTrace G bytes reply → IsAnswer reply
trace_answers G bytes reply given (refused_at_line n is e) = same_answer reply _ e (refuses refl refl)
trace_answers G bytes reply given (traced trace is g) = given trace g

-- a source with a trace behind it, where what both give is an answer
traced_answers : (G : System → Trace → Reply → Type 0) (text : List ℕ) (reply : Reply) → ((system : System) (trace : Trace) → G system trace reply → IsAnswer reply) →
    OfTraced G text reply → IsAnswer reply
traced_answers G text reply given (no_trace none e) = same_answer reply _ e (refuses refl refl)
traced_answers G text reply given (long_source place at long e) = same_answer reply _ e (refuses refl refl)
traced_answers G text reply given (cut place at short a) =
    source_answers _ (take place text) reply (λ flat system h. trace_answers (G system) (drop place text) reply (given system) h) a

converted_answers : (new : Result (List ℕ) ℕ) → IsAnswer (converted new)
converted_answers (Ok text) = does refl
converted_answers (Err line) = refuses refl refl

judged_answers : (lines : ℕ) (verdict : Verdict) → IsAnswer (judged lines verdict)
judged_answers lines (Yes steps) = does refl
judged_answers lines (No line) = does refl

task_answers : (text : System → List Item → Rational → Stop → List ℕ) (settings : Settings) (system : System) (reply : Reply) →
    OfTask (telling text) settings system reply → IsAnswer reply
task_answers text settings system reply s = same_answer reply _ s.stands (does (status_is_done (canonical s.task).stop))

kind_is_done : (deadlock limit overflow : Bool) →
    IsTrue (is_done (if deadlock then 10 else (if limit then 12 else (if overflow then 11 else 0))))
kind_is_done true limit overflow = refl
kind_is_done false true overflow = refl
kind_is_done false false true = refl
kind_is_done false false false = refl

end_is_done : (end : ExecEnd) → IsTrue (is_done (status_by end))
end_is_done (Ended kind) = kind_is_done (kind == 1) (kind == 3) (kind == 4)
end_is_done UsedUp = refl
end_is_done (Undefined kind step) = refl

program_answers : (G : CProgram → Reply → Type 0) (text : List ℕ) (reply : Reply) → ((g : CProgram) → G g reply → IsAnswer reply) →
    OfC G text reply → IsAnswer reply
program_answers G text reply given (no_program why.Prelude is e) = same_answer reply _ e (refuses refl refl)
program_answers G text reply given (no_program (why.Unit flaw place) is e) = same_answer reply _ e (refuses refl refl)
program_answers G text reply given (program g is h) = given g h

pub is_answer : (request : Request) (text : List ℕ) (reply : Reply) → Answers request text reply → IsAnswer reply
is_answer Check text reply a = source_answers _ text reply (λ flat system e. same_answer reply _ e (does refl)) a
is_answer Print text reply a = text_answers _ text reply (λ tree e. same_answer reply _ e (does refl)) a
is_answer (Simulate settings) text reply a = source_answers _ text reply (λ flat system s. task_answers whole settings system reply s) a
is_answer (Channels settings) text reply a = source_answers _ text reply (λ flat system s. task_answers channels_text settings system reply s) a
is_answer Convert text reply a = traced_answers _ text reply (λ system trace e. same_answer reply _ e (converted_answers _)) a
is_answer (Verify settings) text reply a = traced_answers _ text reply (λ system trace j. same_answer reply _ j.stands (judged_answers _ j.verdict)) a
is_answer (Make made) text reply a = source_answers _ _ reply (λ flat system s. same_answer reply _ s.stands (does refl)) a
is_answer (Cexec asked) text reply a = program_answers _ text reply (λ g e. same_answer reply _ e (does (end_is_done (performed g asked.seed asked.steps).end))) a
