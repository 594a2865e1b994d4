-- What is ready to be written, and how its writing ends.
use Rattle.std.specs.Prelude.{◌≡◌, ◌≤◌, ◌⊎◌, ℕ, false, List, take, drop, IsSome, Result, Ok, Err, MatchResult}
use Rattle.hc_limits.specs.Limits.{most_source_bytes}
use Rattle.hc_ast.specs.declared.tree.Tree.{Tree}
use Rattle.hc_ast.specs.Source.{IsSource}
use Rattle.hc_modules.specs.declared.flat.Flat.{Flat}
use Rattle.hc_modules.specs.Refusals.{IsExpansion}
use Rattle.hc_check.specs.Checked.{IsChecked}
use Rattle.hc_term.specs.declared.system.System.{System}
use Rattle.hc_joint.specs.Keeps.{opened}
use Rattle.hc_trace.specs.declared.traces.Trace.{Trace}
use Rattle.hc_trace.specs.Splitting.{IsFirstHeader}
use Rattle.hc_trace.specs.Traces.{IsTraceText}
use Rattle.hc_world.specs.Counts.{Rose}
use Rattle.hc_world.specs.Reading.{ReadsAll, ReadsPast, ReadsWithin}
use Rattle.hc_world.specs.States.{SourceState, SinkState}
use Rattle.hc_world.specs.Sinks.{IsWhole, IsCut}
use Rattle.hc_cast.specs.declared.program.CProgram.{CProgram}
use Rattle.hc_cgrammar.specs.Text.{IsCText}
use Rattle.hc_cmach.specs.Machine.{opening}
use Rattle.hc_cexec.specs.Stands.{IsAt}
use Rattle.hc_cmd.specs.declared.ending.End.{End}
use Rattle.hc_cmd.specs.declared.ending.Text.{Text}
use Rattle.hc_cmd.specs.declared.ending.Told.{Told}
use Rattle.hc_cmd.specs.declared.ending.Told.TheVariants as told
use Rattle.hc_cmd.specs.declared.refusal.Refusal.{Refusal}
use Rattle.hc_cmd.specs.declared.refusal.Refusal.TheVariants.{Memory, TooLong, Unread}
use Rattle.hc_cmd.specs.declared.executing.Execution.{Execution}
use Rattle.hc_cmd.specs.declared.simulation.Simulation.{Simulation}
use Rattle.hc_cmd.specs.declared.prepared.Prepared.{Prepared}
use Rattle.hc_cmd.specs.declared.prepared.Prepared.TheVariants as is
use Rattle.hc_cmd.specs.Reply.{Reply}
use Rattle.hc_cmd.specs.Calls.{Call, Replies}
use Rattle.hc_cmd.specs.Running as running
use Rattle.hc_cmd.specs.Refusals.{refused}
use Rattle.hc_cmd.specs.Traced.{OfTraced}
use Rattle.hc_cmd.specs.Sources.{OfText, OfSource, done}
use Rattle.hc_cmd.specs.Executed.{OfC, executed}
use Rattle.hc_cmd.specs.Answers.{simulated}

-- it has done nothing yet
abbrev pub AtOpening : Simulation → Type 0
AtOpening s = s.joint ≡ opened s.joint.task

-- so for an execution: its machine stands at the opening of its program
abbrev pub IsOpened : Execution → Type 0
IsOpened e = IsAt e.program e.machine (opening e.program)

-- the text on error
abbrev pub bytes_of : Told → List ℕ
bytes_of (told.Line line) = line.bytes
bytes_of (told.Report bytes) = bytes.items

-- a text lets this stand
abbrev pub reply_in : Text → Reply
reply_in t = record { status = t.end.status; out = t.bytes.items; err = bytes_of t.end.told }

-- what is ready lets this stand
abbrev pub reply_to : Prepared → Reply
reply_to (is.Simulation s) = simulated s.joint.task
reply_to (is.Line line) = done line.bytes
reply_to (is.Text text) = reply_in text
reply_to (is.Run run) = running.told false run.joint run.report.items
reply_to (is.Execution e) = executed e.asked e.program

abbrev pub IsReady : Prepared → Type 0
IsReady (is.Simulation s) = AtOpening s
IsReady (is.Line line) = Unit {0}
IsReady (is.Text text) = Unit {0}
IsReady (is.Run run) = IsSome run.joint.stop
IsReady (is.Execution e) = IsOpened e

-- what is ready, or the refusal, lets this stand
abbrev pub reply_of : Result Prepared Refusal → Reply
reply_of (Ok p) = reply_to p
reply_of (Err r) = refused r

abbrev pub IsSettled : Result Prepared Refusal → Type 0
IsSettled (Ok p) = IsReady p
IsSettled (Err r) = Unit {0}

-- ---- what a text has

-- these are the processes and the system of an accepted text
pub record Accepts (text : List ℕ) (flat : Flat) (system : System) : Type 0 where
  pub tree : Tree
  pub source : IsSource text tree
  pub expanded : IsExpansion tree flat
  pub checked : IsChecked flat system

-- the tree of a text, or want of memory, or what is answered to a text without a tree
abbrev pub FindsTree : List ℕ → Result Tree Refusal → Type 0
FindsTree text result =
    MatchResult result (IsSource text) (λ r. (refused r ≡ refused Memory) ⊎ OfText (λ _ _. ⊥) text (refused r))

-- the processes and the system of a text, or want of memory, or what is answered to a text that isn't accepted
abbrev pub FindsSystem : List ℕ → Result (Flat × System) Refusal → Type 0
FindsSystem text result =
    MatchResult result (λ p. Accepts text p.0 p.1) (λ r. (refused r ≡ refused Memory) ⊎ OfSource (λ _ _ _. ⊥) text (refused r))

-- the text is cut there, and what is in front isn't longer than a source may be
abbrev pub IsCutAt : List ℕ → ℕ → Type 0
IsCutAt text place = IsFirstHeader text place × (place ≤ most_source_bytes)

-- the text is an accepted source with this system, and this trace behind it
pub record AcceptsTraced (text : List ℕ) (system : System) (trace : Trace) : Type 0 where
  pub place : ℕ
  pub cut_at : IsCutAt text place
  pub flat : Flat
  pub accepts : Accepts (take place text) flat system
  pub traced : IsTraceText (drop place text) trace

-- the system and the trace of a text, or want of memory, or what is answered to a text that hasn't both
abbrev pub FindsTraced : List ℕ → Result (System × Trace) Refusal → Type 0
FindsTraced text result =
    MatchResult result (λ p. AcceptsTraced text p.0 p.1) (λ r. (refused r ≡ refused Memory) ⊎ OfTraced (λ _ _ _. ⊥) text (refused r))

-- the program of a C text, or want of memory, or what is answered to a text that is none
abbrev pub FindsProgram : List ℕ → Result CProgram Refusal → Type 0
FindsProgram text result =
    MatchResult result (IsCText text) (λ r. (refused r ≡ refused Memory) ⊎ OfC (λ _ _. ⊥) text (refused r))

-- what is ready lets such a reply stand; or want of memory, or a refusal that is such a reply
abbrev pub Prepares : (Reply → Type 0) → Result Prepared Refusal → Type 0
Prepares Gives result =
    MatchResult result (λ p. IsReady p × Gives (reply_to p)) (λ r. (refused r ≡ refused Memory) ⊎ Gives (refused r))

-- ---- what the words and the source give

-- this is the text of a source
abbrev pub IsTextOf : {S : Type 0} → (S → SourceState) → S → S → List ℕ → Type 0
IsTextOf state before after text = ReadsAll (state before).left (state after).left text × ((state after).faults ≡ (state before).faults)

-- there is none within so many bytes, and this is why
abbrev pub GivesNone : {S : Type 0} → (S → SourceState) → ℕ → S → S → Refusal → Type 0
GivesNone state most before after Unread = ReadsWithin (state before).left (state after).left most × Rose (state before).faults (state after).faults
GivesNone state most before after (TooLong n) =
    ReadsPast (state before).left (state after).left most × ((state after).faults ≡ (state before).faults) × (n ≡ most)
GivesNone state most before after Memory = (state after).faults ≡ (state before).faults
GivesNone state most before after _ = ⊥

-- what is ready lets stand, or the refusal is, a reply that the words and the source give
abbrev pub Readies : {R S : Type 0} → Call R → (S → SourceState) → List (List ℕ) → S → S → Result Prepared Refusal → Type 0
Readies call state words before after result = IsSettled result × Replies call state words before after (reply_of result)

-- ---- how the writing ends

-- at the end its text stands whole, and the status and the text on error are known; at a fault a first part of it stands
abbrev pub Performs : {O E : Type 0} → (O → SinkState) → O → O → Reply → Result End E → Type 0
Performs state before after reply (Ok end) =
    IsWhole state before after reply.out × (end.status ≡ reply.status) × (bytes_of end.told ≡ reply.err)
Performs state before after reply (Err e) = IsCut state before after reply.out
