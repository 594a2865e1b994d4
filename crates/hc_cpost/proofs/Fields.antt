-- Posting and taking over in the very words in which the threads' promises ask for them.
use Rattle.std.proofs.Common.{◌≡◌, refl, sym, ap, ◌∙◌, ℕ, ◌<◌, Bool, true, false, nat_le, ◌&&◌, List, [], ◌∷◌, length, slice_get, IsTrue, ℤ, Option, Some, None}
use Rattle.std.specs.List.{list_all}
use Rattle.std.proofs.lemmas.Bool.{and_parts}
use Rattle.hc_limits.specs.Limits.{most_variables}
use Rattle.hc_rational.specs.Words.{Rational}
use Rattle.hc_term.specs.declared.system.Process.{Process}
use Rattle.hc_term.specs.declared.task.Task.{Task}
use Rattle.hc_term.specs.declared.post.Post.{Post}
use Rattle.hc_term.specs.declared.model.ProcessState.{ProcessState}
use Rattle.hc_term.specs.declared.model.Configuration.{Configuration}
use Rattle.hc_term.specs.Rules.{is_stmt, is_process}
use Rattle.hc_runs.specs.Fractions.{task_numbers}
use Rattle.hc_runs.proofs.Parts.{all_processes}
use Rattle.hc_code.specs.Stands as codes
use Rattle.hc_code.specs.Kept.{is_instr, KeepsRules}
use Rattle.hc_cast.specs.declared.program.CProgram.{CProgram}
use Rattle.hc_cmach.specs.State.{Shared}
use Rattle.hc_cthreads.specs.Bodies.{Pieces}
use Rattle.hc_cthreads.specs.Scenes.{Scene, calls, ends, IsScene, stretch}
use Rattle.hc_cthreads.specs.Pieces.{BodyWords, TakesOver, IsDone}
use Rattle.hc_cthreads.specs.Reports.{CoreWords, body_words, DoesPost}
use Rattle.hc_core_c.specs.Owner.{Has}
use Rattle.hc_csection.specs.Words.{Codes, thread_names, processes, channels, variables_by, variables, section_words}
use Rattle.hc_cpost.specs.Written.{post_code}
use Rattle.hc_cpost.specs.Taking.{take_code}
use Rattle.hc_cpost.proofs.Shared.{all_at}
use Rattle.hc_cpost.proofs.Does.{CodeIs, does_post}
use Rattle.hc_cpost.proofs.Takes as takes

-- `posts` of `ReportDoes`
abbrev pub Posts : CProgram → Codes → Task → ℕ → Pieces → Type 0
Posts g k t p b =
    let w = section_words k t in
    (c : Configuration) (ps : List Post) (n : ℕ) (q : ProcessState) (m : Shared) (row : List Rational) (values : List ℤ) → n < t.limit → w.stands c ps n m → w.set p m →
    slice_get c.processes p ≡ Some q → w.locked p c.clock (stretch t p c.clock q) row values →
    DoesPost g t w p b (post_code p (variables t p) (k.code p)) c ps n (stretch t p c.clock q) m row values

-- `takes`, `takes_end` and `takes_halted` of `PiecesDo`
pub record Takes (g : CProgram) (k : Codes) (t : Task) (p : ℕ) (b : Pieces) : Type 0 where
  pub takes : let w = body_words (section_words k t) in
      (s : Scene) (m : Shared) (q : ProcessState) (row : List Rational) (values : List ℤ) → IsScene t s → w.shows s m → calls s p ≡ true →
      slice_get s.at.processes p ≡ Some q → w.arrived p s m row values → TakesOver g t w p b m row values (w.head p s.at.clock q)
  pub takes_end : let w = body_words (section_words k t) in
      (s : Scene) (m : Shared) (row : List Rational) (values : List ℤ) → IsScene t s → w.shows s m → ends s p ≡ true → w.arrived p s m row values →
      TakesOver g t w p b m row values (IsDone g t w p b)
  pub takes_halted : let w = body_words (section_words k t) in
      (m : Shared) (row : List Rational) (values : List ℤ) → w.halted m → w.kept p row values → TakesOver g t w p b m row values (IsDone g t w p b)

module _ (g : CProgram) (k : Codes) (t : Task) (p : ℕ) (b : Pieces) (has : Has g (processes t) (channels t)) (there : p < processes t) (names : b.names ≡ thread_names k p) where
  -- of a task whose numbers are fractions
  pub posts : CodeIs k t p → IsTrue (task_numbers t) → Posts g k t p b
  posts code numbers c ps n q m row values less stands set at_q locked = does_post g k t p b has there names code numbers c ps n q m row values stands set at_q locked

  pub takes_all : b.take ≡ take_code p (variables t p) (k.code p) → Takes g k t p b
  takes_all is = record {
    takes = λ s m q row values scene shows called at_q arrived. takes.takes_called g k t p b has there names is s.at s.posts (length s.items) m shows q row values called at_q arrived;
    takes_end = λ s m row values scene shows over arrived. takes.takes_end g k t p b has there names is s.at s.posts (length s.items) m shows row values over arrived;
    takes_halted = λ m row values halted kept. takes.takes_halted g k t p b has there names is m row values halted kept;
  }

-- ---- the code of a checked task's process

-- a code that stands for the body of process p and keeps the rules is one that these ask for
pub code_is : (k : Codes) (t : Task) (p : ℕ) (x : Process) → slice_get t.system.processes p ≡ Some x → codes.StandsFor (k.code p) x.body (k.table p) → KeepsRules x.body (k.code p) → CodeIs k t p
code_is k t p x at stands keeps =
    let channels = length t.system.channels in
    let vars = length x.variables in
    let ruled = all_at (is_process channels) t.system.processes p x (all_processes t) at in
    let body = (and_parts (nat_le vars most_variables && nat_le 1 (length x.body)) (list_all (is_stmt channels vars) x.body) ruled).1 in
    let same : variables t p ≡ vars = ap variables_by at in
    record { agree = stands.agree; ruled = ap (λ (n : ℕ). list_all (is_instr channels n) (k.code p)) same ∙ keeps channels vars body }
