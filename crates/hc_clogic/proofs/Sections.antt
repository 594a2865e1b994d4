-- From a run of statements to a section of a schedule, with its number of steps.
use Rattle.std.specs.Prelude.{◌≡◌, ◌⊎◌, ◌≤◌, ℕ, Bool, true, List, [], ◌++◌, ℤ, Option, Some, None}
use Rattle.std.proofs.Common.{sym, ap, ◌∙◌}
use Rattle.std.proofs.lemmas.Option.{same_Some}
use Rattle.hc_rational.specs.Words.{Rational}
use Rattle.hc_cast.specs.declared.stmt.CStmt.{CStmt}
use Rattle.hc_cast.specs.declared.program.CProgram.{CProgram}
use Rattle.hc_schedule.specs.Threads.{Act, Locks, Retakes, Does, Takes, answer}
use Rattle.hc_schedule.specs.Solo.{Solo, solos, begun, gives_up, RunsAlone}
use Rattle.hc_cmach.specs.State.{Word, Frame, Own, Shared}
use Rattle.hc_cmach.specs.Line.{Line}
use Rattle.hc_cmach.specs.Machine.{CState}
use Rattle.hc_cmach.specs.Turn.{c_code}
use Rattle.hc_clogic.specs.Runs.{Lone, View, at, aheads, Leads, Runs, inside}
use Rattle.hc_clogic.proofs.Runs.{solos_of}

-- ---- the thread in a section, and its view

abbrev solo_of : Lone → Option Shared → Option (Solo Own Shared Line)
solo_of x None = None
solo_of x (Some m) = Some (record { own = x.own; shared = m; lines = x.lines; wakes = x.wakes })

inside_same : (x y : Solo Own Shared Line) → inside x ≡ inside y → x ≡ y
inside_same x y e = same_Some x y (ap (λ (z : Lone). solo_of z z.shared) e)

-- a run inside a section, with its number of steps: what `SectionFrom` asks for
pub solos_few : (g : CProgram) (t n : ℕ) (x y : Solo Own Shared Line) → Leads g t n (inside x) (inside y) →
    (k : ℕ) × (k ≤ n) × (solos (c_code g) t k x ≡ Some y)
solos_few g t n x y h =
    let z = solos_of g t h.steps x (inside y) h.comes in
    (h.steps, h.few, z.2 ∙ ap (λ (s : Solo Own Shared Line). Some s) (sym (inside_same y z.0 z.1)))

-- a view of a thread that has just taken the mutex
abbrev pub entering : CState → List Rational → List Word → List ℤ → View
entering a row names values = record { row = row; shared = Some a.world.shared; names = names; values = values; lines = []; wakes = [] }

-- a view inside a section
abbrev pub held_view : Shared → List Rational → List Word → List ℤ → List Line → List ℕ → View
held_view m row names values lines wakes = record { row = row; shared = Some m; names = names; values = values; lines = lines; wakes = wakes }

-- what the thread has come to alone
abbrev pub come_alone : Shared → Lone → Solo Own Shared Line
come_alone m x = record { own = x.own; shared = m; lines = x.lines; wakes = x.wakes }

-- a thread takes the mutex in this state
abbrev pub TakesMutex : CProgram → CState → ℕ → Own → Type 0
TakesMutex g a t own = (answer (c_code g) a.world t ≡ Takes (Locks own)) ⊎ (answer (c_code g) a.world t ≡ Takes (Retakes own))

-- a section of k steps, n at most
abbrev pub SectionWithin : CProgram → CState → ℕ → ℕ → Own → Solo Own Shared Line → Act Own Shared Line → Type 0
SectionWithin g a t n own y act = (k : ℕ) × (k ≤ n) × RunsAlone (c_code g) a t k own y act

module _ (g : CProgram) (a : CState) (t : ℕ) (own : Own) (free : a.world.owner ≡ None) (takes : TakesMutex g a t own) where
  -- of so many steps
  pub section_by : (k : ℕ) (y : Solo Own Shared Line) (act : Act Own Shared Line) → aheads g t k (inside (begun a own)) ≡ Some (inside y) →
      (c_code g).turn t y.own (Some y.shared) ≡ Does act → gives_up act ≡ true → RunsAlone (c_code g) a t k own y act
  section_by k y act comes asks leaves =
      let z = solos_of g t k (begun a own) (inside y) comes in
      let same : z.0 ≡ y = sym (inside_same y z.0 z.1) in
      record {
        free = free;
        takes = takes;
        alone = z.2 ∙ ap (λ (s : Solo Own Shared Line). Some s) same;
        asks = asks;
        leaves = leaves;
      }

  pub section_of : (n : ℕ) (y : Solo Own Shared Line) (act : Act Own Shared Line) → Leads g t n (inside (begun a own)) (inside y) →
      (c_code g).turn t y.own (Some y.shared) ≡ Does act → gives_up act ≡ true → SectionWithin g a t n own y act
  section_of n y act h asks leaves = (h.steps, h.few, section_by h.steps y act h.comes asks leaves)

-- the same by the statements of the section: the mutex is taken in front of `ss`, and given up in front of `rest`
module _ (g : CProgram) (a : CState) (t : ℕ) (free : a.world.owner ≡ None) (target : Option Word) (gives : Bool) (below : List Frame) where
  pub section_runs :
      (n : ℕ) (ss rest : List CStmt) (row : List Rational) (names : List Word) (values : List ℤ) (m : Shared) (row' : List Rational) (values' : List ℤ)
      (lines : List Line) (wakes : List ℕ) (act : Act Own Shared Line) →
      TakesMutex g a t (at (entering a row names values) (ss ++ rest) target gives below).own →
      Runs g t n ss (entering a row names values) (held_view m row' names values' lines wakes) →
      (c_code g).turn t (at (held_view m row' names values' lines wakes) rest target gives below).own (Some m) ≡ Does act → gives_up act ≡ true →
      SectionWithin g a t n (at (entering a row names values) (ss ++ rest) target gives below).own
      (come_alone m (at (held_view m row' names values' lines wakes) rest target gives below)) act
  section_runs n ss rest row names values m row' values' lines wakes act takes h asks leaves =
      section_of g a t (at (entering a row names values) (ss ++ rest) target gives below).own free takes n
      (come_alone m (at (held_view m row' names values' lines wakes) rest target gives below)) act
      (h.by rest target gives below) asks leaves
