-- What private code is proved to do.
use Rattle.std.specs.Prelude.{◌≡◌, ◌<◌, ◌≤◌, ◌+◌, ◌*◌, ◌^◌, ℕ, Bool, List, ◌++◌, length, map, Option, Some, IsTrue}
use Rattle.std.specs.List.{list_all}
use Rattle.hc_rational.specs.Words.{Rational}
use Rattle.hc_term.specs.declared.stmt.Stmt.{Stmt}
use Rattle.hc_term.specs.declared.model.ProcessState.{ProcessState}
use Rattle.hc_term.specs.Rules.{is_stmt}
use Rattle.hc_term.specs.Event.{Progress, progress}
use Rattle.hc_code.specs.declared.code.Instr.{Instr}
use Rattle.hc_code.specs.Kept.{KeepsRules}
use Rattle.hc_code.specs.Stands.{Table, AllAgree}
use Rattle.hc_cast.specs.declared.stmt.CStmt.{CStmt}
use Rattle.hc_cast.specs.declared.program.CProgram.{CProgram}
use Rattle.hc_schedule.specs.Solo.{alone}
use Rattle.hc_cmach.specs.State.{Word, Frame}
use Rattle.hc_cmach.specs.Line.{Line}
use Rattle.hc_cmach.specs.Turn.{c_code}
use Rattle.hc_cstep.specs.Locals.{Mine, Base}
use Rattle.hc_cstep.specs.Stands.{StandsFor}
use Rattle.hc_cstep.specs.Parts.{Parts}
use Rattle.hc_cstep.specs.Premises.{PartsWork, is_made, in_range, HasAll, most_blocks, case_steps}
use Rattle.hc_cstep.specs.Written.{private_code}
use Rattle.hc_cstep.specs.Law.{end_number, LogIs, cost, PrivateLaw}
use Rattle.hc_cstep.specs.Alone.{outside, own_of}
use Rattle.hc_cstep.specs.Size.{total, sizes, parts_size}

-- From locals that stand for a configuration, private code comes to locals that stand for the configuration after as many silent steps as it
-- counted, and says why there were no more; it is the same as `progress`, and nothing but the thread's own row and locals changes.
abbrev pub PrivateCodeIsStretch : Type 0
PrivateCodeIsStretch =
    (g : CProgram) (p : ℕ) → p < 64 → (b : Base) (t : Table) (channels vars : ℕ) → vars ≤ 64 → (room : ℕ) (clock : Rational) (n late most seed : ℕ) (c : Parts) →
    PartsWork g p n late b vars room c → (code : List Instr) → AllAgree t code t → IsTrue (list_all (is_made c most channels vars) code) →
    PrivateLaw g p (case_steps most n late + 3) seed b t vars room clock (private_code c p seed code)

-- a thread outside any section, alone: as many private steps lead to locals that stand for the stretch
pub record StretchAlone (g : CProgram) (p n : ℕ) (scratch : List Word) (lines : List Line) (wakes : List ℕ) (t : Table) (vars room : ℕ) (clock : Rational) (ss : List CStmt) (m : Mine)
    (h : Progress) : Type 0 where
  pub then : Mine
  pub comes : (rest : List CStmt) (target : Option Word) (gives : Bool) (below : List Frame) → (k : ℕ) × (k ≤ n) ×
      (alone (c_code g) p k (own_of (outside scratch lines wakes) m (ss ++ rest) target gives below)
      ≡ Some (own_of (outside scratch lines wakes) then rest target gives below))
  pub stands : StandsFor t vars room clock then h.next
  pub counted : then.steps ≡ length h.logs
  pub ended : then.end ≡ end_number h.end
  pub logged : LogIs then h.end

abbrev pub PrivateCodeRunsAlone : Type 0
PrivateCodeRunsAlone =
    (g : CProgram) (p : ℕ) → p < 64 → (scratch : List Word) (lines : List Line) (wakes : List ℕ) (t : Table) (channels vars : ℕ) → vars ≤ 64 → (room : ℕ) (clock : Rational)
    (n late most seed : ℕ) (c : Parts) → PartsWork g p n late (outside scratch lines wakes) vars room c → (code : List Instr) → AllAgree t code t →
    IsTrue (list_all (is_made c most channels vars) code) → (m : Mine) (q : ProcessState) → StandsFor t vars room clock m q → m.most < 2 ^ 31 →
    StretchAlone g p (2 + cost (case_steps most n late + 3) m.most) scratch lines wakes t vars room clock (private_code c p seed code) m (progress m.most seed p clock q)

-- Where there is code for all of the profile, the flat code of a process that keeps the rules can be written, and is made of what there is code for.
abbrev pub RuledCodeIsMade : Type 0
RuledCodeIsMade =
    (c : Parts) (channels vars : ℕ) → vars ≤ 64 → HasAll c vars → (body : List Stmt) (code : List Instr) → KeepsRules body code →
    IsTrue (list_all (is_stmt channels vars) body) → IsTrue (list_all (is_made c most_blocks channels vars) code) × IsTrue (list_all in_range code)

-- Private code has no more statements than its parts and 31 for each place.
abbrev pub PrivateCodeIsShort : Type 0
PrivateCodeIsShort = (c : Parts) (p seed : ℕ) (code : List Instr) → sizes (private_code c p seed code) ≤ 5 + total (map (λ (i : Instr). parts_size c i + 31) code)

-- the blocks of a process in a system of size z: as many as an instruction may have, those of values linear in z, those of end moments quadratic
pub record AreSmall (z most n late : ℕ) : Type 0 where
  pub size : 20 ≤ z
  pub blocks : most ≤ 96
  pub values : n ≤ 8 * z
  pub ends : late ≤ 40 * (z * z)

-- A stretch with so many silent steps at most takes no more machine steps than a tenth of `1000 * z^2` for each, and one round and three more.
abbrev pub StretchesAreQuick : Type 0
StretchesAreQuick = (z most n late m : ℕ) → AreSmall z most n late → 2 + cost (case_steps most n late + 3) m ≤ (m + 1) * (100 * (z * z)) + 3
