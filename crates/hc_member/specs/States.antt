-- The states in which members are.
use Rattle.std.specs.Prelude.{◌≡◌, ℕ, List, length, slice_get, Some}
use Rattle.hc_rational.specs.Words.{Rational}
use Rattle.hc_term.specs.declared.system.Process.{Process}
use Rattle.hc_term.specs.declared.model.ProcessState.{ProcessState}
use Rattle.hc_term.specs.Step.{opening_of}
use Rattle.hc_term.specs.Event.{Progress}
use Rattle.hc_code.specs.Stands.{Table, AllAgree}
use Rattle.hc_step.specs.Represents.{Represents, logs_of}
use Rattle.hc_step.specs.declared.stretch.Stretch.{Stretch}
use Rattle.hc_member.specs.declared.member.Member.{Member}

-- the member is process number p in this state, by some table of its code
pub record IsIn (p : ℕ) (clock : Rational) (m : Member) (q : ProcessState) : Type 0 where
  pub number : m.local.process ≡ p
  pub table : Table
  pub agrees : AllAgree table m.code.instrs table
  pub stands : Represents table clock m.local q

-- each member is in the state of its process
pub record AllIn (clock : Rational) (ms : List Member) (qs : List ProcessState) : Type 0 where
  pub counted : length ms ≡ length qs
  pub each : (p : ℕ) (m : Member) (q : ProcessState) → slice_get ms p ≡ Some m → slice_get qs p ≡ Some q → IsIn p clock m q

-- each process has its member, which is at its opening, at any clock
pub record AllOpen (ps : List Process) (ms : List Member) : Type 0 where
  pub counted : length ms ≡ length ps
  pub each : (n : ℕ) (m : Member) (p : Process) (clock : Rational) → slice_get ms n ≡ Some m → slice_get ps n ≡ Some p →
      IsIn n clock m (opening_of p)

-- the stretch took the silent steps that the definition has, and the member is in the state after them
pub record Progresses (p : ℕ) (clock : Rational) (s : Stretch) (new : Member) (g : Progress) : Type 0 where
  pub counted : s.steps ≡ length g.logs
  pub ended : s.end ≡ g.end
  pub logged : g.logs ≡ logs_of s
  pub is : IsIn p clock new g.next
