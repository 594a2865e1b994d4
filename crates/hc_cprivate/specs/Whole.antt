-- The private code of a thread with all its parts: values, tests, lines and end moments.
use Rattle.std.specs.Prelude.{◌≡◌, ◌<◌, ◌≤◌, ℕ, ◌+◌, ◌*◌, ◌&&◌, nat_le, List, IsTrue}
use Rattle.std.specs.List.{list_all}
use Rattle.hc_limits.specs.Limits.{most_nodes}
use Rattle.hc_rational.specs.Words.{Rational}
use Rattle.hc_term.specs.declared.stmt.Stmt.{Stmt}
use Rattle.hc_term.specs.Profile.{nodes, nodes_in, reach, reach_in, pattern_of}
use Rattle.hc_term.specs.Rules.{is_stmt}
use Rattle.hc_code.specs.declared.code.Instr.{Instr}
use Rattle.hc_code.specs.Kept.{KeepsRules}
use Rattle.hc_code.specs.Stands.{Table, AllAgree}
use Rattle.hc_cast.specs.declared.program.CProgram.{CProgram}
use Rattle.hc_cmach.specs.State.{Word}
use Rattle.hc_cstep.specs.Locals.{Base}
use Rattle.hc_cstep.specs.Stands.{first_scratch}
use Rattle.hc_cstep.specs.Parts.{Parts}
use Rattle.hc_cstep.specs.Premises.{has_code, case_steps}
use Rattle.hc_cstep.specs.Written.{private_code}
use Rattle.hc_cstep.specs.Law.{PrivateLaw, cost}
use Rattle.hc_cvalue.specs.Values.{value_code}
use Rattle.hc_cvalue.specs.Truths.{test_code}
use Rattle.hc_cvalue.specs.Lines.{line_code}
use Rattle.hc_cvalue.specs.Laws.{steps_for}
use Rattle.hc_cend.specs.Searching.{search_names}
use Rattle.hc_cend.specs.Law.{ends, enough_for}

-- for expressions and conditions of at most k nodes, in a process of so many variables; those that move have registers for 64 variables
abbrev pub parts : ℕ → ℕ → ℕ → Parts
parts p vars k = record {
  is_value = λ e. nat_le (nodes e) k;
  is_test = λ c. nat_le (nodes_in c) k;
  is_line = λ e. nat_le (nodes e) k && nat_le (reach e) 64;
  is_end = λ c. nat_le (nodes_in c) k && nat_le (reach_in c) 64;
  value = λ e. value_code p first_scratch e;
  test = λ c. test_code p first_scratch c;
  line = λ rates e. line_code p (pattern_of vars rates) first_scratch e;
  ends = λ rates c. ends p (pattern_of vars rates) c;
}

-- rates and branches of one instruction, of a process that keeps the rules
abbrev pub most_blocks : ℕ
most_blocks = 96

-- The private code of a process that keeps the rules takes exactly the silent steps of a stretch. Its expressions and conditions have at most k nodes.
abbrev pub PrivateCodeStands : Type 0
PrivateCodeStands =
    (g : CProgram) (p : ℕ) → p < 64 → (b : Base) (more : List Word) → b.scratch ≡ search_names more → (t : Table) (channels vars : ℕ) → vars ≤ 64 →
    (room : ℕ) → 8 ≤ room → (clock : Rational) (seed k : ℕ) (body : List Stmt) (code : List Instr) → AllAgree t code t → KeepsRules body code →
    IsTrue (list_all (is_stmt channels vars) body) → IsTrue (list_all (has_code (parts p vars k)) code) →
    PrivateLaw g p (case_steps most_blocks (steps_for k) (enough_for k) + 3) seed b t vars room clock (private_code (parts p vars k) p seed code)

-- The limit of nodes is such a k.
abbrev pub LimitIsEnough : Type 0
LimitIsEnough =
    (p channels vars : ℕ) → vars ≤ 64 → (body : List Stmt) (code : List Instr) → KeepsRules body code → IsTrue (list_all (is_stmt channels vars) body) →
    IsTrue (list_all (has_code (parts p vars most_nodes)) code)

-- A stretch of m silent steps takes at most so many machine steps, where z is a bound of the nodes of each expression and condition, and of 20.
abbrev pub PartsAreQuick : Type 0
PartsAreQuick =
    (k z m : ℕ) → k ≤ z → 20 ≤ z → 2 + cost (case_steps most_blocks (steps_for k) (enough_for k) + 3) m ≤ (m + 1) * (100 * (z * z)) + 3
