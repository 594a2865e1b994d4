-- What holds of codes and locals.
use Rattle.std.specs.Prelude.{◌<◌, ◌≤◌, ℕ, List, length, IsTrue}
use Rattle.hc_term.specs.declared.system.Process.{Process}
use Rattle.hc_term.specs.Rules.{is_process}
use Rattle.hc_code.specs.declared.code.Instr.{Instr}
use Rattle.hc_code.specs.Stands.{Stands}
use Rattle.hc_code.specs.Kept.{KeepsRules}
use Rattle.hc_step.specs.Usable.{is_usable_code}

-- The code of a process that keeps the rules can be run with any number of variables from its own on, and begins at its
-- first instruction.
abbrev pub RuledCodesAreUsable : Type 0
RuledCodesAreUsable =
    (channels n : ℕ) (p : Process) (code : List Instr) → IsTrue (is_process channels p) → Stands code p.body → KeepsRules p.body code →
    length p.variables ≤ n → IsTrue (is_usable_code n code) × (0 < length code)
