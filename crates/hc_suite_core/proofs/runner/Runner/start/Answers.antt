use Rattle.std.proofs.Common.{rules, arith, ◌≡◌, ◌<◌, ℕ, IsTrue, List, [], ◌∷◌, length, Some}
use Rattle.std.specs.Prelude.{slice_get}
use Rattle.hc_term.specs.declared.system.Process.{Process}
use Rattle.hc_term.specs.Rules.{is_process, keeps_rules}
use Rattle.hc_code.proofs.Growing.{first_of, second_of}
use Rattle.hc_step.specs.Usable.{is_usable_code}
use Rattle.hc_suite_core.proofs.runner.Runner.start.Goals as goal

-- the first process of a system keeps its rules
ruled : (ps : List Process) (channels : List (List ℕ)) (p : Process) → IsTrue (keeps_rules ps channels) → slice_get ps 0 ≡ Some p → IsTrue (is_process (length channels) p)
ruled [] channels p k e = cc
ruled (q ∷ ps) channels p k e = search (rules, first_of, second_of)

-- so its code can be run
usable : (c : goal.After-zero) → IsTrue (is_usable_code c.len-variables.result c.in_ok-code.code.instrs) × (0 < length c.in_ok-code.code.instrs)
usable c =
    let system = c.args.system.now in
    let process = c.in-Some.process.now in
    let compiled = c.in_ok-code.ensures {u = tt} in
    let first : slice_get system.processes 0 ≡ Some process = search (rules) in
    c.code_laws.ensures.usable (length system.channels) c.len-variables.result process c.in_ok-code.code.instrs
    (ruled system.processes system.channels process system.kept first) compiled.stands compiled.kept (omega arith)

-- and the local is at its first place
pub invariant_of-result : goal.invariant_of-result
invariant_of-result c =
    let fresh = (c.in_ok-local.ensures {u = tt}).fresh in
    record { usable = rw fresh.same_count (usable c).0; within = rw fresh.at_start (usable c).1 }
