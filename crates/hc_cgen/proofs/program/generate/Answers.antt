-- The program, out of its parts.
use Rattle.hc_cgen.proofs.Generating.{program_for, generated_by}
use Rattle.hc_cgen.proofs.program.generate.Goals as goal

pub returns-clause-made : goal.returns-clause-made
returns-clause-made c =
    program_for c.args.task.now c.as_slice-processes.result.now c.as_slice-channels.result.now c.in_ok-arrays.arrays c.in_ok-channels.channels
    c.in_ok-processes.processes c.in_ok-functions.functions c.in_ok-section_tree.field-0 c.append.new.self c.in_ok-threads.threads
    c.as_slice-processes.ensures c.as_slice-channels.ensures c.in_ok-threads.ensures c.in_ok-arrays.ensures c.in_ok-functions.ensures
    c.in_ok-section_tree.ensures c.in_ok-append.ensures c.in_ok-channels.ensures c.in_ok-processes.ensures

pub returns-clause-generated : goal.returns-clause-generated
returns-clause-generated c = generated_by c.args.task.now _ (returns-clause-made c) c.read_numbers.ensures
