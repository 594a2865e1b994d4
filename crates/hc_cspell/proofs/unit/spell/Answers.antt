use Rattle.std.proofs.Common.{◌++◌, [], ap, ◌∙◌}
use Rattle.hc_cspell.proofs.Chains.{behind_front, unit_of}
use Rattle.hc_cspell.specs.Tokens.{written}
use Rattle.hc_cspell.specs.Units.{unit}
use Rattle.hc_cspell.proofs.unit.spell.Goals as goal

pub returns : goal.returns
returns c =
    let all = unit_of c.args.program.now c.as_slice.result.now c.as_slice-2.result.now c.as_slice-3.result.now
    c.as_slice-4.result.now c.as_slice-5.result.now c.as_slice-6.result.now c.len.result c.as_slice.ensures c.as_slice-2.ensures
    c.as_slice-3.ensures c.as_slice-4.ensures c.as_slice-5.ensures c.as_slice-6.ensures c.len.ensures in
    behind_front c.write_main.new.out.bytes.items c.args.front.now c.in_ok-out.out.bytes.items (unit c.args.program.now)
    c.in_ok-out.ensures
    (c.in_ok-write_main.ensures [] ∙ c.in_ok-write_table.ensures _ ∙ c.in_ok-write_threads.ensures _
    ∙ c.in_ok-write_functions.ensures _ ∙ c.in_ok-write_processes.ensures _ ∙ c.in_ok-write_channels.ensures _
    ∙ c.in_ok-write_arrays.ensures _ ∙ ap (λ w. c.in_ok-out.out.bytes.items ++ written w) all)
