use Rattle.std.proofs.Common.{ap, sym, ◌∙◌, map}
use Rattle.hc_modules.specs.declared.flat.ModuleStop.TheVariants as stop
use Rattle.hc_modules.specs.Finds.{processes_too_many, repeated_processes}
use Rattle.hc_modules.specs.Found.{first_of, told}
use Rattle.hc_modules.proofs.Stopped.{tells_itself}
use Rattle.hc_modules.proofs.Firsts.{first_on, first_after, first_found, none_after, none_found, none_said}
use Rattle.hc_modules.proofs.expanding.check_processes.Goals as goal

pub returns-in-Err-clause-stop : goal.returns-in-Err-clause-stop
returns-in-Err-clause-stop c =
    let ps = c.args.tree.now.processes in
    first_on told (map stop.TooManyProcesses (processes_too_many ps)) (map stop.RepeatedProcess (repeated_processes ps)) (stop.TooManyProcesses c.in-Err.place)
    (first_found told tells_itself stop.TooManyProcesses (processes_too_many ps) _
    (sym (c.no_process_too_many.ensures ∙ ap (λ qs. first_of (processes_too_many qs)) c.as_slice-processes.ensures) ∙ c.in-Err.is))

pub returns-in-Err-no_repeated_process-clause-stop : goal.returns-in-Err-no_repeated_process-clause-stop
returns-in-Err-no_repeated_process-clause-stop c =
    let ps = c.args.tree.now.processes in
    let few = none_found (processes_too_many ps) _
    (sym (c.no_process_too_many.ensures ∙ ap (λ qs. first_of (processes_too_many qs)) c.as_slice-processes.ensures) ∙ c.in_default.is) in
    first_after told (map stop.TooManyProcesses (processes_too_many ps)) (map stop.RepeatedProcess (repeated_processes ps)) (stop.RepeatedProcess c.in-Err-no_repeated_process.place)
    (none_said stop.TooManyProcesses (processes_too_many ps) few)
    (first_found told tells_itself stop.RepeatedProcess (repeated_processes ps) _
    (sym (c.no_repeated_process.ensures ∙ ap (λ qs. first_of (repeated_processes qs)) c.as_slice-processes.ensures) ∙ c.in-Err-no_repeated_process.is))

pub returns-clause-ok : goal.returns-clause-ok
returns-clause-ok c =
    let ps = c.args.tree.now.processes in
    let few = none_found (processes_too_many ps) _
    (sym (c.no_process_too_many.ensures ∙ ap (λ qs. first_of (processes_too_many qs)) c.as_slice-processes.ensures) ∙ c.in_default.is) in
    let once = none_found (repeated_processes ps) _
    (sym (c.no_repeated_process.ensures ∙ ap (λ qs. first_of (repeated_processes qs)) c.as_slice-processes.ensures) ∙ c.in_default-no_repeated_process.is) in
    none_after (map stop.TooManyProcesses (processes_too_many ps)) (map stop.RepeatedProcess (repeated_processes ps))
    (none_said stop.TooManyProcesses (processes_too_many ps) few) (none_said stop.RepeatedProcess (repeated_processes ps) once)
