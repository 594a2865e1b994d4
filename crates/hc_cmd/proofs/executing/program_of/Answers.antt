use Rattle.hc_cmd.proofs.CTexts.{program_found}
use Rattle.hc_cmd.proofs.executing.program_of.Goals as goal

pub returns : goal.returns
returns c =
    program_found c.args.text.now c.c_read.result c.map_err.result c.c_read.ensures.value_is c.c_read.ensures.refusal_is c.map_err.ensures.cases
