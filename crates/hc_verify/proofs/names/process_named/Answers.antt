use Rattle.hc_verify.proofs.Named.{process_is}
use Rattle.hc_verify.proofs.names.process_named.Goals as goal

pub returns : goal.returns
returns c = process_is c.args.system.now c.as_slice.result.now c.args.name.now c.find_process.result c.as_slice.ensures c.find_process.ensures
