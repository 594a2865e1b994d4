use Rattle.hc_ccode.proofs.Making.{made}
use Rattle.hc_ccode.proofs.program.prepare.Goals as goal

pub returns : goal.returns
returns c = made c.args.program.now c.emit_threads.new.code c.in_ok-functions.functions c.in_ok-threads.threads c.in_ok-threads.ensures
