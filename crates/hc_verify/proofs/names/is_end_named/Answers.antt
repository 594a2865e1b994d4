use Rattle.hc_verify.proofs.Named.{end_is}
use Rattle.hc_verify.proofs.names.is_end_named.Goals as goal

pub returns-in-Some : goal.returns-in-Some
returns-in-Some c =
    end_is c.args.system.now c.process_named.result c.args.end c.args.name.now _ c.is_both.result c.in-Some.is c.process_named.ensures c.is_both.ensures
