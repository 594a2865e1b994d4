use Rattle.hc_modules.specs.Bindings.{same_word}
use Rattle.hc_check.proofs.Positions.{position-none}
use Rattle.hc_check.proofs.numbering.number.Goals as goal

pub returns-in-None : goal.returns-in-None
returns-in-None c =
    let none = position-none (same_word c.args.name.now) c.args.names.now.keys (cc) in
    cc (none, c.len.ensures.len)
