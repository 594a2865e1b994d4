use Rattle.std.proofs.lemmas.Result.{IfOk-weaker}
use Rattle.hc_cwrite.proofs.ReadsBack.{unit_is}
use Rattle.hc_cwrite.proofs.text.write_unit.Goals as goal

pub returns-clause-reads_back : goal.returns-clause-reads_back
returns-clause-reads_back c =
    IfOk-weaker c.spell.result _ _ (λ text e. unit_is text.items c.args.program.now c.requires e) c.spell.ensures
