use Rattle.std.proofs.Common.{◌++◌, ap, ◌∙◌}
use Rattle.std.proofs.lemmas.Result.{IfOk-weaker}
use Rattle.hc_cspell.specs.Units.{canonical}
use Rattle.hc_cwrite.proofs.ReadsBack.{text_is}
use Rattle.hc_cwrite.proofs.text.c_write.Goals as goal

pub returns-clause-reads_back : goal.returns-clause-reads_back
returns-clause-reads_back c =
    IfOk-weaker c.spell.result _ _
    (λ text e. text_is text.items c.args.program.now c.requires (e ∙ ap (λ z. z ++ canonical c.args.program.now) c.prelude.ensures))
    c.spell.ensures
