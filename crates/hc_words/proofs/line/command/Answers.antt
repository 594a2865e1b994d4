use Rattle.std.proofs.lemmas.Result.{IfOk-weaker}
use Rattle.hc_words.specs.Line.{hcsp}
use Rattle.hc_words.proofs.Command.{with_one}
use Rattle.hc_words.proofs.line.command.Goals as goal

pub returns : goal.returns
unfolding hcsp
returns c =
    let a0 = c.new.ensures.app in
    let a1 = with_one _ _ _ _ _ c.in_ok-arg.ensures c.word_arg.ensures.local a0 c.word_arg.ensures.rule in
    let a2 = with_one _ _ _ _ _ c.in_ok-arg-2.ensures c.word_arg-2.ensures.local a1 c.word_arg-2.ensures.rule in
    let a3 = with_one _ _ _ _ _ c.in_ok-arg-3.ensures c.option_arg.ensures.local a2 c.option_arg.ensures.rule in
    let a4 = with_one _ _ _ _ _ c.in_ok-arg-4.ensures c.option_arg-2.ensures.local a3 c.option_arg-2.ensures.rule in
    let a5 = with_one _ _ _ _ _ c.in_ok-arg-5.ensures c.option_arg-3.ensures.local a4 c.option_arg-3.ensures.rule in
    let a6 = with_one _ _ _ _ _ c.in_ok-arg-6.ensures c.option_arg-4.ensures.local a5 c.option_arg-4.ensures.rule in
    let a7 = with_one _ _ _ _ _ c.in_ok-arg-7.ensures c.option_arg-5.ensures.local a6 c.option_arg-5.ensures.rule in
    let a8 = with_one _ _ _ _ _ c.in_ok-arg-8.ensures c.flag_arg.ensures.local a7 c.flag_arg.ensures.rule in
    IfOk-weaker c.arg-9.result _ _ (λ r adds. with_one _ _ r _ _ adds c.flag_arg-2.ensures.local a8 c.flag_arg-2.ensures.rule) c.arg-9.ensures
