-- The machine's answer is the one answer that there is.
use Rattle.std.proofs.Common.{refl, sym}
use Rattle.hc_grammar.specs.Language.{Language}
use Rattle.hc_grammar.specs.Machine.{reads}
use Rattle.hc_grammar.proofs.Settings.{Setting}
use Rattle.hc_grammar.proofs.Exact.{exact}
use Rattle.hc_grammar.specs.OneAnswer.{HasOneAnswer}

pub one_answer : {K H A B T S R V : Type 0} {c : Language K H A B T S R V} (x : Setting c) → HasOneAnswer c x.Is
one_answer {c = c} x ts ends =
    let answer = reads c ts c.start c.opening c.blank in
    (answer, (exact x ts ends answer).1 refl, λ other a. sym ((exact x ts ends other).0 a))
