use Rattle.std.proofs.Common.{[], sym, subst}
use Rattle.std.proofs.lemmas.Option.{none-some}
use Rattle.hc_frac.specs.Text.{text_of}
use Rattle.hc_frac.specs.Word.{IsWord}
use Rattle.hc_trace.proofs.Spelling.{uncut, cut_word, only_word}
use Rattle.hc_trace.proofs.rows.name_and_value.Goals as goal

pub returns-in_err-name : goal.returns-in_err-name
returns-in_err-name c = rw c.from_residual.ensures (λ x h. uncut c.args.parts.now x.0 (text_of x.1) [] c.in_err-name.ensures h.2)

pub returns-in_err-name-2 : goal.returns-in_err-name-2
returns-in_err-name-2 c = rw c.from_residual-in_err-name-2.ensures (λ x h.
    let cut = c.in_ok-name.ensures in
    let parts = cut_word c.args.parts.now c.in_ok-name.name.now c.in_ok-name.value.now x.0 (text_of x.1) [] cut.0 h.0 cut.1 h.2 in
    c.in_err-name-2.ensures (subst IsWord (sym parts.0) h.0))

pub returns-in_err-value : goal.returns-in_err-value
returns-in_err-value c = rw c.from_residual-in_err-value.ensures (λ x h.
    let cut = c.in_ok-name.ensures in
    let parts = cut_word c.args.parts.now c.in_ok-name.name.now c.in_ok-name.value.now x.0 (text_of x.1) [] cut.0 h.0 cut.1 h.2 in
    none-some x.1 (c.in_err-value.ensures.every x.1 h.1 (sym (only_word c.in_ok-name.value.now (text_of x.1) parts.1))))
