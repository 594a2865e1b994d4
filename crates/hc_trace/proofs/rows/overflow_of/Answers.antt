use Rattle.std.proofs.Common.{◌≢◌, [], rules, sym, subst, ◌∙◌, inl, inr}
use Rattle.std.specs.Prelude.{codes}
use Rattle.std.proofs.lemmas.Option.{none-some}
use Rattle.hc_frac.specs.Text.{text_of}
use Rattle.hc_frac.specs.Word.{IsWord}
use Rattle.hc_trace.proofs.Spelling.{uncut, cut_number, only_word}
use Rattle.hc_trace.proofs.Events.{overflow_parts}
use Rattle.hc_trace.proofs.rows.overflow_of.Goals as goal

pub returns-in_err-at : goal.returns-in_err-at
returns-in_err-at c = rw c.from_residual.ensures (λ e h.
    let parts = overflow_parts c.args.parts.now e h in
    uncut c.args.parts.now (text_of e.at) parts.who [] c.in_err-at.ensures parts.spells)

pub returns-in_err-at-2 : goal.returns-in_err-at-2
returns-in_err-at-2 c = rw c.from_residual-in_err-at-2.ensures (λ e h.
    let parts = overflow_parts c.args.parts.now e h in
    let cut = cut_number c.args.parts.now c.in_ok-at.at.now c.in_ok-at.who.now parts.who e.at [] c.in_ok-at.ensures.0 parts.fits c.in_ok-at.ensures.1 parts.spells in
    none-some e.at (c.in_err-at-2.ensures.every e.at parts.fits (sym cut.0)))

pub returns-in_err-new-in_default : goal.returns-in_err-new-in_default
returns-in_err-new-in_default c =
    let other : codes "*" ≢ c.in_ok-at.who.now = search rules in
    rw c.from_residual-in_err-new-in_default.ensures (λ e h.
    let parts = overflow_parts c.args.parts.now e h in
    let cut = cut_number c.args.parts.now c.in_ok-at.at.now c.in_ok-at.who.now parts.who e.at [] c.in_ok-at.ensures.0 parts.fits c.in_ok-at.ensures.1 parts.spells in
    let same = only_word c.in_ok-at.who.now parts.who cut.1 in
    elim parts.star_or_word [
      | inl star ↦ other (sym (same ∙ star))
      | inr word ↦ c.in_err-new-in_default.ensures (subst IsWord (sym same) word)
    ])
