use Rattle.std.proofs.Common.{sym}
use Rattle.std.proofs.lemmas.Option.{none-some}
use Rattle.hc_frac.specs.Text.{text_of}
use Rattle.hc_trace.specs.Traces.{event_word, event_parts}
use Rattle.hc_trace.proofs.Spelling.{uncut, cut_number}
use Rattle.hc_trace.proofs.rows.line_of.Goals as goal

pub returns-in_err-at : goal.returns-in_err-at
returns-in_err-at c = rw c.from_residual.ensures (λ l h.
    uncut c.args.row.now (text_of l.at) (event_word l.event) (event_parts l.event) c.in_err-at.ensures h.1)

pub returns-in_err-at-2 : goal.returns-in_err-at-2
returns-in_err-at-2 c = rw c.from_residual-in_err-at-2.ensures (λ l h.
    let cut = cut_number c.args.row.now c.in_ok-at.at.now c.in_ok-at.event.now (event_word l.event) l.at (event_parts l.event)
    c.in_ok-at.ensures.0 h.0.0 c.in_ok-at.ensures.1 h.1 in
    none-some l.at (c.in_err-at-2.ensures.every l.at h.0.0 (sym cut.0)))

pub returns-in_err-event : goal.returns-in_err-event
returns-in_err-event c = rw c.from_residual-in_err-event.ensures (λ l h.
    let cut = cut_number c.args.row.now c.in_ok-at.at.now c.in_ok-at.event.now (event_word l.event) l.at (event_parts l.event)
    c.in_ok-at.ensures.0 h.0.0 c.in_ok-at.ensures.1 h.1 in
    c.in_err-event.ensures l.event (h.0.1, cut.1))
