use Rattle.std.proofs.Common.{◌≡◌, true, false, inl, inr, arith}
use Rattle.std.proofs.lemmas.Bool.{cases_lt}
use borrow.Author.Count.{below_more}
use Rattle.hc_trace.specs.Splitting.{HasHeaderAt}
use Rattle.hc_trace.proofs.Headers.{none_past}
use Rattle.hc_trace.proofs.splitting.split_text.Goals as goal

pub loop-place-preserved : goal.loop-place-preserved
loop-place-preserved c =
    below_more (λ q. ¬ (HasHeaderAt c.args.bytes.now q)) c.loop-place.place c.loop-place.invariant
    (λ h. let clash : false ≡ true = c.if-has_header_at.ensures.1 h in absurd (cc clash))

pub returns-clause-none : goal.returns-clause-none
returns-clause-none c = λ q h.
    elim (cases_lt q c.loop-place.place) [
      | inl before ↦ c.loop-place.invariant q before h
      | inr past ↦ none_past c.args.bytes.now q (omega arith) h
    ]
