use Rattle.std.proofs.Common.{◌≡◌, ◌≢◌, rules, arith, sym, ap, ◌∙◌}
use Rattle.std.specs.Prelude.{codes}
use Rattle.std.proofs.lemmas.Slice.Eq.{text_from_reads}
use Rattle.hc_trace.specs.declared.traces.EndKind.TheVariants.{Overflow}
use Rattle.hc_trace.specs.Traces.{end_word}
use Rattle.hc_trace.proofs.Events.{cut_end, cut_kind, end_arm}
use Rattle.hc_trace.proofs.rows.end_of.Goals as goal

pub returns-in_default : goal.returns-in_default
returns-in_default c =
    let other : codes "end" ≢ c.in_ok-first.first.now = search rules in
    λ e h. other (sym (cut_end c.args.row.now c.in_ok-first.first.now c.in_ok-first.rest.now e c.in_ok-first.ensures.0 c.in_ok-first.ensures.1 h.1).0)

pub returns-in_err-kind-2 : goal.returns-in_err-kind-2
returns-in_err-kind-2 c = rw c.from_residual-in_err-kind-2.ensures (λ e h.
    let front = cut_end c.args.row.now c.in_ok-first.first.now c.in_ok-first.rest.now e c.in_ok-first.ensures.0 c.in_ok-first.ensures.1 h.1 in
    let back = cut_kind c.in_ok-first.rest.now c.in_ok-kind.kind.now c.in_ok-kind.parts.now e c.in_ok-kind.ensures.0 c.in_ok-kind.ensures.1 front.1 in
    c.in_err-kind-2.ensures e.kind (sym back.0))

pub returns-then-eq : goal.returns-then-eq
returns-then-eq c =
    let begins : c.in_ok-first.first.now ≡ codes "end" = text_from_reads c.in_ok-first.first.now (codes "end") (omega arith) (omega arith, (omega arith, (omega arith, tt))) in
    let overflow : c.in_ok-kind-2.kind ≡ Overflow = search rules in
    end_arm c.args.row.now c.in_ok-first.first.now c.in_ok-first.rest.now c.in_ok-kind.kind.now c.in_ok-kind.parts.now Overflow c.overflow_of.result
    c.in_ok-first.ensures.0 c.in_ok-first.ensures.1 begins c.in_ok-kind.ensures.0 c.in_ok-kind.ensures.1
    (ap end_word (sym overflow) ∙ c.in_ok-kind-2.ensures) c.overflow_of.ensures

pub returns-else-eq : goal.returns-else-eq
returns-else-eq c =
    let begins : c.in_ok-first.first.now ≡ codes "end" = text_from_reads c.in_ok-first.first.now (codes "end") (omega arith) (omega arith, (omega arith, (omega arith, tt))) in
    end_arm c.args.row.now c.in_ok-first.first.now c.in_ok-first.rest.now c.in_ok-kind.kind.now c.in_ok-kind.parts.now c.in_ok-kind-2.kind c.plain_end_of.result
    c.in_ok-first.ensures.0 c.in_ok-first.ensures.1 begins c.in_ok-kind.ensures.0 c.in_ok-kind.ensures.1
    c.in_ok-kind-2.ensures c.plain_end_of.ensures
