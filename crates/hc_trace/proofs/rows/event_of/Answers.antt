use Rattle.std.proofs.Common.{◌≡◌, rules, arith, sym}
use Rattle.std.specs.Prelude.{codes}
use Rattle.std.proofs.lemmas.Slice.Eq.{text_from_reads}
use Rattle.hc_trace.specs.declared.traces.TraceEvent.{TraceEvent}
use Rattle.hc_trace.specs.Traces.{event_word}
use Rattle.hc_trace.proofs.Events.{event_arm, cut_event}
use Rattle.hc_trace.proofs.rows.event_of.Goals as goal

pub returns-in-log : goal.returns-in-log
returns-in-log c =
    let known : c.in_ok-kind.kind.now ≡ codes "log" = text_from_reads c.in_ok-kind.kind.now (codes "log") (omega arith) (omega arith, (omega arith, (omega arith, tt))) in
    event_arm c.args.version c.args.words.now c.in_ok-kind.kind.now c.in_ok-kind.parts.now (codes "log") c.log_of.result
    c.in_ok-kind.ensures.0 c.in_ok-kind.ensures.1 known (c.log_of.ensures c.args.version)

pub returns-in-comm : goal.returns-in-comm
returns-in-comm c =
    let known : c.in_ok-kind.kind.now ≡ codes "comm" = text_from_reads c.in_ok-kind.kind.now (codes "comm") (omega arith) (omega arith, (omega arith, (omega arith, (omega arith, tt)))) in
    event_arm c.args.version c.args.words.now c.in_ok-kind.kind.now c.in_ok-kind.parts.now (codes "comm") c.comm_of.result
    c.in_ok-kind.ensures.0 c.in_ok-kind.ensures.1 known c.comm_of.ensures

pub returns-in-delay : goal.returns-in-delay
returns-in-delay c =
    let known : c.in_ok-kind.kind.now ≡ codes "delay" = text_from_reads c.in_ok-kind.kind.now (codes "delay") (omega arith) (omega arith, (omega arith, (omega arith, (omega arith, (omega arith, tt))))) in
    event_arm c.args.version c.args.words.now c.in_ok-kind.kind.now c.in_ok-kind.parts.now (codes "delay") c.delay_of.result
    c.in_ok-kind.ensures.0 c.in_ok-kind.ensures.1 known (c.delay_of.ensures c.args.version)

pub returns-in_default : goal.returns-in_default
returns-in_default c =
    let other : (e : TraceEvent) → event_word e ≡ c.in_ok-kind.kind.now → ⊥ = search rules in
    λ e h. other e (sym (cut_event c.args.words.now c.in_ok-kind.kind.now c.in_ok-kind.parts.now e c.in_ok-kind.ensures.0 c.in_ok-kind.ensures.1 h.1).0)
