use Rattle.std.proofs.Common.{ℕ, ◌<◌, ◌∙◌, length, ap, sym, subst, arith, Option, true}
use Rattle.std.specs.Prelude.{IfSome}
use Rattle.hc_term.specs.Ends.{ends_of}
use Rattle.hc_term.specs.TraceText.{end_name}
use Rattle.hc_trace.proofs.EndsTable.{row_at, row_count, end_within}
use Rattle.hc_trace.proofs.lines.sender_name.Goals as goal

pub bounds-as_slice-channel : goal.bounds-as_slice-channel
bounds-as_slice-channel c =
    let sys = c.args.system.now in
    let rows = c.as_slice.ensures.elements ∙ ap (λ e. e.senders) c.requires.ends in
    let all = row_count (λ n. (ends_of sys n).sender) (length sys.channels) c.as_slice.result.now rows in
    omega (arith, all, c.requires.channel)

pub end_name-requires : goal.end_name-requires
end_name-requires c =
    let sys = c.args.system.now in
    let rows = c.as_slice.ensures.elements ∙ ap (λ e. e.senders) c.requires.ends in
    let same = row_at (λ n. (ends_of sys n).sender) (length sys.channels) c.args.channel c.as_slice.result.now rows c.requires.channel in
    subst (λ (o : Option ℕ). IfSome o (λ p. p < length sys.processes)) (sym same) (end_within true c.args.channel sys.processes)

pub returns-clause-name : goal.returns-clause-name
returns-clause-name c =
    let sys = c.args.system.now in
    let rows = c.as_slice.ensures.elements ∙ ap (λ e. e.senders) c.requires.ends in
    let same = row_at (λ n. (ends_of sys n).sender) (length sys.channels) c.args.channel c.as_slice.result.now rows c.requires.channel in
    c.end_name.ensures.name ∙ ap (λ end. end_name sys end) same
