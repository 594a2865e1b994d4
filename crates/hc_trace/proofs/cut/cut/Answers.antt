use Rattle.std.proofs.Common.{◌+◌, sym, ◌∙◌}
use Rattle.std.proofs.lemmas.List.{take_rest}
use Rattle.hc_trace.proofs.Cuts.{cut_at, uncut_at}
use Rattle.hc_trace.proofs.cut.cut.Goals as goal

pub returns-in_err-place : goal.returns-in_err-place
returns-in_err-place c = rw c.from_residual.ensures (uncut_at c.args.at c.args.bytes.now (sym c.place_of.ensures ∙ c.in_err-place.was))

pub returns : goal.returns
returns c =
    let at = cut_at c.args.at c.args.bytes.now c.in_ok-place.place (sym c.place_of.ensures ∙ c.in_ok-place.was) in
    rw (take_rest c.args.bytes.now (c.in_ok-place.place + 1)) (at.1, at.2)
