use Rattle.std.proofs.Common.{sym, subst, Ok, Err}
use Rattle.hc_cread.specs.Stops as units
use Rattle.hc_cread.specs.TextStops.{IsExact}
use Rattle.hc_cread.proofs.TextAnswered.{lines_fit, columns_fit, text_exact, stop_exact}
use Rattle.hc_cread.proofs.whole.c_read.Goals as goal

pub read_unit-requires-clause-lines : goal.read_unit-requires-clause-lines
read_unit-requires-clause-lines c = lines_fit _ _ _ c.unit_place.ensures c.in-Some.ensures.within c.requires

pub read_unit-requires-clause-columns : goal.read_unit-requires-clause-columns
read_unit-requires-clause-columns c = columns_fit _ _ _ c.unit_place.ensures c.in-Some.ensures.within c.requires

pub returns-in-Ok : goal.returns-in-Ok
returns-in-Ok c =
    text_exact c.args.bytes.now c.in-Some.unit.now c.in-Some.ensures.parts c.in-Ok.program
    (subst (λ p. units.IsExact p c.in-Some.unit.now (Ok c.in-Ok.program)) c.unit_place.ensures c.in-Ok.ensures)

pub returns-in-Err : goal.returns-in-Err
returns-in-Err c =
    subst (λ s. IsExact c.args.bytes.now (Err s)) (sym c.stop_of.ensures)
    (stop_exact c.args.bytes.now c.in-Some.unit.now c.in-Some.ensures.parts c.in-Err.stop
    (subst (λ p. units.IsExact p c.in-Some.unit.now (Err c.in-Err.stop)) c.unit_place.ensures c.in-Err.ensures))
