use Rattle.std.proofs.Common.{◌∙◌, arith, length-drop}
use Rattle.std.proofs.lemmas.List.{take_rest}
use Rattle.std.proofs.lemmas.Result.{err_from_is_err_and}
use Rattle.hc_world.proofs.WrittenLemmas.{adds_next, front_adds}
use Rattle.hc_world.proofs.sinks.write_all.Goals as goal

pub returns-in_err-at-clause-part : goal.returns-in_err-at-clause-part
returns-in_err-at-clause-part g c =
    let exit = err_from_is_err_and c.from_residual.result c.from_residual.ensures.1 in
    let so_far = c.loop-at.invariant.added in
    rw exit.1 (front_adds _ _ _ c.args.bytes.now c.loop-at.at so_far c.in_err-at.ensures.bytes)

pub loop-at-preserved : goal.loop-at-preserved
loop-at-preserved g c =
    let bytes = c.args.bytes.now in
    let wrote = c.in_ok-at.ensures.bytes in
    let taken = rw take_rest at wrote in
    let so_far = c.loop-at.invariant.added in
    record {
      within = omega (arith, taken.1, length-drop c.loop-at.at bytes);
      added = adds_next _ _ _ bytes c.loop-at.at c.in_ok-at.field-0 so_far wrote.2;
      kept = c.in_ok-at.ensures.cause.kept ∙ c.loop-at.invariant.kept;
      untouched = λ none. absurd (omega (arith, taken.0, none));
    }
