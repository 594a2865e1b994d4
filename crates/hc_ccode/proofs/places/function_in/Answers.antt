use Rattle.std.proofs.Common.{◌≡◌, true, ◌∙◌}
use Rattle.std.specs.Str.{bytes_eq}
use Rattle.hc_ccode.proofs.Called.{found_here}
use Rattle.hc_ccode.proofs.places.function_in.Goals as goal

pub returns-then-eq-clause-named : goal.returns-then-eq-clause-named
returns-then-eq-clause-named c =
    let same : bytes_eq c.args.name.now c.index-functions-at.result.name ≡ true = cc in
    found_here c.args.name.now c.args.functions.now c.loop-at.at c.index-functions-at.result c.loop-at-test.true c.index-functions-at.is same
    ∙ c.loop-at.invariant
