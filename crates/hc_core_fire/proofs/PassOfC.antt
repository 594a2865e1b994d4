-- The C does the twin, and the twin does the language's pass: together the promise on one pass of the C.
use Rattle.std.specs.Prelude.{◌≡◌}
use Rattle.std.proofs.Common.{arith}
use Rattle.hc_core_c.specs.Twin.{pass}
use Rattle.hc_core_c.specs.Cost.{pass_steps}
use Rattle.hc_core_c.proofs.Pass.{pass_cost, runs_pass}
use Rattle.hc_core_c.proofs.Cost.{pass_is}
use Rattle.hc_clogic.proofs.Runs.{runs_longer}
use Rattle.hc_core_fire.specs.PassOfC.{OnePassOfC}
use Rattle.hc_core_fire.proofs.Fewer.{stands_within}
use Rattle.hc_core_fire.proofs.Whole.{one_pass_in_fractions}

pub one_pass_of_c : OnePassOfC
one_pass_of_c g t P C has low own names values b ps clock horizon steps limit stands fractions still self =
    let same = pass_is g t P C in
    let h = one_pass_in_fractions P C t b ps clock horizon steps limit stands fractions still self low in
    record {
      behind = pass P C b;
      runs =
          runs_longer g t (pass_cost g t P C) (pass_steps P C) _ _ _ (omega (arith, same))
          (runs_pass g t P C has own names values b (stands_within P C b ps clock horizon steps limit stands));
      is = h.0;
      fractions = h.1;
    }
