use Rattle.hc_frac.proofs.Kept.{num_seen, den_seen}
use Rattle.hc_frac.proofs.frac.FracPartialEq.eq.Goals as goal

pub returns : goal.returns
returns c =
    let left_num = num_seen _ _ c.t1-1.view_is c.t1-1.invariant in
    let left_den = den_seen _ _ c.t1-1.view_is c.t1-1.invariant in
    let right_num = num_seen _ _ c.t2-1.view_is c.t2-1.invariant in
    let right_den = den_seen _ _ c.t2-1.view_is c.t2-1.invariant in
    cc
