-- The code of an end moment is linear in the domain: statements, those inside others counted.
use Rattle.std.specs.Prelude.{◌≤◌, ℕ, ◌+◌, ◌*◌}
use Rattle.hc_term.specs.declared.expr.Cond.{Cond}
use Rattle.hc_term.specs.Motion.{Rates}
use Rattle.hc_term.specs.Profile.{nodes_in}
use Rattle.hc_cstep.specs.Size.{sizes}
use Rattle.hc_cend.specs.Law.{ends}

abbrev pub EndIsShort : Type 0
EndIsShort = (p : ℕ) (pattern : Rates) (c : Cond) → sizes (ends p pattern c) ≤ 6 * nodes_in c + 67
