-- No divisor in an expression or a condition of a usable code is 0.
use Rattle.std.proofs.Common.{IsTrue, ◌&&◌, [], length}
use Rattle.std.specs.Prelude.{nat_le}
use Rattle.hc_term.specs.declared.expr.Expr.{Expr}
use Rattle.hc_term.specs.declared.expr.Cond.{Cond}
use Rattle.hc_term.specs.Motion.{form}
use Rattle.hc_term.specs.EndMoment.{is_domain}
use Rattle.hc_term.specs.Profile.{nodes, nodes_in, reach, reach_in, is_expr, is_cond}
use Rattle.hc_term.specs.Value.{Store, is_defined, is_defined_test}
use Rattle.hc_term.proofs.Evaluating.{affine_is_defined, domain_is_defined}
use Rattle.hc_code.proofs.Growing.{second_of}

pub expr_defined : (s : Store) (e : Expr) → IsTrue (is_expr (length s) e) → IsTrue (is_defined s e)
expr_defined s e h = affine_is_defined s [] e (second_of (nat_le (nodes e) 200 && nat_le (reach e) (length s)) (form [] e).affine h)

pub cond_defined : (s : Store) (c : Cond) → IsTrue (is_cond (length s) c) → IsTrue (is_defined_test s c)
cond_defined s c h = domain_is_defined s [] c (second_of (nat_le (nodes_in c) 200 && nat_le (reach_in c) (length s)) (is_domain [] c) h)
