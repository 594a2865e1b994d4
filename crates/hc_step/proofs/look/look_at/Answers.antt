use Rattle.std.proofs.Common.{ap, sym, ◌∙◌, ◌+◌, length}
use Rattle.std.specs.Prelude.{nat_le}
use Rattle.hc_term.specs.Profile.{is_expr}
use Rattle.hc_code.specs.Kept.{is_instr}
use Rattle.hc_code.proofs.Growing.{second_of}
use Rattle.hc_step.proofs.Defined.{expr_defined, cond_defined}
use Rattle.hc_step.proofs.look.look_at.Goals as goal

pub value-requires-clause-divisors : goal.value-requires-clause-divisors
value-requires-clause-divisors c =
    let n = length c.args.store.now in
    expr_defined _ _ (second_of (nat_le (c.in-Assign.variable + 1) n) (is_expr n c.in-Assign.expr) (sym (ap (is_instr c.requires.ruled.0 n) c.in-Assign.is) ∙ c.requires.ruled.1))

pub value-requires-in-Log-clause-divisors : goal.value-requires-in-Log-clause-divisors
value-requires-in-Log-clause-divisors c = expr_defined _ _ (sym (ap (is_instr c.requires.ruled.0 (length c.args.store.now)) c.in-Log.is) ∙ c.requires.ruled.1)

pub holds-requires-clause-divisors : goal.holds-requires-clause-divisors
holds-requires-clause-divisors c = cond_defined _ _ (sym (ap (is_instr c.requires.ruled.0 (length c.args.store.now)) c.in-Test.is) ∙ c.requires.ruled.1)
