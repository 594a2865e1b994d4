use Rattle.hc_term.proofs.Evaluating.{affine_is_defined, domain_is_defined}
use Rattle.hc_term.proofs.laws.expression_laws.Goals as goal

pub returns-clause-defined : goal.returns-clause-defined
returns-clause-defined c = affine_is_defined

pub returns-clause-defined_test : goal.returns-clause-defined_test
returns-clause-defined_test c = domain_is_defined
