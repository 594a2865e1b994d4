use Rattle.hc_cprim.proofs.Same.{worth_same, worths_same}
use Rattle.hc_cprim.proofs.laws.formulas.Goals as goal

pub returns-clause-one : goal.returns-clause-one
returns-clause-one c g q m owns e = worth_same g q m owns e

pub returns-clause-several : goal.returns-clause-several
returns-clause-several c g q m owns es = worths_same g q m owns es
