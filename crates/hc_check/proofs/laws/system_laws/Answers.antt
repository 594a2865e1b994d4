use Rattle.hc_check.proofs.SameSystem.{one_system}
use Rattle.hc_check.proofs.Decided.{free_has_system, each_is_decided}
use Rattle.hc_check.proofs.laws.system_laws.Goals as goal

pub returns-clause-one_system : goal.returns-clause-one_system
returns-clause-one_system c = one_system

pub returns-clause-free : goal.returns-clause-free
returns-clause-free c = free_has_system

pub returns-clause-decided : goal.returns-clause-decided
returns-clause-decided c = each_is_decided
