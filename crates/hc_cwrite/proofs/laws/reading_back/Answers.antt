use Rattle.hc_cwrite.proofs.ReadsBack.{canonical_is_unit, units_are_writable, sayable_units_are_writable}
use Rattle.hc_cwrite.proofs.laws.reading_back.Goals as goal

pub returns-clause-canonical_is_unit : goal.returns-clause-canonical_is_unit
returns-clause-canonical_is_unit c = canonical_is_unit

pub returns-clause-units_are_writable : goal.returns-clause-units_are_writable
returns-clause-units_are_writable c = units_are_writable

pub returns-clause-sayable_units_are_writable : goal.returns-clause-sayable_units_are_writable
returns-clause-sayable_units_are_writable c = sayable_units_are_writable
