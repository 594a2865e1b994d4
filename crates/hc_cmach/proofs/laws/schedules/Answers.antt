use Rattle.std.proofs.Common.{refl}
use Rattle.hc_cmach.specs.Turn.{c_code}
use Rattle.hc_cmach.specs.Machine.{opening}
use Rattle.hc_schedule.proofs.ThreadLaws.{every_schedule_of, footprint, changing_places}
use Rattle.hc_schedule.proofs.SoloRuns.{sections_run_alone}
use Rattle.hc_cmach.proofs.laws.schedules.Goals as goal

pub returns-clause-reduce : goal.returns-clause-reduce
returns-clause-reduce c = λ g. every_schedule_of (c_code g) (opening g) refl

pub returns-clause-footprints : goal.returns-clause-footprints
returns-clause-footprints c = λ g. footprint (c_code g)

pub returns-clause-places : goal.returns-clause-places
returns-clause-places c = λ g. changing_places (c_code g)

pub returns-clause-sections : goal.returns-clause-sections
returns-clause-sections c = λ g. sections_run_alone (c_code g)
