use Rattle.std.proofs.Common.{◌∙◌, true, ap}
use Rattle.std.proofs.lemmas.Result.{IfOk-weaker}
use Rattle.hc_cmd.specs.Running.{told}
use Rattle.hc_cmd.proofs.Courses.{course_listed, finished_course}
use Rattle.hc_cmd.proofs.simulation.Simulation.list.Goals as goal

pub returns : goal.returns
returns c =
    let old = c.args.self.joint in
    let course = finished_course old.task old c.finish.new.self c.requires c.finish.ensures.finished in
    let nothing = ap (told true c.finish.new.self) c.nothing.ensures in
    IfOk-weaker c.listing_of.result _ _ (λ text e. e ∙ nothing ∙ course_listed old.task c.finish.new.self c.finish.ensures.same.0 course) c.listing_of.ensures
