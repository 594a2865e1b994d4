use Rattle.std.proofs.Common.{◌≡◌, ◌∙◌, sym, ap₂, List}
use Rattle.hc_term.specs.declared.run.Item.{Item}
use Rattle.hc_term.specs.declared.run.Stop.{Stop}
use Rattle.hc_term.specs.Canonical.{canonical}
use Rattle.hc_joint.specs.Keeps.{HasCourse}
use Rattle.hc_cmd.specs.Made.{line_of}
use Rattle.hc_cmd.proofs.Courses.{finished_course}
use Rattle.hc_cmd.proofs.making.run_line.Goals as goal

pub returns : goal.returns
returns c =
    let old = c.args.simulation.joint in
    let course : HasCourse c.finish.new.self (canonical old.task) = finished_course old.task old c.finish.new.self c.requires c.finish.ensures.finished in
    let items = c.history.ensures.items ∙ course.items in
    let some = sym course.stop ∙ sym c.stop.ensures ∙ c.in-Some.is in
    let stop : c.in-Some.stop ≡ (canonical old.task).stop = cc some in
    c.line_of.ensures ∙ ap₂ (λ (is : List Item) (s : Stop). line_of c.args.made.pairs is s) items stop
