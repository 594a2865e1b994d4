use Rattle.hc_advance.proofs.Working.{is_worked}
use Rattle.hc_advance.proofs.advance.Advance.work.Goals as goal

pub invariant_of-self : goal.invariant_of-self
invariant_of-self c =
    let a = c.self.inside in
    is_worked a.code a.clock a.seed c.stretch-stretch.result c.stretch-stretch.new.self a.start _ c.copy_into.ensures
    c.self.invariant.usable c.self.invariant.within c.stretch-stretch.ensures.keeps c.stretch-stretch.ensures.takes

pub returns-clause-keeps : goal.returns-clause-keeps
returns-clause-keeps c =
    let a = c.self.inside in
    is_worked a.code a.clock a.seed c.stretch-stretch.result c.stretch-stretch.new.self a.start _ c.copy_into.ensures
    c.self.invariant.usable c.self.invariant.within c.stretch-stretch.ensures.keeps c.stretch-stretch.ensures.takes
