-- The search stands behind the lines.
use Rattle.hc_cvalue.specs.Lines.{line_code}
use Rattle.hc_cend.proofs.Joining.{ends_pushed}
use Rattle.hc_cend.proofs.ends.push_ends.Goals as goal

pub returns : goal.returns
returns c =
    ends_pushed (line_code c.args.p c.args.pattern.now) c.args.p c.comparisons-n.result c.args.cond.now c.args.code.now c.push_gaps.new.code c.push.new.self
    c.in_ok-search.search c.in_ok-guards.field-0 c.push.result c.comparisons-n.ensures.counted c.in_ok-push_gaps.ensures.0 c.in_ok-search.ensures
    c.in_ok-guards.ensures c.push.ensures.ok
