-- The lines of the second part stand behind those of the first.
use Rattle.std.proofs.Common.{rules, ◌≡◌, ◌+◌, ◌++◌}
use Rattle.hc_term.specs.declared.expr.Cond.{the_lemmas}
use Rattle.hc_term.specs.Profile.{nodes_in}
use Rattle.hc_cvalue.specs.Lines.{line_code}
use Rattle.hc_cend.specs.Lining.{compared}
use Rattle.hc_cend.specs.Law.{places}
use Rattle.hc_cend.proofs.Joining.{both_pushed}
use Rattle.hc_cend.proofs.compared.+push_gaps.Goals as goal

pub returns-in_ok-next-in-And : goal.returns-in_ok-next-in-And
returns-in_ok-next-in-And t c =
    let left = c.get-in-And.result.now in
    let right = c.get-in-And-2.result.now in
    let whole : compared c.args.cond.now ≡ compared left ++ compared right = search (rules, the_lemmas) in
    let sum : nodes_in c.args.cond.now ≡ 1 + nodes_in left + nodes_in right = search (rules, the_lemmas) in
    let first = c.in_ok-next-in-And.ensures in
    both_pushed (line_code c.args.p c.args.pattern.now) c.args.p (places c.args.n) c.args.i c.in_ok-next-in-And.next (nodes_in left) (nodes_in right)
    (nodes_in c.args.cond.now) (compared left) (compared right) (compared c.args.cond.now) c.args.code.now c.push_gaps-in-And.new.code c.push_gaps-in-And-2.new.code
    c.push_gaps-in-And-2.result whole sum first.0 first.1 first.2 c.push_gaps-in-And-2.ensures

pub returns-in_ok-next-in-Or : goal.returns-in_ok-next-in-Or
returns-in_ok-next-in-Or t c =
    let left = c.get-in-Or.result.now in
    let right = c.get-in-Or-2.result.now in
    let whole : compared c.args.cond.now ≡ compared left ++ compared right = search (rules, the_lemmas) in
    let sum : nodes_in c.args.cond.now ≡ 1 + nodes_in left + nodes_in right = search (rules, the_lemmas) in
    let first = c.in_ok-next-in-Or.ensures in
    both_pushed (line_code c.args.p c.args.pattern.now) c.args.p (places c.args.n) c.args.i c.in_ok-next-in-Or.next (nodes_in left) (nodes_in right)
    (nodes_in c.args.cond.now) (compared left) (compared right) (compared c.args.cond.now) c.args.code.now c.push_gaps-in-Or.new.code c.push_gaps-in-Or-2.new.code
    c.push_gaps-in-Or-2.result whole sum first.0 first.1 first.2 c.push_gaps-in-Or-2.ensures
