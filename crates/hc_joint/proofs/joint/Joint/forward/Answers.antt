use Rattle.std.proofs.Common.{◌≡◌, ◌∙◌, sym, ℕ, List, Option, arith}
use Rattle.hc_term.specs.declared.post.Post.{Post}
use Rattle.hc_joint.specs.Able.{least_from}
use Rattle.hc_joint.proofs.NextTurn.{has_room, turns_fit, some_is_least, least_there, made_turn, goes_forward}
use Rattle.hc_joint.proofs.joint.Joint.forward.Goals as goal

-- what was found is the least process that shows that it wants a step
found : (o found : Option ℕ) (posts : List Post) → o ≡ least_from 0 posts → o ≡ found → least_from 0 posts ≡ found
found o it posts is here = sym is ∙ here

pub unreachable-requires : goal.unreachable-requires
unreachable-requires c =
    let j = c.self.inside in
    some_is_least j.scene j.stop j.turns j.recomputed c.self.invariant (c.if-is_some.ensures)
    (found _ _ j.scene.board.posts c.least_able.ensures c.in_default.is)

pub event-self-inside-requires-clause-there : goal.event-self-inside-requires-clause-there
event-self-inside-requires-clause-there c =
    let j = c.self.inside in
    least_there j.scene j.stop j.turns j.recomputed c.self.invariant (c.if-is_some.ensures) c.in-Some.process
    (found _ _ j.scene.board.posts c.least_able.ensures c.in-Some.is)

pub event-self-inside-requires-clause-left : goal.event-self-inside-requires-clause-left
event-self-inside-requires-clause-left c =
    let j = c.self.inside in
    has_room j.scene j.stop j.turns j.recomputed c.self.invariant (c.if-is_some.ensures)

pub overflow_add-self : goal.overflow_add-self
overflow_add-self c =
    let j = c.self.inside in
    let few = turns_fit j.scene j.stop j.turns j.recomputed c.self.invariant (c.if-is_some.ensures) in
    omega (arith, few)

pub invariant_of-self : goal.invariant_of-self
invariant_of-self c =
    let j = c.self.inside in
    made_turn j.scene j.stop j.turns j.recomputed c.self.invariant (c.if-is_some.ensures) c.in-Some.process
    (found _ _ j.scene.board.posts c.least_able.ensures c.in-Some.is)
    c.event-self-inside.new.self c.event-self-inside.result c.event-self-inside.ensures

pub returns : goal.returns
returns c =
    let j = c.self.inside in
    goes_forward j.scene j.stop j.turns j.recomputed c.self.invariant (c.if-is_some.ensures) c.in-Some.process
    (found _ _ j.scene.board.posts c.least_able.ensures c.in-Some.is)
    c.event-self-inside.new.self c.event-self-inside.result c.event-self-inside.ensures c.args.self.now c.self.view_is
