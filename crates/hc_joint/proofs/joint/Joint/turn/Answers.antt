use Rattle.std.proofs.Common.{sym, ap, subst, ◌∙◌, ◌+◌, ℕ, Bool, if◌then◌else◌, arith}
use Rattle.hc_joint.specs.Seen.{Seen}
use Rattle.hc_joint.specs.Keeps.{IsMade, seen}
use Rattle.hc_joint.proofs.Halting.{none_is}
use Rattle.hc_joint.proofs.NextTurn.{has_room, turns_fit}
use Rattle.hc_joint.proofs.Lent.{able_here, not_able, is_there, answers, is_turn, again_few, turn_made, turn_after}
use Rattle.hc_joint.proofs.joint.Joint.turn.Goals as goal

pub returns-then-not-is_able-clause-answer : goal.returns-then-not-is_able-clause-answer
returns-then-not-is_able-clause-answer c at is =
    let j = c.self.inside in
    let able = able_here j.scene j.stop j.turns j.recomputed c.self.invariant c.args.process _ c.if-not-is_able.ensures in (
      ap (λ (s : Seen). s.stop) (sym c.self.view_is) ∙ none_is j.stop (sym c.if-is_some.ensures),
      not_able j.scene j.stop j.turns j.recomputed c.self.invariant c.args.process c.args.self.now c.self.view_is (sym able) at is,
    )

pub event_with-turn-requires-clause-there : goal.event_with-turn-requires-clause-there
event_with-turn-requires-clause-there c =
    let j = c.self.inside in
    is_there j.scene j.stop j.turns j.recomputed c.self.invariant c.args.process
    (sym (able_here j.scene j.stop j.turns j.recomputed c.self.invariant c.args.process _ c.if-not-is_able.ensures))

pub event_with-turn-requires-clause-left : goal.event_with-turn-requires-clause-left
event_with-turn-requires-clause-left c =
    let j = c.self.inside in
    has_room j.scene j.stop j.turns j.recomputed c.self.invariant c.if-is_some.ensures

pub overflow_add-self : goal.overflow_add-self
overflow_add-self c =
    let j = c.self.inside in
    let few = turns_fit j.scene j.stop j.turns j.recomputed c.self.invariant c.if-is_some.ensures in
    omega (arith, few)

pub overflow_add-self-2 : goal.overflow_add-self-2
overflow_add-self-2 c =
    let j = c.self.inside in
    let few = turns_fit j.scene j.stop j.turns j.recomputed c.self.invariant c.if-is_some.ensures in
    let one = again_few c.event_with-turn.result.0 in
    omega (arith, few, one, c.again.ensures, c.self.invariant.compared)

pub invariant_of-self : goal.invariant_of-self
invariant_of-self c =
    let j = c.self.inside in
    let said = c.event_with-turn.result.0 in
    let able = sym (able_here j.scene j.stop j.turns j.recomputed c.self.invariant c.args.process _ c.if-not-is_able.ensures) in
    subst (λ (n : ℕ). IsMade c.event_with-turn.new.self c.event_with-turn.result.1 (j.turns + 1) (j.recomputed + n)) (sym c.again.ensures)
    (turn_made j.scene j.stop j.turns j.recomputed c.self.invariant c.args.process able c.if-is_some.ensures
    c.event_with-turn.new.self c.event_with-turn.result.1 c.event_with-turn.ensures.comes said (again_few said))

pub returns-clause-answer : goal.returns-clause-answer
returns-clause-answer c at is =
    let j = c.self.inside in
    let able = sym (able_here j.scene j.stop j.turns j.recomputed c.self.invariant c.args.process _ c.if-not-is_able.ensures) in
    answers j.scene j.stop j.turns j.recomputed c.self.invariant c.args.process able c.if-is_some.ensures
    c.args.self.now c.self.view_is c.args.advance.now c.event_with-turn.result.0 c.event_with-turn.ensures.judges at is

pub returns-clause-state : goal.returns-clause-state
returns-clause-state c at is =
    let j = c.self.inside in
    let new = c.event_with-turn.new.self in
    let said = c.event_with-turn.result.0 in
    let able = sym (able_here j.scene j.stop j.turns j.recomputed c.self.invariant c.args.process _ c.if-not-is_able.ensures) in
    let made = is_turn j.scene j.stop j.turns j.recomputed c.self.invariant c.args.process able c.if-is_some.ensures
    said c.args.advance.now c.event_with-turn.ensures.judges in
    ap (λ (n : ℕ). seen new.task new.clock new.history.items c.event_with-turn.result.1 (j.turns + 1) (j.recomputed + n)) c.again.ensures
    ∙ turn_after j.scene j.stop j.turns j.recomputed c.self.invariant c.args.process able c.if-is_some.ensures
    new c.event_with-turn.result.1 c.event_with-turn.ensures.comes c.args.self.now c.self.view_is said made at is

pub returns-clause-turns : goal.returns-clause-turns
returns-clause-turns c =
    let j = c.self.inside in
    let said = c.event_with-turn.result.0 in
    let able = sym (able_here j.scene j.stop j.turns j.recomputed c.self.invariant c.args.process _ c.if-not-is_able.ensures) in
    let made = is_turn j.scene j.stop j.turns j.recomputed c.self.invariant c.args.process able c.if-is_some.ensures
    said c.args.advance.now c.event_with-turn.ensures.judges in
    let old = c.args.self.now in
    ap (λ (s : Seen). s.turns + 1) c.self.view_is
    ∙ ap (λ (b : Bool). if b then old.turns + 1 else old.turns) (sym made)
