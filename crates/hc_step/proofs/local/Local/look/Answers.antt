use Rattle.std.proofs.Common.{◌≡◌, ap, ap₂, sym, ◌∙◌, subst, Bool, false, length}
use Rattle.hc_term.specs.declared.model.Mark.{Mark}
use Rattle.hc_term.specs.Value.{Store}
use Rattle.hc_term.specs.Silent.{silent, picks_left}
use Rattle.hc_step.specs.Arriving.{is_stay, is_arriving}
use Rattle.hc_step.specs.Looking.{Seen, seen}
use Rattle.hc_step.specs.Represents.{Sees}
use Rattle.hc_step.proofs.Moves.{movable_going, movable_arrived}
use Rattle.hc_step.proofs.Sees.{sees_going, sees_arrived, same_side, rules_at, same_instr, shown_bound}
use Rattle.hc_step.proofs.local.Local.look.Goals as goal

pub look_at-requires : goal.look_at-requires
look_at-requires c = record {
  ruled = rules_at c.args.self.now.variables (length c.store.result.now) c.args.code.now.instrs c.args.self.now.place c.at-instr.result.now c.requires.usable
      c.at-instr.ensures c.store.ensures.count;
}

pub returns-in-Going-clause-sees : goal.returns-in-Going-clause-sees
returns-in-Going-clause-sees c t clock q i here still all r =
    let l = c.args.self.now in
    let store : c.store.result.now ≡ q.store = c.store.ensures.values ∙ r.same_store in
    let side : c.takes_left-is_left.result ≡ picks_left c.args.seed l.process q.choices =
    c.takes_left-is_left.ensures ∙ ap (picks_left c.args.seed l.process) r.same_choices ∙ same_side c.args.seed l.process q.choices in
    let answer = c.look_at.ensures ∙ ap₂ (λ (s : Store) (b : Bool). seen s b c.at-instr.result.now) store side in
    let same = same_instr c.args.code.now.instrs l.place i c.at-instr.result.now here c.at-instr.ensures in
    let moves : is_stay c.at-instr.result.now ≡ false =
    ap is_stay (sym same) ∙ (ap (λ (m : Mark). is_arriving m i) (sym c.in-Going.is) ∙ still) in
    subst (λ (x : Seen). Sees t q (silent c.args.seed l.process clock q) x) (sym answer)
    (sees_going t c.args.code.now.instrs c.args.seed l.process l.place clock q c.at-instr.result.now all r.at_place c.at-instr.ensures moves
    (sym r.same_mark ∙ c.in-Going.is))

pub returns-in-Arrived-clause-sees : goal.returns-in-Arrived-clause-sees
returns-in-Arrived-clause-sees c t clock q i here still all r =
    let l = c.args.self.now in
    let bounded = ap (λ p. p.bound) r.same_post ∙ shown_bound clock q.store q.mark q.todo in
    subst (λ (x : Seen). Sees t q (silent c.args.seed l.process clock q) x) (sym c.look_arrived.ensures)
    (sees_arrived t c.args.code.now.instrs c.args.seed l.process l.place clock _ q c.at-instr.result.now l.post.bound all r.at_place c.at-instr.ensures
    (sym r.same_mark ∙ c.in-Arrived.is) bounded)

pub returns-in-Going-clause-movable : goal.returns-in-Going-clause-movable
returns-in-Going-clause-movable c step e =
    let l = c.args.self.now in
    let answer = c.look_at.ensures
    ∙ ap (λ (s : Store). seen s c.takes_left-is_left.result c.at-instr.result.now) c.store.ensures.values in
    movable_going c.args.code.now.instrs c.takes_left-is_left.result l c.at-instr.result.now step c.requires.usable c.at-instr.ensures (sym answer ∙ e)

pub returns-in-Arrived-clause-movable : goal.returns-in-Arrived-clause-movable
returns-in-Arrived-clause-movable c step e =
    let l = c.args.self.now in
    movable_arrived c.args.code.now.instrs l.post.bound l c.at-instr.result.now step c.requires.usable c.at-instr.ensures (sym c.look_arrived.ensures ∙ e)
