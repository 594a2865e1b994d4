use Rattle.std.proofs.Common.{◌≡◌, refl, ap, ap₂, sym, subst, ◌∙◌, arith, ℕ, length, take, map, true, Option}
use Rattle.std.specs.Prelude.{IfSome}
use Rattle.std.proofs.lemmas.List.{length-take-le}
use Rattle.hc_rational.specs.Words.{Rational, ◌≤ℚ◌}
use Rattle.hc_term.specs.declared.post.Post.{Post}
use Rattle.hc_term.specs.declared.model.Mark.{Mark}
use Rattle.hc_term.specs.Value.{Store}
use Rattle.hc_term.specs.Posts.{is_empty}
use Rattle.hc_term.specs.Process.{bound}
use Rattle.hc_term.specs.Moved.{moving_after, moved_post}
use Rattle.hc_runs.specs.Laws.{keeps_profile, heads_in_profile}
use Rattle.hc_step.specs.Delaying.{mark_after, with_values}
use Rattle.hc_step.proofs.Sees.{instr_at, rules_at, shown_bound}
use Rattle.hc_step.proofs.Moved.{stands_moved, take_values, within_of, heads_keep}
use Rattle.hc_step.proofs.local.Local.move_by.Goals as goal

pub returns-clause-moved : goal.returns-clause-moved
returns-clause-moved c t code clock q usable all r =
    let l = c.args.self.now in
    let d = c.args.by in
    let here = instr_at t t code l.place q.todo all r.at_place in
    let ruled = rules_at l.variables l.variables code l.place here.0 usable here.1 refl in
    let shown = ap (λ (p : Post). map (moving_after d) p.moving) r.same_post in
    let store = ap (take l.variables) (c.set_values.ensures ∙ ap (with_values l.store) (c.as_slice.ensures.elements ∙ ap (λ (p : Post). p.moving) c.move_by.ensures))
    ∙ take_values l.variables l.store (map (moving_after d) l.post.moving) ∙ ap₂ with_values r.same_store shown in
    let mark = c.mark_after-self.ensures ∙ ap₂ (λ (p : Post) (m : Mark). mark_after d (is_empty p.moving) p.bound m) r.same_post r.same_mark in
    let count : length q.store ≡ l.variables =
    ap (λ (s : Store). length s) (sym r.same_store) ∙ omega (arith, length-take-le {A = Rational} l.variables l.store) in
    let bounded : l.post.bound ≡ bound q = ap (λ (p : Post). p.bound) r.same_post ∙ shown_bound clock q.store q.mark q.todo in
    let keeps : keeps_profile q ≡ true = ap (λ (n : ℕ). heads_in_profile n q.todo) count ∙ heads_keep t ruled.0 l.variables here.0 q.todo here.2 ruled.1 in
    stands_moved t clock d _ q.store q.choices c.requires.from_zero q.mark q.todo r.at_place store r.same_choices mark
    (c.move_by.ensures ∙ ap (moved_post d) r.same_post) keeps
    (within_of d (bound q) (subst (λ (b : Option Rational). IfSome b (λ x. d ≤ℚ x)) bounded c.requires.to_bound))
