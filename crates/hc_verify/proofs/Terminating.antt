-- The end line of a run in which all processes ended: all take their steps, and there is no other way to reach it.
use Rattle.std.proofs.Common.{◌≡◌, refl, sym, ap, ◌∙◌, ℕ, zero, suc, ◌≤◌, ◌<◌, Bool, true, false, List, [], ◌∷◌, slice_get, Option, Some, None, arith}
use Rattle.std.specs.List.{list_all}
use Rattle.std.proofs.lemmas.Bool.{true≢false, and_parts}
use Rattle.hc_rational.specs.Words.{Rational}
use Rattle.hc_term.specs.declared.task.Task.{Task}
use Rattle.hc_term.specs.declared.stmt.Stmt.{Stmt}
use Rattle.hc_term.specs.declared.post.Post.{Post}
use Rattle.hc_term.specs.declared.run.Stop.TheVariants.{Terminated}
use Rattle.hc_term.specs.declared.model.Mark.{Mark}
use Rattle.hc_term.specs.declared.model.ProcessState.{ProcessState}
use Rattle.hc_term.specs.declared.model.Configuration.{Configuration}
use Rattle.hc_term.specs.Process.{is_done, bound, wants_at}
use Rattle.hc_term.specs.Silent.{silent}
use Rattle.hc_term.specs.Step.{all_ended}
use Rattle.hc_term.proofs.Wanting.{active-wants}
use Rattle.hc_order.specs.Demand.{Advances, everyone}
use Rattle.hc_order.proofs.Ending.{halted_end_moves_are_all}
use Rattle.hc_member.specs.Ended.{is_ended}
use Rattle.hc_member.proofs.Showing.{ended_shown}
use Rattle.hc_verify.specs.declared.walk.Walk.{Walk}
use Rattle.hc_verify.specs.Stands.{IsAt}
use Rattle.hc_verify.specs.Halting.{AreStill, AllHalt}
use Rattle.hc_verify.specs.Following.{IsReached}
use Rattle.hc_verify.specs.Ending.{Reaches}
use Rattle.hc_verify.proofs.Stilling.{still_is_halted}
use Rattle.hc_verify.proofs.Delaying.{not_idle}

-- ---- a process that has ended

done_wants : (mark : Mark) (b : Option Rational) (todo : List Stmt) → is_done todo ≡ true → wants_at mark b todo ≡ false
done_wants mark b [] h = refl
done_wants mark b (head ∷ rest) h = absurd (true≢false (sym h))

done_in : (qs : List ProcessState) (p : ℕ) (q : ProcessState) → all_ended qs ≡ true → slice_get qs p ≡ Some q → is_done q.todo ≡ true
done_in [] p q h e = cc
done_in (y ∷ qs) zero q h e =
    let same : y ≡ q = cc in
    sym (ap (λ (x : ProcessState). is_done x.todo) same) ∙ (and_parts (is_done y.todo) (all_ended qs) h).0
done_in (y ∷ qs) (suc p) q h e = done_in qs p q (and_parts (is_done y.todo) (all_ended qs) h).1 e

still_where_ended : (t : Task) (d : Configuration) → all_ended d.processes ≡ true → AreStill t d
still_where_ended t d h p q there logged x s =
    let rest = done_wants q.mark (bound q) q.todo (done_in d.processes p q h there) in
    true≢false (sym (active-wants t.seed p d.clock q (not_idle logged x (silent t.seed p d.clock q) s)) ∙ rest)

-- ---- the end

module _ (t : Task) (at : Rational) (room : ℕ) (w : Walk) (c : Configuration) (r : IsReached t w room c) where
  pub other_clock : (at ≡ w.clock → ⊥) → Reaches t Terminated at room c None
  other_clock other m d adv here stops le = other (here ∙ sym adv.same_clock ∙ sym r.at.clock)

  pub never_still : (new : Walk) → AllHalt t room c new None → Reaches t Terminated at room c None
  never_still new h m d adv here stops le = h m d adv (still_where_ended t d stops) le

  module _ (m : ℕ) (d : Configuration) (advances : Advances everyone t m c d) (still : AreStill t d) where
    pub too_late : room ≤ m → Reaches t Terminated at room c None
    too_late past k e adv here stops le =
        let all = halted_end_moves_are_all t Terminated m k c d e advances (still_is_halted t d still) adv stops in
        omega (arith, all.0, past, le)

    module _ (new : Walk) (stands : IsAt t.system new d) (ps : List Post) (same : ps ≡ new.board.posts) (b : Bool)
        (test : b ≡ list_all (λ (p : Post). is_ended p.phase) ps) where
      ended_is : b ≡ all_ended d.processes
      ended_is = test ∙ ap (λ (l : List Post). list_all (λ (p : Post). is_ended p.phase) l) (same ∙ stands.shown) ∙ ended_shown d.clock d.processes

      pub not_ended : b ≡ false → Reaches t Terminated at room c None
      not_ended no_end k e adv here stops le =
          let all = halted_end_moves_are_all t Terminated m k c d e advances (still_is_halted t d still) adv stops in
          let ends : all_ended d.processes ≡ true = sym (ap (λ (x : Configuration). all_ended x.processes) all.1) ∙ stops in
          true≢false (sym ends ∙ sym ended_is ∙ no_end)

      pub ends_there : at ≡ w.clock → m < room → b ≡ true → Reaches t Terminated at room c (Some m)
      ends_there here low end = (low, (d, advances, here ∙ r.at.clock ∙ advances.same_clock, sym ended_is ∙ end))
