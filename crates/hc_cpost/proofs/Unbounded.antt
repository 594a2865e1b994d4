-- A process at communications has no bound; and where a place stands for a list, the code has an instruction there.
use Rattle.std.proofs.Common.{◌≡◌, refl, sym, ap, ◌∙◌, subst, ℕ, zero, suc, Bool, true, false, List, [], ◌∷◌, slice_get, Option, Some, None}
use Rattle.std.proofs.lemmas.Option.{same_Some}
use Rattle.hc_rational.specs.Words.{Rational}
use Rattle.hc_term.specs.declared.stmt.Stmt.{Stmt, out-Stmt}
use Rattle.hc_term.specs.declared.stmt.Stmt.TheOpen.{Stmt-F}
use Rattle.hc_term.specs.declared.model.Mark.{Mark}
use Rattle.hc_term.specs.declared.model.Mark.TheVariants.{Going, Arrived}
use Rattle.hc_term.specs.declared.model.ProcessState.{ProcessState}
use Rattle.hc_term.specs.Process.{Layer, bound_here, bound_at, is_due}
use Rattle.hc_term.specs.Offers.{post_at, post}
use Rattle.hc_code.specs.declared.code.Instr.{Instr}
use Rattle.hc_code.specs.declared.code.Instr.TheVariants as instr
use Rattle.hc_code.specs.Stands.{Table, AgreesHere, Agrees, AllAgree}
use Rattle.hc_cstep.specs.Locals.{Mine}
use Rattle.hc_cstep.specs.Stands as private
use Rattle.hc_cpost.specs.Posting.{is_over}
use Rattle.hc_cpost.proofs.Agreeing.{over_is}
use Rattle.hc_cpost.proofs.Posting.{MeetsUnbounded}

-- As in hc_step/proofs/Sees.
pub instr_at : (t ts : Table) (code : List Instr) (place : ℕ) (todo : List Stmt) → AllAgree t code ts → slice_get ts place ≡ Some todo →
    (i : Instr) × (slice_get code place ≡ Some i) × Agrees t i todo
instr_at t [] [] place todo h e = cc
instr_at t [] (j ∷ is) place todo h e = absurd h
instr_at t (l ∷ ls) [] place todo h e = absurd h
instr_at t (l ∷ ls) (j ∷ is) zero todo h e =
    let same : l ≡ todo = cc in
    (j, refl, subst (λ (ss : List Stmt). Agrees t j ss) same h.0)
instr_at t (l ∷ ls) (j ∷ is) (suc place) todo h e = instr_at t ls is place todo h.1 e

module _ (t : Table) (m : Mine) (own : List Rational) where
  as_unbounded : (i j : Instr) → i ≡ j → MeetsUnbounded m own j → MeetsUnbounded m own i
  as_unbounded i j e h = subst (λ (k : Instr). MeetsUnbounded m own k) (sym e) h

  -- where a statement that has arrived would have a bound, it isn't one of communications
  here_unbounded : (i : Instr) (head : Stmt) (rest : List Stmt) (l : Layer) → AgreesHere t i head rest l →
      (((s : List Rational) (left : Rational) → bound_here s left l ≡ None) → is_over m.bounded own ≡ false) → MeetsUnbounded m own i
  here_unbounded i head rest Stmt-F.Skip h f = as_unbounded i (instr.Skip h.0) h.1 tt
  here_unbounded i head rest (Stmt-F.Assign x e) h f = as_unbounded i (instr.Assign x e h.0) h.1 tt
  here_unbounded i head rest (Stmt-F.Log e) h f = as_unbounded i (instr.Log e h.0) h.1 tt
  here_unbounded i head rest (Stmt-F.Wait e) h f = as_unbounded i (instr.Wait e h.0) h.1 tt
  here_unbounded i head rest (Stmt-F.If c first second) h f = as_unbounded i (instr.Test c h.0 h.1) h.2 tt
  here_unbounded i head rest (Stmt-F.Loop c body) h f = as_unbounded i (instr.Test c h.0 h.1) h.2 tt
  here_unbounded i head rest (Stmt-F.Pick first second) h f = as_unbounded i (instr.Pick h.0 h.1) h.2 tt
  here_unbounded i head rest (Stmt-F.Forever body) h f = as_unbounded i (instr.Again h.0) h.1 tt
  here_unbounded i head rest (Stmt-F.Io io) h f = as_unbounded i (instr.Meet (record { io = io; next = h.0 } ∷ [])) h.1 (λ on. f (λ s left. refl))
  here_unbounded i head rest (Stmt-F.Choice branches) h f = as_unbounded i (instr.Meet h.0) h.1 (λ on. f (λ s left. refl))
  here_unbounded i head rest (Stmt-F.Evolve rates domain branches) h f = as_unbounded i (instr.Evolve rates domain h.0 h.1) h.2 tt

  unbounded_by : (clock : Rational) (i : Instr) (todo : List Stmt) (s : List Rational) (mark : Mark) → Agrees t i todo →
      private.BoundIs m.bounded own (post_at clock s (bound_at s mark todo) mark todo).bound → MeetsUnbounded m own i
  unbounded_by clock i [] s mark h k = as_unbounded i instr.End h tt
  unbounded_by clock i (head ∷ rest) s Going h k = here_unbounded i head rest (out-Stmt head) h (λ none. over_is m.bounded own None k)
  unbounded_by clock i (head ∷ rest) s (Arrived left) h k =
      here_unbounded i head rest (out-Stmt head) h (λ none. over_is m.bounded own (bound_here s left (out-Stmt head)) k ∙ ap is_due (none s left))

  pub meets_unbounded : (clock : Rational) (i : Instr) (q : ProcessState) → Agrees t i q.todo → private.Shows m.bounded own (post clock q) → MeetsUnbounded m own i
  meets_unbounded clock i q h shows = unbounded_by clock i q.todo q.store q.mark h shows.bound
