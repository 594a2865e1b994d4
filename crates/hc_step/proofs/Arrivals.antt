-- The step of an arrival: it is taken exactly where all fits, and then the local stands for the configuration that arrived.
use Rattle.std.proofs.Common.{◌≡◌, refl, sym, ap, ap₂, ◌∙◌, subst, ℕ, Bool, true, false, ◌&&◌, IsTrue, List, [], ◌∷◌, take, Some, None, Ok, Err}
use Rattle.std.specs.Prelude.{slice_get}
use Rattle.std.specs.List.{list_all}
use Rattle.hc_rational.specs.Words.{Rational, zero_ℚ}
use Rattle.hc_term.specs.declared.run.Unfit.{Unfit}
use Rattle.hc_term.specs.declared.run.StretchEnd.TheVariants as ends
use Rattle.hc_term.specs.declared.stmt.Io.{Io}
use Rattle.hc_term.specs.declared.stmt.Stmt.{Stmt, out-Stmt}
use Rattle.hc_term.specs.declared.stmt.Stmt.TheOpen.{Stmt-F}
use Rattle.hc_term.specs.declared.stmt.Branch.{Branch, out-Branch}
use Rattle.hc_term.specs.declared.post.Phase.TheVariants as phase
use Rattle.hc_term.specs.declared.model.Mark.{Mark}
use Rattle.hc_term.specs.declared.model.Mark.TheVariants.{Going, Arrived}
use Rattle.hc_term.specs.declared.model.ProcessState.{ProcessState}
use Rattle.hc_term.specs.Value.{Store}
use Rattle.hc_term.specs.Motion.{rates_in}
use Rattle.hc_term.specs.EndMoment.{domain_fits, end_moment}
use Rattle.hc_term.specs.Evaluated.{if_fitting}
use Rattle.hc_term.specs.Process.{Layer, bound_at}
use Rattle.hc_term.specs.Offers.{going_post, post_at}
use Rattle.hc_term.specs.Silent.{Outcome, silent, silent_at, if_fit, arrives, going_step, sent_fits, guard_fits, rates_fit, due_fits}
use Rattle.hc_code.specs.declared.code.Way.{Way}
use Rattle.hc_code.specs.declared.code.Instr.{Instr}
use Rattle.hc_code.specs.Stands.{Table, At, AgreesHere, WaysAgree, Agrees, AllAgree}
use Rattle.hc_step.specs.declared.local.Local.{Local}
use Rattle.hc_step.specs.declared.stretch.Stepped.TheVariants.{Took, Ends}
use Rattle.hc_step.specs.Arriving.{is_stay, is_arriving, may_arrive, left_at, plain_post, post_of}
use Rattle.hc_step.specs.Represents.{Represents}
use Rattle.hc_step.specs.Stepping.{Steps, end_before}
use Rattle.hc_step.proofs.Fitting.{answer_is, answer_fits}
use Rattle.hc_step.proofs.Sees.{agrees_at}
use Rattle.hc_step.proofs.Shown.{never, arrived_shows}

-- ---- what must fit

-- the ways of branches communicate the same
ways_all : (f : Io → Bool) (t : Table) (rest : List Stmt) (ways : List Way) (bs : List Branch) → WaysAgree t rest ways bs →
    list_all (λ w. f w.io) ways ≡ list_all (λ b. f (out-Branch b).io) bs
ways_all f t rest [] [] h = refl
ways_all f t rest [] (b ∷ bs) h = absurd h
ways_all f t rest (w ∷ ws) [] h = absurd h
ways_all f t rest (w ∷ ws) (b ∷ bs) h = ap₂ (λ (x y : Bool). x && y) (ap f h.0) (ways_all f t rest ws bs h.2)

one_fits : (b : Bool) → (b && true) ≡ b
one_fits true = refl
one_fits false = refl

regrouped : (a b c d : Bool) → (a && b && c && d) ≡ (a && (b && c && d))
regrouped true b c d = refl
regrouped false b c d = refl

module _ (t : Table) (seed p : ℕ) (clock : Rational) (q : ProcessState) (i : Instr) where
  abbrev arrival : Instr → Outcome
  arrival j = if_fit (may_arrive clock q.store j) (arrives q (left_at q.store j))

  abbrev Arrives : Stmt → List Stmt → Layer → Instr → Type 0
  Arrives head rest l j = going_step seed p clock q head rest l ≡ arrival j

  arrival_here : (head : Stmt) (rest : List Stmt) (l : Layer) → AgreesHere t i head rest l → is_stay i ≡ true → Arrives head rest l i
  arrival_here head rest Stmt-F.Skip h m = never i _ h.1 refl m
  arrival_here head rest (Stmt-F.Assign x e) h m = never i _ h.1 refl m
  arrival_here head rest (Stmt-F.Log e) h m = never i _ h.1 refl m
  arrival_here head rest (Stmt-F.Wait e) h m = subst (Arrives head rest (Stmt-F.Wait e)) (sym h.1) refl
  arrival_here head rest (Stmt-F.If c first second) h m = never i _ h.2 refl m
  arrival_here head rest (Stmt-F.Loop c body) h m = never i _ h.2 refl m
  arrival_here head rest (Stmt-F.Pick first second) h m = never i _ h.2 refl m
  arrival_here head rest (Stmt-F.Forever body) h m = never i _ h.1 refl m
  arrival_here head rest (Stmt-F.Io io) h m =
      subst (Arrives head rest (Stmt-F.Io io)) (sym h.1)
      (ap (λ (b : Bool). if_fit b (arrives q zero_ℚ)) (sym (one_fits (sent_fits q.store io))))
  arrival_here head rest (Stmt-F.Choice bs) h m =
      subst (Arrives head rest (Stmt-F.Choice bs)) (sym h.1)
      (ap (λ (b : Bool). if_fit b (arrives q zero_ℚ)) (sym (ways_all (sent_fits q.store) t rest h.0 bs h.2)))
  arrival_here head rest (Stmt-F.Evolve rates c bs) h m =
      let s = q.store in
      let r = rates_in rates s in
      let guards = list_all (λ b. guard_fits s r (out-Branch b).io) bs in
      subst (Arrives head rest (Stmt-F.Evolve rates c bs)) (sym h.2)
      (ap (λ (b : Bool). if_fit b (arrives q zero_ℚ))
      (regrouped (rates_fit s rates) (domain_fits s r c) guards (due_fits clock (end_moment s r c))
      ∙ ap (λ (g : Bool). rates_fit s rates && (domain_fits s r c && g && due_fits clock (end_moment s r c))) (sym (ways_all (guard_fits s r) t rest h.0 bs h.3))))

  arrival_at : (todo : List Stmt) → Agrees t i todo → is_stay i ≡ true → silent_at seed p clock q Going todo ≡ arrival i
  arrival_at [] h m = never i _ h refl m
  arrival_at (head ∷ rest) h m = arrival_here head rest (out-Stmt head) h m

  shows_going : (s : Store) (todo : List Stmt) → Agrees t i todo → is_stay i ≡ true → going_post ≡ post_at clock s None Going todo
  shows_going s [] h m = never i _ h refl m
  shows_going s (head ∷ rest) h m = refl

arriving_parts : (m : Mark) (i : Instr) → IsTrue (is_arriving m i) → (m ≡ Going) × (is_stay i ≡ true)
arriving_parts Going i h = (refl, h)
arriving_parts (Arrived left) i h = cc

-- ---- an arrival of a local

module _ (t : Table) (code : List Instr) (seed p : ℕ) (clock : Rational) (q : ProcessState) (i : Instr) (old : Local) (all : AllAgree t code t)
    (here : slice_get code old.place ≡ Some i) (arriving : IsTrue (is_arriving old.mark i)) (r : Represents t clock old q) where
  going : q.mark ≡ Going
  going = sym r.same_mark ∙ (arriving_parts old.mark i arriving).0

  stays : is_stay i ≡ true
  stays = (arriving_parts old.mark i arriving).1

  agrees : Agrees t i q.todo
  agrees = agrees_at t t code old.place q.todo i all r.at_place here

  silent_is : silent seed p clock q ≡ if_fit (may_arrive clock q.store i) (arrives q (left_at q.store i))
  silent_is = ap (λ (m : Mark). silent_at seed p clock q m q.todo) going ∙ arrival_at t seed p clock q i q.todo agrees stays

  pub took : (left : Rational) (new : Local) → Ok left ≡ if_fitting (may_arrive clock (take old.variables old.store) i) (left_at (take old.variables old.store) i) →
      new.place ≡ old.place → take new.variables new.store ≡ take old.variables old.store → new.choices ≡ old.choices → new.mark ≡ Arrived left →
      new.post ≡ post_of clock (take old.variables old.store) i → Steps t clock q (silent seed p clock q) new Took
  took left new fit place store choices mark shows =
      let same = r.same_store in
      let fits : may_arrive clock q.store i ≡ true =
      ap (λ (s : Store). may_arrive clock s i) (sym same) ∙ answer_fits _ _ _ fit in
      let is : left ≡ left_at q.store i = answer_is _ _ _ fit ∙ ap (λ (s : Store). left_at s i) same in
      subst (λ (o : Outcome). Steps t clock q o new Took)
      (sym (silent_is ∙ ap (λ (b : Bool). if_fit b (arrives q (left_at q.store i))) fits)) (
        refl,
        record {
          at_place = subst (λ (n : ℕ). At t n q.todo) (sym place) r.at_place;
          same_store = store ∙ same;
          same_choices = choices ∙ r.same_choices;
          same_mark = mark ∙ ap Arrived is;
          same_post = shows ∙ ap (λ (s : Store). post_of clock s i) same ∙ arrived_shows t clock q.store i q.todo agrees stays;
        },
      )

  unfit_is : (e : Unfit) → Err e ≡ if_fitting (may_arrive clock (take old.variables old.store) i) (left_at (take old.variables old.store) i) →
      may_arrive clock q.store i ≡ false
  unfit_is e h = ap (λ (s : Store). may_arrive clock s i) (sym r.same_store) ∙ by (may_arrive clock (take old.variables old.store) i) (left_at (take old.variables old.store) i) h
    where
      by : (b : Bool) (v : Rational) → Err e ≡ if_fitting b v → b ≡ false
      by true v h = cc
      by false v h = refl

  pub stopped : (e : Unfit) (new : Local) → Err e ≡ if_fitting (may_arrive clock (take old.variables old.store) i) (left_at (take old.variables old.store) i) →
      new.place ≡ old.place → take new.variables new.store ≡ take old.variables old.store → new.choices ≡ old.choices → new.mark ≡ old.mark →
      new.post ≡ plain_post phase.Going → Steps t clock q (silent seed p clock q) new (Ends ends.Unfit)
  stopped e new fit place store choices mark shows =
      subst (λ (o : Outcome). Steps t clock q o new (Ends ends.Unfit))
      (sym (silent_is ∙ ap (λ (b : Bool). if_fit b (arrives q (left_at q.store i))) (unfit_is e fit))) (
        refl,
        record {
          at_place = subst (λ (n : ℕ). At t n q.todo) (sym place) r.at_place;
          same_store = store ∙ r.same_store;
          same_choices = choices ∙ r.same_choices;
          same_mark = mark ∙ r.same_mark;
          same_post = shows ∙ shows_going t seed p clock q i q.store q.todo agrees stays
              ∙ ap (λ (m : Mark). post_at clock q.store (bound_at q.store m q.todo) m q.todo) (sym going);
        },
      )

  pub spent_arriving : (left : Rational) → Ok left ≡ if_fitting (may_arrive clock (take old.variables old.store) i) (left_at (take old.variables old.store) i) →
      ends.Spent ≡ end_before q (silent seed p clock q)
  spent_arriving left fit =
      let fits : may_arrive clock q.store i ≡ true =
      ap (λ (s : Store). may_arrive clock s i) (sym r.same_store) ∙ answer_fits _ _ _ fit in
      ap (end_before q) (sym (silent_is ∙ ap (λ (b : Bool). if_fit b (arrives q (left_at q.store i))) fits))

  pub spent_unfit_arriving : (e : Unfit) → Err e ≡ if_fitting (may_arrive clock (take old.variables old.store) i) (left_at (take old.variables old.store) i) →
      ends.Unfit ≡ end_before q (silent seed p clock q)
  spent_unfit_arriving e fit =
      ap (end_before q) (sym (silent_is ∙ ap (λ (b : Bool). if_fit b (arrives q (left_at q.store i))) (unfit_is e fit)))
