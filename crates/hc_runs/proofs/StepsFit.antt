-- What a silent step or a communication leaves of a process has fractions alone, and so has what it logs: by their working values.
use Rattle.std.proofs.Common.{◌≡◌, refl, sym, subst, ◌∙◌, ℕ, zero, suc, ◌+◌, Bool, true, false, ◌&&◌, if◌then◌else◌, List, [], ◌∷◌, ◌++◌, replicate, slice_set, Option, Some, None}
use Rattle.std.specs.List.{list_all}
use Rattle.std.proofs.lemmas.Bool.{and_parts, and_from}
use Rattle.hc_rational.specs.Words.{Rational, zero_ℚ, fits, greater}
use Rattle.hc_rational.proofs.FitsLaws.{zero_fits}
use Rattle.hc_term.specs.declared.stmt.Stmt.{Stmt, out-Stmt}
use Rattle.hc_term.specs.declared.stmt.Stmt.TheOpen.{Stmt-F}
use Rattle.hc_term.specs.declared.model.Mark.{Mark}
use Rattle.hc_term.specs.declared.model.Mark.TheVariants.{Going, Arrived}
use Rattle.hc_term.specs.declared.model.ProcessState.{ProcessState}
use Rattle.hc_term.specs.Value.{Store, val, holds, is_fitting, is_fitting_test}
use Rattle.hc_term.specs.EndMoment.{fits_if}
use Rattle.hc_term.specs.Process.{Layer, bound, is_due}
use Rattle.hc_term.specs.Silent.{Outcome, Idle, Unfit, Did, if_fit, goes_on, picks_left, due_fits, sent_fits, branches_fit, evolution_fits, going_step, silent}
use Rattle.hc_term.specs.Offers.{post}
use Rattle.hc_term.specs.Communication.{sent_at, sent, received_here, received}
use Rattle.hc_runs.specs.Fractions.{numbers_in, all_numbers, shows_fractions, is_mark_fraction}
use Rattle.hc_runs.proofs.ValuesFit.{value_fits}
use Rattle.hc_runs.proofs.Numbered.{numbers_here, numbers_is}
use Rattle.hc_runs.proofs.ShownFit.{here, set_fits, wait_shows, io_shows, choice_shows, evolve_shows}

-- a process whose numbers are fractions
pub record Fractions (clock : Rational) (q : ProcessState) : Type 0 where
  pub stored : list_all fits q.store ≡ true
  pub marked : is_mark_fraction q.mark ≡ true
  pub shown : shows_fractions (post clock q) ≡ true

abbrev pub with_parts : List Stmt → Store → ℕ → Mark → ProcessState
with_parts todo store choices mark = record { todo = todo; store = store; choices = choices; mark = mark }

-- a process that is going shows no numbers
going_shows : (clock : Rational) (todo : List Stmt) (store : Store) (choices : ℕ) → shows_fractions (post clock (with_parts todo store choices Going)) ≡ true
going_shows clock [] store choices = refl
going_shows clock (head ∷ rest) store choices = refl

going : (clock : Rational) (todo : List Stmt) (store : Store) (choices : ℕ) → list_all fits store ≡ true → Fractions clock (with_parts todo store choices Going)
going clock todo store choices h = record { stored = h; marked = refl; shown = going_shows clock todo store choices }

-- ---- a silent step

-- what is logged fits, and the next state has fractions
abbrev pub KeepsFractions : Rational → Outcome → Type 0
KeepsFractions clock Idle = Unit {0}
KeepsFractions clock Unfit = Unit {0}
KeepsFractions clock (Did logged q) = (fits_if logged ≡ true) × Fractions clock q

fit : (clock : Rational) (b : Bool) (logged : Option Rational) (q : ProcessState) → (b ≡ true → (fits_if logged ≡ true) × Fractions clock q) →
    KeepsFractions clock (if_fit b (Did logged q))
fit clock true logged q h = h refl
fit clock false logged q h = tt

module _ (seed p : ℕ) (clock : Rational) (head : Stmt) (rest : List Stmt) (store : Store) (choices : ℕ) (stored : list_all fits store ≡ true) where
  abbrev q : ProcessState
  q = with_parts (head ∷ rest) store choices Going

  -- it goes on, and logs nothing
  on : (todo : List Stmt) (store : Store) (choices : ℕ) → list_all fits store ≡ true → (fits_if None ≡ true) × Fractions clock (with_parts todo store choices Going)
  on todo store choices h = (refl, going clock todo store choices h)

  arrived : (left : Rational) (l : Layer) → out-Stmt head ≡ l → fits left ≡ true → shows_fractions (here clock store left l) ≡ true →
      (fits_if None ≡ true) × Fractions clock (with_parts (head ∷ rest) store choices (Arrived left))
  arrived left l e h k = (
    refl,
    record { stored = stored; marked = h; shown = subst (λ (l : Layer). shows_fractions (here clock store left l) ≡ true) (sym e) k },
  )

  going_keeps : (l : Layer) → out-Stmt head ≡ l → numbers_here l ≡ true → KeepsFractions clock (going_step seed p clock q head rest l)
  going_keeps Stmt-F.Skip e n = on rest store choices stored
  going_keeps (Stmt-F.Assign x a) e n =
      fit clock (is_fitting store a) _ _ (λ h. on rest (slice_set store x (val store a)) choices (set_fits store x (val store a) stored (value_fits store stored a n h)))
  going_keeps (Stmt-F.Log a) e n = fit clock (is_fitting store a) _ _ (λ h. (value_fits store stored a n h, going clock rest store choices stored))
  going_keeps (Stmt-F.If test first second) e n = fit clock (is_fitting_test store test) _ _ (λ h. on ((if holds store test then first else second) ++ rest) store choices stored)
  going_keeps (Stmt-F.Pick left right) e n = on ((if picks_left seed p choices then left else right) ++ rest) store (choices + 1) stored
  going_keeps (Stmt-F.Forever body) e n = on (body ++ head ∷ rest) store choices stored
  going_keeps (Stmt-F.Loop test body) e n = fit clock (is_fitting_test store test) _ _ (λ h. on (if holds store test then body ++ head ∷ rest else rest) store choices stored)
  going_keeps (Stmt-F.Wait time) e n =
      let v = val store time in
      fit clock (is_fitting store time && due_fits clock (Some (greater zero_ℚ v))) _ _ (λ h.
      let parts = and_parts (is_fitting store time) (due_fits clock (Some (greater zero_ℚ v))) h in
      let left = value_fits store stored time n parts.0 in
      arrived v (Stmt-F.Wait time) e left (wait_shows store stored clock v time left parts.1))
  going_keeps (Stmt-F.Io io) e n = fit clock (sent_fits store io) _ _ (λ h. arrived zero_ℚ (Stmt-F.Io io) e zero_fits (io_shows store stored clock zero_ℚ io n h))
  going_keeps (Stmt-F.Choice bs) e n =
      fit clock (branches_fit store bs) _ _ (λ h. arrived zero_ℚ (Stmt-F.Choice bs) e zero_fits (choice_shows store stored clock zero_ℚ bs n h))
  going_keeps (Stmt-F.Evolve rs c bs) e n =
      fit clock (evolution_fits clock store rs c bs) _ _ (λ h. arrived zero_ℚ (Stmt-F.Evolve rs c bs) e zero_fits (evolve_shows store stored clock zero_ℚ rs c bs n h))

due_keeps : (clock : Rational) (rest : List Stmt) (q : ProcessState) (b : Bool) → list_all fits q.store ≡ true → KeepsFractions clock (if b then goes_on q rest else Idle)
due_keeps clock rest q true h = (refl, going clock rest q.store q.choices h)
due_keeps clock rest q false h = tt

head_numbers : (head : Stmt) (rest : List Stmt) → all_numbers (head ∷ rest) ≡ true → numbers_here (out-Stmt head) ≡ true
head_numbers head rest n = sym (numbers_is head) ∙ (and_parts (numbers_in head) (all_numbers rest) n).0

silent_by_parts : (seed p : ℕ) (clock : Rational) (todo : List Stmt) (store : Store) (choices : ℕ) (mark : Mark) → let q = with_parts todo store choices mark in
    all_numbers todo ≡ true → Fractions clock q → KeepsFractions clock (silent seed p clock q)
silent_by_parts seed p clock [] store choices mark n h = tt
silent_by_parts seed p clock (head ∷ rest) store choices Going n h =
    going_keeps seed p clock head rest store choices h.stored (out-Stmt head) refl (head_numbers head rest n)
silent_by_parts seed p clock (head ∷ rest) store choices (Arrived left) n h =
    let q = with_parts (head ∷ rest) store choices (Arrived left) in
    due_keeps clock rest q (is_due (bound q)) h.stored

pub silent_fits : (seed p : ℕ) (clock : Rational) (q : ProcessState) → all_numbers q.todo ≡ true → Fractions clock q → KeepsFractions clock (silent seed p clock q)
silent_fits seed p clock q n h = silent_by_parts seed p clock q.todo q.store q.choices q.mark n h

-- ---- a communication

pub sent_fractions : (clock : Rational) (c : ℕ) (q : ProcessState) → Fractions clock q → Fractions clock (sent c q)
sent_fractions clock c q h = going clock (sent_at c q.todo) q.store q.choices h.stored

received_by_parts : (clock : Rational) (c : ℕ) (v : Rational) (todo : List Stmt) (store : Store) (choices : ℕ) (mark : Mark) → let q = with_parts todo store choices mark in
    fits v ≡ true → Fractions clock q → Fractions clock (received c v q)
received_by_parts clock c v [] store choices mark k h = h
received_by_parts clock c v (head ∷ rest) store choices mark k h =
    let taken = received_here c (out-Stmt head) in
    going clock (taken.1 ++ rest) (slice_set store taken.0 v) choices (set_fits store taken.0 v h.stored k)

pub received_fractions : (clock : Rational) (c : ℕ) (v : Rational) (q : ProcessState) → fits v ≡ true → Fractions clock q → Fractions clock (received c v q)
received_fractions clock c v q k h = received_by_parts clock c v q.todo q.store q.choices q.mark k h

-- ---- the opening

-- a process begins with values of 0
zeros_fit : (n : ℕ) → list_all fits (replicate n zero_ℚ) ≡ true
zeros_fit zero = refl
zeros_fit (suc n) = and_from (fits zero_ℚ) (list_all fits (replicate n zero_ℚ)) zero_fits (zeros_fit n)

pub opening_fractions : (clock : Rational) (body : List Stmt) (n : ℕ) → Fractions clock (with_parts body (replicate n zero_ℚ) 0 Going)
opening_fractions clock body n = going clock body (replicate n zero_ℚ) 0 (zeros_fit n)
