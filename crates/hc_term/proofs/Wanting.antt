-- A process that wants a silent step has one, or its working values don't fit.
use Rattle.std.proofs.Common.{◌≡◌, refl, sym, ap, ◌∙◌, subst, ℕ, zero, suc, ◌+◌, Bool, true, false, not, ◌&&◌, if◌then◌else◌, List, [], ◌∷◌, slice_get, slice_set, Option, Some, None, arith}
use Rattle.hc_rational.specs.Words.{Rational}
use Rattle.hc_term.specs.declared.stmt.Stmt.{Stmt, out-Stmt}
use Rattle.hc_term.specs.declared.stmt.Stmt.TheOpen.{Stmt-F}
use Rattle.hc_term.specs.declared.model.Mark.{Mark}
use Rattle.hc_term.specs.declared.model.Mark.TheVariants.{Going, Arrived}
use Rattle.hc_term.specs.declared.model.ProcessState.{ProcessState}
use Rattle.hc_term.specs.Process.{Layer, bound, is_due, wants, wants_at}
use Rattle.hc_term.specs.Silent.{Idle, Did, if_fit, goes_on, going_step, silent_at, silent}
use Rattle.hc_term.specs.Step.{rests}
use Rattle.hc_term.specs.Canonical.{wanting_from}
use Rattle.hc_term.proofs.Places.{StandsAt, stands_here, stands_later, stands_at}

-- ---- a wanted step is there

if_fit-not_idle : (b : Bool) (logged : Option Rational) (next : ProcessState) →
    if_fit b (Did logged next) ≡ Idle → ⊥
if_fit-not_idle true logged next e = cc
if_fit-not_idle false logged next e = cc

going_step-not_idle : (seed p : ℕ) (clock : Rational) (c : ProcessState) (head : Stmt) (rest : List Stmt) (l : Layer) →
    going_step seed p clock c head rest l ≡ Idle → ⊥
going_step-not_idle seed p clock c head rest Stmt-F.Skip e = cc
going_step-not_idle seed p clock c head rest (Stmt-F.Assign x a) e = if_fit-not_idle _ _ _ e
going_step-not_idle seed p clock c head rest (Stmt-F.Log a) e = if_fit-not_idle _ _ _ e
going_step-not_idle seed p clock c head rest (Stmt-F.If test first second) e = if_fit-not_idle _ _ _ e
going_step-not_idle seed p clock c head rest (Stmt-F.Pick left right) e = cc
going_step-not_idle seed p clock c head rest (Stmt-F.Forever body) e = cc
going_step-not_idle seed p clock c head rest (Stmt-F.Loop test body) e = if_fit-not_idle _ _ _ e
going_step-not_idle seed p clock c head rest (Stmt-F.Wait time) e = if_fit-not_idle _ _ _ e
going_step-not_idle seed p clock c head rest (Stmt-F.Io io) e = if_fit-not_idle _ _ _ e
going_step-not_idle seed p clock c head rest (Stmt-F.Choice branches) e = if_fit-not_idle _ _ _ e
going_step-not_idle seed p clock c head rest (Stmt-F.Evolve rates domain branches) e = if_fit-not_idle _ _ _ e

due_step-not_idle : (c : ProcessState) (rest : List Stmt) (b : Bool) → b ≡ true →
    (if b then goes_on c rest else Idle) ≡ Idle → ⊥
due_step-not_idle c rest true h e = cc
due_step-not_idle c rest false h e = cc

silent_at-not_idle : (seed p : ℕ) (clock : Rational) (c : ProcessState) (mark : Mark) (todo : List Stmt) →
    wants_at mark (bound c) todo ≡ true → silent_at seed p clock c mark todo ≡ Idle → ⊥
silent_at-not_idle seed p clock c mark [] h e = cc
silent_at-not_idle seed p clock c Going (head ∷ rest) h e =
    going_step-not_idle seed p clock c head rest (out-Stmt head) e
silent_at-not_idle seed p clock c (Arrived left) (head ∷ rest) h e =
    due_step-not_idle c rest (is_due (bound c)) h e

pub silent-not_idle : (seed p : ℕ) (clock : Rational) (c : ProcessState) → wants c ≡ true →
    silent seed p clock c ≡ Idle → ⊥
silent-not_idle seed p clock c = silent_at-not_idle seed p clock c c.mark c.todo

-- and one that wants none has none
idle_if-not_due : (c : ProcessState) (rest : List Stmt) (b : Bool) → b ≡ false →
    (if b then goes_on c rest else Idle) ≡ Idle
idle_if-not_due c rest true h = cc
idle_if-not_due c rest false h = refl

silent_at-idle : (seed p : ℕ) (clock : Rational) (c : ProcessState) (mark : Mark) (todo : List Stmt) →
    wants_at mark (bound c) todo ≡ false → silent_at seed p clock c mark todo ≡ Idle
silent_at-idle seed p clock c mark [] h = refl
silent_at-idle seed p clock c Going (head ∷ rest) h = cc
silent_at-idle seed p clock c (Arrived left) (head ∷ rest) h = idle_if-not_due c rest (is_due (bound c)) h

pub active-wants : (seed p : ℕ) (clock : Rational) (c : ProcessState) → (silent seed p clock c ≡ Idle → ⊥) →
    wants c ≡ true
active-wants seed p clock c h = by_test (wants c) refl where
  by_test : (b : Bool) → wants c ≡ b → wants c ≡ true
  by_test true e = e
  by_test false e = absurd (h (silent_at-idle seed p clock c c.mark c.todo e))

-- ---- the least process that wants one

-- there is a process there, and it wants a silent step
pub record WantsAt (o : Option ProcessState) : Type 0 where
  pub process : ProcessState
  pub there : o ≡ Some process
  pub wanting : wants process ≡ true

wanting_next : (from : ℕ) (q : ProcessState) (qs : List ProcessState) (p : ℕ) (b : Bool) → wants q ≡ b →
    (wanting_from (from + 1) qs ≡ Some p → StandsAt WantsAt (from + 1) qs p) →
    (if b then Some from else wanting_from (from + 1) qs) ≡ Some p → StandsAt WantsAt from (q ∷ qs) p
wanting_next from q qs p true h ih e =
    let same : from ≡ p = cc in
    subst (λ k. StandsAt WantsAt from (q ∷ qs) k) same
    (stands_here WantsAt from q qs (record { process = q; there = refl; wanting = h }))
wanting_next from q qs p false h ih e = stands_later WantsAt from p q qs (ih e)

wanting_from-wanting : (from : ℕ) (ps : List ProcessState) (p : ℕ) → wanting_from from ps ≡ Some p →
    StandsAt WantsAt from ps p
wanting_from-wanting from [] p e = cc
wanting_from-wanting from (q ∷ qs) p e =
    wanting_next from q qs p (wants q) refl (wanting_from-wanting (from + 1) qs p) e

pub least-wants : (ps : List ProcessState) (p : ℕ) → wanting_from 0 ps ≡ Some p → WantsAt (slice_get ps p)
least-wants ps p e = stands_at WantsAt ps p (wanting_from-wanting 0 ps p e)

rests_next : (from : ℕ) (q : ProcessState) (qs : List ProcessState) (b : Bool) →
    (wanting_from (from + 1) qs ≡ None → rests qs ≡ true) →
    (if b then Some from else wanting_from (from + 1) qs) ≡ None → (not b && rests qs) ≡ true
rests_next from q qs true ih e = cc
rests_next from q qs false ih e = ih e

pub rests_where_none_wants : (from : ℕ) (ps : List ProcessState) → wanting_from from ps ≡ None → rests ps ≡ true
rests_where_none_wants from [] e = refl
rests_where_none_wants from (q ∷ qs) e = rests_next from q qs (wants q) (rests_where_none_wants (from + 1) qs) e

resting_next : (from : ℕ) (q : ProcessState) (qs : List ProcessState) (b : Bool) →
    (rests qs ≡ true → wanting_from (from + 1) qs ≡ None) → (not b && rests qs) ≡ true →
    (if b then Some from else wanting_from (from + 1) qs) ≡ None
resting_next from q qs true ih e = cc
resting_next from q qs false ih e = ih e

pub none_wants_where_rests : (from : ℕ) (ps : List ProcessState) → rests ps ≡ true → wanting_from from ps ≡ None
none_wants_where_rests from [] e = refl
none_wants_where_rests from (q ∷ qs) e = resting_next from q qs (wants q) (none_wants_where_rests (from + 1) qs) e

-- the least process that wants one stays so with another state that wants one
least_here : (from : ℕ) (b : Bool) (o : Option ℕ) → b ≡ true → (if b then Some from else o) ≡ Some (from + 0)
least_here from true o e = ap Some (omega arith)
least_here from false o e = cc

least_later : (from i : ℕ) (b : Bool) (old new : Option ℕ) →
    (old ≡ Some (from + 1 + i) → new ≡ Some (from + 1 + i)) →
    (if b then Some from else old) ≡ Some (from + suc i) → (if b then Some from else new) ≡ Some (from + suc i)
least_later from i true old new ih e = e
least_later from i false old new ih e =
    let same : from + suc i ≡ from + 1 + i = omega arith in
    ih (e ∙ ap Some same) ∙ ap Some (sym same)

wanting_from-set : (from i : ℕ) (qs : List ProcessState) (x : ProcessState) → wants x ≡ true →
    wanting_from from qs ≡ Some (from + i) → wanting_from from (slice_set qs i x) ≡ Some (from + i)
wanting_from-set from i [] x h e = e
wanting_from-set from zero (q ∷ qs) x h e = least_here from (wants x) (wanting_from (from + 1) qs) h
wanting_from-set from (suc i) (q ∷ qs) x h e =
    least_later from i (wants q) (wanting_from (from + 1) qs) (wanting_from (from + 1) (slice_set qs i x))
    (wanting_from-set (from + 1) i qs x h) e

pub least-set : (qs : List ProcessState) (p : ℕ) (x : ProcessState) → wants x ≡ true →
    wanting_from 0 qs ≡ Some p → wanting_from 0 (slice_set qs p x) ≡ Some p
least-set qs p x h e =
    let same : p ≡ 0 + p = omega arith in
    wanting_from-set 0 p qs x h (e ∙ ap Some same) ∙ ap Some (sym same)
