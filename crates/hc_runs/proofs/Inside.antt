-- What a step leaves to do is made of what was to do: of its statements and of those inside them. So a test on statements that
-- passes on to what is inside holds of what is left, where it held of the whole.
use Rattle.std.proofs.Common.{◌≡◌, refl, sym, ap, ◌∙◌, ℕ, Bool, true, false, ◌&&◌, ◌==◌, if◌then◌else◌, List, [], ◌∷◌, ◌++◌, length, Option}
use Rattle.std.specs.List.{list_all}
use Rattle.std.proofs.lemmas.Bool.{and_parts, and_from}
use Rattle.std.proofs.lemmas.List.Folds.{list_all-append}
use Rattle.hc_rational.specs.Words.{Rational}
use Rattle.hc_term.specs.declared.stmt.Io.{Io}
use Rattle.hc_term.specs.declared.stmt.Io.TheVariants.{Send, Receive}
use Rattle.hc_term.specs.declared.stmt.Stmt.{Stmt, out-Stmt}
use Rattle.hc_term.specs.declared.stmt.Stmt.TheOpen.{Stmt-F}
use Rattle.hc_term.specs.declared.stmt.Branch.{Branch, out-Branch}
use Rattle.hc_term.specs.declared.model.Mark.{Mark}
use Rattle.hc_term.specs.declared.model.Mark.TheVariants.{Going, Arrived}
use Rattle.hc_term.specs.declared.model.ProcessState.{ProcessState}
use Rattle.hc_term.specs.Value.{Store, val, holds}
use Rattle.hc_term.specs.Motion.{rates_in}
use Rattle.hc_term.specs.Process.{Layer, bound, is_due}
use Rattle.hc_term.specs.Silent.{Outcome, Idle, Unfit, Did, if_fit, goes_on, picks_left, going_step, silent}
use Rattle.hc_term.specs.Communication.{if_sends, sent_branch, sent_here, sent_at, sent, Taken, if_receives, received_branch, received_here, received_at, received, moved_store, moved_at, moved}
use Rattle.hc_runs.proofs.Basics.{length-set}
use Rattle.hc_runs.proofs.Later.{length-after}

-- ---- a test on statements

module _ (f : Stmt → Bool) where
  abbrev pub all_in_branches : List Branch → Bool
  all_in_branches bs = list_all (λ b. list_all f (out-Branch b).body) bs

  -- whether the test holds of each statement directly inside one of this layer
  abbrev pub all_inside : Layer → Bool
  all_inside (Stmt-F.If test first second) = list_all f first && list_all f second
  all_inside (Stmt-F.Pick left right) = list_all f left && list_all f right
  all_inside (Stmt-F.Forever body) = list_all f body
  all_inside (Stmt-F.Loop test body) = list_all f body
  all_inside (Stmt-F.Choice branches) = all_in_branches branches
  all_inside (Stmt-F.Evolve rates domain branches) = all_in_branches branches
  all_inside _ = true

  abbrev pub PassesInside : Type 0
  PassesInside = (s : Stmt) → f s ≡ true → all_inside (out-Stmt s) ≡ true

-- ---- what is inside, and what is made of it

pub record IsInside (l : Layer) (front : List Stmt) : Type 0 where
  pub passed : (f : Stmt → Bool) → all_inside f l ≡ true → list_all f front ≡ true

pub record IsMadeOf (before later : List Stmt) : Type 0 where
  pub passed : (f : Stmt → Bool) → PassesInside f → list_all f before ≡ true → list_all f later ≡ true

inside_none : (l : Layer) → IsInside l []
inside_none l = record { passed = λ f h. refl }

inside_either : (l : Layer) (ss rs : List Stmt) (b : Bool) → ((f : Stmt → Bool) → all_inside f l ≡ (list_all f ss && list_all f rs)) → IsInside l (if b then ss else rs)
inside_either l ss rs true same = record { passed = λ f h. (and_parts (list_all f ss) (list_all f rs) (sym (same f) ∙ h)).0 }
inside_either l ss rs false same = record { passed = λ f h. (and_parts (list_all f ss) (list_all f rs) (sym (same f) ∙ h)).1 }

module _ (f : Stmt → Bool) where
  sends_pass : (c : ℕ) (io : Io) (front other : List Stmt) → list_all f front ≡ true → list_all f other ≡ true → list_all f (if_sends c io front other) ≡ true
  sends_pass c (Send channel value) front other h k = by_test (channel == c) where
    by_test : (b : Bool) → list_all f (if b then front else other) ≡ true
    by_test true = h
    by_test false = k
  sends_pass c (Receive channel variable) front other h k = k

  receives_pass : (c : ℕ) (io : Io) (front : List Stmt) (other : Taken) → list_all f front ≡ true → list_all f other.1 ≡ true →
      list_all f (if_receives c io front other).1 ≡ true
  receives_pass c (Send channel value) front other h k = k
  receives_pass c (Receive channel variable) front other h k = by_test (channel == c) where
    by_test : (b : Bool) → list_all f (if b then (variable, front) else other).1 ≡ true
    by_test true = h
    by_test false = k

  sent_branch-passes : (c : ℕ) (bs : List Branch) → all_in_branches f bs ≡ true → list_all f (sent_branch c bs) ≡ true
  sent_branch-passes c [] h = refl
  sent_branch-passes c (b ∷ bs) h =
      let parts = and_parts (list_all f (out-Branch b).body) (all_in_branches f bs) h in
      sends_pass c (out-Branch b).io (out-Branch b).body (sent_branch c bs) parts.0 (sent_branch-passes c bs parts.1)

  received_branch-passes : (c : ℕ) (bs : List Branch) → all_in_branches f bs ≡ true → list_all f (received_branch c bs).1 ≡ true
  received_branch-passes c [] h = refl
  received_branch-passes c (b ∷ bs) h =
      let parts = and_parts (list_all f (out-Branch b).body) (all_in_branches f bs) h in
      receives_pass c (out-Branch b).io (out-Branch b).body (received_branch c bs) parts.0 (received_branch-passes c bs parts.1)

inside_sent : (c : ℕ) (l : Layer) → IsInside l (sent_here c l)
inside_sent c (Stmt-F.Choice branches) = record { passed = λ f h. sent_branch-passes f c branches h }
inside_sent c (Stmt-F.Evolve rates domain branches) = record { passed = λ f h. sent_branch-passes f c branches h }
inside_sent c _ = inside_none _

inside_received : (c : ℕ) (l : Layer) → IsInside l (received_here c l).1
inside_received c (Stmt-F.Io io) = record { passed = λ f h. receives_pass f c io [] (0, []) refl refl }
inside_received c (Stmt-F.Choice branches) = record { passed = λ f h. received_branch-passes f c branches h }
inside_received c (Stmt-F.Evolve rates domain branches) = record { passed = λ f h. received_branch-passes f c branches h }
inside_received c _ = inside_none _

module _ (before : List Stmt) (n : ℕ) where
  -- a process of n variables, of which there is left to do what is made of these statements
  pub record IsLeft (q : ProcessState) : Type 0 where
    pub sized : length q.store ≡ n
    pub made : IsMadeOf before q.todo

  made_rest : (head : Stmt) (rest : List Stmt) → IsMadeOf before (head ∷ rest) → IsMadeOf before rest
  made_rest head rest m = record { passed = λ f inside h. (and_parts (f head) (list_all f rest) (m.passed f inside h)).1 }

  made_front : (head : Stmt) (rest front back : List Stmt) (l : Layer) → out-Stmt head ≡ l → IsInside l front → IsMadeOf before (head ∷ rest) → IsMadeOf before back →
      IsMadeOf before (front ++ back)
  made_front head rest front back l opened i m k = record {
    passed = λ f inside h.
        let here = inside head (and_parts (f head) (list_all f rest) (m.passed f inside h)).0 in
        list_all-append f front back ∙ and_from (list_all f front) (list_all f back) (i.passed f (sym (ap (all_inside f) opened) ∙ here)) (k.passed f inside h);
  }

  -- ---- a silent step

  -- the next state, where there is one, is left of the same statements
  abbrev pub LeadsOn : Outcome → Type 0
  LeadsOn Idle = Unit {0}
  LeadsOn Unfit = Unit {0}
  LeadsOn (Did logged q) = IsLeft q

  fit : (b : Bool) (logged : Option Rational) (q : ProcessState) → IsLeft q → LeadsOn (if_fit b (Did logged q))
  fit true logged q h = h
  fit false logged q h = tt

  module _ (head : Stmt) (rest : List Stmt) (whole : IsMadeOf before (head ∷ rest)) where
    only_rest : IsMadeOf before rest
    only_rest = made_rest head rest whole

    either_front : (l : Layer) (ss rs : List Stmt) (b : Bool) → out-Stmt head ≡ l → ((f : Stmt → Bool) → all_inside f l ≡ (list_all f ss && list_all f rs)) →
        IsMadeOf before ((if b then ss else rs) ++ rest)
    either_front l ss rs b e same = made_front head rest (if b then ss else rs) rest l e (inside_either l ss rs b same) whole only_rest

    again : (l : Layer) (body : List Stmt) → out-Stmt head ≡ l → ((f : Stmt → Bool) → all_inside f l ≡ list_all f body) → IsMadeOf before (body ++ head ∷ rest)
    again l body e same = made_front head rest body (head ∷ rest) l e (record { passed = λ f h. sym (same f) ∙ h }) whole whole

    looped : (l : Layer) (body : List Stmt) (b : Bool) → out-Stmt head ≡ l → ((f : Stmt → Bool) → all_inside f l ≡ list_all f body) →
        IsMadeOf before (if b then body ++ head ∷ rest else rest)
    looped l body true e same = again l body e same
    looped l body false e same = only_rest

    going_leads : (seed p : ℕ) (clock : Rational) (c : ProcessState) (l : Layer) → out-Stmt head ≡ l → IsLeft c → LeadsOn (going_step seed p clock c head rest l)
    going_leads seed p clock c Stmt-F.Skip e k = record { sized = k.sized; made = only_rest }
    going_leads seed p clock c (Stmt-F.Assign x a) e k = fit _ _ _ (record { sized = length-set c.store x (val c.store a) ∙ k.sized; made = only_rest })
    going_leads seed p clock c (Stmt-F.Log a) e k = fit _ _ _ (record { sized = k.sized; made = only_rest })
    going_leads seed p clock c (Stmt-F.If test first second) e k =
        fit _ _ _ (record { sized = k.sized; made = either_front (Stmt-F.If test first second) first second (holds c.store test) e (λ f. refl) })
    going_leads seed p clock c (Stmt-F.Pick left right) e k =
        record { sized = k.sized; made = either_front (Stmt-F.Pick left right) left right (picks_left seed p c.choices) e (λ f. refl) }
    going_leads seed p clock c (Stmt-F.Forever body) e k = record { sized = k.sized; made = again (Stmt-F.Forever body) body e (λ f. refl) }
    going_leads seed p clock c (Stmt-F.Loop test body) e k =
        fit _ _ _ (record { sized = k.sized; made = looped (Stmt-F.Loop test body) body (holds c.store test) e (λ f. refl) })
    going_leads seed p clock c (Stmt-F.Wait time) e k = fit _ _ _ (record { sized = k.sized; made = k.made })
    going_leads seed p clock c (Stmt-F.Io io) e k = fit _ _ _ (record { sized = k.sized; made = k.made })
    going_leads seed p clock c (Stmt-F.Choice branches) e k = fit _ _ _ (record { sized = k.sized; made = k.made })
    going_leads seed p clock c (Stmt-F.Evolve rates domain branches) e k = fit _ _ _ (record { sized = k.sized; made = k.made })

    due_leads : (c : ProcessState) (b : Bool) → IsLeft c → LeadsOn (if b then goes_on c rest else Idle)
    due_leads c true k = record { sized = k.sized; made = only_rest }
    due_leads c false k = tt

  silent_by_parts : (seed p : ℕ) (clock : Rational) (todo : List Stmt) (store : Store) (choices : ℕ) (mark : Mark) →
      let q : ProcessState = record { todo = todo; store = store; choices = choices; mark = mark } in IsLeft q → LeadsOn (silent seed p clock q)
  silent_by_parts seed p clock [] store choices mark h = tt
  silent_by_parts seed p clock (head ∷ rest) store choices Going h =
      let q : ProcessState = record { todo = head ∷ rest; store = store; choices = choices; mark = Going } in
      going_leads head rest h.made seed p clock q (out-Stmt head) refl h
  silent_by_parts seed p clock (head ∷ rest) store choices (Arrived left) h =
      let q : ProcessState = record { todo = head ∷ rest; store = store; choices = choices; mark = Arrived left } in
      due_leads head rest h.made q (is_due (bound q)) h

  pub silent_left : (seed p : ℕ) (clock : Rational) (q : ProcessState) → IsLeft q → LeadsOn (silent seed p clock q)
  silent_left seed p clock q h = silent_by_parts seed p clock q.todo q.store q.choices q.mark h

  -- ---- a communication

  sent_at-made : (c : ℕ) (todo : List Stmt) → IsMadeOf before todo → IsMadeOf before (sent_at c todo)
  sent_at-made c [] m = m
  sent_at-made c (head ∷ rest) m =
      made_front head rest (sent_here c (out-Stmt head)) rest (out-Stmt head) refl (inside_sent c (out-Stmt head)) m (made_rest head rest m)

  pub sent_left : (c : ℕ) (q : ProcessState) → IsLeft q → IsLeft (sent c q)
  sent_left c q h = record { sized = h.sized; made = sent_at-made c q.todo h.made }

  received_at-left : (c : ℕ) (v : Rational) (q : ProcessState) (todo : List Stmt) → IsMadeOf before todo → IsLeft q → IsLeft (received_at c v q todo)
  received_at-left c v q [] m k = k
  received_at-left c v q (head ∷ rest) m k = record {
    sized = length-set q.store (received_here c (out-Stmt head)).0 v ∙ k.sized;
    made = made_front head rest (received_here c (out-Stmt head)).1 rest (out-Stmt head) refl (inside_received c (out-Stmt head)) m (made_rest head rest m);
  }

  pub received_left : (c : ℕ) (v : Rational) (q : ProcessState) → IsLeft q → IsLeft (received c v q)
  received_left c v q h = received_at-left c v q q.todo h.made h

  -- ---- a delay

  moved_store-length : (s : Store) (d : Rational) (l : Layer) → length (moved_store s d l) ≡ length s
  moved_store-length s d (Stmt-F.Evolve rates domain branches) = length-after s (rates_in rates s) d
  moved_store-length s d _ = refl

  moved_at-left : (d : Rational) (q : ProcessState) (mark : Mark) (todo : List Stmt) → IsLeft q → IsLeft (moved_at d q mark todo)
  moved_at-left d q Going todo h = h
  moved_at-left d q (Arrived left) [] h = h
  moved_at-left d q (Arrived left) (head ∷ rest) h = record { sized = moved_store-length q.store d (out-Stmt head) ∙ h.sized; made = h.made }

  pub moved_left : (d : Rational) (q : ProcessState) → IsLeft q → IsLeft (moved d q)
  moved_left d q h = moved_at-left d q q.mark q.todo h
