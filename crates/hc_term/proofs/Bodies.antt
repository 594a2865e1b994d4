-- Which channels a statement uses, by its layer; and what is left to do in a step uses no other channels.
use Rattle.std.proofs.Common.{rules, ◌≡◌, refl, sym, ap, ◌∙◌, ℕ, Bool, true, false, ◌||◌, if◌then◌else◌, List, [], ◌∷◌, ◌++◌, Option, ⊎_elim}
use Rattle.std.proofs.lemmas.Bool.{or_cases, or_left, or_right}
use Rattle.std.proofs.lemmas.List.Folds.{list_any-append}
use Rattle.hc_rational.specs.Words.{Rational}
use Rattle.hc_term.specs.declared.stmt.Stmt.{Stmt, out-Stmt, the_lemmas}
use Rattle.hc_term.specs.declared.stmt.Stmt.TheOpen.{Stmt-F}
use Rattle.hc_term.specs.declared.expr.Cond.{Cond}
use Rattle.hc_term.specs.declared.model.Mark.{Mark}
use Rattle.hc_term.specs.declared.model.Mark.TheVariants.{Going, Arrived}
use Rattle.hc_term.specs.declared.model.ProcessState.{ProcessState}
use Rattle.hc_term.specs.Value.{Store, holds}
use Rattle.hc_term.specs.Process.{Layer, bound, is_due}
use Rattle.hc_term.specs.Silent.{Outcome, Idle, Unfit, Did, if_fit, goes_on, picks_left, going_step, silent}
use Rattle.hc_term.specs.Rules.{is_on, uses}
use Rattle.hc_term.proofs.Used.{list_any-map, any_use, any_branch_uses}

-- whether a statement of this layer sends, or receives, on channel c
abbrev pub uses_here : Bool → ℕ → Layer → Bool
uses_here sending c (Stmt-F.Io io) = is_on sending c io
uses_here sending c (Stmt-F.If test first second) = any_use sending c first || any_use sending c second
uses_here sending c (Stmt-F.Pick left right) = any_use sending c left || any_use sending c right
uses_here sending c (Stmt-F.Forever body) = any_use sending c body
uses_here sending c (Stmt-F.Loop test body) = any_use sending c body
uses_here sending c (Stmt-F.Choice branches) = any_branch_uses sending c branches
uses_here sending c (Stmt-F.Evolve rates domain branches) = any_branch_uses sending c branches
uses_here sending c _ = false

module _ (sending : Bool) (c : ℕ) (s : Stmt) where
  layer_uses : (l : Layer) → out-Stmt s ≡ l → uses sending c s ≡ uses_here sending c l
  layer_uses Stmt-F.Skip e = search (rules, the_lemmas)
  layer_uses (Stmt-F.Assign x a) e = search (rules, the_lemmas)
  layer_uses (Stmt-F.Log a) e = search (rules, the_lemmas)
  layer_uses (Stmt-F.Wait a) e = search (rules, the_lemmas)
  layer_uses (Stmt-F.Io io) e = search (rules, the_lemmas)
  layer_uses (Stmt-F.If test first second) e = search (rules, the_lemmas, list_any-map)
  layer_uses (Stmt-F.Pick left right) e = search (rules, the_lemmas, list_any-map)
  layer_uses (Stmt-F.Forever body) e = search (rules, the_lemmas, list_any-map)
  layer_uses (Stmt-F.Loop test body) e = search (rules, the_lemmas, list_any-map)
  layer_uses (Stmt-F.Choice branches) e = search (rules, the_lemmas, list_any-map)
  layer_uses (Stmt-F.Evolve rates domain branches) e = search (rules, the_lemmas, list_any-map)

  pub uses_is : uses sending c s ≡ uses_here sending c (out-Stmt s)
  uses_is = layer_uses (out-Stmt s) refl

-- ---- what is left to do

-- the statements `later` use no channel that the statements `before` don't use
pub record UsesNoMore (before later : List Stmt) : Type 0 where
  pub kept : (sending : Bool) (c : ℕ) → any_use sending c later ≡ true → any_use sending c before ≡ true

pub no_more-same : (ss : List Stmt) → UsesNoMore ss ss
no_more-same ss = record { kept = λ sending c e. e }

pub no_more-trans : (a b c : List Stmt) → UsesNoMore a b → UsesNoMore b c → UsesNoMore a c
no_more-trans a b c h k = record { kept = λ sending ch e. h.kept sending ch (k.kept sending ch e) }

pub no_more-rest : (head : Stmt) (rest : List Stmt) → UsesNoMore (head ∷ rest) rest
no_more-rest head rest =
    record { kept = λ sending c e. or_right (uses sending c head) (any_use sending c rest) e }

-- the statements are inside one of this layer
pub record Inside (l : Layer) (ss : List Stmt) : Type 0 where
  pub used : (sending : Bool) (c : ℕ) → any_use sending c ss ≡ true → uses_here sending c l ≡ true

-- what is inside the head, in front of others
pub no_more-front : (head : Stmt) (rest front back : List Stmt) (l : Layer) → out-Stmt head ≡ l → Inside l front →
    UsesNoMore (head ∷ rest) back → UsesNoMore (head ∷ rest) (front ++ back)
no_more-front head rest front back l opened h k = record {
  kept = λ sending c e.
      let head_uses = uses_is sending c head ∙ ap (uses_here sending c) opened in
      let parts = sym (list_any-append (uses sending c) front back) ∙ e in
      ⊎_elim (λ f. or_left (uses sending c head) (any_use sending c rest) (head_uses ∙ h.used sending c f))
      (k.kept sending c)
      (or_cases (any_use sending c front) (any_use sending c back) parts);
}

-- ---- a silent step

-- the next state, where there is one, keeps to the channels of these statements
abbrev pub Keeps : List Stmt → Outcome → Type 0
Keeps before Idle = Unit {0}
Keeps before Unfit = Unit {0}
Keeps before (Did logged q) = UsesNoMore before q.todo

keeps_if_fit : (before : List Stmt) (b : Bool) (logged : Option Rational) (q : ProcessState) →
    UsesNoMore before q.todo → Keeps before (if_fit b (Did logged q))
keeps_if_fit before true logged q h = h
keeps_if_fit before false logged q h = tt

-- a statement of this layer uses the channels of both and no others
abbrev UsesBoth : Layer → List Stmt → List Stmt → Type 0
UsesBoth l ss rs = (sending : Bool) (c : ℕ) → (any_use sending c ss || any_use sending c rs) ≡ uses_here sending c l

inside_either : (l : Layer) (ss rs : List Stmt) (b : Bool) → UsesBoth l ss rs → Inside l (if b then ss else rs)
inside_either l ss rs true h =
    record { used = λ sending c e. sym (h sending c) ∙ or_left (any_use sending c ss) (any_use sending c rs) e }
inside_either l ss rs false h =
    record { used = λ sending c e. sym (h sending c) ∙ or_right (any_use sending c ss) (any_use sending c rs) e }

module _ (head : Stmt) (rest : List Stmt) where
  either-keeps : (l : Layer) (ss rs : List Stmt) (b : Bool) → out-Stmt head ≡ l → UsesBoth l ss rs →
      UsesNoMore (head ∷ rest) ((if b then ss else rs) ++ rest)
  either-keeps l ss rs b e h =
      no_more-front head rest (if b then ss else rs) rest l e (inside_either l ss rs b h) (no_more-rest head rest)

  again-keeps : (l : Layer) (body : List Stmt) → out-Stmt head ≡ l →
      ((sending : Bool) (c : ℕ) → any_use sending c body ≡ uses_here sending c l) →
      UsesNoMore (head ∷ rest) (body ++ head ∷ rest)
  again-keeps l body e h =
      no_more-front head rest body (head ∷ rest) l e (record { used = λ sending c u. sym (h sending c) ∙ u })
      (no_more-same (head ∷ rest))

  loop-keeps : (test : Cond) (body : List Stmt) (b : Bool) → out-Stmt head ≡ Stmt-F.Loop test body →
      UsesNoMore (head ∷ rest) (if b then body ++ head ∷ rest else rest)
  loop-keeps test body true e = again-keeps (Stmt-F.Loop test body) body e (λ sending c. refl)
  loop-keeps test body false e = no_more-rest head rest

  fit : (b : Bool) (logged : Option Rational) (q : ProcessState) → UsesNoMore (head ∷ rest) q.todo →
      Keeps (head ∷ rest) (if_fit b (Did logged q))
  fit b logged q h = keeps_if_fit (head ∷ rest) b logged q h

  going-keeps : (seed p : ℕ) (clock : Rational) (c : ProcessState) (l : Layer) → out-Stmt head ≡ l →
      UsesNoMore (head ∷ rest) c.todo → Keeps (head ∷ rest) (going_step seed p clock c head rest l)
  going-keeps seed p clock c Stmt-F.Skip e h = no_more-rest head rest
  going-keeps seed p clock c (Stmt-F.Assign x a) e h = fit _ _ _ (no_more-rest head rest)
  going-keeps seed p clock c (Stmt-F.Log a) e h = fit _ _ _ (no_more-rest head rest)
  going-keeps seed p clock c (Stmt-F.If test first second) e h =
      fit _ _ _
      (either-keeps (Stmt-F.If test first second) first second (holds c.store test) e (λ sending k. refl))
  going-keeps seed p clock c (Stmt-F.Pick left right) e h =
      either-keeps (Stmt-F.Pick left right) left right (picks_left seed p c.choices) e (λ sending k. refl)
  going-keeps seed p clock c (Stmt-F.Forever body) e h =
      again-keeps (Stmt-F.Forever body) body e (λ sending k. refl)
  going-keeps seed p clock c (Stmt-F.Loop test body) e h = fit _ _ _ (loop-keeps test body (holds c.store test) e)
  going-keeps seed p clock c (Stmt-F.Wait time) e h = fit _ _ _ h
  going-keeps seed p clock c (Stmt-F.Io io) e h = fit _ _ _ h
  going-keeps seed p clock c (Stmt-F.Choice branches) e h = fit _ _ _ h
  going-keeps seed p clock c (Stmt-F.Evolve rates domain branches) e h = fit _ _ _ h

  due-keeps : (c : ProcessState) (b : Bool) → Keeps (head ∷ rest) (if b then goes_on c rest else Idle)
  due-keeps c true = no_more-rest head rest
  due-keeps c false = tt

silent_at-keeps : (seed p : ℕ) (clock : Rational) (todo : List Stmt) (store : Store) (choices : ℕ) (mark : Mark) →
    Keeps todo (silent seed p clock (record { todo = todo; store = store; choices = choices; mark = mark }))
silent_at-keeps seed p clock [] store choices mark = tt
silent_at-keeps seed p clock (head ∷ rest) store choices Going =
    let c : ProcessState = record { todo = head ∷ rest; store = store; choices = choices; mark = Going } in
    going-keeps head rest seed p clock c (out-Stmt head) refl (no_more-same (head ∷ rest))
silent_at-keeps seed p clock (head ∷ rest) store choices (Arrived left) =
    let c : ProcessState = record { todo = head ∷ rest; store = store; choices = choices; mark = Arrived left } in
    due-keeps head rest c (is_due (bound c))

pub silent-keeps : (seed p : ℕ) (clock : Rational) (c : ProcessState) → Keeps c.todo (silent seed p clock c)
silent-keeps seed p clock c = silent_at-keeps seed p clock c.todo c.store c.choices c.mark
