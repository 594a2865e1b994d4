-- What is in the grammar the machine takes.
use Rattle.std.proofs.Common.{◌≡◌, refl, ap, sym, ◌∙◌, Bool, true, false, cond, not, ◌&&◌, ◌||◌, []}
use Rattle.std.proofs.Common.{◌∷◌, ◌++◌, Option, None, Some, IfSome}
use Rattle.hc_grammar.specs.declared.symbol.Symbol.TheVariants.{Token, Head, Mark}
use Rattle.hc_grammar.specs.Table.{Symbols, Entry, Takes, Skips, Refuses, Table}
use Rattle.hc_grammar.specs.Texts.{Text, Did, tokens_of, mark_then, items_of}
use Rattle.hc_grammar.specs.Derives.{Derives, done, token, mark, takes, skips}
use Rattle.hc_grammar.specs.Ll1.{takes_by, accepts, fits, IsLl1}
use Rattle.hc_grammar.specs.Machine.{Taken, with_mark, with_left, at_entry, feed}

-- whether a token was taken
abbrev pub is_taken : {X : Type 0} → Option X → Bool
is_taken None = false
is_taken (Some f) = true

-- behind each phrase of the stack comes only what is in its follow
abbrev pub Fit : {K H A B : Type 0} → Table K H A B → Symbols K H A B → Type 0
Fit g [] = Unit {0}
Fit g (Token j role ∷ ss) = Fit g ss
Fit {K} g (Head h ∷ ss) = ((k : K) → is_taken (feed g ss k) ≡ true → g.follow h k ≡ true) × Fit g ss
Fit g (Mark b ∷ ss) = Fit g ss

pub or_then : (a b : Bool) → not a || b ≡ true → a ≡ true → b ≡ true
or_then true b e f = e
or_then false b e f = absurd (cc)

pub and_both : (a b : Bool) → a && b ≡ true → (a ≡ true) × (b ≡ true)
and_both true true e = (refl, refl)
and_both true false e = absurd (cc)
and_both false b e = absurd (cc)

module _ {K H A B : Type 0} (g : Table K H A B) where
  -- a wanted token at the top
  abbrev here : A → Symbols K H A B → Bool → Option (Taken K H A B)
  here role ss same = cond same (Some (record { marks = []; role = role; rest = ss })) None

  taken_mark : (b : B) (o : Option (Taken K H A B)) → is_taken (with_mark b o) ≡ is_taken o
  taken_mark b None = refl
  taken_mark b (Some f) = refl

  taken_left : (m : Option B) (o : Option (Taken K H A B)) → is_taken (with_left m o) ≡ is_taken o
  taken_left None o = refl
  taken_left (Some b) o = taken_mark b o

  taken_token : (role : A) (ss : Symbols K H A B) (same : Bool) → is_taken (here role ss same) ≡ same
  taken_token role ss true = refl
  taken_token role ss false = refl

  taken_head : (row : Entry K H A B) (ss : Symbols K H A B) (o : Option (Taken K H A B)) (behind : Bool)
      → is_taken o ≡ behind → is_taken (at_entry row ss o) ≡ takes_by row behind
  taken_head (Takes role p) ss o behind e = refl
  taken_head Skips ss o behind e = e
  taken_head Refuses ss o behind e = refl

  -- whether a stack takes a token is told by its upper part and what the lower part does
  taken-append : (p ss : Symbols K H A B) (k : K)
      → is_taken (feed g (p ++ ss) k) ≡ accepts g p k (is_taken (feed g ss k))
  taken-append [] ss k = refl
  taken-append (Token j role ∷ p) ss k = taken_token role (p ++ ss) (g.same j k)
  taken-append (Head h ∷ p) ss k =
      taken_head (g.entry h k) (p ++ ss) (with_left (g.left_out h) (feed g (p ++ ss) k)) (accepts g p k (is_taken (feed g ss k)))
      (taken_left (g.left_out h) (feed g (p ++ ss) k) ∙ taken-append p ss k)
  taken-append (Mark b ∷ p) ss k = taken_mark b (feed g (p ++ ss) k) ∙ taken-append p ss k

  more_head : (row : Entry K H A B) (a b : Bool) → (a ≡ true → b ≡ true)
      → takes_by row a ≡ true → takes_by row b ≡ true
  more_head (Takes role p) a b more e = refl
  more_head Skips a b more e = more e
  more_head Refuses a b more e = e

  -- where more may come behind, more is taken
  more_accepted : (p : Symbols K H A B) (k : K) (a b : Bool) → (a ≡ true → b ≡ true)
      → accepts g p k a ≡ true → accepts g p k b ≡ true
  more_accepted [] k a b more e = more e
  more_accepted (Token j role ∷ p) k a b more e = e
  more_accepted (Head h ∷ p) k a b more e =
      more_head (g.entry h k) (accepts g p k a) (accepts g p k b) (more_accepted p k a b more) e
  more_accepted (Mark m ∷ p) k a b more e = more_accepted p k a b more e

  -- symbols that fit before what may follow fit on a stack that takes no more
  pub fit_more : (p ss : Symbols K H A B) (follow : K → Bool)
      → ((k : K) → is_taken (feed g ss k) ≡ true → follow k ≡ true)
      → ((k : K) → fits g p k (follow k) ≡ true) → Fit g ss → Fit g (p ++ ss)
  fit_more [] ss follow only fitting fit = fit
  fit_more (Token j role ∷ p) ss follow only fitting fit = fit_more p ss follow only fitting fit
  fit_more (Mark b ∷ p) ss follow only fitting fit = fit_more p ss follow only fitting fit
  fit_more (Head h ∷ p) ss follow only fitting fit = (
    λ k e. or_then (accepts g p k (follow k)) (g.follow h k) (both k).0
        (more_accepted p k (is_taken (feed g ss k)) (follow k) (only k) (sym (taken-append p ss k) ∙ e)),
    fit_more p ss follow only (λ k. (both k).1) fit,
  )
    where
      both : (k : K) → (not (accepts g p k (follow k)) || g.follow h k ≡ true) × (fits g p k (follow k) ≡ true)
      both k = and_both (not (accepts g p k (follow k)) || g.follow h k) (fits g p k (follow k)) (fitting k)

  fit_token : (role : A) (ss : Symbols K H A B) (same : Bool) → Fit g ss
      → IfSome (here role ss same) (λ (f : Taken K H A B). Fit g f.rest)
  fit_token role ss true fit = fit
  fit_token role ss false fit = tt

  fit_mark : (b : B) (o : Option (Taken K H A B))
      → IfSome o (λ f. Fit g f.rest) → IfSome (with_mark b o) (λ f. Fit g f.rest)
  fit_mark b None fit = tt
  fit_mark b (Some f) fit = fit

  fit_left : (m : Option B) (o : Option (Taken K H A B))
      → IfSome o (λ f. Fit g f.rest) → IfSome (with_left m o) (λ f. Fit g f.rest)
  fit_left None o fit = fit
  fit_left (Some b) o fit = fit_mark b o fit

  module _ (law : IsLl1 g) where
    fit_head : (h : H) (k : K) (ss : Symbols K H A B) (row : Entry K H A B) → g.entry h k ≡ row
        → Fit g (Head h ∷ ss) → IfSome (feed g ss k) (λ f. Fit g f.rest)
        → IfSome (at_entry row ss (with_left (g.left_out h) (feed g ss k))) (λ f. Fit g f.rest)
    fit_head h k ss (Takes role p) e fit below =
        fit_more p ss (g.follow h) fit.0 (law.fitting h k role p e) fit.1
    fit_head h k ss Skips e fit below = fit_left (g.left_out h) (feed g ss k) below
    fit_head h k ss Refuses e fit below = tt

    -- a stack stays fit
    pub fit_after : (k : K) (ss : Symbols K H A B) → Fit g ss → IfSome (feed g ss k) (λ f. Fit g f.rest)
    fit_after k [] fit = tt
    fit_after k (Token j role ∷ ss) fit = fit_token role ss (g.same j k) fit
    fit_after k (Head h ∷ ss) fit = fit_head h k ss (g.entry h k) refl fit (fit_after k ss fit.1)
    fit_after k (Mark b ∷ ss) fit = fit_mark b (feed g ss k) (fit_after k ss fit)

-- a text of the stack has no token, or its first token is taken, and the rest is a text of what is left
pub data First {K H A B T : Type 0} (g : Table K H A B) (kind : T → K) (ss : Symbols K H A B) (w : Text T A B) : Type 0 where
  bare : tokens_of w ≡ [] → First g kind ss w
  begins : (t : T) (f : Taken K H A B) (after : Text T A B) → feed g ss (kind t) ≡ Some f
      → w ≡ items_of f.marks t f.role after → Derives g kind f.rest after → First g kind ss w

module _ {K H A B T : Type 0} (g : Table K H A B) (kind : T → K) (law : IsLl1 g) where
  first_mark : (b : B) (ss : Symbols K H A B) (w : Text T A B)
      → First g kind ss w → First g kind (Mark b ∷ ss) (Did b ∷ w)
  first_mark b ss w (bare e) = bare e
  first_mark b ss w (begins t f after e split d) =
      begins t (record { marks = b ∷ f.marks; role = f.role; rest = f.rest }) after
      (ap (with_mark b) e) (ap (λ v. Did b ∷ v) split) d

  left_bare : (m : Option B) (w : Text T A B) → tokens_of w ≡ [] → tokens_of (mark_then m w) ≡ []
  left_bare None w e = e
  left_bare (Some b) w e = e

  -- a phrase is left out in front of a text that goes on
  left_begins : (m : Option B) (h : H) (ss : Symbols K H A B) (w : Text T A B) (t : T) (f : Taken K H A B) (after : Text T A B)
      → feed g (Head h ∷ ss) (kind t) ≡ with_left m (feed g ss (kind t)) → feed g ss (kind t) ≡ Some f
      → w ≡ items_of f.marks t f.role after → Derives g kind f.rest after → First g kind (Head h ∷ ss) (mark_then m w)
  left_begins None h ss w t f after skipped e split d = begins t f after (skipped ∙ e) split d
  left_begins (Some b) h ss w t f after skipped e split d =
      begins t (record { marks = b ∷ f.marks; role = f.role; rest = f.rest }) after
      (skipped ∙ ap (with_mark b) e) (ap (λ v. Did b ∷ v) split) d

  first_skip : (h : H) (ss : Symbols K H A B) (w : Text T A B) → g.empties h ≡ true → Fit g (Head h ∷ ss)
      → First g kind ss w → First g kind (Head h ∷ ss) (mark_then (g.left_out h) w)
  first_skip h ss w empty fit (bare e) = bare (left_bare (g.left_out h) w e)
  first_skip h ss w empty fit (begins t f after e split d) =
      let follows : g.follow h (kind t) ≡ true = fit.0 (kind t) (ap is_taken e) in
      let skipped = law.apart h (kind t) empty follows in
      left_begins (g.left_out h) h ss w t f after
      (ap (λ row. at_entry row ss (with_left (g.left_out h) (feed g ss (kind t)))) skipped) e split d

  pub first : (ss : Symbols K H A B) (w : Text T A B) → Derives g kind ss w → Fit g ss → First g kind ss w
  first _ _ done fit = bare refl
  first _ _ (token {j = j} {role = role} {t = t} {ss = ss} {w = w} e d) fit =
      begins t (record { marks = []; role = role; rest = ss }) w (ap (here g role ss) e) refl d
  first _ _ (mark {b = b} {ss = ss} {w = w} d) fit = first_mark b ss w (first ss w d fit)
  first _ _ (takes {h = h} {t = t} {role = role} {p = p} {ss = ss} {w = w} e d) fit =
      begins t (record { marks = []; role = role; rest = p ++ ss }) w
      (ap (λ row. at_entry row ss (with_left (g.left_out h) (feed g ss (kind t)))) e) refl d
  first _ _ (skips {h = h} {ss = ss} {w = w} e d) fit = first_skip h ss w e fit (first ss w d fit.1)
