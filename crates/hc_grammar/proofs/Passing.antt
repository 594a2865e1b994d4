-- A token with which nothing is wrong, and where it leads.
use Rattle.std.proofs.Common.{◌≡◌, refl, ap, sym, ◌∙◌, subst, ◌⊎◌, inl, inr, List, [], ◌∷◌, ◌++◌}
use Rattle.std.proofs.Common.{None, Some, IfSome, Result, Ok, true}
use Rattle.hc_grammar.specs.Table.{Symbols}
use Rattle.hc_grammar.specs.Texts.{Text, Read, Did, items_of}
use Rattle.hc_grammar.specs.Ends.{Ends, closes_by}
use Rattle.hc_grammar.specs.Reader.{walked, marked, Reader, IsCalm, Within}
use Rattle.hc_grammar.specs.Refusals.{Holds}
use Rattle.hc_grammar.proofs.Settings.{Setting}
use Rattle.hc_grammar.specs.Language.{Language, is_last}
use Rattle.hc_grammar.specs.Machine.{Taken, feed, refused_or, at_taken, reads}
use Rattle.hc_grammar.proofs.Last.{Leaves, leaves}
use Rattle.hc_grammar.proofs.Cuts.{walked-append, walked-items_of}
use Rattle.hc_grammar.proofs.Reached.{Reached, behind, reached_next}
use Rattle.hc_grammar.proofs.Refused.{stops}

-- a place in a list with one more at its end is that end, or a place before it
snoc_cases : {X : Type 0} (front a b : List X) (t x : X) → front ++ t ∷ [] ≡ a ++ x ∷ b
    → ((front ≡ a) × (t ≡ x)) ⊎ ((b' : List X) × (front ≡ a ++ x ∷ b'))
snoc_cases [] [] b t x e = inl (refl, cc)
snoc_cases [] (y ∷ []) b t x e = absurd (cc)
snoc_cases [] (y ∷ z ∷ a) b t x e = absurd (cc)
snoc_cases (y ∷ front) [] b t x e = inr (front, cc)
snoc_cases (y ∷ front) (z ∷ a) b t x e =
    elim (snoc_cases front a b t x (cc)) [ inl h ↦ inl (cc, h.1) | inr h ↦ inr (h.0, cc) ]

module _ {T A B S R : Type 0} (m : Reader T A B S R) (calm : IsCalm m) where
  pub calm_marked : (marks : List B) (t : T) (s : S) → m.early t (marked m.walk marks s) ≡ m.early t s
  calm_marked [] t s = refl
  calm_marked (b ∷ marks) t s = calm_marked marks t (m.walk.on_mark b s) ∙ calm b t s

  within_items : (marks : List B) (t : T) (role : A) (s : S) → m.early t s ≡ None
      → m.judge role t (marked m.walk marks s) ≡ None → Within m (items_of marks t role []) s
  within_items [] t role s e j = (e, j, tt)
  within_items (b ∷ marks) t role s e j = within_items marks t role (m.walk.on_mark b s) (calm b t s ∙ e) j

  within_append : (w v : Text T A B) (s : S) → Within m w s → Within m v (walked m.walk w s) → Within m (w ++ v) s
  within_append [] v s a b = b
  within_append (Read t role ∷ w) v s a b = (a.0, a.1, within_append w v (m.walk.on_token role t s) a.2 b)
  within_append (Did d ∷ w) v s a b = within_append w v (m.walk.on_mark d s) a b

  -- nothing is wrong with the first token of such a text, nor with the rest
  pub within_first : (marks : List B) (t : T) (role : A) (w : Text T A B) (s : S) → Within m (items_of marks t role w) s
      → let s1 = marked m.walk marks s in
      (m.early t s1 ≡ None) × (m.judge role t s1 ≡ None) × Within m w (m.walk.on_token role t s1)
  within_first [] t role w s a = a
  within_first (b ∷ marks) t role w s a = within_first marks t role w (m.walk.on_mark b s) a

module _ {K H A B T S R V : Type 0} {c : Language K H A B T S R V} (x : Setting c) where
  abbrev pub state : Text T A B → S
  state w = walked c.reader.walk w c.opening

  abbrev pub value : Text T A B → V
  value w = walked c.builder w c.blank

  abbrev pub HoldsHere : List T → T → R → Type 0
  HoldsHere = Holds c.reader x.Is c.opening

  -- nothing is wrong with any of these tokens
  abbrev pub NoneBefore : List T → Type 0
  NoneBefore front = (a : List T) (x : T) (b : List T) → front ≡ a ++ x ∷ b → (q : R) → HoldsHere a x q → ⊥

  -- what is still to come goes with the stack
  abbrev pub Rest : List T → Symbols K H A B → Type 0
  Rest [] ss = ss ≡ []
  Rest (t ∷ ts) ss = Ends (is_last c) (t ∷ ts) × (closes_by c.table c.last ss ≡ true)

  leaves_behind : (t : T) (ss : Symbols K H A B) (f : Taken K H A B) → closes_by c.table c.last ss ≡ true
      → feed c.table ss (c.kind t) ≡ Some f → Leaves c.table c.last (c.kind t) f.rest
  leaves_behind t ss f closes e =
      subst (λ o. IfSome o (λ x. Leaves c.table c.last (c.kind t) x.rest)) e
      (leaves c.table c.last x.law.ends (c.kind t) ss closes)

  pub rest_behind : (t : T) (ts : List T) (ss : Symbols K H A B) (f : Taken K H A B) → Rest (t ∷ ts) ss
      → feed c.table ss (c.kind t) ≡ Some f → Rest ts f.rest
  rest_behind t [] ss f (ends, closes) e = (leaves_behind t ss f closes e).0 ends
  rest_behind t (u ∷ ts) ss f (ends, closes) e = (ends.1, (leaves_behind t ss f closes e).1 ends.0)

  -- a token with which nothing is wrong, as the machine takes it
  pub record Passed (front : List T) (w : Text T A B) (ss : Symbols K H A B) (t : T) (f : Taken K H A B) : Type 0 where
    pub reached : Reached c front w ss
    pub early : c.reader.early t (state w) ≡ None
    pub feeds : feed c.table ss (c.kind t) ≡ Some f
    pub judged : c.reader.judge f.role t (marked c.reader.walk f.marks (state w)) ≡ None

  module _ (front : List T) (w : Text T A B) (ss : Symbols K H A B) (t : T) (f : Taken K H A B) (p : Passed front w ss t f) where
    pub reached_behind : Reached c (front ++ t ∷ []) (behind c w t f) f.rest
    reached_behind = reached_next c x.law front w ss t f p.reached p.feeds

    pub within_behind : Within c.reader w c.opening → Within c.reader (behind c w t f) c.opening
    within_behind a =
        within_append c.reader x.law.calm w (items_of f.marks t f.role []) c.opening a
        (within_items c.reader x.law.calm f.marks t f.role (state w) p.early p.judged)

    pub state_behind : state (behind c w t f) ≡ c.reader.walk.on_token f.role t (marked c.reader.walk f.marks (state w))
    state_behind =
        walked-append c.reader.walk w (items_of f.marks t f.role []) c.opening
        ∙ walked-items_of c.reader.walk f.marks t f.role [] (state w)

    value_behind : value (behind c w t f) ≡ c.builder.on_token f.role t (marked c.builder f.marks (value w))
    value_behind =
        walked-append c.builder w (items_of f.marks t f.role []) c.blank
        ∙ walked-items_of c.builder f.marks t f.role [] (value w)

    at_passed : (next : Symbols K H A B → S → V → Result V (R × T))
        → refused_or (c.reader.early t (state w)) t (at_taken c t (feed c.table ss (c.kind t)) (state w) (value w) next)
        ≡ next f.rest (state (behind c w t f)) (value (behind c w t f))
    at_passed next =
        let s' = c.reader.walk.on_token f.role t (marked c.reader.walk f.marks (state w)) in
        let v' = c.builder.on_token f.role t (marked c.builder f.marks (value w)) in
        ap (λ o. refused_or o t (at_taken c t (feed c.table ss (c.kind t)) (state w) (value w) next)) p.early
        ∙ ap (λ o. at_taken c t o (state w) (value w) next) p.feeds
        ∙ ap (λ o. refused_or o t (next f.rest s' v')) p.judged
        ∙ ap (λ s. next f.rest s v') (sym state_behind) ∙ ap (next f.rest (state (behind c w t f))) (sym value_behind)

    -- the machine reads on behind it
    pub reads_on : (ts : List T)
        → reads c (t ∷ ts) ss (state w) (value w) ≡ reads c ts f.rest (state (behind c w t f)) (value (behind c w t f))
    reads_on ts = at_passed (reads c ts)

    no_refusal : (q : R) → HoldsHere front t q → ⊥
    no_refusal q h =
        let blank : Result V (R × T) = Ok c.blank in
        let stopped = stops x front w ss p.reached t q h (value w) (λ _ _ _. blank) in
        cc (stopped, at_passed (λ _ _ _. blank))

    pub none_behind : NoneBefore front → NoneBefore (front ++ t ∷ [])
    none_behind none a x b e q h =
        elim (snoc_cases front a b t x e) [
          | inl s ↦ no_refusal q (subst (λ y. HoldsHere front y q) (sym s.1) (subst (λ z. HoldsHere z x q) (sym s.0) h))
          | inr s ↦ none a x s.0 s.1 q h
        ]
