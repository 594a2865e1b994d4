-- The way back: each text of a list of symbols is made of phrases, if each row makes a phrase of its parts.
use Rattle.std.proofs.Common.{◌≡◌, refl, subst, true, [], ◌∷◌, ◌++◌}
use Rattle.hc_grammar.specs.declared.symbol.Symbol.{Symbol}
use Rattle.hc_grammar.specs.declared.symbol.Symbol.TheVariants.{Token, Head, Mark}
use Rattle.hc_grammar.specs.Table.{Symbols, Entry, Takes, Skips, Refuses, Table, with_more}
use Rattle.hc_grammar.specs.Texts.{Text, Read, Did, mark_then}
use Rattle.hc_grammar.specs.Derives.{Derives, done, token, mark, takes, skips}

module _ {K H A B T : Type 0} (g : Table K H A B) (kind : T → K)
    (Phrase : H → Text T A B → Text T A B → Type 0) where
  -- w is the parts that the symbols name, one after another, and then v; `Phrase h w v`: w is a phrase and then v
  abbrev pub Chain : Symbols K H A B → Text T A B → Text T A B → Type 0
  Chain [] w v = w ≡ v
  Chain (Token j role ∷ p) w v =
      (t : T) × (u : Text T A B) × (g.same j (kind t) ≡ true) × (w ≡ Read t role ∷ u) × Chain p u v
  Chain (Head h ∷ p) w v = (u : Text T A B) × Phrase h w u × Chain p u v
  Chain (Mark b ∷ p) w v = (u : Text T A B) × (w ≡ Did b ∷ u) × Chain p u v

  -- a row that takes t makes a phrase of t and its parts
  abbrev pub Closes : H → T → Entry K H A B → Type 0
  Closes h t (Takes role p) = (w v : Text T A B) → Chain p w v → Phrase h (Read t role ∷ w) v
  Closes h t Skips = Unit {0}
  Closes h t Refuses = Unit {0}

  -- so does each row, and the mark alone is a phrase that is left out
  pub record Closed : Type 0 where
    pub row : (h : H) (t : T) → Closes h t (g.entry h (kind t))
    pub nothing : (h : H) (w : Text T A B) → g.empties h ≡ true → Phrase h (mark_then (g.left_out h) w) w

  -- parts one after another are cut where the symbols are
  pub chain_append : (p q : Symbols K H A B) (w v : Text T A B) → Chain (p ++ q) w v
      → (u : Text T A B) × Chain p w u × Chain q u v
  chain_append [] q w v c = (w, refl, c)
  chain_append (Token j role ∷ p) q w v (t, x, same, e, c) =
      let (u, l, r) = chain_append p q x v c in (u, (t, x, same, e, l), r)
  chain_append (Head h ∷ p) q w v (x, phrase, c) =
      let (u, l, r) = chain_append p q x v c in (u, (x, phrase, l), r)
  chain_append (Mark b ∷ p) q w v (x, e, c) =
      let (u, l, r) = chain_append p q x v c in (u, (x, e, l), r)

  -- a row of one phrase that another begins with makes a phrase of the one and what comes behind it
  pub closes_with : (h m : H) (t : T) (q : Symbols K H A B) (row : Entry K H A B)
      → ((w u v : Text T A B) → Phrase h w u → Chain q u v → Phrase m w v)
      → Closes h t row → Closes m t (with_more q row)
  closes_with h m t q (Takes role p) joins c = λ w v chain.
      let (u, own, more) = chain_append p q w v chain in joins (Read t role ∷ w) u v (c w u own) more
  closes_with h m t q Skips joins c = tt
  closes_with h m t q Refuses joins c = tt

  -- `all` is p and then `rest`
  data Cut : Symbols K H A B → Symbols K H A B → Symbols K H A B → Type 0 where
    here : {rest : Symbols K H A B} → Cut [] rest rest
    behind : {s : Symbol K H A B} {p rest all : Symbols K H A B} → Cut p rest all → Cut (s ∷ p) rest (s ∷ all)

  cut_more : {p rest all : Symbols K H A B} (q : Symbols K H A B) → Cut p rest all → Cut (q ++ p) rest (q ++ all)
  cut_more [] c = c
  cut_more (s ∷ q) c = behind (cut_more q c)

  cut_all : (p : Symbols K H A B) → Cut p [] p
  cut_all [] = here
  cut_all (s ∷ p) = behind (cut_all p)

  module _ (closed : Closed) where
    row_closes : (h : H) (t : T) (role : A) (p : Symbols K H A B) → g.entry h (kind t) ≡ Takes role p
        → Closes h t (Takes role p)
    row_closes h t role p e = subst (Closes h t) e (closed.row h t)

    -- a text of p and then the rest is the parts of p and then a text of the rest
    phrase : (p rest all : Symbols K H A B) (w : Text T A B) → Derives g kind all w → Cut p rest all
        → (v : Text T A B) × Chain p w v × Derives g kind rest v
    phrase _ _ _ w d here = (w, refl, d)
    phrase _ _ _ _ (token {t = t} {w = w} e d) (behind {p = p} {rest = rest} {all = all} c) =
        let (v, chain, r) = phrase p rest all w d c in (v, (t, w, e, refl, chain), r)
    phrase _ _ _ _ (mark {w = w} d) (behind {p = p} {rest = rest} {all = all} c) =
        let (v, chain, r) = phrase p rest all w d c in (v, (w, refl, chain), r)
    phrase _ _ _ _ (takes {h = h} {t = t} {role = role} {p = q} {w = w} e d) (behind {p = p} {rest = rest} {all = all} c) =
        let (v, chain, r) = phrase (q ++ p) rest (q ++ all) w d (cut_more q c) in
        let (u, own, more) = chain_append q p w v chain in
        (v, (u, row_closes h t role q e w u own, more), r)
    phrase _ _ _ _ (skips {h = h} {w = w} e d) (behind {p = p} {rest = rest} {all = all} c) =
        let (v, chain, r) = phrase p rest all w d c in (v, (w, closed.nothing h w e, chain), r)

    nothing_left : (v : Text T A B) → Derives g kind [] v → v ≡ []
    nothing_left _ done = refl

    -- a whole text is the parts that its symbols name
    pub whole : (ss : Symbols K H A B) (w : Text T A B) → Derives g kind ss w → Chain ss w []
    whole ss w d =
        let (v, chain, r) = phrase ss [] ss w d (cut_all ss) in
        subst (Chain ss w) (nothing_left v r) chain
