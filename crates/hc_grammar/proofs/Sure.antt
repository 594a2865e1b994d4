-- What the machine answers holds.
use Rattle.std.proofs.Common.{◌≡◌, refl, ◌∙◌, sym, subst, List, [], ◌∷◌, ◌++◌, append_assoc, Option, None, Some}
use Rattle.std.proofs.lemmas.List.{append-nil}
use Rattle.hc_grammar.specs.Table.{Symbols}
use Rattle.hc_grammar.specs.Texts.{Text}
use Rattle.hc_grammar.specs.Derives.{Derives, done}
use Rattle.hc_grammar.specs.Reader.{marked, Within}
use Rattle.hc_grammar.specs.Refusals.{at_once, no_text, in_role, FirstRefusal}
use Rattle.hc_grammar.proofs.Settings.{Setting}
use Rattle.hc_grammar.specs.Language.{Language, IsText}
use Rattle.hc_grammar.specs.Machine.{Taken, feed, reads}
use Rattle.hc_grammar.specs.Answers.{Answers}
use Rattle.hc_grammar.proofs.Reached.{Reached, behind}
use Rattle.hc_grammar.proofs.Refused.{early_is, judged_is, refused_has_no_text, stops}
use Rattle.hc_grammar.proofs.Passing.{state, value, HoldsHere, NoneBefore, Rest, rest_behind, Passed}
use Rattle.hc_grammar.proofs.Passing.{reached_behind, within_behind, reads_on, none_behind}

module _ {K H A B T S R V : Type 0} {c : Language K H A B T S R V} (x : Setting c) where
  -- where nothing was wrong so far
  pub record Fine (front : List T) (w : Text T A B) (ss : Symbols K H A B) (ts : List T) : Type 0 where
    pub reached : Reached c front w ss
    pub none : NoneBefore x front
    pub within : Within c.reader w c.opening
    pub rest : Rest x ts ss

  -- the answer that the machine gives from there holds of all tokens
  abbrev pub HoldsFrom : List T → List T → Text T A B → Symbols K H A B → Type 0
  HoldsFrom ts front w ss =
      Answers c x.Is (front ++ ts) (reads c ts ss (state x w) (value x w))

  module _ (t : T) (ts : List T) (front : List T) (w : Text T A B) (ss : Symbols K H A B) (f : Fine front w ss (t ∷ ts))
      (more : (front : List T) (w : Text T A B) (ss : Symbols K H A B) → Fine front w ss ts → HoldsFrom ts front w ss) where
    refusal : (q : R) → HoldsHere x front t q → HoldsFrom (t ∷ ts) front w ss
    refusal q h =
        let first : FirstRefusal c.reader x.Is c.opening (front ++ t ∷ ts) q t =
        record { front = front; after = ts; parts = refl; holds = h; first = f.none } in
        subst (Answers c x.Is (front ++ t ∷ ts))
        (sym (stops x front w ss f.reached t q h (value x w) (reads c ts))) first

    next : (k : Taken K H A B) → Passed x front w ss t k → HoldsFrom (t ∷ ts) front w ss
    next k p =
        let after : Fine (front ++ t ∷ []) (behind c w t k) k.rest ts =
        record {
          reached = reached_behind x front w ss t k p;
          none = none_behind x front w ss t k p f.none;
          within = within_behind x front w ss t k p f.within;
          rest = rest_behind x t ts ss k f.rest p.feeds;
        } in
        subst (Answers c x.Is (front ++ t ∷ ts)) (sym (reads_on x front w ss t k p ts))
        (subst (λ all. Answers c x.Is all (reads c ts k.rest (state x (behind c w t k)) (value x (behind c w t k))))
        (append_assoc front (t ∷ []) ts) (more (front ++ t ∷ []) (behind c w t k) k.rest after))

    sure_judged : (k : Taken K H A B) → c.reader.early t (state x w) ≡ None
        → feed c.table ss (c.kind t) ≡ Some k → (o : Option R)
        → c.reader.judge k.role t (marked c.reader.walk k.marks (state x w)) ≡ o → HoldsFrom (t ∷ ts) front w ss
    sure_judged k e g (Some q) j =
        refusal q
        (in_role (early_is x front w ss f.reached t None e)
        (judged_is x front w ss f.reached t k g (Some q) j))
    sure_judged k e g None j = next k (record { reached = f.reached; early = e; feeds = g; judged = j })

    sure_taken : c.reader.early t (state x w) ≡ None → (o : Option (Taken K H A B))
        → feed c.table ss (c.kind t) ≡ o → HoldsFrom (t ∷ ts) front w ss
    sure_taken e None g =
        refusal c.reader.syntax
        (no_text (early_is x front w ss f.reached t None e) refl
        (refused_has_no_text x front w ss f.reached t g))
    sure_taken e (Some k) g =
        sure_judged k e g (c.reader.judge k.role t (marked c.reader.walk k.marks (state x w))) refl

    sure_early : (o : Option R) → c.reader.early t (state x w) ≡ o → HoldsFrom (t ∷ ts) front w ss
    sure_early (Some q) e = refusal q (at_once (early_is x front w ss f.reached t (Some q) e))
    sure_early None e = sure_taken e (feed c.table ss (c.kind t)) refl

  pub sure : (ts : List T) (front : List T) (w : Text T A B) (ss : Symbols K H A B) → Fine front w ss ts → HoldsFrom ts front w ss
  sure [] front w ss f = record {
    text = w;
    is_text = x.is w (subst (IsText c) (append-nil w) (f.reached.back [] (subst (λ x. Derives c.table c.kind x []) (sym f.rest) done)));
    tokens = f.reached.tokens ∙ sym (append-nil front);
    within = f.within;
    built = refl;
  }
  sure (t ∷ ts) front w ss f = sure_early t ts front w ss f (sure ts) (c.reader.early t (state x w)) refl
