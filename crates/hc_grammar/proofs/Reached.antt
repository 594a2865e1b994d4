-- Where the machine stands behind some tokens, said by texts.
use Rattle.std.proofs.Common.{◌≡◌, refl, ap, sym, ◌∙◌, subst, true, false, List, [], ◌∷◌, ◌++◌, append_assoc}
use Rattle.std.proofs.Common.{Some, IfSome}
use Rattle.std.proofs.lemmas.List.{append-nil}
use Rattle.hc_grammar.specs.Table.{Symbols}
use Rattle.hc_grammar.specs.Texts.{Text, tokens_of, items_of}
use Rattle.hc_grammar.specs.Derives.{Derives}
use Rattle.hc_grammar.specs.Language.{Language, IsText, IsReadable}
use Rattle.hc_grammar.specs.Machine.{Taken, feed}
use Rattle.hc_grammar.proofs.Sound.{fed, LeadsBack}
use Rattle.hc_grammar.proofs.Complete.{Fit, fit_more, fit_after, First, bare, begins, first}
use Rattle.hc_grammar.proofs.Cuts.{tokens_of-append, tokens_of-items_of, items_of-append}

pub cancel : {X : Type 0} (front : List X) {a b : List X} → front ++ a ≡ front ++ b → a ≡ b
cancel [] e = e
cancel (x ∷ front) e = cancel front (cc)

module _ {K H A B T S R V : Type 0} (c : Language K H A B T S R V) where
  -- behind the tokens `front` the text so far is w, and ss is what every text wants next
  pub record Reached (front : List T) (w : Text T A B) (ss : Symbols K H A B) : Type 0 where
    pub tokens : tokens_of w ≡ front
    pub back : (v : Text T A B) → Derives c.table c.kind ss v → IsText c (w ++ v)
    pub on : (text : Text T A B) (more : List T) → IsText c text → tokens_of text ≡ front ++ more
        → (v : Text T A B) × (text ≡ w ++ v) × Derives c.table c.kind ss v
    pub fit : Fit c.table ss

  -- the next token of a text that goes on behind `front`
  pub record Goes (ss : Symbols K H A B) (t : T) (v : Text T A B) : Type 0 where
    pub taken : Taken K H A B
    pub after : Text T A B
    pub feeds : feed c.table ss (c.kind t) ≡ Some taken
    pub split : v ≡ items_of taken.marks t taken.role after
    pub rest : Derives c.table c.kind taken.rest after

  -- the text so far and one token more
  abbrev pub behind : Text T A B → T → Taken K H A B → Text T A B
  behind w t f = w ++ items_of f.marks t f.role []

  pub behind-append : (w : Text T A B) (t : T) (f : Taken K H A B) (v : Text T A B)
      → behind w t f ++ v ≡ w ++ items_of f.marks t f.role v
  behind-append w t f v =
      append_assoc w (items_of f.marks t f.role []) v ∙ ap (λ x. w ++ x) (items_of-append f.marks t f.role [] v)

  module _ (law : IsReadable c) where
    pub goes : (ss : Symbols K H A B) (t : T) (v : Text T A B) (more : List T)
        → Derives c.table c.kind ss v → Fit c.table ss → tokens_of v ≡ t ∷ more → Goes ss t v
    goes ss t v more d fit e = go (first c.table c.kind law.ll1 ss v d fit)
      where
        go : First c.table c.kind ss v → Goes ss t v
        go (bare f) = absurd (cc)
        go (begins u f after feeds split rest) =
            let same : u ≡ t = cc (tokens_of-items_of f.marks u f.role after, ap tokens_of split, e) in
            record {
              taken = f;
              after = after;
              feeds = subst (λ x. feed c.table ss (c.kind x) ≡ Some f) same feeds;
              split = subst (λ x. v ≡ items_of f.marks x f.role after) same split;
              rest = rest;
            }

    pub rest_tokens : (front : List T) (w : Text T A B) (ss : Symbols K H A B) → Reached front w ss
        → (text v : Text T A B) (more : List T) → tokens_of text ≡ front ++ more → text ≡ w ++ v → tokens_of v ≡ more
    rest_tokens front w ss r text v more e split =
        cancel front
        (ap (λ ts. ts ++ tokens_of v) (sym r.tokens) ∙ sym (tokens_of-append w v) ∙ ap tokens_of (sym split) ∙ e)

    -- at the start
    pub reached_start : Reached [] [] c.start
    reached_start =
        record {
          tokens = refl;
          back = λ v d. d;
          on = λ text more d e. (text, refl, d);
          fit = subst (Fit c.table) (append-nil c.start)
              (fit_more c.table c.start [] (λ k. false) (λ k e. absurd (false_true e)) law.start_fits tt);
        }
      where
        false_true : false ≡ true → ⊥
        false_true e = cc

    feed_back : (t : T) (ss : Symbols K H A B) (f : Taken K H A B) → feed c.table ss (c.kind t) ≡ Some f
        → LeadsBack c.table c.kind law.ll1.empty ss t f
    feed_back t ss f e =
        subst (λ o. IfSome o (LeadsBack c.table c.kind law.ll1.empty ss t)) e (fed c.table c.kind law.ll1.empty t ss)

    pub feed_fit : (t : T) (ss : Symbols K H A B) (f : Taken K H A B) → feed c.table ss (c.kind t) ≡ Some f
        → Fit c.table ss → Fit c.table f.rest
    feed_fit t ss f e fit =
        subst (λ o. IfSome o (λ x. Fit c.table x.rest)) e (fit_after c.table law.ll1 (c.kind t) ss fit)

    -- the text that a token goes on with is cut behind it
    cut_behind : (w : Text T A B) (ss : Symbols K H A B) (t : T) (f : Taken K H A B) (text v : Text T A B)
        → feed c.table ss (c.kind t) ≡ Some f → text ≡ w ++ v → Goes ss t v
        → (after : Text T A B) × (text ≡ behind w t f ++ after) × Derives c.table c.kind f.rest after
    cut_behind w ss t f text v e split n =
        let same : n.taken ≡ f = cc (n.feeds, e) in
        let here : behind w t n.taken ++ n.after ≡ w ++ items_of n.taken.marks t n.taken.role n.after =
        behind-append w t n.taken n.after in
        let whole : text ≡ behind w t n.taken ++ n.after = split ∙ ap (λ x. w ++ x) n.split ∙ sym here in (
          n.after,
          subst (λ (x : Taken K H A B). text ≡ behind w t x ++ n.after) same whole,
          subst (λ (x : Taken K H A B). Derives c.table c.kind x.rest n.after) same n.rest,
        )

    -- and behind one token more
    pub reached_next : (front : List T) (w : Text T A B) (ss : Symbols K H A B) (t : T) (f : Taken K H A B)
        → Reached front w ss → feed c.table ss (c.kind t) ≡ Some f → Reached (front ++ t ∷ []) (behind w t f) f.rest
    reached_next front w ss t f r e = record {
      tokens = tokens_of-append w (items_of f.marks t f.role [])
          ∙ ap (λ ts. ts ++ tokens_of (items_of f.marks t f.role [])) r.tokens
          ∙ ap (λ ts. front ++ ts) (tokens_of-items_of f.marks t f.role []);
      back = λ v d. subst (IsText c) (sym (behind-append w t f v)) (r.back (items_of f.marks t f.role v) (feed_back t ss f e v d));
      on = λ text more d g.
          let g' : tokens_of text ≡ front ++ t ∷ more = g ∙ append_assoc front (t ∷ []) more in
          let (v, split, rest) = r.on text (t ∷ more) d g' in
          cut_behind w ss t f text v e split
          (goes ss t v more rest r.fit (rest_tokens front w ss r text v (t ∷ more) g' split));
      fit = feed_fit t ss f e r.fit;
    }
