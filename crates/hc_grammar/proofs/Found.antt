-- What holds is what the machine answers.
use Rattle.std.proofs.Common.{◌≡◌, refl, ap, sym, ◌∙◌, subst, List, [], ◌∷◌, ◌++◌, append_assoc, Option, None}
use Rattle.std.proofs.Common.{Some, Ok, Err}
use Rattle.std.proofs.lemmas.List.{append-nil}
use Rattle.hc_grammar.specs.Table.{Symbols}
use Rattle.hc_grammar.specs.Texts.{Text, tokens_of}
use Rattle.hc_grammar.specs.Derives.{Derives, done}
use Rattle.hc_grammar.specs.Reader.{marked, Within}
use Rattle.hc_grammar.specs.Refusals.{at_once, no_text, in_role}
use Rattle.hc_grammar.specs.Language.{Language}
use Rattle.hc_grammar.specs.Machine.{Taken, feed, reads}
use Rattle.hc_grammar.proofs.Cuts.{tokens_of-items_of}
use Rattle.hc_grammar.proofs.Reached.{Reached, Goes, goes, cancel, behind, behind-append}
use Rattle.hc_grammar.proofs.Settings.{Setting}
use Rattle.hc_grammar.proofs.Refused.{early_is, judged_is, refused_has_no_text, stops}
use Rattle.hc_grammar.proofs.Passing.{calm_marked, within_first, state, value, HoldsHere, Rest, rest_behind, Passed}
use Rattle.hc_grammar.proofs.Passing.{reached_behind, state_behind, reads_on}

module _ {K H A B T S R V : Type 0} {c : Language K H A B T S R V} (x : Setting c) where
  pub nothing_more : (v : Text T A B) → Derives c.table c.kind [] v → v ≡ []
  nothing_more _ done = refl

  -- the token of a text with which nothing is wrong passes, and so may the rest
  passes : (front : List T) (w : Text T A B) (ss : Symbols K H A B) → Reached c front w ss
      → (t : T) (v : Text T A B) → Within c.reader v (state x w) → (g : Goes c ss t v)
      → (p : Passed x front w ss t g.taken) × Within c.reader g.after (state x (behind c w t g.taken))
  passes front w ss r t v within g =
      let marks = g.taken.marks in
      let inside = subst (λ u. Within c.reader u (state x w)) g.split within in
      let (early, judged, after) = within_first c.reader x.law.calm marks t g.taken.role g.after (state x w) inside in
      let first : c.reader.early t (state x w) ≡ None = sym (calm_marked c.reader x.law.calm marks t (state x w)) ∙ early in
      let p : Passed x front w ss t g.taken = record { reached = r; early = first; feeds = g.feeds; judged = judged } in
      (p, subst (Within c.reader g.after) (sym (state_behind x front w ss t g.taken p)) after)

  -- a text with which nothing is wrong is read to its end
  pub accepts : (ts : List T) (front : List T) (w : Text T A B) (ss : Symbols K H A B) → Reached c front w ss → Rest x ts ss
      → (v : Text T A B) → Derives c.table c.kind ss v → tokens_of v ≡ ts → Within c.reader v (state x w)
      → reads c ts ss (state x w) (value x w) ≡ Ok (value x (w ++ v))
  accepts [] front w ss r rest v d tokens within =
      let bare : v ≡ [] = nothing_more v (subst (λ u. Derives c.table c.kind u v) rest d) in
      ap (λ u. Ok (value x u)) (sym (append-nil w)) ∙ ap (λ u. Ok (value x (w ++ u))) (sym bare)
  accepts (t ∷ ts) front w ss r rest v d tokens within =
      let g = goes c x.law ss t v ts d r.fit tokens in
      let (p, after) = passes front w ss r t v within g in
      let next = behind c w t g.taken in
      let first : tokens_of v ≡ t ∷ tokens_of g.after =
      ap tokens_of g.split ∙ tokens_of-items_of g.taken.marks t g.taken.role g.after in
      let whole : next ++ g.after ≡ w ++ v = behind-append c w t g.taken g.after ∙ ap (λ u. w ++ u) (sym g.split) in
      reads_on x front w ss t g.taken p ts
      ∙ accepts ts (front ++ t ∷ []) next g.taken.rest (reached_behind x front w ss t g.taken p)
      (rest_behind x t ts ss g.taken rest g.feeds) g.after g.rest (cancel (t ∷ []) (sym first ∙ tokens)) after
      ∙ ap (λ u. Ok (value x u)) whole

  -- a token with which nothing is wrong passes
  module _ (front : List T) (w : Text T A B) (ss : Symbols K H A B) (r : Reached c front w ss) (t : T)
      (fine : (q : R) → HoldsHere x front t q → ⊥) where
    Passes : Type 0
    Passes = (k : Taken K H A B) × Passed x front w ss t k

    passes_judged : c.reader.early t (state x w) ≡ None → (k : Taken K H A B) → feed c.table ss (c.kind t) ≡ Some k
        → (o : Option R) → c.reader.judge k.role t (marked c.reader.walk k.marks (state x w)) ≡ o → Passes
    unfolding Passes
    passes_judged e k g (Some q) j =
        absurd (fine q (in_role (early_is x front w ss r t None e) (judged_is x front w ss r t k g (Some q) j)))
    passes_judged e k g None j = (k, record { reached = r; early = e; feeds = g; judged = j })

    passes_taken : c.reader.early t (state x w) ≡ None → (o : Option (Taken K H A B))
        → feed c.table ss (c.kind t) ≡ o → Passes
    passes_taken e None g =
        let none = refused_has_no_text x front w ss r t g in
        absurd (fine c.reader.syntax (no_text (early_is x front w ss r t None e) refl none))
    passes_taken e (Some k) g =
        passes_judged e k g (c.reader.judge k.role t (marked c.reader.walk k.marks (state x w))) refl

    passes_early : (o : Option R) → c.reader.early t (state x w) ≡ o → Passes
    passes_early (Some q) e = absurd (fine q (at_once (early_is x front w ss r t (Some q) e)))
    passes_early None e = passes_taken e (feed c.table ss (c.kind t)) refl

    it_passes : (k : Taken K H A B) × Passed x front w ss t k
    unfolding Passes
    it_passes = passes_early (c.reader.early t (state x w)) refl

  -- a refusal is met where it stands
  pub refuses : (ahead : List T) (front : List T) (w : Text T A B) (ss : Symbols K H A B) → Reached c front w ss
      → (t : T) (q : R) (after : List T) → HoldsHere x (front ++ ahead) t q
      → ((a : List T) (u : T) (b : List T) → ahead ≡ a ++ u ∷ b → (p : R) → HoldsHere x (front ++ a) u p → ⊥)
      → reads c (ahead ++ t ∷ after) ss (state x w) (value x w) ≡ Err (q, t)
  refuses [] front w ss r t q after holds none =
      let here = subst (λ y. HoldsHere x y t q) (append-nil front) holds in
      stops x front w ss r t q here (value x w) (reads c after)
  refuses (u ∷ ahead) front w ss r t q after holds none =
      let fine : (p : R) → HoldsHere x front u p → ⊥ =
      λ p h. none [] u ahead refl p (subst (λ y. HoldsHere x y u p) (sym (append-nil front)) h) in
      let (k, p) = it_passes front w ss r u fine in
      let first = reads_on x front w ss u k p (ahead ++ t ∷ after) in
      let there = subst (λ y. HoldsHere x y t q) (sym (append_assoc front (u ∷ []) ahead)) holds in
      first ∙ refuses ahead (front ++ u ∷ []) (behind c w u k) k.rest (reached_behind x front w ss u k p) t q after there
      (λ a y b e p h. none (u ∷ a) y b (ap (λ z. u ∷ z) e) p (subst (λ z. HoldsHere x z y p) (append_assoc front (u ∷ []) a) h))
