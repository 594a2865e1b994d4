-- The machine gives the one answer that there is.
use Rattle.std.proofs.Common.{◌≡◌, ap, sym, ◌∙◌, subst, ◌↔◌, List, [], ◌∷◌, Result, Ok, Err}
use Rattle.hc_grammar.specs.Table.{Symbols}
use Rattle.hc_grammar.specs.Texts.{Text, tokens_of, items_of}
use Rattle.hc_grammar.specs.Derives.{Derives}
use Rattle.hc_grammar.specs.Ends.{Ends}
use Rattle.hc_grammar.specs.Language.{Language, is_last}
use Rattle.hc_grammar.specs.Machine.{Taken, reads}
use Rattle.hc_grammar.specs.Answers.{Answers, ReadsExactly, HaveOneText}
use Rattle.hc_grammar.proofs.Complete.{Fit}
use Rattle.hc_grammar.proofs.Cuts.{tokens_of-items_of}
use Rattle.hc_grammar.proofs.Reached.{goes, cancel, reached_start, feed_fit}
use Rattle.hc_grammar.proofs.Settings.{Setting, plain}
use Rattle.hc_grammar.proofs.Passing.{NoneBefore, Rest, rest_behind}
use Rattle.hc_grammar.proofs.Sure.{sure}
use Rattle.hc_grammar.proofs.Found.{nothing_more, accepts, refuses}

module _ {K H A B T S R V : Type 0} {c : Language K H A B T S R V} (x : Setting c) where
  starts : (ts : List T) → Ends (is_last c) ts → Rest x ts c.start
  starts [] ends = absurd ends
  starts (t ∷ ts) ends = (ends, x.law.start_closes)

  none_at_first : NoneBefore x []
  none_at_first [] u b e q h = absurd (cc)
  none_at_first (y ∷ a) u b e q h = absurd (cc)

  found : (ts : List T) → Ends (is_last c) ts → (answer : Result V (R × T)) → Answers c x.Is ts answer
      → reads c ts c.start c.opening c.blank ≡ answer
  found ts ends (Ok v) a =
      accepts x ts [] [] c.start (reached_start c x.law) (starts ts ends) a.text (x.derived a.text a.is_text) a.tokens a.within
      ∙ ap Ok a.built
  found ts ends (Err (q, t)) a =
      ap (λ u. reads c u c.start c.opening c.blank) a.parts
      ∙ refuses x a.front [] [] c.start (reached_start c x.law) t q a.after a.holds a.first

  -- the machine's answer holds, and whatever holds is the machine's answer
  pub exact : (ts : List T) → Ends (is_last c) ts → (answer : Result V (R × T))
      → Answers c x.Is ts answer ↔ (reads c ts c.start c.opening c.blank ≡ answer)
  exact ts ends answer =
      (found ts ends answer, λ e. subst (Answers c x.Is ts) e holds)
    where
      holds : Answers c x.Is ts (reads c ts c.start c.opening c.blank)
      holds = sure x ts [] [] c.start
          (record { reached = reached_start c x.law; none = none_at_first; within = tt; rest = starts ts ends })

  same_on : (ts : List T) (ss : Symbols K H A B) → Rest x ts ss → Fit c.table ss → (w v : Text T A B)
      → Derives c.table c.kind ss w → Derives c.table c.kind ss v → tokens_of w ≡ ts → tokens_of v ≡ ts → w ≡ v
  same_on [] ss rest fit w v d e tokens others =
      nothing_more x w (subst (λ u. Derives c.table c.kind u w) rest d)
      ∙ sym (nothing_more x v (subst (λ u. Derives c.table c.kind u v) rest e))
  same_on (t ∷ ts) ss rest fit w v d e tokens others =
      let g = goes c x.law ss t w ts d fit tokens in
      let h = goes c x.law ss t v ts e fit others in
      let same : h.taken ≡ g.taken = cc (h.feeds, g.feeds) in
      let taken = g.taken in
      let other : v ≡ items_of taken.marks t taken.role h.after =
      h.split ∙ ap (λ (k : Taken K H A B). items_of k.marks t k.role h.after) same in
      let left : tokens_of g.after ≡ ts =
      cancel (t ∷ []) (sym (tokens_of-items_of taken.marks t taken.role g.after) ∙ ap tokens_of (sym g.split) ∙ tokens) in
      let right : tokens_of h.after ≡ ts =
      cancel (t ∷ []) (sym (tokens_of-items_of taken.marks t taken.role h.after) ∙ ap tokens_of (sym other) ∙ others) in
      let more = same_on ts taken.rest (rest_behind x t ts ss taken rest g.feeds) (feed_fit c x.law t ss taken g.feeds fit)
      g.after h.after g.rest (subst (λ (k : Taken K H A B). Derives c.table c.kind k.rest h.after) same h.rest) left right in
      g.split ∙ ap (items_of taken.marks t taken.role) more ∙ sym other

  -- tokens are those of at most one text
  pub same_text : (ts : List T) → Ends (is_last c) ts → (w v : Text T A B) → x.Is w → x.Is v
      → tokens_of w ≡ ts → tokens_of v ≡ ts → w ≡ v
  same_text ts ends w v d e =
      same_on ts c.start (starts ts ends) (reached_start c x.law).fit w v (x.derived w d) (x.derived v e)

-- the two theorems, over the texts that the table derives
pub reads_exactly : (K H A B T S R V : Type 0) → ReadsExactly K H A B T S R V
reads_exactly K H A B T S R V c law = exact (plain law)

pub have_one_text : (K H A B T S R V : Type 0) → HaveOneText K H A B T S R V
have_one_text K H A B T S R V c law = same_text (plain law)
