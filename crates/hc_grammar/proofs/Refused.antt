-- What is wrong with a token, asked of any text, is what the machine answers there.
use Rattle.std.proofs.Common.{◌≡◌, ap, sym, ◌∙◌, subst, List, [], ◌∷◌, ◌++◌, append_assoc, Option, None, Some}
use Rattle.std.proofs.Common.{refl, Result, Err}
use Rattle.hc_grammar.specs.Table.{Symbols}
use Rattle.hc_grammar.specs.Texts.{Text, Read, tokens_of}
use Rattle.hc_grammar.specs.Reader.{walked, marked}
use Rattle.hc_grammar.specs.Refusals.{Early, Judged, NoText, Holds, at_once, no_text, in_role}
use Rattle.hc_grammar.proofs.Settings.{Setting}
use Rattle.hc_grammar.specs.Language.{Language, IsText}
use Rattle.hc_grammar.specs.Machine.{Taken, feed, refused_or, at_taken}
use Rattle.hc_grammar.proofs.Viable.{completed}
use Rattle.hc_grammar.proofs.Cuts.{tokens_of-append, walked-append, same_cut, same_early, did, items_of-did}
use Rattle.hc_grammar.proofs.Cuts.{tokens_of-did, walked-did}
use Rattle.hc_grammar.proofs.Reached.{Reached, Goes, goes, behind, rest_tokens, reached_next}

module _ {K H A B T S R V : Type 0} {c : Language K H A B T S R V} (x : Setting c) where
  -- the state behind a text
  abbrev state : Text T A B → S
  state w = walked c.reader.walk w c.opening

  module _ (front : List T) (w : Text T A B) (ss : Symbols K H A B) (r : Reached c front w ss) (t : T) where
    -- the first question's one answer
    known_early : (o : Option R) → Early c.reader x.Is c.opening front t o → c.reader.early t (state w) ≡ o
    known_early o e =
        let whole : tokens_of (e.before ++ e.after) ≡ front ++ tokens_of e.after =
        tokens_of-append e.before e.after ∙ ap (λ ts. ts ++ tokens_of e.after) e.read in
        let (v, split, d) = r.on (e.before ++ e.after) (tokens_of e.after) (x.derived (e.before ++ e.after) e.text) whole in
        sym (same_early c.reader x.law.calm e.before w e.after v t c.opening (e.read ∙ sym r.tokens) split) ∙ e.answered

    pub early_is : (o : Option R) → c.reader.early t (state w) ≡ o → Early c.reader x.Is c.opening front t o
    early_is o e =
        let (v, d) = completed c.table c.kind x.law.examples ss in
        record { before = w; after = v; text = x.is (w ++ v) (r.back v d); read = r.tokens; answered = e }

    -- the token as the machine takes it, with the state that its role is asked in
    record TakenAt (role : A) (s : S) : Type 0 where
      taken : Taken K H A B
      feeds : feed c.table ss (c.kind t) ≡ Some taken
      same_role : taken.role ≡ role
      same_state : marked c.reader.walk taken.marks (state w) ≡ s

    taken_as : (before after v : Text T A B) (role : A) → tokens_of before ≡ front
        → before ++ Read t role ∷ after ≡ w ++ v → Goes c ss t v → TakenAt role (state before)
    taken_as before after v role read split n =
        let marks = did {T = T} {A = A} n.taken.marks in
        let cut : before ++ Read t role ∷ after ≡ (w ++ marks) ++ Read t n.taken.role ∷ n.after =
        split ∙ ap (λ x. w ++ x) (n.split ∙ items_of-did n.taken.marks t n.taken.role n.after)
        ∙ sym (append_assoc w marks (Read t n.taken.role ∷ n.after)) in
        let tokens : tokens_of before ≡ tokens_of (w ++ marks) = read ∙ sym r.tokens ∙ sym (tokens_of-did w n.taken.marks) in
        let (same, roles) = same_cut before (w ++ marks) after n.after t t role n.taken.role tokens cut in
        record {
          taken = n.taken;
          feeds = n.feeds;
          same_role = sym roles;
          same_state = sym (ap state same ∙ walked-append c.reader.walk w marks c.opening
              ∙ walked-did c.reader.walk n.taken.marks (state w));
        }

    taken_at : (before after : Text T A B) (role : A) → IsText c (before ++ Read t role ∷ after)
        → tokens_of before ≡ front → TakenAt role (state before)
    taken_at before after role text read =
        let all = before ++ Read t role ∷ after in
        let more = tokens_of after in
        let whole : tokens_of all ≡ front ++ t ∷ more =
        tokens_of-append before (Read t role ∷ after) ∙ ap (λ ts. ts ++ t ∷ more) read in
        let (v, split, d) = r.on all (t ∷ more) text whole in
        taken_as before after v role read split
        (goes c x.law ss t v more d r.fit (rest_tokens c x.law front w ss r all v (t ∷ more) whole split))

    -- the third question's one answer
    pub judged_is : (f : Taken K H A B) → feed c.table ss (c.kind t) ≡ Some f → (o : Option R)
        → c.reader.judge f.role t (marked c.reader.walk f.marks (state w)) ≡ o → Judged c.reader x.Is c.opening front t o
    judged_is f e o judged =
        let next = reached_next c x.law front w ss t f r e in
        let (v, d) = completed c.table c.kind x.law.examples f.rest in
        let marks = did {T = T} {A = A} f.marks in
        let text : behind c w t f ++ v ≡ (w ++ marks) ++ Read t f.role ∷ v =
        ap (λ x. (w ++ x) ++ v) (items_of-did f.marks t f.role []) ∙ append_assoc w (marks ++ Read t f.role ∷ []) v
        ∙ ap (λ x. w ++ x) (append_assoc marks (Read t f.role ∷ []) v)
        ∙ sym (append_assoc w marks (Read t f.role ∷ v)) in
        let same : state (w ++ marks) ≡ marked c.reader.walk f.marks (state w) =
        walked-append c.reader.walk w marks c.opening ∙ walked-did c.reader.walk f.marks (state w) in
        record {
          before = w ++ marks;
          after = v;
          role = f.role;
          text = x.is ((w ++ marks) ++ Read t f.role ∷ v) (subst (IsText c) text (next.back v d));
          read = tokens_of-did w f.marks ∙ r.tokens;
          answered = ap (c.reader.judge f.role t) same ∙ judged;
        }

    -- where the machine takes the token, some text has it
    taken_has_text : (f : Taken K H A B) → feed c.table ss (c.kind t) ≡ Some f
        → NoText c.reader x.Is c.opening front t → ⊥
    taken_has_text f e none =
        let next = reached_next c x.law front w ss t f r e in
        let (v, d) = completed c.table c.kind x.law.examples f.rest in
        none (behind c w t f ++ v) (tokens_of v) (x.is (behind c w t f ++ v) (next.back v d))
        (tokens_of-append (behind c w t f) v ∙ ap (λ ts. ts ++ tokens_of v) next.tokens
        ∙ append_assoc front (t ∷ []) (tokens_of v))

    -- where it doesn't, none has
    pub refused_has_no_text : feed c.table ss (c.kind t) ≡ None → NoText c.reader x.Is c.opening front t
    refused_has_no_text e text more has tokens =
        let (v, split, d) = r.on text (t ∷ more) (x.derived text has) tokens in
        let n = goes c x.law ss t v more d r.fit (rest_tokens c x.law front w ss r text v (t ∷ more) tokens split) in
        cc (n.feeds, e)

    abbrev Next : Type 0
    Next = Symbols K H A B → S → V → Result V (R × T)

    -- what the machine answers where the first question finds nothing
    abbrev taken_next : V → Next → Result V (R × T)
    taken_next v next = at_taken c t (feed c.table ss (c.kind t)) (state w) v next

    -- what it answers at the token
    abbrev pub at_token : V → Next → Result V (R × T)
    at_token v next = refused_or (c.reader.early t (state w)) t (taken_next v next)

    stops_syntax : (o : Option (Taken K H A B)) → feed c.table ss (c.kind t) ≡ o
        → NoText c.reader x.Is c.opening front t → (v : V) (next : Next)
        → at_taken c t o (state w) v next ≡ Err (c.reader.syntax, t)
    stops_syntax None e none v next = refl
    stops_syntax (Some f) e none v next = absurd (taken_has_text f e none)

    stops_judged : (q : R) → Judged c.reader x.Is c.opening front t (Some q) → (v : V) (next : Next)
        → taken_next v next ≡ Err (q, t)
    stops_judged q j v next =
        let k = taken_at j.before j.after j.role (x.derived (j.before ++ Read t j.role ∷ j.after) j.text) j.read in
        let s1 = marked c.reader.walk k.taken.marks (state w) in
        let judged : c.reader.judge k.taken.role t s1 ≡ Some q =
        ap (λ role. c.reader.judge role t s1) k.same_role ∙ ap (c.reader.judge j.role t) k.same_state ∙ j.answered in
        let s' = c.reader.walk.on_token k.taken.role t s1 in
        let v' = c.builder.on_token k.taken.role t (marked c.builder k.taken.marks v) in
        ap (λ o. at_taken c t o (state w) v next) k.feeds ∙ ap (λ o. refused_or o t (next k.taken.rest s' v')) judged

    -- at a token with which something is wrong the machine stops, and says what
    pub stops : (q : R) → Holds c.reader x.Is c.opening front t q → (v : V) (next : Next) → at_token v next ≡ Err (q, t)
    stops q (at_once e) v next = ap (λ o. refused_or o t (taken_next v next)) (known_early (Some q) e)
    stops q (no_text e syntax none) v next =
        ap (λ o. refused_or o t (taken_next v next)) (known_early None e)
        ∙ stops_syntax (feed c.table ss (c.kind t)) refl none v next ∙ ap (λ x. Err (x, t)) syntax
    stops q (in_role e j) v next =
        ap (λ o. refused_or o t (taken_next v next)) (known_early None e) ∙ stops_judged q j v next
