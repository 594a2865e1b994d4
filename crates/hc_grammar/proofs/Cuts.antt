-- One text, cut behind the same tokens.
use Rattle.std.proofs.Common.{◌≡◌, refl, ap, sym, ◌∙◌, List, [], ◌∷◌, ◌++◌}
use Rattle.hc_grammar.specs.Texts.{Text, Read, Did, tokens_of, items_of}
use Rattle.hc_grammar.specs.Reader.{Walk, walked, marked, Reader, IsCalm}

module _ {T A B : Type 0} where
  pub tokens_of-append : (w v : Text T A B) → tokens_of (w ++ v) ≡ tokens_of w ++ tokens_of v
  tokens_of-append [] v = refl
  tokens_of-append (Read t role ∷ w) v = ap (λ ts. t ∷ ts) (tokens_of-append w v)
  tokens_of-append (Did b ∷ w) v = tokens_of-append w v

  pub tokens_of-items_of : (marks : List B) (t : T) (role : A) (w : Text T A B)
      → tokens_of (items_of marks t role w) ≡ t ∷ tokens_of w
  tokens_of-items_of [] t role w = refl
  tokens_of-items_of (b ∷ marks) t role w = tokens_of-items_of marks t role w

  pub items_of-append : (marks : List B) (t : T) (role : A) (w v : Text T A B)
      → items_of marks t role w ++ v ≡ items_of marks t role (w ++ v)
  items_of-append [] t role w v = refl
  items_of-append (b ∷ marks) t role w v = ap (λ x. Did b ∷ x) (items_of-append marks t role w v)

  -- a cut before a token is the only one behind as many tokens
  pub same_cut : (a b x y : Text T A B) (t u : T) (role other : A) → tokens_of a ≡ tokens_of b
      → a ++ Read t role ∷ x ≡ b ++ Read u other ∷ y → (a ≡ b) × (role ≡ other)
  same_cut [] [] x y t u role other e f = (refl, cc)
  same_cut [] (Read v r ∷ b) x y t u role other e f = absurd (cc)
  same_cut [] (Did m ∷ b) x y t u role other e f = absurd (cc)
  same_cut (Read v r ∷ a) [] x y t u role other e f = absurd (cc)
  same_cut (Did m ∷ a) [] x y t u role other e f = absurd (cc)
  same_cut (Read v r ∷ a) (Read v' r' ∷ b) x y t u role other e f =
      let (same, in_role) = same_cut a b x y t u role other (cc) (cc) in (cc, in_role)
  same_cut (Read v r ∷ a) (Did m ∷ b) x y t u role other e f = absurd (cc)
  same_cut (Did m ∷ a) (Read v r ∷ b) x y t u role other e f = absurd (cc)
  same_cut (Did m ∷ a) (Did m' ∷ b) x y t u role other e f =
      let (same, in_role) = same_cut a b x y t u role other e (cc) in (cc, in_role)

  pub walked-append : {S : Type 0} (k : Walk T A B S) (w v : Text T A B) (s : S)
      → walked k (w ++ v) s ≡ walked k v (walked k w s)
  walked-append k [] v s = refl
  walked-append k (Read t role ∷ w) v s = walked-append k w v (k.on_token role t s)
  walked-append k (Did b ∷ w) v s = walked-append k w v (k.on_mark b s)

  -- the state behind marks and a token
  pub walked-items_of : {S : Type 0} (k : Walk T A B S) (marks : List B) (t : T) (role : A) (w : Text T A B) (s : S)
      → walked k (items_of marks t role w) s ≡ walked k w (k.on_token role t (marked k marks s))
  walked-items_of k [] t role w s = refl
  walked-items_of k (b ∷ marks) t role w s = walked-items_of k marks t role w (k.on_mark b s)

  -- marks as a text
  abbrev pub did : List B → Text T A B
  did [] = []
  did (b ∷ marks) = Did b ∷ did marks

  pub items_of-did : (marks : List B) (t : T) (role : A) (w : Text T A B)
      → items_of marks t role w ≡ did marks ++ Read t role ∷ w
  items_of-did [] t role w = refl
  items_of-did (b ∷ marks) t role w = ap (λ x. Did b ∷ x) (items_of-did marks t role w)

  pub tokens_of-did : (w : Text T A B) (marks : List B) → tokens_of (w ++ did marks) ≡ tokens_of w
  tokens_of-did [] [] = refl
  tokens_of-did [] (b ∷ marks) = tokens_of-did [] marks
  tokens_of-did (Read t role ∷ w) marks = ap (λ ts. t ∷ ts) (tokens_of-did w marks)
  tokens_of-did (Did b ∷ w) marks = tokens_of-did w marks

  pub walked-did : {S : Type 0} (k : Walk T A B S) (marks : List B) (s : S) → walked k (did marks) s ≡ marked k marks s
  walked-did k [] s = refl
  walked-did k (b ∷ marks) s = walked-did k marks (k.on_mark b s)

  module _ {S R : Type 0} (m : Reader T A B S R) (calm : IsCalm m) where
    calm_marks : (w : Text T A B) (t : T) (s : S) → tokens_of w ≡ []
        → m.early t (walked m.walk w s) ≡ m.early t s
    calm_marks [] t s e = refl
    calm_marks (Read u role ∷ w) t s e = absurd (cc)
    calm_marks (Did b ∷ w) t s e = calm_marks w t (m.walk.on_mark b s) e ∙ calm b t s

    same_step : (u v : T) (role other : A) (s : S) → u ≡ v → role ≡ other
        → m.walk.on_token role u s ≡ m.walk.on_token other v s
    same_step u v role other s e f = cc

    -- the first question has one answer behind as many tokens, whichever marks have passed
    pub same_early : (a b x y : Text T A B) (t : T) (s : S) → tokens_of a ≡ tokens_of b → a ++ x ≡ b ++ y
        → m.early t (walked m.walk a s) ≡ m.early t (walked m.walk b s)
    same_early [] b x y t s e f = sym (calm_marks b t s (sym e))
    same_early (Read u role ∷ a) [] x y t s e f = absurd (cc)
    same_early (Did c ∷ a) [] x y t s e f = calm_marks (Did c ∷ a) t s e
    same_early (Read u role ∷ a) (Read v other ∷ b) x y t s e f =
        same_early a b x y t (m.walk.on_token role u s) (cc) (cc)
        ∙ ap (λ q. m.early t (walked m.walk b q)) (same_step u v role other s (cc) (cc))
    same_early (Read u role ∷ a) (Did c ∷ b) x y t s e f = absurd (cc)
    same_early (Did c ∷ a) (Read u role ∷ b) x y t s e f = absurd (cc)
    same_early (Did c ∷ a) (Did d ∷ b) x y t s e f =
        let same : c ≡ d = cc in
        same_early a b x y t (m.walk.on_mark c s) e (cc)
        ∙ ap (λ q. m.early t (walked m.walk b (m.walk.on_mark q s))) same
