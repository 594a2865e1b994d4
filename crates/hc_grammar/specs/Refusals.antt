-- The first token of a list at which something is wrong, and what is wrong there first.
use Rattle.std.specs.Prelude.{◌≡◌, List, ◌∷◌, ◌++◌, Option, None, Some}
use Rattle.hc_grammar.specs.Texts.{Text, Read, tokens_of}
use Rattle.hc_grammar.specs.Reader.{Reader, walked}

module _ {T A B S R : Type 0} (m : Reader T A B S R) (IsText : Text T A B → Type 0) (opening : S) where
  -- the first question's answer at t, behind the tokens `front` in a text
  pub record Early (front : List T) (t : T) (answer : Option R) : Type 0 where
    pub before : Text T A B
    pub after : Text T A B
    pub text : IsText (before ++ after)
    pub read : tokens_of before ≡ front
    pub answered : m.early t (walked m.walk before opening) ≡ answer

  -- the third question's answer at t, which follows the tokens `front` in a text
  pub record Judged (front : List T) (t : T) (answer : Option R) : Type 0 where
    pub before : Text T A B
    pub after : Text T A B
    pub role : A
    pub text : IsText (before ++ Read t role ∷ after)
    pub read : tokens_of before ≡ front
    pub answered : m.judge role t (walked m.walk before opening) ≡ answer

  -- no text has these tokens first, and t next
  abbrev pub NoText : List T → T → Type 0
  NoText front t = (w : Text T A B) (more : List T) → IsText w → tokens_of w ≡ front ++ t ∷ more → ⊥

  -- what is wrong with t behind the tokens `front`: the first question that finds something
  pub data Holds (front : List T) (t : T) (r : R) : Type 0 where
    at_once : Early front t (Some r) → Holds front t r
    no_text : Early front t None → m.syntax ≡ r → NoText front t → Holds front t r
    in_role : Early front t None → Judged front t (Some r) → Holds front t r

  -- the first token of the list with which something is wrong is t, and this is what is wrong
  pub record FirstRefusal (ts : List T) (r : R) (t : T) : Type 0 where
    pub front : List T
    pub after : List T
    pub parts : ts ≡ front ++ t ∷ after
    pub holds : Holds front t r
    pub first : (a : List T) (x : T) (b : List T) → front ≡ a ++ x ∷ b → (q : R) → Holds a x q → ⊥

  -- and it begins at this place
  pub record IsRefusedAt {P : Type 0} (place : T → P) (ts : List T) (what : R × P) : Type 0 where
    pub at : T
    pub refusal : FirstRefusal ts what.0 at
    pub place_is : place at ≡ what.1
