-- The canonical spelling of each program that the grammar has is a unit of that program.
use Rattle.std.proofs.Common.{◌≡◌, ℕ, zero, suc, ◌-◌, inl, inr, List, [], ◌∷◌, ◌++◌, Option, None, Some, refl, sym, subst}
use Rattle.std.specs.Prelude.{IfSome}
use Rattle.hc_frac.specs.declared.place.Place.{Place}
use Rattle.hc_grammar.specs.Texts as texts
use Rattle.hc_scan.specs.Places.{after}
use Rattle.hc_scan.specs.Tokens as scan
use Rattle.hc_cast.specs.declared.program.CProgram.{CProgram}
use Rattle.hc_ctoken.specs.declared.token.Lexeme.{Lexeme}
use Rattle.hc_ctoken.specs.declared.token.Lexeme.TheVariants as lex
use Rattle.hc_ctoken.specs.declared.token.Token.{Token}
use Rattle.hc_ctoken.specs.Pieces.{piece}
use Rattle.hc_ctoken.specs.Tokens.{token_at, tokens_from}
use Rattle.hc_cgrammar.specs.UnitRoles.{whole}
use Rattle.hc_cgrammar.specs.UnitTrees.{whole_tree}
use Rattle.hc_cgrammar.specs.Prelude.{prelude, behind_prelude}
use Rattle.hc_cgrammar.specs.Text.{IsCText}
use Rattle.hc_cgrammar.specs.Unit.{IsProgramOf, IsUnit}
use Rattle.hc_cspell.specs.Units.{unit, canonical}
use Rattle.hc_cwrite.specs.Laws.{CanonicalIsUnit, UnitsAreWritable, SayableUnitsAreWritable}
use Rattle.hc_cwrite.specs.Sayable.{AreSayable}
use Rattle.hc_cwrite.specs.Writable.{IsOfText, AreOfTexts, IsWritable}
use Rattle.hc_cwrite.proofs.Fine.{IsSoundAs, IsSound, AllSound}
use Rattle.hc_cwrite.proofs.Printed.{written_says, fine_begins}
use Rattle.hc_cwrite.proofs.Sound.{piece_sound}
use Rattle.hc_cwrite.proofs.Wholes.{unit_fine, unit_built}

-- tokens of texts are sound
token_sound : (t : Token) → IsOfText t → IsSound t
token_sound t (inl e) = subst IsSoundAs (sym e) tt
token_sound t (inr (b, z, e)) =
    let P : Option Lexeme → Type 0 = λ o. IfSome o IsSoundAs in
    subst P e (piece_sound b z)

tokens_sound : (ts : List Token) → AreOfTexts ts → AllSound ts
tokens_sound [] h = tt
tokens_sound (t ∷ ts) (one, h) = (token_sound t one, tokens_sound ts h)

-- for any program with a unit
built : (ts : List Token) → AreOfTexts ts → (p : CProgram) → (h : IsProgramOf ts p) → (from : Place)
    → IsUnit from (canonical (whole_tree h.written)) (whole_tree h.written)
built ts texts_of p h from =
    let sound : AllSound (texts.tokens_of (whole h.written)) = subst AllSound (sym h.tokens) (tokens_sound ts texts_of) in
    unit_built h.written sound h.within (tokens_from from (canonical (whole_tree h.written)))
    (written_says (unit (whole_tree h.written)) (unit_fine h.written sound h.within) from)

pub canonical_is_unit : CanonicalIsUnit
canonical_is_unit p h from =
    let P : CProgram → Type 0 = λ q. IsUnit from (canonical q) q in
    subst P h.is_program.program (built h.tokens h.of_texts p h.is_program from)

-- the tokens of a text are of texts
with_piece_of : (p : Place) (o : Option Lexeme) (b : ℕ) (z : List ℕ) → (piece (b ∷ z)).lexeme ≡ o → (ts : List Token) → AreOfTexts ts
    → AreOfTexts (scan.with_piece piece token_at lex.End p o ts)
with_piece_of p None b z e ts h = h
with_piece_of p (Some l) b z e ts h = (inr (b, z, e), h)

tokens_of_texts : (n : ℕ) (p : Place) (z : List ℕ) → AreOfTexts (scan.tokens_from piece token_at lex.End n p z)
tokens_of_texts n p [] = (inl refl, tt)
tokens_of_texts (suc n) p (b ∷ z) = tokens_of_texts n (after p b) z
tokens_of_texts zero p (b ∷ z) =
    with_piece_of p (piece (b ∷ z)).lexeme b z refl _ (tokens_of_texts ((piece (b ∷ z)).len - 1) (after p b) z)

pub units_are_writable : UnitsAreWritable
units_are_writable from bytes p h = record {
  tokens = tokens_from from bytes;
  of_texts = tokens_of_texts 0 from bytes;
  is_program = h;
}

-- tokens that can say what they say are of texts
sayable_of_texts : (ts : List Token) → AreSayable ts → AreOfTexts ts
sayable_of_texts [] h = tt
sayable_of_texts (t ∷ ts) (inl e, h) = (inl e, sayable_of_texts ts h)
sayable_of_texts (t ∷ ts) (inr fine, h) = (inr (fine_begins t.lexeme fine), sayable_of_texts ts h)

pub sayable_units_are_writable : SayableUnitsAreWritable
sayable_units_are_writable x sayable h = record {
  tokens = texts.tokens_of (whole x);
  of_texts = sayable_of_texts (texts.tokens_of (whole x)) sayable;
  is_program = record { written = x; tokens = refl; within = h; program = refl };
}

-- with the prelude in front it is a C text
pub text_is : (bytes : List ℕ) (p : CProgram) → IsWritable p → bytes ≡ prelude ++ canonical p → IsCText bytes p
text_is bytes p h e = record { unit = canonical p; parts = e; is_unit = canonical_is_unit p h behind_prelude }

pub unit_is : (bytes : List ℕ) (p : CProgram) → IsWritable p → bytes ≡ canonical p → (from : Place) → IsUnit from bytes p
unit_is bytes p h e from =
    let P : List ℕ → Type 0 = λ b. IsUnit from b p in
    subst P (sym e) (canonical_is_unit p h from)
