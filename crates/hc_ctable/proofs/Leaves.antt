-- What tokens of a kind say: from what is said to the kind, and back.
use Rattle.std.proofs.Common.{◌≡◌, ◌==◌, ℕ, zero, suc, ℤ, pos, negsuc, Bool, true, false, cond, ◌∷◌, Some, refl, sym, ap, ◌∙◌, codes, nat_eq}
use Rattle.std.specs.List.{slice_get}
use Rattle.std.specs.Cmp.Lexicographic.{pointwise, same_text}
use Rattle.std.proofs.lemmas.Bool.{eqb-true, false≢true}
use Rattle.hc_grammar.specs.Texts.{Read}
use Rattle.hc_cast.specs.declared.primitive.Primitive.{Primitive}
use Rattle.hc_ctoken.specs.declared.fixed.Fixed.{Fixed}
use Rattle.hc_ctoken.specs.declared.kind.Kind.{Kind}
use Rattle.hc_ctoken.specs.declared.kind.Kind.TheVariants as k
use Rattle.hc_ctoken.specs.declared.token.Lexeme.{Lexeme}
use Rattle.hc_ctoken.specs.declared.token.Lexeme.TheVariants as lex
use Rattle.hc_ctoken.specs.declared.token.Token.{Token}
use Rattle.hc_ctoken.specs.Lexemes.{local_kind, number_kind, kind_of}
use Rattle.hc_cgrammar.specs.declared.role.Role.{Role}
use Rattle.hc_cgrammar.specs.Units.{String, named, empty}
use Rattle.hc_cgrammar.specs.UnitRoles.{string}
use Rattle.hc_cgrammar.specs.Leaves.{Spelled, Word, OfFixed, OfZero, OfUnused, OfEnd, OfArray, OfFunction, OfLocal, OfThread, OfPrimitive, OfNumber}
use Rattle.hc_ctable.specs.Table.{number, same}
use Rattle.hc_ctable.proofs.Tabled.{kinds, kind_at}

-- a kind of two, by a test
local_by : {X : Type 0} (f : Kind → X) (x : X) → f k.Unused ≡ x → f k.Local ≡ x → (b : Bool) → f (cond b k.Unused k.Local) ≡ x
local_by f x e h true = e
local_by f x e h false = h

number_by : {X : Type 0} (f : Kind → X) (x : X) → f k.Zero ≡ x → f k.Number ≡ x → (n : ℤ) → f (number_kind n) ≡ x
number_by f x e h (pos zero) = e
number_by f x e h (pos (suc n)) = h
number_by f x e h (negsuc n) = h

-- what a phrase or a wanted kind makes of a local and of a number
pub at_local : {X : Type 0} (f : Kind → X) (x : X) → f k.Unused ≡ x → f k.Local ≡ x → (t : OfLocal) → f (kind_of t.0.lexeme) ≡ x
at_local f x e h t = ap (λ l. f (kind_of l)) t.2 ∙ local_by f x e h (pointwise nat_eq t.1 (codes "v_u"))

pub at_number : {X : Type 0} (f : Kind → X) (x : X) → f k.Zero ≡ x → f k.Number ≡ x → (t : OfNumber) → f (kind_of t.0.lexeme) ≡ x
at_number f x e h t = ap (λ l. f (kind_of l)) t.2 ∙ number_by f x e h t.1

-- what a token that was taken says
clash : {b : Bool} → b ≡ false → b ≡ true → ⊥
clash e h = false≢true (sym e ∙ h)

pub not_local : (wanted : Kind) (w : Word) → same wanted k.Unused ≡ false → same wanted k.Local ≡ false
    → same wanted (local_kind w) ≡ true → ⊥
not_local wanted w e h i = clash (local_by (same wanted) false e h (pointwise nat_eq w (codes "v_u"))) i

pub not_number : (wanted : Kind) (n : ℤ) → same wanted k.Zero ≡ false → same wanted k.Number ≡ false
    → same wanted (number_kind n) ≡ true → ⊥
not_number wanted n e h i = clash (number_by (same wanted) false e h n) i

pub number_said : (l : Lexeme) → same k.AnyNumber (kind_of l) ≡ true → (n : ℤ) × (l ≡ lex.Number n)
number_said (lex.Number n) i = (n, refl)
number_said (lex.Local w) i = absurd (not_local k.AnyNumber w refl refl i)
number_said _ i = absurd (cc)

pub local_said : (l : Lexeme) → same k.AnyLocal (kind_of l) ≡ true → (w : Word) × (l ≡ lex.Local w)
local_said (lex.Local w) i = (w, refl)
local_said (lex.Number n) i = absurd (not_number k.AnyLocal n refl refl i)
local_said _ i = absurd (cc)

pub zero_said : (l : Lexeme) → same k.Zero (kind_of l) ≡ true → l ≡ lex.Number (pos 0)
zero_said (lex.Number (pos zero)) i = refl
zero_said (lex.Number (pos (suc n))) i = absurd (cc)
zero_said (lex.Number (negsuc n)) i = absurd (cc)
zero_said (lex.Local w) i = absurd (not_local k.Zero w refl refl i)
zero_said _ i = absurd (cc)

unused_by : (w : Word) (b : Bool) → pointwise nat_eq w (codes "v_u") ≡ b → same k.Unused (cond b k.Unused k.Local) ≡ true
    → w ≡ codes "v_u"
unused_by w true e i = same_text w (codes "v_u") (sym e)
unused_by w false e i = absurd (cc)

pub unused_said : (l : Lexeme) → same k.Unused (kind_of l) ≡ true → l ≡ lex.Local (codes "v_u")
unused_said (lex.Local w) i = ap lex.Local (unused_by w (pointwise nat_eq w (codes "v_u")) refl i)
unused_said (lex.Number n) i = absurd (not_number k.Unused n refl refl i)
unused_said _ i = absurd (cc)

pub fixed_same : (one other : Fixed) → (number one == number other) ≡ true → other ≡ one
fixed_same one other e =
    let here : slice_get kinds (number other) ≡ Some (k.Fixed other) = kind_at (k.Fixed other) in
    let there : slice_get kinds (number one) ≡ Some (k.Fixed one) = kind_at (k.Fixed one) in
    let numbers : number one ≡ number other = eqb-true (number one) (number other) e in
    cc (ap (slice_get kinds) numbers)

pub fixed_said : (one : Fixed) (l : Lexeme) → same (k.Fixed one) (kind_of l) ≡ true → l ≡ lex.Fixed one
fixed_said one (lex.Fixed other) i = ap lex.Fixed (fixed_same one other i)
fixed_said one (lex.Local w) i = absurd (not_local (k.Fixed one) w refl refl i)
fixed_said one (lex.Number n) i = absurd (not_number (k.Fixed one) n refl refl i)
fixed_said one _ i = absurd (cc)

pub array_said : (l : Lexeme) → same k.Array (kind_of l) ≡ true → (w : Word) × (l ≡ lex.Array w)
array_said (lex.Array w) i = (w, refl)
array_said (lex.Local w) i = absurd (not_local k.Array w refl refl i)
array_said (lex.Number n) i = absurd (not_number k.Array n refl refl i)
array_said _ i = absurd (cc)

pub function_said : (l : Lexeme) → same k.Function (kind_of l) ≡ true → (w : Word) × (l ≡ lex.Function w)
function_said (lex.Function w) i = (w, refl)
function_said (lex.Local w) i = absurd (not_local k.Function w refl refl i)
function_said (lex.Number n) i = absurd (not_number k.Function n refl refl i)
function_said _ i = absurd (cc)

pub thread_said : (l : Lexeme) → same k.Thread (kind_of l) ≡ true → (n : ℕ) × (l ≡ lex.Thread n)
thread_said (lex.Thread n) i = (n, refl)
thread_said (lex.Local w) i = absurd (not_local k.Thread w refl refl i)
thread_said (lex.Number n) i = absurd (not_number k.Thread n refl refl i)
thread_said _ i = absurd (cc)

pub primitive_said : (l : Lexeme) → same k.Primitive (kind_of l) ≡ true → (p : Primitive) × (l ≡ lex.Primitive p)
primitive_said (lex.Primitive p) i = (p, refl)
primitive_said (lex.Local w) i = absurd (not_local k.Primitive w refl refl i)
primitive_said (lex.Number n) i = absurd (not_number k.Primitive n refl refl i)
primitive_said _ i = absurd (cc)

pub end_said : (l : Lexeme) → same k.End (kind_of l) ≡ true → l ≡ lex.End
end_said lex.End i = refl
end_said (lex.Local w) i = absurd (not_local k.End w refl refl i)
end_said (lex.Number n) i = absurd (not_number k.End n refl refl i)
end_said _ i = absurd (cc)

abbrev pub text_said : (t : Token) (l : Lexeme) → t.lexeme ≡ l → same k.Text (kind_of l) ≡ true → String
text_said t (lex.Text w) e i = named (t, w, e)
text_said t lex.EmptyText e i = empty (t, e)
text_said t (lex.Local w) e i = absurd (not_local k.Text w refl refl i)
text_said t (lex.Number n) e i = absurd (not_number k.Text n refl refl i)
text_said t _ e i = absurd (cc)

-- a token as the grammar names it, from a wanted kind that took it
abbrev pub a_fixed : (one : Fixed) (t : Token) → same (k.Fixed one) (kind_of t.lexeme) ≡ true → OfFixed one
a_fixed one t i = (t, fixed_said one t.lexeme i)

abbrev pub a_number : (t : Token) → same k.AnyNumber (kind_of t.lexeme) ≡ true → OfNumber
a_number t i = let said = number_said t.lexeme i in (t, said.0, said.1)

abbrev pub a_local : (t : Token) → same k.AnyLocal (kind_of t.lexeme) ≡ true → OfLocal
a_local t i = let said = local_said t.lexeme i in (t, said.0, said.1)

abbrev pub a_zero : (t : Token) → same k.Zero (kind_of t.lexeme) ≡ true → OfZero
a_zero t i = (t, zero_said t.lexeme i)

abbrev pub an_unused : (t : Token) → same k.Unused (kind_of t.lexeme) ≡ true → OfUnused
an_unused t i = (t, unused_said t.lexeme i)

abbrev pub an_array : (t : Token) → same k.Array (kind_of t.lexeme) ≡ true → OfArray
an_array t i = let said = array_said t.lexeme i in (t, said.0, said.1)

abbrev pub a_function : (t : Token) → same k.Function (kind_of t.lexeme) ≡ true → OfFunction
a_function t i = let said = function_said t.lexeme i in (t, said.0, said.1)

abbrev pub a_thread : (t : Token) → same k.Thread (kind_of t.lexeme) ≡ true → OfThread
a_thread t i = let said = thread_said t.lexeme i in (t, said.0, said.1)

abbrev pub a_primitive : (t : Token) → same k.Primitive (kind_of t.lexeme) ≡ true → OfPrimitive
a_primitive t i = let said = primitive_said t.lexeme i in (t, said.0, said.1)

abbrev pub an_end : (t : Token) → same k.End (kind_of t.lexeme) ≡ true → OfEnd
an_end t i = (t, end_said t.lexeme i)

-- a string, and how it is spelled
abbrev pub a_string : (t : Token) → same k.Text (kind_of t.lexeme) ≡ true → String
a_string t i = text_said t t.lexeme refl i

spelled_by : (role : Role) (t : Token) (l : Lexeme) (e : t.lexeme ≡ l) (i : same k.Text (kind_of l) ≡ true) (w : Spelled)
    → string role (text_said t l e i) w ≡ Read t role ∷ w
spelled_by role t (lex.Text v) e i w = refl
spelled_by role t lex.EmptyText e i w = refl
spelled_by role t (lex.Local v) e i w = absurd (not_local k.Text v refl refl i)
spelled_by role t (lex.Number n) e i w = absurd (not_number k.Text n refl refl i)
spelled_by role t _ e i w = absurd (cc)

pub string_spelled : (role : Role) (t : Token) (i : same k.Text (kind_of t.lexeme) ≡ true) (w : Spelled)
    → string role (a_string t i) w ≡ Read t role ∷ w
string_spelled role t i w = spelled_by role t t.lexeme refl i w
