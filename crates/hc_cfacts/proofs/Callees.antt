-- What is called: a primitive, or one of the functions so far.
use Rattle.std.proofs.Common.{◌≡◌, refl, sym, ap, ◌∙◌, subst, ℕ, Bool, true, false, cond, List, [], ◌∷◌, map, length, Option, None, Some, nat_eq, arith}
use Rattle.std.specs.Prelude.{◌&&◌, ◌==◌}
use Rattle.std.specs.Option.{option_map}
use Rattle.std.specs.Cmp.Lexicographic.{pointwise}
use Rattle.std.proofs.lemmas.Bool.Decides.{nat_tests}
use Rattle.hc_cast.specs.declared.primitive.Primitive.{Primitive}
use Rattle.hc_cast.specs.declared.primitive.Primitive.TheVariants as primitive
use Rattle.hc_cast.specs.declared.primitive.Primitive.TheVariants.{FrSet}
use Rattle.hc_cast.specs.Primitives.{text_of, count, gives, primitive_named}
use Rattle.hc_cast.specs.declared.expr.CExpr.{CExpr}
use Rattle.hc_cast.specs.declared.program.CFunction.{CFunction}
use Rattle.hc_ctoken.specs.declared.token.Lexeme.{Lexeme}
use Rattle.hc_ctoken.specs.declared.token.Lexeme.TheVariants as lex
use Rattle.hc_cgrammar.specs.Leaves.{Word}
use Rattle.hc_cgrammar.specs.State.{Signature, State}
use Rattle.hc_cgrammar.specs.Walk.{function_named, called, is_set}
use Rattle.hc_cmach.specs.State.{function_among}
use Rattle.hc_cmach.specs.Calls.{are_written, is_call_of, is_call}
use Rattle.hc_cmach.proofs.Named as n
use Rattle.hc_cfacts.proofs.Sane.{IsSane}
use Rattle.hc_cfacts.proofs.Literals.{both_true}
use Rattle.hc_cfacts.proofs.Arguments.{Fits}

-- ---- primitives

named : (p : Primitive) → primitive_named (text_of p) ≡ Some p
named primitive.FrSet = n.named-FrSet
named primitive.FrMove = n.named-FrMove
named primitive.FrAdd = n.named-FrAdd
named primitive.FrSub = n.named-FrSub
named primitive.FrMul = n.named-FrMul
named primitive.FrDiv = n.named-FrDiv
named primitive.FrNeg = n.named-FrNeg
named primitive.FrCmp = n.named-FrCmp
named primitive.FrSign = n.named-FrSign
named primitive.OutDelay = n.named-OutDelay
named primitive.OutComm = n.named-OutComm
named primitive.OutLog = n.named-OutLog
named primitive.OutEnd = n.named-OutEnd
named primitive.MLock = n.named-MLock
named primitive.MUnlock = n.named-MUnlock
named primitive.CWait = n.named-CWait
named primitive.CWake = n.named-CWake

written : (p : Primitive) (xs : List CExpr) → (is_set (lex.Primitive p) ≡ true → are_written FrSet xs ≡ true) → are_written p xs ≡ true
written primitive.FrSet xs h = h refl
written _ xs h = refl

equal : (a b : ℕ) → a ≡ b → (a == b) ≡ true
equal a b e = grind (arith, nat_tests)

abbrev signature_of_primitive : Primitive → Signature
signature_of_primitive p = record { name = text_of p; arity = count p; gives = gives p }

primitive_fits : (p : Primitive) (among : Option CFunction) (xs : List CExpr) → Fits (lex.Primitive p) (signature_of_primitive p) xs
    → is_call (primitive_named (text_of p)) among xs ≡ true
primitive_fits p among xs h =
    ap (λ o. is_call o among xs) (named p)
    ∙ both_true (count p == length xs) (are_written p xs) (equal (count p) (length xs) h.count) (written p xs h.literal)

-- ---- functions

-- what callers know of a function
abbrev pub signature_of : CFunction → Signature
signature_of f = record { name = f.name; arity = length f.params; gives = f.gives }

heads_alike : (a b : ℕ) → nat_eq a b ≡ nat_eq b a
heads_alike a b = grind (arith, nat_tests)

alike : (v w : Word) → pointwise nat_eq v w ≡ pointwise nat_eq w v
alike [] [] = refl
alike [] (b ∷ w) = refl
alike (a ∷ v) [] = refl
alike (a ∷ v) (b ∷ w) = ap (λ c. c && pointwise nat_eq v w) (heads_alike a b) ∙ ap (λ c. nat_eq b a && c) (alike v w)

mapped : (b : Bool) (f : CFunction) (o : Option CFunction)
    → cond b (Some (signature_of f)) (option_map signature_of o) ≡ option_map signature_of (cond b (Some f) o)
mapped true f o = refl
mapped false f o = refl

among : (fs : List CFunction) (w : Word) → function_named (map signature_of fs) w ≡ option_map signature_of (function_among w fs)
among [] w = refl
among (f ∷ fs) w =
    ap (λ b. cond b (Some (signature_of f)) (function_named (map signature_of fs) w)) (alike f.name w)
    ∙ ap (λ o. cond (pointwise nat_eq w f.name) (Some (signature_of f)) o) (among fs w)
    ∙ mapped (pointwise nat_eq w f.name) f (function_among w fs)

with_function : (o : Option CFunction) (l : Lexeme) (f : Signature) (xs : List CExpr) → option_map signature_of o ≡ Some f → Fits l f xs
    → is_call_of o xs ≡ true
with_function None l f xs e h = absurd (cc)
with_function (Some x) l f xs e h =
    let same : signature_of x ≡ f = cc in
    equal (length x.params) (length xs) (ap (λ f. f.arity) same ∙ h.count)

-- ---- either

-- a name is called as the machine asks
abbrev pub IsCallIn : List CFunction → Word → List CExpr → Type 0
IsCallIn fs w xs = is_call (primitive_named w) (function_among w fs) xs ≡ true

pub primitive_call : (fs : List CFunction) (l : Lexeme) (p : Primitive) (s : State) (f : Signature) (xs : List CExpr)
    → l ≡ lex.Primitive p → called l s ≡ Some f → Fits l f xs → IsCallIn fs (text_of p) xs
primitive_call fs l p s f xs e =
    let P : Lexeme → Type 0 = λ l. called l s ≡ Some f → Fits l f xs → IsCallIn fs (text_of p) xs in
    subst P (sym e) λ known fits.
    let Q : Signature → Type 0 = λ f. Fits (lex.Primitive p) f xs in
    let same : f ≡ signature_of_primitive p = cc in
    primitive_fits p (function_among (text_of p) fs) xs (subst Q same fits)

pub function_call : (fs : List CFunction) (l : Lexeme) (w : Word) (s : State) (f : Signature) (xs : List CExpr)
    → l ≡ lex.Function w → s.functions ≡ map signature_of fs → called l s ≡ Some f → IsSane l → Fits l f xs → IsCallIn fs w xs
function_call fs l w s f xs e same known sane fits =
    let P : Lexeme → Type 0 = λ l. IsSane l in
    let no_primitive : primitive_named w ≡ None = subst P e sane in
    let found : function_named s.functions w ≡ Some f = sym (ap (λ l. called l s) e) ∙ known in
    let there : option_map signature_of (function_among w fs) ≡ Some f =
    sym (among fs w) ∙ sym (ap (λ fs. function_named fs w) same) ∙ found in
    ap (λ o. is_call o (function_among w fs) xs) no_primitive ∙ with_function (function_among w fs) l f xs there fits
