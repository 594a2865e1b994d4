-- The third and the fourth argument of a call of `fr_set`, which are written as numbers.
use Rattle.std.proofs.Common.{◌≡◌, refl, sym, ap, ◌∙◌, subst, ℕ, zero, suc, ◌^◌, Bool, true, false, cond, List, [], ◌∷◌, ◌++◌, length, ℤ, pos, arith}
use Rattle.std.specs.Prelude.{◌&&◌, ◌==◌, nat_lt, unsigned_abs, neg_ℤ}
use Rattle.std.proofs.lemmas.Bool.Decides.{nat_tests}
use Rattle.hc_cast.specs.declared.primitive.Primitive.TheVariants.{FrSet}
use Rattle.hc_cast.specs.declared.expr.CExpr.{CExpr}
use Rattle.hc_cast.specs.declared.expr.CExpr.TheVariants as ex
use Rattle.hc_cgrammar.specs.State.{Shape, nothing, number, minus, minus_number, other}
use Rattle.hc_cgrammar.specs.Rules.{is_number, is_literal}
use Rattle.hc_cmach.specs.Expression.{written}
use Rattle.hc_cmach.specs.Calls.{is_small, are_written}
use Rattle.hc_cmach.proofs.Worths.{written-Number, written-Neg}
use Rattle.hc_cfacts.proofs.Sane.{IsSmall}
use Rattle.hc_cfacts.proofs.Exprs.{Tells}

-- ---- numbers as they are written

written_small : (x : CExpr) (k : ℕ) → unsigned_abs (written x) ≡ k → nat_lt k (2 ^ 63) ≡ true → is_small x ≡ true
written_small x k e h = ap (λ i. nat_lt i (2 ^ 63)) e ∙ h

number_small : (x : CExpr) (n : ℤ) → x ≡ ex.Number n → IsSmall n → is_small x ≡ true
number_small x n e (k, f, h) = written_small x k (ap unsigned_abs (ap written e ∙ written-Number n ∙ f)) h

size_of_minus : (k : ℕ) → unsigned_abs (neg_ℤ (pos k)) ≡ k
size_of_minus zero = refl
size_of_minus (suc k) = refl

minus_small : (x : CExpr) (n : ℤ) → x ≡ ex.Neg (ex.Number n) → IsSmall n → is_small x ≡ true
minus_small x n e (k, f, h) =
    let w : written x ≡ neg_ℤ (pos k) = ap written e ∙ written-Neg (ex.Number n) ∙ ap neg_ℤ (written-Number n ∙ f) in
    written_small x k (ap unsigned_abs w ∙ size_of_minus k) h

literal_small : (s : Shape) (x : CExpr) → Tells s x → is_literal s ≡ true → is_small x ≡ true
literal_small nothing x t e = absurd (cc)
literal_small minus x t e = absurd (cc)
literal_small other x t e = absurd (cc)
literal_small (number n) x (f, h) e = number_small x n f h
literal_small minus_number x (n, f, h) e = minus_small x n f h

last_literal : (s : Shape) → is_number s ≡ true → is_literal s ≡ true
last_literal nothing e = absurd (cc)
last_literal minus e = absurd (cc)
last_literal other e = absurd (cc)
last_literal (number n) e = refl
last_literal minus_number e = absurd (cc)

-- ---- their places

-- what the shape that was kept of the third argument tells of it; and the last shape of the last one, where that is the fourth
abbrev pub Third : Shape → List CExpr → Type 0
Third s (a ∷ b ∷ x ∷ xs) = Tells s x
Third s _ = Unit {0}

abbrev pub Last : Shape → List CExpr → Type 0
Last s (a ∷ b ∷ c ∷ x ∷ []) = Tells s x
Last s _ = Unit {0}

chosen : (b c : Bool) (last kept : Shape) (x : CExpr) → b ≡ c → Tells (cond c last kept) x → Tells (cond b last kept) x
chosen b c last kept x e h = let P : Bool → Type 0 = λ b. Tells (cond b last kept) x in subst P (sym e) h

pub third_more : (xs : List CExpr) (n : ℕ) (kept last : Shape) (x : CExpr) → n ≡ length xs → Third kept xs → Tells last x
    → Third (cond (n == 2) last kept) (xs ++ x ∷ [])
third_more [] n kept last x e h t = tt
third_more (a ∷ []) n kept last x e h t = tt
third_more (a ∷ b ∷ []) n kept last x e h t =
    let f : (n == 2) ≡ true = grind (arith, nat_tests) in
    chosen (n == 2) true last kept x f t
third_more (a ∷ b ∷ c ∷ xs) n kept last x e h t =
    let f : (n == 2) ≡ false = grind (arith, nat_tests) in
    chosen (n == 2) false last kept c f h

pub last_more : (xs : List CExpr) (last : Shape) (x : CExpr) → Tells last x → Last last (xs ++ x ∷ [])
last_more [] last x t = tt
last_more (a ∷ []) last x t = tt
last_more (a ∷ b ∷ []) last x t = tt
last_more (a ∷ b ∷ c ∷ []) last x t = t
last_more (a ∷ b ∷ c ∷ d ∷ []) last x t = tt
last_more (a ∷ b ∷ c ∷ d ∷ y ∷ xs) last x t = tt

pub both_true : (a b : Bool) → a ≡ true → b ≡ true → (a && b) ≡ true
both_true true b e f = f
both_true false b e f = e

pub set_written : (xs : List CExpr) (third last : Shape) → Third third xs → Last last xs → is_literal third ≡ true
    → is_number last ≡ true → are_written FrSet xs ≡ true
set_written [] third last h g e f = refl
set_written (a ∷ []) third last h g e f = refl
set_written (a ∷ b ∷ []) third last h g e f = refl
set_written (a ∷ b ∷ c ∷ []) third last h g e f = refl
set_written (a ∷ b ∷ c ∷ d ∷ []) third last h g e f =
    both_true (is_small c) (is_small d) (literal_small third c h e) (literal_small last d g (last_literal last f))
set_written (a ∷ b ∷ c ∷ d ∷ y ∷ xs) third last h g e f = refl
