-- Numbered expressions move along lines: no divisor but a number other than 0, no product with evolving variables on both sides.
use Rattle.std.proofs.Common.{◌≡◌, refl, ap, ap₂, sym, ◌∙◌, ℕ, zero, suc, ◌+◌, ◌*◌, ◌<◌, ◌^◌, ℤ, pos, negsuc, unsigned_abs, not, Bool, true, false, ◌&&◌, ◌||◌, ◌==◌, IsTrue, List, [], ◌++◌, None, arith}
use Rattle.std.specs.Prelude.{slice_index_or}
use Rattle.std.proofs.Math.Nat.{mul-pos}
use Rattle.std.proofs.lemmas.Bool.Decides.{nat_tests}
use borrow.Author.Differences.{up, down}
use Rattle.hc_rational.specs.Words.{quotient, is_zero}
use Rattle.hc_rational.specs.Code.{den-pos}
use Rattle.hc_rational.proofs.Quotients.{quotient-is}
use Rattle.hc_frac.specs.declared.place.Place.{Place}
use Rattle.hc_frac.specs.declared.decimal.Decimal.{Decimal}
use Rattle.hc_ast.specs.Bare.{Word}
use Rattle.hc_ast.specs.declared.expr.Op.{Op}
use Rattle.hc_ast.specs.declared.expr.Op.TheVariants as sign
use Rattle.hc_ast.specs.declared.expr.ExprKind.TheVariants as plain
use Rattle.hc_ast.specs.declared.expr.ExprKind.TheViews as seen
use Rattle.hc_ast.specs.declared.expr.ExprTree.{ExprTree}
use Rattle.hc_term.specs.declared.form.Form.{Form}
use Rattle.hc_term.specs.Motion.{Rates, evolves, allowed, form}
use Rattle.hc_modules.specs.Finds.{only_if}
use Rattle.hc_finds.specs.Exprs.{divisors_not_literal, zero_divisors, is_zero as is_zero_number, is_division, is_product, is_among, moves_of}
use Rattle.hc_finds.specs.Names.{number_in}
use Rattle.hc_finds.proofs.ExprForms as inside
use Rattle.hc_check.specs.Numbered.{op_of, expr_over}
use Rattle.hc_check.proofs.Clean.{is_named}
use Rattle.hc_check.proofs.EachLists.{both, both_empty}
use Rattle.hc_check.proofs.ExprInduction.{ExprSteps, by_expr}
use Rattle.hc_check.proofs.NumberedSizes.{AreNamed, named-neg, named-binary, named-name}
use Rattle.hc_check.proofs.NumberedForms as over
use Rattle.hc_check.proofs.SourceForms as of
use Rattle.hc_check.proofs.TermForms as term

-- ---- divisors that are numbers

-- a quotient with the numerator 0 is of 0
nought_parts : (a z : ℤ) (c d : ℕ) → 0 < c → up a * d + down z * c ≡ up z * c + down a * d → unsigned_abs a ≡ 0 → unsigned_abs z ≡ 0
nought_parts (pos zero) (pos zero) c d p e h = refl
nought_parts (pos zero) (pos (suc n)) c d p e h = absurd (omega (arith, mul-pos {m = suc n} {n = c} (omega arith) p))
nought_parts (pos zero) (negsuc n) c d p e h = absurd (omega (arith, mul-pos {m = suc n} {n = c} (omega arith) p))
nought_parts (pos (suc a)) z c d p e h = absurd (omega (arith, h))
nought_parts (negsuc a) z c d p e h = absurd (omega (arith, h))

quotient_nought : (z : ℤ) (d : ℕ) → 0 < d → unsigned_abs (quotient z d).num ≡ 0 → unsigned_abs z ≡ 0
quotient_nought z d p h = nought_parts (quotient z d).num z (quotient z d).den d (den-pos (quotient z d)) (quotient-is z d p).same h

not_nought : (z : ℤ) (d : ℕ) → 0 < d → (unsigned_abs z == 0) ≡ false → not (is_zero (quotient z d)) ≡ true
not_nought z d p e = let h = quotient_nought z d p in grind (arith, nat_tests)

ten_power : (k : ℕ) → 0 < 10 ^ k
ten_power zero = omega arith
ten_power (suc k) = omega (arith, ten_power k)

-- ---- what evolves

pub nothing_there : (b : Bool) (p : Place) → only_if b p ≡ [] → b ≡ false
nothing_there false p h = refl
nothing_there true p h = absurd (cc)

-- the form of an expression that is a divisor, or isn't
pub record IsLine (divides : Bool) (f : Form) : Type 0 where
  pub affine : IsTrue f.affine
  pub divisor : divides ≡ true → f.divides ≡ true

-- a sign between two such
allowed_by : (op : Op) (f g : Form) (m n : Bool) → f.moves ≡ m → g.moves ≡ n → (is_product op && (m && n)) ≡ false → IsLine (is_division op) g
    → allowed (op_of op) f g ≡ true
allowed_by sign.Add f g m n p q h k = refl
allowed_by sign.Sub f g m n p q h k = refl
allowed_by sign.Mul f g m n p q h k = ap₂ (λ (a b : Bool). not (a && b)) p q ∙ ap not h
allowed_by sign.Div f g m n p q h k = k.divisor refl

-- the variables of these names evolve
module _ (xs ys : List Word) (r : Rates)
    (agree : (v : Word) → IsTrue (is_named xs v) → evolves (slice_index_or r (number_in xs v) None) ≡ is_among ys v) where
  abbrev SameMoves : ExprTree → Type 0
  SameMoves e = AreNamed xs e → (form r (expr_over xs e)).moves ≡ (moves_of ys e).moves

  moves_steps : ExprSteps SameMoves
  moves_steps = record {
    number = λ e d is h. ap (λ (t : Form). t.moves) (ap (form r) (over.over-Number xs e d is) ∙ term.form-Number r _) ∙ sym (of.moves-number e d is ys);
    name = λ e x is h. ap (λ (t : Form). t.moves) (ap (form r) (over.over-Name xs e x is) ∙ term.form-Variable r _)
        ∙ agree x (named-name xs e x (of.words-name e x is) h) ∙ sym (of.moves-name e x is ys);
    neg = λ e a is f h. ap (λ (t : Form). t.moves) (ap (form r) (over.over-Neg xs e a is) ∙ term.form-Neg r _)
        ∙ f (named-neg xs e a is h) ∙ sym (ap (λ m. m.moves) (inside.moves-neg e a is ys));
    binary = λ e op a b is f g h.
        let parts = named-binary xs e op a b is h in
        ap (λ (t : Form). t.moves) (ap (form r) (over.over-Binary xs e op a b is) ∙ term.form-Binary r _ _ _)
        ∙ ap₂ (λ (m n : Bool). m || n) (f parts.0) (g parts.1) ∙ sym (inside.moves-binary e op a b is ys);
  }

  pub moves_same : (e : ExprTree) → AreNamed xs e → (form r (expr_over xs e)).moves ≡ (moves_of ys e).moves
  moves_same = by_expr SameMoves moves_steps

  abbrev IsRight : ExprTree → Type 0
  IsRight e = (d : Bool) → AreNamed xs e → divisors_not_literal d e ≡ [] → zero_divisors d e ≡ [] → (moves_of ys e).products ≡ []
      → IsLine d (form r (expr_over xs e))

  right_number : (e : ExprTree) (n : Decimal) → e.kind ≡ plain.Number n → IsRight e
  right_number e n is d named literal nonzero products =
      let shape = ap (form r) (over.over-Number xs e n is) ∙ term.form-Number r (quotient n.digits (10 ^ n.places)) in
      let none : (d && is_zero_number n) ≡ false = nothing_there (d && is_zero_number n) e.place (sym (of.zero-number e n is d) ∙ nonzero) in
      record {
        affine = ap (λ (t : Form). t.affine) shape;
        divisor = λ t. ap (λ (f : Form). f.divides) shape
            ∙ not_nought n.digits (10 ^ n.places) (ten_power n.places) (ap (λ b. b && is_zero_number n) (sym t) ∙ none);
      }

  right_name : (e : ExprTree) (x : Word) → e.kind ≡ plain.Name x → IsRight e
  right_name e x is d named literal nonzero products =
      let shape = ap (form r) (over.over-Name xs e x is) ∙ term.form-Variable r (number_in xs x) in
      let none : d ≡ false = nothing_there d e.place (sym (of.not_literal-name e x is d) ∙ literal) in
      record { affine = ap (λ (t : Form). t.affine) shape; divisor = λ t. absurd (cc (t, none)) }

  right_neg : (e a : ExprTree) → e.kind ≡ seen.Neg a → IsRight a → IsRight e
  right_neg e a is f d named literal nonzero products =
      let shape = ap (form r) (over.over-Neg xs e a is) ∙ term.form-Neg r (expr_over xs a) in
      let parts = both_empty (only_if d e.place) (divisors_not_literal false a) (sym (inside.not_literal-neg e a is d) ∙ literal) in
      let none : d ≡ false = nothing_there d e.place parts.0 in
      let rest = f false (named-neg xs e a is named) parts.1 (sym (inside.zero-neg e a is d) ∙ nonzero)
      (sym (ap (λ m. m.products) (inside.moves-neg e a is ys)) ∙ products) in
      record { affine = ap (λ (t : Form). t.affine) shape ∙ rest.affine; divisor = λ t. absurd (cc (t, none)) }

  right_binary : (e : ExprTree) (op : Op) (a b : ExprTree) → e.kind ≡ seen.Binary op a b → IsRight a → IsRight b → IsRight e
  right_binary e op a b is f g d named literal nonzero products =
      let shape = ap (form r) (over.over-Binary xs e op a b is) ∙ term.form-Binary r (op_of op) (expr_over xs a) (expr_over xs b) in
      let names = named-binary xs e op a b is named in
      let literals = both_empty (divisors_not_literal false a ++ only_if d e.place) (divisors_not_literal (is_division op) b) (sym (inside.not_literal-binary e op a b is d) ∙ literal) in
      let left_odds = both_empty (divisors_not_literal false a) (only_if d e.place) literals.0 in
      let none : d ≡ false = nothing_there d e.place left_odds.1 in
      let nonzeros = both_empty (zero_divisors false a) (zero_divisors (is_division op) b) (sym (inside.zero-binary e op a b is d) ∙ nonzero) in
      let both_move = is_product op && ((moves_of ys a).moves && (moves_of ys b).moves) in
      let all = both_empty ((moves_of ys a).products ++ only_if both_move e.place) (moves_of ys b).products
      (sym (inside.products-binary e op a b is ys) ∙ products) in
      let left_all = both_empty (moves_of ys a).products (only_if both_move e.place) all.0 in
      let left = f false names.0 left_odds.0 nonzeros.0 left_all.0 in
      let right = g (is_division op) names.1 literals.1 nonzeros.1 all.1 in
      let allows = allowed_by op (form r (expr_over xs a)) (form r (expr_over xs b)) (moves_of ys a).moves (moves_of ys b).moves
      (moves_same a names.0) (moves_same b names.1) (nothing_there both_move e.place left_all.1) right in
      record {
        affine = ap (λ (t : Form). t.affine) shape ∙ both (both left.affine right.affine) allows;
        divisor = λ t. absurd (cc (t, none));
      }

  pub lines : (e : ExprTree) (d : Bool) → AreNamed xs e → divisors_not_literal d e ≡ [] → zero_divisors d e ≡ [] → (moves_of ys e).products ≡ []
      → IsLine d (form r (expr_over xs e))
  lines = by_expr IsRight (record { number = right_number; name = right_name; neg = right_neg; binary = right_binary })

-- ---- where nothing evolves

abbrev IsStill : ExprTree → Type 0
IsStill e = ((moves_of [] e).moves ≡ false) × ((moves_of [] e).products ≡ [])

no_product : (op : Op) (p : Place) (m n : Bool) (ps qs : List Place) → m ≡ false → ps ≡ [] → qs ≡ []
    → ps ++ only_if (is_product op && (m && n)) p ++ qs ≡ []
no_product sign.Mul p m n ps qs e f g = ap₂ (λ (a b : List Place). a ++ b) (ap₂ (λ (a : List Place) (b : Bool). a ++ only_if (b && n) p) f e) g
no_product sign.Add p m n ps qs e f g = ap₂ (λ (a b : List Place). a ++ [] ++ b) f g
no_product sign.Sub p m n ps qs e f g = ap₂ (λ (a b : List Place). a ++ [] ++ b) f g
no_product sign.Div p m n ps qs e f g = ap₂ (λ (a b : List Place). a ++ [] ++ b) f g

still_steps : ExprSteps IsStill
still_steps = record {
  number = λ e d is. (of.moves-number e d is [], of.products-number e d is []);
  name = λ e x is. (of.moves-name e x is [], of.products-name e x is []);
  neg = λ e a is f. (ap (λ m. m.moves) (inside.moves-neg e a is []) ∙ f.0, ap (λ m. m.products) (inside.moves-neg e a is []) ∙ f.1);
  binary = λ e op a b is f g. (
    inside.moves-binary e op a b is [] ∙ ap₂ (λ (m n : Bool). m || n) f.0 g.0,
    inside.products-binary e op a b is []
        ∙ no_product op e.place (moves_of [] a).moves (moves_of [] b).moves (moves_of [] a).products (moves_of [] b).products f.0 f.1 g.1,
  );
}

pub no_products_still : (e : ExprTree) → (moves_of [] e).products ≡ []
no_products_still e = (by_expr IsStill still_steps e).1
