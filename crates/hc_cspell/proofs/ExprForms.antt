-- How each form of an expression is spelled.
use Rattle.std.proofs.Common.{rules, ◌≡◌, ◌∷◌, ◌∙◌, ℤ, refl, ap}
use Rattle.hc_cast.specs.declared.expr.COp.{COp}
use Rattle.hc_cast.specs.declared.expr.CExpr.{CExpr, the_lemmas}
use Rattle.hc_cast.specs.declared.expr.CExpr.TheVariants as e
use Rattle.hc_cast.specs.declared.expr.CExpr.TheOpen.{CExpr-F}
use Rattle.hc_ctoken.specs.declared.fixed.Fixed.TheVariants as fix
use Rattle.hc_ctoken.specs.declared.token.Lexeme.TheVariants as lex
use Rattle.hc_cgrammar.specs.Leaves.{Word}
use Rattle.hc_cspell.specs.declared.level.Level.{Level}
use Rattle.hc_cspell.specs.declared.level.Level.TheVariants as at
use Rattle.hc_cspell.specs.Tokens.{Lexemes, fixed, only_if}
use Rattle.hc_cspell.specs.Exprs.{sign_of, own_of, left_of, right_of, needs_round, Spelling, standing, expr_layer, spelling, expr}

pub spelled-Number : (n : ℤ) → spelling (e.Number n) ≡ expr_layer (CExpr-F.Number n)
spelled-Number n = search (rules, the_lemmas)

pub spelled-Local : (x : Word) → spelling (e.Local x) ≡ expr_layer (CExpr-F.Local x)
spelled-Local x = search (rules, the_lemmas)

pub spelled-Element : (a : Word) (i : CExpr) → spelling (e.Element a i) ≡ expr_layer (CExpr-F.Element a (spelling i))
spelled-Element a i = search (rules, the_lemmas)

pub spelled-Neg : (x : CExpr) → spelling (e.Neg x) ≡ expr_layer (CExpr-F.Neg (spelling x))
spelled-Neg x = search (rules, the_lemmas)

pub spelled-Not : (x : CExpr) → spelling (e.Not x) ≡ expr_layer (CExpr-F.Not (spelling x))
spelled-Not x = search (rules, the_lemmas)

pub spelled-Binary : (op : COp) (x y : CExpr)
    → spelling (e.Binary op x y) ≡ expr_layer (CExpr-F.Binary op (spelling x) (spelling y))
spelled-Binary op x y = search (rules, the_lemmas)

-- what is of the last level never needs brackets
pub tight : (f : Lexemes → Lexemes) (l : Level) (w : Lexemes) → standing (record { own = at.Unary; tokens = f }) l w ≡ f w
tight f at.Or w = refl
tight f at.And w = refl
tight f at.Comparison w = refl
tight f at.Sum w = refl
tight f at.Product w = refl
tight f at.Unary w = refl

-- how an expression of this spelling stands
stands : (t : CExpr) (s : Spelling) → spelling t ≡ s → (l : Level) (w : Lexemes) → expr t l w ≡ standing s l w
stands t s h l w = ap (λ s. standing s l w) h

pub expr-Number : (t : CExpr) (n : ℤ) → t ≡ e.Number n → (l : Level) (w : Lexemes) → expr t l w ≡ lex.Number n ∷ w
expr-Number t n h l w =
    stands t (expr_layer (CExpr-F.Number n)) (ap spelling h ∙ spelled-Number n) l w ∙ tight (λ w. lex.Number n ∷ w) l w

pub expr-Local : (t : CExpr) (x : Word) → t ≡ e.Local x → (l : Level) (w : Lexemes) → expr t l w ≡ lex.Local x ∷ w
expr-Local t x h l w =
    stands t (expr_layer (CExpr-F.Local x)) (ap spelling h ∙ spelled-Local x) l w ∙ tight (λ w. lex.Local x ∷ w) l w

pub expr-Element : (t : CExpr) (a : Word) (i : CExpr) → t ≡ e.Element a i → (l : Level) (w : Lexemes)
    → expr t l w ≡ lex.Array a ∷ fixed fix.OpenSquare ∷ expr i at.Or (fixed fix.CloseSquare ∷ w)
expr-Element t a i h l w =
    stands t (expr_layer (CExpr-F.Element a (spelling i))) (ap spelling h ∙ spelled-Element a i) l w
    ∙ tight (λ w. lex.Array a ∷ fixed fix.OpenSquare ∷ expr i at.Or (fixed fix.CloseSquare ∷ w)) l w

pub expr-Neg : (t x : CExpr) → t ≡ e.Neg x → (l : Level) (w : Lexemes) → expr t l w ≡ fixed fix.Minus ∷ expr x at.Unary w
expr-Neg t x h l w =
    stands t (expr_layer (CExpr-F.Neg (spelling x))) (ap spelling h ∙ spelled-Neg x) l w
    ∙ tight (λ w. fixed fix.Minus ∷ expr x at.Unary w) l w

pub expr-Not : (t x : CExpr) → t ≡ e.Not x → (l : Level) (w : Lexemes)
    → expr t l w ≡ fixed fix.Exclamation ∷ expr x at.Unary w
expr-Not t x h l w =
    stands t (expr_layer (CExpr-F.Not (spelling x))) (ap spelling h ∙ spelled-Not x) l w
    ∙ tight (λ w. fixed fix.Exclamation ∷ expr x at.Unary w) l w

pub expr-Binary : (t : CExpr) (op : COp) (x y : CExpr) → t ≡ e.Binary op x y → (l : Level) (w : Lexemes)
    → expr t l w ≡ only_if (needs_round (own_of op) l) fix.OpenRound
    (expr x (left_of op) (fixed (sign_of op) ∷ expr y (right_of op) (only_if (needs_round (own_of op) l) fix.CloseRound w)))
expr-Binary t op x y h l w =
    stands t (expr_layer (CExpr-F.Binary op (spelling x) (spelling y))) (ap spelling h ∙ spelled-Binary op x y) l w

pub ruleset forms = (expr-Number, expr-Local, expr-Element, expr-Neg, expr-Not, expr-Binary)
