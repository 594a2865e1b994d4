-- The canonical spelling of expressions: with brackets only where the grammar needs them.
use Rattle.std.specs.Prelude.{ℕ, Bool, ◌∷◌, nat_lt}
use Rattle.hc_cast.specs.declared.expr.COp.{COp}
use Rattle.hc_cast.specs.declared.expr.COp.TheVariants as op
use Rattle.hc_cast.specs.declared.expr.CExpr.{CExpr, fold-CExpr}
use Rattle.hc_cast.specs.declared.expr.CExpr.TheOpen.{CExpr-F}
use Rattle.hc_ctoken.specs.declared.fixed.Fixed.{Fixed}
use Rattle.hc_ctoken.specs.declared.fixed.Fixed.TheVariants as fix
use Rattle.hc_ctoken.specs.declared.token.Lexeme.TheVariants as lex
use Rattle.hc_cspell.specs.declared.level.Level.{Level}
use Rattle.hc_cspell.specs.declared.level.Level.TheVariants as at
use Rattle.hc_cspell.specs.Tokens.{Lexemes, fixed, only_if}

-- the token of a sign
abbrev pub sign_of : COp → Fixed
sign_of op.Add = fix.Plus
sign_of op.Sub = fix.Minus
sign_of op.Mul = fix.Star
sign_of op.Less = fix.Less
sign_of op.AtMost = fix.LessEqual
sign_of op.Equal = fix.EqualEqual
sign_of op.NotEqual = fix.NotEqual
sign_of op.AtLeast = fix.GreaterEqual
sign_of op.Greater = fix.Greater
sign_of op.And = fix.AndAnd
sign_of op.Or = fix.BarBar

-- the level of a sign
abbrev pub own_of : COp → Level
own_of op.Add = at.Sum
own_of op.Sub = at.Sum
own_of op.Mul = at.Product
own_of op.And = at.And
own_of op.Or = at.Or
own_of _ = at.Comparison

-- where its left and its right part stand: signs group to the left, and comparisons not at all
abbrev pub left_of : COp → Level
left_of op.Add = at.Sum
left_of op.Sub = at.Sum
left_of op.Mul = at.Product
left_of op.And = at.And
left_of op.Or = at.Or
left_of _ = at.Sum

abbrev pub right_of : COp → Level
right_of op.Add = at.Product
right_of op.Sub = at.Product
right_of op.Mul = at.Unary
right_of op.And = at.Comparison
right_of op.Or = at.And
right_of _ = at.Sum

-- the levels in their order
abbrev pub rank : Level → ℕ
rank at.Or = 0
rank at.And = 1
rank at.Comparison = 2
rank at.Sum = 3
rank at.Product = 4
rank at.Unary = 5

-- whether an expression of the first level needs brackets where the second may stand
abbrev pub needs_round : Level → Level → Bool
needs_round own l = nat_lt (rank own) (rank l)

-- an expression: its level, and its tokens without brackets round it, in front of w
pub record Spelling : Type 0 where
  pub own : Level
  pub tokens : Lexemes → Lexemes

-- where it stands
abbrev pub standing : Spelling → Level → Lexemes → Lexemes
standing s l w =
    only_if (needs_round s.own l) fix.OpenRound (s.tokens (only_if (needs_round s.own l) fix.CloseRound w))

-- one level of an expression, where the parts are spelled already
abbrev pub expr_layer : CExpr-F Spelling → Spelling
expr_layer (CExpr-F.Number n) = record { own = at.Unary; tokens = λ w. lex.Number n ∷ w }
expr_layer (CExpr-F.Local x) = record { own = at.Unary; tokens = λ w. lex.Local x ∷ w }
expr_layer (CExpr-F.Element a i) = record {
  own = at.Unary;
  tokens = λ w. lex.Array a ∷ fixed fix.OpenSquare ∷ standing i at.Or (fixed fix.CloseSquare ∷ w);
}
expr_layer (CExpr-F.Neg x) = record { own = at.Unary; tokens = λ w. fixed fix.Minus ∷ standing x at.Unary w }
expr_layer (CExpr-F.Not x) = record { own = at.Unary; tokens = λ w. fixed fix.Exclamation ∷ standing x at.Unary w }
expr_layer (CExpr-F.Binary op x y) = record {
  own = own_of op;
  tokens = λ w. standing x (left_of op) (fixed (sign_of op) ∷ standing y (right_of op) w);
}

abbrev pub spelling : CExpr → Spelling
spelling e = fold-CExpr Spelling expr_layer e

-- the tokens of an expression where it stands, in front of w
abbrev pub expr : CExpr → Level → Lexemes → Lexemes
expr e l w = standing (spelling e) l w
