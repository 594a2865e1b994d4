-- The canonical spelling of expressions and conditions: with brackets only where the grammar needs them.
use Rattle.std.specs.Prelude.{Bool, true, false, ◌∷◌}
use Rattle.hc_token.specs.declared.fixed.Fixed.{Fixed}
use Rattle.hc_token.specs.declared.fixed.Fixed.TheVariants as fix
use Rattle.hc_ast.specs.declared.expr.Op.{Op}
use Rattle.hc_ast.specs.declared.expr.Op.TheVariants as sign
use Rattle.hc_ast.specs.declared.expr.Comparison.{Comparison}
use Rattle.hc_ast.specs.declared.expr.Comparison.TheVariants as how
use Rattle.hc_ast.specs.Bare.{BareExpr, number, name, neg, binary, BareCond, always, never, compare, negation, both, either}
use Rattle.hc_print.specs.declared.level.Level.{Level}
use Rattle.hc_print.specs.declared.level.Level.TheVariants as at
use Rattle.hc_print.specs.Lexemes.{Lexemes, fixed, named, numbered, only_if}

-- the token of a sign
abbrev pub op_sign : Op → Fixed
op_sign sign.Add = fix.Plus
op_sign sign.Sub = fix.Minus
op_sign sign.Mul = fix.Star
op_sign sign.Div = fix.Slash

abbrev pub comparison_sign : Comparison → Fixed
comparison_sign how.Less = fix.Less
comparison_sign how.AtMost = fix.LessEqual
comparison_sign how.Equal = fix.EqualEqual
comparison_sign how.NotEqual = fix.NotEqual
comparison_sign how.AtLeast = fix.GreaterEqual
comparison_sign how.Greater = fix.Greater

-- where the left and the right operand of a sign stand
abbrev pub left_of : Op → Level
left_of sign.Add = at.Alone
left_of sign.Sub = at.Alone
left_of sign.Mul = at.Inner
left_of sign.Div = at.Inner

abbrev pub right_of : Op → Level
right_of sign.Add = at.Inner
right_of sign.Sub = at.Inner
right_of sign.Mul = at.Tight
right_of sign.Div = at.Tight

-- whether an expression of this sign needs round brackets where it stands
abbrev pub needs_round : Op → Level → Bool
needs_round op at.Alone = false
needs_round sign.Add at.Inner = true
needs_round sign.Sub at.Inner = true
needs_round sign.Mul at.Inner = false
needs_round sign.Div at.Inner = false
needs_round op at.Tight = true

-- the tokens of an expression where it stands, in front of w
abbrev pub expr : BareExpr → Level → Lexemes → Lexemes
expr (number digits places) l w = numbered digits places ∷ w
expr (name x) l w = named x ∷ w
expr (neg x) l w = fixed fix.Minus ∷ expr x at.Tight w
expr (binary op x y) l w =
    only_if (needs_round op l) fix.OpenRound
    (expr x (left_of op) (fixed (op_sign op) ∷ expr y (right_of op) (only_if (needs_round op l) fix.CloseRound w)))

-- whether an `||`, and an `&&`, needs square brackets where it stands
abbrev pub either_needs_square : Level → Bool
either_needs_square at.Alone = false
either_needs_square at.Inner = true
either_needs_square at.Tight = true

abbrev pub both_needs_square : Level → Bool
both_needs_square at.Alone = false
both_needs_square at.Inner = false
both_needs_square at.Tight = true

-- the tokens of a condition where it stands, in front of w
abbrev pub cond : BareCond → Level → Lexemes → Lexemes
cond always l w = fixed fix.True ∷ w
cond never l w = fixed fix.False ∷ w
cond (compare how x y) l w = expr x at.Alone (fixed (comparison_sign how) ∷ expr y at.Alone w)
cond (negation c) l w = fixed fix.Exclamation ∷ cond c at.Tight w
cond (both b c) l w =
    only_if (both_needs_square l) fix.OpenSquare
    (cond b at.Inner (fixed fix.AndAnd ∷ cond c at.Tight (only_if (both_needs_square l) fix.CloseSquare w)))
cond (either b c) l w =
    only_if (either_needs_square l) fix.OpenSquare
    (cond b at.Alone (fixed fix.BarBar ∷ cond c at.Inner (only_if (either_needs_square l) fix.CloseSquare w)))
