-- How many items a canonical spelling opens at most, and how many nodes it has.
use Rattle.std.proofs.Common.{ℕ, ◌+◌, max, Bool, true, false}
use Rattle.hc_ast.specs.Bare.{BareExpr, number, name, neg, binary, BareCond, always, never, compare, negation, both, either}
use Rattle.hc_print.specs.declared.level.Level.{Level}
use Rattle.hc_print.specs.declared.level.Level.TheVariants as at
use Rattle.hc_print.specs.CanonExprs.{left_of, right_of, needs_round, both_needs_square, either_needs_square}

-- brackets are one more
abbrev pub deeper : Bool → ℕ → ℕ
deeper true n = 1 + n
deeper false n = n

abbrev pub peak : BareExpr → Level → ℕ
peak (number digits places) l = 0
peak (name x) l = 0
peak (neg x) l = 1 + peak x at.Tight
peak (binary op x y) l = deeper (needs_round op l) (max (peak x (left_of op)) (peak y (right_of op)))

abbrev pub size : BareExpr → ℕ
size (number digits places) = 1
size (name x) = 1
size (neg x) = 1 + size x
size (binary op x y) = 1 + (size x + size y)

abbrev pub cond_peak : BareCond → Level → ℕ
cond_peak always l = 0
cond_peak never l = 0
cond_peak (compare how x y) l = max (peak x at.Alone) (peak y at.Alone)
cond_peak (negation c) l = 1 + cond_peak c at.Tight
cond_peak (both b c) l = deeper (both_needs_square l) (max (cond_peak b at.Inner) (cond_peak c at.Tight))
cond_peak (either b c) l = deeper (either_needs_square l) (max (cond_peak b at.Alone) (cond_peak c at.Inner))

abbrev pub cond_size : BareCond → ℕ
cond_size always = 1
cond_size never = 1
cond_size (compare how x y) = 1 + (size x + size y)
cond_size (negation c) = 1 + cond_size c
cond_size (both b c) = 1 + (cond_size b + cond_size c)
cond_size (either b c) = 1 + (cond_size b + cond_size c)
