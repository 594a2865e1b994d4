-- What an expression of a unit keeps, and what its shape tells of its tree.
use Rattle.std.proofs.Common.{◌≡◌, refl, sym, ap, subst, ℕ, List, ◌∷◌, Option, ℤ}
use Rattle.hc_grammar.specs.Texts.{Read, Did}
use Rattle.hc_cast.specs.declared.expr.COp.TheVariants as op
use Rattle.hc_cast.specs.declared.expr.CExpr.{CExpr}
use Rattle.hc_cast.specs.declared.expr.CExpr.TheVariants as ex
use Rattle.hc_ctoken.specs.declared.token.Lexeme.{Lexeme}
use Rattle.hc_ctoken.specs.declared.token.Lexeme.TheVariants as lex
use Rattle.hc_cgrammar.specs.declared.role.Role.TheVariants as r
use Rattle.hc_cgrammar.specs.declared.role.Mark.TheVariants as m
use Rattle.hc_cgrammar.specs.Leaves.{Word, Spelled}
use Rattle.hc_cgrammar.specs.Exprs as g
use Rattle.hc_cgrammar.specs.State.{Shape, nothing, number, minus, minus_number, other, Signature, Owner, Call, State}
use Rattle.hc_cgrammar.specs.Walk.{value_of, with_number, with_minus, after_token, after_mark}
use Rattle.hc_cfacts.proofs.Sane.{IsSmall, IsSane}
use Rattle.hc_cfacts.proofs.Goes.{Goes}

-- ---- what stays

-- what a body keeps: the functions so far, whose body it is, its names, and the threads so far
pub record Kept : Type 0 where
  pub functions : List Signature
  pub owner : Owner
  pub locals : List Word
  pub threads : ℕ

abbrev pub kept_of : State → Kept
kept_of s = record { functions = s.functions; owner = s.owner; locals = s.locals; threads = s.threads }

-- and what an expression keeps: the call that it stands in too
abbrev pub Core : Type 0
Core = Kept × Option Call

abbrev pub core : State → Core
core s = (kept_of s, s.call)

-- ---- shapes

-- what the shape of a whole expression tells of its tree
abbrev pub Tells : Shape → CExpr → Type 0
Tells (number n) x = (x ≡ ex.Number n) × IsSmall n
Tells minus_number x = (n : ℤ) × (x ≡ ex.Neg (ex.Number n)) × IsSmall n
Tells _ x = Unit {0}

-- and of what stands behind a minus
abbrev pub TellsBehindMinus : Shape → CExpr → Type 0
TellsBehindMinus (number n) x = ⊥
TellsBehindMinus minus_number x = (n : ℤ) × (x ≡ ex.Number n) × IsSmall n
TellsBehindMinus _ x = Unit {0}

-- the shape that there was, the shape that there is, and the tree between them
abbrev pub Grown : Shape → Shape → CExpr → Type 0
Grown nothing to x = Tells to x
Grown minus to x = TellsBehindMinus to x
Grown _ to x = to ≡ other

other_grown : (from : Shape) (x : CExpr) → Grown from other x
other_grown nothing x = tt
other_grown minus x = tt
other_grown (number n) x = refl
other_grown minus_number x = refl
other_grown other x = refl

joined : (from to : Shape) (x : CExpr) → to ≡ other → Grown from to x
joined from to x e = let P : Shape → Type 0 = λ to. Grown from to x in subst P (sym e) (other_grown from x)

negated : (to : Shape) (x : CExpr) → TellsBehindMinus to x → Tells to (ex.Neg x)
negated nothing x h = tt
negated minus x h = tt
negated (number n) x h = absurd h
negated minus_number x (n, e, small) = (n, ap ex.Neg e, small)
negated other x h = tt

minus_grown : (from to : Shape) (x : CExpr) → Grown (with_minus from) to x → Grown from to (ex.Neg x)
minus_grown nothing to x h = negated to x h
minus_grown minus to x h = joined minus to (ex.Neg x) h
minus_grown (number n) to x h = h
minus_grown minus_number to x h = h
minus_grown other to x h = h

number_grown : (from : Shape) (n : ℤ) → IsSmall n → Grown from (with_number n from) (ex.Number n)
number_grown nothing n h = (refl, h)
number_grown minus n h = (n, refl, h)
number_grown (number k) n h = refl
number_grown minus_number n h = refl
number_grown other n h = refl

numeral_grown : (from : Shape) (l : Lexeme) (n : ℤ) → l ≡ lex.Number n → IsSane l
    → Grown from (with_number (value_of l) from) (ex.Number n)
numeral_grown from l n e h =
    let P : Lexeme → Type 0 = λ l. IsSane l → Grown from (with_number (value_of l) from) (ex.Number n) in
    subst P (sym e) (number_grown from n) h

-- ---- expressions

-- behind an expression: a state that keeps the core, and whose shape tells of the tree
pub record Behind (w : Spelled) (k : Core) (from : Shape) (x : CExpr) : Type 0 where
  pub state : State
  pub goes : Goes w state
  pub same : core state ≡ k
  pub grown : Grown from state.shape x

mutual
  pub or_goes : (x : g.Or) (w : Spelled) (s : State) (k : Core) → core s ≡ k → Goes (g.or x w) s → Behind w k s.shape (g.or_tree x)
  or_goes (g.either x xs) w s k e h =
      let p = and_goes x (g.ors xs w) s k e h in
      ors_goes xs (g.and_tree x) s.shape w p.state k p.same p.grown p.goes

  ors_goes : (xs : g.Ors) (before : CExpr) (from : Shape) (w : Spelled) (s : State) (k : Core) → core s ≡ k
      → Grown from s.shape before → Goes (g.ors xs w) s → Behind w k from (g.ors_tree xs before)
  ors_goes g.no_or before from w s k e grown h = record { state = s; goes = h; same = e; grown = grown }
  ors_goes (g.or_else sign x xs) before from w s k e grown (step, h) =
      let p = and_goes x (Did m.Binary ∷ g.ors xs w) (after_token r.Operator sign.0.lexeme s) k e h in
      ors_goes xs (ex.Binary op.Or before (g.and_tree x)) from w (after_mark m.Binary p.state) k p.same
      (joined from p.state.shape _ p.grown) p.goes

  and_goes : (x : g.And) (w : Spelled) (s : State) (k : Core) → core s ≡ k → Goes (g.and x w) s → Behind w k s.shape (g.and_tree x)
  and_goes (g.both x xs) w s k e h =
      let p = cmp_goes x (g.ands xs w) s k e h in
      ands_goes xs (g.cmp_tree x) s.shape w p.state k p.same p.grown p.goes

  ands_goes : (xs : g.Ands) (before : CExpr) (from : Shape) (w : Spelled) (s : State) (k : Core) → core s ≡ k
      → Grown from s.shape before → Goes (g.ands xs w) s → Behind w k from (g.ands_tree xs before)
  ands_goes g.no_and before from w s k e grown h = record { state = s; goes = h; same = e; grown = grown }
  ands_goes (g.and_also sign x xs) before from w s k e grown (step, h) =
      let p = cmp_goes x (Did m.Binary ∷ g.ands xs w) (after_token r.Operator sign.0.lexeme s) k e h in
      ands_goes xs (ex.Binary op.And before (g.cmp_tree x)) from w (after_mark m.Binary p.state) k p.same
      (joined from p.state.shape _ p.grown) p.goes

  cmp_goes : (x : g.Compared) (w : Spelled) (s : State) (k : Core) → core s ≡ k → Goes (g.cmp x w) s
      → Behind w k s.shape (g.cmp_tree x)
  cmp_goes (g.alone x) w s k e h = sum_goes x w s k e h
  cmp_goes (g.compared x sign y) w s k e h =
      let p = sum_goes x (Read sign.0 r.Operator ∷ g.sum_of y (Did m.Binary ∷ w)) s k e h in
      let q = sum_goes y (Did m.Binary ∷ w) (after_token r.Operator sign.0.lexeme p.state) k p.same p.goes.1 in
      record {
        state = after_mark m.Binary q.state;
        goes = q.goes;
        same = q.same;
        grown = joined s.shape q.state.shape _ q.grown;
      }

  sum_goes : (x : g.Sum) (w : Spelled) (s : State) (k : Core) → core s ≡ k → Goes (g.sum_of x w) s
      → Behind w k s.shape (g.sum_tree x)
  sum_goes (g.sum x xs) w s k e h =
      let p = prod_goes x (g.sums xs w) s k e h in
      sums_goes xs (g.product_tree x) s.shape w p.state k p.same p.grown p.goes

  sums_goes : (xs : g.Sums) (before : CExpr) (from : Shape) (w : Spelled) (s : State) (k : Core) → core s ≡ k
      → Grown from s.shape before → Goes (g.sums xs w) s → Behind w k from (g.sums_tree xs before)
  sums_goes g.no_more before from w s k e grown h = record { state = s; goes = h; same = e; grown = grown }
  sums_goes (g.added sign x xs) before from w s k e grown (step, h) =
      let p = prod_goes x (Did m.Binary ∷ g.sums xs w) (after_token r.Operator sign.0.lexeme s) k e h in
      sums_goes xs (ex.Binary sign.1 before (g.product_tree x)) from w (after_mark m.Binary p.state) k p.same
      (joined from p.state.shape _ p.grown) p.goes

  prod_goes : (x : g.Product) (w : Spelled) (s : State) (k : Core) → core s ≡ k → Goes (g.prod x w) s
      → Behind w k s.shape (g.product_tree x)
  prod_goes (g.product x xs) w s k e h =
      let p = unary_goes x (g.products xs w) s k e h in
      products_goes xs (g.unary_tree x) s.shape w p.state k p.same p.grown p.goes

  products_goes : (xs : g.Products) (before : CExpr) (from : Shape) (w : Spelled) (s : State) (k : Core) → core s ≡ k
      → Grown from s.shape before → Goes (g.products xs w) s → Behind w k from (g.products_tree xs before)
  products_goes g.no_other before from w s k e grown h = record { state = s; goes = h; same = e; grown = grown }
  products_goes (g.multiplied sign x xs) before from w s k e grown (step, h) =
      let p = unary_goes x (Did m.Binary ∷ g.products xs w) (after_token r.Operator sign.0.lexeme s) k e h in
      products_goes xs (ex.Binary op.Mul before (g.unary_tree x)) from w (after_mark m.Binary p.state) k p.same
      (joined from p.state.shape _ p.grown) p.goes

  unary_goes : (x : g.Unary) (w : Spelled) (s : State) (k : Core) → core s ≡ k → Goes (g.unary x w) s
      → Behind w k s.shape (g.unary_tree x)
  unary_goes (g.minus sign x) w s k e (step, h) =
      let p = unary_goes x (Did m.Negate ∷ w) (after_token r.Minus sign.0.lexeme s) k e h in
      record {
        state = after_mark m.Negate p.state;
        goes = p.goes;
        same = p.same;
        grown = minus_grown s.shape p.state.shape (g.unary_tree x) p.grown;
      }
  unary_goes (g.negation sign x) w s k e (step, h) =
      let p = unary_goes x (Did m.Not ∷ w) (after_token r.Not sign.0.lexeme s) k e h in
      record {
        state = after_mark m.Not p.state;
        goes = p.goes;
        same = p.same;
        grown = joined s.shape p.state.shape _ p.grown;
      }
  unary_goes (g.number numeral) w s k e (step, h) = record {
    state = after_token r.Number numeral.0.lexeme s;
    goes = h;
    same = e;
    grown = numeral_grown s.shape numeral.0.lexeme numeral.1 numeral.2 step.sane;
  }
  unary_goes (g.local name) w s k e (step, h) = record {
    state = after_token r.Local name.0.lexeme s;
    goes = h;
    same = e;
    grown = other_grown s.shape _;
  }
  unary_goes (g.element name left index right) w s k e (step, (opened, h)) =
      let s1 = after_token r.Open left.0.lexeme (after_token r.Element name.0.lexeme s) in
      let p = or_goes index (Read right.0 r.Close ∷ Did m.Element ∷ w) s1 k e h in
      record {
        state = after_mark m.Element (after_token r.Close right.0.lexeme p.state);
        goes = p.goes.1;
        same = p.same;
        grown = joined s.shape p.state.shape _ p.grown;
      }
  unary_goes (g.brackets left x right) w s k e (step, h) =
      let p = or_goes x (Read right.0 r.Close ∷ w) (after_token r.Open left.0.lexeme s) k e h in
      record {
        state = after_token r.Close right.0.lexeme p.state;
        goes = p.goes.1;
        same = p.same;
        grown = p.grown;
      }
