-- What the phrases of a text within its limits keep: expressions and conditions.
use Rattle.std.proofs.Common.{◌≡◌, ◌≤◌, ℕ, ◌+◌, ◌-◌, Bool, true, false, Option, Some, ◌∷◌, refl, subst, arith}
use Rattle.std.specs.Prelude.{IfSome}
use Rattle.hc_grammar.specs.Texts.{Read, Did}
use Rattle.hc_token.specs.declared.fixed.Fixed.TheVariants as fix
use Rattle.hc_token.specs.declared.kind.Kind.{Kind}
use Rattle.hc_token.specs.declared.kind.Kind.TheVariants as k
use Rattle.hc_ast.specs.declared.role.Role.TheVariants as r
use Rattle.hc_ast.specs.declared.role.Mark.TheVariants as m
use Rattle.hc_ast.specs.declared.expr.Op.{Op}
use Rattle.hc_ast.specs.declared.expr.Op.TheVariants as sign
use Rattle.hc_ast.specs.Bare.{BareExpr, number, name, neg, binary, BareCond, always, never, compare, negation, both, either}
use Rattle.hc_token.specs.Lexemes.{kind_of}
use Rattle.hc_ast.specs.Leaves.{Spelled, sum_op, product_op}
use Rattle.hc_ast.specs.Exprs as g
use Rattle.hc_ast.specs.Conds as h
use Rattle.hc_print.specs.declared.level.Level.{Level}
use Rattle.hc_print.specs.declared.level.Level.TheVariants as at
use Rattle.hc_print.proofs.BareExprs.{expr_bare, sums_bare, term_bare, products_bare, factor_bare, cond_bare, ors_bare, both_bare, ands_bare, one_bare}
use Rattle.hc_print.proofs.Peaks.{peak, size, cond_peak, cond_size}
use Rattle.hc_print.proofs.Sound.{GoodName, GoodNumber, IsSound, sound_name, sound_number}
use Rattle.hc_print.proofs.Walking.{Walks, walks_at}

-- the names and numbers of an expression are such
abbrev pub GoodExpr : BareExpr → Type 0
GoodExpr (number digits places) = GoodNumber digits places
GoodExpr (name x) = GoodName x
GoodExpr (neg x) = GoodExpr x
GoodExpr (binary op x y) = GoodExpr x × GoodExpr y

abbrev pub GoodCond : BareCond → Type 0
GoodCond always = Unit {0}
GoodCond never = Unit {0}
GoodCond (compare how x y) = GoodExpr x × GoodExpr y
GoodCond (negation c) = GoodCond c
GoodCond (both b c) = GoodCond b × GoodCond c
GoodCond (either b c) = GoodCond b × GoodCond c

-- how deep an expression is where it stands
levels : (b : BareExpr)
    → (peak b at.Alone ≤ peak b at.Inner) × (peak b at.Inner ≤ peak b at.Tight) × (peak b at.Tight ≤ 1 + peak b at.Alone)
levels (number digits places) = (omega arith, omega arith, omega arith)
levels (name x) = (omega arith, omega arith, omega arith)
levels (neg x) = (omega arith, omega arith, omega arith)
levels (binary sign.Add x y) = (omega arith, omega arith, omega arith)
levels (binary sign.Sub x y) = (omega arith, omega arith, omega arith)
levels (binary sign.Mul x y) = (omega arith, omega arith, omega arith)
levels (binary sign.Div x y) = (omega arith, omega arith, omega arith)

cond_levels : (c : BareCond)
    → (cond_peak c at.Alone ≤ cond_peak c at.Inner) × (cond_peak c at.Inner ≤ cond_peak c at.Tight)
    × (cond_peak c at.Tight ≤ 1 + cond_peak c at.Alone)
cond_levels always = (omega arith, omega arith, omega arith)
cond_levels never = (omega arith, omega arith, omega arith)
cond_levels (compare how x y) = (omega arith, omega arith, omega arith)
cond_levels (negation c) = (omega arith, omega arith, omega arith)
cond_levels (both b c) = (omega arith, omega arith, omega arith)
cond_levels (either b c) = (omega arith, omega arith, omega arith)

-- the signs of sums and of products
is_sum : Op → Bool
is_sum sign.Add = true
is_sum sign.Sub = true
is_sum _ = false

is_product : Op → Bool
is_product sign.Mul = true
is_product sign.Div = true
is_product _ = false

all_sums : (kind : Kind) → IfSome (sum_op kind) (λ op. is_sum op ≡ true)
unfolding is_sum
all_sums (k.Fixed fix.Plus) = refl
all_sums (k.Fixed fix.Minus) = refl
all_sums _ = tt

all_products : (kind : Kind) → IfSome (product_op kind) (λ op. is_product op ≡ true)
unfolding is_product
all_products (k.Fixed fix.Star) = refl
all_products (k.Fixed fix.Slash) = refl
all_products _ = tt

sum_is : (kind : Kind) (op : Op) → sum_op kind ≡ Some op → is_sum op ≡ true
sum_is kind op e = let P : Option Op → Type 0 = λ o. IfSome o (λ op. is_sum op ≡ true) in subst P e (all_sums kind)

product_is : (kind : Kind) (op : Op) → product_op kind ≡ Some op → is_product op ≡ true
product_is kind op e = let P : Option Op → Type 0 = λ o. IfSome o (λ op. is_product op ≡ true) in subst P e (all_products kind)

sum_deep : (op : Op) → is_sum op ≡ true → (x y : BareExpr) (d : ℕ) → d + peak x at.Alone ≤ 64 → d + peak y at.Inner ≤ 64
    → d + peak (binary op x y) at.Alone ≤ 64
unfolding is_sum
sum_deep sign.Add e x y d i j = omega arith
sum_deep sign.Sub e x y d i j = omega arith
sum_deep sign.Mul e x y d i j = absurd (cc)
sum_deep sign.Div e x y d i j = absurd (cc)

product_deep : (op : Op) → is_product op ≡ true → (x y : BareExpr) (d : ℕ) → d + peak x at.Inner ≤ 64
    → d + peak y at.Tight ≤ 64 → d + peak (binary op x y) at.Inner ≤ 64
unfolding is_product
product_deep sign.Add e x y d i j = absurd (cc)
product_deep sign.Sub e x y d i j = absurd (cc)
product_deep sign.Mul e x y d i j = omega arith
product_deep sign.Div e x y d i j = omega arith

-- what is known of an expression that stands before v, behind d open items and n nodes
pub record KeptExpr (b : BareExpr) (l : Level) (v : Spelled) (d n : ℕ) : Type 0 where
  pub good : GoodExpr b
  pub deep : d + peak b l ≤ 64
  pub few : n + size b ≤ 200
  pub after : Walks IsSound v d (n + size b)

mutual
  pub expr_kept : (x : g.Expr) (v : Spelled) (d n : ℕ) → d ≤ 64 → Walks IsSound (g.expr x v) d n
      → KeptExpr (expr_bare x) at.Alone v d n
  expr_kept (g.sum t ss) v d n i w =
      let p = term_kept t (g.sums ss v) d n i w in
      sums_kept ss (term_bare t) v d n i p.good (omega (arith, p.deep, (levels (term_bare t)).0)) p.few p.after

  sums_kept : (ss : g.Sums) (left : BareExpr) (v : Spelled) (d n : ℕ) → d ≤ 64 → GoodExpr left → d + peak left at.Alone ≤ 64
      → n + size left ≤ 200 → Walks IsSound (g.sums ss v) d (n + size left) → KeptExpr (sums_bare ss left) at.Alone v d n
  sums_kept g.no_more left v d n i good deep few w = record { good = good; deep = deep; few = few; after = w }
  sums_kept (g.added s t ss) left v d n i good deep few (sound, room, w) =
      let p = term_kept t (Did m.Binary ∷ g.sums ss v) d (n + size left + 1) i w in
      let both_deep = sum_deep s.1 (sum_is (kind_of s.0.lexeme) s.1 s.2) left (term_bare t) d deep p.deep in
      sums_kept ss (binary s.1 left (term_bare t)) v d n i (good, p.good) both_deep (omega (arith, p.few))
      (walks_at IsSound (g.sums ss v) d d (n + size left + 1 + size (term_bare t)) (n + (1 + (size left + size (term_bare t))))
      refl (omega arith) p.after)

  term_kept : (x : g.Term) (v : Spelled) (d n : ℕ) → d ≤ 64 → Walks IsSound (g.term x v) d n
      → KeptExpr (term_bare x) at.Inner v d n
  term_kept (g.product f ps) v d n i w =
      let p = factor_kept f (g.products ps v) d n i w in
      products_kept ps (factor_bare f) v d n i p.good (omega (arith, p.deep, (levels (factor_bare f)).1)) p.few p.after

  products_kept : (ps : g.Products) (left : BareExpr) (v : Spelled) (d n : ℕ) → d ≤ 64 → GoodExpr left
      → d + peak left at.Inner ≤ 64 → n + size left ≤ 200 → Walks IsSound (g.products ps v) d (n + size left)
      → KeptExpr (products_bare ps left) at.Inner v d n
  products_kept g.no_other left v d n i good deep few w = record { good = good; deep = deep; few = few; after = w }
  products_kept (g.multiplied s f ps) left v d n i good deep few (sound, room, w) =
      let p = factor_kept f (Did m.Binary ∷ g.products ps v) d (n + size left + 1) i w in
      let both_deep = product_deep s.1 (product_is (kind_of s.0.lexeme) s.1 s.2) left (factor_bare f) d deep p.deep in
      products_kept ps (binary s.1 left (factor_bare f)) v d n i (good, p.good) both_deep (omega (arith, p.few))
      (walks_at IsSound (g.products ps v) d d (n + size left + 1 + size (factor_bare f))
      (n + (1 + (size left + size (factor_bare f)))) refl (omega arith) p.after)

  factor_kept : (x : g.Factor) (v : Spelled) (d n : ℕ) → d ≤ 64 → Walks IsSound (g.factor x v) d n
      → KeptExpr (factor_bare x) at.Tight v d n
  factor_kept (g.minus t f) v d n i (sound, (open_room, node_room), w) =
      let p = factor_kept f (Did m.Negate ∷ v) (d + 1) (n + 1) (omega arith) w in record {
        good = p.good;
        deep = omega (arith, p.deep);
        few = omega (arith, p.few);
        after = walks_at IsSound v (d + 1 - 1) d (n + 1 + size (factor_bare f)) (n + (1 + size (factor_bare f)))
            (omega arith) (omega arith) p.after;
      }
  factor_kept (g.number t) v d n i (sound, room, w) = record {
    good = sound_number t sound;
    deep = omega arith;
    few = omega arith;
    after = w;
  }
  factor_kept (g.variable t) v d n i (sound, room, w) = record {
    good = sound_name t sound;
    deep = omega arith;
    few = omega arith;
    after = w;
  }
  factor_kept (g.brackets a x b) v d n i (sound, room, w) =
      let p = expr_kept x (Read b.0 r.Close ∷ v) (d + 1) n (omega arith) w in record {
        good = p.good;
        deep = omega (arith, p.deep, (levels (expr_bare x)).2);
        few = p.few;
        after = walks_at IsSound v (d + 1 - 1) d (n + size (expr_bare x)) (n + size (expr_bare x)) (omega arith) refl p.after.2;
      }

pub record KeptCond (b : BareCond) (l : Level) (v : Spelled) (d n : ℕ) : Type 0 where
  pub good : GoodCond b
  pub deep : d + cond_peak b l ≤ 64
  pub few : n + cond_size b ≤ 200
  pub after : Walks IsSound v d (n + cond_size b)

mutual
  pub cond_kept : (x : h.Cond) (v : Spelled) (d n : ℕ) → d ≤ 64 → Walks IsSound (h.cond x v) d n
      → KeptCond (cond_bare x) at.Alone v d n
  cond_kept (h.either b os) v d n i w =
      let p = both_kept b (h.ors os v) d n i w in
      ors_kept os (both_bare b) v d n i p.good (omega (arith, p.deep, (cond_levels (both_bare b)).0)) p.few p.after

  ors_kept : (os : h.Ors) (left : BareCond) (v : Spelled) (d n : ℕ) → d ≤ 64 → GoodCond left → d + cond_peak left at.Alone ≤ 64
      → n + cond_size left ≤ 200 → Walks IsSound (h.ors os v) d (n + cond_size left) → KeptCond (ors_bare os left) at.Alone v d n
  ors_kept h.no_more left v d n i good deep few w = record { good = good; deep = deep; few = few; after = w }
  ors_kept (h.or_both t b os) left v d n i good deep few (sound, room, w) =
      let p = both_kept b (Did m.Or ∷ h.ors os v) d (n + cond_size left + 1) i w in
      ors_kept os (either left (both_bare b)) v d n i (good, p.good) (omega (arith, p.deep)) (omega (arith, p.few))
      (walks_at IsSound (h.ors os v) d d (n + cond_size left + 1 + cond_size (both_bare b))
      (n + (1 + (cond_size left + cond_size (both_bare b)))) refl (omega arith) p.after)

  both_kept : (x : h.Both) (v : Spelled) (d n : ℕ) → d ≤ 64 → Walks IsSound (h.both_of x v) d n
      → KeptCond (both_bare x) at.Inner v d n
  both_kept (h.both o bs) v d n i w =
      let p = one_kept o (h.ands bs v) d n i w in
      ands_kept bs (one_bare o) v d n i p.good (omega (arith, p.deep, (cond_levels (one_bare o)).1)) p.few p.after

  ands_kept : (bs : h.Ands) (left : BareCond) (v : Spelled) (d n : ℕ) → d ≤ 64 → GoodCond left
      → d + cond_peak left at.Inner ≤ 64 → n + cond_size left ≤ 200 → Walks IsSound (h.ands bs v) d (n + cond_size left)
      → KeptCond (ands_bare bs left) at.Inner v d n
  ands_kept h.no_other left v d n i good deep few w = record { good = good; deep = deep; few = few; after = w }
  ands_kept (h.and_one t o bs) left v d n i good deep few (sound, room, w) =
      let p = one_kept o (Did m.And ∷ h.ands bs v) d (n + cond_size left + 1) i w in
      ands_kept bs (both left (one_bare o)) v d n i (good, p.good) (omega (arith, p.deep)) (omega (arith, p.few))
      (walks_at IsSound (h.ands bs v) d d (n + cond_size left + 1 + cond_size (one_bare o))
      (n + (1 + (cond_size left + cond_size (one_bare o)))) refl (omega arith) p.after)

  one_kept : (x : h.One) (v : Spelled) (d n : ℕ) → d ≤ 64 → Walks IsSound (h.one x v) d n
      → KeptCond (one_bare x) at.Tight v d n
  one_kept (h.negation t o) v d n i (sound, (open_room, node_room), w) =
      let p = one_kept o (Did m.Not ∷ v) (d + 1) (n + 1) (omega arith) w in record {
        good = p.good;
        deep = omega (arith, p.deep);
        few = omega (arith, p.few);
        after = walks_at IsSound v (d + 1 - 1) d (n + 1 + cond_size (one_bare o)) (n + (1 + cond_size (one_bare o)))
            (omega arith) (omega arith) p.after;
      }
  one_kept (h.always t) v d n i (sound, room, w) = record { good = tt; deep = omega arith; few = omega arith; after = w }
  one_kept (h.never t) v d n i (sound, room, w) = record { good = tt; deep = omega arith; few = omega arith; after = w }
  one_kept (h.brackets a x b) v d n i (sound, room, w) =
      let p = cond_kept x (Read b.0 r.Close ∷ v) (d + 1) n (omega arith) w in record {
        good = p.good;
        deep = omega (arith, p.deep, (cond_levels (cond_bare x)).2);
        few = p.few;
        after = walks_at IsSound v (d + 1 - 1) d (n + cond_size (cond_bare x)) (n + cond_size (cond_bare x)) (omega arith) refl p.after.2;
      }
  one_kept (h.compare x s y) v d n i w =
      let p = expr_kept x (Read s.0 r.Operator ∷ g.expr y (Did m.Compare ∷ v)) d n i w in
      let q = expr_kept y (Did m.Compare ∷ v) d (n + size (expr_bare x) + 1) i p.after.2 in record {
        good = (p.good, q.good);
        deep = omega (arith, p.deep, q.deep);
        few = omega (arith, q.few);
        after = walks_at IsSound v d d (n + size (expr_bare x) + 1 + size (expr_bare y))
            (n + (1 + (size (expr_bare x) + size (expr_bare y)))) refl (omega arith) q.after;
      }
