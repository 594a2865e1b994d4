-- Every expression of a text is built again, with brackets only where it needs them.
use Rattle.std.proofs.Common.{◌+◌, ◌∷◌, refl, ap, arith}
use Rattle.std.proofs.lemmas.Bool.{false≢true}
use Rattle.hc_grammar.specs.Texts.{Read, Did}
use Rattle.hc_cast.specs.declared.expr.COp.TheVariants as op
use Rattle.hc_cast.specs.declared.expr.CExpr.{CExpr}
use Rattle.hc_cast.specs.declared.expr.CExpr.TheVariants as e
use Rattle.hc_cast.specs.declared.expr.CExpr.TheOpen.{CExpr-F}
use Rattle.hc_ctoken.specs.declared.fixed.Fixed.TheVariants as fix
use Rattle.hc_ctoken.specs.declared.token.Lexeme.TheVariants as lex
use Rattle.hc_cgrammar.specs.declared.role.Role.TheVariants as r
use Rattle.hc_cgrammar.specs.declared.role.Mark.TheVariants as m
use Rattle.hc_cgrammar.specs.Leaves.{Spelled, OfFixed, OfNumber, OfLocal, OfArray}
use Rattle.hc_cgrammar.specs.Exprs as g
use Rattle.hc_cgrammar.specs.Exprs.{or, ors, and, ands, cmp, sum_of, sums, prod, products, unary, or_tree, ors_tree, and_tree, ands_tree, cmp_tree, sum_tree, sums_tree, product_tree, products_tree, unary_tree}
use Rattle.hc_cspell.specs.declared.level.Level.TheVariants as at
use Rattle.hc_cspell.specs.Tokens.{fixed}
use Rattle.hc_cspell.specs.Exprs.{expr_layer, spelling}
use Rattle.hc_cspell.proofs.ExprForms.{spelled-Number, spelled-Local, spelled-Element, spelled-Neg, spelled-Not}
use Rattle.hc_cwrite.proofs.Saying.{front}
use Rattle.hc_cwrite.proofs.Follows.{calm, a_token, a_mark, drop_open, drop_close, lead_token, lead_mark, then_leads}
use Rattle.hc_cwrite.proofs.Fine.{IsSoundAs}
use Rattle.hc_cwrite.proofs.Levels.{lower}
use Rattle.hc_cwrite.proofs.Known.{Knows, never_or, weaken, at_own, fine_at, sound_behind, lead_behind}
use Rattle.hc_cwrite.proofs.Joins.{IsSign, joins_or, joins_and, joins_mul, join_at, sum_sign, comparison_sign, joined}
use Rattle.std.proofs.Common.{subst}

-- a number
number_known : (t : OfNumber) → Knows at.Unary (e.Number t.1) (unary (g.number t))
number_known t = (
  expr_layer (CExpr-F.Number t.1),
  record {
    is = spelled-Number t.1;
    sound = λ v s. s.1;
    fine = λ v s w fine. (subst IsSoundAs t.2 s.0, fine);
    leads = λ a v. lead_token r.Number t.0 (calm a) v;
    inside = λ w ts h. record {
      part = g.number (h.first, t.1, h.is);
      others = h.others;
      rest = h.rest;
      tokens = λ v i. front h i;
      tree = refl;
      goes = λ k mm a v v' f. a_token r.Number t.0 h.first (lex.Number t.1) k mm k mm (calm a) v v' t.2 h.is (λ d e i j. (i, j)) f;
    };
    in_round = λ i. absurd (false≢true i);
  },
)

-- a local
local_known : (t : OfLocal) → Knows at.Unary (e.Local t.1) (unary (g.local t))
local_known t = (
  expr_layer (CExpr-F.Local t.1),
  record {
    is = spelled-Local t.1;
    sound = λ v s. s.1;
    fine = λ v s w fine. (subst IsSoundAs t.2 s.0, fine);
    leads = λ a v. lead_token r.Local t.0 (calm a) v;
    inside = λ w ts h. record {
      part = g.local (h.first, t.1, h.is);
      others = h.others;
      rest = h.rest;
      tokens = λ v i. front h i;
      tree = refl;
      goes = λ k mm a v v' f. a_token r.Local t.0 h.first (lex.Local t.1) k mm k mm (calm a) v v' t.2 h.is (λ d e i j. (i, j)) f;
    };
    in_round = λ i. absurd (false≢true i);
  },
)

-- a minus, and a `!`, before its part
minus_known : (t : OfFixed fix.Minus) (x : g.Unary) → Knows at.Unary (unary_tree x) (unary x)
    → Knows at.Unary (e.Neg (unary_tree x)) (unary (g.minus t x))
minus_known t x known = (
  expr_layer (CExpr-F.Neg (spelling (unary_tree x))),
  record {
    is = spelled-Neg (unary_tree x);
    sound = λ v s. sound_behind at.Unary (unary_tree x) (unary x) known (Did m.Negate ∷ v) s.1;
    fine = λ v s w fine. (tt, fine_at at.Unary (unary_tree x) (unary x) known at.Unary (Did m.Negate ∷ v) s.1 w fine);
    leads = λ a v.
        then_leads (calm a) (calm a) (calm a) _ _ _ (lead_token r.Minus t.0 (calm a) (unary x (Did m.Negate ∷ v)))
        (then_leads (calm a) (calm a) (calm a) _ _ _ (lead_behind at.Unary (unary_tree x) (unary x) known a (Did m.Negate ∷ v))
        (lead_mark m.Negate (calm a) v));
    inside = λ w ts h.
        let p = at_own at.Unary (unary_tree x) (unary x) known w h.others h.rest in
        record {
          part = g.minus (h.first, h.is) p.part;
          others = p.others;
          rest = p.rest;
          tokens = λ v i. front h (p.tokens (Did m.Negate ∷ v) i);
          tree = ap e.Neg p.tree;
          goes = λ k mm a v v' f.
              a_token r.Minus t.0 h.first (lex.Fixed fix.Minus) k mm k (mm + 1) (calm a) _ _ t.1 h.is
              (λ d e i j. (omega (arith, i), omega (arith, j)))
              (p.goes k (mm + 1) a _ _ (a_mark m.Negate k (mm + 1) k mm (calm a) v v'
              (λ d e i j. (omega (arith, i), omega (arith, i, j))) f));
        };
    in_round = λ i. absurd (false≢true i);
  },
)

not_known : (t : OfFixed fix.Exclamation) (x : g.Unary) → Knows at.Unary (unary_tree x) (unary x)
    → Knows at.Unary (e.Not (unary_tree x)) (unary (g.negation t x))
not_known t x known = (
  expr_layer (CExpr-F.Not (spelling (unary_tree x))),
  record {
    is = spelled-Not (unary_tree x);
    sound = λ v s. sound_behind at.Unary (unary_tree x) (unary x) known (Did m.Not ∷ v) s.1;
    fine = λ v s w fine. (tt, fine_at at.Unary (unary_tree x) (unary x) known at.Unary (Did m.Not ∷ v) s.1 w fine);
    leads = λ a v.
        then_leads (calm a) (calm a) (calm a) _ _ _ (lead_token r.Not t.0 (calm a) (unary x (Did m.Not ∷ v)))
        (then_leads (calm a) (calm a) (calm a) _ _ _ (lead_behind at.Unary (unary_tree x) (unary x) known a (Did m.Not ∷ v))
        (lead_mark m.Not (calm a) v));
    inside = λ w ts h.
        let p = at_own at.Unary (unary_tree x) (unary x) known w h.others h.rest in
        record {
          part = g.negation (h.first, h.is) p.part;
          others = p.others;
          rest = p.rest;
          tokens = λ v i. front h (p.tokens (Did m.Not ∷ v) i);
          tree = ap e.Not p.tree;
          goes = λ k mm a v v' f.
              a_token r.Not t.0 h.first (lex.Fixed fix.Exclamation) k mm k (mm + 1) (calm a) _ _ t.1 h.is
              (λ d e i j. (omega (arith, i), omega (arith, j)))
              (p.goes k (mm + 1) a _ _ (a_mark m.Not k (mm + 1) k mm (calm a) v v'
              (λ d e i j. (omega (arith, i), omega (arith, i, j))) f));
        };
    in_round = λ i. absurd (false≢true i);
  },
)

-- an element of an array
element_known : (t : OfArray) (left : OfFixed fix.OpenSquare) (x : g.Or) (right : OfFixed fix.CloseSquare)
    → Knows at.Or (or_tree x) (or x) → Knows at.Unary (e.Element t.1 (or_tree x)) (unary (g.element t left x right))
element_known t left x right known = (
  expr_layer (CExpr-F.Element t.1 (spelling (or_tree x))),
  record {
    is = spelled-Element t.1 (or_tree x);
    sound = λ v s. (sound_behind at.Or (or_tree x) (or x) known (Read right.0 r.Close ∷ Did m.Element ∷ v) s.1.1).1;
    fine = λ v s w fine. (
      subst IsSoundAs t.2 s.0,
      (tt, fine_at at.Or (or_tree x) (or x) known at.Or (Read right.0 r.Close ∷ Did m.Element ∷ v) s.1.1 _ (tt, fine)),
    );
    leads = λ a v.
        let rest = Read right.0 r.Close ∷ Did m.Element ∷ v in
        then_leads (calm a) (calm a) (calm a) _ _ _ (lead_token r.Element t.0 (calm a) (Read left.0 r.Open ∷ or x rest))
        (then_leads (calm a) (calm a) (calm a) _ _ _ (lead_token r.Open left.0 (calm a) (or x rest))
        (then_leads (calm a) (calm a) (calm a) _ _ _ (lead_behind at.Or (or_tree x) (or x) known a rest)
        (then_leads (calm a) (calm a) (calm a) _ _ _ (lead_token r.Close right.0 (calm a) (Did m.Element ∷ v))
        (lead_mark m.Element (calm a) v))));
    inside = λ w ts h.
        let p = at_own at.Or (or_tree x) (or x) known (fixed fix.CloseSquare ∷ w) h.rest.others h.rest.rest in
        record {
          part = g.element (h.first, t.1, h.is) (h.rest.first, h.rest.is) p.part (p.rest.first, p.rest.is);
          others = p.rest.others;
          rest = p.rest.rest;
          tokens = λ v i.
              front h (front h.rest (p.tokens (Read p.rest.first r.Close ∷ Did m.Element ∷ v) (front p.rest i)));
          tree = ap (e.Element t.1) p.tree;
          goes = λ k mm a v v' f.
              a_token r.Element t.0 h.first (lex.Array t.1) k mm k mm (calm a) _ _ t.2 h.is (λ d e i j. (i, j))
              (a_token r.Open left.0 h.rest.first (lex.Fixed fix.OpenSquare) k mm k (mm + 1) (calm a) _ _ left.1 h.rest.is
              (λ d e i j. (omega (arith, i), omega (arith, j)))
              (p.goes k (mm + 1) a _ _
              (a_token r.Close right.0 p.rest.first (lex.Fixed fix.CloseSquare) k (mm + 1) k mm (calm a) _ _ right.1 p.rest.is
              (λ d e i j. (omega (arith, i), omega (arith, i, j)))
              (a_mark m.Element k mm k mm (calm a) v v' (λ d e i j. (i, j)) f))));
        };
    in_round = λ i. absurd (false≢true i);
  },
)

-- in brackets: they are left out, or stay where they are needed
brackets_known : (left : OfFixed fix.OpenRound) (x : g.Or) (right : OfFixed fix.CloseRound)
    → Knows at.Or (or_tree x) (or x) → Knows at.Unary (or_tree x) (unary (g.brackets left x right))
brackets_known left x right (s, known) = (
  s,
  record {
    is = known.is;
    sound = λ v sound. (known.sound (Read right.0 r.Close ∷ v) sound.1).1;
    fine = λ v sound w fine. known.fine (Read right.0 r.Close ∷ v) sound.1 w fine;
    leads = λ a v.
        let rest = Read right.0 r.Close ∷ v in
        then_leads (calm a) (calm a) (calm a) _ _ _ (lead_token r.Open left.0 (calm a) (or x rest))
        (then_leads (calm a) (calm a) (calm a) _ _ _ (known.leads a rest) (lead_token r.Close right.0 (calm a) v));
    inside = λ w ts h.
        let p = known.inside w ts h in
        record {
          part = p.part;
          others = p.others;
          rest = p.rest;
          tokens = p.tokens;
          tree = p.tree;
          goes = λ k mm a v v' f.
              drop_open left.0 k mm a _ _ (p.goes (k + 1) mm a _ _ (drop_close right.0 k mm a v v' f));
        };
    in_round = λ i w ts h.
        let p = lower (or_tree x) (or x) (fixed fix.CloseRound ∷ w) h.others s.own at.Or (never_or s.own)
        (known.inside (fixed fix.CloseRound ∷ w) h.others h.rest) in
        record {
          part = g.brackets (h.first, h.is) p.part (p.rest.first, p.rest.is);
          others = p.rest.others;
          rest = p.rest.rest;
          tokens = λ v i. front h (p.tokens (Read p.rest.first r.Close ∷ v) (front p.rest i));
          tree = p.tree;
          goes = λ k mm a v v' f.
              a_token r.Open left.0 h.first (lex.Fixed fix.OpenRound) k mm k (mm + 1) (calm a) _ _ left.1 h.is
              (λ d e i j. (omega (arith, i), omega (arith, j)))
              (p.goes k (mm + 1) a _ _
              (a_token r.Close right.0 p.rest.first (lex.Fixed fix.CloseRound) k (mm + 1) k mm (calm a) v v' right.1 p.rest.is
              (λ d e i j. (omega (arith, i), omega (arith, i, j))) f));
        };
  },
)

or_sign : IsSign (fixed fix.BarBar) op.Or at.Or at.Or at.And
or_sign = record { says = refl; own_is = refl; left_is = refl; right_is = refl; joins = joins_or }

and_sign : IsSign (fixed fix.AndAnd) op.And at.And at.And at.Comparison
and_sign = record { says = refl; own_is = refl; left_is = refl; right_is = refl; joins = joins_and }

product_sign : IsSign (fixed fix.Star) op.Mul at.Product at.Product at.Unary
product_sign = record { says = refl; own_is = refl; left_is = refl; right_is = refl; joins = joins_mul }

mutual
  pub or_known : (x : g.Or) → Knows at.Or (or_tree x) (or x)
  or_known (g.either x xs) = ors_known xs (and_tree x) (and x) (weaken at.And at.Or (and_tree x) (and x) refl (and_known x))

  ors_known : (xs : g.Ors) (b : CExpr) (f : Spelled → Spelled) → Knows at.Or b f → Knows at.Or (ors_tree xs b) (λ v. f (ors xs v))
  ors_known g.no_or b f k = k
  ors_known (g.or_else sign x xs) b f k =
      ors_known xs (e.Binary op.Or b (and_tree x)) (joined f sign.0 (and x))
      (join_at op.Or (fixed fix.BarBar) at.Or at.Or at.And or_sign sign.0 sign.1 b (and_tree x) f (and x) k (and_known x))

  and_known : (x : g.And) → Knows at.And (and_tree x) (and x)
  and_known (g.both x xs) =
      ands_known xs (cmp_tree x) (cmp x) (weaken at.Comparison at.And (cmp_tree x) (cmp x) refl (cmp_known x))

  ands_known : (xs : g.Ands) (b : CExpr) (f : Spelled → Spelled) → Knows at.And b f
      → Knows at.And (ands_tree xs b) (λ v. f (ands xs v))
  ands_known g.no_and b f k = k
  ands_known (g.and_also sign x xs) b f k =
      ands_known xs (e.Binary op.And b (cmp_tree x)) (joined f sign.0 (cmp x))
      (join_at op.And (fixed fix.AndAnd) at.And at.And at.Comparison and_sign sign.0 sign.1 b (cmp_tree x) f (cmp x) k (cmp_known x))

  cmp_known : (x : g.Compared) → Knows at.Comparison (cmp_tree x) (cmp x)
  cmp_known (g.alone x) = weaken at.Sum at.Comparison (sum_tree x) (sum_of x) refl (sum_known x)
  cmp_known (g.compared x sign y) =
      join_at sign.1 sign.0.lexeme at.Comparison at.Sum at.Sum (comparison_sign sign) sign.0 refl (sum_tree x) (sum_tree y)
      (sum_of x) (sum_of y) (sum_known x) (sum_known y)

  sum_known : (x : g.Sum) → Knows at.Sum (sum_tree x) (sum_of x)
  sum_known (g.sum x xs) =
      sums_known xs (product_tree x) (prod x) (weaken at.Product at.Sum (product_tree x) (prod x) refl (product_known x))

  sums_known : (xs : g.Sums) (b : CExpr) (f : Spelled → Spelled) → Knows at.Sum b f → Knows at.Sum (sums_tree xs b) (λ v. f (sums xs v))
  sums_known g.no_more b f k = k
  sums_known (g.added sign x xs) b f k =
      sums_known xs (e.Binary sign.1 b (product_tree x)) (joined f sign.0 (prod x))
      (join_at sign.1 sign.0.lexeme at.Sum at.Sum at.Product (sum_sign sign) sign.0 refl b (product_tree x) f (prod x) k (product_known x))

  product_known : (x : g.Product) → Knows at.Product (product_tree x) (prod x)
  product_known (g.product x xs) =
      products_known xs (unary_tree x) (unary x) (weaken at.Unary at.Product (unary_tree x) (unary x) refl (unary_known x))

  products_known : (xs : g.Products) (b : CExpr) (f : Spelled → Spelled) → Knows at.Product b f
      → Knows at.Product (products_tree xs b) (λ v. f (products xs v))
  products_known g.no_other b f k = k
  products_known (g.multiplied sign x xs) b f k =
      products_known xs (e.Binary op.Mul b (unary_tree x)) (joined f sign.0 (unary x))
      (join_at op.Mul (fixed fix.Star) at.Product at.Product at.Unary product_sign sign.0 sign.1 b (unary_tree x) f (unary x) k
      (unary_known x))

  unary_known : (x : g.Unary) → Knows at.Unary (unary_tree x) (unary x)
  unary_known (g.minus t x) = minus_known t x (unary_known x)
  unary_known (g.negation t x) = not_known t x (unary_known x)
  unary_known (g.number t) = number_known t
  unary_known (g.local t) = local_known t
  unary_known (g.element t left x right) = element_known t left x right (or_known x)
  unary_known (g.brackets left x right) = brackets_known left x right (or_known x)
