-- The canonical spelling of each condition is read as that condition.
use Rattle.std.proofs.Common.{◌≡◌, ℕ, ◌+◌, ◌-◌, max, List, ◌∷◌, Some, refl, ap, ap₂, sym, ◌∙◌, arith}
use Rattle.hc_grammar.specs.Texts as texts
use Rattle.hc_grammar.specs.Texts.{Read, Did}
use Rattle.hc_token.specs.declared.fixed.Fixed.TheVariants as fix
use Rattle.hc_token.specs.declared.kind.Kind.TheVariants as k
use Rattle.hc_token.specs.declared.token.Token.{Token}
use Rattle.hc_ast.specs.declared.role.Role.TheVariants as r
use Rattle.hc_ast.specs.declared.role.Mark.TheVariants as m
use Rattle.hc_ast.specs.declared.expr.Comparison.{Comparison}
use Rattle.hc_ast.specs.declared.expr.Comparison.TheVariants as how_of
use Rattle.hc_ast.specs.Bare.{BareExpr, BareCond, always, never, compare, negation, both, either}
use Rattle.hc_ast.specs.Leaves.{Spelled, OfFixed, comparison}
use Rattle.hc_ast.specs.Exprs.{expr}
use Rattle.hc_ast.specs.Conds as g
use Rattle.hc_ast.specs.Conds.{Cond, Ors, Both, Ands, One}
use Rattle.hc_ast.specs.Counts.{unfit}
use Rattle.hc_print.specs.declared.level.Level.{Level}
use Rattle.hc_print.specs.declared.level.Level.TheVariants as at
use Rattle.hc_print.specs.Lexemes.{Lexemes, fixed}
use Rattle.hc_print.specs.CanonExprs as canon
use Rattle.hc_print.proofs.BareExprs.{cond_bare, ors_bare, both_bare, ands_bare, one_bare}
use Rattle.hc_print.proofs.Peaks.{peak, size, cond_peak, cond_size}
use Rattle.hc_print.proofs.Saying.{Says}
use Rattle.hc_print.proofs.Walking.{walks_at}
use Rattle.hc_print.proofs.Phrases.{IsFit, Phrase, Counted}
use Rattle.hc_print.proofs.ReadExprs.{all_levels}

-- a phrase for c where it stands at this level
abbrev pub Reads : {X : Type 0} → (X → Spelled → Spelled) → (X → BareCond) → Level → BareCond → Type 0
Reads spell bare_of l c =
    (w : Lexemes) (ts : List Token) → Says (canon.cond c l w) ts
    → Phrase spell bare_of (Counted (cond_peak c l) (cond_size c)) c w ts

pub record AtLevels (c : BareCond) : Type 0 where
  pub alone : Reads g.cond cond_bare at.Alone c
  pub inner : Reads g.both_of both_bare at.Inner c
  pub tight : Reads g.one one_bare at.Tight c

as_both : (c : BareCond) (deep many : ℕ) (w : Lexemes) (ts : List Token)
    → Phrase g.one one_bare (Counted deep many) c w ts → Phrase g.both_of both_bare (Counted deep many) c w ts
as_both c deep many w ts p = record {
  phrase = g.both p.phrase g.no_other;
  others = p.others;
  rest = p.rest;
  tokens = p.tokens;
  bare = p.bare;
  goes = p.goes;
}

as_cond : (c : BareCond) (deep many : ℕ) (w : Lexemes) (ts : List Token)
    → Phrase g.both_of both_bare (Counted deep many) c w ts → Phrase g.cond cond_bare (Counted deep many) c w ts
as_cond c deep many w ts p = record {
  phrase = g.either p.phrase g.no_more;
  others = p.others;
  rest = p.rest;
  tokens = p.tokens;
  bare = p.bare;
  goes = p.goes;
}

always_text : Reads g.one one_bare at.Tight always
always_text w ts h = record {
  phrase = g.always (h.first, h.is);
  others = h.others;
  rest = h.rest;
  tokens = λ v e. ap (λ us. h.first ∷ us) e ∙ sym h.all;
  bare = refl;
  goes = λ v d n i j q. (ap unfit h.is, omega arith, q);
}

never_text : Reads g.one one_bare at.Tight never
never_text w ts h = record {
  phrase = g.never (h.first, h.is);
  others = h.others;
  rest = h.rest;
  tokens = λ v e. ap (λ us. h.first ∷ us) e ∙ sym h.all;
  bare = refl;
  goes = λ v d n i j q. (ap unfit h.is, omega arith, q);
}

not_text : (c : BareCond) → Reads g.one one_bare at.Tight c → Reads g.one one_bare at.Tight (negation c)
not_text c reads w ts h = let p = reads w h.others h.rest in record {
  phrase = g.negation (h.first, h.is) p.phrase;
  others = p.others;
  rest = p.rest;
  tokens = λ v e. ap (λ us. h.first ∷ us) (p.tokens (Did m.Not ∷ v) e) ∙ sym h.all;
  bare = ap negation p.bare;
  goes = λ v d n i j q. (
    ap unfit h.is,
    (omega arith, omega arith),
    p.goes (Did m.Not ∷ v) (d + 1) (n + 1) (omega arith) (omega arith)
        (walks_at IsFit v d (d + 1 - 1) (n + (1 + cond_size c)) (n + 1 + cond_size c) (omega arith) (omega arith) q),
  );
}

-- in square brackets
in_square : (c : BareCond) (deep many : ℕ) (inside : Lexemes → Lexemes)
    → ((w : Lexemes) (ts : List Token) → Says (inside w) ts → Phrase g.cond cond_bare (Counted deep many) c w ts)
    → (w : Lexemes) (ts : List Token) → Says (fixed fix.OpenSquare ∷ inside (fixed fix.CloseSquare ∷ w)) ts
    → Phrase g.one one_bare (Counted (1 + deep) many) c w ts
in_square c deep many inside reads w ts h =
    let p = reads (fixed fix.CloseSquare ∷ w) h.others h.rest in record {
      phrase = g.brackets (h.first, h.is) p.phrase (p.rest.first, p.rest.is);
      others = p.rest.others;
      rest = p.rest.rest;
      tokens = λ v e. ap (λ us. h.first ∷ us)
          (p.tokens (Read p.rest.first r.Close ∷ v) (ap (λ us. p.rest.first ∷ us) e ∙ sym p.rest.all)) ∙ sym h.all;
      bare = p.bare;
      goes = λ v d n i j q. (
        ap unfit h.is,
        omega arith,
        p.goes (Read p.rest.first r.Close ∷ v) (d + 1) n (omega arith) j
            (ap unfit p.rest.is, tt, walks_at IsFit v d (d + 1 - 1) (n + many) (n + many) (omega arith) refl q),
      );
    }

-- the sign of a comparison is read as that comparison
comparison_is : (how : Comparison) → comparison (k.Fixed (canon.comparison_sign how)) ≡ Some how
comparison_is how_of.Less = refl
comparison_is how_of.AtMost = refl
comparison_is how_of.Equal = refl
comparison_is how_of.NotEqual = refl
comparison_is how_of.AtLeast = refl
comparison_is how_of.Greater = refl

compare_text : (how : Comparison) (x y : BareExpr) → Reads g.one one_bare at.Tight (compare how x y)
compare_text how x y w ts h =
    let p = (all_levels x).alone (fixed (canon.comparison_sign how) ∷ canon.expr y at.Alone w) ts h in
    let q = (all_levels y).alone w p.rest.others p.rest.rest in record {
      phrase = g.compare p.phrase (p.rest.first, how, ap comparison p.rest.is ∙ comparison_is how) q.phrase;
      others = q.others;
      rest = q.rest;
      tokens = λ v e. p.tokens (Read p.rest.first r.Operator ∷ expr q.phrase (Did m.Compare ∷ v))
          (ap (λ us. p.rest.first ∷ us) (q.tokens (Did m.Compare ∷ v) e) ∙ sym p.rest.all);
      bare = ap₂ (compare how) p.bare q.bare;
      goes = λ v d n i j u.
          p.goes (Read p.rest.first r.Operator ∷ expr q.phrase (Did m.Compare ∷ v)) d n (omega arith) (omega arith) (
            ap unfit p.rest.is,
            omega arith,
            q.goes (Did m.Compare ∷ v) d (n + size x + 1) (omega arith) (omega arith)
                (walks_at IsFit v d d (n + (1 + (size x + size y))) (n + size x + 1 + size y) refl (omega arith) u),
          );
    }

-- one part more at the end
abbrev ors_end : Ors → OfFixed fix.BarBar → Both → Ors
ors_end g.no_more t b = g.or_both t b g.no_more
ors_end (g.or_both t0 b0 os) t b = g.or_both t0 b0 (ors_end os t b)

abbrev or_more : Cond → OfFixed fix.BarBar → Both → Cond
or_more (g.either b0 os) t b = g.either b0 (ors_end os t b)

spelled_ors : (os : Ors) (t : OfFixed fix.BarBar) (b : Both) (v : Spelled)
    → g.ors (ors_end os t b) v ≡ g.ors os (Read t.0 r.Operator ∷ g.both_of b (Did m.Or ∷ v))
spelled_ors g.no_more t b v = refl
spelled_ors (g.or_both t0 b0 os) t b v =
    ap (λ u. Read t0.0 r.Operator ∷ g.both_of b0 (Did m.Or ∷ u)) (spelled_ors os t b v)

spelled_or : (x : Cond) (t : OfFixed fix.BarBar) (b : Both) (v : Spelled)
    → g.cond (or_more x t b) v ≡ g.cond x (Read t.0 r.Operator ∷ g.both_of b (Did m.Or ∷ v))
spelled_or (g.either b0 os) t b v = ap (g.both_of b0) (spelled_ors os t b v)

bare_ors : (os : Ors) (t : OfFixed fix.BarBar) (b : Both) (c : BareCond)
    → ors_bare (ors_end os t b) c ≡ either (ors_bare os c) (both_bare b)
bare_ors g.no_more t b c = refl
bare_ors (g.or_both t0 b0 os) t b c = bare_ors os t b (either c (both_bare b0))

bare_or : (x : Cond) (t : OfFixed fix.BarBar) (b : Both) → cond_bare (or_more x t b) ≡ either (cond_bare x) (both_bare b)
bare_or (g.either b0 os) t b = bare_ors os t b (both_bare b0)

or_text : (b c : BareCond) → Reads g.cond cond_bare at.Alone b → Reads g.both_of both_bare at.Inner c
    → Reads g.cond cond_bare at.Alone (either b c)
or_text b c first second w ts h =
    let p = first (fixed fix.BarBar ∷ canon.cond c at.Inner w) ts h in
    let q = second w p.rest.others p.rest.rest in
    let t : OfFixed fix.BarBar = (p.rest.first, p.rest.is) in record {
      phrase = or_more p.phrase t q.phrase;
      others = q.others;
      rest = q.rest;
      tokens = λ v e. ap texts.tokens_of (spelled_or p.phrase t q.phrase v)
          ∙ p.tokens (Read p.rest.first r.Operator ∷ g.both_of q.phrase (Did m.Or ∷ v))
          (ap (λ us. p.rest.first ∷ us) (q.tokens (Did m.Or ∷ v) e) ∙ sym p.rest.all);
      bare = bare_or p.phrase t q.phrase ∙ ap₂ either p.bare q.bare;
      goes = λ v d n i j u. rw (spelled_or p.phrase t q.phrase v)
          (p.goes (Read p.rest.first r.Operator ∷ g.both_of q.phrase (Did m.Or ∷ v)) d n (omega arith) (omega arith) (
            ap unfit p.rest.is,
            omega arith,
            q.goes (Did m.Or ∷ v) d (n + cond_size b + 1) (omega arith) (omega arith)
                (walks_at IsFit v d d (n + (1 + (cond_size b + cond_size c))) (n + cond_size b + 1 + cond_size c) refl (omega arith) u),
          ));
    }

abbrev ands_end : Ands → OfFixed fix.AndAnd → One → Ands
ands_end g.no_other t o = g.and_one t o g.no_other
ands_end (g.and_one t0 o0 bs) t o = g.and_one t0 o0 (ands_end bs t o)

abbrev and_more : Both → OfFixed fix.AndAnd → One → Both
and_more (g.both o0 bs) t o = g.both o0 (ands_end bs t o)

spelled_ands : (bs : Ands) (t : OfFixed fix.AndAnd) (o : One) (v : Spelled)
    → g.ands (ands_end bs t o) v ≡ g.ands bs (Read t.0 r.Operator ∷ g.one o (Did m.And ∷ v))
spelled_ands g.no_other t o v = refl
spelled_ands (g.and_one t0 o0 bs) t o v =
    ap (λ u. Read t0.0 r.Operator ∷ g.one o0 (Did m.And ∷ u)) (spelled_ands bs t o v)

spelled_and : (x : Both) (t : OfFixed fix.AndAnd) (o : One) (v : Spelled)
    → g.both_of (and_more x t o) v ≡ g.both_of x (Read t.0 r.Operator ∷ g.one o (Did m.And ∷ v))
spelled_and (g.both o0 bs) t o v = ap (g.one o0) (spelled_ands bs t o v)

bare_ands : (bs : Ands) (t : OfFixed fix.AndAnd) (o : One) (c : BareCond)
    → ands_bare (ands_end bs t o) c ≡ both (ands_bare bs c) (one_bare o)
bare_ands g.no_other t o c = refl
bare_ands (g.and_one t0 o0 bs) t o c = bare_ands bs t o (both c (one_bare o0))

bare_and : (x : Both) (t : OfFixed fix.AndAnd) (o : One) → both_bare (and_more x t o) ≡ both (both_bare x) (one_bare o)
bare_and (g.both o0 bs) t o = bare_ands bs t o (one_bare o0)

and_text : (b c : BareCond) → Reads g.both_of both_bare at.Inner b → Reads g.one one_bare at.Tight c
    → Reads g.both_of both_bare at.Inner (both b c)
and_text b c first second w ts h =
    let p = first (fixed fix.AndAnd ∷ canon.cond c at.Tight w) ts h in
    let q = second w p.rest.others p.rest.rest in
    let t : OfFixed fix.AndAnd = (p.rest.first, p.rest.is) in record {
      phrase = and_more p.phrase t q.phrase;
      others = q.others;
      rest = q.rest;
      tokens = λ v e. ap texts.tokens_of (spelled_and p.phrase t q.phrase v)
          ∙ p.tokens (Read p.rest.first r.Operator ∷ g.one q.phrase (Did m.And ∷ v))
          (ap (λ us. p.rest.first ∷ us) (q.tokens (Did m.And ∷ v) e) ∙ sym p.rest.all);
      bare = bare_and p.phrase t q.phrase ∙ ap₂ both p.bare q.bare;
      goes = λ v d n i j u. rw (spelled_and p.phrase t q.phrase v)
          (p.goes (Read p.rest.first r.Operator ∷ g.one q.phrase (Did m.And ∷ v)) d n (omega arith) (omega arith) (
            ap unfit p.rest.is,
            omega arith,
            q.goes (Did m.And ∷ v) d (n + cond_size b + 1) (omega arith) (omega arith)
                (walks_at IsFit v d d (n + (1 + (cond_size b + cond_size c))) (n + cond_size b + 1 + cond_size c) refl (omega arith) u),
          ));
    }

-- by the form of the condition
one_levels : (c : BareCond) (deep many : ℕ)
    → ((w : Lexemes) (ts : List Token) → Says (canon.cond c at.Tight w) ts → Phrase g.one one_bare (Counted deep many) c w ts)
    → (w : Lexemes) (ts : List Token) → Says (canon.cond c at.Tight w) ts → Phrase g.cond cond_bare (Counted deep many) c w ts
one_levels c deep many text w ts h = as_cond c deep many w ts (as_both c deep many w ts (text w ts h))

both_levels : (b c : BareCond) → AtLevels b → AtLevels c → AtLevels (both b c)
both_levels b c f s =
    let t : BareCond = both b c in
    let deep : ℕ = max (cond_peak b at.Inner) (cond_peak c at.Tight) in
    let many : ℕ = 1 + (cond_size b + cond_size c) in
    let inside = λ (w : Lexemes). canon.cond b at.Inner (fixed fix.AndAnd ∷ canon.cond c at.Tight w) in
    let text = and_text b c f.inner s.tight in
    let alone = λ (w : Lexemes) (ts : List Token) (h : Says (inside w) ts). as_cond t deep many w ts (text w ts h) in record {
      alone = alone;
      inner = text;
      tight = in_square t deep many inside alone;
    }

either_levels : (b c : BareCond) → AtLevels b → AtLevels c → AtLevels (either b c)
either_levels b c f s =
    let t : BareCond = either b c in
    let deep : ℕ = max (cond_peak b at.Alone) (cond_peak c at.Inner) in
    let many : ℕ = 1 + (cond_size b + cond_size c) in
    let inside = λ (w : Lexemes). canon.cond b at.Alone (fixed fix.BarBar ∷ canon.cond c at.Inner w) in
    let text = or_text b c f.alone s.inner in record {
      alone = text;
      inner = λ w ts h. as_both t (1 + deep) many w ts (in_square t deep many inside text w ts h);
      tight = in_square t deep many inside text;
    }

pub all_levels_of : (c : BareCond) → AtLevels c
all_levels_of always = record {
  alone = one_levels always 0 1 always_text;
  inner = λ w ts h. as_both always 0 1 w ts (always_text w ts h);
  tight = always_text;
}
all_levels_of never = record {
  alone = one_levels never 0 1 never_text;
  inner = λ w ts h. as_both never 0 1 w ts (never_text w ts h);
  tight = never_text;
}
all_levels_of (compare how x y) =
    let c : BareCond = compare how x y in
    let deep : ℕ = max (peak x at.Alone) (peak y at.Alone) in
    let many : ℕ = 1 + (size x + size y) in
    let text = compare_text how x y in record {
      alone = one_levels c deep many text;
      inner = λ w ts h. as_both c deep many w ts (text w ts h);
      tight = text;
    }
all_levels_of (negation x) =
    let c : BareCond = negation x in
    let deep : ℕ = 1 + cond_peak x at.Tight in
    let many : ℕ = 1 + cond_size x in
    let text = not_text x (all_levels_of x).tight in record {
      alone = one_levels c deep many text;
      inner = λ w ts h. as_both c deep many w ts (text w ts h);
      tight = text;
    }
all_levels_of (both b c) = both_levels b c (all_levels_of b) (all_levels_of c)
all_levels_of (either b c) = either_levels b c (all_levels_of b) (all_levels_of c)
