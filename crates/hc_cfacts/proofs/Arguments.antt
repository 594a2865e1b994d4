-- What the arguments of a call keep, and what the end of the call tells of them.
use Rattle.std.proofs.Common.{◌≡◌, refl, sym, ap, ◌∙◌, subst, ◌+◌, Bool, true, false, List, [], ◌∷◌, ◌++◌, length, Option, Some}
use Rattle.std.specs.Prelude.{◌&&◌, ◌||◌, not, ◌==◌}
use Rattle.std.specs.Option.{option_map}
use Rattle.std.proofs.lemmas.Bool.{and_parts, eqb-true}
use Rattle.std.proofs.lemmas.List.{append-nil, append_assoc, length_push}
use Rattle.hc_grammar.specs.Texts.{Read, Did}
use Rattle.hc_cast.specs.declared.primitive.Primitive.TheVariants.{FrSet}
use Rattle.hc_cast.specs.declared.expr.CExpr.{CExpr}
use Rattle.hc_ctoken.specs.declared.fixed.Fixed.TheVariants as fix
use Rattle.hc_ctoken.specs.declared.token.Lexeme.{Lexeme}
use Rattle.hc_cgrammar.specs.declared.role.Role.TheVariants as r
use Rattle.hc_cgrammar.specs.declared.role.Mark.TheVariants as m
use Rattle.hc_cgrammar.specs.Leaves.{Spelled, OfFixed}
use Rattle.hc_cgrammar.specs.Exprs as x
use Rattle.hc_cgrammar.specs.Stmts as g
use Rattle.hc_cgrammar.specs.StmtRoles as w
use Rattle.hc_cgrammar.specs.StmtTrees.{more_arguments_tree, arguments_tree}
use Rattle.hc_cgrammar.specs.State.{Shape, Signature, Call, State}
use Rattle.hc_cgrammar.specs.Walk.{is_set, call_of, with_argument, with_comma, after_token, after_mark}
use Rattle.hc_cgrammar.specs.Rules.{is_literal, is_number, are_right, closes_well}
use Rattle.hc_cmach.specs.Calls.{are_written}
use Rattle.hc_cfacts.proofs.Goes.{Goes}
use Rattle.hc_cfacts.proofs.Exprs.{Kept, kept_of, core, or_goes}
use Rattle.hc_cfacts.proofs.Literals.{Third, Last, third_more, last_more, set_written}

affirmed : (b : Bool) → not b ≡ false → b ≡ true
affirmed true e = refl
affirmed false e = absurd (cc)

implied : (b c : Bool) → (not b || c) ≡ true → b ≡ true → c ≡ true
implied true c e f = e
implied false c e f = absurd (cc)

-- of a call of what a lexeme says, a function with this signature
module _ (l : Lexeme) (f : Signature) where
  -- the call is under way, with these arguments so far
  pub record Counted (c : Option Call) (xs : List CExpr) : Type 0 where
    pub now : Call
    pub is_open : c ≡ Some now
    pub arity : now.arity ≡ f.arity
    pub sort : now.is_set ≡ is_set l
    pub count : now.arguments ≡ length xs
    pub third : Third now.third xs

  -- and they have all ended
  pub record Taken (w : Spelled) (k : Kept) (xs : List CExpr) : Type 0 where
    pub state : State
    pub goes : Goes w state
    pub same : kept_of state ≡ k
    pub counted : Counted state.call xs
    pub last : Last state.shape xs

  -- they are as many as there must be, and those of `fr_set` are literal
  pub record Fits (xs : List CExpr) : Type 0 where
    pub count : f.arity ≡ length xs
    pub literal : is_set l ≡ true → are_written FrSet xs ≡ true

  -- behind the call
  pub record Closed (w : Spelled) (k : Kept) (xs : List CExpr) : Type 0 where
    pub state : State
    pub goes : Goes w state
    pub same : kept_of state ≡ k
    pub fits : Fits xs

  argument_goes : (e : x.Or) (xs : List CExpr) (v : Spelled) (t : State) (k : Kept) → kept_of t ≡ k → Counted t.call xs
      → Goes (Did m.Fresh ∷ x.or e (Did m.Argument ∷ v)) t → Taken v k (xs ++ x.or_tree e ∷ [])
  argument_goes e xs v t k q c h =
      let s = after_mark m.Fresh t in
      let p = or_goes e (Did m.Argument ∷ v) s (core s) refl h in
      let is_open : p.state.call ≡ Some c.now = ap (λ c. c.1) p.same ∙ c.is_open in
      record {
        state = after_mark m.Argument p.state;
        goes = p.goes;
        same = ap (λ c. c.0) p.same ∙ q;
        counted = record {
          now = with_argument p.state.shape c.now;
          is_open = ap (option_map (with_argument p.state.shape)) is_open;
          arity = c.arity;
          sort = c.sort;
          count = ap (λ n. n + 1) c.count ∙ sym (length_push xs (x.or_tree e));
          third = third_more xs c.now.arguments c.now.third p.state.shape (x.or_tree e) c.count c.third p.grown;
        };
        last = last_more xs p.state.shape (x.or_tree e) p.grown;
      }

  behind_comma : (c : Option Call) (xs : List CExpr) → Counted c xs → Counted (option_map with_comma c) xs
  behind_comma c xs h = record {
    now = with_comma h.now;
    is_open = ap (option_map with_comma) h.is_open;
    arity = h.arity;
    sort = h.sort;
    count = h.count;
    third = h.third;
  }

  more_go : (es : g.MoreArguments) (xs all : List CExpr) (v : Spelled) (s : State) (k : Kept) → xs ++ more_arguments_tree es ≡ all
      → kept_of s ≡ k → Counted s.call xs → Last s.shape xs → Goes (w.more_arguments es v) s → Taken v k all
  more_go g.no_argument xs all v s k a q c last h =
      let P : List CExpr → Type 0 = λ xs. Taken v k xs in
      subst P (sym (append-nil xs) ∙ a) (record { state = s; goes = h; same = q; counted = c; last = last })
  more_go (g.next_argument comma e es) xs all v s k a q c last (step, h) =
      let t = after_token r.NextArgument comma.0.lexeme s in
      let p = argument_goes e xs (w.more_arguments es v) t k q (behind_comma s.call xs c) h in
      more_go es (xs ++ x.or_tree e ∷ []) all v p.state k (append_assoc xs (x.or_tree e ∷ []) (more_arguments_tree es) ∙ a)
      p.same p.counted p.last p.goes

  all_go : (es : g.Arguments) (v : Spelled) (t : State) (k : Kept) → kept_of t ≡ k → Counted t.call []
      → Goes (Did m.Fresh ∷ w.arguments es v) t → Taken v k (arguments_tree es)
  all_go g.without v t k q c h = record { state = after_mark m.Fresh t; goes = h; same = q; counted = c; last = tt }
  all_go (g.with e es) v t k q c h =
      let p = argument_goes e [] (w.more_arguments es v) t k q c h in
      more_go es (x.or_tree e ∷ []) _ v p.state k refl p.same p.counted p.last p.goes

  fitting : (xs : List CExpr) (c : Call) (last : Shape) → c.arity ≡ f.arity → c.is_set ≡ is_set l → c.arguments ≡ length xs
      → Third c.third xs → Last last xs → are_right c last ≡ true → Fits xs
  fitting xs c last arity sort count third fourth e =
      let parts = and_parts (c.arguments == c.arity) (not c.is_set || (is_literal c.third && is_number last)) e in
      record {
        count = sym arity ∙ sym (eqb-true c.arguments c.arity parts.0) ∙ count;
        literal = λ set.
            let both = and_parts (is_literal c.third) (is_number last)
            (implied c.is_set (is_literal c.third && is_number last) parts.1 (sort ∙ set)) in
            set_written xs c.third last third fourth both.0 both.1;
      }

  -- from the bracket in front of the arguments on
  pub call_goes : (left : OfFixed fix.OpenRound) (es : g.Arguments) (right : OfFixed fix.CloseRound) (v : Spelled) (t : State) (k : Kept)
      → kept_of t ≡ k → t.call ≡ Some (call_of l f)
      → Goes (Read left.0 r.OpenArguments ∷ Did m.Fresh ∷ w.arguments es (Read right.0 r.CloseArguments ∷ v)) t
      → Closed v k (arguments_tree es)
  call_goes left es right v t k q o (step, h) =
      let c : Counted t.call [] = record { now = call_of l f; is_open = o; arity = refl; sort = refl; count = refl; third = tt } in
      let p = all_go es (Read right.0 r.CloseArguments ∷ v) (after_token r.OpenArguments left.0.lexeme t) k q c h in
      let n = p.counted.now in
      let well : closes_well p.state.call p.state.shape ≡ true = affirmed (closes_well p.state.call p.state.shape) p.goes.0.ruled in
      let good : are_right n p.state.shape ≡ true = sym (ap (λ c. closes_well c p.state.shape) p.counted.is_open) ∙ well in
      record {
        state = after_token r.CloseArguments right.0.lexeme p.state;
        goes = p.goes.1;
        same = p.same;
        fits = fitting (arguments_tree es) n p.state.shape p.counted.arity p.counted.sort p.counted.count p.counted.third p.last good;
      }
