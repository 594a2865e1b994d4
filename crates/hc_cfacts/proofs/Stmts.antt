-- What the statements of a body keep, and that each of their calls goes to a primitive or to one of the functions so far.
use Rattle.std.proofs.Common.{◌≡◌, refl, ap, ◌∙◌, Bool, true, false, List, ◌∷◌, map, Option, None, Some}
use Rattle.std.specs.Prelude.{not, is_none}
use Rattle.std.specs.List.{list_all}
use Rattle.std.specs.Option.{option_map}
use Rattle.hc_grammar.specs.Texts.{Read, Did}
use Rattle.hc_cast.specs.Primitives.{text_of, primitive_named}
use Rattle.hc_cast.specs.declared.expr.CExpr.{CExpr}
use Rattle.hc_cast.specs.declared.program.CFunction.{CFunction}
use Rattle.hc_ctoken.specs.declared.fixed.Fixed.TheVariants as fix
use Rattle.hc_cgrammar.specs.declared.role.Role.TheVariants as r
use Rattle.hc_cgrammar.specs.declared.role.Mark.TheVariants as m
use Rattle.hc_cgrammar.specs.Leaves.{Word, Spelled, OfFixed, OfFunction, OfPrimitive}
use Rattle.hc_cgrammar.specs.Exprs as x
use Rattle.hc_cgrammar.specs.Stmts as g
use Rattle.hc_cgrammar.specs.StmtRoles as w
use Rattle.hc_cgrammar.specs.StmtTrees.{callee_name, arguments_tree, call_tree, stmts_tree, stmt_tree, block_tree, cases_tree}
use Rattle.hc_cgrammar.specs.State.{Signature, State}
use Rattle.hc_cgrammar.specs.Walk.{called, call_of, after_token, after_mark}
use Rattle.hc_cgrammar.specs.Rules.{gives}
use Rattle.hc_cmach.specs.State.{function_among}
use Rattle.hc_cmach.specs.Calls.{is_call, calls_among, all_among}
use Rattle.hc_cfacts.proofs.Sane.{IsSane}
use Rattle.hc_cfacts.proofs.Goes.{Goes}
use Rattle.hc_cfacts.proofs.Exprs.{Kept, kept_of, core, or_goes}
use Rattle.hc_cfacts.proofs.Literals.{both_true}
use Rattle.hc_cfacts.proofs.Arguments.{call_goes}
use Rattle.hc_cfacts.proofs.Callees.{signature_of, primitive_call, function_call}
use Rattle.hc_cfacts.proofs.CallForms.{case_among, calls-Set, calls-Store, calls-Call, calls-When, calls-Choose, calls-While, calls-Switch, calls-Return, calls-Case}

plainly : (o : Option Signature) → is_none o ≡ false → (f : Signature) × (o ≡ Some f)
plainly None e = absurd (cc)
plainly (Some f) e = (f, refl)

giving : (o : Option Signature) → not (gives o) ≡ false → (f : Signature) × (o ≡ Some f)
giving None e = absurd (cc)
giving (Some f) e = (f, refl)

-- over the functions so far, as the state knows them
module _ (fs : List CFunction) (k : Kept) (known : k.functions ≡ map signature_of fs) where
  -- behind a part, in which the calls are as they should be
  pub record Past (v : Spelled) (calls_fit : Bool) : Type 0 where
    pub state : State
    pub goes : Goes v state
    pub same : kept_of state ≡ k
    pub calls : calls_fit ≡ true

  value_past : (e : x.Or) (v : Spelled) (s : State) → kept_of s ≡ k → Goes (Did m.Fresh ∷ x.or e v) s → Past v true
  value_past e v s q h =
      let t = after_mark m.Fresh s in
      let p = or_goes e v t (core t) refl h in
      record { state = p.state; goes = p.goes; same = ap (λ c. c.0) p.same ∙ q; calls = refl }

  test_past : (left : OfFixed fix.OpenRound) (e : x.Or) (right : OfFixed fix.CloseRound) (v : Spelled) (s : State) → kept_of s ≡ k
      → Goes (Read left.0 r.Open ∷ Did m.Fresh ∷ x.or e (Read right.0 r.Close ∷ v)) s → Past v true
  test_past left e right v s q (step, h) =
      let p = value_past e (Read right.0 r.Close ∷ v) (after_token r.Open left.0.lexeme s) q h in
      record { state = after_token r.Close right.0.lexeme p.state; goes = p.goes.1; same = p.same; calls = refl }

  -- ---- calls

  abbrev is_call_in : Word → List CExpr → Bool
  is_call_in name es = is_call (primitive_named name) (function_among name fs) es

  abbrev call_fits : g.Call → Bool
  call_fits (g.call callee left es right) = is_call_in (callee_name callee) (arguments_tree es)

  abbrev Rest : OfFixed fix.OpenRound → g.Arguments → OfFixed fix.CloseRound → Spelled → Spelled
  Rest left es right v = Read left.0 r.OpenArguments ∷ Did m.Fresh ∷ w.arguments es (Read right.0 r.CloseArguments ∷ v)

  function_past : (name : OfFunction) (left : OfFixed fix.OpenRound) (es : g.Arguments) (right : OfFixed fix.CloseRound) (v : Spelled)
      (s t : State) (f : Signature) → kept_of s ≡ k → IsSane name.0.lexeme → called name.0.lexeme s ≡ Some f
      → kept_of t ≡ k → t.call ≡ option_map (call_of name.0.lexeme) (called name.0.lexeme s) → Goes (Rest left es right v) t
      → Past v (is_call_in name.1 (arguments_tree es))
  function_past name left es right v s t f q sane declared kept begun h =
      let l = name.0.lexeme in
      let p = call_goes l f left es right v t k kept (begun ∙ ap (option_map (call_of l)) declared) h in
      record {
        state = p.state;
        goes = p.goes;
        same = p.same;
        calls = function_call fs l name.1 s f (arguments_tree es) name.2 (ap (λ k. k.functions) q ∙ known) declared sane p.fits;
      }

  primitive_past : (name : OfPrimitive) (left : OfFixed fix.OpenRound) (es : g.Arguments) (right : OfFixed fix.CloseRound) (v : Spelled)
      (s t : State) (f : Signature) → called name.0.lexeme s ≡ Some f
      → kept_of t ≡ k → t.call ≡ option_map (call_of name.0.lexeme) (called name.0.lexeme s) → Goes (Rest left es right v) t
      → Past v (is_call_in (text_of name.1) (arguments_tree es))
  primitive_past name left es right v s t f declared kept begun h =
      let l = name.0.lexeme in
      let p = call_goes l f left es right v t k kept (begun ∙ ap (option_map (call_of l)) declared) h in
      record {
        state = p.state;
        goes = p.goes;
        same = p.same;
        calls = primitive_call fs l name.1 s f (arguments_tree es) name.2 declared p.fits;
      }

  plain_call : (c : g.Call) (v : Spelled) (s : State) → kept_of s ≡ k → Goes (w.call r.Callee c v) s → Past v (call_fits c)
  plain_call (g.call (g.function name) left es right) v s q (step, h) =
      let d = plainly (called name.0.lexeme s) step.ruled in
      function_past name left es right v s (after_token r.Callee name.0.lexeme s) d.0 q step.sane d.1 q refl h
  plain_call (g.call (g.primitive name) left es right) v s q (step, h) =
      let d = plainly (called name.0.lexeme s) step.ruled in
      primitive_past name left es right v s (after_token r.Callee name.0.lexeme s) d.0 d.1 q refl h

  giving_call : (c : g.Call) (v : Spelled) (s : State) → kept_of s ≡ k → Goes (w.call r.GivingCallee c v) s → Past v (call_fits c)
  giving_call (g.call (g.function name) left es right) v s q (step, h) =
      let d = giving (called name.0.lexeme s) step.ruled in
      function_past name left es right v s (after_token r.GivingCallee name.0.lexeme s) d.0 q step.sane d.1 q refl h
  giving_call (g.call (g.primitive name) left es right) v s q (step, h) =
      let d = giving (called name.0.lexeme s) step.ruled in
      primitive_past name left es right v s (after_token r.GivingCallee name.0.lexeme s) d.0 d.1 q refl h

  call_calls : (to : Option Word) (c : g.Call) → call_fits c ≡ true → calls_among fs (call_tree to c) ≡ true
  call_calls to (g.call callee left es right) e = calls-Call fs to (callee_name callee) (arguments_tree es) ∙ e

  -- ---- statements

  mutual
    pub stmts_past : (ss : g.Stmts) (v : Spelled) (s : State) → kept_of s ≡ k → Goes (w.stmts ss v) s → Past v (all_among fs (stmts_tree ss))
    stmts_past g.no_more v s q h = record { state = s; goes = h; same = q; calls = refl }
    stmts_past (g.then one ss) v s q h =
        let p = stmt_past one (w.stmts ss v) s q h in
        let rest = stmts_past ss v p.state p.same p.goes in
        record {
          state = rest.state;
          goes = rest.goes;
          same = rest.same;
          calls = both_true (calls_among fs (stmt_tree one)) (all_among fs (stmts_tree ss)) p.calls rest.calls;
        }

    stmt_past : (one : g.Stmt) (v : Spelled) (s : State) → kept_of s ≡ k → Goes (w.stmt one v) s → Past v (calls_among fs (stmt_tree one))
    stmt_past (g.set target sign value semicolon) v s q (a, (b, h)) =
        let t = after_token r.Plain sign.0.lexeme (after_token r.Target target.0.lexeme s) in
        let p = value_past value (Read semicolon.0 r.Plain ∷ Did m.Set ∷ v) t q h in
        record {
          state = after_mark m.Set (after_token r.Plain semicolon.0.lexeme p.state);
          goes = p.goes.1;
          same = p.same;
          calls = calls-Set fs target.1 (x.or_tree value);
        }
    stmt_past (g.set_call target sign value semicolon) v s q (a, (b, h)) =
        let t = after_mark m.Fresh (after_token r.Plain sign.0.lexeme (after_token r.Target target.0.lexeme s)) in
        let p = giving_call value (Read semicolon.0 r.Plain ∷ Did m.SetCall ∷ v) t q h in
        record {
          state = after_mark m.SetCall (after_token r.Plain semicolon.0.lexeme p.state);
          goes = p.goes.1;
          same = p.same;
          calls = call_calls (Some target.1) value p.calls;
        }
    stmt_past (g.store array left index right sign value semicolon) v s q (a, (b, h)) =
        let t = after_token r.Open left.0.lexeme (after_token r.TargetArray array.0.lexeme s) in
        let behind = Read semicolon.0 r.Plain ∷ Did m.Store ∷ v in
        let p = value_past index (Read right.0 r.Close ∷ Read sign.0 r.Plain ∷ Did m.Fresh ∷ x.or value behind) t q h in
        let u = after_token r.Plain sign.0.lexeme (after_token r.Close right.0.lexeme p.state) in
        let z = value_past value behind u p.same p.goes.1.1 in
        record {
          state = after_mark m.Store (after_token r.Plain semicolon.0.lexeme z.state);
          goes = z.goes.1;
          same = z.same;
          calls = calls-Store fs array.1 (x.or_tree index) (x.or_tree value);
        }
    stmt_past (g.do_call c semicolon) v s q h =
        let p = plain_call c (Read semicolon.0 r.Plain ∷ Did m.Call ∷ v) s q h in
        record {
          state = after_mark m.Call (after_token r.Plain semicolon.0.lexeme p.state);
          goes = p.goes.1;
          same = p.same;
          calls = call_calls None c p.calls;
        }
    stmt_past (g.when word left test right body) v s q (a, h) =
        let p = test_past left test right (w.block body (Did m.If ∷ v)) (after_token r.Plain word.0.lexeme s) q h in
        let b = block_past body (Did m.If ∷ v) p.state p.same p.goes in
        record {
          state = after_mark m.If b.state;
          goes = b.goes;
          same = b.same;
          calls = calls-When fs (x.or_tree test) (block_tree body) ∙ both_true (all_among fs (block_tree body)) true b.calls refl;
        }
    stmt_past (g.choose word left test right body else_word others) v s q (a, h) =
        let behind = Did m.IfElse ∷ v in
        let middle = Read else_word.0 r.Plain ∷ w.block others behind in
        let p = test_past left test right (w.block body middle) (after_token r.Plain word.0.lexeme s) q h in
        let b = block_past body middle p.state p.same p.goes in
        let z = block_past others behind (after_token r.Plain else_word.0.lexeme b.state) b.same b.goes.1 in
        record {
          state = after_mark m.IfElse z.state;
          goes = z.goes;
          same = z.same;
          calls = calls-Choose fs (x.or_tree test) (block_tree body) (block_tree others)
              ∙ both_true (all_among fs (block_tree body)) (all_among fs (block_tree others)) b.calls z.calls;
        }
    stmt_past (g.loop word left test right body) v s q (a, h) =
        let p = test_past left test right (w.block body (Did m.While ∷ v)) (after_token r.Plain word.0.lexeme s) q h in
        let b = block_past body (Did m.While ∷ v) p.state p.same p.goes in
        record {
          state = after_mark m.While b.state;
          goes = b.goes;
          same = b.same;
          calls = calls-While fs (x.or_tree test) (block_tree body) ∙ b.calls;
        }
    stmt_past (g.switch word left on right brace xs default_word colon otherwise break_word semicolon brace') v s q (a, h) =
        let last = Read break_word.0 r.Plain ∷ Read semicolon.0 r.Plain ∷ Read brace'.0 r.CloseCases ∷ Did m.Switch ∷ v in
        let middle = Read default_word.0 r.Plain ∷ Read colon.0 r.Plain ∷ w.block otherwise last in
        let p = test_past left on right (Read brace.0 r.OpenCases ∷ Did m.Cases ∷ w.cases xs middle)
        (after_token r.Plain word.0.lexeme s) q h in
        let c = cases_past xs middle (after_mark m.Cases (after_token r.OpenCases brace.0.lexeme p.state)) p.same p.goes.1 in
        let t = after_token r.Plain colon.0.lexeme (after_token r.Plain default_word.0.lexeme c.state) in
        let z = block_past otherwise last t c.same c.goes.1.1 in
        let u = after_token r.Plain semicolon.0.lexeme (after_token r.Plain break_word.0.lexeme z.state) in
        record {
          state = after_mark m.Switch (after_token r.CloseCases brace'.0.lexeme u);
          goes = z.goes.1.1.1;
          same = z.same;
          calls = calls-Switch fs (x.or_tree on) (cases_tree xs) (block_tree otherwise)
              ∙ both_true (list_all (case_among fs) (cases_tree xs)) (all_among fs (block_tree otherwise)) c.calls z.calls;
        }
    stmt_past (g.return word semicolon) v s q (a, (b, h)) =
        let t = after_mark m.Fresh (after_token r.Plain word.0.lexeme s) in
        record {
          state = after_mark m.Return (after_token r.EndReturn semicolon.0.lexeme t);
          goes = h;
          same = q;
          calls = calls-Return fs None;
        }
    stmt_past (g.return_value word value semicolon) v s q (a, h) =
        let p = value_past value (Read semicolon.0 r.EndValueReturn ∷ Did m.ValueReturn ∷ v) (after_token r.Plain word.0.lexeme s) q h in
        record {
          state = after_mark m.ValueReturn (after_token r.EndValueReturn semicolon.0.lexeme p.state);
          goes = p.goes.1;
          same = p.same;
          calls = calls-Return fs (Some (x.or_tree value));
        }

    block_past : (b : g.Block) (v : Spelled) (s : State) → kept_of s ≡ k → Goes (w.block b v) s → Past v (all_among fs (block_tree b))
    block_past (g.block brace ss brace') v s q (a, h) =
        let t = after_mark m.Statements (after_token r.Open brace.0.lexeme s) in
        let p = stmts_past ss (Read brace'.0 r.Close ∷ v) t q h in
        record { state = after_token r.Close brace'.0.lexeme p.state; goes = p.goes.1; same = p.same; calls = p.calls }

    cases_past : (xs : g.Cases) (v : Spelled) (s : State) → kept_of s ≡ k → Goes (w.cases xs v) s
        → Past v (list_all (case_among fs) (cases_tree xs))
    cases_past g.no_case v s q h = record { state = s; goes = h; same = q; calls = refl }
    cases_past (g.next_case word numeral colon body break_word semicolon xs) v s q (a, (b, (c, h))) =
        let last = Read break_word.0 r.Plain ∷ Read semicolon.0 r.Plain ∷ Did m.Case ∷ w.cases xs v in
        let t = after_token r.CaseNumber numeral.0.lexeme (after_token r.Plain word.0.lexeme s) in
        let p = block_past body last (after_token r.Plain colon.0.lexeme t) q h in
        let u = after_token r.Plain semicolon.0.lexeme (after_token r.Plain break_word.0.lexeme p.state) in
        let rest = cases_past xs v (after_mark m.Case u) p.same p.goes.1.1 in
        record {
          state = rest.state;
          goes = rest.goes;
          same = rest.same;
          calls = both_true _ (list_all (case_among fs) (cases_tree xs))
              (calls-Case fs numeral.1 (block_tree body) ∙ p.calls) rest.calls;
        }
