-- Which calls stand in each form of a statement: one equation for each.
use Rattle.std.proofs.Common.{rules, ◌≡◌, ap, ◌∙◌, Bool, true, ◌&&◌, List, map, Option, Some, None, ℤ}
use Rattle.std.specs.List.{list_all}
use Rattle.std.proofs.lemmas.List.Folds.{list_all-map}
use Rattle.hc_cast.specs.Primitives.{primitive_named}
use Rattle.hc_cast.specs.declared.expr.CExpr.{CExpr}
use Rattle.hc_cast.specs.declared.stmt.CStmt.{CStmt, the_lemmas}
use Rattle.hc_cast.specs.declared.stmt.CStmt.TheVariants as s
use Rattle.hc_cast.specs.declared.stmt.CCase.{CCase, roll-CCase, fold-CCase}
use Rattle.hc_cast.specs.declared.program.CFunction.{CFunction}
use Rattle.hc_cgrammar.specs.Leaves.{Word}
use Rattle.hc_cmach.specs.State.{function_among}
use Rattle.hc_cmach.specs.Calls.{is_call, call_layer, case_layer, calls_among, all_among}

module _ (fs : List CFunction) where
  -- in the statements of a case
  abbrev pub case_among : CCase → Bool
  case_among c = fold-CCase Bool Bool (call_layer fs) case_layer c

  mapped_all : (ss : List CStmt) → list_all (λ b. b) (map (calls_among fs) ss) ≡ all_among fs ss
  mapped_all ss = list_all-map (λ b. b) (calls_among fs) ss

  mapped_cases : (cs : List CCase) → list_all (λ b. b) (map case_among cs) ≡ list_all case_among cs
  mapped_cases cs = list_all-map (λ b. b) case_among cs

  pub calls-Set : (x : Word) (e : CExpr) → calls_among fs (s.Set x e) ≡ true
  calls-Set x e = search (rules, the_lemmas)

  pub calls-Store : (a : Word) (i e : CExpr) → calls_among fs (s.Store a i e) ≡ true
  calls-Store a i e = search (rules, the_lemmas)

  pub calls-Call : (to : Option Word) (w : Word) (es : List CExpr)
      → calls_among fs (s.Call to w es) ≡ is_call (primitive_named w) (function_among w fs) es
  calls-Call to w es = search (rules, the_lemmas)

  pub calls-When : (e : CExpr) (ss : List CStmt) → calls_among fs (s.If e ss None) ≡ (all_among fs ss && true)
  calls-When e ss =
      let h : calls_among fs (s.If e ss None) ≡ (list_all (λ b. b) (map (calls_among fs) ss) && true) = search (rules, the_lemmas) in
      h ∙ ap (λ b. b && true) (mapped_all ss)

  pub calls-Choose : (e : CExpr) (ss rs : List CStmt) → calls_among fs (s.If e ss (Some rs)) ≡ (all_among fs ss && all_among fs rs)
  calls-Choose e ss rs =
      let h : calls_among fs (s.If e ss (Some rs))
      ≡ (list_all (λ b. b) (map (calls_among fs) ss) && list_all (λ b. b) (map (calls_among fs) rs)) = search (rules, the_lemmas) in
      h ∙ ap (λ b. b && list_all (λ b. b) (map (calls_among fs) rs)) (mapped_all ss) ∙ ap (λ b. all_among fs ss && b) (mapped_all rs)

  pub calls-While : (e : CExpr) (ss : List CStmt) → calls_among fs (s.While e ss) ≡ all_among fs ss
  calls-While e ss =
      let h : calls_among fs (s.While e ss) ≡ list_all (λ b. b) (map (calls_among fs) ss) = search (rules, the_lemmas) in
      h ∙ mapped_all ss

  pub calls-Switch : (e : CExpr) (cs : List CCase) (ss : List CStmt)
      → calls_among fs (s.Switch e cs ss) ≡ (list_all case_among cs && all_among fs ss)
  calls-Switch e cs ss =
      let h : calls_among fs (s.Switch e cs ss)
      ≡ (list_all (λ b. b) (map case_among cs) && list_all (λ b. b) (map (calls_among fs) ss)) = search (rules, the_lemmas) in
      h ∙ ap (λ b. b && list_all (λ b. b) (map (calls_among fs) ss)) (mapped_cases cs)
      ∙ ap (λ b. list_all case_among cs && b) (mapped_all ss)

  pub calls-Return : (e : Option CExpr) → calls_among fs (s.Return e) ≡ true
  calls-Return e = search (rules, the_lemmas)

  pub calls-Case : (n : ℤ) (ss : List CStmt) → case_among (roll-CCase (record { number = n; body = ss })) ≡ all_among fs ss
  calls-Case n ss =
      let h : case_among (roll-CCase (record { number = n; body = ss })) ≡ list_all (λ b. b) (map (calls_among fs) ss) =
      search (rules, the_lemmas)
      in
      h ∙ mapped_all ss
