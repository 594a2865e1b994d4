-- What is built along a unit is its program: statements.
use Rattle.std.proofs.Common.{◌≡◌, refl, ap, sym, ◌∙◌, List, [], ◌∷◌, ◌++◌, append_assoc}
use Rattle.std.proofs.lemmas.List.{append-nil}
use Rattle.hc_grammar.specs.Texts.{Read, Did}
use Rattle.hc_cast.specs.declared.expr.CExpr.{CExpr}
use Rattle.hc_cast.specs.declared.stmt.CStmt.{CStmt}
use Rattle.hc_cast.specs.declared.stmt.CCase.{CCase, roll-CCase}
use Rattle.hc_ctoken.specs.declared.token.Lexeme.{Lexeme}
use Rattle.hc_cgrammar.specs.declared.role.Role.{Role}
use Rattle.hc_cgrammar.specs.declared.role.Role.TheVariants as r
use Rattle.hc_cgrammar.specs.declared.role.Mark.TheVariants as m
use Rattle.hc_cgrammar.specs.Leaves.{Spelled}
use Rattle.hc_cgrammar.specs.Exprs as ex
use Rattle.hc_cgrammar.specs.Stmts as st
use Rattle.hc_cgrammar.specs.StmtRoles as spell
use Rattle.hc_cgrammar.specs.StmtTrees as tree
use Rattle.hc_cread.specs.declared.values.Values.{Values}
use Rattle.hc_cread.specs.Builder.{push_expr, push_name, push_number, push_arguments, push_body, push_cases, named, at_token}
use Rattle.hc_cread.proofs.Built.{W, named_array, named_local, numbered_so, built_or}

-- one more in front of the others
pub one_more : {X : Type 0} (xs : List X) (y : X) (ys : List X) → (xs ++ y ∷ []) ++ ys ≡ xs ++ y ∷ ys
one_more xs y ys = append_assoc xs (y ∷ []) ys

-- a role in which a name is kept
abbrev Keeps : Role → Type 0
Keeps role = (l : Lexeme) (v : Values) → at_token role l v ≡ named l v

built_callee : (role : Role) → Keeps role → (f : st.Callee) (w : Spelled) (v : Values)
    → W (spell.callee role f w) v ≡ W w (push_name (tree.callee_name f) v)
built_callee role keeps (st.function name) w v = ap (W w) (keeps name.0.lexeme v) ∙ ap (λ l. W w (named l v)) name.2
built_callee role keeps (st.primitive name) w v = ap (W w) (keeps name.0.lexeme v) ∙ ap (λ l. W w (named l v)) name.2

built_more_arguments : (xs : st.MoreArguments) (es : List CExpr) (w : Spelled) (v : Values)
    → W (spell.more_arguments xs w) (push_arguments es v) ≡ W w (push_arguments (es ++ tree.more_arguments_tree xs) v)
built_more_arguments st.no_argument es w v = ap (λ fs. W w (push_arguments fs v)) (sym (append-nil es))
built_more_arguments (st.next_argument comma x xs) es w v =
    built_or x (Did m.Argument ∷ spell.more_arguments xs w) (push_arguments es v)
    ∙ built_more_arguments xs (es ++ ex.or_tree x ∷ []) w v
    ∙ ap (λ fs. W w (push_arguments fs v)) (one_more es (ex.or_tree x) (tree.more_arguments_tree xs))

built_arguments : (xs : st.Arguments) (w : Spelled) (v : Values)
    → W (spell.arguments xs w) (push_arguments [] v) ≡ W w (push_arguments (tree.arguments_tree xs) v)
built_arguments st.without w v = refl
built_arguments (st.with x xs) w v =
    built_or x (Did m.Argument ∷ spell.more_arguments xs w) (push_arguments [] v)
    ∙ built_more_arguments xs (ex.or_tree x ∷ []) w v

-- what a call leaves on the stacks
abbrev callee_of : st.Call → st.Callee
callee_of (st.call f left xs right) = f

abbrev arguments_of : st.Call → st.Arguments
arguments_of (st.call f left xs right) = xs

abbrev with_call : st.Call → Values → Values
with_call c v = push_arguments (tree.arguments_tree (arguments_of c)) (push_name (tree.callee_name (callee_of c)) v)

built_call : (role : Role) → Keeps role → (c : st.Call) (w : Spelled) (v : Values) → W (spell.call role c w) v ≡ W w (with_call c v)
built_call role keeps (st.call f left xs right) w v =
    let rest = Read right.0 r.CloseArguments ∷ w in
    built_callee role keeps f (Read left.0 r.OpenArguments ∷ Did m.Fresh ∷ spell.arguments xs rest) v
    ∙ built_arguments xs rest (push_name (tree.callee_name f) v)

mutual
  pub built_stmts : (ss : st.Stmts) (xs : List CStmt) (w : Spelled) (v : Values)
      → W (spell.stmts ss w) (push_body xs v) ≡ W w (push_body (xs ++ tree.stmts_tree ss) v)
  built_stmts st.no_more xs w v = ap (λ ys. W w (push_body ys v)) (sym (append-nil xs))
  built_stmts (st.then x ss) xs w v =
      built_stmt x xs (spell.stmts ss w) v ∙ built_stmts ss (xs ++ tree.stmt_tree x ∷ []) w v
      ∙ ap (λ ys. W w (push_body ys v)) (one_more xs (tree.stmt_tree x) (tree.stmts_tree ss))

  built_stmt : (x : st.Stmt) (xs : List CStmt) (w : Spelled) (v : Values)
      → W (spell.stmt x w) (push_body xs v) ≡ W w (push_body (xs ++ tree.stmt_tree x ∷ []) v)
  built_stmt (st.set target sign value semicolon) xs w v =
      let rest = Read semicolon.0 r.Plain ∷ Did m.Set ∷ w in
      named_local target (Read sign.0 r.Plain ∷ Did m.Fresh ∷ ex.or value rest) (push_body xs v)
      ∙ built_or value rest (push_name target.1 (push_body xs v))
  built_stmt (st.set_call target sign (st.call f left ys right) semicolon) xs w v =
      let rest = Read semicolon.0 r.Plain ∷ Did m.SetCall ∷ w in
      let c = st.call f left ys right in
      named_local target (Read sign.0 r.Plain ∷ Did m.Fresh ∷ spell.call r.GivingCallee c rest) (push_body xs v)
      ∙ built_call r.GivingCallee (λ l v. refl) c rest (push_name target.1 (push_body xs v))
  built_stmt (st.store array left index right sign value semicolon) xs w v =
      let end = Read semicolon.0 r.Plain ∷ Did m.Store ∷ w in
      let rest = Read right.0 r.Close ∷ Read sign.0 r.Plain ∷ Did m.Fresh ∷ ex.or value end in
      let v1 = push_name array.1 (push_body xs v) in
      named_array array (Read left.0 r.Open ∷ Did m.Fresh ∷ ex.or index rest) (push_body xs v)
      ∙ built_or index rest v1
      ∙ built_or value end (push_expr (ex.or_tree index) v1)
  built_stmt (st.do_call (st.call f left ys right) semicolon) xs w v =
      built_call r.Callee (λ l v. refl) (st.call f left ys right) (Read semicolon.0 r.Plain ∷ Did m.Call ∷ w) (push_body xs v)
  built_stmt (st.when word left test right body) xs w v =
      let end = Did m.If ∷ w in
      built_or test (Read right.0 r.Close ∷ spell.block body end) (push_body xs v)
      ∙ built_block body end (push_expr (ex.or_tree test) (push_body xs v))
  built_stmt (st.choose word left test right body else_word other) xs w v =
      let end = Did m.IfElse ∷ w in
      let rest = Read else_word.0 r.Plain ∷ spell.block other end in
      let v1 = push_expr (ex.or_tree test) (push_body xs v) in
      built_or test (Read right.0 r.Close ∷ spell.block body rest) (push_body xs v)
      ∙ built_block body rest v1
      ∙ built_block other end (push_body (tree.block_tree body) v1)
  built_stmt (st.loop word left test right body) xs w v =
      let end = Did m.While ∷ w in
      built_or test (Read right.0 r.Close ∷ spell.block body end) (push_body xs v)
      ∙ built_block body end (push_expr (ex.or_tree test) (push_body xs v))
  built_stmt (st.switch word left on right brace cs default_word colon otherwise break_word semicolon brace') xs w v =
      let end = Read break_word.0 r.Plain ∷ Read semicolon.0 r.Plain ∷ Read brace'.0 r.CloseCases ∷ Did m.Switch ∷ w in
      let rest = Read default_word.0 r.Plain ∷ Read colon.0 r.Plain ∷ spell.block otherwise end in
      let v1 = push_expr (ex.or_tree on) (push_body xs v) in
      built_or on (Read right.0 r.Close ∷ Read brace.0 r.OpenCases ∷ Did m.Cases ∷ spell.cases cs rest) (push_body xs v)
      ∙ built_cases cs [] rest v1
      ∙ built_block otherwise end (push_cases (tree.cases_tree cs) v1)
  built_stmt (st.return word semicolon) xs w v = refl
  built_stmt (st.return_value word value semicolon) xs w v =
      built_or value (Read semicolon.0 r.EndValueReturn ∷ Did m.ValueReturn ∷ w) (push_body xs v)

  built_block : (b : st.Block) (w : Spelled) (v : Values) → W (spell.block b w) v ≡ W w (push_body (tree.block_tree b) v)
  built_block (st.block brace ss brace') w v = built_stmts ss [] (Read brace'.0 r.Close ∷ w) v

  built_cases : (cs : st.Cases) (xs : List CCase) (w : Spelled) (v : Values)
      → W (spell.cases cs w) (push_cases xs v) ≡ W w (push_cases (xs ++ tree.cases_tree cs) v)
  built_cases st.no_case xs w v = ap (λ ys. W w (push_cases ys v)) (sym (append-nil xs))
  built_cases (st.next_case word numeral colon body break_word semicolon cs) xs w v =
      let end = Read break_word.0 r.Plain ∷ Read semicolon.0 r.Plain ∷ Did m.Case ∷ spell.cases cs w in
      let here = roll-CCase (record { number = numeral.1; body = tree.block_tree body }) in
      numbered_so numeral (Read colon.0 r.Plain ∷ spell.block body end) (push_cases xs v)
      ∙ built_block body end (push_number numeral.1 (push_cases xs v))
      ∙ built_cases cs (xs ++ here ∷ []) w v
      ∙ ap (λ ys. W w (push_cases ys v)) (one_more xs here (tree.cases_tree cs))
