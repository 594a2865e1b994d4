-- The tree that is built along a source, by parts that wait on stacks for the part that holds them.
use Rattle.std.specs.Prelude.{ℕ, List, [], ◌∷◌, ◌++◌, Some, None}
use Rattle.hc_frac.specs.declared.place.Place.{Place}
use Rattle.hc_grammar.specs.Reader.{Walk}
use Rattle.hc_token.specs.declared.fixed.Fixed.{Fixed}
use Rattle.hc_token.specs.declared.fixed.Fixed.TheVariants as fix
use Rattle.hc_token.specs.declared.token.Lexeme.{Lexeme}
use Rattle.hc_token.specs.declared.token.Lexeme.TheVariants as lex
use Rattle.hc_token.specs.declared.token.Token.{Token}
use Rattle.hc_ast.specs.declared.role.Role.{Role}
use Rattle.hc_ast.specs.declared.role.Role.TheVariants as r
use Rattle.hc_ast.specs.declared.role.Mark.{Mark}
use Rattle.hc_ast.specs.declared.role.Mark.TheVariants as m
use Rattle.hc_ast.specs.declared.expr.Op.{Op}
use Rattle.hc_ast.specs.declared.expr.Op.TheVariants as sign
use Rattle.hc_ast.specs.declared.expr.Comparison.{Comparison}
use Rattle.hc_ast.specs.declared.expr.Comparison.TheVariants as how
use Rattle.hc_ast.specs.declared.expr.ExprTree.{ExprTree}
use Rattle.hc_ast.specs.declared.expr.ExprKind.TheVariants as e
use Rattle.hc_ast.specs.declared.expr.CondTree.{CondTree}
use Rattle.hc_ast.specs.declared.expr.CondKind.TheVariants as c
use Rattle.hc_ast.specs.declared.stmt.IoTree.{IoTree}
use Rattle.hc_ast.specs.declared.stmt.IoTree.TheVariants as io_of
use Rattle.hc_ast.specs.declared.stmt.RateTree.{RateTree}
use Rattle.hc_ast.specs.declared.stmt.StmtTree.{StmtTree}
use Rattle.hc_ast.specs.declared.stmt.StmtKind.{StmtKind}
use Rattle.hc_ast.specs.declared.stmt.StmtKind.TheVariants as s
use Rattle.hc_ast.specs.declared.stmt.BranchTree.{BranchTree}
use Rattle.hc_ast.specs.declared.tree.Param.{Param}
use Rattle.hc_ast.specs.declared.tree.ParamKind.{ParamKind}
use Rattle.hc_ast.specs.declared.tree.ParamKind.TheVariants as p
use Rattle.hc_ast.specs.declared.tree.ModuleDef.{ModuleDef}
use Rattle.hc_ast.specs.declared.tree.Body.TheVariants as body
use Rattle.hc_ast.specs.declared.tree.ProcessDef.{ProcessDef}
use Rattle.hc_ast.specs.declared.tree.Tree.{Tree}
use Rattle.hc_ast.specs.Exprs.{expr_at}
use Rattle.hc_ast.specs.Conds.{cond_at}
use Rattle.hc_ast.specs.StmtTrees.{stmt_at, branch_at}
use Rattle.hc_parse.specs.declared.values.Values.{Values}

-- before the first token
abbrev pub blank : Values
blank = record {
  exprs = [];
  conds = [];
  bodies = [];
  choices = [];
  rates = [];
  ios = [];
  fixed = [];
  names = [];
  params = [];
  arguments = [];
  modules = [];
  processes = [];
}

-- with the top of a stack and what is below it; where there is none, nothing happens
abbrev pub with_top : {X : Type 0} → List X → Values → (X → List X → Values) → Values
with_top [] v f = v
with_top (x ∷ xs) v f = f x xs

-- each of these takes the top of a stack off
abbrev pub take_fixed : Values → (Place × Fixed → Values → Values) → Values
take_fixed v f = with_top v.fixed v (λ t ts. f t (record v { fixed = ts }))

abbrev pub take_name : Values → (Place × List ℕ → Values → Values) → Values
take_name v f = with_top v.names v (λ x xs. f x (record v { names = xs }))

abbrev pub take_expr : Values → (ExprTree → Values → Values) → Values
take_expr v f = with_top v.exprs v (λ x xs. f x (record v { exprs = xs }))

abbrev pub take_cond : Values → (CondTree → Values → Values) → Values
take_cond v f = with_top v.conds v (λ x xs. f x (record v { conds = xs }))

abbrev pub take_body : Values → (List StmtTree → Values → Values) → Values
take_body v f = with_top v.bodies v (λ x xs. f x (record v { bodies = xs }))

abbrev pub take_choice : Values → (List BranchTree → Values → Values) → Values
take_choice v f = with_top v.choices v (λ x xs. f x (record v { choices = xs }))

abbrev pub take_rates : Values → (List RateTree → Values → Values) → Values
take_rates v f = with_top v.rates v (λ x xs. f x (record v { rates = xs }))

abbrev pub take_io : Values → (Place × IoTree → Values → Values) → Values
take_io v f = with_top v.ios v (λ x xs. f x (record v { ios = xs }))

-- each of these puts a part where it waits
abbrev pub push_fixed : Place → Fixed → Values → Values
push_fixed p one v = record v { fixed = (p, one) ∷ v.fixed }

abbrev pub push_name : Place → List ℕ → Values → Values
push_name p w v = record v { names = (p, w) ∷ v.names }

abbrev pub push_expr : ExprTree → Values → Values
push_expr x v = record v { exprs = x ∷ v.exprs }

abbrev pub push_cond : CondTree → Values → Values
push_cond x v = record v { conds = x ∷ v.conds }

abbrev pub push_io : Place → IoTree → Values → Values
push_io p i v = record v { ios = (p, i) ∷ v.ios }

abbrev pub push_body : List StmtTree → Values → Values
push_body xs v = record v { bodies = xs ∷ v.bodies }

abbrev pub push_choice : List BranchTree → Values → Values
push_choice xs v = record v { choices = xs ∷ v.choices }

abbrev pub push_rates : List RateTree → Values → Values
push_rates xs v = record v { rates = xs ∷ v.rates }

-- each of these adds a part to the list on top
abbrev pub add_stmt : StmtTree → Values → Values
add_stmt x v = take_body v (λ xs v. push_body (xs ++ x ∷ []) v)

abbrev pub add_branch : BranchTree → Values → Values
add_branch x v = take_choice v (λ xs v. push_choice (xs ++ x ∷ []) v)

abbrev pub add_rate : RateTree → Values → Values
add_rate x v = take_rates v (λ xs v. push_rates (xs ++ x ∷ []) v)

abbrev pub add_process : ProcessDef → Values → Values
add_process x v = record v { processes = v.processes ++ x ∷ [] }

-- what the sign of an expression, a comparison and the word of a parameter say
abbrev pub op_of : Fixed → Op
op_of fix.Plus = sign.Add
op_of fix.Minus = sign.Sub
op_of fix.Star = sign.Mul
op_of _ = sign.Div

abbrev pub comparison_of : Fixed → Comparison
comparison_of fix.Less = how.Less
comparison_of fix.LessEqual = how.AtMost
comparison_of fix.EqualEqual = how.Equal
comparison_of fix.NotEqual = how.NotEqual
comparison_of fix.GreaterEqual = how.AtLeast
comparison_of _ = how.Greater

abbrev pub param_kind_of : Fixed → ParamKind
param_kind_of fix.Ch = p.Channel
param_kind_of _ = p.Value

-- a number, a name, `true` or `false`
abbrev pub leaf : Lexeme → Place → Values → Values
leaf (lex.Number d) p v = push_expr (expr_at p (e.Number d)) v
leaf (lex.Name w) p v = push_expr (expr_at p (e.Name w)) v
leaf (lex.Fixed fix.True) p v = push_cond (cond_at p c.True) v
leaf (lex.Fixed fix.False) p v = push_cond (cond_at p c.False) v
leaf _ p v = v

-- a token that the tree still needs: the name that it says, or which keyword or sign it is
abbrev pub keep : Lexeme → Place → Values → Values
keep (lex.Fixed one) p v = push_fixed p one v
keep (lex.Name w) p v = push_name p w v
keep (lex.Rate w) p v = push_name p w v
keep _ p v = v

-- at a token in its role
abbrev pub at_token : Role → Token → Values → Values
at_token r.Plain t v = v
at_token r.Open t v = v
at_token r.Close t v = v
at_token r.Leaf t v = leaf t.lexeme t.place v
at_token _ t v = keep t.lexeme t.place v

-- a statement at the place of the keyword or sign that was kept
abbrev pub a_statement : StmtKind → Values → Values
a_statement x v = take_fixed v (λ t v. add_stmt (stmt_at t.0 x) v)

-- at a mark
abbrev pub at_mark : Mark → Values → Values
at_mark m.Fresh v = v
at_mark m.Negate v = take_expr v (λ x v. take_fixed v (λ t v. push_expr (expr_at t.0 (e.Neg x)) v))
at_mark m.Binary v =
    take_expr v (λ y v. take_expr v (λ x v. take_fixed v (λ t v. push_expr (expr_at t.0 (e.Binary (op_of t.1) x y)) v)))
at_mark m.Compare v =
    take_expr v (λ y v. take_expr v (λ x v. take_fixed v (λ t v. push_cond (cond_at t.0 (c.Compare (comparison_of t.1) x y)) v)))
at_mark m.Not v = take_cond v (λ x v. take_fixed v (λ t v. push_cond (cond_at t.0 (c.Not x)) v))
at_mark m.And v = take_cond v (λ y v. take_cond v (λ x v. take_fixed v (λ t v. push_cond (cond_at t.0 (c.And x y)) v)))
at_mark m.Or v = take_cond v (λ y v. take_cond v (λ x v. take_fixed v (λ t v. push_cond (cond_at t.0 (c.Or x y)) v)))
at_mark m.Body v = push_body [] v
at_mark m.Skip v = a_statement s.Skip v
at_mark m.Assign v = take_expr v (λ x v. take_name v (λ t v. add_stmt (stmt_at t.0 (s.Assign t.1 x)) v))
at_mark m.Wait v = take_expr v (λ x v. a_statement (s.Wait x) v)
at_mark m.Log v = take_expr v (λ x v. a_statement (s.Log x) v)
at_mark m.Send v = take_expr v (λ x v. take_name v (λ t v. push_io t.0 (io_of.Send t.1 x) v))
at_mark m.Receive v =
    take_name v (λ y v. take_name v (λ t v. push_io t.0 (io_of.Receive t.1 y.1) v))
at_mark m.Io v = take_io v (λ i v. add_stmt (stmt_at i.0 (s.Io i.1)) v)
at_mark m.If v = take_body v (λ xs v. take_cond v (λ x v. a_statement (s.If x xs None) v))
at_mark m.Else v =
    take_body v (λ ys v. take_body v (λ xs v. take_cond v (λ x v. a_statement (s.If x xs (Some ys)) v)))
at_mark m.Pick v = take_body v (λ ys v. take_body v (λ xs v. a_statement (s.Pick xs ys) v))
at_mark m.Forever v = take_body v (λ xs v. a_statement (s.Forever xs) v)
at_mark m.Loop v = take_cond v (λ x v. take_body v (λ xs v. a_statement (s.Loop x xs) v))
at_mark m.Branches v = push_choice [] v
at_mark m.Choice v = take_choice v (λ xs v. a_statement (s.Choice xs) v)
at_mark m.Branch v = take_body v (λ xs v. take_io v (λ i v. add_branch (branch_at i.0 i.1 xs) v))
at_mark m.Rates v = push_choice [] (push_rates [] v)
at_mark m.Rate v =
    take_expr v (λ x v. take_name v (λ t v. add_rate (record { place = t.0; variable = t.1; value = x }) v))
at_mark m.Evolve v =
    take_choice v (λ bs v. take_rates v (λ rs v. take_cond v (λ x v. a_statement (s.Evolve rs x bs) v)))
at_mark m.Params v = record v { params = [] }
at_mark m.Param v =
    take_name v (λ x v. take_fixed v (λ t v.
    let a : Param = record { place = t.0; kind = param_kind_of t.1; name = x.1 } in
    record v { params = v.params ++ a ∷ [] }))
at_mark m.Module v =
    take_body v (λ xs v. take_name v (λ t v.
    let a : ModuleDef = record { place = t.0; name = t.1; params = v.params; body = xs } in
    record v { params = []; modules = v.modules ++ a ∷ [] }))
at_mark m.Arguments v = record v { arguments = [] }
at_mark m.Argument v = take_expr v (λ x v. record v { arguments = v.arguments ++ x ∷ [] })
at_mark m.Inline v =
    take_body v (λ xs v. take_name v (λ t v.
    add_process (record { place = t.0; name = t.1; body = body.Inline xs }) v))
at_mark m.Call v =
    take_name v (λ y v. take_name v (λ t v.
    add_process (record { place = t.0; name = t.1; body = body.Call y.0 y.1 v.arguments })
    (record v { arguments = [] })))

abbrev pub builder : Walk Token Role Mark Values
builder = record { on_token = at_token; on_mark = at_mark }

-- the tree that the values hold in the end
abbrev pub tree_of : Values → Tree
tree_of v = record { modules = v.modules; processes = v.processes }
