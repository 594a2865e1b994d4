-- The program that is built along a unit, by parts that wait on stacks for the part that holds them.
use Rattle.std.specs.Prelude.{ℤ, Bool, true, false, List, [], ◌∷◌, ◌++◌, Some, None}
use Rattle.hc_grammar.specs.Reader.{Walk}
use Rattle.hc_cast.specs.Primitives.{text_of}
use Rattle.hc_cast.specs.declared.expr.COp.{COp}
use Rattle.hc_cast.specs.declared.expr.COp.TheVariants as op
use Rattle.hc_cast.specs.declared.expr.CExpr.{CExpr}
use Rattle.hc_cast.specs.declared.expr.CExpr.TheVariants as e
use Rattle.hc_cast.specs.declared.stmt.CStmt.{CStmt}
use Rattle.hc_cast.specs.declared.stmt.CStmt.TheVariants as s
use Rattle.hc_cast.specs.declared.stmt.CCase.{CCase, roll-CCase}
use Rattle.hc_cast.specs.declared.program.CProgram.{CProgram}
use Rattle.hc_cast.specs.declared.program.CArray.{CArray}
use Rattle.hc_cast.specs.declared.program.CFunction.{CFunction}
use Rattle.hc_cast.specs.declared.program.CBody.{CBody}
use Rattle.hc_ctoken.specs.declared.fixed.Fixed.{Fixed}
use Rattle.hc_ctoken.specs.declared.fixed.Fixed.TheVariants as fix
use Rattle.hc_ctoken.specs.declared.token.Lexeme.{Lexeme}
use Rattle.hc_ctoken.specs.declared.token.Lexeme.TheVariants as lex
use Rattle.hc_ctoken.specs.declared.token.Token.{Token}
use Rattle.hc_cgrammar.specs.declared.role.Role.{Role}
use Rattle.hc_cgrammar.specs.declared.role.Role.TheVariants as r
use Rattle.hc_cgrammar.specs.declared.role.Mark.{Mark}
use Rattle.hc_cgrammar.specs.declared.role.Mark.TheVariants as m
use Rattle.hc_cgrammar.specs.Leaves.{Word}
use Rattle.hc_cgrammar.specs.UnitTrees.{length_of}
use Rattle.hc_cread.specs.declared.values.Values.{Values}

-- before the first token
abbrev pub blank : Values
blank = record {
  exprs = [];
  signs = [];
  names = [];
  numbers = [];
  gives = [];
  lists = [];
  arguments = [];
  bodies = [];
  cases = [];
  arrays = [];
  channels = [];
  processes = [];
  functions = [];
  threads = [];
}

-- with the top of a stack and what is below it; where there is none, nothing happens
abbrev pub with_top : {X : Type 0} → List X → Values → (X → List X → Values) → Values
with_top [] v f = v
with_top (x ∷ xs) v f = f x xs

-- each of these takes the top of a stack off
abbrev pub take_expr : Values → (CExpr → Values → Values) → Values
take_expr v f = with_top v.exprs v (λ x xs. f x (record v { exprs = xs }))

abbrev pub take_sign : Values → (COp → Values → Values) → Values
take_sign v f = with_top v.signs v (λ x xs. f x (record v { signs = xs }))

abbrev pub take_name : Values → (Word → Values → Values) → Values
take_name v f = with_top v.names v (λ x xs. f x (record v { names = xs }))

abbrev pub take_number : Values → (ℤ → Values → Values) → Values
take_number v f = with_top v.numbers v (λ x xs. f x (record v { numbers = xs }))

abbrev pub take_gives : Values → (Bool → Values → Values) → Values
take_gives v f = with_top v.gives v (λ x xs. f x (record v { gives = xs }))

abbrev pub take_list : Values → (List Word → Values → Values) → Values
take_list v f = with_top v.lists v (λ x xs. f x (record v { lists = xs }))

abbrev pub take_arguments : Values → (List CExpr → Values → Values) → Values
take_arguments v f = with_top v.arguments v (λ x xs. f x (record v { arguments = xs }))

abbrev pub take_body : Values → (List CStmt → Values → Values) → Values
take_body v f = with_top v.bodies v (λ x xs. f x (record v { bodies = xs }))

abbrev pub take_cases : Values → (List CCase → Values → Values) → Values
take_cases v f = with_top v.cases v (λ x xs. f x (record v { cases = xs }))

-- each of these puts a part where it waits
abbrev pub push_expr : CExpr → Values → Values
push_expr x v = record v { exprs = x ∷ v.exprs }

abbrev pub push_sign : COp → Values → Values
push_sign x v = record v { signs = x ∷ v.signs }

abbrev pub push_name : Word → Values → Values
push_name x v = record v { names = x ∷ v.names }

abbrev pub push_number : ℤ → Values → Values
push_number x v = record v { numbers = x ∷ v.numbers }

abbrev pub push_gives : Bool → Values → Values
push_gives x v = record v { gives = x ∷ v.gives }

abbrev pub push_list : List Word → Values → Values
push_list xs v = record v { lists = xs ∷ v.lists }

abbrev pub push_arguments : List CExpr → Values → Values
push_arguments xs v = record v { arguments = xs ∷ v.arguments }

abbrev pub push_body : List CStmt → Values → Values
push_body xs v = record v { bodies = xs ∷ v.bodies }

abbrev pub push_cases : List CCase → Values → Values
push_cases xs v = record v { cases = xs ∷ v.cases }

-- each of these adds a part to the list on top
abbrev pub add_name : Word → Values → Values
add_name x v = take_list v (λ xs v. push_list (xs ++ x ∷ []) v)

abbrev pub add_argument : CExpr → Values → Values
add_argument x v = take_arguments v (λ xs v. push_arguments (xs ++ x ∷ []) v)

abbrev pub add_stmt : CStmt → Values → Values
add_stmt x v = take_body v (λ xs v. push_body (xs ++ x ∷ []) v)

abbrev pub add_case : CCase → Values → Values
add_case x v = take_cases v (λ xs v. push_cases (xs ++ x ∷ []) v)

-- each of these adds parts of the program
abbrev pub put_arrays : List CArray → Values → Values
put_arrays xs v = record v { arrays = v.arrays ++ xs }

abbrev pub put_channels : List Word → Values → Values
put_channels xs v = record v { channels = v.channels ++ xs }

abbrev pub put_processes : List Word → Values → Values
put_processes xs v = record v { processes = v.processes ++ xs }

abbrev pub put_functions : List CFunction → Values → Values
put_functions xs v = record v { functions = v.functions ++ xs }

abbrev pub put_threads : List CBody → Values → Values
put_threads xs v = record v { threads = v.threads ++ xs }

-- what a sign between two expressions says
abbrev pub op_of : Fixed → COp
op_of fix.BarBar = op.Or
op_of fix.AndAnd = op.And
op_of fix.Less = op.Less
op_of fix.LessEqual = op.AtMost
op_of fix.EqualEqual = op.Equal
op_of fix.NotEqual = op.NotEqual
op_of fix.GreaterEqual = op.AtLeast
op_of fix.Greater = op.Greater
op_of fix.Plus = op.Add
op_of fix.Minus = op.Sub
op_of _ = op.Mul

-- a number or a local in an expression
abbrev pub leaf : Lexeme → Values → Values
leaf (lex.Number n) v = push_expr (e.Number n) v
leaf (lex.Local w) v = push_expr (e.Local w) v
leaf _ v = v

-- a sign between two expressions, a name and a number that the program still needs
abbrev pub signed : Lexeme → Values → Values
signed (lex.Fixed one) v = push_sign (op_of one) v
signed _ v = v

abbrev pub named : Lexeme → Values → Values
named (lex.Array w) v = push_name w v
named (lex.Function w) v = push_name w v
named (lex.Local w) v = push_name w v
named (lex.Primitive p) v = push_name (text_of p) v
named _ v = v

abbrev pub numbered : Lexeme → Values → Values
numbered (lex.Number n) v = push_number n v
numbered _ v = v

-- a parameter or a local that is declared
abbrev pub declared : Lexeme → Values → Values
declared (lex.Local w) v = add_name w v
declared _ v = v

-- a string; an empty one names nothing
abbrev pub channel : Lexeme → Values → Values
channel (lex.Text w) v = put_channels (w ∷ []) v
channel _ v = v

abbrev pub process : Lexeme → Values → Values
process (lex.Text w) v = put_processes (w ∷ []) v
process _ v = v

-- at a token in its role
abbrev pub at_token : Role → Lexeme → Values → Values
at_token r.Number l v = leaf l v
at_token r.Local l v = leaf l v
at_token r.Operator l v = signed l v
at_token r.Element l v = named l v
at_token r.Target l v = named l v
at_token r.TargetArray l v = named l v
at_token r.Callee l v = named l v
at_token r.GivingCallee l v = named l v
at_token r.DeclareArray l v = named l v
at_token r.DeclareGiving l v = named l (push_gives true v)
at_token r.DeclareVoid l v = named l (push_gives false v)
at_token r.DeclareParameter l v = declared l v
at_token r.DeclareLocal l v = declared l v
at_token r.Length l v = numbered l v
at_token r.CaseNumber l v = numbered l v
at_token r.Channel l v = channel l v
at_token r.Process l v = process l v
at_token r.OpenArguments l v = push_arguments [] v
at_token _ l v = v

-- at a mark
abbrev pub at_mark : Mark → Values → Values
at_mark m.Fresh v = v
at_mark m.Negate v = take_expr v (λ x v. push_expr (e.Neg x) v)
at_mark m.Not v = take_expr v (λ x v. push_expr (e.Not x) v)
at_mark m.Element v = take_expr v (λ x v. take_name v (λ w v. push_expr (e.Element w x) v))
at_mark m.Binary v = take_expr v (λ y v. take_expr v (λ x v. take_sign v (λ o v. push_expr (e.Binary o x y) v)))
at_mark m.Array v =
    take_number v (λ n v. take_name v (λ w v.
    let a : CArray = record { name = w; length = length_of n } in
    put_arrays (a ∷ []) v))
at_mark m.Parameters v = push_list [] v
at_mark m.Locals v = push_list [] v
at_mark m.Statements v = push_body [] v
at_mark m.Function v =
    take_body v (λ ss v. take_list v (λ ls v. take_list v (λ ps v. take_gives v (λ g v. take_name v (λ w v.
    let a : CFunction = record { name = w; gives = g; params = ps; body = record { locals = ls; statements = ss } } in
    put_functions (a ∷ []) v)))))
at_mark m.Thread v =
    take_body v (λ ss v. take_list v (λ ls v.
    let a : CBody = record { locals = ls; statements = ss } in
    put_threads (a ∷ []) v))
at_mark m.Argument v = take_expr v (λ x v. add_argument x v)
at_mark m.Set v = take_expr v (λ x v. take_name v (λ w v. add_stmt (s.Set w x) v))
at_mark m.Store v = take_expr v (λ y v. take_expr v (λ x v. take_name v (λ w v. add_stmt (s.Store w x y) v)))
at_mark m.Call v = take_arguments v (λ xs v. take_name v (λ f v. add_stmt (s.Call None f xs) v))
at_mark m.SetCall v = take_arguments v (λ xs v. take_name v (λ f v. take_name v (λ w v. add_stmt (s.Call (Some w) f xs) v)))
at_mark m.If v = take_body v (λ ss v. take_expr v (λ x v. add_stmt (s.If x ss None) v))
at_mark m.IfElse v = take_body v (λ ts v. take_body v (λ ss v. take_expr v (λ x v. add_stmt (s.If x ss (Some ts)) v)))
at_mark m.While v = take_body v (λ ss v. take_expr v (λ x v. add_stmt (s.While x ss) v))
at_mark m.Cases v = push_cases [] v
at_mark m.Case v = take_body v (λ ss v. take_number v (λ n v. add_case (roll-CCase (record { number = n; body = ss })) v))
at_mark m.Switch v = take_body v (λ ss v. take_cases v (λ cs v. take_expr v (λ x v. add_stmt (s.Switch x cs ss) v)))
at_mark m.Return v = add_stmt (s.Return None) v
at_mark m.ValueReturn v = take_expr v (λ x v. add_stmt (s.Return (Some x)) v)

abbrev pub builder : Walk Token Role Mark Values
builder = record { on_token = λ role t v. at_token role t.lexeme v; on_mark = at_mark }

-- the program that the values hold in the end
abbrev pub program_of : Values → CProgram
program_of v = record {
  arrays = v.arrays;
  channels = v.channels;
  processes = v.processes;
  functions = v.functions;
  threads = v.threads;
}
