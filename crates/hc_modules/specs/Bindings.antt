-- What the parameters of a module stand for in a call.
use Rattle.std.specs.Prelude.{Bool, true, false, ◌&&◌, nat_eq, List, find, Option, Some, None, unwrap_or}
use Rattle.std.specs.Cmp.Lexicographic.{pointwise}
use Rattle.hc_ast.specs.declared.expr.ExprTree.{ExprTree, fold-ExprTree}
use Rattle.hc_ast.specs.declared.expr.ExprKind.TheOpen.{ExprKind-F}
use Rattle.hc_ast.specs.declared.tree.Param.{Param}
use Rattle.hc_ast.specs.declared.tree.ParamKind.{ParamKind}
use Rattle.hc_ast.specs.declared.tree.ParamKind.TheVariants as p
use Rattle.hc_ast.specs.Bare.{Word}

abbrev pub same_word : Word → Word → Bool
same_word x y = pointwise nat_eq x y

-- each parameter beside the argument that stands for it
abbrev pub Bindings : Type 0
Bindings = List (Param × ExprTree)

abbrev pub is_channel : ParamKind → Bool
is_channel p.Channel = true
is_channel p.Value = false

abbrev pub is_value : ParamKind → Bool
is_value p.Channel = false
is_value p.Value = true

-- whether a parameter is a channel, or a value, of this name
abbrev pub is_channel_of : Word → Param → Bool
is_channel_of x p = is_channel p.kind && same_word p.name x

abbrev pub is_value_of : Word → Param → Bool
is_value_of x p = is_value p.kind && same_word p.name x

-- the name that an expression is, where it is nothing else
abbrev pub bare_layer : ExprKind-F (Option Word) (Option Word) → Option Word
bare_layer (ExprKind-F.Number d) = None
bare_layer (ExprKind-F.Name x) = Some x
bare_layer (ExprKind-F.Neg e) = None
bare_layer (ExprKind-F.Binary op e f) = None

abbrev pub bare_name : ExprTree → Option Word
bare_name e = fold-ExprTree (Option Word) (Option Word) bare_layer (λ t. t.kind) e

abbrev pub argument_of : Option (Param × ExprTree) → Option ExprTree
argument_of None = None
argument_of (Some b) = Some b.1

-- the arguments for a channel x and for a value x, where the module has such a parameter
abbrev pub channel_argument : Bindings → Word → Option ExprTree
channel_argument bs x = argument_of (find (λ b. is_channel_of x b.0) bs)

abbrev pub value_for : Bindings → Word → Option ExprTree
value_for bs x = argument_of (find (λ b. is_value_of x b.0) bs)

-- the channel that an argument names; where none does, it is x itself
abbrev pub named_by : Option ExprTree → Word → Word
named_by None x = x
named_by (Some a) x = unwrap_or (bare_name a) x

-- the channel that x is in a call
abbrev pub channel_for : Bindings → Word → Word
channel_for bs x = named_by (channel_argument bs x) x
