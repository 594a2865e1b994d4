-- Whole sources as the grammar has them. Each token has the name that it has in SourceRoles and in SourceTrees.
use Rattle.std.specs.Prelude.{Option, Some, None}
use Rattle.hc_token.specs.declared.kind.Kind.{Kind}
use Rattle.hc_token.specs.declared.fixed.Fixed.TheVariants as fix
use Rattle.hc_token.specs.declared.kind.Kind.TheVariants as k
use Rattle.hc_ast.specs.declared.tree.ParamKind.{ParamKind}
use Rattle.hc_ast.specs.declared.tree.ParamKind.TheVariants as p
use Rattle.hc_ast.specs.Leaves.{OfFixed, OfName, OfEnd, OfSign}
use Rattle.hc_ast.specs.Exprs.{Expr}
use Rattle.hc_ast.specs.Stmts.{Seq}

-- what the word before a parameter says
abbrev pub param_kind : Kind → Option ParamKind
param_kind (k.Fixed fix.Ch) = Some p.Channel
param_kind (k.Fixed fix.Val) = Some p.Value
param_kind _ = None

-- param = ( "ch" | "val" ) NAME
pub data Param : Type 0 where
  param : (word : OfSign param_kind) (name : OfName) → Param

-- { "," param }
pub data MoreParams : Type 0 where
  no_param : MoreParams
  next_param : (comma : OfFixed fix.Comma) (x : Param) (xs : MoreParams) → MoreParams

-- [ param { "," param } ]
pub data Params : Type 0 where
  none : Params
  some : (x : Param) (xs : MoreParams) → Params

-- module = "module" NAME "(" [ param { "," param } ] ")" ":" "begin" seq "end" "endmodule"
pub data Module : Type 0 where
  module_of : (word : OfFixed fix.Module) (name : OfName) (left : OfFixed fix.OpenRound) (ps : Params)
      (right : OfFixed fix.CloseRound) (colon : OfFixed fix.Colon) (begin_word : OfFixed fix.Begin) (ss : Seq)
      (end_word : OfFixed fix.EndBody) (last_word : OfFixed fix.EndModule) → Module

-- { "," expr }
pub data MoreArguments : Type 0 where
  no_argument : MoreArguments
  next_argument : (comma : OfFixed fix.Comma) (x : Expr) (xs : MoreArguments) → MoreArguments

-- [ expr { "," expr } ]
pub data Arguments : Type 0 where
  without : Arguments
  with : (x : Expr) (xs : MoreArguments) → Arguments

-- process = NAME "=" ( "(" seq ")" | NAME "(" [ expr { "," expr } ] ")" )
pub data Process : Type 0 where
  inline : (name : OfName) (sign : OfFixed fix.Equal) (left : OfFixed fix.OpenRound) (ss : Seq) (right : OfFixed fix.CloseRound) → Process
  call : (name : OfName) (sign : OfFixed fix.Equal) (callee : OfName) (left : OfFixed fix.OpenRound) (values : Arguments)
      (right : OfFixed fix.CloseRound) → Process

-- { "||" process }
pub data Processes : Type 0 where
  no_process : Processes
  next_process : (bars : OfFixed fix.BarBar) (x : Process) (xs : Processes) → Processes

-- source = { module } system, system = "system" process { "||" process } "endsystem"
pub data Source : Type 0 where
  after_module : (x : Module) (xs : Source) → Source
  system : (word : OfFixed fix.System) (x : Process) (xs : Processes) (end_word : OfFixed fix.EndSystem) → Source

-- a source, and then the end of the text
pub data Whole : Type 0 where
  whole : (x : Source) (last : OfEnd) → Whole
