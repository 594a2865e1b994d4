-- What a tree says, without places: plain data.
use Rattle.std.specs.Prelude.{ℕ, ℤ, List}
use Rattle.hc_ast.specs.declared.expr.Op.{Op}
use Rattle.hc_ast.specs.declared.expr.Comparison.{Comparison}
use Rattle.hc_ast.specs.declared.tree.ParamKind.{ParamKind}

-- the bytes of a word
abbrev pub Word : Type 0
Word = List ℕ

-- an expression; a number is its digits as one number, and how many of them stand behind the point
pub data BareExpr : Type 0 where
  number : ℤ → ℕ → BareExpr
  name : Word → BareExpr
  neg : BareExpr → BareExpr
  binary : Op → BareExpr → BareExpr → BareExpr

-- a condition
pub data BareCond : Type 0 where
  always : BareCond
  never : BareCond
  compare : Comparison → BareExpr → BareExpr → BareCond
  negation : BareCond → BareCond
  both : BareCond → BareCond → BareCond
  either : BareCond → BareCond → BareCond

-- a communication
pub data BareIo : Type 0 where
  send : Word → BareExpr → BareIo
  receive : Word → Word → BareIo

-- a variable and its rate
pub record BareRate : Type 0 where
  pub variable : Word
  pub value : BareExpr

mutual
  -- a statement; `when` has no else part, and `choose` has one
  pub data BareStmt : Type 0 where
    skip : BareStmt
    assign : Word → BareExpr → BareStmt
    wait : BareExpr → BareStmt
    io : BareIo → BareStmt
    log : BareExpr → BareStmt
    when : BareCond → BareStmts → BareStmt
    choose : BareCond → BareStmts → BareStmts → BareStmt
    pick : BareStmts → BareStmts → BareStmt
    forever : BareStmts → BareStmt
    loop : BareCond → BareStmts → BareStmt
    choice : BareBranches → BareStmt
    evolve : List BareRate → BareCond → BareBranches → BareStmt

  -- statements one after another
  pub data BareStmts : Type 0 where
    no_more : BareStmts
    then : BareStmt → BareStmts → BareStmts

  -- communications, each with the statements that follow it
  pub data BareBranches : Type 0 where
    no_other : BareBranches
    or_else : BareIo → BareStmts → BareBranches → BareBranches

pub record BareParam : Type 0 where
  pub kind : ParamKind
  pub name : Word

pub record BareModule : Type 0 where
  pub name : Word
  pub params : List BareParam
  pub body : BareStmts

pub data BareBody : Type 0 where
  inline : BareStmts → BareBody
  call : Word → List BareExpr → BareBody

pub record BareProcess : Type 0 where
  pub name : Word
  pub body : BareBody

pub record BareTree : Type 0 where
  pub modules : List BareModule
  pub processes : List BareProcess
