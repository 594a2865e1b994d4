-- Statements as the grammar has them. Each token has the name that it has in StmtRoles and in StmtTrees.
use Rattle.hc_ctoken.specs.declared.fixed.Fixed.TheVariants as fix
use Rattle.hc_cgrammar.specs.Leaves.{OfFixed, OfNumber, OfLocal, OfArray, OfFunction, OfPrimitive}
use Rattle.hc_cgrammar.specs.Exprs.{Or}

-- FNAME | PRIM
pub data Callee : Type 0 where
  function : (name : OfFunction) → Callee
  primitive : (name : OfPrimitive) → Callee

-- { "," or }
pub data MoreArguments : Type 0 where
  no_argument : MoreArguments
  next_argument : (comma : OfFixed fix.Comma) (x : Or) (xs : MoreArguments) → MoreArguments

-- [ or { "," or } ]
pub data Arguments : Type 0 where
  without : Arguments
  with : (x : Or) (xs : MoreArguments) → Arguments

-- call = ( FNAME | PRIM ) "(" [ or { "," or } ] ")"
pub data Call : Type 0 where
  call : (callee : Callee) (left : OfFixed fix.OpenRound) (values : Arguments) (right : OfFixed fix.CloseRound) → Call

mutual
  -- { stmt }
  pub data Stmts : Type 0 where
    no_more : Stmts
    then : (x : Stmt) (xs : Stmts) → Stmts

  -- stmt = VNAME "=" ( or | call ) ";" | ANAME "[" or "]" "=" or ";" | call ";"
  --      | "if" "(" or ")" block [ "else" block ] | "while" "(" or ")" block
  --      | "switch" "(" or ")" "{" { "case" NUM ":" block "break" ";" } "default" ":" block "break" ";" "}"
  --      | "return" [ or ] ";"
  pub data Stmt : Type 0 where
    set : (target : OfLocal) (sign : OfFixed fix.Equal) (value : Or) (semicolon : OfFixed fix.Semicolon) → Stmt
    set_call : (target : OfLocal) (sign : OfFixed fix.Equal) (value : Call) (semicolon : OfFixed fix.Semicolon) → Stmt
    store : (array : OfArray) (left : OfFixed fix.OpenSquare) (index : Or) (right : OfFixed fix.CloseSquare)
        (sign : OfFixed fix.Equal) (value : Or) (semicolon : OfFixed fix.Semicolon) → Stmt
    do_call : (c : Call) (semicolon : OfFixed fix.Semicolon) → Stmt
    when : (word : OfFixed fix.If) (left : OfFixed fix.OpenRound) (test : Or) (right : OfFixed fix.CloseRound) (body : Block) → Stmt
    choose : (word : OfFixed fix.If) (left : OfFixed fix.OpenRound) (test : Or) (right : OfFixed fix.CloseRound) (body : Block)
        (else_word : OfFixed fix.Else) (other : Block) → Stmt
    loop : (word : OfFixed fix.While) (left : OfFixed fix.OpenRound) (test : Or) (right : OfFixed fix.CloseRound) (body : Block) → Stmt
    switch : (word : OfFixed fix.Switch) (left : OfFixed fix.OpenRound) (on : Or) (right : OfFixed fix.CloseRound)
        (brace : OfFixed fix.OpenCurly) (cases : Cases)
        (default_word : OfFixed fix.Default) (colon : OfFixed fix.Colon) (otherwise : Block)
        (break_word : OfFixed fix.Break) (semicolon : OfFixed fix.Semicolon) (brace' : OfFixed fix.CloseCurly) → Stmt
    return : (word : OfFixed fix.Return) (semicolon : OfFixed fix.Semicolon) → Stmt
    return_value : (word : OfFixed fix.Return) (value : Or) (semicolon : OfFixed fix.Semicolon) → Stmt

  -- block = "{" { stmt } "}"
  pub data Block : Type 0 where
    block : (brace : OfFixed fix.OpenCurly) (ss : Stmts) (brace' : OfFixed fix.CloseCurly) → Block

  -- { "case" NUM ":" block "break" ";" }
  pub data Cases : Type 0 where
    no_case : Cases
    next_case : (word : OfFixed fix.Case) (numeral : OfNumber) (colon : OfFixed fix.Colon) (body : Block)
        (break_word : OfFixed fix.Break) (semicolon : OfFixed fix.Semicolon) (xs : Cases) → Cases
