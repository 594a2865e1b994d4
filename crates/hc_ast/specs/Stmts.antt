-- Statements as the grammar has them. Each token has the name that it has in StmtRoles and in StmtTrees.
use Rattle.hc_token.specs.declared.fixed.Fixed.TheVariants as fix
use Rattle.hc_ast.specs.Leaves.{OfFixed, OfName, OfRate}
use Rattle.hc_ast.specs.Exprs.{Expr}
use Rattle.hc_ast.specs.Conds.{Cond}

-- io = NAME "!" expr | NAME "?" NAME
pub data Io : Type 0 where
  send : (channel : OfName) (sign : OfFixed fix.Exclamation) (value : Expr) → Io
  receive : (channel : OfName) (sign : OfFixed fix.Question) (target : OfName) → Io

-- rate = RATE "=" expr
pub data Rate : Type 0 where
  rate : (variable : OfRate) (sign : OfFixed fix.Equal) (value : Expr) → Rate

-- { "," rate }
pub data Rates : Type 0 where
  no_rate : Rates
  next_rate : (comma : OfFixed fix.Comma) (x : Rate) (xs : Rates) → Rates

mutual
  -- seq = stmt { ";" stmt }
  pub data Seq : Type 0 where
    seq : (x : Stmt) (xs : More) → Seq

  pub data More : Type 0 where
    no_more : More
    next : (semicolon : OfFixed fix.Semicolon) (x : Stmt) (xs : More) → More

  -- stmt = "skip" | NAME ":=" expr | "wait" "(" expr ")" | "log" "(" expr ")" | io | "if" cond "then" seq [ "else" seq ] "endif"
  --      | "(" seq ")" ( "++" "(" seq ")" | "**" | "{" cond "}" "**" ) | choice | "<" rate { "," rate } "&" cond ">" [ "|>" choice ]
  pub data Stmt : Type 0 where
    skip : (word : OfFixed fix.Skip) → Stmt
    assign : (target : OfName) (sign : OfFixed fix.ColonEqual) (value : Expr) → Stmt
    wait : (word : OfFixed fix.Wait) (left : OfFixed fix.OpenRound) (time : Expr) (right : OfFixed fix.CloseRound) → Stmt
    log : (word : OfFixed fix.Log) (left : OfFixed fix.OpenRound) (value : Expr) (right : OfFixed fix.CloseRound) → Stmt
    communicate : (i : Io) → Stmt
    when : (word : OfFixed fix.If) (test : Cond) (then_word : OfFixed fix.Then) (body : Seq) (end_word : OfFixed fix.EndIf) → Stmt
    choose : (word : OfFixed fix.If) (test : Cond) (then_word : OfFixed fix.Then) (body : Seq)
        (else_word : OfFixed fix.Else) (other : Seq) (end_word : OfFixed fix.EndIf) → Stmt
    pick : (left : OfFixed fix.OpenRound) (first : Seq) (right : OfFixed fix.CloseRound) (sign : OfFixed fix.PlusPlus)
        (left' : OfFixed fix.OpenRound) (second : Seq) (right' : OfFixed fix.CloseRound) → Stmt
    forever : (left : OfFixed fix.OpenRound) (body : Seq) (right : OfFixed fix.CloseRound) (stars : OfFixed fix.StarStar) → Stmt
    loop : (left : OfFixed fix.OpenRound) (body : Seq) (right : OfFixed fix.CloseRound)
        (brace : OfFixed fix.OpenCurly) (test : Cond) (brace' : OfFixed fix.CloseCurly) (stars : OfFixed fix.StarStar) → Stmt
    select : (c : Choice) → Stmt
    evolve : (less : OfFixed fix.Less) (x : Rate) (xs : Rates) (sign : OfFixed fix.And) (domain : Cond) (greater : OfFixed fix.Greater)
        (i : Interrupt) → Stmt

  -- [ "|>" choice ]
  pub data Interrupt : Type 0 where
    none : Interrupt
    on : (sign : OfFixed fix.BarGreater) (c : Choice) → Interrupt

  -- choice = "[]" "(" branch { "," branch } ")"
  pub data Choice : Type 0 where
    choice : (box : OfFixed fix.EmptySquare) (left : OfFixed fix.OpenRound) (x : Branch) (xs : Branches) (right : OfFixed fix.CloseRound) → Choice

  -- { "," branch }
  pub data Branches : Type 0 where
    no_other : Branches
    other : (comma : OfFixed fix.Comma) (x : Branch) (xs : Branches) → Branches

  -- branch = io "-->" seq
  pub data Branch : Type 0 where
    branch : (i : Io) (arrow : OfFixed fix.Arrow) (body : Seq) → Branch
