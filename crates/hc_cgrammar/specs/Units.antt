-- Units as the grammar has them. Each token has the name that it has in UnitRoles and in UnitTrees.
use Rattle.hc_ctoken.specs.declared.fixed.Fixed.TheVariants as fix
use Rattle.hc_cgrammar.specs.Leaves.{OfFixed, OfZero, OfUnused, OfEnd, OfNumber, OfLocal, OfArray, OfFunction, OfThread, OfText, OfEmpty}
use Rattle.hc_cgrammar.specs.Stmts.{Stmts}

-- array = "static" "int" ANAME "[" NUM "]" ";"
pub data Array : Type 0 where
  array : (static_word : OfFixed fix.Static) (int_word : OfFixed fix.Int) (name : OfArray) (left : OfFixed fix.OpenSquare) (length : OfNumber)
      (right : OfFixed fix.CloseSquare) (semicolon : OfFixed fix.Semicolon) → Array

-- { array }
pub data Arrays : Type 0 where
  no_array : Arrays
  next_array : (x : Array) (xs : Arrays) → Arrays

-- STRING: a name between quotes, or nothing between them
pub data String : Type 0 where
  named : (text : OfText) → String
  empty : (text : OfEmpty) → String

-- { "," STRING }
pub data MoreStrings : Type 0 where
  no_string : MoreStrings
  next_string : (comma : OfFixed fix.Comma) (x : String) (xs : MoreStrings) → MoreStrings

-- names = "const" "char" "*" "const" ("chan_name" | "proc_name") "[" NUM "]" "=" "{" STRING { "," STRING } "}" ";"
-- the first has `chan_name`, the second `proc_name`
pub record Header : Type 0 where
  pub const_word : OfFixed fix.Const
  pub char_word : OfFixed fix.Char
  pub star : OfFixed fix.Star
  pub const_word' : OfFixed fix.Const

pub record Strings : Type 0 where
  pub left : OfFixed fix.OpenSquare
  pub count : OfNumber
  pub right : OfFixed fix.CloseSquare
  pub sign : OfFixed fix.Equal
  pub brace : OfFixed fix.OpenCurly
  pub first : String
  pub others : MoreStrings
  pub brace' : OfFixed fix.CloseCurly
  pub semicolon : OfFixed fix.Semicolon

pub data ChannelNames : Type 0 where
  channel_names : (header : Header) (word : OfFixed fix.ChanName) (strings : Strings) → ChannelNames

pub data ProcessNames : Type 0 where
  process_names : (header : Header) (word : OfFixed fix.ProcName) (strings : Strings) → ProcessNames

-- { "int" VNAME "=" "0" ";" }
pub data Locals : Type 0 where
  no_local : Locals
  next_local : (int_word : OfFixed fix.Int) (name : OfLocal) (sign : OfFixed fix.Equal) (zero : OfZero) (semicolon : OfFixed fix.Semicolon)
      (xs : Locals) → Locals

-- "{" body "}", body = { "int" VNAME "=" "0" ";" } { stmt }
pub data Body : Type 0 where
  body : (brace : OfFixed fix.OpenCurly) (locals : Locals) (ss : Stmts) (brace' : OfFixed fix.CloseCurly) → Body

-- { "," "int" VNAME }
pub data MoreParameters : Type 0 where
  no_parameter : MoreParameters
  next_parameter : (comma : OfFixed fix.Comma) (int_word : OfFixed fix.Int) (name : OfLocal) (xs : MoreParameters) → MoreParameters

-- "void" | "int" VNAME { "," "int" VNAME }
pub data Parameters : Type 0 where
  none : (void_word : OfFixed fix.Void) → Parameters
  some : (int_word : OfFixed fix.Int) (name : OfLocal) (xs : MoreParameters) → Parameters

-- function = "static" ( "int" | "void" ) FNAME "(" ( "void" | "int" VNAME { "," "int" VNAME } ) ")" "{" body "}"
pub data Function : Type 0 where
  giving : (static_word : OfFixed fix.Static) (int_word : OfFixed fix.Int) (name : OfFunction) (left : OfFixed fix.OpenRound) (ps : Parameters)
      (right : OfFixed fix.CloseRound) (b : Body) → Function
  plain : (static_word : OfFixed fix.Static) (void_word : OfFixed fix.Void) (name : OfFunction) (left : OfFixed fix.OpenRound) (ps : Parameters)
      (right : OfFixed fix.CloseRound) (b : Body) → Function

-- { function }
pub data Functions : Type 0 where
  no_function : Functions
  next_function : (x : Function) (xs : Functions) → Functions

-- thread = "static" "void" "*" TNAME "(" "void" "*" "v_u" ")" "{" body "}"
pub data Thread : Type 0 where
  thread : (static_word : OfFixed fix.Static) (void_word : OfFixed fix.Void) (star : OfFixed fix.Star) (name : OfThread)
      (left : OfFixed fix.OpenRound) (void_word' : OfFixed fix.Void) (star' : OfFixed fix.Star) (unused : OfUnused)
      (right : OfFixed fix.CloseRound) (b : Body) → Thread

-- { thread }
pub data MoreThreads : Type 0 where
  no_thread : MoreThreads
  next_thread : (x : Thread) (xs : MoreThreads) → MoreThreads

-- { "," TNAME }
pub data MoreListed : Type 0 where
  no_listed : MoreListed
  next_listed : (comma : OfFixed fix.Comma) (name : OfThread) (xs : MoreListed) → MoreListed

-- table = "static" "void" "*" "(" "*" "const" "hc_threads" "[" NUM "]" ")" "(" "void" "*" ")" "=" "{" TNAME { "," TNAME } "}" ";"
pub record Table : Type 0 where
  pub static_word : OfFixed fix.Static
  pub void_word : OfFixed fix.Void
  pub star : OfFixed fix.Star
  pub left : OfFixed fix.OpenRound
  pub star' : OfFixed fix.Star
  pub const_word : OfFixed fix.Const
  pub word : OfFixed fix.HcThreads
  pub square : OfFixed fix.OpenSquare
  pub count : OfNumber
  pub square' : OfFixed fix.CloseSquare
  pub right : OfFixed fix.CloseRound
  pub left' : OfFixed fix.OpenRound
  pub void_word' : OfFixed fix.Void
  pub star'' : OfFixed fix.Star
  pub right' : OfFixed fix.CloseRound
  pub sign : OfFixed fix.Equal
  pub brace : OfFixed fix.OpenCurly
  pub first : OfThread
  pub others : MoreListed
  pub brace' : OfFixed fix.CloseCurly
  pub semicolon : OfFixed fix.Semicolon

-- main = "int" "main" "(" "void" ")" "{" "return" "hc_main" "(" NUM "," "hc_threads" ")" ";" "}"
pub record Main : Type 0 where
  pub int_word : OfFixed fix.Int
  pub word : OfFixed fix.Main
  pub left : OfFixed fix.OpenRound
  pub void_word : OfFixed fix.Void
  pub right : OfFixed fix.CloseRound
  pub brace : OfFixed fix.OpenCurly
  pub return_word : OfFixed fix.Return
  pub callee : OfFixed fix.HcMain
  pub left' : OfFixed fix.OpenRound
  pub count : OfNumber
  pub comma : OfFixed fix.Comma
  pub threads : OfFixed fix.HcThreads
  pub right' : OfFixed fix.CloseRound
  pub semicolon : OfFixed fix.Semicolon
  pub brace' : OfFixed fix.CloseCurly

-- unit = { array } names names { function } thread { thread } table main, and then the end of the text
pub record Whole : Type 0 where
  pub arrays : Arrays
  pub channels : ChannelNames
  pub processes : ProcessNames
  pub functions : Functions
  pub first : Thread
  pub others : MoreThreads
  pub table : Table
  pub main : Main
  pub last : OfEnd
