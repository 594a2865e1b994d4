-- What stands so far in a unit, as far as its limits and its rules on names ask: a state that each token in its role and each mark changes.
use Rattle.std.specs.Prelude.{ℕ, ℤ, pos, Bool, false, List, [], Option, None}
use Rattle.hc_cgrammar.specs.Leaves.{Word}

-- what the nodes of an expression are so far: none, a number, a minus, a minus and a number, or anything else
pub data Shape : Type 0 where
  nothing : Shape
  number : ℤ → Shape
  minus : Shape
  minus_number : Shape
  other : Shape

-- a function: its name, how many parameters it has, and whether it gives an int
pub record Signature : Type 0 where
  pub name : Word
  pub arity : ℕ
  pub gives : Bool

-- whose body it is
pub data Owner : Type 0 where
  function : Signature → Owner
  thread : Owner

-- a call whose arguments aren't closed yet
pub record Call : Type 0 where
  -- how many arguments it must have
  pub arity : ℕ
  -- whether `fr_set` is called
  pub is_set : Bool
  -- the commas between its arguments so far, and the arguments that have ended
  pub commas : ℕ
  pub arguments : ℕ
  -- its third argument, once that has ended
  pub third : Shape

-- the strings of `chan_name`, or of `proc_name`
pub record Strings : Type 0 where
  -- how many are said to follow, and how many there are so far
  pub wanted : ℤ
  pub count : ℕ
  -- whether one of them is empty
  pub has_empty : Bool

pub record State : Type 0 where
  pub open_items : ℕ
  -- of the expression
  pub nodes : ℕ
  pub shape : Shape
  -- whether the length of an array comes next
  pub at_length : Bool
  pub arrays : List Word
  -- of the names that were given last
  pub strings : Strings
  -- the functions whose bodies have ended
  pub functions : List Signature
  -- of the body: whose it is, its parameters and locals, and whether the statement that ended last is a `return`
  pub owner : Owner
  pub locals : List Word
  pub returned : Bool
  pub call : Option Call
  -- of each open `switch`, the innermost first: the numbers of its cases
  pub cases : List (List ℤ)
  pub threads : ℕ
  -- the names in the table so far
  pub listed : ℕ

abbrev pub no_strings : Strings
no_strings = record { wanted = pos 0; count = 0; has_empty = false }

-- before the first token
abbrev pub opening : State
opening = record {
  open_items = 0;
  nodes = 0;
  shape = nothing;
  at_length = false;
  arrays = [];
  strings = no_strings;
  functions = [];
  owner = thread;
  locals = [];
  returned = false;
  call = None;
  cases = [];
  threads = 0;
  listed = 0;
}
