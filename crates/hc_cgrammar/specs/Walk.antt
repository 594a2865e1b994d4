-- How tokens in their roles, and marks, change what stands so far.
use Rattle.std.specs.Prelude.{ℕ, ◌+◌, ◌-◌, ℤ, pos, Bool, true, false, if◌then◌else◌, ◌==◌, List, [], ◌∷◌, ◌++◌, Option, Some, None, find, nat_eq}
use Rattle.std.specs.List.{list_any}
use Rattle.std.specs.Option.{option_map}
use Rattle.std.specs.Cmp.Lexicographic.{pointwise}
use Rattle.hc_grammar.specs.Reader.{Walk}
use Rattle.hc_cast.specs.declared.primitive.Primitive.TheVariants as primitive
use Rattle.hc_cast.specs.Primitives.{text_of, count, gives}
use Rattle.hc_ctoken.specs.declared.token.Lexeme.{Lexeme}
use Rattle.hc_ctoken.specs.declared.token.Lexeme.TheVariants as lex
use Rattle.hc_ctoken.specs.declared.token.Token.{Token}
use Rattle.hc_cgrammar.specs.declared.role.Role.{Role}
use Rattle.hc_cgrammar.specs.declared.role.Role.TheVariants as r
use Rattle.hc_cgrammar.specs.declared.role.Mark.{Mark}
use Rattle.hc_cgrammar.specs.declared.role.Mark.TheVariants as m
use Rattle.hc_cgrammar.specs.Leaves.{Word}
use Rattle.hc_cgrammar.specs.State.{Shape, nothing, number, minus, minus_number, other, Signature, Owner, function, thread, Call, Strings, State}

-- what a token names; what it says as a number
abbrev pub name_of : Lexeme → Word
name_of (lex.Array w) = w
name_of (lex.Function w) = w
name_of (lex.Local w) = w
name_of (lex.Text w) = w
name_of _ = []

abbrev pub value_of : Lexeme → ℤ
value_of (lex.Number n) = n
value_of _ = pos 0

-- whether two names are the same; whether a name is among others
abbrev pub same_name : Word → Word → Bool
same_name w v = pointwise nat_eq w v

abbrev pub is_among : List Word → Word → Bool
is_among ws w = list_any (λ v. same_name v w) ws

-- whether a token opens an item in this role, closes one, or is a node of an expression
abbrev pub opens : Role → Bool
opens r.Open = true
opens r.OpenLength = true
opens r.OpenArguments = true
opens r.OpenCases = true
opens r.Minus = true
opens r.Not = true
opens _ = false

abbrev pub closes : Role → Bool
closes r.Close = true
closes r.EndNames = true
closes r.EndFunction = true
closes r.EndThread = true
closes r.EndTable = true
closes r.CloseArguments = true
closes r.CloseCases = true
closes _ = false

abbrev pub is_node : Role → Bool
is_node r.Number = true
is_node r.Local = true
is_node r.Element = true
is_node r.Operator = true
is_node r.Minus = true
is_node r.Not = true
is_node _ = false

-- an expression with one node more: a number, a minus, or another
abbrev pub with_number : ℤ → Shape → Shape
with_number n nothing = number n
with_number n minus = minus_number
with_number n _ = other

abbrev pub with_minus : Shape → Shape
with_minus nothing = minus
with_minus _ = other

abbrev pub shape_with : Role → Lexeme → Shape → Shape
shape_with r.Number l x = with_number (value_of l) x
shape_with r.Minus l x = with_minus x
shape_with r.Local l x = other
shape_with r.Element l x = other
shape_with r.Operator l x = other
shape_with r.Not l x = other
shape_with _ l x = x

-- the function of a name, if it is declared
abbrev pub function_named : List Signature → Word → Option Signature
function_named fs w = find (λ f. same_name f.name w) fs

-- what a token calls, if that is declared
abbrev pub called : Lexeme → State → Option Signature
called (lex.Primitive p) s = Some (record { name = text_of p; arity = count p; gives = gives p })
called (lex.Function w) s = function_named s.functions w
called _ s = None

abbrev pub is_set : Lexeme → Bool
is_set (lex.Primitive primitive.FrSet) = true
is_set _ = false

-- a call begins
abbrev pub call_of : Lexeme → Signature → Call
call_of l f = record { arity = f.arity; is_set = is_set l; commas = 0; arguments = 0; third = nothing }

-- an argument of this shape ends
abbrev pub with_argument : Shape → Call → Call
with_argument x c = record {
  arity = c.arity;
  is_set = c.is_set;
  commas = c.commas;
  arguments = c.arguments + 1;
  third = if c.arguments == 2 then x else c.third;
}

-- one comma more
abbrev pub with_comma : Call → Call
with_comma c = record { arity = c.arity; is_set = c.is_set; commas = c.commas + 1; arguments = c.arguments; third = c.third }

-- one string more
abbrev pub with_string : Lexeme → Strings → Strings
with_string lex.EmptyText x = record { wanted = x.wanted; count = x.count + 1; has_empty = true }
with_string _ x = record { wanted = x.wanted; count = x.count + 1; has_empty = x.has_empty }

-- one parameter more
abbrev pub with_parameter : Owner → Owner
with_parameter (function f) = function (record { name = f.name; arity = f.arity + 1; gives = f.gives })
with_parameter thread = thread

-- the function whose body ends
abbrev pub with_owner : Owner → List Signature → List Signature
with_owner (function f) fs = fs ++ f ∷ []
with_owner thread fs = fs

-- one case more of the innermost `switch`
abbrev pub with_case : ℤ → List (List ℤ) → List (List ℤ)
with_case n [] = []
with_case n (ns ∷ rest) = (ns ++ n ∷ []) ∷ rest

abbrev pub without_innermost : List (List ℤ) → List (List ℤ)
without_innermost [] = []
without_innermost (ns ∷ rest) = rest

-- how many items are open, and how many nodes the expression has, behind a token in its role
abbrev pub items_after : Role → ℕ → ℕ
items_after role n = if opens role then n + 1 else (if closes role then n - 1 else n)

abbrev pub nodes_after : Role → ℕ → ℕ
nodes_after role n = if is_node role then n + 1 else n

-- behind the `[` of an array's declaration comes its length
abbrev pub is_length_next : Role → Bool
is_length_next r.OpenLength = true
is_length_next _ = false

abbrev pub arrays_after : Role → Lexeme → List Word → List Word
arrays_after r.DeclareArray l ws = ws ++ name_of l ∷ []
arrays_after _ l ws = ws

abbrev pub strings_after : Role → Lexeme → Strings → Strings
strings_after r.Count l x = record { wanted = value_of l; count = 0; has_empty = false }
strings_after r.Channel l x = with_string l x
strings_after r.Process l x = with_string l x
strings_after _ l x = x

abbrev pub functions_after : Role → Owner → List Signature → List Signature
functions_after r.EndFunction owner fs = with_owner owner fs
functions_after _ owner fs = fs

-- a body belongs to the function or thread that was named last
abbrev pub owner_after : Role → Lexeme → Owner → Owner
owner_after r.DeclareGiving l owner = function (record { name = name_of l; arity = 0; gives = true })
owner_after r.DeclareVoid l owner = function (record { name = name_of l; arity = 0; gives = false })
owner_after r.DeclareThread l owner = thread
owner_after r.DeclareParameter l owner = with_parameter owner
owner_after _ l owner = owner

abbrev pub locals_after : Role → Lexeme → List Word → List Word
locals_after r.DeclareGiving l ws = []
locals_after r.DeclareVoid l ws = []
locals_after r.DeclareThread l ws = []
locals_after r.DeclareParameter l ws = ws ++ name_of l ∷ []
locals_after r.DeclareLocal l ws = ws ++ name_of l ∷ []
locals_after _ l ws = ws

-- a thread's body begins with no statement
abbrev pub returned_after : Role → Bool → Bool
returned_after r.DeclareThread b = false
returned_after _ b = b

abbrev pub call_after : Role → Lexeme → State → Option Call
call_after r.Callee l s = option_map (call_of l) (called l s)
call_after r.GivingCallee l s = option_map (call_of l) (called l s)
call_after r.NextArgument l s = option_map with_comma s.call
call_after r.CloseArguments l s = None
call_after _ l s = s.call

abbrev pub cases_after : Role → Lexeme → List (List ℤ) → List (List ℤ)
cases_after r.OpenCases l cases = [] ∷ cases
cases_after r.CaseNumber l cases = with_case (value_of l) cases
cases_after r.CloseCases l cases = without_innermost cases
cases_after _ l cases = cases

abbrev pub threads_after : Role → ℕ → ℕ
threads_after r.DeclareThread n = n + 1
threads_after _ n = n

abbrev pub listed_after : Role → ℕ → ℕ
listed_after r.Listed n = n + 1
listed_after _ n = n

-- behind a token in its role
abbrev pub after_token : Role → Lexeme → State → State
after_token role l s = record {
  open_items = items_after role s.open_items;
  nodes = nodes_after role s.nodes;
  shape = shape_with role l s.shape;
  at_length = is_length_next role;
  arrays = arrays_after role l s.arrays;
  strings = strings_after role l s.strings;
  functions = functions_after role s.owner s.functions;
  owner = owner_after role l s.owner;
  locals = locals_after role l s.locals;
  returned = returned_after role s.returned;
  call = call_after role l s;
  cases = cases_after role l s.cases;
  threads = threads_after role s.threads;
  listed = listed_after role s.listed;
}

-- a minus and a `!` are done with their part
abbrev pub items_behind : Mark → ℕ → ℕ
items_behind m.Negate n = n - 1
items_behind m.Not n = n - 1
items_behind _ n = n

-- an expression begins with no nodes
abbrev pub nodes_behind : Mark → ℕ → ℕ
nodes_behind m.Fresh n = 0
nodes_behind _ n = n

abbrev pub shape_behind : Mark → Shape → Shape
shape_behind m.Fresh x = nothing
shape_behind _ x = x

-- which statement ended last
abbrev pub returned_behind : Mark → Bool → Bool
returned_behind m.Return b = true
returned_behind m.ValueReturn b = true
returned_behind m.Set b = false
returned_behind m.SetCall b = false
returned_behind m.Store b = false
returned_behind m.Call b = false
returned_behind m.If b = false
returned_behind m.IfElse b = false
returned_behind m.While b = false
returned_behind m.Switch b = false
returned_behind _ b = b

abbrev pub call_behind : Mark → State → Option Call
call_behind m.Argument s = option_map (with_argument s.shape) s.call
call_behind _ s = s.call

-- behind a mark
abbrev pub after_mark : Mark → State → State
after_mark b s = record {
  open_items = items_behind b s.open_items;
  nodes = nodes_behind b s.nodes;
  shape = shape_behind b s.shape;
  at_length = s.at_length;
  arrays = s.arrays;
  strings = s.strings;
  functions = s.functions;
  owner = s.owner;
  locals = s.locals;
  returned = returned_behind b s.returned;
  call = call_behind b s;
  cases = s.cases;
  threads = s.threads;
  listed = s.listed;
}

abbrev pub walk : Walk Token Role Mark State
walk = record { on_token = λ role t s. after_token role t.lexeme s; on_mark = after_mark }
