-- Generated C, written in short words: each is a form of the syntax of `hc_cast`, with the C that it stands for. This project's own.
use Rattle.std.specs.Prelude.{ℕ, suc, true, false, List, [], ◌∷◌, ◌++◌, map, ℤ, pos, negsuc, Some, None, codes}
use Rattle.hc_rational.specs.Words.{Rational}
use Rattle.hc_cast.specs.Primitives.{text_of}
use Rattle.hc_cast.specs.declared.primitive.Primitive.{Primitive}
use Rattle.hc_cast.specs.declared.primitive.Primitive.TheVariants.{FrSet, FrMove, FrAdd, FrSub, FrMul, FrDiv}
use Rattle.hc_term.specs.declared.expr.Op.{Op}
use Rattle.hc_term.specs.declared.expr.Op.TheVariants as sign
use Rattle.hc_cast.specs.declared.expr.COp.TheVariants as op
use Rattle.hc_cast.specs.declared.expr.CExpr.{CExpr}
use Rattle.hc_cast.specs.declared.expr.CExpr.TheVariants as e
use Rattle.hc_cast.specs.declared.stmt.CStmt.{CStmt}
use Rattle.hc_cast.specs.declared.stmt.CStmt.TheVariants as a
use Rattle.hc_cast.specs.declared.program.CArray.{CArray}
use Rattle.hc_cast.specs.declared.program.CBody.{CBody}
use Rattle.hc_cast.specs.declared.program.CFunction.{CFunction}
use Rattle.hc_cmach.specs.State.{Word}

-- ---- expressions

abbrev pub number : ℕ → CExpr
number n = e.Number (pos n)

-- -1
abbrev pub minus_one : CExpr
minus_one = e.Neg (number 1)

-- a number with its sign, as the grammar has it: a minus in front of a number
abbrev pub signed : ℤ → CExpr
signed (pos n) = number n
signed (negsuc n) = e.Neg (number (suc n))

abbrev pub local : Word → CExpr
local x = e.Local x

-- x[i]
abbrev pub element : Word → CExpr → CExpr
element x i = e.Element x i

-- x[0]
abbrev pub first_of : Word → CExpr
first_of x = element x (number 0)

-- a + b
abbrev pub sum : CExpr → CExpr → CExpr
sum a b = e.Binary op.Add a b

-- a - b
abbrev pub difference : CExpr → CExpr → CExpr
difference a b = e.Binary op.Sub a b

-- a * n
abbrev pub times : CExpr → ℕ → CExpr
times a n = e.Binary op.Mul a (number n)

-- a < b
abbrev pub less : CExpr → CExpr → CExpr
less a b = e.Binary op.Less a b

-- a == b
abbrev pub equals : CExpr → CExpr → CExpr
equals a b = e.Binary op.Equal a b

-- a != b
abbrev pub differs : CExpr → CExpr → CExpr
differs a b = e.Binary op.NotEqual a b

-- a && b
abbrev pub both : CExpr → CExpr → CExpr
both a b = e.Binary op.And a b

-- a || b
abbrev pub either : CExpr → CExpr → CExpr
either a b = e.Binary op.Or a b

-- !a
abbrev pub denies : CExpr → CExpr
denies a = e.Not a

-- 0 < a
abbrev pub above_zero : CExpr → CExpr
above_zero a = less (number 0) a

-- a < 1
abbrev pub below_one : CExpr → CExpr
below_one a = less a (number 1)

-- x == n
abbrev pub local_is : Word → ℕ → CExpr
local_is x n = equals (local x) (number n)

-- numbers as arguments
abbrev pub numbers : List ℕ → List CExpr
numbers ns = map number ns

-- ---- statements

-- x = v;
abbrev pub set : Word → CExpr → CStmt
set x v = a.Set x v

-- x = n;
abbrev pub set_number : Word → ℕ → CStmt
set_number x n = set x (number n)

-- x[i] = v;
abbrev pub store : Word → CExpr → CExpr → CStmt
store x i v = a.Store x i v

-- f(..); a call whose result no local takes
abbrev pub call : Word → List CExpr → CStmt
call f es = a.Call None f es

-- x = f(..);
abbrev pub take_call : Word → Word → List CExpr → CStmt
take_call x f es = a.Call (Some x) f es

-- p(..); the same of a primitive
abbrev pub prim : Primitive → List CExpr → CStmt
prim p es = call (text_of p) es

-- x = p(..);
abbrev pub take_prim : Word → Primitive → List CExpr → CStmt
take_prim x p es = take_call x (text_of p) es

-- if (test) { ss }
abbrev pub if_then : CExpr → List CStmt → CStmt
if_then test ss = a.If test ss None

-- if (test) { ss } else { rs }
abbrev pub if_else : CExpr → List CStmt → List CStmt → CStmt
if_else test ss rs = a.If test ss (Some rs)

-- while (test) { ss }
abbrev pub while_do : CExpr → List CStmt → CStmt
while_do test ss = a.While test ss

-- x = x + 1;
abbrev pub count_up : Word → CStmt
count_up x = set x (sum (local x) (number 1))

-- ss and then x = x + 1;
abbrev pub round : Word → List CStmt → List CStmt
round x ss = ss ++ count_up x ∷ []

-- x counts on to n, with these statements for each number before: while (x < n) { ss x = x + 1; }
abbrev pub count_to : Word → ℕ → List CStmt → CStmt
count_to x n ss = while_do (less (local x) (number n)) (round x ss)

-- return v;
abbrev pub return_value : CExpr → CStmt
return_value v = a.Return (Some v)

-- return 0;
abbrev pub return_zero : CStmt
return_zero = return_value (number 0)

-- ---- fractions in registers of row r

-- the row that the threads share
abbrev pub shared_row : ℕ
shared_row = 64

-- register d becomes q
abbrev pub set_register : ℕ → ℕ → Rational → CStmt
set_register r d q = prim FrSet (number r ∷ number d ∷ signed q.num ∷ number q.den ∷ [])

-- register d becomes 0
abbrev pub clear_register : ℕ → ℕ → CStmt
clear_register r d = prim FrSet (numbers (r ∷ d ∷ 0 ∷ 1 ∷ []))

-- register d becomes register x
abbrev pub move_register : ℕ → ℕ → ℕ → CStmt
move_register r d x = prim FrMove (numbers (r ∷ d ∷ r ∷ x ∷ []))

-- the primitive of a sign of the source
abbrev pub primitive_of : Op → Primitive
primitive_of sign.Add = FrAdd
primitive_of sign.Sub = FrSub
primitive_of sign.Mul = FrMul
primitive_of sign.Div = FrDiv

-- ---- as long as all fits

-- the local that holds 1 as long as all values fit, and else 0
abbrev pub v_ok : Word
v_ok = codes "v_ok"

-- if (v_ok == 1) { ss }
abbrev pub guarded_block : List CStmt → CStmt
guarded_block ss = if_then (local_is v_ok 1) ss

-- one such block after the other
abbrev pub guarded_blocks : List (List CStmt) → List CStmt
guarded_blocks blocks = map guarded_block blocks

-- if (v_ok == 1) { v_ok = p(r, d, x, y); }
abbrev pub guarded : Primitive → ℕ → ℕ → ℕ → ℕ → CStmt
guarded p r d x y = guarded_block (take_prim v_ok p (numbers (r ∷ d ∷ x ∷ y ∷ [])) ∷ [])

-- ---- parts of a program

-- an array of so many ints
abbrev pub array : Word → ℕ → CArray
array name length = record { name = name; length = length }

abbrev pub body : List Word → List CStmt → CBody
body locals ss = record { locals = locals; statements = ss }

-- a function that gives nothing
abbrev pub procedure : Word → List Word → List Word → List CStmt → CFunction
procedure name params locals ss = record { name = name; gives = false; params = params; body = body locals ss }

-- a function that gives an int
abbrev pub function : Word → List Word → List Word → List CStmt → CFunction
function name params locals ss = record { name = name; gives = true; params = params; body = body locals ss }
