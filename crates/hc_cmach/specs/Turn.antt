-- What a thread's next step asks for: from its own part, and from the shared part where it owns the mutex.
use Rattle.std.specs.Prelude.{ℕ, ◌==◌, if◌then◌else◌, List, [], ◌∷◌, ◌++◌, slice_get, slice_set, slice_index_or, ℤ, pos, unsigned_abs, Option, Some, None, Ok, Err}
use Rattle.std.specs.Ordering.{int_eq}
use Rattle.hc_rational.specs.Words.{Rational, zero_ℚ, is_zero}
use Rattle.hc_cast.specs.Primitives.{primitive_named}
use Rattle.hc_cast.specs.declared.primitive.Primitive.{Primitive}
use Rattle.hc_cast.specs.declared.primitive.Primitive.TheVariants.{FrSet}
use Rattle.hc_cast.specs.declared.expr.CExpr.{CExpr}
use Rattle.hc_cast.specs.declared.stmt.CStmt.{CStmt, out-CStmt}
use Rattle.hc_cast.specs.declared.stmt.CStmt.TheOpen.{CStmt-F}
use Rattle.hc_cast.specs.declared.stmt.CCase.{CCase, out-CCase}
use Rattle.hc_cast.specs.declared.program.CFunction.{CFunction}
use Rattle.hc_cast.specs.declared.program.CProgram.{CProgram}
use Rattle.hc_cmach.specs.declared.kind.Kind.{Kind}
use Rattle.hc_cmach.specs.declared.kind.Kind.TheVariants.{Index, ZeroDivisor, NotOwner, LockedTwice, Unlocked, NoValue}
use Rattle.hc_schedule.specs.Threads.{Thread, World, Returned, Does, Goes, Works, Code}
use Rattle.hc_cmach.specs.State.{Word, Frame, doing, storing, begun, common_row, Own, Shared, array_place, array_length, function_among, Fault, Certain, Divides}
use Rattle.hc_cmach.specs.Line.{Line}
use Rattle.hc_cmach.specs.Expression.{Value, Values, is_true, is_index, worth, worths, written}
use Rattle.hc_cmach.specs.Primitive.{CTurn, Spot, behind, fails, results, primitive_turn}

abbrev pub value_of : CProgram → Spot → CExpr → Value
value_of g s e = worth g s.frame s.seen e

-- the thread with these statements to do in place of the one at hand
abbrev pub leads_to : Spot → List CStmt → CTurn
leads_to s ss = Does (Goes (record { row = s.row; frames = doing s.frame ss ∷ s.below }))

-- ---- assignments and stores

abbrev pub assigns : Spot → Word → Value → CTurn
assigns s x (Err k) = fails k
assigns s x (Ok z) = results s (Some x) z

-- element i of array number a becomes z
abbrev pub writes : Spot → ℕ → ℕ → ℤ → Option Shared → CTurn
writes s a i z None = fails Unlocked
writes s a i z (Some m) =
    Does (Works (behind s None z) (record { row = m.row; arrays = slice_set m.arrays a (slice_set (slice_index_or m.arrays a []) i z) }))

-- the index comes before the value
abbrev pub stores : CProgram → Spot → Word → Value → Value → CTurn
stores g s a (Err k) v = fails k
stores g s a (Ok i) (Err k) = fails k
stores g s a (Ok i) (Ok z) = if is_index i (array_length g a) then writes s (array_place g a) (unsigned_abs i) z s.seen else fails Index

-- ---- choices and loops

abbrev pub or_nothing : Option (List CStmt) → List CStmt
or_nothing None = []
or_nothing (Some ss) = ss

abbrev pub chooses : Spot → Value → List CStmt → List CStmt → CTurn
chooses s (Err k) first other = fails k
chooses s (Ok z) first other = leads_to s ((if is_true z then first else other) ++ s.rest)

-- a loop stands in front of what follows until its test fails
abbrev pub turns : Spot → Value → CStmt → List CStmt → CTurn
turns s (Err k) loop body = fails k
turns s (Ok z) loop body = leads_to s (if is_true z then body ++ loop ∷ s.rest else s.rest)

abbrev pub case_for : ℤ → List CCase → List CStmt → List CStmt
case_for z [] otherwise = otherwise
case_for z (c ∷ cs) otherwise = if int_eq z (out-CCase c).number then (out-CCase c).body else case_for z cs otherwise

abbrev pub switches : Spot → Value → List CCase → List CStmt → CTurn
switches s (Err k) cases otherwise = fails k
switches s (Ok z) cases otherwise = leads_to s (case_for z cases otherwise ++ s.rest)

-- ---- calls

-- a called function, at its first statement, above the caller
abbrev pub enters : Spot → Option Word → CFunction → Values → CTurn
enters s target f (Err k) = fails k
enters s target f (Ok zs) =
    Does (Goes (record { row = s.row; frames = begun target f.gives f.params zs f.body ∷ doing s.frame s.rest ∷ s.below }))

-- the caller goes on with the result z; a thread whose last frame is gone has returned
abbrev pub gives_back : List Rational → Option Word → ℤ → List Frame → CTurn
gives_back row target z [] = Does (Goes (record { row = row; frames = [] }))
gives_back row target z (f ∷ fs) = Does (Goes (record { row = row; frames = storing f target z f.todo ∷ fs }))

abbrev pub returns : Spot → Value → CTurn
returns s (Err k) = fails k
returns s (Ok z) = gives_back s.row s.frame.target z s.below

abbrev pub returned_value : CProgram → Spot → Option CExpr → Value
returned_value g s None = Ok (pos 0)
returned_value g s (Some e) = value_of g s e

-- two values in front of two that are taken as they are written
abbrev pub with_written : Values → CExpr → CExpr → Values
with_written (Err k) n m = Err k
with_written (Ok zs) n m = Ok (zs ++ written n ∷ written m ∷ [])

abbrev pub argument_values : CProgram → Spot → Primitive → List CExpr → Values
argument_values g s FrSet (r ∷ d ∷ n ∷ m ∷ []) = with_written (worths g s.frame s.seen (r ∷ d ∷ [])) n m
argument_values g s p es = worths g s.frame s.seen es

abbrev pub does_primitive : CProgram → Spot → Option Word → Primitive → Values → CTurn
does_primitive g s target p (Err k) = fails k
does_primitive g s target p (Ok zs) = primitive_turn g s target p zs

-- in a program of the grammar each name that is called is that of a primitive or of a function
abbrev pub calls_function : CProgram → Spot → Option Word → Option CFunction → List CExpr → CTurn
calls_function g s target None es = fails Index
calls_function g s target (Some f) es = enters s target f (worths g s.frame s.seen es)

abbrev pub calls : CProgram → Spot → Option Word → Word → Option Primitive → List CExpr → CTurn
calls g s target what (Some p) es = does_primitive g s target p (argument_values g s p es)
calls g s target what None es = calls_function g s target (function_among what g.functions) es

-- ---- statements and threads

-- head is the statement that the layer opens
abbrev pub statement_turn : CProgram → Spot → CStmt → CStmt-F CStmt CCase → CTurn
statement_turn g s head (CStmt-F.Set x e) = assigns s x (value_of g s e)
statement_turn g s head (CStmt-F.Store a i e) = stores g s a (value_of g s i) (value_of g s e)
statement_turn g s head (CStmt-F.Call target what es) = calls g s target what (primitive_named what) es
statement_turn g s head (CStmt-F.If test first other) = chooses s (value_of g s test) first (or_nothing other)
statement_turn g s head (CStmt-F.While test body) = turns s (value_of g s test) head body
statement_turn g s head (CStmt-F.Switch on cases otherwise) = switches s (value_of g s on) cases otherwise
statement_turn g s head (CStmt-F.Return e) = returns s (returned_value g s e)

abbrev pub frame_turn : CProgram → ℕ → List Rational → Option Shared → Frame → List Frame → List CStmt → CTurn
frame_turn g t row seen f fs [] = if f.gives then fails NoValue else gives_back row f.target (pos 0) fs
frame_turn g t row seen f fs (head ∷ rest) =
    statement_turn g (record { thread = t; row = row; seen = seen; frame = f; below = fs; rest = rest }) head (out-CStmt head)

abbrev pub thread_turn : CProgram → ℕ → List Rational → Option Shared → List Frame → CTurn
thread_turn g t row seen [] = Returned
thread_turn g t row seen (f ∷ fs) = frame_turn g t row seen f fs f.todo

-- a program, as a machine of threads under one mutex runs it
abbrev pub c_code : CProgram → Code Own Shared Line Fault
c_code g =
    record {
      turn = λ t own seen. thread_turn g t own.row seen own.frames;
      not_owner = Certain NotOwner;
      locked_twice = Certain LockedTwice;
      unlocked = Certain Unlocked;
    }

-- ---- the kind of an undefined step

-- a row without a thread is never written
abbrev pub row_at : Option (Thread Own) → List Rational
row_at None = []
row_at (Some th) = th.own.row

abbrev pub row_of : World Own Shared → ℕ → List Rational
row_of w r = if r == common_row then w.shared.row else row_at (slice_get w.threads r)

abbrev pub kind_of : World Own Shared → Fault → Kind
kind_of w (Certain k) = k
kind_of w (Divides r b k) = if is_zero (slice_index_or (row_of w r) b zero_ℚ) then ZeroDivisor else k
