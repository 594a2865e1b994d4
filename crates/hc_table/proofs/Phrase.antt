-- The text of the grammar that each phrase of the table is.
use Rattle.std.proofs.Common.{◌≡◌}
use Rattle.hc_token.specs.declared.fixed.Fixed.TheVariants as fix
use Rattle.hc_ast.specs.declared.role.Role.TheVariants as r
use Rattle.hc_ast.specs.declared.role.Mark.TheVariants as m
use Rattle.hc_grammar.specs.Texts.{Read, Did}
use Rattle.std.proofs.Common.{◌∷◌}
use Rattle.hc_ast.specs.Leaves.{Spelled, OfFixed, OfName, OfSign, comparison}
use Rattle.hc_ast.specs.Exprs as ex
use Rattle.hc_ast.specs.Conds as co
use Rattle.hc_ast.specs.Stmts as st
use Rattle.hc_ast.specs.StmtRoles as spell
use Rattle.hc_ast.specs.Sources as so
use Rattle.hc_ast.specs.SourceRoles as write
use Rattle.hc_table.specs.declared.head.Head.{Head}
use Rattle.hc_table.specs.declared.head.Head.TheVariants as h

-- what follows the name that a statement begins with
pub data NamedRest : Type 0 where
  assigned : OfFixed fix.ColonEqual → ex.Expr → NamedRest
  sent : OfFixed fix.Exclamation → ex.Expr → NamedRest
  received : OfFixed fix.Question → OfName → NamedRest

-- what follows the statements behind `then`
pub data ElseRest : Type 0 where
  ended : OfFixed fix.EndIf → ElseRest
  other : OfFixed fix.Else → st.Seq → OfFixed fix.EndIf → ElseRest

-- what follows a group of statements
pub data AfterRest : Type 0 where
  again : OfFixed fix.StarStar → AfterRest
  or_group : OfFixed fix.PlusPlus → OfFixed fix.OpenRound → st.Seq → OfFixed fix.CloseRound → AfterRest
  tested : OfFixed fix.OpenCurly → co.Cond → OfFixed fix.CloseCurly → OfFixed fix.StarStar → AfterRest

-- what follows `=` in a process
pub data BodyRest : Type 0 where
  own : OfFixed fix.OpenRound → st.Seq → OfFixed fix.CloseRound → BodyRest
  called : OfName → OfFixed fix.OpenRound → so.Arguments → OfFixed fix.CloseRound → BodyRest

abbrev pub named_rest : NamedRest → Spelled → Spelled
named_rest (assigned s e) w = Read s.0 r.Plain ∷ Did m.Fresh ∷ ex.expr e (Did m.Assign ∷ w)
named_rest (sent s e) w = Read s.0 r.Plain ∷ Did m.Fresh ∷ ex.expr e (Did m.Send ∷ Did m.Io ∷ w)
named_rest (received s y) w = Read s.0 r.Plain ∷ Read y.0 r.Keep ∷ Did m.Receive ∷ Did m.Io ∷ w

abbrev pub else_rest : ElseRest → Spelled → Spelled
else_rest (ended b) w = Read b.0 r.Close ∷ Did m.If ∷ w
else_rest (other v y b) w = Read v.0 r.Plain ∷ spell.seq y (Read b.0 r.Close ∷ Did m.Else ∷ w)

abbrev pub after_rest : AfterRest → Spelled → Spelled
after_rest (again t) w = Read t.0 r.Plain ∷ Did m.Forever ∷ w
after_rest (or_group t u y v) w =
    Read t.0 r.Plain ∷ Read u.0 r.Open ∷ spell.seq y (Read v.0 r.Close ∷ Did m.Pick ∷ w)
after_rest (tested u c v t) w =
    Read u.0 r.Open ∷ Did m.Fresh ∷ co.cond c (Read v.0 r.Close ∷ Read t.0 r.Plain ∷ Did m.Loop ∷ w)

abbrev pub body_rest : BodyRest → Spelled → Spelled
body_rest (own a y b) w = Read a.0 r.Plain ∷ spell.seq y (Read b.0 r.Plain ∷ Did m.Inline ∷ w)
body_rest (called y a es b) w =
    Read y.0 r.Keep ∷ Read a.0 r.Plain ∷ Did m.Arguments ∷ Did m.Fresh ∷ write.arguments es (Read b.0 r.Plain ∷ Did m.Call ∷ w)

-- a communication behind its name
pub data MeetRest : Type 0 where
  offered : OfFixed fix.Exclamation → ex.Expr → MeetRest
  taken : OfFixed fix.Question → OfName → MeetRest

abbrev pub meet_rest : MeetRest → Spelled → Spelled
meet_rest (offered s e) w = Read s.0 r.Plain ∷ Did m.Fresh ∷ ex.expr e (Did m.Send ∷ w)
meet_rest (taken s y) w = Read s.0 r.Plain ∷ Read y.0 r.Keep ∷ Did m.Receive ∷ w

-- the phrase w is a text of its part of the grammar, and then v
abbrev pub Phrase : Head → Spelled → Spelled → Type 0
Phrase h.Source w v = (x : so.Source) × (w ≡ write.source x v)
Phrase h.Params w v = (x : so.Params) × (b : OfFixed fix.CloseRound) × (w ≡ write.params x (Read b.0 r.Plain ∷ v))
Phrase h.MoreParams w v = (x : so.MoreParams) × (b : OfFixed fix.CloseRound) × (w ≡ write.more_params x (Read b.0 r.Plain ∷ v))
Phrase h.Param w v = (x : so.Param) × (w ≡ write.param x v)
Phrase h.Process w v = (x : so.Process) × (w ≡ write.process x v)
Phrase h.ProcessBody w v = (x : BodyRest) × (w ≡ body_rest x v)
Phrase h.Processes w v = (x : so.Processes) × (b : OfFixed fix.EndSystem) × (w ≡ write.processes x (Read b.0 r.Plain ∷ v))
Phrase h.Arguments w v = (x : so.Arguments) × (b : OfFixed fix.CloseRound) × (w ≡ write.arguments x (Read b.0 r.Plain ∷ v))
Phrase h.MoreArguments w v = (x : so.MoreArguments) × (b : OfFixed fix.CloseRound) × (w ≡ write.more_arguments x (Read b.0 r.Plain ∷ v))
Phrase h.Seq w v = (x : st.Stmt) × (xs : st.More) × (w ≡ spell.stmt x (spell.more xs v))
Phrase h.Expr w v = (x : ex.Expr) × (w ≡ ex.expr x v)
Phrase h.Term w v = (x : ex.Term) × (w ≡ ex.term x v)
Phrase h.Cond w v = (x : co.Cond) × (w ≡ co.cond x v)
Phrase h.Both w v = (x : co.Both) × (w ≡ co.both_of x v)
Phrase h.Stmt w v = (x : st.Stmt) × (w ≡ spell.stmt x v)
Phrase h.Named w v = (x : NamedRest) × (w ≡ named_rest x v)
Phrase h.Else w v = (x : ElseRest) × (w ≡ else_rest x v)
Phrase h.After w v = (x : AfterRest) × (w ≡ after_rest x v)
Phrase h.Branch w v = (x : st.Branch) × (w ≡ spell.branch x v)
Phrase h.Meet w v = (x : MeetRest) × (w ≡ meet_rest x v)
Phrase h.Branches w v = (x : st.Branches) × (b : OfFixed fix.CloseRound) × (w ≡ spell.branches x (Read b.0 r.Close ∷ v))
Phrase h.Rate w v = (x : st.Rate) × (w ≡ spell.rate x v)
Phrase h.Rates w v =
    (x : st.Rates) × (t : OfFixed fix.And) × (c : co.Cond) × (b : OfFixed fix.Greater)
    × (w ≡ spell.rates x (Read t.0 r.Plain ∷ Did m.Fresh ∷ co.cond c (Read b.0 r.Close ∷ v)))
Phrase h.Interrupt w v = (x : st.Interrupt) × (w ≡ spell.interrupt x v)
Phrase h.More w v = (x : st.More) × (w ≡ spell.more x v)
Phrase h.Factor w v = (x : ex.Factor) × (w ≡ ex.factor x v)
Phrase h.Products w v = (x : ex.Products) × (w ≡ ex.products x v)
Phrase h.Sums w v = (x : ex.Sums) × (w ≡ ex.sums x v)
Phrase h.One w v = (x : co.One) × (w ≡ co.one x v)
Phrase h.Compare w v = (s : OfSign comparison) × (y : ex.Expr) × (w ≡ Read s.0 r.Operator ∷ ex.expr y (Did m.Compare ∷ v))
Phrase h.Ands w v = (x : co.Ands) × (w ≡ co.ands x v)
Phrase h.Ors w v = (x : co.Ors) × (w ≡ co.ors x v)
