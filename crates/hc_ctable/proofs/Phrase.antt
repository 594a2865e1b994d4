-- The text of the grammar that each phrase of the table is.
use Rattle.std.proofs.Common.{◌≡◌, ◌∷◌}
use Rattle.hc_grammar.specs.Texts.{Read, Did}
use Rattle.hc_ctoken.specs.declared.fixed.Fixed.TheVariants as fix
use Rattle.hc_cgrammar.specs.declared.role.Role.TheVariants as r
use Rattle.hc_cgrammar.specs.declared.role.Mark.TheVariants as m
use Rattle.hc_cgrammar.specs.Leaves.{Spelled, OfFixed, OfFunction, OfThread, OfUnused, OfNumber, OfSign, comparison}
use Rattle.hc_cgrammar.specs.Exprs as ex
use Rattle.hc_cgrammar.specs.Stmts as st
use Rattle.hc_cgrammar.specs.StmtRoles as spell
use Rattle.hc_cgrammar.specs.Units as un
use Rattle.hc_cgrammar.specs.UnitRoles as write
use Rattle.hc_ctable.specs.declared.head.Head.{Head}
use Rattle.hc_ctable.specs.declared.head.Head.TheVariants as h

-- what follows the left side of a comparison
pub data CompareRest : Type 0 where
  uncompared : CompareRest
  compared_with : OfSign comparison → ex.Sum → CompareRest

abbrev pub compare_rest : CompareRest → Spelled → Spelled
compare_rest uncompared w = w
compare_rest (compared_with s y) w = Read s.0 r.Operator ∷ ex.sum_of y (Did m.Binary ∷ w)

-- a comparison, from its left side and what follows that
abbrev pub compared : ex.Sum → CompareRest → ex.Compared
compared x uncompared = ex.alone x
compared x (compared_with s y) = ex.compared x s y

-- what a local becomes
pub data ValueRest : Type 0 where
  valued : ex.Or → OfFixed fix.Semicolon → ValueRest
  called : st.Call → OfFixed fix.Semicolon → ValueRest

abbrev pub value_rest : ValueRest → Spelled → Spelled
value_rest (valued e t) w = ex.or e (Read t.0 r.Plain ∷ Did m.Set ∷ w)
value_rest (called c t) w = spell.call r.GivingCallee c (Read t.0 r.Plain ∷ Did m.SetCall ∷ w)

-- what follows `return`
pub data ReturnedRest : Type 0 where
  nothing_returned : OfFixed fix.Semicolon → ReturnedRest
  returned_value : ex.Or → OfFixed fix.Semicolon → ReturnedRest

abbrev pub returned_rest : ReturnedRest → Spelled → Spelled
returned_rest (nothing_returned t) w = Read t.0 r.EndReturn ∷ Did m.Return ∷ w
returned_rest (returned_value e t) w = ex.or e (Read t.0 r.EndValueReturn ∷ Did m.ValueReturn ∷ w)

-- what follows the block of an `if`
pub data ElseRest : Type 0 where
  no_else : ElseRest
  with_else : OfFixed fix.Else → st.Block → ElseRest

abbrev pub else_rest : ElseRest → Spelled → Spelled
else_rest no_else w = Did m.If ∷ w
else_rest (with_else u y) w = Read u.0 r.Plain ∷ spell.block y (Did m.IfElse ∷ w)

-- cases, and what follows them up to the `}` of their `switch`
pub record CasesRest : Type 0 where
  pub cases : st.Cases
  pub default_word : OfFixed fix.Default
  pub colon : OfFixed fix.Colon
  pub otherwise : st.Block
  pub break_word : OfFixed fix.Break
  pub semicolon : OfFixed fix.Semicolon
  pub brace' : OfFixed fix.CloseCurly

abbrev pub cases_rest : CasesRest → Spelled → Spelled
cases_rest x w =
    spell.cases x.cases
    (Read x.default_word.0 r.Plain ∷ Read x.colon.0 r.Plain
    ∷ spell.block x.otherwise
    (Read x.break_word.0 r.Plain ∷ Read x.semicolon.0 r.Plain ∷ Read x.brace'.0 r.CloseCases ∷ w))

-- further threads, and what follows them
pub record ThreadsRest : Type 0 where
  pub others : un.MoreThreads
  pub table : un.Table
  pub main : un.Main

abbrev pub threads_rest : ThreadsRest → Spelled → Spelled
threads_rest x w = write.more_threads x.others (write.table x.table (write.main x.main w))

-- functions, and what follows them
pub record FunctionsRest : Type 0 where
  pub functions : un.Functions
  pub first : un.Thread
  pub rest : ThreadsRest

abbrev pub functions_rest : FunctionsRest → Spelled → Spelled
functions_rest x w = write.functions x.functions (write.thread x.first (threads_rest x.rest w))

-- arrays, and what follows them
pub record UnitRest : Type 0 where
  pub arrays : un.Arrays
  pub channels : un.ChannelNames
  pub processes : un.ProcessNames
  pub rest : FunctionsRest

abbrev pub unit_rest : UnitRest → Spelled → Spelled
unit_rest x w = write.arrays x.arrays (write.channel_names x.channels (write.process_names x.processes (functions_rest x.rest w)))

-- a function, and a thread, behind their names
pub record FunctionBody : Type 0 where
  pub left : OfFixed fix.OpenRound
  pub parameters : un.Parameters
  pub right : OfFixed fix.CloseRound
  pub body : un.Body

abbrev pub function_body : FunctionBody → Spelled → Spelled
function_body x w =
    Read x.left.0 r.Open ∷ Did m.Parameters
    ∷ write.parameters x.parameters (Read x.right.0 r.Close ∷ write.body r.EndFunction x.body (Did m.Function ∷ w))

pub record ThreadBody : Type 0 where
  pub left : OfFixed fix.OpenRound
  pub void_word : OfFixed fix.Void
  pub star : OfFixed fix.Star
  pub unused : OfUnused
  pub right : OfFixed fix.CloseRound
  pub body : un.Body

abbrev pub thread_body : ThreadBody → Spelled → Spelled
thread_body x w =
    Read x.left.0 r.Open ∷ Read x.void_word.0 r.Plain ∷ Read x.star.0 r.Plain ∷ Read x.unused.0 r.Plain ∷ Read x.right.0 r.Close
    ∷ write.body r.EndThread x.body (Did m.Thread ∷ w)

-- what follows "static" "void"
pub data VoidedRest : Type 0 where
  a_function : OfFunction → FunctionBody → FunctionsRest → VoidedRest
  a_thread : OfFixed fix.Star → OfThread → ThreadBody → ThreadsRest → VoidedRest

abbrev pub voided_rest : VoidedRest → Spelled → Spelled
voided_rest (a_function n x rest) w = Read n.0 r.DeclareVoid ∷ function_body x (functions_rest rest w)
voided_rest (a_thread s n x rest) w = Read s.0 r.Plain ∷ Read n.0 r.DeclareThread ∷ thread_body x (threads_rest rest w)

-- what follows "static"
pub data KindedRest : Type 0 where
  giving : OfFixed fix.Int → OfFunction → FunctionBody → FunctionsRest → KindedRest
  void : OfFixed fix.Void → VoidedRest → KindedRest

abbrev pub kinded_rest : KindedRest → Spelled → Spelled
kinded_rest (giving i n x rest) w = Read i.0 r.Plain ∷ Read n.0 r.DeclareGiving ∷ function_body x (functions_rest rest w)
kinded_rest (void v x) w = Read v.0 r.Plain ∷ voided_rest x w

-- what follows "static" "void" "*" behind the first thread
pub record TableRest : Type 0 where
  pub left : OfFixed fix.OpenRound
  pub star : OfFixed fix.Star
  pub const_word : OfFixed fix.Const
  pub word : OfFixed fix.HcThreads
  pub square : OfFixed fix.OpenSquare
  pub count : OfNumber
  pub square' : OfFixed fix.CloseSquare
  pub right : OfFixed fix.CloseRound
  pub left' : OfFixed fix.OpenRound
  pub void_word : OfFixed fix.Void
  pub star' : OfFixed fix.Star
  pub right' : OfFixed fix.CloseRound
  pub sign : OfFixed fix.Equal
  pub brace : OfFixed fix.OpenCurly
  pub first : OfThread
  pub others : un.MoreListed
  pub brace' : OfFixed fix.CloseCurly
  pub semicolon : OfFixed fix.Semicolon

abbrev pub table_rest : TableRest → Spelled → Spelled
table_rest x w =
    Read x.left.0 r.Open ∷ Read x.star.0 r.Plain ∷ Read x.const_word.0 r.Plain ∷ Read x.word.0 r.Plain ∷ Read x.square.0 r.Open
    ∷ Read x.count.0 r.TableCount ∷ Read x.square'.0 r.Close ∷ Read x.right.0 r.Close ∷ Read x.left'.0 r.Open ∷ Read x.void_word.0 r.Plain
    ∷ Read x.star'.0 r.Plain ∷ Read x.right'.0 r.Close ∷ Read x.sign.0 r.Plain ∷ Read x.brace.0 r.Open ∷ Read x.first.0 r.Listed
    ∷ write.more_listed x.others (Read x.brace'.0 r.EndTable ∷ Read x.semicolon.0 r.Plain ∷ w)

pub data StarredRest : Type 0 where
  thread : OfThread → ThreadBody → ThreadsRest → StarredRest
  table : TableRest → un.Main → StarredRest

abbrev pub starred_rest : StarredRest → Spelled → Spelled
starred_rest (thread n x rest) w = Read n.0 r.DeclareThread ∷ thread_body x (threads_rest rest w)
starred_rest (table x main) w = table_rest x (write.main main w)

-- the phrase w is a text of its part of the grammar, and then v
abbrev pub Phrase : Head → Spelled → Spelled → Type 0
Phrase h.Unit w v = (x : UnitRest) × (w ≡ unit_rest x v)
Phrase h.Channels w v = (x : un.MoreStrings) × (w ≡ write.more_strings r.Channel x v)
Phrase h.Processes w v = (x : un.MoreStrings) × (w ≡ write.more_strings r.Process x v)
Phrase h.Functions w v = (x : FunctionsRest) × (w ≡ functions_rest x v)
Phrase h.Kinded w v = (x : KindedRest) × (w ≡ kinded_rest x v)
Phrase h.Voided w v = (x : VoidedRest) × (w ≡ voided_rest x v)
Phrase h.Threads w v = (x : ThreadsRest) × (w ≡ threads_rest x v)
Phrase h.Starred w v = (x : StarredRest) × (w ≡ starred_rest x v)
Phrase h.Listed w v = (x : un.MoreListed) × (w ≡ write.more_listed x v)
Phrase h.Parameters w v = (x : un.Parameters) × (w ≡ write.parameters x v)
Phrase h.MoreParameters w v = (x : un.MoreParameters) × (w ≡ write.more_parameters x v)
Phrase h.Locals w v = (x : un.Locals) × (w ≡ write.locals x v)
Phrase h.Statements w v = (x : st.Stmts) × (w ≡ spell.stmts x v)
Phrase h.Else w v = (x : ElseRest) × (w ≡ else_rest x v)
Phrase h.Cases w v = (x : CasesRest) × (w ≡ cases_rest x v)
Phrase h.Value w v = (x : ValueRest) × (w ≡ value_rest x v)
Phrase h.Returned w v = (x : ReturnedRest) × (w ≡ returned_rest x v)
Phrase h.Arguments w v = (x : st.Arguments) × (b : OfFixed fix.CloseRound) × (w ≡ spell.arguments x (Read b.0 r.CloseArguments ∷ v))
Phrase h.MoreArguments w v =
    (x : st.MoreArguments) × (b : OfFixed fix.CloseRound) × (w ≡ spell.more_arguments x (Read b.0 r.CloseArguments ∷ v))
Phrase h.Or w v = (x : ex.Or) × (w ≡ ex.or x v)
Phrase h.Ors w v = (x : ex.Ors) × (w ≡ ex.ors x v)
Phrase h.And w v = (x : ex.And) × (w ≡ ex.and x v)
Phrase h.Ands w v = (x : ex.Ands) × (w ≡ ex.ands x v)
Phrase h.Compared w v = (x : ex.Compared) × (w ≡ ex.cmp x v)
Phrase h.Compare w v = (x : CompareRest) × (w ≡ compare_rest x v)
Phrase h.Sum w v = (x : ex.Sum) × (w ≡ ex.sum_of x v)
Phrase h.Sums w v = (x : ex.Sums) × (w ≡ ex.sums x v)
Phrase h.Product w v = (x : ex.Product) × (w ≡ ex.prod x v)
Phrase h.Products w v = (x : ex.Products) × (w ≡ ex.products x v)
Phrase h.Unary w v = (x : ex.Unary) × (w ≡ ex.unary x v)
