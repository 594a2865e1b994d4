-- What a thread asks for at a node: in the words of the code, with nothing of what the places stand for.
use Rattle.std.specs.Prelude.{◌≡◌, ◌≤◌, ℕ, Bool, true, false, if◌then◌else◌, List, [], ◌∷◌, ◌++◌, length, take, slice_get, ℤ, pos, unsigned_abs, Option, Some, None, Ok, Err}
use Rattle.std.specs.Ordering.{int_eq}
use Rattle.hc_rational.specs.Words.{Rational}
use Rattle.hc_cast.specs.declared.primitive.Primitive.{Primitive}
use Rattle.hc_cast.specs.declared.primitive.Primitive.TheVariants.{FrSet}
use Rattle.hc_cmach.specs.declared.kind.Kind.TheVariants.{Index, Unlocked, NoValue}
use Rattle.hc_cmach.specs.Expression.{Value, Values, is_true, is_index}
use Rattle.hc_ccode.specs.declared.code.Formula.{Formula}
use Rattle.hc_ccode.specs.declared.code.Case.{Case}
use Rattle.hc_ccode.specs.declared.code.Code.{Code}
use Rattle.hc_ccode.specs.declared.code.Node.{Node}
use Rattle.hc_ccode.specs.declared.code.Node.TheVariants as node
use Rattle.hc_cprim.specs.Worth.{worth_at, worths_at}
use Rattle.hc_cprim.specs.Deeds.{IsDeedOf}
use Rattle.hc_cprim.specs.declared.deed.Seat.{Seat}
use Rattle.hc_cprim.specs.declared.deed.Way.{Way}
use Rattle.hc_cprim.specs.declared.deed.Way.TheVariants as way
use Rattle.hc_cprim.specs.declared.deed.Deed.{Deed}
use Rattle.hc_cprim.specs.declared.deed.Deed.TheVariants as deed
use Rattle.hc_cexec.specs.declared.activation.Activation.{Activation}
use Rattle.hc_cexec.specs.declared.thread.Thread.{Thread}
use Rattle.hc_cexec.specs.declared.asked.Act.TheVariants as act
use Rattle.hc_cexec.specs.declared.asked.Then.{Then}
use Rattle.hc_cexec.specs.declared.asked.Then.TheVariants as then
use Rattle.hc_cexec.specs.declared.asked.Asked.{Asked}
use Rattle.hc_cexec.specs.declared.asked.Asked.TheVariants as asked

-- what formulas and the end of a body look at: the locals, whether the thread owns the mutex, the arrays, and whether the
-- body has to give a result
pub record View : Type 0 where
  pub values : List ℤ
  pub owns : Bool
  pub arrays : List (List ℤ)
  pub gives : Bool

abbrev pub valued : View → Formula → Value
valued v f = worth_at v.values v.owns v.arrays f

abbrev pub all_valued : View → List Formula → Values
all_valued v fs = worths_at v.values v.owns v.arrays fs

-- nothing is done but that the thread goes on at a place
abbrev pub leads : ℕ → Asked
leads place = asked.Does act.Goes (then.On None (pos 0) place)

abbrev pub sets : ℕ → ℕ → Value → Asked
sets local next (Err k) = asked.Fails k
sets local next (Ok z) = asked.Does act.Goes (then.On (Some local) z next)

abbrev pub stored : Bool → ℕ → ℕ → ℤ → ℕ → Asked
stored false a i z next = asked.Fails Unlocked
stored true a i z next = asked.Does (act.Stores a i z) (then.On None z next)

-- array number a has n elements
abbrev pub stores : Bool → ℕ → ℕ → ℕ → Value → Value → Asked
stores owns a n next (Err k) v = asked.Fails k
stores owns a n next (Ok i) (Err k) = asked.Fails k
stores owns a n next (Ok i) (Ok z) = if is_index i n then stored owns a (unsigned_abs i) z next else asked.Fails Index

abbrev pub branches : ℕ → ℕ → Value → Asked
branches then_at else_at (Err k) = asked.Fails k
branches then_at else_at (Ok z) = leads (if is_true z then then_at else else_at)

abbrev pub case_at : ℤ → List Case → ℕ → ℕ
case_at z [] otherwise = otherwise
case_at z (w ∷ ws) otherwise = if int_eq z w.number then w.place else case_at z ws otherwise

abbrev pub switches : List Case → ℕ → Value → Asked
switches ws otherwise (Err k) = asked.Fails k
switches ws otherwise (Ok z) = leads (case_at z ws otherwise)

abbrev pub gives_back : Value → Asked
gives_back (Err k) = asked.Fails k
gives_back (Ok z) = asked.Does act.Goes (then.Back z)

abbrev pub returns : View → Option Formula → Asked
returns v None = gives_back (Ok (pos 0))
returns v (Some f) = gives_back (valued v f)

-- at the end of a body
abbrev pub ends : Bool → Asked
ends true = asked.Fails NoValue
ends false = gives_back (Ok (pos 0))

abbrev pub enters : ℕ → Option ℕ → ℕ → Values → Asked
enters function result next (Err k) = asked.Fails k
enters function result next (Ok zs) = asked.Does act.Goes (then.Into function result next)

-- ---- primitives

-- a register of a row becomes a value
abbrev pub puts : Way → ℕ → Rational → Then → Asked
puts way.Its d v x = asked.Does (act.PutsOwn d v) x
puts way.Common d v x = asked.Does (act.PutsCommon d v) x
puts (way.Beyond k) d v x = asked.Fails k

abbrev pub done : Deed → Option ℕ → ℕ → Asked
done (deed.Fails k) result next = asked.Fails k
done (deed.Divides r b k) result next = asked.Divides r b k
done (deed.Gives z) result next = asked.Does act.Goes (then.On result z next)
done (deed.Puts w d v z) result next = puts w d v (then.On result z next)
done (deed.Prints l) result next = asked.Does (act.Prints l) (then.On result (pos 0) next)
done deed.Locks result next = asked.Does act.Locks (then.On result (pos 0) next)
done deed.Unlocks result next = asked.Does act.Unlocks (then.On result (pos 0) next)
done (deed.Waits k) result next = asked.Does (act.Waits k) (then.On result (pos 0) next)
done (deed.Wakes k) result next = asked.Does (act.Wakes k) (then.On result (pos 0) next)

pub record Performs (seat : Seat) (p : Primitive) (zs : List ℤ) (result : Option ℕ) (next : ℕ) (a : Asked) : Type 0 where
  pub deed : Deed
  pub of : IsDeedOf seat p zs deed
  pub is : a ≡ done deed result next

abbrev pub PerformsWith : Seat → Primitive → Values → Option ℕ → ℕ → Asked → Type 0
PerformsWith seat p (Err k) result next a = a ≡ asked.Fails k
PerformsWith seat p (Ok zs) result next a = Performs seat p zs result next a

-- `fr_set`, whose last two numbers are taken as they are written
abbrev pub SetsLiteral : Seat → Values → ℤ → ℤ → Option ℕ → ℕ → Asked → Type 0
SetsLiteral seat (Err k) n m result next a = a ≡ asked.Fails k
SetsLiteral seat (Ok zs) n m result next a = Performs seat FrSet (zs ++ n ∷ m ∷ []) result next a

-- ---- nodes

-- the values of the arguments stand in front there
abbrev pub AreReady : Values → ℕ → List ℤ → Type 0
AreReady (Err k) n there = Unit {0}
AreReady (Ok zs) n there = take n there ≡ zs

pub record Calls (v : View) (function : ℕ) (es : List Formula) (result : Option ℕ) (next : ℕ) (there : List ℤ) (a : Asked) : Type 0 where
  pub is : a ≡ enters function result next (all_valued v es)
  pub ready : AreReady (all_valued v es) (length es) there

-- what is asked for at a node, where there is room for all arguments; those of a function are there afterwards
abbrev pub AsksAt : Seat → View → Node → List ℤ → Asked → Type 0
AsksAt seat v node.End there a = a ≡ ends v.gives
AsksAt seat v (node.Set local e next) there a = a ≡ sets local next (valued v e)
AsksAt seat v (node.Store x n i e next) there a = a ≡ stores v.owns x n next (valued v i) (valued v e)
AsksAt seat v (node.Literal r d n m result next) there a =
    SetsLiteral seat (all_valued v (r ∷ d ∷ [])) n m result next a
AsksAt seat v (node.Primitive p es result next) there a =
    length es ≤ length there → PerformsWith seat p (all_valued v es) result next a
AsksAt seat v (node.Call f es result next) there a = length es ≤ length there → Calls v f es result next there a
AsksAt seat v (node.Branch e then_at else_at) there a = a ≡ branches then_at else_at (valued v e)
AsksAt seat v (node.Switch e ws otherwise) there a = a ≡ switches ws otherwise (valued v e)
AsksAt seat v (node.Return e) there a = a ≡ returns v e

-- ---- threads

abbrev pub view_of : Seat → List (List ℤ) → Activation → View
view_of seat arrays a = record { values = a.values; owns = seat.owns; arrays = arrays; gives = a.gives }

-- so it is at the node at which the activation at hand stands
abbrev pub AsksFrom : Code → Seat → List (List ℤ) → List Activation → List ℤ → Asked → Option ℕ → Type 0
AsksFrom c seat arrays xs there x None = x ≡ asked.Returned
AsksFrom c seat arrays xs there x (Some i) =
    (a : Activation) (n : Node) → slice_get xs i ≡ Some a → slice_get c.nodes a.place ≡ Some n → AsksAt seat (view_of seat arrays a) n there x

-- what a thread asks for that is ready
abbrev pub AsksFor : Code → Seat → List (List ℤ) → Thread → List ℤ → Asked → Type 0
AsksFor c seat arrays th there x = AsksFrom c seat arrays th.activations there x th.current
