-- What is asked for at a node is what the definition says of the statement.
use Rattle.std.proofs.Common.{rules, ◌≡◌, refl, sym, ap, ap₂, ◌∙◌, subst, ℕ, suc, ◌+◌, ◌<◌, ◌≤◌, Bool, true, false, List, [], ◌∷◌, ◌++◌, length, take, slice_set, Option, Some, None, Ok, Err, arith}
use Rattle.std.specs.Prelude.{ℤ, pos, if◌then◌else◌, unsigned_abs, IsTrue, ◌&&◌, ◌^◌}
use Rattle.std.specs.Ordering.{int_eq}
use Rattle.hc_rational.specs.Words.{Rational}
use Rattle.hc_cast.specs.Primitives.{primitive_named, count}
use Rattle.hc_cast.specs.declared.expr.CExpr.{CExpr}
use Rattle.hc_cast.specs.declared.primitive.Primitive.{Primitive}
use Rattle.hc_cast.specs.declared.primitive.Primitive.TheVariants.{FrSet}
use Rattle.hc_cast.specs.declared.stmt.CStmt.{CStmt, out-CStmt}
use Rattle.hc_cast.specs.declared.stmt.CStmt.TheOpen.{CStmt-F}
use Rattle.hc_cast.specs.declared.stmt.CCase.{CCase, out-CCase}
use Rattle.hc_cast.specs.declared.program.CFunction.{CFunction}
use Rattle.hc_cast.specs.declared.program.CProgram.{CProgram}
use Rattle.hc_cmach.specs.declared.kind.Kind.TheVariants.{Index, NoValue}
use Rattle.hc_schedule.specs.Threads as world
use Rattle.hc_cmach.specs.State.{Word, Frame, doing, storing, begun, Own, Shared, place_of, array_place, array_length, function_among}
use Rattle.hc_cmach.specs.Expression.{Value, Values, is_true, is_index, worth, worths, written}
use Rattle.hc_cmach.specs.Primitive.{CTurn, Spot, fails, primitive_turn}
use Rattle.hc_cmach.specs.Calls.{is_small, are_written}
use Rattle.hc_cmach.specs.Turn.{leads_to, assigns, writes, stores, or_nothing, chooses, turns, case_for, switches, enters, gives_back, returns, returned_value, with_written, argument_values, does_primitive, calls_function, calls, statement_turn, frame_turn}
use Rattle.hc_ccode.specs.declared.code.Case.{Case}
use Rattle.hc_ccode.specs.declared.code.Code.{Code}
use Rattle.hc_ccode.specs.declared.code.Node.{Node}
use Rattle.hc_ccode.specs.declared.code.Node.TheVariants as node
use Rattle.hc_ccode.specs.Placed.{placed, placed_all, placed_option, placed_target, placed_primitive}
use Rattle.hc_ccode.specs.Stages.{Stages, At, Begins, CallsFunction, CallAgrees, LeafAgrees, CasesAgree, AgreesHere, Agrees, IsCodeBy, Layer}
use Rattle.hc_cprim.specs.Worth.{worth_at, worths_at, seen_by}
use Rattle.hc_cprim.specs.Deeds as prim
use Rattle.hc_cprim.specs.Deeds.{Around, IsOf, IsSmall, AreWritten, deed_turn, IsDeedOf}
use Rattle.hc_cprim.specs.declared.deed.Seat.{Seat}
use Rattle.hc_cprim.specs.declared.deed.Way.TheVariants as way
use Rattle.hc_cprim.specs.declared.deed.Deed.{Deed}
use Rattle.hc_cprim.specs.declared.deed.Deed.TheVariants as deed
use Rattle.hc_cprim.proofs.Same.{worth_same, worths_same}
use Rattle.hc_cexec.specs.declared.activation.Activation.{Activation}
use Rattle.hc_cexec.specs.declared.thread.Thread.{Thread}
use Rattle.hc_cexec.specs.declared.asked.Act.TheVariants as act
use Rattle.hc_cexec.specs.declared.asked.Then.TheVariants as then
use Rattle.hc_cexec.specs.declared.asked.Asked.{Asked}
use Rattle.hc_cexec.specs.declared.asked.Asked.TheVariants as asked
use Rattle.hc_cexec.specs.Asks as asks
use Rattle.hc_cexec.specs.Asks.{View, AsksAt, Performs, PerformsWith, SetsLiteral, Calls, AreReady}
use Rattle.hc_cexec.specs.Goes.{went, with_row}
use Rattle.hc_cexec.specs.Means.{Means}
use Rattle.hc_cexec.specs.Stands.{StackIs, HasRooms, HasSpace, OwnIs}
use Rattle.hc_cexec.proofs.Going.{on_is, back_own, back_is, into_is}
use Rattle.hc_cexec.proofs.Codes.{HasEntry, entry_at}

-- ---- primitives that take all arguments as values

pub record IsPlain (g : CProgram) (names : List Word) (target : Option Word) (p : Primitive) (es : List CExpr) (next : ℕ) : Type 0 where
  pub node : placed_primitive g names target p es next ≡ node.Primitive p (placed_all g names es) (placed_target names target) next
  pub arguments : (s : Spot) → argument_values g s p es ≡ worths g s.frame s.seen es
  pub written : (zs : List ℤ) → AreWritten p zs

abbrev pub is_set : Primitive → Bool
is_set FrSet = true
is_set _ = false

pub plain : (g : CProgram) (names : List Word) (target : Option Word) (p : Primitive) (es : List CExpr) (next : ℕ) → is_set p ≡ false → IsPlain g names target p es next
plain g names target FrSet es next e = absurd (cc)
plain g names target p es next e = record { node = refl; arguments = λ s. refl; written = λ zs. tt }

few : (p : Primitive) → count p ≤ 6
few p = search (rules)

small_written : (zs : List ℤ) (n m : ℤ) → IsSmall n m → AreWritten FrSet (zs ++ n ∷ m ∷ [])
small_written [] n m h = tt
small_written (x ∷ []) n m h = tt
small_written (x ∷ y ∷ []) n m h = h
small_written (x ∷ y ∷ z ∷ []) n m h = tt
small_written (x ∷ y ∷ z ∷ w ∷ []) n m h = tt
small_written (x ∷ y ∷ z ∷ w ∷ v ∷ zs) n m h = tt

both : (a b : Bool) → IsTrue (a && b) → IsTrue a × IsTrue b
both true true h = (refl, refl)
both true false h = absurd (cc)
both false b h = absurd (cc)

length_placed : (g : CProgram) (names : List Word) (es : List CExpr) → length (placed_all g names es) ≡ length es
length_placed g names [] = refl
length_placed g names (e ∷ es) = ap suc (length_placed g names es)

module _ (g : CProgram) (c : Code) (t : Stages) (code : IsCodeBy g c t) (seat : Seat) (m : Shared) (common : seat.common.now ≡ m.row)
    (of : (q : Around) → q.program ≡ g → IsOf seat q) (there : List ℤ) (space : HasSpace c.functions there) (six : 6 ≤ length there)
    (th : Thread) (row : List Rational) (same_row : th.row ≡ row) (seat_row : seat.row.now ≡ row) (f : Frame) (fs : List Frame)
    (stack : StackIs t th.activations th.current (f ∷ fs)) (rooms : HasRooms c.functions th.activations) where
  abbrev i : ℕ
  i = stack.0.place

  abbrev a : Activation
  a = stack.0.activation

  abbrev view : View
  view = record { values = a.values; owns = seat.owns; arrays = m.arrays; gives = a.gives }

  abbrev spot : List CStmt → Spot
  spot rest = record { thread = seat.thread; row = row; seen = seen_by seat.owns m; frame = f; below = fs; rest = rest }

  abbrev IsMeant : Asked → CTurn → Type 0
  IsMeant x turn = Means c.functions t there m th x turn

  -- ---- values

  same_value : (e : CExpr) → asks.valued view (placed g f.names e) ≡ worth g f (seen_by seat.owns m) e
  same_value e =
      ap (λ (vs : List ℤ). worth_at vs seat.owns m.arrays (placed g f.names e)) stack.0.frame.values ∙ worth_same g f m seat.owns e

  same_values : (es : List CExpr) → asks.all_valued view (placed_all g f.names es) ≡ worths g f (seen_by seat.owns m) es
  same_values es =
      ap (λ (vs : List ℤ). worths_at vs seat.owns m.arrays (placed_all g f.names es)) stack.0.frame.values ∙ worths_same g f m seat.owns es

  -- ---- ways to go on

  abbrev on_own : List Rational → Option Word → ℤ → List CStmt → Own
  on_own r target z todo = record { row = r; frames = storing f target z todo ∷ fs }

  leads : (rest : List CStmt) (place : ℕ) (todo : List CStmt) → At t f.names i place todo → IsMeant (asks.leads place) (leads_to (spot rest) todo)
  leads rest place todo at =
      record { own = on_own row None (pos 0) todo; is = refl; goes = on_is c.functions t there th row f fs same_row stack rooms None (pos 0) place todo at }

  -- ---- returns

  given : (gs : List Frame) (z : ℤ) → gives_back row f.target z gs ≡ world.Does (world.Goes (back_own c.functions t there th row f fs same_row stack rooms gs z))
  given [] z = refl
  given (h ∷ hs) z = refl

  gives_as : (z : ℤ) → IsMeant (asks.gives_back (Ok z)) (gives_back row f.target z fs)
  gives_as z = record { own = back_own c.functions t there th row f fs same_row stack rooms fs z; is = given fs z; goes = back_is c.functions t there th row f fs same_row stack rooms z }

  value_given_as : (rest : List CStmt) (v : Value) → IsMeant (asks.gives_back v) (returns (spot rest) v)
  value_given_as rest (Err k) = refl
  value_given_as rest (Ok z) = gives_as z

  returns_as : (rest : List CStmt) (e : Option CExpr) → IsMeant (asks.returns view (placed_option g f.names e)) (returns (spot rest) (returned_value g (spot rest) e))
  returns_as rest None = gives_as (pos 0)
  returns_as rest (Some e) =
      subst (λ (v : Value). IsMeant (asks.gives_back v) (returns (spot rest) (worth g f (seen_by seat.owns m) e))) (sym (same_value e))
      (value_given_as rest (worth g f (seen_by seat.owns m) e))

  -- ---- assignments and stores

  module _ (rest : List CStmt) (next : ℕ) (at : At t f.names i next rest) where
    sets_as : (x : Word) (v : Value) → IsMeant (asks.sets (place_of x f.names) next v) (assigns (spot rest) x v)
    sets_as x (Err k) = refl
    sets_as x (Ok z) =
        record { own = on_own row (Some x) z rest; is = refl; goes = on_is c.functions t there th row f fs same_row stack rooms (Some x) z next rest at }

    writes_as : (o : Bool) (x i : ℕ) (z : ℤ) → IsMeant (asks.stored o x i z next) (writes (spot rest) x i z (seen_by o m))
    writes_as false x i z = refl
    writes_as true x i z =
        record { own = on_own row None z rest; is = refl; goes = on_is c.functions t there th row f fs same_row stack rooms None z next rest at }

    tested_as : (b : Bool) (x i : ℕ) (z : ℤ) →
        IsMeant (if b then asks.stored seat.owns x i z next else asked.Fails Index) (if b then writes (spot rest) x i z (seen_by seat.owns m) else fails Index)
    tested_as true x i z = writes_as seat.owns x i z
    tested_as false x i z = refl

    stores_as : (x : Word) (v w : Value) → IsMeant (asks.stores seat.owns (array_place g x) (array_length g x) next v w) (stores g (spot rest) x v w)
    stores_as x (Err k) w = refl
    stores_as x (Ok n) (Err k) = refl
    stores_as x (Ok n) (Ok z) = tested_as (is_index n (array_length g x)) (array_place g x) (unsigned_abs n) z

    -- ---- calls

    enters_as : (target : Option Word) (j : ℕ) (callee : CFunction) (e : HasEntry t c.functions 0 j callee) (n : ℕ) (vs : Values) → j < i →
        n ≡ length callee.params → AreReady vs n there → IsMeant (asks.enters j (placed_target f.names target) next vs) (enters (spot rest) target callee vs)
    enters_as target j callee e n (Err k) low even ready = refl
    enters_as target j callee e n (Ok zs) low even ready =
        let begins = subst (λ (k : ℕ). Begins t k callee.params callee.body callee.gives e.entry) (let z : 0 + j ≡ j = omega arith in z) e.begins in
        let enough = space j e.entry e.stands in
        let same : n ≡ e.entry.params = even ∙ sym begins.params in
        record {
          own = record { row = row; frames = begun target callee.gives callee.params zs callee.body ∷ doing f rest ∷ fs };
          is = refl;
          goes = into_is c.functions t there th row f fs same_row stack rooms j e.entry callee zs target next rest e.stands begins low at enough
              (subst (λ (k : ℕ). take k there ≡ zs) same ready);
        }

    abbrev around : Option Word → Around
    around target = record { program = g; target = target; frame = f; below = fs; rest = rest; arrays = m.arrays }

    abbrev shared_same : prim.shared seat (around None) ≡ m
    shared_same = ap (λ (r : List Rational). record { row = r; arrays = m.arrays }) common

    same_spot : (target : Option Word) → prim.spot seat (around target) ≡ spot rest
    same_spot target =
        ap₂ (λ (r : List Rational) (s : Shared). record { thread = seat.thread; row = r; seen = seen_by seat.owns s; frame = f; below = fs; rest = rest })
        seat_row shared_same

    here_row : th.row ≡ seat.row.now
    here_row = same_row ∙ sym seat_row

    abbrev behind_own : Option Word → ℤ → Own
    behind_own target z = on_own seat.row.now target z rest

    going : (target : Option Word) (z : ℤ) →
        OwnIs c.functions t (went c.functions there (then.On (placed_target f.names target) z next) th) (behind_own target z)
    going target z = on_is c.functions t there th seat.row.now f fs here_row stack rooms target z next rest at

    done_as : (target : Option Word) (x : Deed) → IsMeant (asks.done x (placed_target f.names target) next) (deed_turn seat (around target) x)
    done_as target (deed.Fails k) = refl
    done_as target (deed.Divides r b k) = refl
    done_as target (deed.Gives z) = record { own = behind_own target z; is = refl; goes = going target z }
    done_as target (deed.Puts way.Its d v z) =
        record {
          own = on_own (slice_set seat.row.now d v) target z rest;
          is = refl;
          goes = on_is c.functions t there (with_row (act.PutsOwn d v) th) (slice_set seat.row.now d v) f fs
              (ap (λ (r : List Rational). slice_set r d v) here_row) stack rooms target z next rest at;
        }
    done_as target (deed.Puts way.Common d v z) =
        record {
          own = behind_own target z;
          is = ap (λ (r : List Rational). world.Does (world.Works (behind_own target z) (record { row = slice_set r d v; arrays = m.arrays }))) common;
          goes = going target z;
        }
    done_as target (deed.Puts (way.Beyond k) d v z) = refl
    done_as target (deed.Prints l) = record { own = behind_own target (pos 0); is = refl; goes = going target (pos 0) }
    done_as target deed.Locks = record { own = behind_own target (pos 0); is = refl; goes = going target (pos 0) }
    done_as target deed.Unlocks = record { own = behind_own target (pos 0); is = refl; goes = going target (pos 0) }
    done_as target (deed.Waits k) = record { own = behind_own target (pos 0); is = refl; goes = going target (pos 0) }
    done_as target (deed.Wakes k) = record { own = behind_own target (pos 0); is = refl; goes = going target (pos 0) }

    performs_as : (target : Option Word) (p : Primitive) (zs : List ℤ) (x : Asked) → AreWritten p zs →
        Performs seat p zs (placed_target f.names target) next x → IsMeant x (primitive_turn g (spot rest) target p zs)
    performs_as target p zs x written h =
        let turn : primitive_turn g (prim.spot seat (around target)) target p zs ≡ deed_turn seat (around target) h.deed =
        h.of (around target) (of (around target) refl) written in
        subst (λ (y : Asked). IsMeant y (primitive_turn g (spot rest) target p zs)) (sym h.is)
        (
        subst (λ (s : Spot). IsMeant (asks.done h.deed (placed_target f.names target) next) (primitive_turn g s target p zs)) (same_spot target)
        (subst (λ (u : CTurn). IsMeant (asks.done h.deed (placed_target f.names target) next) u) (sym turn) (done_as target h.deed))
        )

    performs_with : (target : Option Word) (p : Primitive) (vs : Values) (x : Asked) → ((zs : List ℤ) → AreWritten p zs) →
        PerformsWith seat p vs (placed_target f.names target) next x → IsMeant x (does_primitive g (spot rest) target p vs)
    performs_with target p (Err k) x written h = subst (λ (y : Asked). IsMeant y (fails k)) (sym h) refl
    performs_with target p (Ok zs) x written h = performs_as target p zs x (written zs) h

    literal_as : (target : Option Word) (n k : CExpr) (vs : Values) (x : Asked) → IsSmall (written n) (written k) →
        SetsLiteral seat vs (written n) (written k) (placed_target f.names target) next x →
        IsMeant x (does_primitive g (spot rest) target FrSet (with_written vs n k))
    literal_as target n k (Err e) x small h = subst (λ (y : Asked). IsMeant y (fails e)) (sym h) refl
    literal_as target n k (Ok zs) x small h =
        performs_as target FrSet (zs ++ written n ∷ written k ∷ []) x (small_written zs (written n) (written k) small) h

    small_is : (e : CExpr) → IsTrue (is_small e) → unsigned_abs (written e) < 2 ^ 63
    small_is e h = search (rules)

    plain_as : (target : Option Word) (p : Primitive) (es : List CExpr) (x : Asked) → IsPlain g f.names target p es next → count p ≡ length es →
        AsksAt seat view (placed_primitive g f.names target p es next) there x → IsMeant x (does_primitive g (spot rest) target p (argument_values g (spot rest) p es))
    plain_as target p es x h even asked_here =
        let room : length (placed_all g f.names es) ≤ length there =
        (let n = few p in let l = length_placed g f.names es in omega (arith, n, l, six, even)) in
        let asked : PerformsWith seat p (asks.all_valued view (placed_all g f.names es)) (placed_target f.names target) next x =
        subst (λ (n : Node). AsksAt seat view n there x) h.node asked_here room in
        subst (λ (vs : Values). IsMeant x (does_primitive g (spot rest) target p vs)) (sym (h.arguments (spot rest)))
        (
        performs_with target p (worths g f (seen_by seat.owns m) es) x h.written
        (subst (λ (vs : Values). PerformsWith seat p vs (placed_target f.names target) next x) (same_values es) asked)
        )

    set_as : (target : Option Word) (r d n k : CExpr) (x : Asked) → IsTrue (is_small n && is_small k) →
        SetsLiteral seat (asks.all_valued view (placed g f.names r ∷ placed g f.names d ∷ [])) (written n) (written k) (placed_target f.names target) next x →
        IsMeant x (does_primitive g (spot rest) target FrSet (argument_values g (spot rest) FrSet (r ∷ d ∷ n ∷ k ∷ [])))
    set_as target r d n k x small asked_here =
        let parts = both (is_small n) (is_small k) small in
        literal_as target n k (worths g f (seen_by seat.owns m) (r ∷ d ∷ [])) x (record { first = small_is n parts.0; second = small_is k parts.1 })
        (
        subst (λ (vs : Values). SetsLiteral seat vs (written n) (written k) (placed_target f.names target) next x) (same_values (r ∷ d ∷ []))
        asked_here
        )

    primitive_as : (target : Option Word) (p : Primitive) (es : List CExpr) (x : Asked) → count p ≡ length es → IsTrue (are_written p es) →
        AsksAt seat view (placed_primitive g f.names target p es next) there x → IsMeant x (does_primitive g (spot rest) target p (argument_values g (spot rest) p es))
    primitive_as target FrSet [] x even small asked_here = absurd (cc)
    primitive_as target FrSet (r ∷ []) x even small asked_here = absurd (cc)
    primitive_as target FrSet (r ∷ d ∷ []) x even small asked_here = absurd (cc)
    primitive_as target FrSet (r ∷ d ∷ n ∷ []) x even small asked_here = absurd (cc)
    primitive_as target FrSet (r ∷ d ∷ n ∷ k ∷ []) x even small asked_here = set_as target r d n k x small asked_here
    primitive_as target FrSet (r ∷ d ∷ n ∷ k ∷ e ∷ es) x even small asked_here = absurd (cc)
    primitive_as target p es x even small asked_here = plain_as target p es x (plain g f.names target p es next refl) even asked_here

    function_as : (target : Option Word) (what : Word) (es : List CExpr) (n : Node) (x : Asked) → CallsFunction g f.names i next n target what es →
        AsksAt seat view n there x → IsMeant x (calls_function g (spot rest) target (function_among what g.functions) es)
    function_as target what es n x h asked_here =
        let e = entry_at t 0 c.functions g.functions h.place h.callee code.functions h.stands in
        let vs = worths g f (seen_by seat.owns m) es in
        let even : length (placed_all g f.names es) ≡ length h.callee.params = length_placed g f.names es ∙ sym h.even in
        let room : length (placed_all g f.names es) ≤ length there =
        (let p = e.begins.params in let s = space h.place e.entry e.stands in omega (arith, even, p, s)) in
        let asked : Calls view h.place (placed_all g f.names es) (placed_target f.names target) next there x =
        subst (λ (n : Node). AsksAt seat view n there x) h.is asked_here room in
        subst (λ (o : Option CFunction). IsMeant x (calls_function g (spot rest) target o es)) (sym h.named)
        (
        subst (λ (y : Asked). IsMeant y (enters (spot rest) target h.callee vs)) (sym asked.is)
        (
        subst (λ (us : Values). IsMeant (asks.enters h.place (placed_target f.names target) next us) (enters (spot rest) target h.callee vs)) (sym (same_values es))
        (
        enters_as target h.place h.callee e (length (placed_all g f.names es)) vs h.before even
        (subst (λ (us : Values). AreReady us (length (placed_all g f.names es)) there) (same_values es) asked.ready)
        )
        )
        )

    call_as : (target : Option Word) (what : Word) (es : List CExpr) (n : Node) (x : Asked) (o : Option Primitive) → CallAgrees g f.names i next n target what es o →
        AsksAt seat view n there x → IsMeant x (calls g (spot rest) target what o es)
    call_as target what es n x (Some p) h asked_here =
        primitive_as target p es x h.even h.written (subst (λ (n : Node). AsksAt seat view n there x) h.is asked_here)
    call_as target what es n x None h asked_here = function_as target what es n x h asked_here

    -- ---- statements without parts

    leaf_as : (head : CStmt) (y : Layer) (n : Node) (x : Asked) → LeafAgrees g f.names i next n y → AsksAt seat view n there x →
        IsMeant x (statement_turn g (spot rest) head y)
    leaf_as head (CStmt-F.Set v e) n x h asked_here =
        subst (λ (y : Asked). IsMeant y (assigns (spot rest) v (worth g f (seen_by seat.owns m) e)))
        (
        sym
        (
        subst (λ (n : Node). AsksAt seat view n there x) h asked_here
        ∙ ap (asks.sets (place_of v f.names) next) (same_value e)
        )
        )
        (sets_as v (worth g f (seen_by seat.owns m) e))
    leaf_as head (CStmt-F.Store v j e) n x h asked_here =
        let index = worth g f (seen_by seat.owns m) j in
        let value = worth g f (seen_by seat.owns m) e in
        subst (λ (y : Asked). IsMeant y (stores g (spot rest) v index value))
        (
        sym
        (
        subst (λ (n : Node). AsksAt seat view n there x) h asked_here
        ∙ ap₂ (asks.stores seat.owns (array_place g v) (array_length g v) next) (same_value j) (same_value e)
        )
        )
        (stores_as v index value)
    leaf_as head (CStmt-F.Call target what es) n x h asked_here = call_as target what es n x (primitive_named what) h asked_here
    leaf_as head (CStmt-F.Return e) n x h asked_here =
        subst (λ (y : Asked). IsMeant y (returns (spot rest) (returned_value g (spot rest) e))) (sym (subst (λ (n : Node). AsksAt seat view n there x) h asked_here))
        (returns_as rest e)
    leaf_as head _ n x h asked_here = absurd h

  -- ---- statements

  chooses_as : (rest : List CStmt) (v : Value) (then_at else_at : ℕ) (first other : List CStmt) → At t f.names i then_at (first ++ rest) → At t f.names i else_at (other ++ rest) →
      IsMeant (asks.branches then_at else_at v) (chooses (spot rest) v first other)
  chooses_as rest (Err k) then_at else_at first other y n = refl
  chooses_as rest (Ok z) then_at else_at first other y n = chosen (is_true z)
    where
      chosen : (b : Bool) → IsMeant (asks.leads (if b then then_at else else_at)) (leads_to (spot rest) ((if b then first else other) ++ rest))
      chosen true = leads rest then_at (first ++ rest) y
      chosen false = leads rest else_at (other ++ rest) n

  turns_as : (rest : List CStmt) (v : Value) (then_at else_at : ℕ) (loop : CStmt) (body : List CStmt) → At t f.names i then_at (body ++ loop ∷ rest) → At t f.names i else_at rest →
      IsMeant (asks.branches then_at else_at v) (turns (spot rest) v loop body)
  turns_as rest (Err k) then_at else_at loop body y n = refl
  turns_as rest (Ok z) then_at else_at loop body y n = turned (is_true z)
    where
      turned : (b : Bool) → IsMeant (asks.leads (if b then then_at else else_at)) (leads_to (spot rest) (if b then body ++ loop ∷ rest else rest))
      turned true = leads rest then_at (body ++ loop ∷ rest) y
      turned false = leads rest else_at rest n

  found_at : (rest : List CStmt) (z : ℤ) (w : Case) (ws : List Case) (y : CCase) (ys : List CCase) (q : ℕ) (otherwise : List CStmt) (b : Bool) →
      At t f.names i w.place ((out-CCase y).body ++ rest) → At t f.names i (asks.case_at z ws q) (case_for z ys otherwise ++ rest) →
      At t f.names i (if b then w.place else asks.case_at z ws q) ((if b then (out-CCase y).body else case_for z ys otherwise) ++ rest)
  found_at rest z w ws y ys q otherwise true here later = here
  found_at rest z w ws y ys q otherwise false here later = later

  case_is : (rest : List CStmt) (z : ℤ) (ws : List Case) (cs : List CCase) (q : ℕ) (otherwise : List CStmt) → CasesAgree t f.names i rest ws cs →
      At t f.names i q (otherwise ++ rest) → At t f.names i (asks.case_at z ws q) (case_for z cs otherwise ++ rest)
  case_is rest z [] [] q otherwise agree at = at
  case_is rest z [] (y ∷ ys) q otherwise agree at = absurd agree
  case_is rest z (w ∷ ws) [] q otherwise agree at = absurd agree
  case_is rest z (w ∷ ws) (y ∷ ys) q otherwise agree at =
      subst (λ (k : ℤ). At t f.names i (asks.case_at z (w ∷ ws) q) ((if int_eq z k then (out-CCase y).body else case_for z ys otherwise) ++ rest)) agree.0
      (found_at rest z w ws y ys q otherwise (int_eq z w.number) agree.1 (case_is rest z ws ys q otherwise agree.2 at))

  switches_as : (rest : List CStmt) (v : Value) (ws : List Case) (cs : List CCase) (q : ℕ) (otherwise : List CStmt) → CasesAgree t f.names i rest ws cs →
      At t f.names i q (otherwise ++ rest) → IsMeant (asks.switches ws q v) (switches (spot rest) v cs otherwise)
  switches_as rest (Err k) ws cs q otherwise agree at = refl
  switches_as rest (Ok z) ws cs q otherwise agree at =
      leads rest (asks.case_at z ws q) (case_for z cs otherwise ++ rest) (case_is rest z ws cs q otherwise agree at)

  module _ (head : CStmt) (rest : List CStmt) (n : Node) (x : Asked) (asked_here : AsksAt seat view n there x) where
    branch_as : (e : CExpr) (then_at else_at : ℕ) (turn : Value → CTurn) → n ≡ node.Branch (placed g f.names e) then_at else_at →
        IsMeant (asks.branches then_at else_at (worth g f (seen_by seat.owns m) e)) (turn (worth g f (seen_by seat.owns m) e)) →
        IsMeant x (turn (worth g f (seen_by seat.owns m) e))
    branch_as e then_at else_at turn is h =
        subst (λ (y : Asked). IsMeant y (turn (worth g f (seen_by seat.owns m) e)))
        (sym (subst (λ (n : Node). AsksAt seat view n there x) is asked_here ∙ ap (asks.branches then_at else_at) (same_value e))) h

    statement_as : (y : Layer) → AgreesHere g t f.names i n head rest y → IsMeant x (statement_turn g (spot rest) head y)
    statement_as (CStmt-F.If e first other) h =
        branch_as e h.0 h.1 (λ v. chooses (spot rest) v first (or_nothing other)) h.2
        (chooses_as rest (worth g f (seen_by seat.owns m) e) h.0 h.1 first (or_nothing other) h.3 h.4)
    statement_as (CStmt-F.While e body) h =
        branch_as e h.0 h.1 (λ v. turns (spot rest) v head body) h.2
        (turns_as rest (worth g f (seen_by seat.owns m) e) h.0 h.1 head body h.3 h.4)
    statement_as (CStmt-F.Switch e cases otherwise) h =
        subst (λ (y : Asked). IsMeant y (switches (spot rest) (worth g f (seen_by seat.owns m) e) cases otherwise))
        (sym (subst (λ (n : Node). AsksAt seat view n there x) h.2 asked_here ∙ ap (asks.switches h.0 h.1) (same_value e)))
        (switches_as rest (worth g f (seen_by seat.owns m) e) h.0 cases h.1 otherwise h.3 h.4)
    statement_as (CStmt-F.Set v e) h = leaf_as rest h.0 h.2 head (CStmt-F.Set v e) n x h.1 asked_here
    statement_as (CStmt-F.Store v j e) h = leaf_as rest h.0 h.2 head (CStmt-F.Store v j e) n x h.1 asked_here
    statement_as (CStmt-F.Call target what es) h = leaf_as rest h.0 h.2 head (CStmt-F.Call target what es) n x h.1 asked_here
    statement_as (CStmt-F.Return e) h = leaf_as rest h.0 h.2 head (CStmt-F.Return e) n x h.1 asked_here

  -- ---- bodies

  ends_as : (b : Bool) → IsMeant (asks.ends b) (if b then fails NoValue else gives_back row f.target (pos 0) fs)
  ends_as true = refl
  ends_as false = gives_as (pos 0)

  pub frame_as : (todo : List CStmt) (n : Node) (x : Asked) → Agrees g t n f.names i todo → AsksAt seat view n there x →
      IsMeant x (frame_turn g seat.thread row (seen_by seat.owns m) f fs todo)
  frame_as [] n x h asked_here =
      subst (λ (y : Asked). IsMeant y (if f.gives then fails NoValue else gives_back row f.target (pos 0) fs))
      (sym (subst (λ (n : Node). AsksAt seat view n there x) h asked_here ∙ ap asks.ends stack.0.frame.gives)) (ends_as f.gives)
  frame_as (head ∷ rest) n x h asked_here = statement_as head rest n x asked_here (out-CStmt head) h
