-- A thread that runs alone, statement by statement: inside a section, where it has the shared part, or outside, where it has none.
-- A run is said for all statements that may come behind and for all callers, so that runs join. This project's own.
use Rattle.std.specs.Prelude.{◌≡◌, ◌≤◌, ℕ, zero, suc, Bool, List, [], ◌∷◌, ◌++◌, length, replicate, slice_set, ℤ, pos, Option, Some, None, Ok}
use Rattle.hc_rational.specs.Words.{Rational}
use Rattle.hc_cast.specs.declared.expr.CExpr.{CExpr}
use Rattle.hc_cast.specs.declared.stmt.CStmt.{CStmt}
use Rattle.hc_cast.specs.declared.program.CFunction.{CFunction}
use Rattle.hc_cast.specs.declared.program.CProgram.{CProgram}
use Rattle.hc_schedule.specs.Threads.{Act, Goes, Wakes, Works, Prints, Returned, Fails, Does}
use Rattle.hc_cmach.specs.State.{Word, Frame, place_of, Own, Shared}
use Rattle.hc_cmach.specs.Line.{Line}
use Rattle.hc_schedule.specs.Solo.{Solo, then_solo}
use Rattle.hc_cmach.specs.Expression.{worth, worths}
use Rattle.hc_cmach.specs.Primitive.{CTurn}
use Rattle.hc_cmach.specs.Turn.{c_code}

-- a thread alone: what is its own, the shared part while it owns the mutex, the lines it has printed, and the numbers it has broadcast on
pub record Lone : Type 0 where
  pub own : Own
  pub shared : Option Shared
  pub lines : List Line
  pub wakes : List ℕ

-- what an act makes of it inside a section
abbrev pub ahead_inside : Lone → Act Own Shared Line → Option Shared → Option Lone
ahead_inside x a None = None
ahead_inside x (Works own m) (Some s) = Some (record { own = own; shared = Some m; lines = x.lines; wakes = x.wakes })
ahead_inside x (Prints own l) (Some s) = Some (record { own = own; shared = Some s; lines = x.lines ++ l ∷ []; wakes = x.wakes })
ahead_inside x (Wakes k own) (Some s) = Some (record { own = own; shared = Some s; lines = x.lines; wakes = k ∷ x.wakes })
ahead_inside x a (Some s) = None

-- what an act makes of it; none where the mutex would be taken or given up
abbrev pub ahead_act : Lone → Act Own Shared Line → Option Lone
ahead_act x (Goes own) = Some (record { own = own; shared = x.shared; lines = x.lines; wakes = x.wakes })
ahead_act x a = ahead_inside x a x.shared

abbrev pub ahead_turn : Lone → CTurn → Option Lone
ahead_turn x Returned = None
ahead_turn x (Fails f) = None
ahead_turn x (Does a) = ahead_act x a

-- its next step
abbrev pub ahead : CProgram → ℕ → Lone → Option Lone
ahead g t x = ahead_turn x ((c_code g).turn t x.own x.shared)

-- and after n steps
abbrev pub aheads : CProgram → ℕ → ℕ → Lone → Option Lone
aheads g t zero x = Some x
aheads g t (suc n) x = then_solo (aheads g t n) (ahead g t x)

-- a view of a thread: all that its statements can change, which is its row, the shared part, the values of the names of the body that runs, the lines and the broadcasts
pub record View : Type 0 where
  pub row : List Rational
  pub shared : Option Shared
  pub names : List Word
  pub values : List ℤ
  pub lines : List Line
  pub wakes : List ℕ

-- the thread with this view, with these statements to do in a body that was called so, from these frames
abbrev pub at : View → List CStmt → Option Word → Bool → List Frame → Lone
at v ss target gives below = record {
  own = record {
    row = v.row;
    frames = record { names = v.names; values = v.values; todo = ss; target = target; gives = gives } ∷ below;
  };
  shared = v.shared;
  lines = v.lines;
  wakes = v.wakes;
}

-- a function's view at its first statement, called from v with these values of its parameters
abbrev pub entered : View → CFunction → List ℤ → View
entered v f zs = record {
  row = v.row;
  shared = v.shared;
  names = f.params ++ f.body.locals;
  values = zs ++ replicate (length f.body.locals) (pos 0);
  lines = v.lines;
  wakes = v.wakes;
}

-- the caller's values once the local that takes the result, if one does, has taken z
abbrev pub kept : View → Option Word → ℤ → List ℤ
kept v None z = v.values
kept v (Some x) z = slice_set v.values (place_of x v.names) z

-- the caller's view v once the function has come to w and given z
abbrev pub back : View → View → Option Word → ℤ → View
back v w target z = record { row = w.row; shared = w.shared; names = v.names; values = kept v target z; lines = w.lines; wakes = w.wakes }

-- the frame of a caller, and what it has still to do
abbrev pub caller : View → List CStmt → Option Word → Bool → Frame
caller v rest target gives = record { names = v.names; values = v.values; todo = rest; target = target; gives = gives }

module _ (g : CProgram) (t : ℕ) where
  -- x leads to y in at most n steps
  pub record Leads (n : ℕ) (x y : Lone) : Type 0 where
    pub steps : ℕ
    pub few : steps ≤ n
    pub comes : aheads g t steps x ≡ Some y

  -- these statements lead from v to w in at most n steps, whatever comes behind them and whoever called
  pub record Runs (n : ℕ) (ss : List CStmt) (v w : View) : Type 0 where
    pub by : (rest : List CStmt) (target : Option Word) (gives : Bool) (below : List Frame) → Leads n (at v (ss ++ rest) target gives below) (at w rest target gives below)

  -- the value of an expression at v, whatever comes behind
  abbrev pub Is : View → CExpr → ℤ → Type 0
  Is v e z =
      (rest : List CStmt) (target : Option Word) (gives : Bool) →
      worth g (record { names = v.names; values = v.values; todo = rest; target = target; gives = gives }) v.shared e ≡ Ok z

  -- the values of arguments at v, whatever comes behind
  abbrev pub Are : View → List CExpr → List ℤ → Type 0
  Are v es zs = (rest : List CStmt) (target : Option Word) (gives : Bool) → worths g (caller v rest target gives) v.shared es ≡ Ok zs

-- ---- outside a section and inside one

abbrev pub outside : Own → List Line → List ℕ → Lone
outside own lines wakes = record { own = own; shared = None; lines = lines; wakes = wakes }

abbrev pub inside : Solo Own Shared Line → Lone
inside s = record { own = s.own; shared = Some s.shared; lines = s.lines; wakes = s.wakes }
