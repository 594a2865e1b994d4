-- The C of a section but for posting and taking over: entering the steps, the test whether to wait, and the frame of the report.
use Rattle.std.specs.Prelude.{◌≡◌, ℕ, List, [], ◌∷◌, ◌++◌, codes}
use Rattle.hc_term.specs.declared.task.Task.{Task}
use Rattle.hc_cast.specs.declared.expr.CExpr.{CExpr}
use Rattle.hc_cast.specs.declared.expr.CExpr.TheVariants as e
use Rattle.hc_cast.specs.declared.stmt.CStmt.{CStmt}
use Rattle.hc_cast.specs.declared.stmt.CStmt.TheVariants.{Store}
use Rattle.hc_cast.specs.declared.program.CFunction.{CFunction}
use Rattle.hc_cast.specs.declared.program.CProgram.{CProgram}
use Rattle.hc_cthreads.specs.Bodies.{v_x}
use Rattle.hc_cbuild.specs.Written.{number, local, element, first_of, sum, difference, less, equals, both, below_one, call, take_call, if_then, if_else, return_value, procedure, function}
use Rattle.hc_core_c.specs.Code.{p, x}
use Rattle.hc_cstep.specs.Locals.{v_steps, v_end}
use Rattle.hc_core_c.specs.Owner.{Has}

-- ---- functions

-- if (v_end == 2) { out_log(v_p, 64, v_p, 65); }
abbrev pub logs : CStmt
logs = if_then (equals (local v_end) (number 2)) (call (codes "out_log") (local p ∷ number 64 ∷ local p ∷ number 65 ∷ []) ∷ [])

-- a stop of its own: f_stop(4, v_p); f_wakes();
abbrev pub overflows : List CStmt
overflows = call (codes "f_stop") (number 4 ∷ local p ∷ []) ∷ call (codes "f_wakes") [] ∷ []

-- whether fewer steps are counted than the limit
abbrev pub has_room : CExpr
has_room = less (first_of (codes "a_steps")) (first_of (codes "a_limit"))

-- all of the steps are entered: a_steps[0] = a_steps[0] + v_steps; logs if (v_end == 3 && a_steps[0] < a_limit[0]) { overflows }
abbrev pub enters_all : List CStmt
enters_all =
    Store (codes "a_steps") (number 0) (sum (first_of (codes "a_steps")) (local v_steps))
    ∷ logs
    ∷ if_then (both (equals (local v_end) (number 3)) has_room) overflows
    ∷ []

-- f_enter(v_p, v_steps, v_end): of more steps than the limit leaves only that many are entered, below_one of which logs
abbrev pub f_enter : CFunction
f_enter =
    procedure (codes "f_enter") (p ∷ v_steps ∷ v_end ∷ []) []
    (
    if_else (less (difference (first_of (codes "a_limit")) (first_of (codes "a_steps"))) (local v_steps))
    (Store (codes "a_steps") (number 0) (first_of (codes "a_limit")) ∷ [])
    enters_all
    ∷ []
    )

-- f_idle(v_p): whether no stop stands, and p has neither ended nor something to do
abbrev pub f_idle : CFunction
f_idle =
    function (codes "f_idle") (p ∷ []) (x ∷ [])
    (
    take_call x (codes "f_able") (local p ∷ [])
    ∷ return_value (both (both (below_one (first_of (codes "a_stop"))) (below_one (local x))) (less (element (codes "a_phase") (local p)) (number 2)))
    ∷ []
    )

abbrev pub section_functions : List CFunction
section_functions = f_enter ∷ f_idle ∷ []

-- a program that has the core and these functions behind it
pub record HasSections (g : CProgram) (P C : ℕ) : Type 0 where
  pub has : Has g P C
  pub more : List CFunction
  pub sections : has.others ≡ section_functions ++ more

-- ---- the pieces of thread n's body

-- fr_set(64, 67, horizon); a_limit[0] = limit; a_self[0] = n;
abbrev pub sets : Task → ℕ → List CStmt
sets t n =
    call (codes "fr_set") (number 64 ∷ number 67 ∷ e.Number t.horizon.num ∷ number t.horizon.den ∷ [])
    ∷ Store (codes "a_limit") (number 0) (number t.limit)
    ∷ Store (codes "a_self") (number 0) (number n)
    ∷ []

-- and f_enter(n, v_steps, v_end);
abbrev pub enter_steps : Task → ℕ → List CStmt
enter_steps t n = sets t n ++ call (codes "f_enter") (number n ∷ local v_steps ∷ local v_end ∷ []) ∷ []

-- v_x = f_idle(n);
abbrev pub idle_test : ℕ → List CStmt
idle_test n = take_call v_x (codes "f_idle") (number n ∷ []) ∷ []

-- f_pass();
abbrev pub pass_call : List CStmt
pass_call = call (codes "f_pass") [] ∷ []

-- a_stop[0] < 1, and a_steps[0] < a_limit[0]
abbrev pub no_stop : CExpr
no_stop = below_one (first_of (codes "a_stop"))
