-- How an evolution begins: its rates, what its branches send, its end moment, and whether that moment fits the clock.
use Rattle.std.specs.Prelude.{ℕ, List, [], ◌∷◌, ◌++◌, map, Some, None, codes}
use Rattle.hc_term.specs.declared.expr.Cond.{Cond}
use Rattle.hc_term.specs.declared.stmt.Io.{Io}
use Rattle.hc_term.specs.declared.stmt.Rate.{Rate}
use Rattle.hc_cast.specs.declared.expr.COp.TheVariants as op
use Rattle.hc_cast.specs.declared.expr.CExpr.TheVariants as e
use Rattle.hc_cast.specs.declared.stmt.CStmt.{CStmt}
use Rattle.hc_cast.specs.declared.stmt.CStmt.TheVariants as a
use Rattle.hc_cstep.specs.Locals.{v_ok, v_truth}
use Rattle.hc_cstep.specs.Stands.{rate_of, first_scratch}
use Rattle.hc_cstep.specs.Words.{number, set, is, move, clear, each}
use Rattle.hc_cstep.specs.Parts.{Parts}
use Rattle.hc_cstep.specs.Sending.{all_sent, sends_line}

-- fr_move(p, 128 + x, p, 320); behind the value of a rate
abbrev pub rate_block : Parts → ℕ → Rate → List CStmt
rate_block c p r = c.value r.value ++ move p (rate_of r.variable) first_scratch ∷ []

-- v_ok becomes 0 where there is an end later than now, and the clock plus it doesn't fit:
-- if (v_truth == 1) { fr_set(p, 321, 0, 1); v_truth = fr_cmp(p, 321, 320); if (v_truth < 0) { v_ok = fr_add(p, 322, 64, 320); } v_truth = 1; }
abbrev pub due_block : ℕ → List CStmt
due_block p =
    a.If (is v_truth 1)
    (
    clear p 321
    ∷ a.Call (Some v_truth) (codes "fr_cmp") (number p ∷ number 321 ∷ number 320 ∷ [])
    ∷ a.If (e.Binary op.Less (e.Local v_truth) (number 0)) (a.Call (Some v_ok) (codes "fr_add") (number p ∷ number 322 ∷ number 64 ∷ number 320 ∷ []) ∷ []) None
    ∷ set v_truth 1
    ∷ []
    )
    None
    ∷ []

abbrev pub evolves : Parts → ℕ → List Rate → Cond → List Io → List CStmt
evolves c p rates domain ios =
    ((each (map (rate_block c p) rates) ++ each (all_sent (sends_line c p rates) 0 ios)) ++ each (c.ends rates domain ∷ [])) ++ each (due_block p ∷ [])
