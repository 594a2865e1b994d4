-- Outside a section a run is what the thread does alone, by private steps, in the words of hc_schedule.
use Rattle.std.specs.Prelude.{◌≡◌, ◌≤◌, ◌+◌, ℕ, Bool, List, ◌++◌, Option, Some}
use Rattle.std.proofs.Common.{arith}
use Rattle.hc_cast.specs.declared.stmt.CStmt.{CStmt}
use Rattle.hc_cast.specs.declared.program.CProgram.{CProgram}
use Rattle.hc_schedule.specs.Solo.{alone}
use Rattle.hc_cmach.specs.State.{Word, Frame}
use Rattle.hc_cmach.specs.Line.{Line}
use Rattle.hc_cmach.specs.Turn.{c_code}
use Rattle.hc_clogic.specs.Runs.{Runs}
use Rattle.hc_clogic.proofs.Runs.{alone_of}
use Rattle.hc_cstep.specs.Locals.{Mine, view}
use Rattle.hc_cstep.specs.Premises.{case_steps}
use Rattle.hc_cstep.specs.Written.{private_code}
use Rattle.hc_cstep.specs.Law.{cost}
use Rattle.hc_cstep.specs.Alone.{outside, own_of}
use Rattle.hc_cstep.specs.Laws.{PrivateCodeRunsAlone}
use Rattle.hc_cstep.proofs.Whole.{private_law}

pub alone_runs : (g : CProgram) (p n : ℕ) (scratch : List Word) (lines : List Line) (wakes : List ℕ) (ss : List CStmt) (m w : Mine) →
    Runs g p n ss (view (outside scratch lines wakes) m) (view (outside scratch lines wakes) w) →
    (rest : List CStmt) (target : Option Word) (gives : Bool) (below : List Frame) →
    (k : ℕ) × (k ≤ n) ×
    (alone (c_code g) p k (own_of (outside scratch lines wakes) m (ss ++ rest) target gives below)
    ≡ Some (own_of (outside scratch lines wakes) w rest target gives below))
alone_runs g p n scratch lines wakes ss m w r rest target gives below =
    let l = r.by rest target gives below in
    (l.steps, l.few, alone_of g p l.steps (own_of (outside scratch lines wakes) m (ss ++ rest) target gives below) lines wakes _ l.comes)

pub private_alone : PrivateCodeRunsAlone
private_alone g p low scratch lines wakes t channels vars few room clock n late most seed c works code agree ruled m q s small =
    let r = private_law g p low (outside scratch lines wakes) t channels vars few room clock n late most seed c works code agree ruled m q s small in
    record {
      then = r.then;
      comes = alone_runs g p (2 + cost (case_steps most n late + 3) m.most) scratch lines wakes (private_code c p seed code) m r.then r.runs;
      stands = r.stands;
      counted = let counted = r.counted in omega (arith, counted);
      ended = r.ended;
      logged = r.logged;
    }
