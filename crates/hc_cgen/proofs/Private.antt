-- Private code does what a section asks of it.
use Rattle.std.specs.Prelude.{◌≡◌, ℕ, ◌+◌, List, [], ◌∷◌, length, None}
use Rattle.std.proofs.Common.{◌∙◌, arith}
use Rattle.hc_rational.specs.Words.{Rational}
use Rattle.hc_term.specs.declared.task.Task.{Task}
use Rattle.hc_term.specs.Event.{progress}
use Rattle.hc_cast.specs.declared.stmt.CStmt.{CStmt}
use Rattle.hc_cast.specs.declared.program.CProgram.{CProgram}
use Rattle.hc_cmach.specs.State.{Word}
use Rattle.hc_cthreads.specs.Bodies.{v_done, v_x}
use Rattle.hc_cstep.specs.Locals.{Base}
use Rattle.hc_cstep.specs.Law as own
use Rattle.hc_csection.specs.PrivateLaw.{PrivateLaw}
use Rattle.hc_csection.specs.Words.{Codes, variables, room}

none_before : (n : ℕ) → 0 + n ≡ n
none_before n = omega arith

-- a thread outside of its section
abbrev pub outside : List Word → Base
outside scratch = record { shared = None; scratch = scratch; lines = []; wakes = [] }

pub law_there : (g : CProgram) (k : Codes) (t : Task) (p n : ℕ) (ss : List CStmt) →
    ((clock : Rational) → own.PrivateLaw g p n t.seed (outside (v_done ∷ v_x ∷ k.scratch p)) (k.table p) (variables t p) (room k p) clock ss) → PrivateLaw g k t p ss
law_there g k t p n ss law clock m q stands small =
    let h = law clock m q stands small in
    record {
      then = h.then;
      size = 2 + own.cost n m.most;
      runs = h.runs;
      stands = h.stands;
      counted = h.counted ∙ none_before (length (progress m.most t.seed p clock q).logs);
      ended = h.ended;
      logged = h.logged;
    }
