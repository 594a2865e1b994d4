-- A program whose sections do what their outcomes say keeps all promises; so does one whose threads have such bodies, piece by piece.
use Rattle.hc_term.specs.declared.task.Task.{Task}
use Rattle.std.specs.Prelude.{ℕ}
use Rattle.hc_cast.specs.declared.program.CProgram.{CProgram}
use Rattle.hc_cmach.specs.State.{Own, Shared}
use Rattle.hc_cmach.specs.Turn.{c_code}
use Rattle.hc_cmach.specs.Machine.{opening}
use Rattle.hc_cthreads.specs.Promises.{IsNamedFor, Promises}
use Rattle.hc_cthreads.specs.Parts.{Words}
use Rattle.hc_cthreads.specs.Serving.{Works}
use Rattle.hc_cthreads.specs.Bodies.{Pieces}
use Rattle.hc_cthreads.proofs.Promising.{promises}
use Rattle.hc_cthreads.proofs.Serving.{serves}
use Rattle.hc_cthreads.specs.Pieces.{BodyWords, words_of, IsBuilt}
use Rattle.hc_cthreads.proofs.Working.{body_works}

pub keeps : (t : Task) (g : CProgram) (k : Words Own Shared) → IsNamedFor t g → Works (c_code g) k t (opening g) → Promises t g
keeps t g k named works = promises g k t named (serves (c_code g) k t (opening g) works)

pub keeps_built : (t : Task) (g : CProgram) (w : BodyWords) (bs : ℕ → Pieces) → IsNamedFor t g → IsBuilt g t w bs → Promises t g
keeps_built t g w bs named built = keeps t g (words_of t w bs) named (body_works g t w bs built)
