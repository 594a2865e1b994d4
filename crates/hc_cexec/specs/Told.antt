-- What is told of a line, in the words of the code.
use Rattle.std.specs.Prelude.{◌≡◌, ℕ, Option, Some, None}
use Rattle.hc_cast.specs.declared.program.CProgram.{CProgram}
use Rattle.hc_cmach.specs.Line.{line_text}
use Rattle.hc_cprim.specs.Deeds.{line_of}
use Rattle.hc_cprim.specs.declared.deed.Line.{Line}
use Rattle.hc_cprim.specs.declared.deed.Line.TheVariants.{Delays, Meets, Logs, Ends}
use Rattle.hc_cexec.specs.declared.told.Told.{Told}

-- the kind of the first end line, with this line behind the others
abbrev pub ended_by : Option ℕ → Line → Option ℕ
ended_by (Some k) l = Some k
ended_by None (Ends k clock who) = Some k
ended_by None (Delays clock by) = None
ended_by None (Meets clock c p q v) = None
ended_by None (Logs clock p v) = None

-- the line was printed
pub record IsPrinted (g : CProgram) (l : Line) (old new : Told) : Type 0 where
  pub line : new.line.bytes ≡ line_text g (line_of l)
  pub ended : new.ended ≡ ended_by old.ended l
