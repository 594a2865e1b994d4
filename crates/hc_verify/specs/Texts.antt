-- The text of a behaviour in both versions, and its first parts.
use Rattle.std.specs.Prelude.{◌≡◌, ℕ, List, [], ◌∷◌, ◌++◌, codes}
use Rattle.hc_rational.specs.Words.{Rational}
use Rattle.hc_frac.specs.Text.{text_of}
use Rattle.hc_term.specs.declared.system.System.{System}
use Rattle.hc_term.specs.declared.task.Task.{Task}
use Rattle.hc_term.specs.declared.run.Step.{Step}
use Rattle.hc_term.specs.declared.run.Step.TheVariants.{Silent, Comm, Delay}
use Rattle.hc_term.specs.declared.run.Item.{Item}
use Rattle.hc_term.specs.declared.run.Stop.{Stop}
use Rattle.hc_term.specs.declared.model.Configuration.{Configuration}
use Rattle.hc_term.specs.Stop.{IsBehaviour}
use Rattle.hc_term.specs.TraceText.{words, channel_name, line_of_step, end_line}
use Rattle.hc_trace.specs.declared.traces.Version.{Version}
use Rattle.hc_trace.specs.declared.traces.Version.TheVariants.{First, Second}
use Rattle.hc_trace.specs.Traces.{header_of}

-- in version 1 the line of a communication names the channel alone
abbrev pub step_line : Version → System → Rational → Step → List ℕ
step_line First sys at (Comm c v) = words (text_of at ∷ codes "comm" ∷ channel_name sys c ∷ text_of v ∷ [])
step_line Second sys at (Comm c v) = line_of_step sys at (Comm c v)
step_line v sys at (Silent p logged) = line_of_step sys at (Silent p logged)
step_line v sys at (Delay d) = line_of_step sys at (Delay d)

abbrev pub step_lines : Version → System → List Item → List ℕ
step_lines v sys [] = []
step_lines v sys (i ∷ is) = step_line v sys i.at i.step ++ step_lines v sys is

-- the header, a line for each communication, log and delay, and the end line
abbrev pub text_in : Version → System → List Item → Rational → Stop → List ℕ
text_in v sys items clock stop = header_of v ++ step_lines v sys items ++ end_line sys clock stop

-- the bytes are a first part of the text of a behaviour
pub record IsFirstPart (t : Task) (v : Version) (bytes : List ℕ) : Type 0 where
  pub items : List Item
  pub last : Configuration
  pub stop : Stop
  pub rest : List ℕ
  pub behaviour : IsBehaviour t items last stop
  pub text : text_in v t.system items last.clock stop ≡ bytes ++ rest
