-- The text of a run, version 2: a communication line names the channel, the process that sends and the one that receives.
use Rattle.std.specs.Prelude.{ℕ, List, [], ◌∷◌, ◌++◌, slice_get, Option, Some, None, codes}
use Rattle.hc_rational.specs.Words.{Rational}
use Rattle.hc_frac.specs.Text.{text_of}
use Rattle.hc_term.specs.declared.system.Process.{Process}
use Rattle.hc_term.specs.declared.system.System.{System}
use Rattle.hc_term.specs.declared.run.Step.{Step}
use Rattle.hc_term.specs.declared.run.Step.TheVariants.{Silent, Comm, Delay}
use Rattle.hc_term.specs.declared.run.Item.{Item}
use Rattle.hc_term.specs.declared.run.Stop.{Stop}
use Rattle.hc_term.specs.Ends.{ends_of}
use Rattle.hc_term.specs.declared.run.Stop.TheVariants.{Terminated, Deadlock, Horizon, Limit, Overflow}

abbrev pub name_or_none : Option (List ℕ) → List ℕ
name_or_none (Some name) = name
name_or_none None = []

abbrev pub name_of : Option Process → List ℕ
name_of (Some p) = p.name
name_of None = []

abbrev pub channel_name : System → ℕ → List ℕ
channel_name sys c = name_or_none (slice_get sys.channels c)

abbrev pub process_name : System → ℕ → List ℕ
process_name sys p = name_of (slice_get sys.processes p)

-- the name of the process at one end of a channel
abbrev pub end_name : System → Option ℕ → List ℕ
end_name sys (Some p) = process_name sys p
end_name sys None = []

-- a line of words, with one space between them and a newline behind
abbrev pub words : List (List ℕ) → List ℕ
words [] = 10 ∷ []
words (w ∷ []) = w ++ 10 ∷ []
words (w ∷ v ∷ ws) = w ++ 32 ∷ words (v ∷ ws)

abbrev pub line_of_step : System → Rational → Step → List ℕ
line_of_step sys at (Silent p None) = []
line_of_step sys at (Silent p (Some v)) = words (text_of at ∷ codes "log" ∷ process_name sys p ∷ text_of v ∷ [])
line_of_step sys at (Comm c v) =
    let ends = ends_of sys c in
    words (text_of at ∷ codes "comm" ∷ channel_name sys c ∷ end_name sys ends.sender ∷ end_name sys ends.receiver ∷ text_of v ∷ [])
line_of_step sys at (Delay d) = words (text_of at ∷ codes "delay" ∷ text_of d ∷ [])

-- the lines of the visible steps
abbrev pub lines : System → List Item → List ℕ
lines sys [] = []
lines sys (i ∷ is) = line_of_step sys i.at i.step ++ lines sys is

abbrev pub header : List ℕ
header = codes "hcsp-trace 2" ++ 10 ∷ []

-- the text of a run: the header, and a line for each communication, log and delay
abbrev pub text : System → List Item → List ℕ
text sys items = header ++ lines sys items

abbrev pub end_words : System → Rational → Stop → List (List ℕ)
end_words sys clock Terminated = codes "terminated" ∷ text_of clock ∷ []
end_words sys clock Deadlock = codes "deadlock" ∷ text_of clock ∷ []
end_words sys clock Horizon = codes "horizon" ∷ text_of clock ∷ []
end_words sys clock Limit = codes "limit" ∷ text_of clock ∷ []
end_words sys clock (Overflow None) = codes "overflow" ∷ text_of clock ∷ codes "*" ∷ []
end_words sys clock (Overflow (Some p)) = codes "overflow" ∷ text_of clock ∷ process_name sys p ∷ []

abbrev pub end_line : System → Rational → Stop → List ℕ
end_line sys clock stop = words (codes "end" ∷ end_words sys clock stop)

-- the text of a behaviour: that of its run, and the end line with the stop and the clock reached
abbrev pub whole : System → List Item → Rational → Stop → List ℕ
whole sys items clock stop = text sys items ++ end_line sys clock stop
