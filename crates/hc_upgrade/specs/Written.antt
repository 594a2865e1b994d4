-- The text of lines made new, as it is written line by line.
use Rattle.std.specs.Prelude.{ℕ, List, ◌++◌, Result, Ok, Err}
use Rattle.std.specs.List.{flat_map}
use Rattle.hc_trace.specs.declared.traces.TraceLine.{TraceLine}
use Rattle.hc_trace.specs.Traces.{line_text}
use Rattle.hc_upgrade.specs.declared.routes.Route.{Route}
use Rattle.hc_upgrade.specs.Upgraded.{upgraded_lines}

abbrev pub text_of_lines : Result (List TraceLine) ℕ → Result (List ℕ) ℕ
text_of_lines (Err n) = Err n
text_of_lines (Ok ls) = Ok (flat_map line_text ls)

abbrev pub lines_text : List Route → ℕ → List TraceLine → Result (List ℕ) ℕ
lines_text rs n ls = text_of_lines (upgraded_lines rs n ls)

-- a text behind another
abbrev pub behind : List ℕ → Result (List ℕ) ℕ → Result (List ℕ) ℕ
behind xs (Err n) = Err n
behind xs (Ok ys) = Ok (xs ++ ys)
