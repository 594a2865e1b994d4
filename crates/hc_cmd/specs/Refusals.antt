-- The status and the line of each refusal.
use Rattle.std.specs.Prelude.{ℕ, List, [], ◌∷◌, ◌++◌, codes, decimal}
use Rattle.hc_frac.specs.declared.place.Place.{Place}
use Rattle.hc_ast.specs.declared.flaw.Flaw.{Flaw}
use Rattle.hc_ast.specs.declared.flaw.Flaw.TheVariants as wrong
use Rattle.hc_parse.specs.declared.parsing.ParseStop as parse
use Rattle.hc_parse.specs.declared.parsing.ParseStop.TheVariants as stop
use Rattle.hc_modules.specs.declared.flat.ModuleStop as modules
use Rattle.hc_modules.specs.declared.flat.ModuleStop.TheVariants as expanding
use Rattle.hc_finds.specs.declared.stop.What as much
use Rattle.hc_finds.specs.declared.stop.What.TheVariants as what
use Rattle.hc_finds.specs.declared.stop.CheckStop as checks
use Rattle.hc_finds.specs.declared.stop.CheckStop.TheVariants as check
use Rattle.hc_trace.specs.declared.reading.TraceStop as reads
use Rattle.hc_trace.specs.declared.reading.TraceStop.TheVariants as reading
use Rattle.hc_upgrade.specs.declared.whole.UpgradeStop as makes
use Rattle.hc_upgrade.specs.declared.whole.UpgradeStop.TheVariants as making
use Rattle.hc_cgrammar.specs.declared.flaw.Flaw as units
use Rattle.hc_cgrammar.specs.declared.flaw.Flaw.TheVariants as unit
use Rattle.hc_cgrammar.specs.declared.flaw.Refusal.TheVariants as why
use Rattle.hc_cread.specs.declared.whole.CStop as programs
use Rattle.hc_cread.specs.declared.whole.CStop.TheVariants as program
use Rattle.hc_cmd.specs.Reply.{Reply}
use Rattle.hc_cmd.specs.declared.refusal.Refusal.{Refusal}
use Rattle.hc_cmd.specs.declared.refusal.Refusal.TheVariants.{Usage, Unread, Memory, TooLong, NoTrace, Unparsed, Unexpanded, Unchecked, Untraced, Unconverted, NoProgram}

-- a message as a line
abbrev pub line : List ℕ → List ℕ
line message = codes "hcsp: " ++ message ++ 10 ∷ []

-- a message about a place: the line and the column in decimal, with `:` behind each
abbrev pub at_place : Place → List ℕ → List ℕ
at_place p message = decimal p.line ++ 58 ∷ decimal p.column ++ 58 ∷ 32 ∷ message

-- what is wrong with a text
abbrev pub message_of_flaw : Flaw → List ℕ
message_of_flaw wrong.NameTooLong = codes "name longer than 64 bytes"
message_of_flaw wrong.NumberUnfit = codes "number out of range"
message_of_flaw wrong.Syntax = codes "syntax"
message_of_flaw wrong.TooDeep = codes "nested too deeply"
message_of_flaw wrong.TooManyNodes = codes "expression too long"

abbrev pub status_of_stop : parse.ParseStop → ℕ
status_of_stop stop.Memory = 5
status_of_stop _ = 1

abbrev pub message_of_stop : parse.ParseStop → List ℕ
message_of_stop (stop.NameTooLong p) = at_place p (message_of_flaw wrong.NameTooLong)
message_of_stop (stop.NumberUnfit p) = at_place p (message_of_flaw wrong.NumberUnfit)
message_of_stop (stop.Syntax p) = at_place p (message_of_flaw wrong.Syntax)
message_of_stop (stop.TooDeep p) = at_place p (message_of_flaw wrong.TooDeep)
message_of_stop (stop.TooManyNodes p) = at_place p (message_of_flaw wrong.TooManyNodes)
message_of_stop stop.Memory = codes "out of memory"

abbrev pub status_of_module_stop : modules.ModuleStop → ℕ
status_of_module_stop expanding.Memory = 5
status_of_module_stop _ = 1

abbrev pub message_of_module_stop : modules.ModuleStop → List ℕ
message_of_module_stop (expanding.RepeatedModule p) = at_place p (codes "module defined twice")
message_of_module_stop (expanding.RepeatedParameter p) = at_place p (codes "parameter named twice")
message_of_module_stop (expanding.ParameterWritten p) = at_place p (codes "value parameter written")
message_of_module_stop (expanding.TooManyProcesses p) = at_place p (codes "too many processes")
message_of_module_stop (expanding.RepeatedProcess p) = at_place p (codes "process named twice")
message_of_module_stop (expanding.UnknownModule p) = at_place p (codes "unknown module")
message_of_module_stop (expanding.WrongArgumentCount p) = at_place p (codes "wrong number of arguments")
message_of_module_stop (expanding.WrongArgumentKind p) = at_place p (codes "wrong kind of argument")
message_of_module_stop (expanding.TooManyStatements p) = at_place p (codes "too many statements")
message_of_module_stop (expanding.TooManyNodes p) = at_place p (codes "too many expression nodes")
message_of_module_stop expanding.Memory = codes "out of memory"

-- what there is too much of
abbrev pub too_many : much.What → List ℕ
too_many what.Guards = codes "too many guards"
too_many what.Channels = codes "too many channels"
too_many what.Variables = codes "too many variables"
too_many what.Nodes = codes "expression too long"

abbrev pub status_of_check_stop : checks.CheckStop → ℕ
status_of_check_stop check.Memory = 5
status_of_check_stop _ = 1

abbrev pub message_of_check_stop : checks.CheckStop → List ℕ
message_of_check_stop (check.TooMany what p) = at_place p (too_many what)
message_of_check_stop (check.DivisorNotLiteral p) = at_place p (codes "divisor is not a number")
message_of_check_stop (check.ZeroDivisor p) = at_place p (codes "division by zero")
message_of_check_stop (check.RepeatedRate p) = at_place p (codes "rate given twice")
message_of_check_stop (check.RateEvolves p) = at_place p (codes "rate mentions an evolving variable")
message_of_check_stop (check.NotAffine p) = at_place p (codes "not affine")
message_of_check_stop (check.RepeatedGuard p) = at_place p (codes "channel guarded twice")
message_of_check_stop (check.SelfChannel p) = at_place p (codes "process on both ends of a channel")
message_of_check_stop (check.TwoSenders p) = at_place p (codes "channel has two senders")
message_of_check_stop (check.TwoReceivers p) = at_place p (codes "channel has two receivers")
message_of_check_stop check.Memory = codes "out of memory"

abbrev pub status_of_trace_stop : reads.TraceStop → ℕ
status_of_trace_stop reading.Memory = 5
status_of_trace_stop _ = 1

-- a message about a line of a trace; the header is line 1
abbrev pub at_line : ℕ → List ℕ → List ℕ
at_line n message = codes "trace line " ++ decimal n ++ message

abbrev pub message_of_trace_stop : reads.TraceStop → List ℕ
message_of_trace_stop (reading.Line n) = at_line n []
message_of_trace_stop reading.Memory = codes "out of memory"

abbrev pub status_of_upgrade_stop : makes.UpgradeStop → ℕ
status_of_upgrade_stop making.Memory = 5
status_of_upgrade_stop _ = 1

abbrev pub message_of_upgrade_stop : makes.UpgradeStop → List ℕ
message_of_upgrade_stop (making.Channel n) = at_line n (codes ": channel")
message_of_upgrade_stop making.Memory = codes "out of memory"

-- what is wrong with the unit of a C text
abbrev pub message_of_unit_flaw : units.Flaw → List ℕ
message_of_unit_flaw unit.Limit = codes "limit"
message_of_unit_flaw unit.Syntax = codes "syntax"
message_of_unit_flaw unit.TooDeep = codes "nested too deeply"
message_of_unit_flaw unit.Names = codes "names"

abbrev pub status_of_program_stop : programs.CStop → ℕ
status_of_program_stop program.Memory = 5
status_of_program_stop _ = 1

abbrev pub message_of_program_stop : programs.CStop → List ℕ
message_of_program_stop (program.Refused why.Prelude) = codes "prelude"
message_of_program_stop (program.Refused (why.Unit flaw p)) = at_place p (message_of_unit_flaw flaw)
message_of_program_stop program.Memory = codes "out of memory"

abbrev pub status_of : Refusal → ℕ
status_of Usage = 2
status_of Unread = 3
status_of Memory = 5
status_of (TooLong most) = 1
status_of NoTrace = 1
status_of (Unparsed s) = status_of_stop s
status_of (Unexpanded s) = status_of_module_stop s
status_of (Unchecked s) = status_of_check_stop s
status_of (Untraced s) = status_of_trace_stop s
status_of (Unconverted s) = status_of_upgrade_stop s
status_of (NoProgram s) = status_of_program_stop s

abbrev pub message_of : Refusal → List ℕ
message_of Usage = codes "usage: hcsp ACTION [N] [--seed K] [--horizon T] [--limit K] [--workers K] [--steps K] [--report] [--channels]"
message_of Unread = codes "read failed"
message_of Memory = codes "out of memory"
message_of (TooLong most) = codes "source longer than " ++ decimal most ++ codes " bytes"
message_of NoTrace = codes "no trace"
message_of (Unparsed s) = message_of_stop s
message_of (Unexpanded s) = message_of_module_stop s
message_of (Unchecked s) = message_of_check_stop s
message_of (Untraced s) = message_of_trace_stop s
message_of (Unconverted s) = message_of_upgrade_stop s
message_of (NoProgram s) = message_of_program_stop s

-- nothing stands on output, and the line on error
abbrev pub refused : Refusal → Reply
refused refusal = record { status = status_of refusal; out = []; err = line (message_of refusal) }

-- nothing stands on output, and on error what is wrong with the text, and where
abbrev pub refused_at : Flaw → Place → Reply
refused_at flaw place = record { status = 1; out = []; err = line (at_place place (message_of_flaw flaw)) }
