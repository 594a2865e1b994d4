-- Single items: what they come to, what they print, and how a schedule ends at them.
use Rattle.std.specs.Prelude.{ℕ, List, [], Option, Some, None}
use Rattle.hc_schedule.specs.Sections.{Item, Step, Wake}
use Rattle.hc_cast.specs.declared.program.CProgram.{CProgram}
use Rattle.hc_cmach.specs.declared.kind.Kind.{Kind}
use Rattle.hc_cmach.specs.declared.moved.Moved.{Moved}
use Rattle.hc_cmach.specs.declared.moved.Moved.TheVariants as said
use Rattle.hc_cmach.specs.declared.exec_end.ExecEnd.{ExecEnd}
use Rattle.hc_cmach.specs.declared.exec_end.ExecEnd.TheVariants.{Ended, Undefined}
use Rattle.hc_cmach.specs.Line.{first_end}
use Rattle.hc_cmach.specs.Machine.{CState, stepped, step_said}
use Rattle.hc_cmach.specs.Seeded.{item_kind}
use Rattle.hc_cexec.specs.Stands.{last_text}

-- what an item comes to; a wake-up moves
abbrev pub item_said : CProgram → CState → Item → Moved
item_said g s (Step t) = step_said g s t
item_said g s (Wake t) = said.Moved

-- the line, if one was printed
abbrev pub line_said : Moved → List ℕ → List ℕ
line_said said.Printed line = line
line_said m line = []

-- the line of an item, if it prints one
abbrev pub item_text : CProgram → CState → Item → List ℕ
item_text g s i = line_said (item_said g s i) (last_text g (stepped g s i).lines)

-- the kind of an undefined item
abbrev pub kind_said : Moved → Option Kind
kind_said (said.Undefined kind) = Some kind
kind_said m = None

-- item number n is undefined, or prints an end line
abbrev pub end_by : ℕ → Option Kind → Option ℕ → Option ExecEnd
end_by n (Some kind) ended = Some (Undefined kind n)
end_by n None (Some end) = Some (Ended end)
end_by n None None = None

-- how a schedule ends at item number n, if it does
abbrev pub item_end : CProgram → CState → Item → ℕ → Option ExecEnd
item_end g s i n = end_by n (item_kind g s i) (first_end (stepped g s i).lines)
