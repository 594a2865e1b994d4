-- The limits of the language and of its runs, each with its unit.
use Rattle.std.specs.Prelude.{ℕ}

-- bytes of a source
abbrev pub most_source_bytes : ℕ
most_source_bytes = 1048576

-- bytes of a word of a source: a name, a keyword, or a rate with its `_dot`
abbrev pub most_word_bytes : ℕ
most_word_bytes = 64

-- items (brackets, bodies, branches) that are open at once in a source
abbrev pub most_open_items : ℕ
most_open_items = 64

-- nodes of one expression, or of one condition with its expressions: signs, numbers and names
abbrev pub most_nodes : ℕ
most_nodes = 200

-- nodes of all expressions and conditions of a system
abbrev pub most_nodes_in_all : ℕ
most_nodes_in_all = 50000

-- statements of a system, those inside others counted; guards count none
abbrev pub most_statements : ℕ
most_statements = 10000

-- processes of a system
abbrev pub most_processes : ℕ
most_processes = 64

-- channels of a system
abbrev pub most_channels : ℕ
most_channels = 256

-- variables of a process
abbrev pub most_variables : ℕ
most_variables = 64

-- guards of a choice
abbrev pub most_guards : ℕ
most_guards = 32

-- steps to which a run may be limited, silent ones counted; the least is 1
abbrev pub most_steps : ℕ
most_steps = 1000000

-- silent steps of one event of a process
abbrev pub most_silent_steps : ℕ
most_silent_steps = 4096

-- steps to which a run is limited where the words give no limit
abbrev pub default_steps : ℕ
default_steps = 10000

-- time units to the horizon where the words give none
abbrev pub default_horizon : ℕ
default_horizon = 100

-- bytes of a C text, and of a source with its trace
abbrev pub most_text_bytes : ℕ
most_text_bytes = 67108864

-- threads among which processes are shared; the least is 1
abbrev pub most_workers : ℕ
most_workers = 64

-- steps of the thread machine; the least is 1
abbrev pub most_machine_steps : ℕ
most_machine_steps = 10000000

-- steps of the thread machine where the words give none
abbrev pub default_machine_steps : ℕ
default_machine_steps = 100000

-- pairs of processes of a made source; the least is 1
abbrev pub most_pairs : ℕ
most_pairs = 32
