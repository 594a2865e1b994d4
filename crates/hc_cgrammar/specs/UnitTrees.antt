-- The programs that units are; tokens have the names that they have in Units.
use Rattle.std.specs.Prelude.{ℕ, ℤ, true, false, List, [], ◌∷◌, ◌++◌, nat_abs, min}
use Rattle.hc_cast.specs.declared.program.CProgram.{CProgram}
use Rattle.hc_cast.specs.declared.program.CArray.{CArray}
use Rattle.hc_cast.specs.declared.program.CFunction.{CFunction}
use Rattle.hc_cast.specs.declared.program.CBody.{CBody}
use Rattle.hc_cgrammar.specs.Leaves.{Word}
use Rattle.hc_cgrammar.specs.StmtTrees.{stmts_tree}
use Rattle.hc_cgrammar.specs.Units as g

-- a length; the limit allows none that 32 bits don't hold, and such a one is said as the greatest that they hold
abbrev pub length_of : ℤ → ℕ
length_of n = min (nat_abs n) 4294967295

-- array = "static" "int" ANAME "[" NUM "]" ";"
abbrev pub array_tree : g.Array → CArray
array_tree (g.array static_word int_word name left length right semicolon) = record { name = name.1; length = length_of length.1 }

-- { array }
abbrev pub arrays_tree : g.Arrays → List CArray
arrays_tree g.no_array = []
arrays_tree (g.next_array x xs) = array_tree x ∷ arrays_tree xs

-- STRING: an empty one names nothing
abbrev pub string_tree : g.String → List Word
string_tree (g.named text) = text.1 ∷ []
string_tree (g.empty text) = []

-- { "," STRING }
abbrev pub more_strings_tree : g.MoreStrings → List Word
more_strings_tree g.no_string = []
more_strings_tree (g.next_string comma x xs) = string_tree x ++ more_strings_tree xs

abbrev pub strings_tree : g.Strings → List Word
strings_tree x = string_tree x.first ++ more_strings_tree x.others

-- names = "const" "char" "*" "const" ("chan_name" | "proc_name") "[" NUM "]" "=" "{" STRING { "," STRING } "}" ";"
abbrev pub channels_tree : g.ChannelNames → List Word
channels_tree (g.channel_names h word x) = strings_tree x

abbrev pub processes_tree : g.ProcessNames → List Word
processes_tree (g.process_names h word x) = strings_tree x

-- { "int" VNAME "=" "0" ";" }
abbrev pub locals_tree : g.Locals → List Word
locals_tree g.no_local = []
locals_tree (g.next_local int_word name sign zero semicolon xs) = name.1 ∷ locals_tree xs

-- "{" body "}"
abbrev pub body_tree : g.Body → CBody
body_tree (g.body brace ls ss brace') = record { locals = locals_tree ls; statements = stmts_tree ss }

-- { "," "int" VNAME }
abbrev pub more_parameters_tree : g.MoreParameters → List Word
more_parameters_tree g.no_parameter = []
more_parameters_tree (g.next_parameter comma int_word name xs) = name.1 ∷ more_parameters_tree xs

-- "void" | "int" VNAME { "," "int" VNAME }
abbrev pub parameters_tree : g.Parameters → List Word
parameters_tree (g.none void_word) = []
parameters_tree (g.some int_word name xs) = name.1 ∷ more_parameters_tree xs

-- function = "static" ( "int" | "void" ) FNAME "(" ( "void" | "int" VNAME { "," "int" VNAME } ) ")" "{" body "}"
abbrev pub function_tree : g.Function → CFunction
function_tree (g.giving static_word int_word name left ps right b) =
    record { name = name.1; gives = true; params = parameters_tree ps; body = body_tree b }
function_tree (g.plain static_word void_word name left ps right b) =
    record { name = name.1; gives = false; params = parameters_tree ps; body = body_tree b }

-- { function }
abbrev pub functions_tree : g.Functions → List CFunction
functions_tree g.no_function = []
functions_tree (g.next_function x xs) = function_tree x ∷ functions_tree xs

-- thread = "static" "void" "*" TNAME "(" "void" "*" "v_u" ")" "{" body "}"
abbrev pub thread_tree : g.Thread → CBody
thread_tree (g.thread static_word void_word star name left void_word' star' unused right b) = body_tree b

-- { thread }
abbrev pub more_threads_tree : g.MoreThreads → List CBody
more_threads_tree g.no_thread = []
more_threads_tree (g.next_thread x xs) = thread_tree x ∷ more_threads_tree xs

-- unit = { array } names names { function } thread { thread } table main
abbrev pub whole_tree : g.Whole → CProgram
whole_tree x = record {
  arrays = arrays_tree x.arrays;
  channels = channels_tree x.channels;
  processes = processes_tree x.processes;
  functions = functions_tree x.functions;
  threads = thread_tree x.first ∷ more_threads_tree x.others;
}
