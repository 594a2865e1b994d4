-- How units are spelled, each part in front of w: their tokens in the order of the grammar, in their roles, with marks between them.
-- All marks of this file serve whoever builds the program, and mean nothing for what a unit is.
use Rattle.std.specs.Prelude.{[], ◌∷◌}
use Rattle.hc_grammar.specs.Texts.{Read, Did}
use Rattle.hc_cgrammar.specs.declared.role.Role.{Role}
use Rattle.hc_cgrammar.specs.declared.role.Role.TheVariants as r
use Rattle.hc_cgrammar.specs.declared.role.Mark.TheVariants as m
use Rattle.hc_cgrammar.specs.Leaves.{Spelled}
use Rattle.hc_cgrammar.specs.StmtRoles.{stmts}
use Rattle.hc_cgrammar.specs.Units as g

-- array = "static" "int" ANAME "[" NUM "]" ";"
abbrev pub array : g.Array → Spelled → Spelled
array (g.array static_word int_word name left length right semicolon) w =
    Read static_word.0 r.Plain ∷ Read int_word.0 r.Plain ∷ Read name.0 r.DeclareArray ∷ Read left.0 r.OpenLength ∷ Read length.0 r.Length
    ∷ Read right.0 r.Close ∷ Read semicolon.0 r.Plain ∷ Did m.Array ∷ w

-- { array }
abbrev pub arrays : g.Arrays → Spelled → Spelled
arrays g.no_array w = w
arrays (g.next_array x xs) w = array x (arrays xs w)

-- STRING
abbrev pub string : Role → g.String → Spelled → Spelled
string role (g.named text) w = Read text.0 role ∷ w
string role (g.empty text) w = Read text.0 role ∷ w

-- { "," STRING }
abbrev pub more_strings : Role → g.MoreStrings → Spelled → Spelled
more_strings role g.no_string w = w
more_strings role (g.next_string comma x xs) w = Read comma.0 r.Plain ∷ string role x (more_strings role xs w)

-- names = "const" "char" "*" "const" ("chan_name" | "proc_name") "[" NUM "]" "=" "{" STRING { "," STRING } "}" ";"
abbrev pub header : g.Header → Spelled → Spelled
header h w = Read h.const_word.0 r.Plain ∷ Read h.char_word.0 r.Plain ∷ Read h.star.0 r.Plain ∷ Read h.const_word'.0 r.Plain ∷ w

abbrev pub strings : Role → g.Strings → Spelled → Spelled
strings role x w =
    Read x.left.0 r.Open ∷ Read x.count.0 r.Count ∷ Read x.right.0 r.Close ∷ Read x.sign.0 r.Plain ∷ Read x.brace.0 r.Open
    ∷ string role x.first (more_strings role x.others (Read x.brace'.0 r.EndNames ∷ Read x.semicolon.0 r.Plain ∷ w))

abbrev pub channel_names : g.ChannelNames → Spelled → Spelled
channel_names (g.channel_names h word x) w = header h (Read word.0 r.Plain ∷ strings r.Channel x w)

abbrev pub process_names : g.ProcessNames → Spelled → Spelled
process_names (g.process_names h word x) w = header h (Read word.0 r.Plain ∷ strings r.Process x w)

-- { "int" VNAME "=" "0" ";" }
abbrev pub locals : g.Locals → Spelled → Spelled
locals g.no_local w = w
locals (g.next_local int_word name sign zero semicolon xs) w =
    Read int_word.0 r.Plain ∷ Read name.0 r.DeclareLocal ∷ Read sign.0 r.Plain ∷ Read zero.0 r.Plain ∷ Read semicolon.0 r.Plain ∷ locals xs w

-- "{" body "}", whose end has a role of its own
abbrev pub body : Role → g.Body → Spelled → Spelled
body role (g.body brace ls ss brace') w =
    Read brace.0 r.Open ∷ Did m.Locals ∷ locals ls (Did m.Statements ∷ stmts ss (Read brace'.0 role ∷ w))

-- { "," "int" VNAME }
abbrev pub more_parameters : g.MoreParameters → Spelled → Spelled
more_parameters g.no_parameter w = w
more_parameters (g.next_parameter comma int_word name xs) w =
    Read comma.0 r.Plain ∷ Read int_word.0 r.Plain ∷ Read name.0 r.DeclareParameter ∷ more_parameters xs w

-- "void" | "int" VNAME { "," "int" VNAME }
abbrev pub parameters : g.Parameters → Spelled → Spelled
parameters (g.none void_word) w = Read void_word.0 r.Plain ∷ w
parameters (g.some int_word name xs) w = Read int_word.0 r.Plain ∷ Read name.0 r.DeclareParameter ∷ more_parameters xs w

-- function = "static" ( "int" | "void" ) FNAME "(" ( "void" | "int" VNAME { "," "int" VNAME } ) ")" "{" body "}"
abbrev pub function : g.Function → Spelled → Spelled
function (g.giving static_word int_word name left ps right b) w =
    Read static_word.0 r.Plain ∷ Read int_word.0 r.Plain ∷ Read name.0 r.DeclareGiving ∷ Read left.0 r.Open ∷ Did m.Parameters
    ∷ parameters ps (Read right.0 r.Close ∷ body r.EndFunction b (Did m.Function ∷ w))
function (g.plain static_word void_word name left ps right b) w =
    Read static_word.0 r.Plain ∷ Read void_word.0 r.Plain ∷ Read name.0 r.DeclareVoid ∷ Read left.0 r.Open ∷ Did m.Parameters
    ∷ parameters ps (Read right.0 r.Close ∷ body r.EndFunction b (Did m.Function ∷ w))

-- { function }
abbrev pub functions : g.Functions → Spelled → Spelled
functions g.no_function w = w
functions (g.next_function x xs) w = function x (functions xs w)

-- thread = "static" "void" "*" TNAME "(" "void" "*" "v_u" ")" "{" body "}"
abbrev pub thread : g.Thread → Spelled → Spelled
thread (g.thread static_word void_word star name left void_word' star' unused right b) w =
    Read static_word.0 r.Plain ∷ Read void_word.0 r.Plain ∷ Read star.0 r.Plain ∷ Read name.0 r.DeclareThread ∷ Read left.0 r.Open
    ∷ Read void_word'.0 r.Plain ∷ Read star'.0 r.Plain ∷ Read unused.0 r.Plain ∷ Read right.0 r.Close
    ∷ body r.EndThread b (Did m.Thread ∷ w)

-- { thread }
abbrev pub more_threads : g.MoreThreads → Spelled → Spelled
more_threads g.no_thread w = w
more_threads (g.next_thread x xs) w = thread x (more_threads xs w)

-- { "," TNAME }
abbrev pub more_listed : g.MoreListed → Spelled → Spelled
more_listed g.no_listed w = w
more_listed (g.next_listed comma name xs) w = Read comma.0 r.Plain ∷ Read name.0 r.Listed ∷ more_listed xs w

-- table = "static" "void" "*" "(" "*" "const" "hc_threads" "[" NUM "]" ")" "(" "void" "*" ")" "=" "{" TNAME { "," TNAME } "}" ";"
abbrev pub table : g.Table → Spelled → Spelled
table x w =
    Read x.static_word.0 r.Plain ∷ Read x.void_word.0 r.Plain ∷ Read x.star.0 r.Plain ∷ Read x.left.0 r.Open ∷ Read x.star'.0 r.Plain
    ∷ Read x.const_word.0 r.Plain ∷ Read x.word.0 r.Plain ∷ Read x.square.0 r.Open ∷ Read x.count.0 r.TableCount ∷ Read x.square'.0 r.Close
    ∷ Read x.right.0 r.Close ∷ Read x.left'.0 r.Open ∷ Read x.void_word'.0 r.Plain ∷ Read x.star''.0 r.Plain ∷ Read x.right'.0 r.Close
    ∷ Read x.sign.0 r.Plain ∷ Read x.brace.0 r.Open ∷ Read x.first.0 r.Listed
    ∷ more_listed x.others (Read x.brace'.0 r.EndTable ∷ Read x.semicolon.0 r.Plain ∷ w)

-- main = "int" "main" "(" "void" ")" "{" "return" "hc_main" "(" NUM "," "hc_threads" ")" ";" "}"
abbrev pub main : g.Main → Spelled → Spelled
main x w =
    Read x.int_word.0 r.Plain ∷ Read x.word.0 r.Plain ∷ Read x.left.0 r.Open ∷ Read x.void_word.0 r.Plain ∷ Read x.right.0 r.Close
    ∷ Read x.brace.0 r.Open ∷ Read x.return_word.0 r.Plain ∷ Read x.callee.0 r.Plain ∷ Read x.left'.0 r.Open ∷ Read x.count.0 r.MainCount
    ∷ Read x.comma.0 r.Plain ∷ Read x.threads.0 r.Plain ∷ Read x.right'.0 r.Close ∷ Read x.semicolon.0 r.Plain ∷ Read x.brace'.0 r.Close ∷ w

-- unit = { array } names names { function } thread { thread } table main, and then the end of the text
abbrev pub whole : g.Whole → Spelled
whole x =
    arrays x.arrays
    (channel_names x.channels
    (process_names x.processes
    (functions x.functions (thread x.first (more_threads x.others (table x.table (main x.main (Read x.last.0 r.Plain ∷ []))))))))
