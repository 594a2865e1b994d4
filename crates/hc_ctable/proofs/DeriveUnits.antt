-- Each text of the grammar derives in the table: units.
use Rattle.std.proofs.Common.{◌≡◌, refl, ap, ◌∙◌, List, [], ◌∷◌, ◌++◌, true}
use Rattle.hc_grammar.specs.declared.symbol.Symbol.TheVariants.{Token, Head, Mark}
use Rattle.hc_grammar.specs.Texts.{Read}
use Rattle.hc_grammar.specs.Derives.{token, mark, takes, skips, done}
use Rattle.hc_ctoken.specs.declared.fixed.Fixed.TheVariants as fix
use Rattle.hc_ctoken.specs.declared.kind.Kind.TheVariants as k
use Rattle.hc_ctoken.specs.Lexemes as lexemes
use Rattle.hc_ctoken.specs.Tokens.{kind_of}
use Rattle.hc_cgrammar.specs.declared.role.Role.{Role}
use Rattle.hc_cgrammar.specs.declared.role.Role.TheVariants as r
use Rattle.hc_cgrammar.specs.declared.role.Mark.TheVariants as m
use Rattle.hc_cgrammar.specs.Leaves.{Spelled, OfFixed, OfZero, OfUnused, OfEnd, OfThread, OfLocal, OfNumber}
use Rattle.hc_cgrammar.specs.Units as g
use Rattle.hc_cgrammar.specs.UnitRoles as write
use Rattle.hc_ctable.specs.declared.head.Head as head
use Rattle.hc_ctable.specs.declared.head.Head.TheVariants as h
use Rattle.hc_ctable.specs.Symbols.{Rule, a_body}
use Rattle.hc_ctable.specs.Rows.{unit, strings, more_strings, functions, a_function, kinded, voided, a_thread, threads, starred, listed, main, parameters, more_parameters, locals}
use Rattle.hc_ctable.specs.Table.{same, start}
use Rattle.hc_ctable.proofs.Leaves.{at_local, at_number}
use Rattle.hc_ctable.proofs.Derive.{D, fixed_kind, array_kind, is}
use Rattle.hc_ctable.proofs.DeriveStmts.{function_kind, stmts_text}

-- wanted tokens that are there
is_number : (t : OfNumber) → same k.AnyNumber (kind_of t.0) ≡ true
is_number t = at_number (same k.AnyNumber) true refl refl t

is_local : (t : OfLocal) → same k.AnyLocal (kind_of t.0) ≡ true
is_local t = at_local (same k.AnyLocal) true refl refl t

thread_kind : (t : OfThread) → kind_of t.0 ≡ k.Thread
thread_kind t = ap lexemes.kind_of t.2

is_thread : (t : OfThread) → same k.Thread (kind_of t.0) ≡ true
is_thread t = ap (same k.Thread) (thread_kind t)

array_text : (x : g.Array) {ss : List Rule} {w : Spelled} → D (Head h.Unit ∷ ss) w → D (Head h.Unit ∷ ss) (write.array x w)
array_text (g.array u i n l c b t) d =
    takes (ap unit (fixed_kind u))
    (token (is fix.Int i refl) (token (ap (same k.Array) (array_kind n)) (token (is fix.OpenSquare l refl)
    (token (is_number c) (token (is fix.CloseSquare b refl) (token (is fix.Semicolon t refl) (mark d)))))))

arrays_text : (xs : g.Arrays) {ss : List Rule} {w : Spelled} → D (Head h.Unit ∷ ss) w → D (Head h.Unit ∷ ss) (write.arrays xs w)
arrays_text g.no_array d = d
arrays_text (g.next_array x xs) d = array_text x (arrays_text xs d)

-- a string, and the further ones, by any role and any phrase of further ones
string_text : (role : Role) (x : g.String) {ss : List Rule} {w : Spelled} → D ss w → D (Token k.Text role ∷ ss) (write.string role x w)
string_text role (g.named t) d = token (ap (λ l. same k.Text (lexemes.kind_of l)) t.2) d
string_text role (g.empty t) d = token (ap (λ l. same k.Text (lexemes.kind_of l)) t.1) d

channels_text : (xs : g.MoreStrings) {ss : List Rule} {w : Spelled} → D ss w → D (Head h.Channels ∷ ss) (write.more_strings r.Channel xs w)
channels_text g.no_string d = skips refl d
channels_text (g.next_string s x xs) d =
    takes (ap (more_strings r.Channel h.Channels) (fixed_kind s)) (string_text r.Channel x (channels_text xs d))

processes_text : (xs : g.MoreStrings) {ss : List Rule} {w : Spelled} → D ss w → D (Head h.Processes ∷ ss) (write.more_strings r.Process xs w)
processes_text g.no_string d = skips refl d
processes_text (g.next_string s x xs) d =
    takes (ap (more_strings r.Process h.Processes) (fixed_kind s)) (string_text r.Process x (processes_text xs d))

strings_text : (role : Role) (others : head.Head) (x : g.Strings) {ss : List Rule} {w : Spelled}
    → ((ss : List Rule) (w : Spelled) → D ss w → D (Head others ∷ ss) (write.more_strings role x.others w))
    → D ss w → D (strings role others ss) (write.strings role x w)
strings_text role others x more d =
    token (is fix.OpenSquare x.left refl) (token (is_number x.count) (token (is fix.CloseSquare x.right refl)
    (token (is fix.Equal x.sign refl) (token (is fix.OpenCurly x.brace refl)
    (string_text role x.first (more _ _ (token (is fix.CloseCurly x.brace' refl) (token (is fix.Semicolon x.semicolon refl) d))))))))

-- both arrays of names; the first begins the phrase
names_text : (c : g.ChannelNames) (p : g.ProcessNames) {ss : List Rule} {w : Spelled} → D (Head h.Functions ∷ ss) w
    → D (Head h.Unit ∷ ss) (write.channel_names c (write.process_names p w))
names_text (g.channel_names c u x) (g.process_names p v y) d =
    takes (ap unit (fixed_kind c.const_word))
    (token (is fix.Char c.char_word refl) (token (is fix.Star c.star refl) (token (is fix.Const c.const_word' refl)
    (token (is fix.ChanName u refl) (strings_text r.Channel h.Channels x (λ ss w d. channels_text x.others d)
    (token (is fix.Const p.const_word refl) (token (is fix.Char p.char_word refl) (token (is fix.Star p.star refl)
    (token (is fix.Const p.const_word' refl) (token (is fix.ProcName v refl)
    (strings_text r.Process h.Processes y (λ ss w d. processes_text y.others d) d)))))))))))

locals_text : (xs : g.Locals) {ss : List Rule} {w : Spelled} → D ss w → D (Head h.Locals ∷ ss) (write.locals xs w)
locals_text g.no_local d = skips refl d
locals_text (g.next_local i n s z t xs) d =
    takes (ap locals (fixed_kind i))
    (token (is_local n) (token (is fix.Equal s refl) (token (ap (λ l. same k.Zero (lexemes.kind_of l)) z.1)
    (token (is fix.Semicolon t refl) (locals_text xs d)))))

body_text : (role : Role) (b : g.Body) {ss : List Rule} {w : Spelled} → D ss w → D (a_body role ss) (write.body role b w)
body_text role (g.body o ls xs o') d =
    token (is fix.OpenCurly o refl) (mark (locals_text ls (mark (stmts_text xs (token (is fix.CloseCurly o' refl) d)))))

more_parameters_text : (xs : g.MoreParameters) {ss : List Rule} {w : Spelled} → D ss w
    → D (Head h.MoreParameters ∷ ss) (write.more_parameters xs w)
more_parameters_text g.no_parameter d = skips refl d
more_parameters_text (g.next_parameter s i n xs) d =
    takes (ap more_parameters (fixed_kind s)) (token (is fix.Int i refl) (token (is_local n) (more_parameters_text xs d)))

parameters_text : (x : g.Parameters) {ss : List Rule} {w : Spelled} → D ss w → D (Head h.Parameters ∷ ss) (write.parameters x w)
parameters_text (g.none v) d = takes (ap parameters (fixed_kind v)) d
parameters_text (g.some i n xs) d = takes (ap parameters (fixed_kind i)) (token (is_local n) (more_parameters_text xs d))

function_text : (x : g.Function) {ss : List Rule} {w : Spelled} → D (Head h.Functions ∷ ss) w
    → D (Head h.Functions ∷ ss) (write.function x w)
function_text (g.giving u i n l ps b x) d =
    takes (ap functions (fixed_kind u)) (takes (ap kinded (fixed_kind i))
    (token (ap (same k.Function) (function_kind n)) (token (is fix.OpenRound l refl) (mark (parameters_text ps
    (token (is fix.CloseRound b refl) (body_text r.EndFunction x (mark d))))))))
function_text (g.plain u v n l ps b x) d =
    takes (ap functions (fixed_kind u)) (takes (ap kinded (fixed_kind v)) (takes (ap voided (function_kind n))
    (token (is fix.OpenRound l refl) (mark (parameters_text ps
    (token (is fix.CloseRound b refl) (body_text r.EndFunction x (mark d))))))))

functions_text : (xs : g.Functions) {ss : List Rule} {w : Spelled} → D (Head h.Functions ∷ ss) w
    → D (Head h.Functions ∷ ss) (write.functions xs w)
functions_text g.no_function d = d
functions_text (g.next_function x xs) d = function_text x (functions_text xs d)

-- a thread behind its name
unused_there : (t : OfUnused) → same k.Unused (kind_of t.0) ≡ true
unused_there t = ap (λ l. same k.Unused (lexemes.kind_of l)) t.1

first_thread_text : (x : g.Thread) {ss : List Rule} {w : Spelled} → D (Head h.Threads ∷ ss) w
    → D (Head h.Functions ∷ ss) (write.thread x w)
first_thread_text (g.thread u v s n l v' s' z b x) d =
    takes (ap functions (fixed_kind u)) (takes (ap kinded (fixed_kind v)) (takes (ap voided (fixed_kind s))
    (token (is_thread n) (token (is fix.OpenRound l refl) (token (is fix.Void v' refl) (token (is fix.Star s' refl)
    (token (unused_there z) (token (is fix.CloseRound b refl) (body_text r.EndThread x (mark d))))))))))

thread_text : (x : g.Thread) {ss : List Rule} {w : Spelled} → D (Head h.Threads ∷ ss) w
    → D (Head h.Threads ∷ ss) (write.thread x w)
thread_text (g.thread u v s n l v' s' z b x) d =
    takes (ap threads (fixed_kind u)) (token (is fix.Void v refl) (token (is fix.Star s refl)
    (takes (ap starred (thread_kind n)) (token (is fix.OpenRound l refl) (token (is fix.Void v' refl) (token (is fix.Star s' refl)
    (token (unused_there z) (token (is fix.CloseRound b refl) (body_text r.EndThread x (mark d))))))))))

more_threads_text : (xs : g.MoreThreads) {ss : List Rule} {w : Spelled} → D (Head h.Threads ∷ ss) w
    → D (Head h.Threads ∷ ss) (write.more_threads xs w)
more_threads_text g.no_thread d = d
more_threads_text (g.next_thread x xs) d = thread_text x (more_threads_text xs d)

listed_text : (xs : g.MoreListed) {ss : List Rule} {w : Spelled} → D ss w → D (Head h.Listed ∷ ss) (write.more_listed xs w)
listed_text g.no_listed d = skips refl d
listed_text (g.next_listed s n xs) d = takes (ap listed (fixed_kind s)) (token (is_thread n) (listed_text xs d))

main_text : (x : g.Main) {ss : List Rule} {w : Spelled} → D ss w → D (main ++ ss) (write.main x w)
main_text x d =
    token (is fix.Int x.int_word refl) (token (is fix.Main x.word refl) (token (is fix.OpenRound x.left refl)
    (token (is fix.Void x.void_word refl) (token (is fix.CloseRound x.right refl) (token (is fix.OpenCurly x.brace refl)
    (token (is fix.Return x.return_word refl) (token (is fix.HcMain x.callee refl) (token (is fix.OpenRound x.left' refl)
    (token (is_number x.count) (token (is fix.Comma x.comma refl) (token (is fix.HcThreads x.threads refl)
    (token (is fix.CloseRound x.right' refl) (token (is fix.Semicolon x.semicolon refl) (token (is fix.CloseCurly x.brace' refl) d))))))))))))))

table_text : (x : g.Table) {ss : List Rule} {w : Spelled} → D (main ++ ss) w → D (Head h.Threads ∷ ss) (write.table x w)
table_text x d =
    takes (ap threads (fixed_kind x.static_word)) (token (is fix.Void x.void_word refl) (token (is fix.Star x.star refl)
    (takes (ap starred (fixed_kind x.left)) (token (is fix.Star x.star' refl) (token (is fix.Const x.const_word refl)
    (token (is fix.HcThreads x.word refl) (token (is fix.OpenSquare x.square refl) (token (is_number x.count)
    (token (is fix.CloseSquare x.square' refl) (token (is fix.CloseRound x.right refl) (token (is fix.OpenRound x.left' refl)
    (token (is fix.Void x.void_word' refl) (token (is fix.Star x.star'' refl) (token (is fix.CloseRound x.right' refl)
    (token (is fix.Equal x.sign refl) (token (is fix.OpenCurly x.brace refl) (token (is_thread x.first)
    (listed_text x.others (token (is fix.CloseCurly x.brace' refl) (token (is fix.Semicolon x.semicolon refl) d))))))))))))))))))))

-- a unit, and then the end of the text
pub whole_text : (x : g.Whole) → D start (write.whole x)
whole_text x =
    arrays_text x.arrays (names_text x.channels x.processes (functions_text x.functions (first_thread_text x.first
    (more_threads_text x.others (table_text x.table (main_text x.main
    (token (ap (λ l. same k.End (lexemes.kind_of l)) x.last.1) done)))))))
