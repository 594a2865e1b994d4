-- What is built along a unit is its program: whole units.
use Rattle.std.proofs.Common.{◌≡◌, refl, ap, sym, ◌∙◌, true, false, List, [], ◌∷◌, ◌++◌, append_assoc}
use Rattle.std.proofs.lemmas.List.{append-nil}
use Rattle.hc_grammar.specs.Texts.{Read, Did}
use Rattle.hc_ctoken.specs.declared.token.Lexeme.{Lexeme}
use Rattle.hc_ctoken.specs.declared.token.Lexeme.TheVariants as lex
use Rattle.hc_cgrammar.specs.declared.role.Role.{Role}
use Rattle.hc_cgrammar.specs.declared.role.Role.TheVariants as r
use Rattle.hc_cgrammar.specs.declared.role.Mark.TheVariants as m
use Rattle.hc_cgrammar.specs.Leaves.{Spelled, Word, OfLocal, OfFunction}
use Rattle.hc_cgrammar.specs.StmtRoles as spell
use Rattle.hc_cgrammar.specs.StmtTrees.{stmts_tree}
use Rattle.hc_cgrammar.specs.Units as un
use Rattle.hc_cgrammar.specs.UnitRoles as write
use Rattle.hc_cgrammar.specs.UnitTrees as tree
use Rattle.hc_cread.specs.declared.values.Values.{Values}
use Rattle.hc_cread.specs.Builder.{blank, push_name, push_gives, push_list, push_body, put_arrays, put_channels, put_processes, put_functions, put_threads, named, declared, at_token, program_of}
use Rattle.hc_cread.proofs.Built.{W, named_array, numbered_so}
use Rattle.hc_cread.proofs.BuiltStmts.{one_more, built_stmts}

built_array : (x : un.Array) (w : Spelled) (v : Values) → W (write.array x w) v ≡ W w (put_arrays (tree.array_tree x ∷ []) v)
built_array (un.array static_word int_word name left length right semicolon) w v =
    let end = Read right.0 r.Close ∷ Read semicolon.0 r.Plain ∷ Did m.Array ∷ w in
    named_array name (Read left.0 r.OpenLength ∷ Read length.0 r.Length ∷ end) v
    ∙ numbered_so length end (push_name name.1 v)

built_arrays : (xs : un.Arrays) (w : Spelled) (v : Values) → W (write.arrays xs w) v ≡ W w (put_arrays (tree.arrays_tree xs) v)
built_arrays un.no_array w v = ap (λ ys. W w (record v { arrays = ys })) (sym (append-nil v.arrays))
built_arrays (un.next_array x xs) w v =
    built_array x (write.arrays xs w) v
    ∙ built_arrays xs w (put_arrays (tree.array_tree x ∷ []) v)
    ∙ ap (λ ys. W w (record v { arrays = ys })) (one_more v.arrays (tree.array_tree x) (tree.arrays_tree xs))

-- strings in a role in which `put` takes them
module _ (role : Role) (put : List Word → Values → Values)
    (of_name : (x : Word) (v : Values) → at_token role (lex.Text x) v ≡ put (x ∷ []) v)
    (of_none : (v : Values) → at_token role lex.EmptyText v ≡ put [] v)
    (no_more : (v : Values) → v ≡ put [] v)
    (more : (xs ys : List Word) (v : Values) → put ys (put xs v) ≡ put (xs ++ ys) v) where
  built_string : (x : un.String) (w : Spelled) (v : Values) → W (write.string role x w) v ≡ W w (put (tree.string_tree x) v)
  built_string (un.named t) w v = ap (λ l. W w (at_token role l v)) t.2 ∙ ap (W w) (of_name t.1 v)
  built_string (un.empty t) w v = ap (λ l. W w (at_token role l v)) t.1 ∙ ap (W w) (of_none v)

  built_more_strings : (xs : un.MoreStrings) (w : Spelled) (v : Values)
      → W (write.more_strings role xs w) v ≡ W w (put (tree.more_strings_tree xs) v)
  built_more_strings un.no_string w v = ap (W w) (no_more v)
  built_more_strings (un.next_string comma x xs) w v =
      built_string x (write.more_strings role xs w) v
      ∙ built_more_strings xs w (put (tree.string_tree x) v)
      ∙ ap (W w) (more (tree.string_tree x) (tree.more_strings_tree xs) v)

  built_strings : (x : un.Strings) (w : Spelled) (v : Values) → W (write.strings role x w) v ≡ W w (put (tree.strings_tree x) v)
  built_strings x w v =
      let end = Read x.brace'.0 r.EndNames ∷ Read x.semicolon.0 r.Plain ∷ w in
      built_string x.first (write.more_strings role x.others end) v
      ∙ built_more_strings x.others end (put (tree.string_tree x.first) v)
      ∙ ap (W w) (more (tree.string_tree x.first) (tree.more_strings_tree x.others) v)

built_channels : (x : un.ChannelNames) (w : Spelled) (v : Values) → W (write.channel_names x w) v ≡ W w (put_channels (tree.channels_tree x) v)
built_channels (un.channel_names h word x) w v =
    built_strings r.Channel put_channels (λ x v. refl) (λ v. ap (λ xs. let u : Values = record v { channels = xs } in u) (sym (append-nil v.channels)))
    (λ v. ap (λ xs. let u : Values = record v { channels = xs } in u) (sym (append-nil v.channels)))
    (λ xs ys v. ap (λ zs. let u : Values = record v { channels = zs } in u) (append_assoc v.channels xs ys)) x w v

built_processes : (x : un.ProcessNames) (w : Spelled) (v : Values) → W (write.process_names x w) v ≡ W w (put_processes (tree.processes_tree x) v)
built_processes (un.process_names h word x) w v =
    built_strings r.Process put_processes (λ x v. refl) (λ v. ap (λ xs. let u : Values = record v { processes = xs } in u) (sym (append-nil v.processes)))
    (λ v. ap (λ xs. let u : Values = record v { processes = xs } in u) (sym (append-nil v.processes)))
    (λ xs ys v. ap (λ zs. let u : Values = record v { processes = zs } in u) (append_assoc v.processes xs ys)) x w v

-- a parameter or a local is what it says
declared_so : (t : OfLocal) (ns : List Word) (w : Spelled) (v : Values)
    → W w (declared t.0.lexeme (push_list ns v)) ≡ W w (push_list (ns ++ t.1 ∷ []) v)
declared_so t ns w v = ap (λ l. W w (declared l (push_list ns v))) t.2

built_locals : (ls : un.Locals) (ns : List Word) (w : Spelled) (v : Values)
    → W (write.locals ls w) (push_list ns v) ≡ W w (push_list (ns ++ tree.locals_tree ls) v)
built_locals un.no_local ns w v = ap (λ ms. W w (push_list ms v)) (sym (append-nil ns))
built_locals (un.next_local int_word name sign zero semicolon ls) ns w v =
    declared_so name ns (Read sign.0 r.Plain ∷ Read zero.0 r.Plain ∷ Read semicolon.0 r.Plain ∷ write.locals ls w) v
    ∙ built_locals ls (ns ++ name.1 ∷ []) w v
    ∙ ap (λ ms. W w (push_list ms v)) (one_more ns name.1 (tree.locals_tree ls))

built_more_parameters : (xs : un.MoreParameters) (ns : List Word) (w : Spelled) (v : Values)
    → W (write.more_parameters xs w) (push_list ns v) ≡ W w (push_list (ns ++ tree.more_parameters_tree xs) v)
built_more_parameters un.no_parameter ns w v = ap (λ ms. W w (push_list ms v)) (sym (append-nil ns))
built_more_parameters (un.next_parameter comma int_word name xs) ns w v =
    declared_so name ns (write.more_parameters xs w) v
    ∙ built_more_parameters xs (ns ++ name.1 ∷ []) w v
    ∙ ap (λ ms. W w (push_list ms v)) (one_more ns name.1 (tree.more_parameters_tree xs))

built_parameters : (ps : un.Parameters) (w : Spelled) (v : Values)
    → W (write.parameters ps w) (push_list [] v) ≡ W w (push_list (tree.parameters_tree ps) v)
built_parameters (un.none void_word) w v = refl
built_parameters (un.some int_word name xs) w v =
    declared_so name [] (write.more_parameters xs w) v ∙ built_more_parameters xs (name.1 ∷ []) w v

-- the locals and the statements of a body on the stacks
abbrev with_body : un.Body → Values → Values
with_body b v = let x = tree.body_tree b in push_body x.statements (push_list x.locals v)

built_body : (role : Role) → ((l : Lexeme) (v : Values) → at_token role l v ≡ v) → (b : un.Body) (w : Spelled) (v : Values)
    → W (write.body role b w) v ≡ W w (with_body b v)
built_body role plain (un.body brace ls ss brace') w v =
    let end = Read brace'.0 role ∷ w in
    built_locals ls [] (Did m.Statements ∷ spell.stmts ss end) v
    ∙ built_stmts ss [] end (push_list (tree.locals_tree ls) v)
    ∙ ap (W w) (plain brace'.0.lexeme (push_body (stmts_tree ss) (push_list (tree.locals_tree ls) v)))

named_function : (t : OfFunction) (w : Spelled) (v : Values) → W w (named t.0.lexeme v) ≡ W w (push_name t.1 v)
named_function t w v = ap (λ l. W w (named l v)) t.2

built_function : (x : un.Function) (w : Spelled) (v : Values) → W (write.function x w) v ≡ W w (put_functions (tree.function_tree x ∷ []) v)
built_function (un.giving static_word int_word name left ps right b) w v =
    let end = Read right.0 r.Close ∷ write.body r.EndFunction b (Did m.Function ∷ w) in
    let v1 = push_name name.1 (push_gives true v) in
    named_function name (Read left.0 r.Open ∷ Did m.Parameters ∷ write.parameters ps end) (push_gives true v)
    ∙ built_parameters ps end v1
    ∙ built_body r.EndFunction (λ l v. refl) b (Did m.Function ∷ w) (push_list (tree.parameters_tree ps) v1)
built_function (un.plain static_word void_word name left ps right b) w v =
    let end = Read right.0 r.Close ∷ write.body r.EndFunction b (Did m.Function ∷ w) in
    let v1 = push_name name.1 (push_gives false v) in
    named_function name (Read left.0 r.Open ∷ Did m.Parameters ∷ write.parameters ps end) (push_gives false v)
    ∙ built_parameters ps end v1
    ∙ built_body r.EndFunction (λ l v. refl) b (Did m.Function ∷ w) (push_list (tree.parameters_tree ps) v1)

built_functions : (xs : un.Functions) (w : Spelled) (v : Values)
    → W (write.functions xs w) v ≡ W w (put_functions (tree.functions_tree xs) v)
built_functions un.no_function w v = ap (λ fs. W w (record v { functions = fs })) (sym (append-nil v.functions))
built_functions (un.next_function x xs) w v =
    built_function x (write.functions xs w) v
    ∙ built_functions xs w (put_functions (tree.function_tree x ∷ []) v)
    ∙ ap (λ ys. W w (record v { functions = ys })) (one_more v.functions (tree.function_tree x) (tree.functions_tree xs))

built_thread : (x : un.Thread) (w : Spelled) (v : Values) → W (write.thread x w) v ≡ W w (put_threads (tree.thread_tree x ∷ []) v)
built_thread (un.thread static_word void_word star name left void_word' star' unused right b) w v =
    built_body r.EndThread (λ l v. refl) b (Did m.Thread ∷ w) v

built_more_threads : (xs : un.MoreThreads) (w : Spelled) (v : Values)
    → W (write.more_threads xs w) v ≡ W w (put_threads (tree.more_threads_tree xs) v)
built_more_threads un.no_thread w v = ap (λ ts. W w (record v { threads = ts })) (sym (append-nil v.threads))
built_more_threads (un.next_thread x xs) w v =
    built_thread x (write.more_threads xs w) v
    ∙ built_more_threads xs w (put_threads (tree.thread_tree x ∷ []) v)
    ∙ ap (λ ys. W w (record v { threads = ys })) (one_more v.threads (tree.thread_tree x) (tree.more_threads_tree xs))

-- the table and `main` build nothing
built_listed : (xs : un.MoreListed) (w : Spelled) (v : Values) → W (write.more_listed xs w) v ≡ W w v
built_listed un.no_listed w v = refl
built_listed (un.next_listed comma name xs) w v = built_listed xs w v

built_table : (x : un.Table) (w : Spelled) (v : Values) → W (write.table x w) v ≡ W w v
built_table x w v = built_listed x.others (Read x.brace'.0 r.EndTable ∷ Read x.semicolon.0 r.Plain ∷ w) v

-- along a whole unit its program is built
pub built_whole : (x : un.Whole) → program_of (W (write.whole x) blank) ≡ tree.whole_tree x
built_whole x =
    let end = Read x.last.0 r.Plain ∷ [] in
    let main = write.main x.main end in
    let table = write.table x.table main in
    let others = write.more_threads x.others table in
    let first = write.thread x.first others in
    let functions = write.functions x.functions first in
    let processes = write.process_names x.processes functions in
    let channels = write.channel_names x.channels processes in
    let v1 = put_arrays (tree.arrays_tree x.arrays) blank in
    let v2 = put_channels (tree.channels_tree x.channels) v1 in
    let v3 = put_processes (tree.processes_tree x.processes) v2 in
    let v4 = put_functions (tree.functions_tree x.functions) v3 in
    let v5 = put_threads (tree.thread_tree x.first ∷ []) v4 in
    let v6 = put_threads (tree.more_threads_tree x.others) v5 in
    ap program_of
    (built_arrays x.arrays channels blank
    ∙ built_channels x.channels processes v1
    ∙ built_processes x.processes functions v2
    ∙ built_functions x.functions first v3
    ∙ built_thread x.first others v4
    ∙ built_more_threads x.others table v5
    ∙ built_table x.table main v6)
