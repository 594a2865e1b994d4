-- What functions and threads keep: their calls go back, and their names are few.
use Rattle.std.proofs.Common.{◌≡◌, ◌≤◌, refl, sym, ap, ◌∙◌, subst, ℕ, ◌+◌, Bool, true, false, List, [], ◌∷◌, ◌++◌, map, length, arith}
use Rattle.std.specs.List.{All, list_all}
use Rattle.std.proofs.lemmas.List.{map-append, length-append, length-map, append-nil, append_assoc}
use Rattle.std.proofs.lemmas.List.Elements.{All-nil, All-cons}
use Rattle.hc_grammar.specs.Texts.{Read, Did}
use Rattle.hc_cast.specs.declared.program.CBody.{CBody}
use Rattle.hc_cast.specs.declared.program.CFunction.{CFunction}
use Rattle.hc_ctoken.specs.declared.token.Token.{Token}
use Rattle.hc_cgrammar.specs.declared.role.Role.{Role}
use Rattle.hc_cgrammar.specs.declared.role.Role.TheVariants as r
use Rattle.hc_cgrammar.specs.declared.role.Mark.TheVariants as m
use Rattle.hc_cgrammar.specs.Leaves.{Word, Spelled}
use Rattle.hc_cgrammar.specs.StmtRoles.{stmts}
use Rattle.hc_cgrammar.specs.Units as g
use Rattle.hc_cgrammar.specs.UnitRoles as w
use Rattle.hc_cgrammar.specs.UnitTrees.{body_tree, parameters_tree, function_tree, functions_tree, thread_tree, more_threads_tree, locals_tree}
use Rattle.hc_cgrammar.specs.State.{Signature, Owner, function, thread, State}
use Rattle.hc_cgrammar.specs.Walk.{name_of, with_owner, after_token, after_mark}
use Rattle.hc_cmach.specs.Calls.{all_among, functions_go_back}
use Rattle.hc_cfacts.specs.Limits.{HasFewNames, HasFewLocals}
use Rattle.hc_cfacts.proofs.Goes.{Goes}
use Rattle.hc_cfacts.proofs.Exprs.{Kept, kept_of}
use Rattle.hc_cfacts.proofs.Literals.{both_true}
use Rattle.hc_cfacts.proofs.Callees.{signature_of}
use Rattle.hc_cfacts.proofs.Stmts.{stmts_past}
use Rattle.hc_cfacts.proofs.Names.{room, housed, with_parameters, locals_go, parameters_go}

-- ---- bodies

-- before the bracket that ends a body with these parameters
pub record Ended (role : Role) (v : Spelled) (fs : List CFunction) (n : ℕ) (o : Owner) (ps : List Word) (b : CBody) : Type 0 where
  pub last : Token
  pub state : State
  pub goes : Goes (Read last role ∷ v) state
  pub same : kept_of state ≡ housed (map signature_of fs) n o (ps ++ b.locals)
  pub calls : all_among fs b.statements ≡ true
  pub few : length (ps ++ b.locals) ≤ 64

body_goes : (role : Role) (b : g.Body) (v : Spelled) (fs : List CFunction) (n : ℕ) (o : Owner) (ps : List Word) (s : State)
    → kept_of s ≡ housed (map signature_of fs) n o ps → length ps ≤ 64 → Goes (w.body role b v) s → Ended role v fs n o ps (body_tree b)
body_goes role (g.body brace ls ss brace') v fs n o ps s q few (step, h) =
    let last = Read brace'.0 role ∷ v in
    let t = after_mark m.Locals (after_token r.Open brace.0.lexeme s) in
    let all = ps ++ locals_tree ls in
    let p = locals_go (map signature_of fs) n ls o ps all (Did m.Statements ∷ stmts ss last) t refl q few h in
    let k = housed (map signature_of fs) n o all in
    let z = stmts_past fs k refl ss last (after_mark m.Statements p.state) p.same p.goes in
    record { last = brace'.0; state = z.state; goes = z.goes; same = z.same; calls = z.calls; few = p.few }

-- ---- functions

-- behind a function
pub record Defined (v : Spelled) (fs : List CFunction) (f : CFunction) : Type 0 where
  pub state : State
  pub goes : Goes v state
  pub functions : state.functions ≡ map signature_of (fs ++ f ∷ [])
  pub calls : all_among fs f.body.statements ≡ true
  pub few : HasFewNames f
  pub count : length fs + 1 ≤ 200

named_few : (f : CFunction) → length (f.params ++ f.body.locals) ≤ 64 → HasFewNames f
named_few f h = let P : ℕ → Type 0 = λ n. n ≤ 64 in subst P (length-append f.params f.body.locals) h

-- there was room for one function more
counted : (fs : List CFunction) (known : List Signature) → known ≡ map signature_of fs → length known + 1 ≤ 200 → length fs + 1 ≤ 200
counted fs known e h = let P : ℕ → Type 0 = λ n. n + 1 ≤ 200 in subst P (ap length e ∙ length-map fs signature_of) h

-- from the parameters on
defined : (name : Word) (gives : Bool) (ps : g.Parameters) (b : g.Body) (right : Token) (v : Spelled) (fs : List CFunction) (n : ℕ) (s : State)
    → kept_of s ≡ with_parameters (map signature_of fs) n name gives [] → length fs + 1 ≤ 200
    → Goes (w.parameters ps (Read right r.Close ∷ w.body r.EndFunction b (Did m.Function ∷ v))) s
    → Defined v fs (record { name = name; gives = gives; params = parameters_tree ps; body = body_tree b })
defined name gives ps b right v fs n s q count h =
    let f : CFunction = record { name = name; gives = gives; params = parameters_tree ps; body = body_tree b } in
    let before = map signature_of fs in
    let p = parameters_go before n name gives ps (Read right r.Close ∷ w.body r.EndFunction b (Did m.Function ∷ v)) s q h in
    let t = after_token r.Close right.lexeme p.state in
    let z = body_goes r.EndFunction b (Did m.Function ∷ v) fs n (function (signature_of f)) (parameters_tree ps) t p.same p.few p.goes.1 in
    record {
      state = after_mark m.Function (after_token r.EndFunction z.last.lexeme z.state);
      goes = z.goes.1;
      functions = ap (λ (k : Kept). with_owner k.owner k.functions) z.same ∙ sym (map-append signature_of fs (f ∷ []));
      calls = z.calls;
      few = named_few f z.few;
      count = count;
    }

-- a function that has just been named
opened : (fs : List CFunction) (known : List Signature) (n : ℕ) (said name : Word) (gives : Bool) → known ≡ map signature_of fs → said ≡ name
    → with_parameters known n said gives [] ≡ with_parameters (map signature_of fs) n name gives []
opened fs known n said name gives e f =
    ap (λ known. with_parameters known n said gives []) e ∙ ap (λ said. with_parameters (map signature_of fs) n said gives []) f

function_goes : (x : g.Function) (v : Spelled) (fs : List CFunction) (s : State) → s.functions ≡ map signature_of fs
    → Goes (w.function x v) s → Defined v fs (function_tree x)
function_goes (g.giving static_word int_word name left ps right b) v fs s q (s1, (s2, (s3, (s4, h)))) =
    let t = after_token r.DeclareGiving name.0.lexeme (after_token r.Plain int_word.0.lexeme (after_token r.Plain static_word.0.lexeme s)) in
    defined name.1 true ps b right.0 v fs s.threads (after_mark m.Parameters (after_token r.Open left.0.lexeme t))
    (opened fs s.functions s.threads (name_of name.0.lexeme) name.1 true q (ap name_of name.2))
    (counted fs s.functions q (room (length s.functions) 200 s3.has_room)) h
function_goes (g.plain static_word void_word name left ps right b) v fs s q (s1, (s2, (s3, (s4, h)))) =
    let t = after_token r.DeclareVoid name.0.lexeme (after_token r.Plain void_word.0.lexeme (after_token r.Plain static_word.0.lexeme s)) in
    defined name.1 false ps b right.0 v fs s.threads (after_mark m.Parameters (after_token r.Open left.0.lexeme t))
    (opened fs s.functions s.threads (name_of name.0.lexeme) name.1 false q (ap name_of name.2))
    (counted fs s.functions q (room (length s.functions) 200 s3.has_room)) h

-- behind functions that stand behind others and make all of them
pub record AllDefined (v : Spelled) (fs new all : List CFunction) : Type 0 where
  pub state : State
  pub goes : Goes v state
  pub functions : state.functions ≡ map signature_of all
  pub calls : functions_go_back fs new ≡ true
  pub names : All HasFewNames new
  pub count : length all ≤ 200

one_longer : (fs : List CFunction) (f : CFunction) → length fs + 1 ≤ 200 → length (fs ++ f ∷ []) ≤ 200
one_longer fs f h = let P : ℕ → Type 0 = λ n. n ≤ 200 in subst P (sym (length-append fs (f ∷ []))) h

pub functions_go : (xs : g.Functions) (v : Spelled) (fs all : List CFunction) (s : State) → fs ++ functions_tree xs ≡ all
    → s.functions ≡ map signature_of fs → length fs ≤ 200 → Goes (w.functions xs v) s → AllDefined v fs (functions_tree xs) all
functions_go g.no_function v fs all s a q count h =
    let P : List CFunction → Type 0 = λ all. AllDefined v fs [] all in
    subst P (sym (append-nil fs) ∙ a)
    (record { state = s; goes = h; functions = q; calls = refl; names = All-nil HasFewNames; count = count })
functions_go (g.next_function x xs) v fs all s a q count h =
    let f = function_tree x in
    let p = function_goes x (w.functions xs v) fs s q h in
    let rest = functions_go xs v (fs ++ f ∷ []) all p.state (append_assoc fs (f ∷ []) (functions_tree xs) ∙ a) p.functions
    (one_longer fs f p.count) p.goes
    in
    record {
      state = rest.state;
      goes = rest.goes;
      functions = rest.functions;
      calls = both_true (all_among fs f.body.statements) (functions_go_back (fs ++ f ∷ []) (functions_tree xs)) p.calls rest.calls;
      names = All-cons HasFewNames f (functions_tree xs) p.few rest.names;
      count = rest.count;
    }

-- ---- threads

-- behind a thread, before which there were n
pub record Threaded (v : Spelled) (fs : List CFunction) (n : ℕ) (b : CBody) : Type 0 where
  pub state : State
  pub goes : Goes v state
  pub functions : state.functions ≡ map signature_of fs
  pub threads : state.threads ≡ n + 1
  pub calls : all_among fs b.statements ≡ true
  pub few : HasFewLocals b
  pub count : n + 1 ≤ 64

pub thread_goes : (x : g.Thread) (v : Spelled) (fs : List CFunction) (s : State) → s.functions ≡ map signature_of fs
    → Goes (w.thread x v) s → Threaded v fs s.threads (thread_tree x)
thread_goes (g.thread static_word void_word star name left void_word' star' unused right b) v fs s q
    (s1, (s2, (s3, (s4, (s5, (s6, (s7, (s8, (s9, h))))))))) =
    let t = after_token r.Plain star.0.lexeme (after_token r.Plain void_word.0.lexeme (after_token r.Plain static_word.0.lexeme s)) in
    let u = after_token r.Open left.0.lexeme (after_token r.DeclareThread name.0.lexeme t) in
    let y = after_token r.Plain unused.0.lexeme (after_token r.Plain star'.0.lexeme (after_token r.Plain void_word'.0.lexeme u)) in
    let z = body_goes r.EndThread b (Did m.Thread ∷ v) fs (s.threads + 1) thread [] (after_token r.Close right.0.lexeme y)
    (ap (λ fs. housed fs (s.threads + 1) thread []) q) (omega arith) h
    in
    record {
      state = after_mark m.Thread (after_token r.EndThread z.last.lexeme z.state);
      goes = z.goes.1;
      functions = ap (λ (k : Kept). k.functions) z.same;
      threads = ap (λ (k : Kept). k.threads) z.same;
      calls = z.calls;
      few = z.few;
      count = room s.threads 64 s4.has_room;
    }

abbrev pub body_among : List CFunction → CBody → Bool
body_among fs b = all_among fs b.statements

-- threads behind n others
pub record AllThreaded (fs : List CFunction) (n : ℕ) (bs : List CBody) : Type 0 where
  pub calls : list_all (body_among fs) bs ≡ true
  pub names : All HasFewLocals bs
  pub count : n + length bs ≤ 64

pub threads_go : (xs : g.MoreThreads) (v : Spelled) (fs : List CFunction) (n : ℕ) (s : State) → s.functions ≡ map signature_of fs
    → s.threads ≡ n → n ≤ 64 → Goes (w.more_threads xs v) s → AllThreaded fs n (more_threads_tree xs)
threads_go g.no_thread v fs n s q e count h = record { calls = refl; names = All-nil HasFewLocals; count = omega (arith, count) }
threads_go (g.next_thread x xs) v fs n s q e count h =
    let b = thread_tree x in
    let p = thread_goes x (w.more_threads xs v) fs s q h in
    let rest = threads_go xs v fs (n + 1) p.state p.functions (p.threads ∙ ap (λ n. n + 1) e) (omega (arith, p.count, e)) p.goes in
    record {
      calls = both_true (body_among fs b) (list_all (body_among fs) (more_threads_tree xs)) p.calls rest.calls;
      names = All-cons HasFewLocals b (more_threads_tree xs) p.few rest.names;
      count = omega (arith, rest.count);
    }
