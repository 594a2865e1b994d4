-- What a whole unit keeps.
use Rattle.std.proofs.Common.{◌≡◌, ◌≤◌, refl, sym, ap, ◌∙◌, subst, ℕ, ◌+◌, Bool, true, false, cond, List, [], ◌∷◌, length, ℤ, pos, arith}
use Rattle.std.specs.Prelude.{◌&&◌, ◌||◌, not, int_lt}
use Rattle.std.specs.List.{All, list_all}
use Rattle.std.proofs.lemmas.Bool.Decides.{nat_tests}
use Rattle.std.proofs.lemmas.List.{length_push}
use Rattle.std.proofs.lemmas.List.Elements.{All-nil, All-cons}
use Rattle.hc_frac.specs.declared.place.Place.{Place}
use Rattle.hc_grammar.specs.Texts.{Read, tokens_of}
use Rattle.hc_cast.specs.declared.program.CArray.{CArray}
use Rattle.hc_cast.specs.declared.program.CProgram.{CProgram}
use Rattle.hc_ctoken.specs.declared.token.Lexeme.{Lexeme}
use Rattle.hc_ctoken.specs.declared.token.Lexeme.TheVariants as lex
use Rattle.hc_ctoken.specs.declared.token.Token.{Token}
use Rattle.hc_cgrammar.specs.declared.role.Role.{Role}
use Rattle.hc_cgrammar.specs.declared.role.Role.TheVariants as r
use Rattle.hc_cgrammar.specs.declared.role.Mark.TheVariants as m
use Rattle.hc_cgrammar.specs.Leaves.{Spelled}
use Rattle.hc_cgrammar.specs.Units as g
use Rattle.hc_cgrammar.specs.UnitRoles as w
use Rattle.hc_cgrammar.specs.UnitTrees.{length_of, array_tree, arrays_tree, functions_tree, thread_tree, more_threads_tree, whole_tree}
use Rattle.hc_cgrammar.specs.State.{Signature, Owner, State, opening}
use Rattle.hc_cgrammar.specs.Walk.{name_of, functions_after, after_token, after_mark}
use Rattle.hc_cgrammar.specs.Rules.{in_literal, out_of_range, unfit}
use Rattle.hc_cgrammar.specs.Unit.{IsUnit}
use Rattle.hc_cmach.specs.Calls.{CallsGoBack}
use Rattle.hc_cfacts.specs.Limits.{IsArrayWithin, HasFewLocals, IsWithinLimits}
use Rattle.hc_cfacts.specs.Laws.{ProgramsCallBack, ProgramsKeepLimits}
use Rattle.hc_cfacts.proofs.Sane.{IsSmall, IsSane, AreSane, tokens_sane}
use Rattle.hc_cfacts.proofs.Goes.{Goes, goes}
use Rattle.hc_cfacts.proofs.Literals.{both_true}
use Rattle.hc_cfacts.proofs.Names.{room}
use Rattle.hc_cfacts.proofs.Bodies.{body_among, functions_go, thread_goes, threads_go}

-- ---- arrays

within : (k : ℕ) → int_lt (pos k) (pos 1) || int_lt (pos 1000000) (pos k) ≡ false → (1 ≤ length_of (pos k)) × (length_of (pos k) ≤ 1000000)
within k e = (grind (arith, nat_tests), grind (arith, nat_tests))

-- the number that says how long an array is
length_within : (n : ℤ) (s : State) → s.at_length ≡ true → out_of_range s n ≡ false → IsSmall n → (1 ≤ length_of n) × (length_of n ≤ 1000000)
length_within n s at e (k, f, small) =
    let P : ℤ → Type 0 = λ n. (1 ≤ length_of n) × (length_of n ≤ 1000000) in
    let far : ℤ → Bool = λ n. int_lt n (pos 1) || int_lt (pos 1000000) n in
    let there : far n ≡ false = sym (ap (λ b. cond b (far n) (not (in_literal s.call) && int_lt (pos 2147483647) n)) at) ∙ e in
    subst P (sym f) (within k (sym (ap far f) ∙ there))

numeral_within : (n : ℤ) (l : Lexeme) (s : State) → l ≡ lex.Number n → s.at_length ≡ true → unfit l s ≡ false → IsSane l
    → (1 ≤ length_of n) × (length_of n ≤ 1000000)
numeral_within n l s e at =
    let P : Lexeme → Type 0 = λ l. unfit l s ≡ false → IsSane l → (1 ≤ length_of n) × (length_of n ≤ 1000000) in
    subst P (sym e) (length_within n s at)

-- behind arrays, where there were n before
pub record ArraysPast (v : Spelled) (fs : List Signature) (n : ℕ) (xs : List CArray) : Type 0 where
  pub state : State
  pub goes : Goes v state
  pub functions : state.functions ≡ fs
  pub arrays : All IsArrayWithin xs
  pub count : n + length xs ≤ 64

arrays_go : (xs : g.Arrays) (v : Spelled) (n : ℕ) (s : State) → n ≤ length s.arrays → n ≤ 64 → Goes (w.arrays xs v) s
    → ArraysPast v s.functions n (arrays_tree xs)
arrays_go g.no_array v n s i few h =
    record { state = s; goes = h; functions = refl; arrays = All-nil IsArrayWithin; count = omega (arith, few) }
arrays_go (g.next_array (g.array static_word int_word name left size right semicolon) xs) v n s i few
    (s1, (s2, (s3, (s4, (s5, (s6, (s7, h))))))) =
    let a = g.array static_word int_word name left size right semicolon in
    let t = after_token r.Plain int_word.0.lexeme (after_token r.Plain static_word.0.lexeme s) in
    let u = after_token r.OpenLength left.0.lexeme (after_token r.DeclareArray name.0.lexeme t) in
    let y = after_token r.Close right.0.lexeme (after_token r.Length size.0.lexeme u) in
    let z = after_mark m.Array (after_token r.Plain semicolon.0.lexeme y) in
    let fits = numeral_within size.1 size.0.lexeme u size.2 refl s5.fits s5.sane in
    let one_more : length z.arrays ≡ length s.arrays + 1 = length_push s.arrays (name_of name.0.lexeme) in
    let rest = arrays_go xs v (n + 1) z (omega (arith, one_more, i)) (omega (arith, i, room (length s.arrays) 64 s3.has_room)) h in
    record {
      state = rest.state;
      goes = rest.goes;
      functions = rest.functions;
      arrays = All-cons IsArrayWithin (array_tree a) (arrays_tree xs) (record { least = fits.0; most = fits.1 }) rest.arrays;
      count = omega (arith, rest.count);
    }

-- ---- names of channels and processes

-- behind a part that declares no function
pub record Onward (v : Spelled) (fs : List Signature) : Type 0 where
  pub state : State
  pub goes : Goes v state
  pub same : state.functions ≡ fs

-- strings in a role
module _ (role : Role) (keeps : (o : Owner) (fs : List Signature) → functions_after role o fs ≡ fs) where
  string_go : (x : g.String) (v : Spelled) (s : State) → Goes (w.string role x v) s → Onward v s.functions
  string_go (g.named text) v s (step, h) =
      record { state = after_token role text.0.lexeme s; goes = h; same = keeps s.owner s.functions }
  string_go (g.empty text) v s (step, h) =
      record { state = after_token role text.0.lexeme s; goes = h; same = keeps s.owner s.functions }

  more_strings_go : (xs : g.MoreStrings) (v : Spelled) (s : State) → Goes (w.more_strings role xs v) s → Onward v s.functions
  more_strings_go g.no_string v s h = record { state = s; goes = h; same = refl }
  more_strings_go (g.next_string comma x xs) v s (step, h) =
      let p = string_go x (w.more_strings role xs v) (after_token r.Plain comma.0.lexeme s) h in
      let q = more_strings_go xs v p.state p.goes in
      record { state = q.state; goes = q.goes; same = q.same ∙ p.same }

  strings_go : (x : g.Strings) (v : Spelled) (s : State) → Goes (w.strings role x v) s → Onward v s.functions
  strings_go x v s (s1, (s2, (s3, (s4, (s5, h))))) =
      let last = Read x.brace'.0 r.EndNames ∷ Read x.semicolon.0 r.Plain ∷ v in
      let t = after_token r.Close x.right.0.lexeme (after_token r.Count x.count.0.lexeme (after_token r.Open x.left.0.lexeme s)) in
      let u = after_token r.Open x.brace.0.lexeme (after_token r.Plain x.sign.0.lexeme t) in
      let p = string_go x.first (w.more_strings role x.others last) u h in
      let q = more_strings_go x.others last p.state p.goes in
      record {
        state = after_token r.Plain x.semicolon.0.lexeme (after_token r.EndNames x.brace'.0.lexeme q.state);
        goes = q.goes.1.1;
        same = q.same ∙ p.same;
      }

abbrev behind_header : g.Header → Token → State → State
behind_header h word s =
    let t = after_token r.Plain h.char_word.0.lexeme (after_token r.Plain h.const_word.0.lexeme s) in
    let u = after_token r.Plain h.const_word'.0.lexeme (after_token r.Plain h.star.0.lexeme t) in
    after_token r.Plain word.lexeme u

channels_go : (x : g.ChannelNames) (v : Spelled) (s : State) → Goes (w.channel_names x v) s → Onward v s.functions
channels_go (g.channel_names h word x) v s (s1, (s2, (s3, (s4, (s5, goes))))) =
    strings_go r.Channel (λ o fs. refl) x v (behind_header h word.0 s) goes

processes_go : (x : g.ProcessNames) (v : Spelled) (s : State) → Goes (w.process_names x v) s → Onward v s.functions
processes_go (g.process_names h word x) v s (s1, (s2, (s3, (s4, (s5, goes))))) =
    strings_go r.Process (λ o fs. refl) x v (behind_header h word.0 s) goes

-- ---- units

whole_keeps : (x : g.Whole) → Goes (w.whole x) opening → CallsGoBack (whole_tree x) × IsWithinLimits (whole_tree x)
whole_keeps x h =
    let all = functions_tree x.functions in
    let others = more_threads_tree x.others in
    let from_table = w.table x.table (w.main x.main (Read x.last.0 r.Plain ∷ [])) in
    let from_others = w.more_threads x.others from_table in
    let from_threads = w.thread x.first from_others in
    let from_functions = w.functions x.functions from_threads in
    let from_processes = w.process_names x.processes from_functions in
    let a = arrays_go x.arrays (w.channel_names x.channels from_processes) 0 opening (omega arith) (omega arith) h in
    let c = channels_go x.channels from_processes a.state a.goes in
    let p = processes_go x.processes from_functions c.state c.goes in
    let f = functions_go x.functions from_threads [] all p.state refl (p.same ∙ c.same ∙ a.functions) (omega arith) p.goes in
    let t = thread_goes x.first from_others all f.state f.functions f.goes in
    let ts = threads_go x.others from_table all (f.state.threads + 1) t.state t.functions t.threads t.count t.goes in (
      record {
        functions = f.calls;
        threads = both_true (body_among all (thread_tree x.first)) (list_all (body_among all) others) t.calls ts.calls;
      },
      record {
        few_arrays = omega (arith, a.count);
        arrays = a.arrays;
        few_functions = f.count;
        functions = f.names;
        some_thread = omega arith;
        few_threads = omega (arith, ts.count);
        threads = All-cons HasFewLocals (thread_tree x.first) others t.few ts.names;
      },
    )

unit_keeps : (from : Place) (bytes : List ℕ) (p : CProgram) → IsUnit from bytes p → CallsGoBack p × IsWithinLimits p
unit_keeps from bytes p u =
    let sane : AreSane (tokens_of (w.whole u.written)) = subst AreSane (sym u.tokens) (tokens_sane from bytes) in
    let P : CProgram → Type 0 = λ p. CallsGoBack p × IsWithinLimits p in
    subst P u.program (whole_keeps u.written (goes (w.whole u.written) opening u.within sane))

pub programs_call_back : ProgramsCallBack
programs_call_back from bytes p u = (unit_keeps from bytes p u).0

pub programs_keep_limits : ProgramsKeepLimits
programs_keep_limits from bytes p u = (unit_keeps from bytes p u).1
