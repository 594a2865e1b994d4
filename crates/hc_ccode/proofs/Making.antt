-- Bodies, one after the other.
use Rattle.std.proofs.Common.{◌≡◌, refl, sym, ap, ◌∙◌, subst, ℕ, ◌+◌, ◌<◌, zero, suc, Bool, false, IsTrue, List, [], ◌∷◌, ◌++◌, length, take, get_or, arith, append_assoc, length-append}
use Rattle.std.specs.List.{list_all}
use Rattle.std.proofs.lemmas.List.{append-nil, take_more, take_all}
use Rattle.hc_cast.specs.declared.program.CBody.{CBody}
use Rattle.hc_cast.specs.declared.program.CFunction.{CFunction}
use Rattle.hc_cast.specs.declared.program.CProgram.{CProgram}
use Rattle.hc_cmach.specs.State.{Word}
use Rattle.hc_ccode.specs.declared.code.Entry.{Entry}
use Rattle.hc_ccode.specs.declared.code.Node.{Node}
use Rattle.hc_cmach.specs.Calls.{all_among, functions_go_back, CallsGoBack}
use Rattle.hc_ccode.specs.Stages.{Stages, AllAgree, Begins, FunctionsBegin, ThreadsBegin, IsCode}
use Rattle.hc_ccode.specs.Pieces.{HasAt, AddsBody, AddsEntry, IsMade, HasThreads}
use Rattle.hc_ccode.proofs.Growing.{has_at, agree_join}
use Rattle.hc_ccode.proofs.Forms.{both}

-- ---- calls

go_back_at : (before fs : List CFunction) (i : ℕ) (f : CFunction) → IsTrue (functions_go_back before fs) → i < length fs → f ≡ get_or fs i f →
    IsTrue (all_among (before ++ take i fs) f.body.statements)
go_back_at before [] i f h k e = absurd (omega arith)
go_back_at before (f ∷ fs) zero x h k e =
    let own = (both (all_among before f.body.statements) (functions_go_back (before ++ f ∷ []) fs) h).0 in
    subst (λ (ds : List CFunction). IsTrue (all_among ds x.body.statements)) (sym (append-nil before))
    (subst (λ (y : CFunction). IsTrue (all_among before y.body.statements)) (sym e) own)
go_back_at before (f ∷ fs) (suc i) x h k e =
    let later = (both (all_among before f.body.statements) (functions_go_back (before ++ f ∷ []) fs) h).1 in
    subst (λ (ds : List CFunction). IsTrue (all_among ds x.body.statements)) (append_assoc before (f ∷ []) (take i fs))
    (go_back_at (before ++ f ∷ []) fs i x later (omega arith) e)

pub function_calls : (g : CProgram) → CallsGoBack g → (i : ℕ) (f : CFunction) → i < length g.functions → f ≡ get_or g.functions i f →
    IsTrue (all_among (take i g.functions) f.body.statements)
function_calls g h i f k e = go_back_at [] g.functions i f h.functions k e

thread_at : (p : CBody → Bool) (bs : List CBody) (i : ℕ) (b : CBody) → IsTrue (list_all p bs) → i < length bs → b ≡ get_or bs i b → IsTrue (p b)
thread_at p [] i b h k e = absurd (omega arith)
thread_at p (x ∷ xs) zero b h k e = ap p e ∙ (both (p x) (list_all p xs) h).0
thread_at p (x ∷ xs) (suc i) b h k e = thread_at p xs i b (both (p x) (list_all p xs) h).1 (omega arith) e

pub thread_calls : (g : CProgram) → CallsGoBack g → (i n : ℕ) (b : CBody) → n ≡ length g.functions → i < length g.threads → b ≡ get_or g.threads i b →
    IsTrue (all_among (take n g.functions) b.statements)
thread_calls g h i n b e k b_is =
    subst (λ (ds : List CFunction). IsTrue (all_among ds b.statements)) (sym (take_all n g.functions (omega arith)))
    (thread_at (λ (c : CBody). all_among g.functions c.statements) g.threads i b h.threads k b_is)

length-first : {X : Type 0} (xs : List X) (i : ℕ) → i < length xs → length (take i xs) ≡ i
length-first [] i h = absurd (omega arith)
length-first (x ∷ xs) zero h = refl
length-first (x ∷ xs) (suc i) h = ap suc (length-first xs i (omega arith))

-- ---- entries

module _ (g : CProgram) where
  pub entry_adds : (known start n m : ℕ) (names given : List Word) (body : CBody) (has_result : Bool) (old new : List Node) (e : Entry) →
      given ≡ names ++ body.locals → AddsBody g given known old new start body.statements →
      e ≡ record { start = start; params = n; locals = m; gives = has_result } → n ≡ length names → m ≡ length body.locals →
      AddsEntry g known names body has_result old new e
  entry_adds known start n m names given body has_result old new e given_is a e_is n_is m_is =
      subst (λ (x : Entry). AddsEntry g known names body has_result old new x) (sym e_is) (record {
        adds = subst (λ (xs : List Word). AddsBody g xs known old new start body.statements) given_is a;
        params = n_is;
        locals = m_is;
        gives = refl;
      })

  pub nothing_made : (nodes : List Node) (entries : List Entry) → nodes ≡ [] → entries ≡ [] → IsMade g nodes [] entries [] []
  nothing_made nodes entries e k =
      subst (λ (ns : List Node). IsMade g ns [] entries [] []) (sym e)
      (subst (λ (es : List Entry). IsMade g [] [] es [] []) (sym k) (record { stages = []; even = refl; stands = λ more. (tt, tt, tt) }))

  functions_more : (t : Stages) (known : ℕ) (es : List Entry) (fs : List CFunction) (e : Entry) (f : CFunction) → FunctionsBegin t known es fs →
      Begins t (known + length fs) f.params f.body f.gives e → FunctionsBegin t known (es ++ e ∷ []) (fs ++ f ∷ [])
  functions_more t known [] [] e f h b =
      let same : known + 0 ≡ known = omega arith in (subst (λ (n : ℕ). Begins t n f.params f.body f.gives e) same b, tt)
  functions_more t known [] (x ∷ xs) e f h b = absurd h
  functions_more t known (y ∷ ys) [] e f h b = absurd h
  functions_more t known (y ∷ ys) (x ∷ xs) e f h b =
      let same : known + length (x ∷ xs) ≡ known + 1 + length xs = omega arith in
      (h.0, functions_more t (known + 1) ys xs e f h.1 (subst (λ (n : ℕ). Begins t n f.params f.body f.gives e) same b))

  threads_more : (t : Stages) (known : ℕ) (es : List Entry) (bs : List CBody) (e : Entry) (b : CBody) → ThreadsBegin t known es bs →
      Begins t known [] b false e → ThreadsBegin t known (es ++ e ∷ []) (bs ++ b ∷ [])
  threads_more t known [] [] e b h k = (k, tt)
  threads_more t known [] (x ∷ xs) e b h k = absurd h
  threads_more t known (y ∷ ys) [] e b h k = absurd h
  threads_more t known (y ∷ ys) (x ∷ xs) e b h k = (h.0, threads_more t known ys xs e b h.1 k)

  -- the stages of what was made and of one body more
  module _ (old new : List Node) (known : ℕ) (names : List Word) (body : CBody) (has_result : Bool) (e : Entry)
      (a : AddsEntry g known names body has_result old new e) (ls : Stages) (even : length ls ≡ length old) where
    abbrev both_stages : Stages
    both_stages = ls ++ a.adds.stages

    both_even : length both_stages ≡ length new
    both_even = omega (arith, even, a.adds.even, ap length a.adds.is, length-append ls a.adds.stages, length-append old a.adds.piece)

    longer : (more : Stages) → both_stages ++ more ≡ ls ++ (a.adds.stages ++ more)
    longer more = append_assoc ls a.adds.stages more

    has : (more : Stages) → HasAt (both_stages ++ more) (length old) a.adds.stages
    has more = subst (λ (n : ℕ). HasAt (both_stages ++ more) n a.adds.stages) even (has_at (both_stages ++ more) ls a.adds.stages more (longer more))

    begins : (more : Stages) → Begins (both_stages ++ more) known names body has_result e
    begins more = record {
      start = (a.adds.stands (both_stages ++ more) (has more)).1;
      params = a.params;
      locals = a.locals;
      gives = a.gives;
    }

    agrees : (more : Stages) → AllAgree g (both_stages ++ more) old ls → AllAgree g (both_stages ++ more) new both_stages
    agrees more h =
        subst (λ (ns : List Node). AllAgree g (both_stages ++ more) ns both_stages) (sym a.adds.is)
        (agree_join g (both_stages ++ more) old a.adds.piece ls a.adds.stages h (a.adds.stands (both_stages ++ more) (has more)).0)

  one_function : (old new : List Node) (fs : List CFunction) (f : CFunction) (es : List Entry) (e : Entry) (known : ℕ) → known ≡ length fs →
      IsMade g old fs es [] [] → AddsEntry g known f.params f.body f.gives old new e → IsMade g new (fs ++ f ∷ []) (es ++ e ∷ []) [] []
  one_function old new fs f es e known known_is m a = record {
    stages = both_stages old new known f.params f.body f.gives e a m.stages m.even;
    even = both_even old new known f.params f.body f.gives e a m.stages m.even;
    stands = λ more.
        let t = both_stages old new known f.params f.body f.gives e a m.stages m.even ++ more in
        let had = m.stands (a.adds.stages ++ more) in
        let same = longer old new known f.params f.body f.gives e a m.stages m.even more in
        let agree = subst (λ (u : Stages). AllAgree g u old m.stages) (sym same) had.0 in
        let functions = subst (λ (u : Stages). FunctionsBegin u 0 es fs) (sym same) had.1 in
        let start = subst (λ (n : ℕ). Begins t n f.params f.body f.gives e) (let e : known ≡ 0 + length fs = omega (arith, known_is) in e) (begins old new known f.params f.body f.gives e a m.stages m.even more) in
        (agrees old new known f.params f.body f.gives e a m.stages m.even more agree, functions_more t 0 es fs e f functions start, tt);
  }

  one_thread : (old new : List Node) (fs : List CFunction) (es hs : List Entry) (bs : List CBody) (b : CBody) (e : Entry) (known : ℕ) → known ≡ length g.functions →
      IsMade g old fs es bs hs → AddsEntry g known [] b false old new e → IsMade g new fs es (bs ++ b ∷ []) (hs ++ e ∷ [])
  one_thread old new fs es hs bs b e known known_is m a = record {
    stages = both_stages old new known [] b false e a m.stages m.even;
    even = both_even old new known [] b false e a m.stages m.even;
    stands = λ more.
        let t = both_stages old new known [] b false e a m.stages m.even ++ more in
        let had = m.stands (a.adds.stages ++ more) in
        let same = longer old new known [] b false e a m.stages m.even more in
        let agree = subst (λ (u : Stages). AllAgree g u old m.stages) (sym same) had.0 in
        let functions = subst (λ (u : Stages). FunctionsBegin u 0 es fs) (sym same) had.1 in
        let threads = subst (λ (u : Stages). ThreadsBegin u (length g.functions) hs bs) (sym same) had.2 in
        let start = subst (λ (n : ℕ). Begins t n [] b false e) known_is (begins old new known [] b false e a m.stages m.even more) in
        (agrees old new known [] b false e a m.stages m.even more agree, functions, threads_more t (length g.functions) hs bs e b threads start);
  }

  pub function_more : (old new : List Node) (i : ℕ) (f : CFunction) (es more : List Entry) (e : Entry) (ps : List Word) → i < length g.functions →
      f ≡ get_or g.functions i f → IsMade g old (take i g.functions) es [] [] → ps ≡ f.params → AddsEntry g i ps f.body f.gives old new e →
      more ≡ es ++ e ∷ [] → IsMade g new (take (i + 1) g.functions) more [] []
  function_more old new i f es more e ps h f_is m ps_is a more_is =
      let taken : take (i + 1) g.functions ≡ take i g.functions ++ f ∷ [] =
      take_more g.functions i f h ∙ ap (λ (x : CFunction). take i g.functions ++ x ∷ []) (sym f_is) in
      let counted : i ≡ length (take i g.functions) = sym (length-first g.functions i h) in
      let own = subst (λ (xs : List Word). AddsEntry g i xs f.body f.gives old new e) ps_is a in
      subst (λ (xs : List Entry). IsMade g new (take (i + 1) g.functions) xs [] []) (sym more_is)
      (subst (λ (xs : List CFunction). IsMade g new xs (es ++ e ∷ []) [] []) (sym taken) (one_function old new (take i g.functions) f es e i counted m own))

  pub thread_more : (old new : List Node) (fs : List CFunction) (es hs more : List Entry) (i : ℕ) (b : CBody) (e : Entry) (known : ℕ) (ps : List Word) →
      known ≡ length g.functions → i < length g.threads → b ≡ get_or g.threads i b → IsMade g old fs es (take i g.threads) hs → ps ≡ [] →
      AddsEntry g known ps b false old new e → more ≡ hs ++ e ∷ [] → IsMade g new fs es (take (i + 1) g.threads) more
  thread_more old new fs es hs more i b e known ps known_is h b_is m ps_is a more_is =
      let taken : take (i + 1) g.threads ≡ take i g.threads ++ b ∷ [] =
      take_more g.threads i b h ∙ ap (λ (x : CBody). take i g.threads ++ x ∷ []) (sym b_is) in
      let own = subst (λ (xs : List Word). AddsEntry g known xs b false old new e) ps_is a in
      subst (λ (xs : List Entry). IsMade g new fs es (take (i + 1) g.threads) xs) (sym more_is)
      (subst (λ (xs : List CBody). IsMade g new fs es xs (hs ++ e ∷ [])) (sym taken) (one_thread old new fs es hs (take i g.threads) b e known known_is m own))

  pub made : (nodes : List Node) (es hs : List Entry) → HasThreads g nodes es hs → IsCode g (record { nodes = nodes; functions = es; threads = hs })
  made nodes es hs m =
      let all = m.stands [] in
      let same = append-nil m.stages in (
        m.stages,
        record {
          agree = subst (λ (u : Stages). AllAgree g u nodes m.stages) same all.0;
          functions = subst (λ (u : Stages). FunctionsBegin u 0 es g.functions) same all.1;
          threads = subst (λ (u : Stages). ThreadsBegin u (length g.functions) hs g.threads) same all.2;
        },
      )
