-- One element more of lists that are built along another, or along numbers.
use Rattle.std.proofs.Common.{◌≡◌, ◌≢◌, refl, sym, ap, ◌∙◌, subst, ℕ, zero, suc, ◌+◌, ◌-◌, ◌*◌, ◌<◌, List, [], ◌∷◌, ◌++◌, map, arith}
use Rattle.hc_term.specs.declared.stmt.Io.{Io}
use Rattle.hc_term.specs.declared.stmt.Io.TheVariants.{Send, Receive}
use Rattle.hc_code.specs.declared.code.Way.{Way}
use Rattle.hc_cast.specs.declared.stmt.CStmt.{CStmt}
use Rattle.hc_cast.specs.declared.stmt.CCase.{CCase}
use Rattle.hc_clogic.specs.Cases.{case_of, cases_from}
use Rattle.hc_cpost.specs.Parts.{below, all_sent_registers, sent_registers, rates_at, ios_at}
use Rattle.hc_cpost.specs.Written.{copy, copies, code_stmts, all_codes, show_case, show_cases, is_small}
use Rattle.hc_term.specs.declared.stmt.Rate.{Rate}
use Rattle.hc_code.specs.declared.code.Instr.{Instr}
use Rattle.hc_code.specs.declared.code.Instr.TheVariants as instr
use Rattle.hc_term.specs.Profile.{are_guards, is_evolution}
use Rattle.hc_code.specs.Kept.{ios_of, is_instr}
use Rattle.hc_csection.specs.Words.{ways_of}
use Rattle.hc_cpost.proofs.Agreeing.{guards_keep, evolution_rated}
use Rattle.hc_cstep.specs.Locals.{v_place}
use Rattle.hc_cbuild.specs.Written.{number}
use Rattle.hc_cast.specs.declared.stmt.CStmt.TheVariants.{Set}
use Rattle.std.proofs.lemmas.List.{length-map, take_more, length-take-le}
use Rattle.std.specs.Prelude.{slice_index_or}
use Rattle.hc_cstep.proofs.CasesMore.{cases_append}
use Rattle.hc_cpost.specs.Taking.{fetch, fetches, follower, follow_cases, take_case, take_cases}
use Rattle.std.specs.List.{list_all}
use Rattle.std.proofs.lemmas.Bool.{and_parts, and_from, leb-true, ltb-true, lt-ltb, le-leb}
use Rattle.std.proofs.Common.{take, IsTrue, ◌&&◌, Bool, true, nat_le, nat_lt, length, ◌≤◌}

pub below_step : (n : ℕ) → 0 < n → below n ≡ (n - 1) ∷ below (n - 1)
below_step zero h = absurd (omega (arith, h))
below_step (suc n) h =
    let same : n ≡ suc n - 1 = omega arith in
    ap (λ k. k ∷ below k) same

pub variables_step : (p n : ℕ) → n ≢ 0 → copies p (below n) ≡ copy p (n - 1) ∷ copies p (below (n - 1))
variables_step p zero h = absurd (h refl)
variables_step p (suc n) h =
    let same : n ≡ suc n - 1 = omega arith in
    ap (λ k. copy p k ∷ copies p (below k)) same

pub codes_step : (p g : ℕ) (io : Io) (ios : List Io) → all_codes p g (io ∷ ios) ≡ code_stmts p g io ++ all_codes p (g + 1) ios
codes_step p g io ios =
    let next : suc g ≡ g + 1 = omega arith in
    ap (λ k. code_stmts p g io ++ all_codes p k ios) next

copies-append : (p : ℕ) (ds es : List ℕ) → copies p (ds ++ es) ≡ copies p ds ++ copies p es
copies-append p [] es = refl
copies-append p (d ∷ ds) es = ap (λ ss. copy p d ∷ ss) (copies-append p ds es)

pub sent_step : (p g : ℕ) (io : Io) (ios : List Io) →
    copies p (all_sent_registers g (io ∷ ios)) ≡ copies p (sent_registers g io) ++ copies p (all_sent_registers (g + 1) ios)
sent_step p g io ios =
    let next : suc g ≡ g + 1 = omega arith in
    copies-append p (sent_registers g io) (all_sent_registers (suc g) ios) ∙ ap (λ k. copies p (sent_registers g io) ++ copies p (all_sent_registers k ios)) next

pub cases_step : {I : Type 0} (f : ℕ → I → List CStmt) (n : ℕ) (x : I) (xs : List I) → cases_from f n (x ∷ xs) ≡ case_of n (f n x) ∷ cases_from f (n + 1) xs
cases_step f n x xs =
    let next : suc n ≡ n + 1 = omega arith in
    ap (λ k. case_of n (f n x) ∷ cases_from f k xs) next

pub show_step : (p n : ℕ) (x : Instr) (xs : List Instr) → show_cases p n (x ∷ xs) ≡ case_of n (show_case p x) ∷ show_cases p (n + 1) xs
show_step p n x xs = cases_step (λ (place : ℕ) (i : Instr). show_case p i) n x xs

pub few_ways : (i : Instr) → is_small i ≡ true → length (ios_at i) ≤ 32
few_ways i h = leb-true (length (ios_at i)) 32 (and_parts (nat_le (length (ios_at i)) 32) (list_all (λ (r : Rate). nat_lt r.variable 64) (rates_at i)) h).0

pub few_rates : (i : Instr) → is_small i ≡ true → list_all (λ (r : Rate). nat_lt r.variable 64) (rates_at i) ≡ true
few_rates i h = (and_parts (nat_le (length (ios_at i)) 32) (list_all (λ (r : Rate). nat_lt r.variable 64) (rates_at i)) h).1

pub follow_step : (n : ℕ) (w : Way) (ws : List Way) → follow_cases n (w ∷ ws) ≡ case_of n (follower w.next) ∷ follow_cases (n + 1) ws
follow_step n w ws = cases_step (λ (g : ℕ) (v : Way). follower v.next) n w ws

pub take_step : (p n : ℕ) (x : Instr) (xs : List Instr) → take_cases p n (x ∷ xs) ≡ case_of n (take_case p x) ∷ take_cases p (n + 1) xs
take_step p n x xs = cases_step (λ (place : ℕ) (i : Instr). take_case p i) n x xs

pub fetched_step : (p n : ℕ) → n ≢ 0 → fetches p (below n) ≡ fetch p (n - 1) ∷ fetches p (below (n - 1))
fetched_step p zero h = absurd (h refl)
fetched_step p (suc n) h =
    let same : n ≡ suc n - 1 = omega arith in
    ap (λ k. fetch p k ∷ fetches p (below k)) same

ways_ios : (i : Instr) → length (ios_at i) ≡ length (ways_of i)
ways_ios (instr.Meet ways) = length-map ways _
ways_ios (instr.Evolve rates domain ways next) = length-map ways _
ways_ios instr.End = refl
ways_ios (instr.Skip next) = refl
ways_ios (instr.Assign x value next) = refl
ways_ios (instr.Log value next) = refl
ways_ios (instr.Test test yes' no') = refl
ways_ios (instr.Pick left right) = refl
ways_ios (instr.Again next) = refl
ways_ios (instr.Wait time next) = refl

pub few_next : (i : Instr) → is_small i ≡ true → length (ways_of i) ≤ 32
few_next i h = (let few = few_ways i h in let same = ways_ios i in omega (arith, few, same))

-- ---- codes that keep the rules

varied_low : (n : ℕ) → n ≤ 64 → (rates : List Rate) → list_all (λ (r : Rate). nat_lt r.variable n) rates ≡ true → list_all (λ (r : Rate). nat_lt r.variable 64) rates ≡ true
varied_low n few [] h = refl
varied_low n few (r ∷ rates) h =
    let parts = and_parts (nat_lt r.variable n) (list_all (λ (r : Rate). nat_lt r.variable n) rates) h in
    let low = ltb-true r.variable n parts.0 in
    and_from (nat_lt r.variable 64) (list_all (λ (r : Rate). nat_lt r.variable 64) rates) (lt-ltb r.variable 64 (omega (arith, low, few))) (varied_low n few rates parts.1)

pub small_is : (C n : ℕ) → n ≤ 64 → (i : Instr) → IsTrue (is_instr C n i) → is_small i ≡ true
small_is C n few (instr.Meet ways) h =
    let kept = guards_keep C n (ios_of ways) h in
    and_from (nat_le (length (ios_of ways)) 32) true (le-leb (length (ios_of ways)) 32 kept.short) refl
small_is C n few (instr.Evolve rates domain ways next) h =
    let parts = and_parts (is_evolution n rates domain (ios_of ways)) (are_guards C n (ios_of ways)) h in
    let kept = guards_keep C n (ios_of ways) parts.1 in
    let rated = evolution_rated C n rates domain (ios_of ways) parts.0 in
    and_from (nat_le (length (ios_of ways)) 32) (list_all (λ (r : Rate). nat_lt r.variable 64) rates) (le-leb (length (ios_of ways)) 32 kept.short) (varied_low n few rates rated.varied)
small_is C n few instr.End h = refl
small_is C n few (instr.Skip next) h = refl
small_is C n few (instr.Assign x value next) h = refl
small_is C n few (instr.Log value next) h = refl
small_is C n few (instr.Test test yes' no') h = refl
small_is C n few (instr.Pick left right) h = refl
small_is C n few (instr.Again next) h = refl
small_is C n few (instr.Wait time next) h = refl

-- so what the code is asked for holds of one that keeps the rules
pub all_small : (C n : ℕ) → n ≤ 64 → (code : List Instr) → list_all (is_instr C n) code ≡ true → list_all is_small code ≡ true
all_small C n few [] h = refl
all_small C n few (i ∷ is) h =
    let parts = and_parts (is_instr C n i) (list_all (is_instr C n) is) h in
    and_from (is_small i) (list_all is_small is) (small_is C n few i parts.0) (all_small C n few is parts.1)

-- the cases of one place more
pub one_case_more : (one : Instr → List CStmt) (code : List Instr) (place : ℕ) (i : Instr) (before after : List CCase) (body : List CStmt) (c : CCase) →
    place < length code → i ≡ slice_index_or code place i → before ≡ cases_from (λ (at : ℕ) (x : Instr). one x) 0 (take place code) → body ≡ one i →
    c ≡ case_of place body → after ≡ before ++ c ∷ [] → after ≡ cases_from (λ (at : ℕ) (x : Instr). one x) 0 (take (place + 1) code)
one_case_more one code place i before after body c less is so_far body_is c_is after_is =
    let here : ℕ → Instr → List CStmt = λ (at : ℕ) (x : Instr). one x in
    let front : take (place + 1) code ≡ take place code ++ i ∷ [] = take_more code place i less ∙ ap (λ (x : Instr). take place code ++ x ∷ []) (sym is) in
    let wide : 0 + length (take place code) ≡ place = let h = length-take-le place code (omega (arith, less)) in omega (arith, h) in
    let same : cases_from here 0 (take place code ++ i ∷ []) ≡ cases_from here 0 (take place code) ++ case_of place (one i) ∷ [] =
    cases_append here 0 (take place code) i ∙ ap (λ (at : ℕ). cases_from here 0 (take place code) ++ case_of at (one i) ∷ []) wide in
    let last : c ≡ case_of place (one i) = c_is ∙ ap (case_of place) body_is in
    after_is ∙ ap (λ (d : CCase). before ++ d ∷ []) last ∙ ap (λ (cs : List CCase). cs ++ case_of place (one i) ∷ []) so_far ∙ sym same ∙ ap (cases_from here 0) (sym front)
