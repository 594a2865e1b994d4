-- Private code is no longer than its parts and a few statements for each place.
use Rattle.std.specs.Prelude.{pos, ◌≡◌, ◌≤◌, ℕ, suc, ◌+◌, Bool, true, false, nat_le, List, [], ◌∷◌, ◌++◌, map, length, Option, Some, None}
use Rattle.std.proofs.Common.{rules, refl, sym, ap, ◌∙◌, arith}
use Rattle.hc_term.specs.declared.expr.Expr.{Expr}
use Rattle.hc_term.specs.declared.expr.Cond.{Cond}
use Rattle.hc_term.specs.declared.stmt.Io.{Io}
use Rattle.hc_term.specs.declared.stmt.Io.TheVariants.{Send, Receive}
use Rattle.hc_term.specs.declared.stmt.Rate.{Rate}
use Rattle.hc_term.specs.Silent.{picks_left}
use Rattle.hc_code.specs.declared.code.Instr.{Instr}
use Rattle.hc_code.specs.declared.code.Instr.TheVariants as instr
use Rattle.hc_code.specs.Kept.{ios_of}
use Rattle.hc_cast.specs.declared.expr.CExpr.{CExpr}
use Rattle.hc_cast.specs.declared.expr.CExpr.TheVariants as e
use Rattle.hc_cast.specs.declared.stmt.CStmt.{CStmt, fold-CStmt, the_lemmas}
use Rattle.hc_cast.specs.declared.stmt.CStmt.TheVariants as a
use Rattle.hc_cast.specs.declared.stmt.CStmt.TheOpen.{CStmt-F}
use Rattle.hc_cast.specs.declared.stmt.CStmt.TheFolds.{fold-roll-CStmt, fold-roll-CCase}
use Rattle.hc_cast.specs.declared.stmt.CCase.{CCase}
use Rattle.hc_cmach.specs.State.{Word}
use Rattle.hc_clogic.specs.Cases.{cases_from, case_of as one_case}
use Rattle.hc_cstep.specs.Locals.{v_place, v_mark, v_steps, v_end, v_ok, v_truth}
use Rattle.hc_cstep.specs.Words.{number, set, is, move, each}
use Rattle.hc_cstep.specs.Parts.{Parts}
use Rattle.hc_cstep.specs.Choosing.{among, side_by, counts_choice, picks}
use Rattle.hc_cstep.specs.Waiting.{bounds}
use Rattle.hc_cstep.specs.Stands.{the_logged, first_scratch}
use Rattle.hc_cstep.specs.Sending.{all_sent, sends_value, sends_line}
use Rattle.hc_cstep.specs.Evolving.{rate_block, due_block, evolves}
use Rattle.hc_cstep.specs.Written.{ends_logged, goes_on, counts, commit, comes, begins, going, arrived, case_of, round, private_code}
use Rattle.hc_cstep.specs.Size.{total, size_layer, case_layer, size, case_size, sizes, sent_size, rate_size, parts_size}

-- ---- each form

pub size-Set : (x : Word) (v : CExpr) → size (a.Set x v) ≡ 1
size-Set x v = search (rules, the_lemmas)

pub size-Call : (x : Option Word) (f : Word) (es : List CExpr) → size (a.Call x f es) ≡ 1
size-Call x f es = search (rules, the_lemmas)

pub size-When : (t : CExpr) (ss : List CStmt) → size (a.If t ss None) ≡ 1 + sizes ss + 0
size-When t ss =
    ap (fold-CStmt ℕ ℕ size_layer case_layer) (sym (a.rolls-If t ss None)) ∙ fold-roll-CStmt ℕ ℕ size_layer case_layer (CStmt-F.If t ss None)

pub size-If : (t : CExpr) (ss rs : List CStmt) → size (a.If t ss (Some rs)) ≡ 1 + sizes ss + sizes rs
size-If t ss rs =
    ap (fold-CStmt ℕ ℕ size_layer case_layer) (sym (a.rolls-If t ss (Some rs))) ∙ fold-roll-CStmt ℕ ℕ size_layer case_layer (CStmt-F.If t ss (Some rs))

pub size-While : (t : CExpr) (ss : List CStmt) → size (a.While t ss) ≡ 1 + sizes ss
size-While t ss = search (rules, the_lemmas)

pub size-Switch : (on : CExpr) (cs : List CCase) (ss : List CStmt) → size (a.Switch on cs ss) ≡ 1 + total (map case_size cs) + sizes ss
size-Switch on cs ss = search (rules, the_lemmas)

ruleset all_forms = (size-Set, size-Call, size-When, size-If, size-While, size-Switch)

-- ---- joined

pub total-append : (ms ns : List ℕ) → total (ms ++ ns) ≡ total ms + total ns
total-append [] ns = omega arith
total-append (m ∷ ms) ns = let h = total-append ms ns in omega (arith, h)

pub sizes-append : (ss rs : List CStmt) → sizes (ss ++ rs) ≡ sizes ss + sizes rs
sizes-append [] rs = omega arith
sizes-append (s ∷ ss) rs = let h = sizes-append ss rs in omega (arith, h)

commit_size : (acts : List CStmt) → sizes (commit acts ∷ []) ≡ 5 + sizes acts
commit_size acts = let h = sizes-append acts (counts ∷ []) in simp (all_forms, h) (omega arith)

-- ---- blocks that are guarded

each-append : (xs ys : List (List CStmt)) → sizes (each (xs ++ ys)) ≡ sizes (each xs) + sizes (each ys)
each-append [] ys = omega arith
each-append (x ∷ xs) ys = let h = each-append xs ys in omega (arith, h)

guarded_size : (ss : List CStmt) (rest : List (List CStmt)) → sizes (each (ss ∷ rest)) ≡ 1 + sizes ss + sizes (each rest)
guarded_size ss rest = let h = size-When (is v_ok 1) ss in omega (arith, h)

-- branches, where the block of each that sends is two statements behind another
sent_sizes : (one : ℕ → Expr → List CStmt) (f : Expr → List CStmt) → ((k : ℕ) (e : Expr) → sizes (one k e) ≡ 2 + sizes (f e)) → (k : ℕ) (ios : List Io) →
    sizes (each (all_sent one k ios)) ≡ total (map (sent_size f) ios)
sent_sizes one f h k [] = refl
sent_sizes one f h k (Send channel value ∷ ios) =
    let rest = sent_sizes one f h (k + 1) ios in
    let here = h k value in
    let first = guarded_size (one k value) (all_sent one (k + 1) ios) in
    omega (arith, rest, here, first)
sent_sizes one f h k (Receive channel variable ∷ ios) = let rest = sent_sizes one f h (k + 1) ios in omega (arith, rest)

value_size : (c : Parts) (p k : ℕ) (e : Expr) → sizes (sends_value c p k e) ≡ 2 + sizes (c.value e)
value_size c p k e = simp (all_forms, sizes-append (c.value e)) (omega arith)

line_size : (c : Parts) (p : ℕ) (rates : List Rate) (k : ℕ) (e : Expr) → sizes (sends_line c p rates k e) ≡ 2 + sizes (c.line rates e)
line_size c p rates k e = simp (all_forms, sizes-append (c.line rates e)) (omega arith)

rates_size : (c : Parts) (p : ℕ) (rates : List Rate) → sizes (each (map (rate_block c p) rates)) ≡ total (map (rate_size c) rates)
rates_size c p [] = refl
rates_size c p (r ∷ rs) =
    let rest = rates_size c p rs in
    let first = guarded_size (rate_block c p r) (map (rate_block c p) rs) in
    let here : sizes (rate_block c p r) ≡ sizes (c.value r.value) + 1 = simp (all_forms, sizes-append (c.value r.value)) (omega arith) in
    omega (arith, rest, first, here)

-- ---- the case of an instruction

side_size : (f : ℕ → Bool) (x : Bool) (left right : ℕ) → size (side_by f x left right) ≡ 3
side_size f true left right = simp all_forms
side_size f false left right = simp all_forms

arrived_size : (p : ℕ) (i : Instr) → sizes (arrived p i) ≤ 12
arrived_size p (instr.Wait value next) = simp all_forms (omega arith)
arrived_size p (instr.Evolve rates domain ways next) = simp all_forms (omega arith)
arrived_size p (instr.Skip next) = simp all_forms (omega arith)
arrived_size p (instr.Again next) = simp all_forms (omega arith)
arrived_size p (instr.Assign x e next) = simp all_forms (omega arith)
arrived_size p (instr.Log e next) = simp all_forms (omega arith)
arrived_size p (instr.Test e yes' no') = simp all_forms (omega arith)
arrived_size p (instr.Pick left right) = simp all_forms (omega arith)
arrived_size p (instr.Meet ways) = simp all_forms (omega arith)
arrived_size p instr.End = simp all_forms (omega arith)

-- behind the code of a part, a step is committed
behind_size : (ss acts : List CStmt) (n : ℕ) → sizes acts ≤ n → sizes (ss ++ commit acts ∷ []) ≤ sizes ss + 5 + n
behind_size ss acts n less = let whole = sizes-append ss (commit acts ∷ []) in let last = commit_size acts in omega (arith, whole, last, less)

meets_size : (c : Parts) (p : ℕ) (ios : List Io) → sizes (each (all_sent (sends_value c p) 0 ios)) ≡ total (map (sent_size c.value) ios)
meets_size c p ios = sent_sizes (sends_value c p) c.value (value_size c p) 0 ios

evolves_size : (c : Parts) (p : ℕ) (rates : List Rate) (domain : Cond) (ios : List Io) →
    sizes (evolves c p rates domain ios) ≡ total (map (rate_size c) rates) + total (map (sent_size (c.line rates)) ios) + sizes (c.ends rates domain) + 8
evolves_size c p rates domain ios =
    let first : List CStmt = each (map (rate_block c p) rates) in
    let second : List CStmt = each (all_sent (sends_line c p rates) 0 ios) in
    let third : List CStmt = each (c.ends rates domain ∷ []) in
    let fourth : List CStmt = each (due_block p ∷ []) in
    let one = rates_size c p rates in
    let two = sent_sizes (sends_line c p rates) (c.line rates) (line_size c p rates) 0 ios in
    let three = guarded_size (c.ends rates domain) [] in
    let four : sizes fourth ≡ 7 = simp all_forms in
    let a = sizes-append first second in
    let b = sizes-append (first ++ second) third in
    let d = sizes-append ((first ++ second) ++ third) fourth in
    omega (arith, one, two, three, four, a, b, d)

going_size : (c : Parts) (p seed : ℕ) (i : Instr) → sizes (going c p seed i) ≤ parts_size c i + 18
going_size c p seed (instr.Skip next) = simp all_forms (omega arith)
going_size c p seed (instr.Again next) = simp all_forms (omega arith)
going_size c p seed (instr.Assign x e next) = let h = behind_size (c.value e) (move p x first_scratch ∷ set v_place next ∷ []) 2 (simp all_forms (omega arith)) in omega (arith, h)
going_size c p seed (instr.Log e next) =
    let h = behind_size (c.value e) (move p the_logged first_scratch ∷ set v_end ends_logged ∷ set v_place next ∷ []) 3 (simp all_forms (omega arith)) in omega (arith, h)
going_size c p seed (instr.Test e yes' no') =
    let acts = a.If (is v_truth 1) (set v_place yes' ∷ []) (Some (set v_place no' ∷ [])) ∷ [] in
    let h = behind_size (c.test e) acts 3 (simp all_forms (omega arith)) in omega (arith, h)
going_size c p seed (instr.Pick left right) =
    let side = side_size (picks_left seed p) (nat_le (length (among (picks_left seed p) 64)) 32) left right in
    let more : sizes counts_choice ≡ 3 = simp all_forms in
    let h = commit_size (picks p seed left right) in
    omega (arith, side, more, h)
going_size c p seed (instr.Wait e next) =
    let front = sizes-append (c.value e) (bounds p) in
    let bound : sizes (bounds p) ≡ 7 = simp all_forms in
    let h = behind_size (c.value e ++ bounds p) (comes p) 3 (simp all_forms (omega arith)) in
    omega (arith, h, front, bound)
going_size c p seed (instr.Meet ways) =
    let h = behind_size (each (all_sent (sends_value c p) 0 (ios_of ways))) (set v_mark 1 ∷ []) 1 (simp all_forms (omega arith)) in
    let sent = meets_size c p (ios_of ways) in
    omega (arith, h, sent)
going_size c p seed (instr.Evolve rates domain ways next) =
    let h = behind_size (evolves c p rates domain (ios_of ways)) (begins p) 3 (simp all_forms (omega arith)) in
    let sent = evolves_size c p rates domain (ios_of ways) in
    omega (arith, h, sent)
going_size c p seed instr.End = omega arith

marked_size : (c : Parts) (p seed : ℕ) (i : Instr) → sizes (a.If (is v_mark 1) (arrived p i) (Some (going c p seed i)) ∷ []) ≤ parts_size c i + 31
marked_size c p seed i =
    let h = size-If (is v_mark 1) (arrived p i) (going c p seed i) in
    let first = arrived_size p i in
    let second = going_size c p seed i in
    omega (arith, h, first, second)

one_size : (c : Parts) (p seed : ℕ) (i : Instr) → sizes (case_of c p seed i) ≤ parts_size c i + 31
one_size c p seed instr.End = simp all_forms (omega arith)
one_size c p seed (instr.Skip next) = marked_size c p seed (instr.Skip next)
one_size c p seed (instr.Again next) = marked_size c p seed (instr.Again next)
one_size c p seed (instr.Assign x e next) = marked_size c p seed (instr.Assign x e next)
one_size c p seed (instr.Log e next) = marked_size c p seed (instr.Log e next)
one_size c p seed (instr.Test e yes' no') = marked_size c p seed (instr.Test e yes' no')
one_size c p seed (instr.Pick left right) = marked_size c p seed (instr.Pick left right)
one_size c p seed (instr.Wait e next) = marked_size c p seed (instr.Wait e next)
one_size c p seed (instr.Meet ways) = marked_size c p seed (instr.Meet ways)
one_size c p seed (instr.Evolve rates domain ways next) = marked_size c p seed (instr.Evolve rates domain ways next)

-- ---- the whole

cases_size : (c : Parts) (p seed from : ℕ) (code : List Instr) →
    total (map case_size (cases_from (λ (place : ℕ) (i : Instr). case_of c p seed i) from code)) ≤ total (map (λ (i : Instr). parts_size c i + 31) code)
cases_size c p seed from [] = omega arith
cases_size c p seed from (i ∷ is) =
    let rest = cases_size c p seed (suc from) is in
    let one = one_size c p seed i in
    let here : case_size (one_case from (case_of c p seed i)) ≡ sizes (case_of c p seed i) = fold-roll-CCase ℕ ℕ size_layer case_layer (record { number = pos from; body = case_of c p seed i }) in
    omega (arith, rest, one, here)

-- private code, by the instructions and what their parts come to
pub private_size : (c : Parts) (p seed : ℕ) (code : List Instr) → sizes (private_code c p seed code) ≤ 5 + total (map (λ (i : Instr). parts_size c i + 31) code)
private_size c p seed code =
    let cases = cases_from (λ (place : ℕ) (i : Instr). case_of c p seed i) 0 code in
    let all = cases_size c p seed 0 code in
    let flat = size-Switch (e.Local v_place) cases [] in
    let looped = size-While (is v_end goes_on) (round c p seed code) in
    let first = size-Set v_ok (number 1) in
    let second = size-Set v_steps (number 0) in
    let third = size-Set v_end (number goes_on) in
    omega (arith, all, flat, looped, first, second, third)
