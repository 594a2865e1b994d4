-- What the code of one instruction comes to in the three switches of a thread: its private steps, posting, taking over.
use Rattle.std.specs.Prelude.{pos, ◌≡◌, ◌≤◌, ℕ, zero, suc, ◌+◌, ◌-◌, ◌*◌, List, [], ◌∷◌, ◌++◌, map, length, Option, Some, None}
use Rattle.std.proofs.Common.{refl, sym, ap, ◌∙◌, arith}
use Rattle.std.proofs.lemmas.List.{length-map}
use Rattle.std.proofs.lemmas.List.Sums.{sum_by-cons}
use Rattle.hc_limits.specs.Limits.{most_nodes}
use Rattle.hc_term.specs.declared.expr.Expr.{Expr}
use Rattle.hc_term.specs.declared.expr.Cond.{Cond}
use Rattle.hc_term.specs.declared.stmt.Io.{Io}
use Rattle.hc_term.specs.declared.stmt.Io.TheVariants.{Send, Receive}
use Rattle.hc_term.specs.declared.stmt.Rate.{Rate}
use Rattle.hc_term.specs.Profile.{nodes, nodes_in, pattern_of}
use Rattle.hc_term.specs.Rules.{sent_nodes}
use Rattle.hc_code.specs.declared.code.Way.{Way}
use Rattle.hc_code.specs.declared.code.Instr.{Instr}
use Rattle.hc_code.specs.declared.code.Instr.TheVariants as instr
use Rattle.hc_code.specs.Kept.{ios_of}
use Rattle.hc_cast.specs.declared.stmt.CStmt.{CStmt}
use Rattle.hc_clogic.specs.Cases.{cases_from, case_of}
use Rattle.hc_cstep.specs.Stands.{first_scratch}
use Rattle.hc_cstep.specs.Parts.{Parts}
use Rattle.hc_cstep.specs.Size.{total, size, case_size, sizes, sent_size, rate_size, parts_size}
use Rattle.hc_cstep.proofs.Sizes.{sizes-append}
use Rattle.hc_cvalue.proofs.Sizes.{values_are_short, tests_are_short, lines_are_short}
use Rattle.hc_cprivate.specs.Whole.{parts}
use Rattle.hc_cend.proofs.EndSize.{is_short}
use Rattle.hc_csection.specs.Words.{ways_of}
use Rattle.hc_cpost.specs.Parts.{own_registers, below, all_sent_registers, sent_registers, rate_registers}
use Rattle.hc_cpost.specs.Written.{copy, copies, marks, code_stmts, all_codes, offers, tests_over, offers_unless, evolves, where_arrived, show_case}
use Rattle.hc_cpost.specs.Taking.{fetch, fetches, follower, follow_cases, follows, take_case}
use Rattle.hc_code.specs.Measure.{sent_in, rated_in, weight}
use Rattle.hc_cgen.proofs.Forms.{all_forms, case_is}

-- ---- private steps

module _ (p vars : ℕ) where
  abbrev c : Parts
  c = parts p vars most_nodes

  value_short : (e : Expr) → sizes (c.value e) ≤ 2 * nodes e
  value_short e = values_are_short p first_scratch e

  sent_short : (ios : List Io) → total (map (sent_size c.value) ios) ≤ 3 * length ios + 2 * sent_in ios
  sent_short [] = omega arith
  sent_short (Send channel value ∷ ios) =
      let rest = sent_short ios in
      let one = value_short value in
      omega (arith, rest, one, sum_by-cons sent_nodes (Send channel value) ios)
  sent_short (Receive channel variable ∷ ios) =
      let rest = sent_short ios in omega (arith, rest, sum_by-cons sent_nodes (Receive channel variable) ios)

  lines_short : (rates : List Rate) (ios : List Io) → total (map (sent_size (c.line rates)) ios) ≤ 3 * length ios + 4 * sent_in ios
  lines_short rates [] = omega arith
  lines_short rates (Send channel value ∷ ios) =
      let rest = lines_short rates ios in
      let one = lines_are_short p first_scratch (pattern_of vars rates) value in
      omega (arith, rest, one, sum_by-cons sent_nodes (Send channel value) ios)
  lines_short rates (Receive channel variable ∷ ios) =
      let rest = lines_short rates ios in omega (arith, rest, sum_by-cons sent_nodes (Receive channel variable) ios)

  rates_short : (rates : List Rate) → total (map (rate_size c) rates) ≤ 2 * length rates + 2 * rated_in rates
  rates_short [] = omega arith
  rates_short (r ∷ rates) =
      let rest = rates_short rates in
      let one = value_short r.value in
      omega (arith, rest, one, sum_by-cons (λ (x : Rate). nodes x.value) r rates)

-- ---- posting

copies_are : (p : ℕ) (ds : List ℕ) → sizes (copies p ds) ≡ length ds
copies_are p [] = refl
copies_are p (d ∷ ds) =
    let rest = copies_are p ds in
    let one : size (copy p d) ≡ 1 = simp all_forms in
    omega (arith, rest, one)

fetches_are : (p : ℕ) (ds : List ℕ) → sizes (fetches p ds) ≡ length ds
fetches_are p [] = refl
fetches_are p (d ∷ ds) =
    let rest = fetches_are p ds in
    let one : size (fetch p d) ≡ 1 = simp all_forms in
    omega (arith, rest, one)

below_are : (n : ℕ) → length (below n) ≡ n
below_are zero = refl
below_are (suc n) = let rest = below_are n in omega (arith, rest)

pub own_copies : (p n : ℕ) → sizes (copies p (own_registers n)) ≡ n + 1
own_copies p n = let all = copies_are p (own_registers n) in let low = below_are n in omega (arith, all, low)

pub own_fetches : (p n : ℕ) → sizes (fetches p (own_registers n)) ≡ n + 1
own_fetches p n = let all = fetches_are p (own_registers n) in let low = below_are n in omega (arith, all, low)

marks_are : (p : ℕ) (rates : List Rate) → sizes (marks p rates) ≡ length rates
marks_are p [] = refl
marks_are p (r ∷ rates) = let rest = marks_are p rates in simp all_forms (omega (arith, rest))

sent_few : (g : ℕ) (ios : List Io) → length (all_sent_registers g ios) ≤ 2 * length ios
sent_few g [] = omega arith
sent_few g (Send channel value ∷ ios) = let rest = sent_few (suc g) ios in omega (arith, rest)
sent_few g (Receive channel variable ∷ ios) = let rest = sent_few (suc g) ios in omega (arith, rest)

codes_few : (p g : ℕ) (ios : List Io) → sizes (all_codes p g ios) ≤ 2 * length ios
codes_few p g [] = omega arith
codes_few p g (Send channel value ∷ ios) = let rest = codes_few p (suc g) ios in simp all_forms (omega (arith, rest))
codes_few p g (Receive channel variable ∷ ios) = let rest = codes_few p (suc g) ios in simp all_forms (omega (arith, rest))

offers_few : (p : ℕ) (ios : List Io) → sizes (offers p ios) ≤ 4 * length ios
offers_few p ios =
    let both = sizes-append (copies p (all_sent_registers 0 ios)) (all_codes p 0 ios) in
    let first = copies_are p (all_sent_registers 0 ios) in
    let many = sent_few 0 ios in
    let second = codes_few p 0 ios in
    omega (arith, both, first, many, second)

evolves_few : (p : ℕ) (rates : List Rate) (ios : List Io) → sizes (evolves p rates ios) ≤ 2 * length rates + 4 * length ios + 3
evolves_few p rates ios =
    let first = copies_are p (rate_registers rates) in
    let as_many : length (rate_registers rates) ≡ length rates = length-map rates (λ (r : Rate). 128 + r.variable) in
    let second = marks_are p rates in
    let fourth = offers_few p ios in
    let third : sizes (tests_over p ++ offers_unless p ios ∷ []) ≡ 3 + sizes (offers p ios) = simp all_forms (omega arith) in
    let one = sizes-append (copies p (rate_registers rates)) (marks p rates ++ (tests_over p ++ offers_unless p ios ∷ [])) in
    let two = sizes-append (marks p rates) (tests_over p ++ offers_unless p ios ∷ []) in
    omega (arith, first, as_many, second, third, fourth, one, two)

where_few : (ss : List CStmt) → sizes (where_arrived ss) ≡ 1 + sizes ss
where_few ss = simp all_forms (omega arith)

-- ---- taking over

followers : (from : ℕ) (ways : List Way) → total (map case_size (follow_cases from ways)) ≡ length ways
followers from [] = refl
followers from (w ∷ ways) =
    let rest = followers (suc from) ways in
    let here = case_is from (follower w.next) in
    let one : sizes (follower w.next) ≡ 1 = simp all_forms in
    omega (arith, rest, here, one)

follows_few : (p : ℕ) (ways : List Way) → sizes (follows p ways ∷ []) ≡ 1 + length ways
follows_few p ways = let all = followers 1 ways in simp (all_forms, all) (omega arith)

-- ---- an instruction

abbrev pub in_threes : ℕ → ℕ → Instr → ℕ
in_threes p vars i = (parts_size (c p vars) i + 31) + sizes (show_case p i) + sizes (take_case p i)

many_ios : (ways : List Way) → length (ios_of ways) ≡ length ways
many_ios ways = length-map ways (λ (w : Way). w.io)

pub instr_few : (p vars : ℕ) (i : Instr) → in_threes p vars i ≤ 110 * weight i
instr_few p vars (instr.Assign x value next) = let one = value_short p vars value in omega (arith, one)
instr_few p vars (instr.Log value next) = let one = value_short p vars value in omega (arith, one)
instr_few p vars (instr.Wait value next) = let one = value_short p vars value in omega (arith, one)
instr_few p vars (instr.Test test yes' no') = let one = tests_are_short p first_scratch test in omega (arith, one)
instr_few p vars (instr.Meet ways) =
    let many = many_ios ways in
    let sent = sent_short p vars (ios_of ways) in
    let shown = offers_few p (ios_of ways) in
    let marked = where_few (offers p (ios_of ways)) in
    let taken = follows_few p ways in
    omega (arith, many, sent, shown, marked, taken)
instr_few p vars (instr.Evolve rates domain ways next) =
    let many = many_ios ways in
    let rated = rates_short p vars rates in
    let sent = lines_short p vars rates (ios_of ways) in
    let ended = is_short p (pattern_of vars rates) domain in
    let shown = evolves_few p rates (ios_of ways) in
    let marked = where_few (evolves p rates (ios_of ways)) in
    let taken = follows_few p ways in
    omega (arith, many, rated, sent, ended, shown, marked, taken)
instr_few p vars (instr.Skip next) = omega arith
instr_few p vars (instr.Again next) = omega arith
instr_few p vars (instr.Pick left right) = omega arith
instr_few p vars instr.End = simp all_forms (omega arith)
