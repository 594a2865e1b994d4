-- Statements that copy registers into the common row, set marks, and set codes: lists of them do what is said of the lists.
use Rattle.std.specs.Prelude.{◌≡◌, ◌<◌, ◌≤◌, ◌+◌, ◌*◌, ◌^◌, ◌==◌, ℕ, zero, suc, max, Bool, true, false, ◌&&◌, nat_lt, List, [], ◌∷◌, ◌++◌, length, slice_set, slice_index_or, ℤ, pos, Option, Some, None, codes}
use Rattle.std.specs.List.{list_all}
use Rattle.std.proofs.Common.{refl, sym, ap, ◌∙◌, subst, arith}
use Rattle.std.proofs.lemmas.Bool.{eq-eqb, true≢false, and_parts, eqb-true, ltb-true}
use Rattle.hc_rational.specs.Words.{Rational, zero_ℚ}
use Rattle.hc_term.specs.declared.stmt.Io.{Io}
use Rattle.hc_term.specs.declared.stmt.Io.TheVariants.{Send, Receive}
use Rattle.hc_term.specs.declared.stmt.Rate.{Rate}
use Rattle.hc_term.specs.Profile.{is_io, is_expr}
use Rattle.hc_cast.specs.declared.stmt.CStmt.{CStmt}
use Rattle.hc_cast.specs.declared.stmt.CStmt.TheVariants.{Store}
use Rattle.hc_cbuild.specs.Written.{number}
use Rattle.hc_cast.specs.declared.program.CProgram.{CProgram}
use Rattle.hc_cmach.specs.State.{Word}
use Rattle.hc_cmach.proofs.Worths.{forms}
use Rattle.hc_clogic.specs.Runs.{View, Runs}
use Rattle.hc_clogic.proofs.Runs.{runs_none, runs_on, runs_longer, runs_straight}
use Rattle.hc_core_c.specs.Twin.{Board64}
use Rattle.hc_core_c.proofs.Base.{is_below, element_is, element_set}
use Rattle.hc_core_c.specs.Owner.{core, Has}
use Rattle.hc_cpost.specs.Parts.{copied, marked, code_of, coded_by, coded, directed_by, directed}
use Rattle.hc_cpost.specs.Written.{copy, copies, marks, code_stmts, all_codes}

pub not_same : (p q : ℕ) → p < q → (p == q) ≡ false
not_same p q h = by_test (p == q) refl where
  by_test : (b : Bool) → (p == q) ≡ b → (p == q) ≡ false
  by_test false e = e
  by_test true e = (let same = eqb-true p q e in absurd (omega (arith, h, same)))

module _ (g : CProgram) (P C : ℕ) (has : Has g P C) (p : ℕ) (low : p < P) (own : List Rational) (names : List Word) (values : List ℤ) where
  abbrev at : Board64 → View
  at b = core own names values b

  few : p < 64
  few = (let most = has.few in omega (arith, low, most))

  -- ---- registers

  copy_runs : (d : ℕ) → d < 320 → (b : Board64) → Runs g p 1 (copy p d ∷ []) (at b) (at (record b { row = slice_set b.row (p * 320 + d) (slice_index_or own d zero_ℚ) }))
  copy_runs d less b =
      let arrays = has.declared in
      let mine : nat_lt p 65 ≡ true = is_below p 65 (let h = few in omega (arith, h)) in
      let other : (p == 64) ≡ false = not_same p 64 few in
      let self : (p == p) ≡ true = eq-eqb p p refl in
      let to : nat_lt (p * 320 + d) 20480 ≡ true = is_below (p * 320 + d) 20480 (let h = few in omega (arith, h, less)) in
      let from : nat_lt d 20480 ≡ true = is_below d 20480 (omega (arith, less)) in
      runs_straight g p 1 _ _ _ (λ rest target gives below. simp (forms, mine, other, self, to, from))

  pub copies_run : (ds : List ℕ) → list_all (λ (d : ℕ). nat_lt d 320) ds ≡ true → (b : Board64) → Runs g p (length ds) (copies p ds) (at b) (at (record b { row = copied p own ds b.row }))
  copies_run [] h b = runs_none g p (at b)
  copies_run (d ∷ ds) h b =
      let parts = and_parts (nat_lt d 320) (list_all (λ (d : ℕ). nat_lt d 320) ds) h in
      let next = record b { row = slice_set b.row (p * 320 + d) (slice_index_or own d zero_ℚ) } in
      runs_longer g p (1 + length ds) (suc (length ds)) (copies p (d ∷ ds)) (at b) _ (omega arith)
      (runs_on g p 1 (length ds) (copy p d ∷ []) (copies p ds) (at b) (at next) _ (copy_runs d (ltb-true d 320 parts.0) b) (copies_run ds parts.1 next))

  -- ---- marks

  mark_runs : (i : ℕ) → i < 64 → (b : Board64) →
      Runs g p 1 (Store (codes "a_moves") (number (p * 64 + i)) (number 1) ∷ []) (at b) (at (record b { moves = slice_set b.moves (p * 64 + i) 1 }))
  mark_runs i less b =
      let arrays = has.declared in
      let inside : nat_lt (p * 64 + i) (P * 64) ≡ true = is_below (p * 64 + i) (P * 64) (omega (arith, low, less)) in
      runs_straight g p 1 _ _ _ (λ rest target gives below. simp (forms, arrays, inside, element_set))

  pub marks_run : (n : ℕ) → n ≤ 64 → (rates : List Rate) → list_all (λ (r : Rate). nat_lt r.variable n) rates ≡ true → (b : Board64) →
      Runs g p (length rates) (marks p rates) (at b) (at (record b { moves = marked p rates b.moves }))
  marks_run n short [] h b = runs_none g p (at b)
  marks_run n short (r ∷ rates) h b =
      let parts = and_parts (nat_lt r.variable n) (list_all (λ (r : Rate). nat_lt r.variable n) rates) h in
      let less = ltb-true r.variable n parts.0 in
      let next = record b { moves = slice_set b.moves (p * 64 + r.variable) 1 } in
      runs_longer g p (1 + length rates) (suc (length rates)) (marks p (r ∷ rates)) (at b) _ (omega arith)
      (
      runs_on g p 1 (length rates) (Store (codes "a_moves") (number (p * 64 + r.variable)) (number 1) ∷ []) (marks p rates) (at b) (at next) _
      (mark_runs r.variable (omega (arith, less, short)) b) (marks_run n short rates parts.1 next)
      )

  -- ---- codes

  abbrev pub coded_board : ℕ → List Io → Board64 → Board64
  coded_board j ios b = record b { send = coded true p j ios b.send; receive = coded false p j ios b.receive; into = directed ios b.into }

  in_array : (c : ℕ) → c < C → nat_lt c (max C 1) ≡ true
  in_array c less = is_below c (max C 1) (omega (arith, less))

  code_runs : (j n : ℕ) (io : Io) → is_io C n io ≡ true → (b : Board64) → Runs g p 2 (code_stmts p j io) (at b) (at (coded_board j (io ∷ []) b))
  code_runs j n (Send channel value) h b =
      let arrays = has.declared in
      let inside = in_array channel (ltb-true channel C (and_parts (nat_lt channel C) (is_expr n value) h).0) in
      runs_longer g p 1 2 _ _ _ (omega arith) (runs_straight g p 1 _ _ _ (λ rest target gives below. simp (forms, arrays, inside, element_set)))
  code_runs j n (Receive channel variable) h b =
      let arrays = has.declared in
      let inside = in_array channel (ltb-true channel C (and_parts (nat_lt channel C) (nat_lt variable n) h).0) in
      runs_straight g p 2 _ _ _ (λ rest target gives below. simp (forms, arrays, inside, element_set))

  pub codes_run : (n : ℕ) (ios : List Io) (j : ℕ) → list_all (is_io C n) ios ≡ true → (b : Board64) →
      Runs g p (length ios * 2) (all_codes p j ios) (at b) (at (coded_board j ios b))
  codes_run n [] j h b = runs_none g p (at b)
  codes_run n (io ∷ ios) j h b =
      let parts = and_parts (is_io C n io) (list_all (is_io C n) ios) h in
      let next = coded_board j (io ∷ []) b in
      runs_longer g p (2 + length ios * 2) (suc (length ios) * 2) (all_codes p j (io ∷ ios)) (at b) _ (omega arith)
      (runs_on g p 2 (length ios * 2) (code_stmts p j io) (all_codes p (suc j) ios) (at b) (at next) _ (code_runs j n io parts.0 b) (codes_run n ios (suc j) parts.1 next))
