-- The C of posting, piece by piece: what an arrived process evolves and offers.
use Rattle.std.specs.Prelude.{◌≡◌, ◌<◌, ◌≤◌, ◌+◌, ◌*◌, ◌==◌, ℕ, zero, suc, Bool, true, false, not, ◌&&◌, ◌||◌, nat_lt, if◌then◌else◌, List, [], ◌∷◌, ◌++◌, length, slice_set, slice_index_or, ℤ, pos, negsuc, unsigned_abs, Option, Some, None, codes}
use Rattle.std.specs.List.{list_all, list_any}
use Rattle.std.specs.Ordering.{int_eq}
use Rattle.std.specs.Int.{int_signum}
use Rattle.std.proofs.Common.{refl, sym, ap, ◌∙◌, subst, arith, ◌⊎◌, inl, inr}
use Rattle.std.proofs.lemmas.Int.{ints}
use Rattle.std.proofs.lemmas.Bool.Decides.{nat_tests}
use Rattle.std.proofs.lemmas.Bool.{eq-eqb, true≢false, and_parts, and_from, ltb-true, lt-ltb}
use Rattle.hc_rational.specs.Words.{Rational, zero_ℚ, is_zero}
use Rattle.hc_term.specs.declared.stmt.Io.{Io}
use Rattle.hc_term.specs.declared.stmt.Rate.{Rate}
use Rattle.hc_term.specs.Profile.{is_io}
use Rattle.hc_cast.specs.declared.stmt.CStmt.{CStmt}
use Rattle.hc_cast.specs.declared.stmt.CStmt.TheVariants.{Store}
use Rattle.hc_cast.specs.declared.program.CProgram.{CProgram}
use Rattle.hc_cmach.specs.State.{Word}
use Rattle.hc_cmach.specs.Expression.{int_of}
use Rattle.hc_cmach.proofs.Worths.{forms}
use Rattle.hc_clogic.specs.Runs.{View, Runs, Is}
use Rattle.hc_clogic.proofs.Runs.{runs_none, runs_on, runs_longer, runs_straight, if_runs}
use Rattle.hc_cbuild.specs.Written.{number, local, equals, if_then, if_else}
use Rattle.hc_core_c.specs.Twin.{Board64}
use Rattle.hc_core_c.proofs.Base.{is_below, element_is, element_set}
use Rattle.hc_core_c.specs.Owner.{core, Has}
use Rattle.hc_core_facts.specs.Standing.{flag}
use Rattle.hc_cstep.specs.Locals as locals
use Rattle.hc_cstep.specs.Locals.{Mine, v_truth, v_mark}
use Rattle.hc_csection.specs.Values.{values_of}
use Rattle.hc_cpost.specs.Parts.{copied, below, own_registers, rate_registers, all_sent_registers, all_registers, marked, coded, directed}
use Rattle.hc_cpost.specs.Posting.{is_over}
use Rattle.hc_cpost.specs.Written.{copies, marks, all_codes, offers, tests_over, evolves, where_arrived, phases}
use Rattle.hc_cpost.proofs.Rows.{is_among, copied-append}
use Rattle.hc_cpost.proofs.Shares.{own_shared, IsShared, IsVariable, IsBound, IsMotion, rates_shared, sent_shared}
use Rattle.hc_cpost.proofs.Copying.{not_same, copies_run, marks_run, codes_run, coded_board}

-- ---- registers are below 320

all_by_among : (ds : List ℕ) → ((d : ℕ) → is_among d ds ≡ true → d < 320) → list_all (λ (d : ℕ). nat_lt d 320) ds ≡ true
all_by_among [] h = refl
all_by_among (d ∷ ds) h =
    and_from (nat_lt d 320) (list_all (λ (d : ℕ). nat_lt d 320) ds)
    (lt-ltb d 320 (h d (or_first (d == d) (is_among d ds) (eq-eqb d d refl))))
    (all_by_among ds (λ c k. h c (or_later (d == c) (is_among c ds) k)))
  where
    or_first : (a b : Bool) → a ≡ true → (a || b) ≡ true
    or_first true b h = refl
    or_first false b h = absurd (true≢false (sym h))

    or_later : (a b : Bool) → b ≡ true → (a || b) ≡ true
    or_later true b h = refl
    or_later false b h = h

shared_low : (d : ℕ) → IsShared d → d < 320
shared_low d (IsVariable h) = omega (arith, h)
shared_low d (IsBound h) = omega (arith, h)
shared_low d (IsMotion h k) = omega (arith, k)

pub own_low : (n : ℕ) → n ≤ 64 → list_all (λ (d : ℕ). nat_lt d 320) (own_registers n) ≡ true
own_low n few = all_by_among (own_registers n) (λ d h. shared_low d (own_shared n few d h))

rates_low : (n : ℕ) → n ≤ 64 → (rates : List Rate) → list_all (λ (r : Rate). nat_lt r.variable n) rates ≡ true → list_all (λ (d : ℕ). nat_lt d 320) (rate_registers rates) ≡ true
rates_low n few rates h = all_by_among (rate_registers rates) (λ d k. (let both = rates_shared n few rates h d k in low_of d both))
  where
    low_of : (d : ℕ) → (128 ≤ d) × (d < 192) → d < 320
    low_of d (a, b) = omega (arith, b)

sent_low : (ios : List Io) → length ios ≤ 32 → list_all (λ (d : ℕ). nat_lt d 320) (all_sent_registers 0 ios) ≡ true
sent_low ios short = all_by_among (all_sent_registers 0 ios) (λ d k. low_of d (sent_shared 0 ios d (omega (arith, short)) k))
  where
    low_of : (d : ℕ) → ((192 + 0 ≤ d) × (d < 224)) ⊎ ((256 + 0 ≤ d) × (d < 288)) → d < 320
    low_of d (inl (a, b)) = omega (arith, b)
    low_of d (inr (a, b)) = omega (arith, b)

-- ---- boards

-- what evolves and what is offered, put up on a board
abbrev pub with_parts : ℕ → List Rational → List Rate → List Io → Board64 → Board64
with_parts p own rates ios b = record b {
  row = copied p own (rate_registers rates ++ all_sent_registers 0 ios) b.row;
  moves = marked p rates b.moves;
  send = coded true p 0 ios b.send;
  receive = coded false p 0 ios b.receive;
  into = directed ios b.into;
}

-- variables, bound and phase
abbrev pub begun : ℕ → ℕ → List Rational → Bool → Bool → Board64 → Board64
begun p n own bounded arrived b = record b {
  row = copied p own (own_registers n) b.row;
  bounded = slice_set b.bounded p (flag bounded);
  met = slice_set b.met p 0;
  phase = slice_set b.phase p (flag arrived);
}

-- the machine steps of both
abbrev pub offered_cost : List Io → ℕ
offered_cost ios = length (all_sent_registers 0 ios) + length ios * 2

abbrev pub evolved_cost : List Rate → List Io → ℕ
evolved_cost rates ios = length (rate_registers rates) + (length rates + (2 + (1 + offered_cost ios)))

int_flag : (z : Bool) → int_of z ≡ pos (flag z)
int_flag true = refl
int_flag false = refl

sign_is : (z : ℤ) → int_eq (int_signum z) (pos 0) ≡ (unsigned_abs z == 0)
sign_is (pos zero) = refl
sign_is (pos (suc n)) = grind (arith, ints, nat_tests)
sign_is (negsuc n) = grind (arith, ints, nat_tests)

module _ (g : CProgram) (P C : ℕ) (has : Has g P C) (p : ℕ) (low : p < P) (own : List Rational) (more : List Word) where
  abbrev pub at : Mine → Board64 → View
  at m b = core own (locals.names more) (values_of m) b

  few : p < 64
  few = (let most = has.few in omega (arith, low, most))

  -- ---- variables, bound and phase

  pub phases_run : (m : Mine) (b : Board64) →
      Runs g p 3 (phases p) (at m b)
      (at m (record b { bounded = slice_set b.bounded p (flag m.bounded); met = slice_set b.met p 0; phase = slice_set b.phase p (flag m.arrived) }))
  phases_run m b =
      let arrays = has.declared in
      let inside : nat_lt p P ≡ true = is_below p P low in
      let bounds = int_flag m.bounded in
      let marks = int_flag m.arrived in
      runs_straight g p 3 _ _ _ (λ rest target gives below. simp (forms, arrays, inside, bounds, marks, element_set))

  pub begun_runs : (n : ℕ) → n ≤ 64 → (m : Mine) (b : Board64) → Runs g p (length (own_registers n) + 3) (copies p (own_registers n) ++ phases p) (at m b) (at m (begun p n own m.bounded m.arrived b))
  begun_runs n short m b =
      runs_on g p (length (own_registers n)) 3 (copies p (own_registers n)) (phases p) (at m b) (at m (record b { row = copied p own (own_registers n) b.row })) _
      (copies_run g P C has p low own (locals.names more) (values_of m) (own_registers n) (own_low n short) b)
      (phases_run m (record b { row = copied p own (own_registers n) b.row }))

  -- ---- whether the bound has run out

  pub over_runs : (m : Mine) (b : Board64) → Runs g p 2 (tests_over p) (at m b) (at (record m { truth = is_over m.bounded own }) b)
  over_runs m b =
      told m.bounded (is_zero q) refl refl
    where
      q : Rational
      q = slice_index_or own 66 zero_ℚ

      mine : nat_lt p 65 ≡ true
      mine = is_below p 65 (let h = few in omega (arith, h))

      other : (p == 64) ≡ false
      other = not_same p 64 few

      self : (p == p) ≡ true
      self = eq-eqb p p refl

      told : (z y : Bool) → m.bounded ≡ z → is_zero q ≡ y → Runs g p 2 (tests_over p) (at m b) (at (record m { truth = m.bounded && is_zero q }) b)
      told false y e f =
          subst (λ (x : Bool). Runs g p 2 (tests_over p) (at m b) (at (record m { truth = x && is_zero q }) b)) (sym e)
          (runs_straight g p 2 _ _ _ (λ rest target gives below. simp (forms, e, mine, other, self)))
      told true true e f =
          let sign : int_eq (int_signum q.num) (pos 0) ≡ true = sign_is q.num ∙ f in
          subst (λ (x : Bool). Runs g p 2 (tests_over p) (at m b) (at (record m { truth = x }) b)) (sym (and_from m.bounded (is_zero q) e f))
          (runs_straight g p 2 _ _ _ (λ rest target gives below. simp (forms, e, sign, mine, other, self)))
      told true false e f =
          let sign : int_eq (int_signum q.num) (pos 0) ≡ false = sign_is q.num ∙ f in
          subst (λ (x : Bool). Runs g p 2 (tests_over p) (at m b) (at (record m { truth = x && is_zero q }) b)) (sym e)
          (
          subst (λ (x : Bool). Runs g p 2 (tests_over p) (at m b) (at (record m { truth = x }) b)) (sym f)
          (runs_straight g p 2 _ _ _ (λ rest target gives below. simp (forms, e, sign, mine, other, self)))
          )

  -- ---- what is offered

  module _ (n : ℕ) (ios : List Io) (ruled : list_all (is_io C n) ios ≡ true) (short : length ios ≤ 32) where
    abbrev offers_cost : ℕ
    offers_cost = offered_cost ios

    pub offers_run : (m : Mine) (b : Board64) → Runs g p offers_cost (offers p ios) (at m b) (at m (with_parts p own [] ios b))
    offers_run m b =
        let next = record b { row = copied p own (all_sent_registers 0 ios) b.row } in
        runs_on g p (length (all_sent_registers 0 ios)) (length ios * 2) (copies p (all_sent_registers 0 ios)) (all_codes p 0 ios) (at m b) (at m next) _
        (copies_run g P C has p low own (locals.names more) (values_of m) (all_sent_registers 0 ios) (sent_low ios short) b)
        (codes_run g P C has p low own (locals.names more) (values_of m) n ios 0 ruled next)

    -- unless the bound has run out
    offers_unless : (m : Mine) (b : Board64) (z : Bool) → m.truth ≡ z →
        Runs g p (1 + offers_cost) (if_else (equals (local v_truth) (number 1)) [] (offers p ios) ∷ []) (at m b) (at m (with_parts p own [] (if not z then ios else []) b))
    offers_unless m b true e =
        runs_longer g p 1 (1 + offers_cost) _ _ _ (omega arith)
        (if_runs g p 0 (equals (local v_truth) (number 1)) [] (Some (offers p ios)) (at m b) (at m b) (pos 1) (λ rest target gives. simp (forms, e)) (runs_none g p (at m b)))
    offers_unless m b false e =
        if_runs g p offers_cost (equals (local v_truth) (number 1)) [] (Some (offers p ios)) (at m b) (at m (with_parts p own [] ios b)) (pos 0) (λ rest target gives. simp (forms, e))
        (offers_run m b)

    -- ---- what evolves

    module _ (few_vars : n ≤ 64) (rates : List Rate) (varied : list_all (λ (r : Rate). nat_lt r.variable n) rates ≡ true) where
      abbrev evolves_cost : ℕ
      evolves_cost = evolved_cost rates ios

      pub evolves_run : (m : Mine) (b : Board64) → let over = is_over m.bounded own in
          Runs g p evolves_cost (evolves p rates ios) (at m b) (at (record m { truth = over }) (with_parts p own rates (if not over then ios else []) b))
      evolves_run m b =
          let over = is_over m.bounded own in
          let moved = record b { row = copied p own (rate_registers rates) b.row } in
          let marked_too = record moved { moves = marked p rates b.moves } in
          let sent = if not over then ios else [] in
          let whole : copied p own (rate_registers rates ++ all_sent_registers 0 sent) b.row ≡ copied p own (all_sent_registers 0 sent) (copied p own (rate_registers rates) b.row) =
          copied-append p own (rate_registers rates) (all_sent_registers 0 sent) b.row in
          let next = with_parts p own [] sent marked_too in
          subst (λ (row : List Rational). Runs g p evolves_cost (evolves p rates ios) (at m b) (at (record m { truth = over }) (record next { row = row }))) (sym whole)
          (
          runs_on g p (length (rate_registers rates)) (length rates + (2 + (1 + offers_cost))) (copies p (rate_registers rates)) _ (at m b) (at m moved) _
          (copies_run g P C has p low own (locals.names more) (values_of m) (rate_registers rates) (rates_low n few_vars rates varied) b)
          (
          runs_on g p (length rates) (2 + (1 + offers_cost)) (marks p rates) _ (at m moved) (at m marked_too) _
          (marks_run g P C has p low own (locals.names more) (values_of m) n few_vars rates varied moved)
          (
          runs_on g p 2 (1 + offers_cost) (tests_over p) _ (at m marked_too) (at (record m { truth = over }) marked_too) _ (over_runs m marked_too)
          (offers_unless (record m { truth = over }) marked_too over refl)
          )
          )
          )
