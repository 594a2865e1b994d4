-- The rates of an evolution are worked out, each into the register of its variable.
use Rattle.std.specs.Prelude.{◌≡◌, ◌≢◌, ◌≤◌, ◌<◌, ℕ, ◌+◌, ◌==◌, nat_lt, Bool, true, false, ◌&&◌, List, [], ◌∷◌, length, take, replicate, slice_set, slice_index_or, map, IsTrue, Option, Some, None}
use Rattle.std.specs.List.{list_all}
use Rattle.std.proofs.Common.{refl, sym, ◌∙◌, subst, arith}
use Rattle.std.proofs.lemmas.Bool.{lt-ltb, ltb-true, eqb-true, eqb-false, and_parts}
use Rattle.std.proofs.lemmas.List.{get_or-set_same, get_or-set_other, length-set, take-set-le}
use Rattle.hc_rational.specs.Words.{Rational, zero_ℚ}
use Rattle.hc_term.specs.declared.expr.Expr.{Expr}
use Rattle.hc_term.specs.declared.stmt.Rate.{Rate}
use Rattle.hc_term.specs.Value.{val, is_fitting}
use Rattle.hc_term.specs.Motion.{Rates, with_rates}
use Rattle.hc_term.specs.Offers.{moving_of}
use Rattle.hc_term.specs.Silent.{rates_fit}
use Rattle.hc_term.specs.Profile.{is_expr, pattern_from}
use Rattle.hc_runs.proofs.Rated.{AllStand}
use Rattle.hc_step.proofs.Evolves.{none_at}
use Rattle.hc_cast.specs.declared.program.CProgram.{CProgram}
use Rattle.hc_clogic.specs.Runs.{Runs}
use Rattle.hc_cmach.proofs.Worths.{forms}
use Rattle.hc_clogic.proofs.Blocks.{block_runs}
use Rattle.hc_cstep.proofs.OwnRow.{row_there, not_common, own_row}
use Rattle.hc_cstep.specs.Locals.{Mine, Base, view}
use Rattle.hc_cstep.specs.Stands.{register, rate_of, first_scratch, RatesAre}
use Rattle.hc_cstep.specs.Words.{move, each}
use Rattle.hc_cstep.specs.Parts.{Parts, RateIs, AreRates}
use Rattle.hc_cstep.specs.Evolving.{rate_block}
use Rattle.hc_cstep.specs.Premises.{PartsWork, steps_of}
use Rattle.hc_cstep.proofs.Prepared.{fewer_same, Ready, Prepares, after, still_ready, prepares_none, prepares_scratch, prepares_so, prepares_more, prepares_guarded, then_each}
use Rattle.hc_cstep.proofs.Sends.{rates_stand}

-- ---- one rate more

set_here : (a k : Option Rational) (z v held : Rational) → a ≡ Some z → k ≡ Some v → held ≡ v → RateIs a k held
set_here None k z v held h i j = cc
set_here (Some y) None z v held h i j = cc
set_here (Some y) (Some w) z v held h i j = cc

pub set_rate : (pattern before : Rates) (row : List Rational) (x : ℕ) (v : Rational) → x < length pattern → length before ≡ length pattern → length pattern ≤ 64 → length row ≡ 20480 →
    AreRates pattern before row → AreRates (slice_set pattern x (Some zero_ℚ)) (slice_set before x (Some v)) (slice_set row (rate_of x) v)
set_rate pattern before row x v less same short wide h = λ y. by y (y == x) refl
  where
    by : (y : ℕ) (b : Bool) → (y == x) ≡ b →
        RateIs (slice_index_or (slice_set pattern x (Some zero_ℚ)) y None) (slice_index_or (slice_set before x (Some v)) y None) (register (slice_set row (rate_of x) v) (rate_of y))
    by y true e =
        let is : y ≡ x = eqb-true y x e in
        subst
        (
        λ (z : ℕ).
        RateIs (slice_index_or (slice_set pattern x (Some zero_ℚ)) z None) (slice_index_or (slice_set before x (Some v)) z None) (register (slice_set row (rate_of x) v) (rate_of z))
        )
        (sym is)
        (
        set_here (slice_index_or (slice_set pattern x (Some zero_ℚ)) x None) (slice_index_or (slice_set before x (Some v)) x None) zero_ℚ v
        (register (slice_set row (rate_of x) v) (rate_of x)) (get_or-set_same pattern x (Some zero_ℚ) None less) (get_or-set_same before x (Some v) None (omega (arith, less, same)))
        (get_or-set_same row (rate_of x) v zero_ℚ (omega (arith, less, short, wide)))
        )
    by y false e =
        let apart : y ≢ x = eqb-false y x e in
        let first : slice_index_or (slice_set pattern x (Some zero_ℚ)) y None ≡ slice_index_or pattern y None = get_or-set_other pattern x y (Some zero_ℚ) None apart in
        let second : slice_index_or (slice_set before x (Some v)) y None ≡ slice_index_or before y None = get_or-set_other before x y (Some v) None apart in
        let third : register (slice_set row (rate_of x) v) (rate_of y) ≡ register row (rate_of y) =
        get_or-set_other row (rate_of x) (rate_of y) v zero_ℚ (λ f. apart (omega (arith, f))) in
        subst (λ (a : Option Rational). RateIs a (slice_index_or (slice_set before x (Some v)) y None) (register (slice_set row (rate_of x) v) (rate_of y))) (sym first)
        (
        subst (λ (k : Option Rational). RateIs (slice_index_or pattern y None) k (register (slice_set row (rate_of x) v) (rate_of y))) (sym second)
        (subst (λ (q : Rational). RateIs (slice_index_or pattern y None) (slice_index_or before y None) q) (sym third) (h y))
        )

none_held : (a k : Option Rational) (held : Rational) → a ≡ None → k ≡ None → RateIs a k held
none_held None None held h i = tt
none_held None (Some k) held h i = cc
none_held (Some v) k held h i = cc

-- at first none evolves
pub none_rated : (n k : ℕ) (row : List Rational) → AreRates (replicate n None) (replicate k None) row
none_rated n k row =
    λ x. none_held (slice_index_or (replicate {A = Option Rational} n None) x None) (slice_index_or (replicate {A = Option Rational} k None) x None) (register row (rate_of x)) (none_at n x) (none_at k x)

pub pattern_wide : (rs : List Rate) (r : Rates) → length (pattern_from r rs) ≡ length r
pattern_wide [] r = refl
pattern_wide (q ∷ qs) r = pattern_wide qs (slice_set r q.variable (Some zero_ℚ)) ∙ length-set r q.variable (Some zero_ℚ)

-- ---- what is shown of them

held_is : (a k : Option Rational) (v held : Rational) → k ≡ Some v → RateIs a k held → held ≡ v
held_is None None v held h i = cc
held_is None (Some k) v held h i = absurd i
held_is (Some z) None v held h i = cc
held_is (Some z) (Some k) v held h i = cc

pub rates_shown : (s : List Rational) (pattern r : Rates) (row : List Rational) (rs : List Rate) → AreRates pattern r row → AllStand r s rs → RatesAre row (moving_of s rs)
rates_shown s pattern r row [] h k = tt
rates_shown s pattern r row (q ∷ qs) h k = (
  held_is (slice_index_or pattern q.variable None) (slice_index_or r q.variable None) (val s q.value) (register row (rate_of q.variable)) k.0 (h q.variable),
  rates_shown s pattern r row qs h k.1,
)

-- ---- the code

abbrev pub good_rate : ℕ → (Expr → Bool) → Rate → Bool
good_rate n f r = is_expr n r.value && f r.value

module _ (g : CProgram) (p : ℕ) (low : p < 64) (b : Base) (vars : ℕ) (few : vars ≤ 64) (room : ℕ) (n late : ℕ) (c : Parts) (works : PartsWork g p n late b vars room c) (clock : Rational)
    (s : List Rational) where
  module _ (q : Rate) (pattern before : Rates) (less : q.variable < length pattern) (paired : length before ≡ length pattern) (short : length pattern ≤ 64) where
    abbrev Such : List Rational → Bool → Type 0
    Such row truth = AreRates (slice_set pattern q.variable (Some zero_ℚ)) (slice_set before q.variable (Some (val s q.value))) row

    -- scratch alone has changed, and the value stands there
    abbrev Valued : List Rational → List Rational → Type 0
    Valued old row = (take first_scratch row ≡ take first_scratch old) × (register row first_scratch ≡ val s q.value)

    put_rate : (old : List Rational) (m1 : Mine) → length m1.row ≡ 20480 → (x : Bool) → m1.ok ≡ x → (x ≡ true → Valued old m1.row) → AreRates pattern before old →
        Prepares g p 1 b 128 (move p (rate_of q.variable) first_scratch ∷ []) m1 x Such
    put_rate old m1 wide x on is rated =
        let value = register m1.row first_scratch in
        let row = slice_set m1.row (rate_of q.variable) value in
        let there : nat_lt (128 + q.variable) 20480 ≡ true = lt-ltb (128 + q.variable) 20480 (omega (arith, less, short)) in
        record {
          row = row;
          truth = m1.truth;
          others = m1.others;
          runs =
              subst (λ (y : Bool). Runs g p 1 (move p (rate_of q.variable) first_scratch ∷ []) (view b m1) (view b (record m1 { row = row; ok = y }))) on
              (
              block_runs g p 1 (move p (rate_of q.variable) first_scratch ∷ []) (view b m1) (view b (record m1 { row = row }))
              (simp (forms, row_there p low, not_common p low, own_row p, there))
              );
          wide = length-set m1.row (rate_of q.variable) value;
          kept = refl;
          low = take-set-le 128 m1.row (rate_of q.variable) value (omega arith);
          such =
              λ h.
              let now = is h in
              let still = rates_stand pattern before old m1.row short (fewer now.0) rated in
              subst
              (
              λ (v : Rational). AreRates (slice_set pattern q.variable (Some zero_ℚ)) (slice_set before q.variable (Some v)) row
              )
              now.1 (set_rate pattern before m1.row q.variable value less paired short wide still);
        }
      where
        fewer : take first_scratch m1.row ≡ take first_scratch old → take 192 m1.row ≡ take 192 old
        fewer same = fewer_same 192 320 m1.row old (omega arith) same

    rated_one : (m : Mine) → Ready vars room clock s m → IsTrue (good_rate vars c.is_value q) → AreRates pattern before m.row →
        Prepares g p (n + 1) b 128 (rate_block c p q) m (is_fitting s q.value) Such
    rated_one m ready good rated =
        let parts = and_parts (is_expr vars q.value) (c.is_value q.value) good in
        let v = works.value m s q.value ready.on ready.wide ready.spare ready.same_store parts.0 parts.1 in
        let a = prepares_scratch g p b n (c.value q.value) m (is_fitting s q.value) (λ (row : List Rational) (truth : Bool). register row first_scratch ≡ val s q.value) v.does v.value in
        let a1 = prepares_so g p b n first_scratch 128 (c.value q.value) m (is_fitting s q.value) (λ (row : List Rational) (truth : Bool). register row first_scratch ≡ val s q.value)
        (λ (row : List Rational) (truth : Bool). Valued m.row row) (omega arith) a (λ same h. (same, h)) in
        prepares_more g p b n 1 128 (c.value q.value) (move p (rate_of q.variable) first_scratch ∷ []) m (is_fitting s q.value) (λ (row : List Rational) (truth : Bool). Valued m.row row) Such a1
        (put_rate m.row (after m a1.row (is_fitting s q.value) a1.truth a1.others) (a1.wide ∙ ready.wide) (is_fitting s q.value) refl a1.such rated)

  few_rates : (rs : List Rate) → length (map (rate_block c p) rs) ≤ steps_of (n + 1) (length rs)
  few_rates [] = omega arith
  few_rates (q ∷ qs) = let h = few_rates qs in omega (arith, h)

  abbrev pub below : ℕ → Rate → Bool
  below k r = nat_lt r.variable k

  pub all_rated : (rs : List Rate) (pattern before : Rates) (m : Mine) → Ready vars room clock s m → length before ≡ length pattern → length pattern ≤ 64 →
      IsTrue (list_all (below (length pattern)) rs) → IsTrue (list_all (good_rate vars c.is_value) rs) → AreRates pattern before m.row →
      Prepares g p (steps_of (n + 1) (length rs)) b 128 (each (map (rate_block c p) rs)) m (rates_fit s rs)
      (λ (row : List Rational) (truth : Bool). AreRates (pattern_from pattern rs) (with_rates before rs s) row)
  all_rated [] pattern before m ready paired short small good rated =
      prepares_none g p b 128 m (λ (row : List Rational) (truth : Bool). AreRates pattern before row) ready.on rated
  all_rated (q ∷ qs) pattern before m ready paired short small good rated =
      let here = and_parts (below (length pattern) q) (list_all (below (length pattern)) qs) small in
      let goods = and_parts (good_rate vars c.is_value q) (list_all (good_rate vars c.is_value) qs) good in
      let less : q.variable < length pattern = ltb-true q.variable (length pattern) here.0 in
      let wider : Rates = slice_set pattern q.variable (Some zero_ℚ) in
      let later : Rates = slice_set before q.variable (Some (val s q.value)) in
      let same : length wider ≡ length pattern = length-set pattern q.variable (Some zero_ℚ) in
      let same_later : length later ≡ length before = length-set before q.variable (Some (val s q.value)) in
      let a = prepares_guarded g p b (n + 1) 128 (rate_block c p q) m (is_fitting s q.value) (λ (row : List Rational) (truth : Bool). AreRates wider later row) ready.on
      (rated_one q pattern before less paired short m ready goods.0 rated) in
      then_each g p b (1 + (n + 1)) (steps_of (n + 1) (length qs)) 128 (each (rate_block c p q ∷ [])) (map (rate_block c p) qs) m (is_fitting s q.value) (rates_fit s qs)
      (λ (row : List Rational) (truth : Bool). AreRates wider later row) (λ (row : List Rational) (truth : Bool). AreRates (pattern_from wider qs) (with_rates later qs s) row) (few_rates qs) a
      (
      λ on.
      let w = after m a.row true a.truth a.others in
      all_rated qs wider later w (still_ready vars room clock s m 128 a.row a.truth a.others few (omega arith) ready a.wide a.kept a.low) (same_later ∙ paired ∙ sym same)
      (omega (arith, same, short)) (subst (λ (k : ℕ). IsTrue (list_all (below k) qs)) (sym same) here.1) goods.1 (a.such on)
      )
