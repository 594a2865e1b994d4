-- What the rules say of an evolution: it has few rates, its expressions are in range, and all move along lines with its rates.
use Rattle.std.proofs.Common.{◌≡◌, ◌≢◌, refl, sym, ap, ◌∙◌, arith, ℕ, zero, suc, ◌+◌, ◌<◌, ◌≤◌, ◌==◌, Bool, true, false, not, ◌&&◌, IsTrue, List, [], ◌∷◌, length, take, nat_le, nat_lt, Option, Some, None}
use Rattle.std.specs.Prelude.{replicate, slice_set, slice_index_or}
use Rattle.std.specs.List.{list_all, list_any}
use Rattle.std.proofs.lemmas.Bool.{false≢true, and_parts, and_from, leb-true, ltb-true, lt-ltb, not-true, eq-eqb}
use Rattle.std.proofs.lemmas.List.{take-replicate, length-replicate}
use Rattle.hc_rational.specs.Words.{Rational, zero_ℚ}
use Rattle.hc_term.specs.declared.expr.Expr.{Expr}
use Rattle.hc_term.specs.declared.expr.Cond.{Cond}
use Rattle.hc_term.specs.declared.form.Form.{Form}
use Rattle.hc_term.specs.declared.stmt.Io.{Io}
use Rattle.hc_term.specs.declared.stmt.Io.TheVariants.{Send, Receive}
use Rattle.hc_term.specs.declared.stmt.Rate.{Rate}
use Rattle.hc_term.specs.declared.post.Moving.{Moving}
use Rattle.hc_limits.specs.Limits.{most_nodes}
use Rattle.hc_term.specs.Value.{Store, val}
use Rattle.hc_term.specs.Motion.{Rates, rates_in, with_rates, form}
use Rattle.hc_term.specs.EndMoment.{is_domain}
use Rattle.hc_term.specs.Offers.{moving_of}
use Rattle.hc_term.specs.Profile.{nodes_in, reach_in, is_expr, is_cond, all_apart, same_variable, pattern_from, pattern_of, is_rate, are_rates, sends_affine, is_moving_domain, is_evolution}
use Rattle.hc_code.specs.declared.code.Way.{Way}
use Rattle.hc_code.specs.Kept.{ios_of}
use Rattle.hc_runs.proofs.Basics.{neither_of, length-set}
use Rattle.hc_runs.proofs.Alike.{same_form, same_domain}
use Rattle.hc_runs.proofs.Rated.{alike}
use Rattle.hc_step.specs.Arriving.{with_shown, rates_shown}
use Rattle.hc_step.proofs.Guards.{all_ios}

-- ---- lists

pub all_weaker : {A : Type 0} (f g : A → Bool) → ((x : A) → f x ≡ true → g x ≡ true) → (xs : List A) → list_all f xs ≡ true → list_all g xs ≡ true
all_weaker f g h [] k = refl
all_weaker f g h (x ∷ xs) k =
    let parts = and_parts (f x) (list_all f xs) k in
    and_from (g x) (list_all g xs) (h x parts.0) (all_weaker f g h xs parts.1)

pub take_set : {A : Type 0} (n : ℕ) (xs : List A) (x : ℕ) (v : A) → take n (slice_set xs x v) ≡ slice_set (take n xs) x v
take_set zero xs x v = refl
take_set (suc n) [] x v = refl
take_set (suc n) (y ∷ ys) zero v = refl
take_set (suc n) (y ∷ ys) (suc x) v = ap (λ l. y ∷ l) (take_set n ys x v)

-- ---- rates by their variables

shown_with : (s : Store) (rs : List Rate) (before : Rates) → with_shown before (moving_of s rs) ≡ with_rates before rs s
shown_with s [] before = refl
shown_with s (r ∷ rs) before = shown_with s rs (slice_set before r.variable (Some (val s r.value)))

take_shown : (n : ℕ) (ms : List Moving) (before : Rates) → take n (with_shown before ms) ≡ with_shown (take n before) ms
take_shown n [] before = refl
take_shown n (m ∷ ms) before =
    take_shown n ms (slice_set before m.variable (Some m.rate)) ∙ ap (λ (b : Rates). with_shown b ms) (take_set n before m.variable (Some m.rate))

-- the rates that the evolving variables show are those of the evolution
pub speeds_are : (s : Store) (rs : List Rate) → length s ≤ 64 → take (length s) (rates_shown (moving_of s rs)) ≡ rates_in rs s
speeds_are s rs h =
    take_shown (length s) (moving_of s rs) (replicate 64 None)
    ∙ ap (λ (b : Rates). with_shown b (moving_of s rs)) (take-replicate (length s) 64 None h) ∙ shown_with s rs (replicate (length s) None)

pub moving_below : (s : Store) (n : ℕ) (rs : List Rate) → n ≤ 64 → list_all (λ r. nat_lt r.variable n) rs ≡ true →
    list_all (λ m. nat_lt m.variable 64) (moving_of s rs) ≡ true
moving_below s n [] h k = refl
moving_below s n (r ∷ rs) h k =
    let parts = and_parts (nat_lt r.variable n) (list_all (λ r. nat_lt r.variable n) rs) k in
    let below : r.variable < n = ltb-true r.variable n parts.0 in
    and_from (nat_lt r.variable 64) (list_all (λ m. nat_lt m.variable 64) (moving_of s rs)) (lt-ltb r.variable 64 (omega (arith, below, h)))
    (moving_below s n rs h parts.1)

-- ---- few rates: each evolves another variable

abbrev evolving : Rates → ℕ
evolving [] = 0
evolving (None ∷ r) = evolving r
evolving (Some k ∷ r) = suc (evolving r)

evolving_within : (r : Rates) → evolving r ≤ length r
evolving_within [] = omega arith
evolving_within (None ∷ r) = let h = evolving_within r in omega (arith, h)
evolving_within (Some k ∷ r) = let h = evolving_within r in omega (arith, h)

evolving_set : (r : Rates) (x : ℕ) (k : Rational) → x < length r → slice_index_or r x None ≡ None → evolving (slice_set r x (Some k)) ≡ suc (evolving r)
evolving_set [] x k h e = absurd (omega (arith, h))
evolving_set (None ∷ r) zero k h e = refl
evolving_set (Some j ∷ r) zero k h e = cc
evolving_set (None ∷ r) (suc x) k h e = evolving_set r x k (omega (arith, h)) e
evolving_set (Some j ∷ r) (suc x) k h e = ap suc (evolving_set r x k (omega (arith, h)) e)

index_other : (r : Rates) (x y : ℕ) (v : Option Rational) → x ≢ y → slice_index_or (slice_set r x v) y None ≡ slice_index_or r y None
index_other [] x y v h = refl
index_other (z ∷ r) zero zero v h = absurd (h refl)
index_other (z ∷ r) zero (suc y) v h = refl
index_other (z ∷ r) (suc x) zero v h = refl
index_other (z ∷ r) (suc x) (suc y) v h = index_other r x y v (λ e. h (ap suc e))

apart_is : (x y : ℕ) → (x == y) ≡ false → x ≢ y
apart_is x y h e = false≢true (sym h ∙ ap (λ (z : ℕ). x == z) (sym e) ∙ eq-eqb x x refl)

-- no variable of these rates evolves yet
abbrev AllFree : Rates → List Rate → Type 0
AllFree r [] = Unit {0}
AllFree r (q ∷ qs) = (slice_index_or r q.variable None ≡ None) × AllFree r qs

still_free : (r : Rates) (q : Rate) (k : Rational) (qs : List Rate) → list_any (same_variable q) qs ≡ false → AllFree r qs → AllFree (slice_set r q.variable (Some k)) qs
still_free r q k [] h f = tt
still_free r q k (p ∷ ps) h f =
    let parts = neither_of (q.variable == p.variable) (list_any (same_variable q) ps) h in
    (index_other r q.variable p.variable (Some k) (apart_is q.variable p.variable parts.0) ∙ f.0, still_free r q k ps parts.1 f.1)

length-pattern : (rs : List Rate) (r : Rates) → length (pattern_from r rs) ≡ length r
length-pattern [] r = refl
length-pattern (q ∷ qs) r = length-pattern qs (slice_set r q.variable (Some zero_ℚ)) ∙ length-set r q.variable (Some zero_ℚ)

evolving_all : (rs : List Rate) (r : Rates) → list_all (λ q. nat_lt q.variable (length r)) rs ≡ true → all_apart same_variable rs ≡ true → AllFree r rs →
    evolving (pattern_from r rs) ≡ evolving r + length rs
evolving_all [] r h k f = omega arith
evolving_all (q ∷ qs) r h k f =
    let below = and_parts (nat_lt q.variable (length r)) (list_all (λ q. nat_lt q.variable (length r)) qs) h in
    let apart = and_parts (not (list_any (same_variable q) qs)) (all_apart same_variable qs) k in
    let next : Rates = slice_set r q.variable (Some zero_ℚ) in
    let later = evolving_all qs next (ap (λ (n : ℕ). list_all (λ q. nat_lt q.variable n) qs) (length-set r q.variable (Some zero_ℚ)) ∙ below.1) apart.1
    (still_free r q zero_ℚ qs (not-true (list_any (same_variable q) qs) apart.0) f.1) in
    let one = evolving_set r q.variable zero_ℚ (ltb-true q.variable (length r) below.0) f.0 in
    omega (arith, later, one)

none_evolves : (n : ℕ) → evolving (replicate n None) ≡ 0
none_evolves zero = refl
none_evolves (suc n) = none_evolves n

pub none_at : (n x : ℕ) → slice_index_or (replicate {A = Option Rational} n None) x None ≡ None
none_at zero x = refl
none_at (suc n) zero = refl
none_at (suc n) (suc x) = none_at n x

all_free : (n : ℕ) (rs : List Rate) → AllFree (replicate n None) rs
all_free n [] = tt
all_free n (q ∷ qs) = (none_at n q.variable, all_free n qs)

few_rates : (n : ℕ) (rs : List Rate) → list_all (λ q. nat_lt q.variable n) rs ≡ true → all_apart same_variable rs ≡ true → length rs ≤ n
few_rates n rs h k =
    let none : Rates = replicate n None in
    let count = length-replicate {A = Option Rational} n None in
    let all = evolving_all rs none (ap (λ (m : ℕ). list_all (λ q. nat_lt q.variable m) rs) count ∙ h) k (all_free n rs) in
    let within = evolving_within (pattern_from none rs) in
    let size = length-pattern rs none in
    let start = none_evolves n in
    omega (arith, all, within, size, start, count)

-- ---- the evolution

same_sends : (r p : Rates) → ((e : Expr) → form r e ≡ form p e) → (io : Io) → sends_affine p io ≡ true → sends_affine r io ≡ true
same_sends r p same (Send c e) h = ap (λ (f : Form). f.affine) (same e) ∙ h
same_sends r p same (Receive c x) h = h

pub record Evolves (s : Store) (rs : List Rate) (c : Cond) (ways : List Way) : Type 0 where
  pub few : length rs ≤ length s
  pub in_range : IsTrue (list_all (λ r. nat_lt r.variable (length s)) rs)
  pub valued : IsTrue (list_all (λ r. is_expr (length s) r.value) rs)
  pub reaches : reach_in c ≤ length s
  pub domain : IsTrue (is_domain (rates_in rs s) c)
  pub affine : IsTrue (list_all (λ w. sends_affine (rates_in rs s) w.io) ways)

pub evolves : (s : Store) (rs : List Rate) (c : Cond) (ways : List Way) → IsTrue (is_evolution (length s) rs c (ios_of ways)) → Evolves s rs c ways
evolves s rs c ways h =
    let n = length s in
    let p = pattern_of n rs in
    let r = rates_in rs s in
    let same = same_form r p (alike rs s) in
    let parts = and_parts (are_rates n p rs && is_moving_domain n p c) (list_all (sends_affine p) (ios_of ways)) h in
    let ruled = and_parts (are_rates n p rs) (is_moving_domain n p c) parts.0 in
    let rated = and_parts (nat_le 1 (length rs) && all_apart same_variable rs) (list_all (is_rate n p) rs) ruled.0 in
    let apart = (and_parts (nat_le 1 (length rs)) (all_apart same_variable rs) rated.0).1 in
    let moving = and_parts (is_cond n c) (is_domain p c) ruled.1 in
    let cond = and_parts (nat_le (nodes_in c) most_nodes && nat_le (reach_in c) n) (is_domain [] c) moving.0 in
    let front = (λ (q : Rate) (k : is_rate n p q ≡ true).
    and_parts (nat_lt q.variable n) (is_expr n q.value) (and_parts (nat_lt q.variable n && is_expr n q.value) (not (form p q.value).moves) k).0) in
    let below = all_weaker (is_rate n p) (λ q. nat_lt q.variable n) (λ q k. (front q k).0) rs rated.1 in
    record {
      few = few_rates n rs below apart;
      in_range = below;
      valued = all_weaker (is_rate n p) (λ q. is_expr n q.value) (λ q k. (front q k).1) rs rated.1;
      reaches = leb-true (reach_in c) n (and_parts (nat_le (nodes_in c) most_nodes) (nat_le (reach_in c) n) cond.0).1;
      domain = same_domain r p (alike rs s) c ∙ moving.1;
      affine = all_weaker (λ w. sends_affine p w.io) (λ w. sends_affine r w.io) (λ w k. same_sends r p same w.io k) ways (sym (all_ios (sends_affine p) ways) ∙ parts.1);
    }
