-- Members that are moved one after another, each with its process.
use Rattle.std.proofs.Common.{◌≡◌, ◌<◌, ◌≤◌, refl, sym, ap, subst, ◌∙◌, ℕ, ◌+◌, true, not, List, map, length, slice_get, Option, Some, None, IfSome, ◌⊎◌, inl, inr, arith, rules}
use Rattle.std.proofs.Math.ListN.{get_or, set}
use Rattle.std.proofs.lemmas.Bool.{false≢true, cases_lt}
use Rattle.std.proofs.lemmas.List.{length-set, length-map, get_or-set_same, get_or-set_other}
use Rattle.std.proofs.lemmas.Option.{slice_get-get_or, slice_get_within, get_or_from_slice_get}
use Rattle.hc_rational.specs.Words.{Rational, zero_ℚ, ◌+ℚ◌, ◌-ℚ◌, ◌≤ℚ◌, ◌<ℚ◌, is_negative}
use Rattle.hc_rational.proofs.OrderLaws.{≤ℚ-or-<ℚ, ≤ℚ--ℚ}
use Rattle.hc_rational.proofs.RankLaws.{is_negative_is}
use Rattle.hc_term.specs.declared.model.ProcessState.{ProcessState}
use Rattle.hc_term.specs.Communication.{moved}
use Rattle.hc_term.specs.Together.{is_within}
use Rattle.hc_member.specs.declared.member.Member.{Member}
use Rattle.hc_member.specs.States.{IsIn, AllIn}
use Rattle.hc_member.proofs.Places.{beside, mapped_at}

-- ---- the bound of one

from_test : (q : Rational) → not (is_negative q) ≡ true → (zero_ℚ ≤ℚ q) ⊎ (q <ℚ zero_ℚ) → zero_ℚ ≤ℚ q
from_test q h (inl k) = k
from_test q h (inr k) = absurd (false≢true (sym (ap not ((is_negative_is q).1 k)) ∙ h))

pub within_bound : (d : Rational) (b : Option Rational) → is_within d b ≡ true → IfSome b (λ (bound : Rational). d ≤ℚ bound)
within_bound d None h = search rules
within_bound d (Some b) h = (≤ℚ--ℚ d b).0 (from_test (b -ℚ d) h (≤ℚ-or-<ℚ zero_ℚ (b -ℚ d)))

-- ---- lists

same_at : {A : Type 0} (xs : List A) (n : ℕ) (d e : A) → n < length xs → get_or xs n d ≡ get_or xs n e
same_at xs n d e low =
    let one : Some (get_or xs n d) ≡ Some (get_or xs n e) = sym (slice_get-get_or xs n d low) ∙ slice_get-get_or xs n e low in
    cc

-- ---- one after another

-- the member has moved with whatever process it stood for
pub record Moves (by : Rational) (old new : Member) : Type 0 where
  pub each : (p : ℕ) (clock : Rational) (q : ProcessState) → IsIn p clock old q → IsIn p (clock +ℚ by) new (moved by q)

-- the first n members have moved, and the others are as they were
pub record FirstMoved (by : Rational) (n : ℕ) (old new : List Member) : Type 0 where
  pub counted : length new ≡ length old
  pub before : (k : ℕ) (d : Member) → k < n → k < length old → Moves by (get_or old k d) (get_or new k d)
  pub after : (k : ℕ) (d : Member) → n ≤ k → get_or new k d ≡ get_or old k d

module _ (by : Rational) where
  pub none_moved : (ms : List Member) → FirstMoved by 0 ms ms
  none_moved ms = record { counted = refl; before = λ k d low within. absurd (omega arith); after = λ k d high. refl }

  module _ (n : ℕ) (old new : List Member) (m next : Member) (low : n < length old) (first : FirstMoved by n old new)
      (moves : Moves by (get_or new n m) next) where
    moved_at : (k : ℕ) (d : Member) → k < length old → (k < n) ⊎ (n ≤ k) → k < n + 1 → Moves by (get_or old k d) (get_or (set new n next) k d)
    moved_at k d within (inl h) h' =
        subst (λ (x : Member). Moves by (get_or old k d) x) (sym (get_or-set_other new n k next d (λ e. omega (arith, e, h)))) (first.before k d h within)
    moved_at k d within (inr h) h' =
        let here : k ≡ n = omega (arith, h, h') in
        let was : get_or old k d ≡ get_or new n m =
        ap (λ (i : ℕ). get_or old i d) here ∙ same_at old n d m low ∙ sym (first.after n m (omega arith)) in
        let is : get_or (set new n next) k d ≡ next =
        ap (λ (i : ℕ). get_or (set new n next) i d) here ∙ get_or-set_same new n next d (omega (arith, low, first.counted)) in
        subst (λ (x : Member). Moves by x (get_or (set new n next) k d)) (sym was)
        (subst (λ (x : Member). Moves by (get_or new n m) x) (sym is) moves)

    pub one_moved : FirstMoved by (n + 1) old (set new n next)
    one_moved = record {
      counted = length-set new n next ∙ first.counted;
      before = λ k d low within. moved_at k d within (cases_lt k n) low;
      after = λ k d high. get_or-set_other new n k next d (λ e. omega (arith, e, high)) ∙ first.after k d (omega (arith, high));
    }

  pub all_moved : (n : ℕ) (old new : List Member) (clock : Rational) (qs : List ProcessState) → length old ≤ n → FirstMoved by n old new →
      AllIn clock old qs → AllIn (clock +ℚ by) new (map (moved by) qs)
  all_moved n old new clock qs past first all = record {
    counted = first.counted ∙ all.counted ∙ sym (length-map qs (moved by));
    each = λ k m r at there. by_place k m r at there;
  } where
    by_place : (k : ℕ) (m : Member) (r : ProcessState) → slice_get new k ≡ Some m → slice_get (map (moved by) qs) k ≡ Some r → IsIn k (clock +ℚ by) m r
    by_place k m r at there =
        let low : k < length old = omega (arith, slice_get_within new k m at, first.counted) in
        let was = slice_get-get_or old k m low in
        let q = beside old qs k (get_or old k m) all.counted was in
        let is = (first.before k m (omega (arith, low, past)) low).each k clock q.0 (all.each k (get_or old k m) q.0 was q.1) in
        let to : Some (moved by q.0) ≡ Some r = sym (mapped_at (moved by) qs k q.0 q.1) ∙ there in
        let same : moved by q.0 ≡ r = cc in
        subst (λ (x : Member). IsIn k (clock +ℚ by) x r) (get_or_from_slice_get new k m m at)
        (subst (λ (x : ProcessState). IsIn k (clock +ℚ by) (get_or new k m) x) same is)
