-- Bits of words that are set, cleared and found.
use Rattle.std.proofs.Common.{◌≡◌, ◌≢◌, ◌<◌, ℕ, ◌+◌, ◌*◌, ◌/◌, ◌%◌, ◌^◌, Bool, true, false, List, length, ◌==◌, if◌then◌else◌, bit_and, bit_or, w64, refl, ap, ◌∙◌, inl, inr, arith}
use Rattle.std.proofs.Math.ListN.{set, get_or}
use Rattle.std.proofs.lemmas.Bool.{eqb-true, eqb-false, eq-eqb, ne_eqb, cases_eq, cases_lt}
use Rattle.std.proofs.lemmas.List.{get_or-set_same, get_or-set_other}
use Rattle.std.proofs.lemmas.Nat.Bits.{bit_at-zero, bit_at-trailing_zeros, bit_at_set_same, bit_at_set_other, bit_at_clear_same, bit_at_clear_other}
use Rattle.std.specs.Int.{bit_at, bit_not, trailing_zeros}
use Rattle.hc_board.specs.Bits.{has, is_in, IsLeast}

-- a bit is 0 where it isn't 1
is_clear : (b : ℕ) → b < 2 → (b == 1) ≡ false → b ≡ 0
is_clear b low e = omega (arith, low, eqb-false b 1 e)

-- ---- one word

pub chosen : {A : Type 0} (b : Bool) (x y z : A) → (b ≡ true → z ≡ x) → (b ≡ false → z ≡ y) → z ≡ (if b then x else y)
chosen true x y z t f = t refl
chosen false x y z t f = f refl

pub set_bit : (word bit i : ℕ) → bit < 64 → has (bit_or word (1 * 2 ^ bit % 2 ^ 64)) i ≡ (if i == bit then true else has word i)
set_bit word bit i low =
    chosen (i == bit) true (has word i) _
    (λ e. ap (λ (n : ℕ). n == 1) (ap (bit_at _) (eqb-true i bit e) ∙ bit_at_set_same w64 word bit low))
    (λ e. ap (λ (n : ℕ). n == 1) (bit_at_set_other w64 word bit low i (eqb-false i bit e)))

pub clear_bit : (word bit i : ℕ) → bit < 64 → i < 64 → has (bit_and word (bit_not w64 (1 * 2 ^ bit % 2 ^ 64))) i ≡ (if i == bit then false else has word i)
clear_bit word bit i low within =
    chosen (i == bit) false (has word i) _
    (λ e. ap (λ (n : ℕ). n == 1) (ap (bit_at _) (eqb-true i bit e) ∙ bit_at_clear_same w64 word bit low))
    (λ e. ap (λ (n : ℕ). n == 1) (bit_at_clear_other w64 word bit low i within (eqb-false i bit e)))

pub lowest : (word : ℕ) → word ≢ 0 → word < 2 ^ 64 → IsLeast 64 (has word) (trailing_zeros w64 word)
lowest word some fits =
    let h = bit_at-trailing_zeros w64 word (omega (arith, some)) fits in
    record { there = h.0; member = ap (λ (n : ℕ). n == 1) h.1; first = λ i low. ap (λ (n : ℕ). n == 1) (h.2 i low) }

-- ---- several words

-- one word more is looked through
pub none_next : (words : List ℕ) (at : ℕ) → get_or words at 0 ≡ 0 → ((i : ℕ) → i < at * 64 → is_in words i ≡ false) →
    (i : ℕ) → i < (at + 1) * 64 → is_in words i ≡ false
none_next words at empty before i low =
    elim (cases_lt i (at * 64)) [
      | inl lower ↦ before i lower
      | inr here ↦
          let same : i / 64 ≡ at = omega (arith, low, here) in
          ap (λ (w : ℕ). has w (i % 64)) (ap (λ (k : ℕ). get_or words k 0) same ∙ empty) ∙ ap (λ (n : ℕ). n == 1) (bit_at-zero (i % 64))
    ]

pub found_here : (words : List ℕ) (at bit : ℕ) → at < length words → ((i : ℕ) → i < at * 64 → is_in words i ≡ false) →
    IsLeast 64 (has (get_or words at 0)) bit → IsLeast (length words * 64) (is_in words) (at * 64 + bit)
found_here words at bit low before least =
    let there = least.there in
    let same : (at * 64 + bit) / 64 ≡ at = omega (arith, there) in
    let rest : (at * 64 + bit) % 64 ≡ bit = omega (arith, there) in
    record {
      there = omega (arith, low, there);
      member = rw (same, rest) least.member;
      first = λ i lower. elim (cases_lt i (at * 64)) [
        | inl less ↦ before i less
        | inr here ↦
            let word : i / 64 ≡ at = omega (arith, there, lower, here) in
            rw word (least.first (i % 64) (omega (arith, there, lower, here)))
      ];
    }

-- a word is replaced by one with this bit set or cleared
pub member_set : (words : List ℕ) (member word : ℕ) (is_set : Bool) → member < length words * 64 →
    ((i : ℕ) → i < 64 → has word i ≡ (if i == member % 64 then is_set else has (get_or words (member / 64) 0) i)) →
    (i : ℕ) → i < length words * 64 →
    is_in (set words (member / 64) word) i ≡ (if i == member then is_set else is_in words i)
member_set words member word is_set low h i within =
    chosen (i == member) is_set (is_in words i) _
    (λ e.
    let same : i ≡ member = eqb-true i member e in
    rw same (ap (λ (w : ℕ). has w (member % 64)) (get_or-set_same words (member / 64) word 0 (omega (arith, low)))
    ∙ h (member % 64) (omega arith) ∙ ap (λ (b : Bool). if b then is_set else has (get_or words (member / 64) 0) (member % 64)) (eq-eqb (member % 64) (member % 64) refl)))
    (λ e. elim (cases_eq (i / 64) (member / 64)) [
      | inl same ↦
          rw same (ap (λ (w : ℕ). has w (i % 64)) (get_or-set_same words (member / 64) word 0 (omega (arith, low)))
          ∙ h (i % 64) (omega arith) ∙ ap (λ (b : Bool). if b then is_set else has (get_or words (member / 64) 0) (i % 64)) (ne_eqb (i % 64) (member % 64) (λ k. eqb-false i member e (omega (arith, same, k)))))
      | inr apart ↦ ap (λ (w : ℕ). has w (i % 64)) (get_or-set_other words (member / 64) (i / 64) word 0 apart)
    ])
