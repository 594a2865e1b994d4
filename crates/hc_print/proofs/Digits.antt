-- The last digits of a number, one by one.
use Rattle.std.proofs.Common.{◌≡◌, ℕ, zero, suc, ◌+◌, ◌-◌, ◌/◌, ◌%◌, ◌^◌, ◌<◌, List, ◌∷◌, ◌++◌, ap, sym, ◌∙◌, arith, sub-one}
use Rattle.hc_print.specs.Numerals.{last_digits}

one_digit : (left n : ℕ) (z : List ℕ) → 0 < left
    → last_digits left n z ≡ (48 + n / 10 ^ (left - 1) % 10) ∷ last_digits (left - 1) n z
one_digit zero n z h = absurd (omega arith)
one_digit (suc left) n z h = rw sub-one

-- one digit more is written
pub digit_written : (old new first : List ℕ) (left count n b : ℕ) → 0 < left
    → b ≡ 48 + n / 10 ^ (left - 1) % 10 → ((z : List ℕ) → new ++ z ≡ old ++ b ∷ z)
    → ((z : List ℕ) → old ++ last_digits left n z ≡ first ++ last_digits count n z)
    → (z : List ℕ) → new ++ last_digits (left - 1) n z ≡ first ++ last_digits count n z
digit_written old new first left count n b h e more rest z =
    more (last_digits (left - 1) n z) ∙ ap (λ b. old ++ b ∷ last_digits (left - 1) n z) e
    ∙ ap (λ x. old ++ x) (sym (one_digit left n z h)) ∙ rest z
