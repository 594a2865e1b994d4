-- Numbers in range and out of it.
use Rattle.std.proofs.Common.{◌≡◌, ℕ, ◌<◌, ◌≤◌, inl, inr, ℤ, pos, Bool, true, false, min, cond, ap, ap₂, sym, ◌∙◌, arith}
use Rattle.std.specs.Prelude.{nat_lt}
use Rattle.std.proofs.lemmas.Bool.{cases_lt}
use Rattle.std.proofs.lemmas.Bool.Decides.{nat_tests}
use Rattle.hc_token.proofs.Values.{greatest}
use Rattle.hc_ctoken.specs.declared.token.Lexeme.TheVariants as lex
use Rattle.hc_ctoken.specs.Numbers.{greatest_number, in_range, number_of}

pub large : (padded : Bool) (n : ℕ) → greatest_number < n → lex.LargeNumber ≡ number_of padded n
unfolding number_of
large padded n h =
    let e : nat_lt greatest_number n ≡ true = grind (arith, nat_tests) in
    sym (ap (λ b. cond b lex.LargeNumber (in_range padded n)) e)

small : (padded : Bool) (n : ℕ) → n ≤ greatest_number → in_range padded n ≡ number_of padded n
unfolding number_of
small padded n h =
    let e : nat_lt greatest_number n ≡ false = grind (arith, nat_tests) in
    sym (ap (λ b. cond b lex.LargeNumber (in_range padded n)) e)

said_by : (padded b : Bool) (n : ℕ) (z : ℤ) → padded ≡ b → z ≡ pos n
    → cond b (lex.Padded z) (lex.Number z) ≡ in_range padded n
said_by padded b n z p e = ap₂ (λ t y. cond t (lex.Padded y) (lex.Number y)) (sym p) e

pub padded_number : (padded : Bool) (n : ℕ) (z : ℤ) → n ≤ greatest_number → padded ≡ true → z ≡ pos n
    → lex.Padded z ≡ number_of padded n
padded_number padded n z h p e = said_by padded true n z p e ∙ small padded n h

pub plain_number : (padded : Bool) (n : ℕ) (z : ℤ) → n ≤ greatest_number → padded ≡ false → z ≡ pos n
    → lex.Number z ≡ number_of padded n
plain_number padded n z h p e = said_by padded false n z p e ∙ small padded n h

-- what is above all that 64 bits hold is out of range in any case
pub number_capped : (padded : Bool) (n : ℕ) → number_of padded (min n greatest) ≡ number_of padded n
number_capped padded n =
    elim (cases_lt greatest n) [
      | inl above ↦ sym (large padded (min n greatest) (omega arith)) ∙ large padded n (omega arith)
      | inr within ↦ ap (number_of padded) (omega arith)
    ]
