-- A number in range, and one that is out of it.
use Rattle.std.proofs.Common.{◌≡◌, ℕ, ◌<◌, ◌≤◌, ◌⊎◌, inl, inr, pos, true, false, Bool, List, ◌++◌, length, drop, min, ap, ap₂, refl, sym, ◌∙◌, arith}
use Rattle.std.specs.Str.Parse.{digits_value}
use denote.Struct.Record.{values_one}
use Rattle.std.proofs.lemmas.Bool.{cases_lt, false≢true}
use Rattle.std.proofs.lemmas.Bool.Decides.{nat_tests}
use Rattle.hc_frac.specs.declared.decimal.Decimal.{Decimal}
use Rattle.hc_frac.specs.contracts.decimal.Decimal.{struct, the_propositions}
use Rattle.hc_token.specs.declared.token.Lexeme.TheVariants as lex
use Rattle.hc_token.specs.Decimals.{in_range, Ranged, fits, unfit}
use Rattle.hc_token.specs.Numbers.{front_digits, point_digits, places_digits, said, number_of, number}
use Rattle.hc_token.specs.Ranged.{ranged}
use Rattle.hc_token.proofs.Values.{greatest, capped_after, both_capped}

-- a number is its digits and its places
same_number : (m n : Decimal) → m.digits ≡ n.digits → m.places ≡ n.places → m ≡ n
same_number m n d p = values_one struct the_propositions m n (ap₂ (λ d p. (d, (p, tt))) d p)

in_range_by : (n : Decimal) (digits places : ℕ) (r : Ranged digits places) → in_range digits places ≡ true
    → n.digits ≡ pos digits → n.places ≡ places → lex.Number n ≡ said r
in_range_by n digits places (fits e m f g) i d p = ap lex.Number (same_number n m (d ∙ sym f) (p ∙ sym g))
in_range_by n digits places (unfit e) i d p = absurd (false≢true (sym e ∙ i))

pub number_in_range : (n : Decimal) (digits places : ℕ) → digits ≤ 9223372036854775807 → places ≤ 18
    → n.digits ≡ pos digits → n.places ≡ places → lex.Number n ≡ number_of digits places
unfolding number_of
number_in_range n digits places d p = in_range_by n digits places (ranged digits places) (grind (arith, nat_tests))

out_by : (digits places : ℕ) (r : Ranged digits places) → in_range digits places ≡ false → lex.LargeNumber ≡ said r
out_by digits places (fits e m f g) i = absurd (false≢true (sym i ∙ e))
out_by digits places (unfit e) i = refl

pub number_out_of_range : (digits places : ℕ) → (9223372036854775807 < digits) ⊎ (18 < places)
    → lex.LargeNumber ≡ number_of digits places
unfolding number_of
number_out_of_range digits places h = out_by digits places (ranged digits places) (grind (arith, nat_tests))

-- what is above all that 64 bits hold is out of range in any case
pub number_capped : (digits places : ℕ) → number_of (min digits greatest) places ≡ number_of digits places
number_capped digits places =
    elim (cases_lt greatest digits) [
      | inl above ↦
          sym (number_out_of_range (min digits greatest) places (inl (omega arith)))
          ∙ number_out_of_range digits places (inl (omega arith))
      | inr within ↦ ap (λ n. number_of n places) (omega arith)
    ]

-- a number that is read in two runs of digits
pub number_read : (z whole places : List ℕ) (first value : ℕ)
    → whole ≡ front_digits z → places ≡ point_digits (drop (length whole) z)
    → first ≡ capped_after 0 whole → value ≡ capped_after first places
    → number_of value (length places) ≡ number z
number_read z whole places first value w p f v =
    let e : places ≡ places_digits z = p ∙ ap (λ x. point_digits (drop (length x) z)) w in
    ap (λ n. number_of n (length places)) (v ∙ ap (λ n. capped_after n places) f ∙ both_capped whole places)
    ∙ number_capped (digits_value 10 (whole ++ places)) (length places)
    ∙ ap₂ (λ x y. number_of (digits_value 10 (x ++ y)) (length y)) w e
