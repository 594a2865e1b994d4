-- The value of digits that is capped as it grows is that of all of them, capped.
use Rattle.std.proofs.Common.{◌≡◌, ℕ, ◌+◌, ◌-◌, ◌*◌, ◌<◌, true, min, List, [], ◌∷◌, ◌++◌, length, get_or, drop, refl, sym, ap, ◌∙◌, arith}
use Rattle.std.specs.Char.{digit_value, is_ascii_digit}
use Rattle.std.specs.List.{list_all}
use Rattle.std.specs.Str.Parse.{digits_value, digits_value_after}
use Rattle.std.proofs.lemmas.List.{at_drop_more}
use Rattle.std.proofs.lemmas.List.Elements.{All-get_or}
use Rattle.std.proofs.lemmas.List.Sums.{AllPass-from_list_all}
use Rattle.std.proofs.lemmas.Bool.Decides.{nat_tests}

-- the greatest number that 64 bits hold
abbrev pub greatest : ℕ
greatest = 18446744073709551615

-- digits behind those of n, capped
abbrev pub capped_after : ℕ → List ℕ → ℕ
capped_after n ds = min (digits_value_after 10 n ds) greatest

pub capped_first : (n : ℕ) (ds : List ℕ) → capped_after (min n greatest) ds ≡ capped_after n ds
capped_first n [] = omega arith
capped_first n (d ∷ ds) =
    let before = capped_first (min n greatest * 10 + digit_value d) ds in
    let same : min (min n greatest * 10 + digit_value d) greatest ≡ min (n * 10 + digit_value d) greatest =
    omega arith in
    sym before ∙ ap (λ k. capped_after k ds) same ∙ capped_first (n * 10 + digit_value d) ds

digit_at : (ds : List ℕ) (i : ℕ) → list_all is_ascii_digit ds ≡ true → i < length ds
    → is_ascii_digit (get_or ds i 0) ≡ true
digit_at ds i h l =
    All-get_or (λ b. is_ascii_digit b ≡ true) ds i 0 l (AllPass-from_list_all is_ascii_digit ds h)

digit_worth : (b : ℕ) → is_ascii_digit b ≡ true → digit_value b ≡ b - 48
digit_worth b h = grind (arith, nat_tests)

-- one digit more
pub next_digit : (ds : List ℕ) (i n m : ℕ) → list_all is_ascii_digit ds ≡ true → i < length ds
    → m ≡ min (n * 10 + (get_or ds i 0 - 48)) greatest
    → capped_after m (drop (i + 1) ds) ≡ capped_after n (drop i ds)
next_digit ds i n m digits l e =
    let worth = digit_worth (get_or ds i 0) (digit_at ds i digits l) in
    ap (λ k. capped_after k (drop (i + 1) ds)) (e ∙ ap (λ k. min (n * 10 + k) greatest) (sym worth))
    ∙ capped_first (n * 10 + digit_value (get_or ds i 0)) (drop (i + 1) ds)
    ∙ sym (at_drop_more (capped_after n) ds i 0 l)

after_both : (n : ℕ) (ds es : List ℕ)
    → digits_value_after 10 n (ds ++ es) ≡ digits_value_after 10 (digits_value_after 10 n ds) es
after_both n [] es = refl
after_both n (d ∷ ds) es = after_both (n * 10 + digit_value d) ds es

-- digits in two steps
pub both_capped : (ds es : List ℕ)
    → capped_after (capped_after 0 ds) es ≡ min (digits_value 10 (ds ++ es)) greatest
both_capped ds es =
    capped_first (digits_value_after 10 0 ds) es ∙ ap (λ k. min k greatest) (sym (after_both 0 ds es))
