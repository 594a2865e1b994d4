-- The number of a name that is there: it is below the count, and names of one number are the same.
use Rattle.std.proofs.Common.{◌≡◌, ◌∙◌, refl, sym, subst, ap, ◌+◌, ◌<◌, not, ◌||◌, ◌==◌, cond, Bool, true, false, IsTrue, List, [], ◌∷◌, length, get_or, arith}
use Rattle.std.proofs.lemmas.Bool.Decides.{Decides-eqb}
use Rattle.std.proofs.lemmas.Cmp.{nat_list_eq_equiv}
use Rattle.std.proofs.lemmas.List.Sums.{prefix_len_stops}
use Rattle.std.specs.List.{list_any, position_or_len}
use Rattle.std.specs.Cmp.Lexicographic.{same_text}
use Rattle.hc_ast.specs.Bare.{Word}
use Rattle.hc_modules.specs.Bindings.{same_word}
use Rattle.hc_finds.specs.Names.{number_in}
use Rattle.hc_check.proofs.Clean.{is_named}

-- some element passes, so the first that does is there
first_below : {X : Type 0} (p : X → Bool) (xs : List X) → IsTrue (list_any p xs) → position_or_len p xs < length xs
first_below p [] h = absurd (cc)
first_below p (x ∷ xs) h = by (λ some. first_below p xs some) (p x) refl
  where
    by : (IsTrue (list_any p xs) → position_or_len p xs < length xs) → (b : Bool) → p x ≡ b → position_or_len p (x ∷ xs) < length (x ∷ xs)
    by rest true e = let first : position_or_len p (x ∷ xs) ≡ 0 = ap (λ b. cond (not b) (1 + position_or_len p xs) 0) e in omega arith
    by rest false e =
        let later : position_or_len p (x ∷ xs) ≡ 1 + position_or_len p xs = ap (λ b. cond (not b) (1 + position_or_len p xs) 0) e in
        let some : IsTrue (list_any p xs) = ap (λ b. b || list_any p xs) (sym e) ∙ h in
        omega (arith, rest some)

pub below : (names : List Word) (x : Word) → IsTrue (is_named names x) → number_in names x < length names
below names x h = first_below (same_word x) names h

-- the name at a number
pub at_number : (names : List Word) (x : Word) → number_in names x < length names → x ≡ get_or names (number_in names x) []
at_number names x h =
    same_text x (get_or names (number_in names x) []) (negated (same_word x (get_or names (number_in names x) [])) (prefix_len_stops (λ y. not (same_word x y)) names [] h))
  where
    negated : (b : Bool) → not b ≡ false → true ≡ b
    negated true e = refl
    negated false e = absurd (cc)

pub same_names : (names : List Word) (x y : Word) → IsTrue (is_named names x) → number_in names x ≡ number_in names y → x ≡ y
same_names names x y h e =
    let here : number_in names x < length names = below names x h in
    let there : number_in names y < length names = omega arith in
    at_number names x here ∙ ap (λ i. get_or names i []) e ∙ sym (at_number names y there)

pub one_name : (names : List Word) (x y : Word) → IsTrue (is_named names x) → number_in names x ≡ number_in names y → IsTrue (same_word x y)
one_name names x y h e = subst (λ (z : Word). IsTrue (same_word x z)) (same_names names x y h e) (nat_list_eq_equiv.refl x)

-- numbers are equal exactly where the names are the same
pub number_same : (names : List Word) (x y : Word) → IsTrue (is_named names y) → (number_in names x == number_in names y) ≡ same_word x y
number_same names x y h = by (same_word x y) refl
  where
    apart : (b : Bool) → (number_in names x == number_in names y) ≡ b → same_word x y ≡ false → (number_in names x == number_in names y) ≡ false
    apart false f e = f
    apart true f e =
        let equal : number_in names x ≡ number_in names y = (Decides-eqb (number_in names x) (number_in names y)).0 f in
        let one : y ≡ x = same_names names y x h (sym equal) in
        let same : same_word x y ≡ true = subst (λ (z : Word). same_word z y ≡ true) one (nat_list_eq_equiv.refl y) in
        absurd (cc (same, e))

    by : (b : Bool) → same_word x y ≡ b → (number_in names x == number_in names y) ≡ same_word x y
    by true e = (Decides-eqb (number_in names x) (number_in names y)).1 (ap (number_in names) (same_text x y (sym e))) ∙ sym e
    by false e = apart (number_in names x == number_in names y) refl e ∙ sym e
