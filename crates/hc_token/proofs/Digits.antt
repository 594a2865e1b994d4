-- What begins with a digit is read as a number.
use Rattle.std.proofs.Common.{◌≡◌, ◌==◌, ℕ, Bool, true, false, cond, List, ◌∷◌, arith}
use Rattle.std.specs.Char.{is_ascii_alphabetic, is_ascii_digit}
use Rattle.std.proofs.lemmas.Bool.Decides.{nat_tests}
use Rattle.hc_token.specs.Pieces.{is_blank, number_piece, piece}

not_blank : (b : ℕ) → is_ascii_digit b ≡ true → is_blank b ≡ false
not_blank b h = grind (arith, nat_tests)

not_hash : (b : ℕ) → is_ascii_digit b ≡ true → (b == 35) ≡ false
not_hash b h = grind (arith, nat_tests)

not_letter : (b : ℕ) → is_ascii_digit b ≡ true → is_ascii_alphabetic b ≡ false
not_letter b h = grind (arith, nat_tests)

-- three tests that fail, and one that holds
fourth : {X : Type 0} (a b c d : Bool) (x y z v w : X) → a ≡ false → b ≡ false → c ≡ false → d ≡ true
    → cond a x (cond b y (cond c z (cond d v w))) ≡ v
fourth a b c d x y z v w e f g h = rw (e, f, g, h)

pub digit_in_front : (b : ℕ) (y : List ℕ) → is_ascii_digit b ≡ true → piece (b ∷ y) ≡ number_piece (b ∷ y)
unfolding piece
digit_in_front b y h =
    fourth (is_blank b) (b == 35) (is_ascii_alphabetic b) (is_ascii_digit b) _ _ _ _ _
    (not_blank b h) (not_hash b h) (not_letter b h) h
