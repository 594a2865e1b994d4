-- Words without blanks are told from their bytes: each is cut off at the first blank.
use Rattle.std.proofs.Common.{◌≡◌, ◌≢◌, ℕ, ◌<◌, ◌^◌, ◌==◌, ℤ, pos, negsuc, suc, Bool, true, false, cond, List, [], ◌∷◌, ◌++◌, refl, sym, ap, ◌∙◌, arith, append_assoc}
use Rattle.std.specs.Prelude.{decimal, unsigned_abs}
use Rattle.std.specs.Fmt.{signed_decimal}
use Rattle.std.specs.Int.{IsInRange}
use Rattle.std.specs.Str.Parse.{AllDigits, digits_value}
use Rattle.std.proofs.lemmas.Fmt.{digits_decimal}
use Rattle.std.proofs.lemmas.List.{append_cancel_right}
use Rattle.std.proofs.lemmas.Str.Parse.{IsNumeralModel, numerals_by_value, tells_digits, not_in_digits}
use Rattle.hc_rational.specs.Words.{Rational, IsFrac}
use Rattle.hc_rational.proofs.FitsLaws.{num_fits, den_fits}
use Rattle.hc_frac.specs.Text.{text_of}
use Rattle.hc_frac.specs.Word.{IsWord, word_byte}
use Rattle.hc_term.specs.TraceText.{words}
use Rattle.hc_trace.specs.Found.{Spells}
use Rattle.hc_trace.specs.Reading.{Lacks}
use Rattle.hc_trace.proofs.Cuts.{lacks_append, lacks_from, lacks_at, not_cut, one_cut}

-- ---- bytes that words and numbers lack

pub word_lacks : (b : ℕ) (w : List ℕ) → word_byte b ≡ false → IsWord w → Lacks b w
word_lacks b w other h = lacks_from word_byte b w other h.all

own : IsNumeralModel (AllDigits 10) (digits_value 10)
own = numerals_by_value (AllDigits 10) tells_digits

decimal_lacks : (b n : ℕ) → ¬ (IsInRange 48 57 b) → n < 2 ^ 64 → Lacks b (decimal n)
decimal_lacks b n other small = lacks_at b (decimal n) (not_in_digits own (decimal n) b (digits_decimal own n small) other)

pub signed_lacks : (b : ℕ) (z : ℤ) → ¬ (IsInRange 48 57 b) → 45 ≢ b → unsigned_abs z < 2 ^ 63 → Lacks b (signed_decimal z)
signed_lacks b (pos n) other sign small = decimal_lacks b n other (omega arith)
signed_lacks b (negsuc n) other sign small = (sign, decimal_lacks b (suc n) other (omega arith))

-- no digit, no sign and no slash
pub record IsNoNumeral (b : ℕ) : Type 0 where
  pub digit : ¬ (IsInRange 48 57 b)
  pub sign : 45 ≢ b
  pub slash : 47 ≢ b

text_lacks_by : (b : ℕ) (whole : Bool) (z : ℤ) (d : ℕ) → IsNoNumeral b → unsigned_abs z < 2 ^ 63 → d < 2 ^ 63 →
    Lacks b (cond whole (signed_decimal z) (signed_decimal z ++ 47 ∷ decimal d))
text_lacks_by b true z d none h k = signed_lacks b z none.digit none.sign h
text_lacks_by b false z d none h k =
    lacks_append b (signed_decimal z) (47 ∷ decimal d) (signed_lacks b z none.digit none.sign h) (none.slash, decimal_lacks b d none.digit (omega arith))

pub text_lacks : (b : ℕ) (q : Rational) → IsNoNumeral b → IsFrac q → Lacks b (text_of q)
text_lacks b q none fits = text_lacks_by b (q.den == 1) q.num q.den none (num_fits q fits) (den_fits q fits)

pub no_blank : IsNoNumeral 32
no_blank = record { digit = λ h. omega arith; sign = λ e. omega (arith, e); slash = λ e. omega (arith, e) }

pub no_newline : IsNoNumeral 10
no_newline = record { digit = λ h. omega arith; sign = λ e. omega (arith, e); slash = λ e. omega (arith, e) }

-- ---- a cut at a blank

-- bytes without a blank are no two words
pub uncut : (bytes w v : List ℕ) (ws : List (List ℕ)) → Lacks 32 bytes → Spells bytes (w ∷ v ∷ ws) → ⊥
uncut bytes w v ws h e =
    let blank : 10 ≢ 32 = λ f. omega (arith, f) in
    not_cut 32 (bytes ++ 10 ∷ []) w (words (v ∷ ws)) (lacks_append 32 bytes (10 ∷ []) h (blank, tt)) e

-- what is before the first blank is the first word, and the others are behind it
pub cut_off : (bytes a b w v : List ℕ) (ws : List (List ℕ)) → Lacks 32 a → Lacks 32 w → bytes ≡ a ++ 32 ∷ b →
    Spells bytes (w ∷ v ∷ ws) → (a ≡ w) × Spells b (v ∷ ws)
cut_off bytes a b w v ws h k is e =
    let whole : a ++ 32 ∷ (b ++ 10 ∷ []) ≡ w ++ 32 ∷ words (v ∷ ws) =
    sym (append_assoc a (32 ∷ b) (10 ∷ [])) ∙ ap (λ s. s ++ 10 ∷ []) (sym is) ∙ e in
    one_cut 32 a w (b ++ 10 ∷ []) (words (v ∷ ws)) h k whole

-- the only word is all of the bytes
pub only_word : (bytes w : List ℕ) → Spells bytes (w ∷ []) → bytes ≡ w
only_word bytes w e = append_cancel_right bytes w (10 ∷ []) e

pub cut_word : (bytes a b w v : List ℕ) (ws : List (List ℕ)) → Lacks 32 a → IsWord w → bytes ≡ a ++ 32 ∷ b →
    Spells bytes (w ∷ v ∷ ws) → (a ≡ w) × Spells b (v ∷ ws)
cut_word bytes a b w v ws h word is e = cut_off bytes a b w v ws h (word_lacks 32 w refl word) is e

pub cut_number : (bytes a b v : List ℕ) (q : Rational) (ws : List (List ℕ)) → Lacks 32 a → IsFrac q → bytes ≡ a ++ 32 ∷ b →
    Spells bytes (text_of q ∷ v ∷ ws) → (a ≡ text_of q) × Spells b (v ∷ ws)
cut_number bytes a b v q ws h fits is e = cut_off bytes a b (text_of q) v ws h (text_lacks 32 q no_blank fits) is e

-- a first word and a blank in front
pub with_newline : (bytes a b : List ℕ) → bytes ≡ a ++ 32 ∷ b → bytes ++ 10 ∷ [] ≡ a ++ 32 ∷ (b ++ 10 ∷ [])
with_newline bytes a b is = ap (λ s. s ++ 10 ∷ []) is ∙ append_assoc a (32 ∷ b) (10 ∷ [])

pub joined : (bytes a b : List ℕ) (vs : List (List ℕ)) → bytes ≡ a ++ 32 ∷ b → Spells b vs →
    bytes ++ 10 ∷ [] ≡ a ++ 32 ∷ words vs
joined bytes a b vs is e = with_newline bytes a b is ∙ ap (λ s. a ++ 32 ∷ s) e
