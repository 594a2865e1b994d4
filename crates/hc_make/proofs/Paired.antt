-- One pair more.
use Rattle.std.proofs.Common.{◌≡◌, ◌≤◌, ℕ, zero, suc, ◌+◌, List, ◌++◌, length, sym, ap, ◌∙◌, append_assoc, arith}
use Rattle.rand_pcg.specs.Lcg.{Lcg}
use Rattle.rand_pcg.specs.Pcg.{pcg32}
use Rattle.hc_make.specs.Made.{rate_of, line_end, pair, pairs}

pairs_next : (i left more : ℕ) (g : Lcg) → left ≡ suc more →
    pairs i left g ≡ (pair i (rate_of (pcg32 g).0) ++ line_end more) ++ pairs (i + 1) more (pcg32 g).1
pairs_next i left more g e = ap (λ (n : ℕ). pairs i n g) e

-- what follows a text is the pair, the end of its line, and what follows them
pub one_more : (text last : List ℕ) (i left more : ℕ) (g : Lcg) → left ≡ suc more →
    text ++ (pairs i left g ++ last)
    ≡ ((text ++ pair i (rate_of (pcg32 g).0)) ++ line_end more) ++ (pairs (i + 1) more (pcg32 g).1 ++ last)
one_more text last i left more g e =
    let p = pair i (rate_of (pcg32 g).0) in
    let rest = pairs (i + 1) more (pcg32 g).1 in
    ap (λ (bytes : List ℕ). text ++ (bytes ++ last)) (pairs_next i left more g e)
    ∙ (ap (λ (bytes : List ℕ). text ++ bytes) (append_assoc (p ++ line_end more) rest last)
    ∙ (sym (append_assoc text (p ++ line_end more) (rest ++ last))
    ∙ ap (λ (bytes : List ℕ). bytes ++ (rest ++ last)) (sym (append_assoc text p (line_end more)))))

-- the same, with what was drawn and written
pub written_more : (text drawn_text new last : List ℕ) (i left more word rate : ℕ) (g h : Lcg) → left ≡ suc more → (word, h) ≡ pcg32 g → rate ≡ rate_of word →
    drawn_text ≡ text ++ pair i rate → new ≡ drawn_text ++ line_end more →
    text ++ (pairs i left g ++ last) ≡ new ++ (pairs (i + 1) more h ++ last)
written_more text drawn_text new last i left more word rate g h e drawn is first second =
    let ends : new ≡ (text ++ pair i (rate_of (pcg32 g).0)) ++ line_end more =
    second ∙ ap (λ (bytes : List ℕ). bytes ++ line_end more) (first ∙ ap (λ (n : ℕ). text ++ pair i n) (is ∙ ap (λ (d : ℕ × Lcg). rate_of d.0) drawn)) in
    one_more text last i left more g e
    ∙ (ap (λ (bytes : List ℕ). bytes ++ (pairs (i + 1) more (pcg32 g).1 ++ last)) (sym ends)
    ∙ ap (λ (d : ℕ × Lcg). new ++ (pairs (i + 1) more d.1 ++ last)) (sym drawn))

-- the end of a line is short
pub line_end_short : (more : ℕ) → length (line_end more) ≤ 4
line_end_short zero = omega arith
line_end_short (suc more) = omega arith
