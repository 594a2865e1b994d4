-- A thread's steps without the mutex, by itself: its own part after so many of them.
use Rattle.std.specs.Prelude.{◌≡◌, ℕ, zero, suc, ◌≤◌, Option, Some, None}
use Rattle.std.proofs.Common.{refl, sym, ap, ◌∙◌, arith}
use Rattle.std.proofs.lemmas.Option.{same_Some}
use Rattle.hc_schedule.specs.Solo.{goes_to, then_by, alone}
use Rattle.hc_schedule.specs.Threads.{Code}

no_more : {P : Type 0} → (f : P → Option P) (x : Option P) (q : P) → then_by f x ≡ Some q → (p : P) × (x ≡ Some p) × (f p ≡ Some q)
no_more f None q e = absurd cc
no_more f (Some p) q e = (p, refl, e)

-- one private step more
pub alone_more : {P S L F : Type 0} → (c : Code P S L F) (t j : ℕ) (p q r : P) → alone c t j p ≡ Some q → goes_to (c.turn t q None) ≡ Some r → alone c t (suc j) p ≡ Some r
alone_more {P = P} c t zero p q r e g = ap (then_by (λ (x : P). Some x)) (ap (λ (x : P). goes_to (c.turn t x None)) (same_Some p q e) ∙ g)
alone_more {P = P} c t (suc j) p q r e g =
    let m = no_more (alone c t j) (goes_to (c.turn t p None)) q e in
    ap (then_by (alone c t (suc j))) m.1 ∙ alone_more c t j m.0 q r m.2 g

-- what comes at the end of the private steps comes there alone
pub alone_within : {P S L F : Type 0} → (c : Code P S L F) (t k j : ℕ) (p q r : P) → alone c t j p ≡ Some q → goes_to (c.turn t q None) ≡ None → alone c t k p ≡ Some r → k ≤ j
alone_within c t zero j p q r e g h = omega arith
alone_within {P = P} c t (suc k) zero p q r e g h =
    let m = no_more (alone c t k) (goes_to (c.turn t p None)) r h in
    absurd (let x : ◌≡◌ {A = Option P} None (Some m.0) = sym g ∙ ap (λ (y : P). goes_to (c.turn t y None)) (sym (same_Some p q e)) ∙ m.1 in cc)
alone_within {P = P} c t (suc k) (suc j) p q r e g h =
    let m = no_more (alone c t j) (goes_to (c.turn t p None)) q e in
    let l = no_more (alone c t k) (goes_to (c.turn t p None)) r h in
    let same : l.0 ≡ m.0 = same_Some l.0 m.0 (sym l.1 ∙ m.1) in
    let less : k ≤ j = alone_within c t k j m.0 q r m.2 g (ap (alone c t k) (sym same) ∙ l.2) in
    omega (arith, less)
