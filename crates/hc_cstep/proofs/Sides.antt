-- The numbers of choices at which a side is taken.
use Rattle.std.specs.Prelude.{◌≡◌, ℕ, zero, suc, Bool, true, false, not, nat_le, if◌then◌else◌, List, ◌∷◌, length, IfOk, Result, Ok, Err}
use Rattle.std.proofs.Common.{refl, sym, ap, ◌∙◌}
use Rattle.std.specs.declared.alloc.AllocError.{AllocError}
use Rattle.hc_cast.specs.declared.stmt.CStmt.{CStmt}
use Rattle.hc_cstep.specs.Choosing.{among, on_side, numbers_of, takes_side, side_by, side_of}

among_by : (x : Bool) (n : ℕ) (ms ns : List ℕ) → ms ≡ ns → (if x then n ∷ ms else ms) ≡ (if x then n ∷ ns else ns)
among_by true n ms ns h = ap (λ (l : List ℕ). n ∷ l) h
among_by false n ms ns h = h

pub same_left : (f : ℕ → Bool) (n : ℕ) → among (on_side f true) n ≡ among f n
same_left f zero = refl
same_left f (suc n) = among_by (f n) n (among (on_side f true) n) (among f n) (same_left f n)

pub same_right : (f : ℕ → Bool) (n : ℕ) → among (on_side f false) n ≡ among (λ k. not (f k)) n
same_right f zero = refl
same_right f (suc n) = among_by (not (f n)) n (among (on_side f false) n) (among (λ k. not (f k)) n) (same_right f n)

-- few numbers of the left side
pub left_side : (f : ℕ → Bool) (left right : ℕ) (ns : List ℕ) (r : Result CStmt AllocError) → ns ≡ numbers_of f true → nat_le (length ns) 32 ≡ true →
    IfOk r (λ (s : CStmt). s ≡ takes_side ns left right) → IfOk r (λ (s : CStmt). s ≡ side_of f left right)
unfolding numbers_of side_of
left_side f left right ns (Ok s) h k i =
    let same : ns ≡ among f 64 = h ∙ same_left f 64 in
    let few : nat_le (length (among f 64)) 32 ≡ true = ap (λ (l : List ℕ). nat_le (length l) 32) (sym same) ∙ k in
    i ∙ ap (λ (l : List ℕ). takes_side l left right) same ∙ ap (λ (x : Bool). side_by f x left right) (sym few)
left_side f left right ns (Err e) h k i = tt

-- fewer of the right side
pub right_side : (f : ℕ → Bool) (left right : ℕ) (ns ms : List ℕ) (r : Result CStmt AllocError) → ns ≡ numbers_of f true → nat_le (length ns) 32 ≡ false →
    ms ≡ numbers_of f false → IfOk r (λ (s : CStmt). s ≡ takes_side ms right left) → IfOk r (λ (s : CStmt). s ≡ side_of f left right)
unfolding numbers_of side_of
right_side f left right ns ms (Ok s) h k j i =
    let same : ns ≡ among f 64 = h ∙ same_left f 64 in
    let few : nat_le (length (among f 64)) 32 ≡ false = ap (λ (l : List ℕ). nat_le (length l) 32) (sym same) ∙ k in
    i ∙ ap (λ (l : List ℕ). takes_side l right left) (j ∙ same_right f 64) ∙ ap (λ (x : Bool). side_by f x left right) (sym few)
right_side f left right ns ms (Err e) h k j i = tt
