-- How many machine steps a stretch of private code takes at most, in closed words.
use Rattle.std.specs.Prelude.{◌≡◌, ◌≤◌, ◌*◌, ℕ, zero, suc, ◌+◌}
use Rattle.std.proofs.Common.{arith}
use Rattle.std.proofs.Math.Nat.{mul-le-mul_left}
use Rattle.hc_cstep.specs.Law.{cost}
use Rattle.hc_cstep.specs.Premises.{steps_of, case_steps}
use Rattle.hc_cstep.specs.Laws.{StretchesAreQuick}
pub use Rattle.hc_cstep.specs.Laws.{AreSmall}

-- so many rounds and one more
pub cost_is : (n m : ℕ) → cost n m ≡ (m + 1) * (n + 1) + 1
cost_is n zero = omega arith
cost_is n (suc m) = let h = cost_is n m in omega (arith, h)

pub steps_are : (n l : ℕ) → steps_of n l ≡ l * (n + 1)
steps_are n zero = omega arith
steps_are n (suc l) = let h = steps_are n l in omega (arith, h)

pub case_is : (most n late : ℕ) → case_steps most n late ≡ most * (n + 3) + n + late + 16
case_is most n late = let h = steps_are (n + 2) most in omega (arith, h)

-- ---- within a tenth of the bound of a system of size z, for each silent step

product_within : (a b x y : ℕ) → a ≤ x → b ≤ y → a * b ≤ x * y
product_within a b x y less few =
    let first : a * b ≤ a * y = mul-le-mul_left a few in
    let second : y * a ≤ y * x = mul-le-mul_left y less in
    omega (arith, first, second)

-- a round
pub round_within : (z most n late : ℕ) → AreSmall z most n late → case_steps most n late + 4 ≤ 100 * (z * z)
round_within z most n late h =
    let size = h.size in
    let values = h.values in
    let ends = h.ends in
    let many : most * (n + 3) ≤ 96 * (8 * z + 3) = product_within most (n + 3) 96 (8 * z + 3) h.blocks (omega (arith, values)) in
    let square : z * 20 ≤ z * z = mul-le-mul_left z size in
    let is = case_is most n late in
    omega (arith, many, square, size, values, ends, is)

-- a stretch of private code with so many silent steps at most
pub stretch_within : StretchesAreQuick
stretch_within z most n late m h =
    let round = round_within z most n late h in
    let is = cost_is (case_steps most n late + 3) m in
    let all : (m + 1) * (case_steps most n late + 4) ≤ (m + 1) * (100 * (z * z)) = mul-le-mul_left (m + 1) round in
    omega (arith, is, all)
