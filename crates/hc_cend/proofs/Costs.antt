-- The machine steps of the end moment are at most quadratic in the nodes of the domain.
use Rattle.std.specs.Prelude.{◌≡◌, ◌≤◌, ℕ, ◌+◌, ◌*◌}
use Rattle.std.proofs.Common.{arith}
use Rattle.std.proofs.lemmas.Nat.{mul-le}
use Rattle.hc_cend.specs.Ending.{candidate_cost, end_cost}
use Rattle.hc_cvalue.specs.Laws.{steps_for}
use Rattle.hc_cend.specs.Law.{enough_for}

candidate_is : (n k : ℕ) → candidate_cost n k ≡ 18 * n + 2 * k + 35
candidate_is n k = omega arith

-- for n comparisons and a tree of k steps, in a domain of so many nodes
pub cost_bound : (n k nodes : ℕ) → n ≤ nodes → k ≤ 3 * nodes → end_cost (steps_for nodes) n k ≤ enough_for nodes
cost_bound n k nodes few short =
    let one : candidate_cost n k + 1 ≤ 24 * nodes + 36 = omega (arith, candidate_is n k, few, short) in
    let search : (n + 1) * (candidate_cost n k + 1) ≤ (nodes + 1) * (24 * nodes + 36) =
    mul-le (n + 1) (candidate_cost n k + 1) (nodes + 1) (24 * nodes + 36) (omega (arith, few)) one in
    let side = steps_for nodes in
    let lines : n * (2 * side + 14) ≤ nodes * (2 * side + 14) = mul-le n (2 * side + 14) nodes (2 * side + 14) few (omega arith) in
    let parts : end_cost side n k ≡ n * (2 * side + 14) + (n + 1) * (candidate_cost n k + 1) + 17 = omega arith in
    omega (arith, parts, search, lines)

-- more nodes need no fewer steps
pub enough_grows : (n m : ℕ) → n ≤ m → enough_for n ≤ enough_for m
enough_grows n m le =
    let lines = mul-le n (2 * steps_for n + 14) m (2 * steps_for m + 14) le (omega (arith, le)) in
    let search = mul-le (n + 1) (24 * n + 36) (m + 1) (24 * m + 36) (omega (arith, le)) (omega (arith, le)) in
    omega (arith, lines, search)

-- what private code counts with, for a system of size z
pub enough_is_small : (n z : ℕ) → n ≤ z → 20 ≤ z → enough_for n ≤ 40 * (z * z)
enough_is_small n z le large =
    let grown = enough_grows n z le in
    let room : 20 * z ≤ z * z = mul-le 20 z z z large (omega arith) in
    omega (arith, grown, room, large)
