-- The cost of a pass in closed form.
use Rattle.std.specs.Prelude.{◌≡◌, ◌+◌, ◌*◌, ℕ, zero, suc}
use Rattle.std.proofs.Common.{refl, ap, ◌∙◌, arith}
use Rattle.hc_cast.specs.declared.program.CProgram.{CProgram}
use Rattle.hc_clogic.proofs.Runs.{loop_cost}
use Rattle.hc_core_c.specs.Cost.{pass_steps}
use Rattle.hc_core_c.proofs.Meet.{meet_cost, fire_cost}
use Rattle.hc_core_c.proofs.Move.{state_cost, offer_cost, move_cost}
use Rattle.hc_core_c.proofs.Due.{turn_cost, due_cost}
use Rattle.hc_core_c.proofs.Elapse.{elapse_cost}
use Rattle.hc_core_c.proofs.Pass.{pass_cost}

module _ (g : CProgram) (t : ℕ) where
  loop_is : (n m : ℕ) → loop_cost g t n m ≡ 1 + m * (n + 1)
  loop_is n zero = (let one : loop_cost g t n 0 ≡ 1 = refl in omega (arith, one))
  loop_is n (suc m) = (let rest = loop_is n m in omega (arith, rest))

  loop_by : (n k m : ℕ) → n ≡ k → loop_cost g t n m ≡ 1 + m * (k + 1)
  loop_by n k m e = ap (λ i. loop_cost g t i m) e ∙ loop_is k m

  module _ (P C : ℕ) where
    meet_is : (1 + meet_cost g t P C) + 1 ≡ 12 * C + 8 * P + 426
    meet_is = (let o = loop_is 3 P in let m = loop_is 5 C in let f = loop_is 2 64 in omega (arith, o, m, f))

    fire_is : fire_cost g t P C ≡ C * (12 * C + 8 * P + 427) + 3
    fire_is = (let l = loop_by _ _ C meet_is in omega (arith, l))

    state_is : state_cost g t ≡ 652
    state_is = (let l = loop_is 9 64 in omega (arith, l))

    offer_is : (1 + offer_cost g t P) + 1 ≡ 4 * P + 15
    offer_is = (let o = loop_is 3 P in omega (arith, o))

    move_is : move_cost g t P C ≡ C * (4 * P + 16) + P * 653 + 5
    move_is = (let s = loop_by _ _ P state_is in let o = loop_by _ _ C offer_is in omega (arith, s, o))

    turn_is : turn_cost g t C ≡ 6 * C + 11
    turn_is = (let m = loop_is 5 C in omega (arith, m))

    due_is : due_cost g t P C ≡ P * (6 * C + 12) + 3
    due_is = (let l = loop_by _ _ P turn_is in omega (arith, l))

    elapse_is : elapse_cost g t P C ≡ 14 * P * C + 32 * C + 1586 * P + 70
    elapse_is =
        let moves = loop_is 3 (P * 64) in
        let bounds = loop_is 7 P in
        let stands = loop_is 3 P in
        omega (arith, moves, bounds, stands, move_is, due_is)

    pub pass_is : pass_cost g t P C ≡ pass_steps P C
    pass_is =
        let sleeps = loop_is 2 P in
        let asks = loop_is 7 P in
        let wakes = loop_is 3 P in
        omega (arith, sleeps, fire_is, asks, elapse_is, wakes)
