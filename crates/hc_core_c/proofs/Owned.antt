-- The process of a code: it is one of the processes, and the code is one of its.
use Rattle.std.specs.Prelude.{◌≡◌, ◌<◌, ◌≤◌, ◌+◌, ◌*◌, ◌-◌, ℕ, max, Bool, true, false, if◌then◌else◌, nat_lt}
use Rattle.std.proofs.Common.{refl, arith}
use Rattle.std.proofs.lemmas.Bool.{ltb-true, ltb-false}
use Rattle.hc_cbuild.specs.Written.{less, above_zero}
use Rattle.hc_core_c.specs.Twin.{rounds, owner, owner_step}
use Rattle.hc_core_c.proofs.Base.{kept_fits}

-- behind n rounds
record Owns (x n q : ℕ) : Type 0 where
  low : q < max n 1
  under : q * 32 ≤ x
  over : x ≤ n * 32 → x ≤ q * 32 + 32

owns_by : (x n q : ℕ) (is : Bool) → nat_lt (n * 32) x ≡ is → Owns x n q → Owns x (n + 1) (if is then n else q)
owns_by x n q true e h = (let less = ltb-true (n * 32) x e in record { low = omega arith; under = omega (arith, less); over = λ l. omega (arith, l) })
owns_by x n q false e h =
    let more = ltb-false (n * 32) x e in
    let low = h.low in
    record { low = omega (arith, low); under = h.under; over = λ l. h.over (omega (arith, more)) }

-- what is known of the process q of a code
pub record OwnerOf (P x q : ℕ) : Type 0 where
  pub low : q < P
  pub under : q * 32 ≤ x
  pub over : x ≤ q * 32 + 32

pub owner_of : (P x : ℕ) → 1 ≤ P → x ≤ P * 32 → OwnerOf P x (owner P x)
owner_of P x above_zero code =
    let h = kept_fits (owner_step x) (Owns x) P 0 (record { low = omega arith; under = omega arith; over = λ l. omega (arith, l) }) (λ n q low k. owns_by x n q _ refl k) P (omega arith) in
    let low = h.low in
    record { low = omega (arith, low, above_zero); under = h.under; over = h.over code }
