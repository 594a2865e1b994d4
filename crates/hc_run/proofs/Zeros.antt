-- The first of many zeros.
use Rattle.std.proofs.Common.{◌≡◌, ◌≤◌, ℕ, take, replicate}
use Rattle.std.proofs.lemmas.List.{take-replicate}

pub first_zeros : (n : ℕ) → n ≤ 64 → take {A = ℕ} n (replicate 64 0) ≡ replicate n 0
first_zeros n few = take-replicate n 64 0 few
