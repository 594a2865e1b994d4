use Rattle.std.proofs.Common.{ℕ, ◌<◌}
use Rattle.hc_trace.specs.Splitting.{HasHeaderAt}
use Rattle.hc_trace.proofs.splitting.split_text.Given as goal

abbrev pub invariant-loop-place : goal.invariant-loop-place
invariant-loop-place l = (q : ℕ) → q < l.place → ¬ (HasHeaderAt l.bytes q)
