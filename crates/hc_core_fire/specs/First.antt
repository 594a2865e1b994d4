-- The state in which a run of the C begins: a board of zeros, but for the clock, the horizon, the limit and the steps. This project's own.
use Rattle.std.specs.Prelude.{◌≡◌, ◌<◌, ◌≤◌, ◌*◌, ◌^◌, ℕ, List, replicate}
use Rattle.hc_rational.specs.Words.{Rational, ◌≤ℚ◌}
use Rattle.hc_term.specs.declared.post.Post.{Post}
use Rattle.hc_term.specs.Offers.{going_post}
use Rattle.hc_core_c.specs.Twin.{Board64, nth, register}
use Rattle.hc_core_facts.specs.Standing.{StandsFor, HasPlaces}

abbrev pub all_going : ℕ → List Post
all_going P = replicate P going_post

-- nothing else is set
pub record IsFirst (P C : ℕ) (b : Board64) : Type 0 where
  pub places : HasPlaces P C b
  pub phase : (k : ℕ) → k < P → nth b.phase k ≡ 0
  pub bounded : (k : ℕ) → k < P → nth b.bounded k ≡ 0
  pub moves : (a : ℕ) → a < P * 64 → nth b.moves a ≡ 0
  pub send : (c : ℕ) → c < C → nth b.send c ≡ 0
  pub receive : (c : ℕ) → c < C → nth b.receive c ≡ 0
  pub into : (c : ℕ) → nth b.into c < 64

-- such a board stands for processes that are all going
abbrev pub BoardsAtFirst : Type 0
BoardsAtFirst = (P C : ℕ) (b : Board64) (horizon : Rational) → IsFirst P C b → P ≤ 64 → register b 67 ≡ horizon → register b 64 ≤ℚ horizon → b.steps ≤ b.limit →
    b.limit < 2 ^ 31 → StandsFor P C b (all_going P) (register b 64) horizon b.steps b.limit
