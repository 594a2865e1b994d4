-- What time does of a pass, where nothing stopped it so far and no channel is ready: the half of one pass about delays and stops.
use Rattle.std.specs.Prelude.{◌≡◌, ◌<◌, ℕ, suc, ◌+◌, ◌*◌, ◌-◌, Bool, true, if◌then◌else◌, List, ◌++◌, None}
use Rattle.std.specs.List.{list_all}
use Rattle.hc_rational.specs.Words.{Rational}
use Rattle.hc_term.specs.declared.post.Post.{Post}
use Rattle.hc_term.specs.Posts.{first_meeting}
use Rattle.hc_core_c.specs.Twin.{Board64, nth, register, variable, timed}
use Rattle.hc_core_facts.specs.Standing.{StandsFor}
use Rattle.hc_core_facts.specs.OnePass.{Passed, time, stop_code, end_lines, became_able}

-- the board c after `timed` from the board b, which stands for these posts, where o is what time comes to
pub record TimeDoes (P C : ℕ) (b c : Board64) (ps : List Post) (horizon : Rational) (limit : ℕ) (o : Passed) : Type 0 where
  pub stands : StandsFor P C c o.posts o.clock horizon (limit - o.left) limit
  pub stop : c.stop ≡ stop_code o.stop
  pub lines : c.lines ≡ b.lines ++ o.lines ++ end_lines o.clock o.stop
  -- exactly those that became able are woken besides
  pub woke : (k : ℕ) → k < P → nth c.woke k ≡ (if became_able ps o.posts k then 1 else nth b.woke k)
  -- what stays
  pub wakes : c.wakes ≡ b.wakes
  pub met : c.met ≡ b.met
  pub into : c.into ≡ b.into
  pub self : c.self ≡ b.self
  pub logged : (k : ℕ) → k < P → register c (k * 320 + 65) ≡ register b (k * 320 + 65)
  pub variables : (k i : ℕ) → k < P → i < 64 → nth b.moves (k * 64 + i) ≡ 0 → register c (variable k i) ≡ register b (variable k i)

-- The statement, with suc n steps left, of posts that all pass a test; those afterwards pass it, too. It is proved for the test that all
-- numbers which a post shows are fractions.
abbrev pub OnTimeWhere : (Post → Bool) → ℕ → ℕ → Type 0
OnTimeWhere test P C = (b : Board64) (ps : List Post) (clock horizon : Rational) (steps limit n : ℕ) →
    StandsFor P C b ps clock horizon steps limit → list_all test ps ≡ true → b.stop ≡ 0 → limit ≡ steps + suc n → first_meeting C ps ≡ None →
    TimeDoes P C b (timed P C b) ps horizon limit (time n clock horizon ps) × (list_all test (time n clock horizon ps).posts ≡ true)

-- of any posts, which is false (hc_core_time shows it by two numbers that don't fit)
abbrev pub OnTime : ℕ → ℕ → Type 0
OnTime P C = (b : Board64) (ps : List Post) (clock horizon : Rational) (steps limit n : ℕ) →
    StandsFor P C b ps clock horizon steps limit → b.stop ≡ 0 → limit ≡ steps + suc n → first_meeting C ps ≡ None →
    TimeDoes P C b (timed P C b) ps horizon limit (time n clock horizon ps)
