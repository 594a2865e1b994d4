-- What time does of a pass where the numbers that posts show are fractions.
use Rattle.std.specs.Prelude.{◌≡◌, ℕ, suc, ◌+◌, List, true}
use Rattle.std.specs.List.{list_all}
use Rattle.hc_rational.specs.Words.{Rational}
use Rattle.hc_term.specs.declared.post.Post.{Post}
use Rattle.hc_runs.specs.Fractions.{shows_fractions}
use Rattle.hc_core_c.specs.Twin.{Board64, timed}
use Rattle.hc_core_facts.specs.Standing.{StandsFor}
use Rattle.hc_core_facts.specs.OnePass.{time}
use Rattle.hc_core_facts.specs.TimeDoes.{TimeDoes, OnTime}

-- `OnTime` where all bounds, values and rates that the posts show are fractions; those of the posts afterwards are too.
-- Whether a channel is ready doesn't matter.
abbrev pub OnTimeInFractions : ℕ → ℕ → Type 0
OnTimeInFractions P C = (b : Board64) (ps : List Post) (clock horizon : Rational) (steps limit n : ℕ) →
    StandsFor P C b ps clock horizon steps limit → list_all shows_fractions ps ≡ true → b.stop ≡ 0 → limit ≡ steps + suc n →
    TimeDoes P C b (timed P C b) ps horizon limit (time n clock horizon ps)
    × (list_all shows_fractions (time n clock horizon ps).posts ≡ true)

-- whatever numbers of processes and channels there are
abbrev pub TimeInFractions : Type 0
TimeInFractions = (P C : ℕ) → OnTimeInFractions P C

-- of any posts it is false, already for one process without channels
abbrev pub FractionsAreNeeded : Type 0
FractionsAreNeeded = OnTime 1 0 → ⊥
