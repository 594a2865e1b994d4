-- One pass of the core, of its C: what a call of `f_pass` by the owner of the mutex does, where row 64 and the arrays stand for posts, a
-- clock and a number of steps. This project's own.
use Rattle.std.specs.Prelude.{◌≡◌, ◌≢◌, ◌<◌, ◌-◌, ℕ, true, List, [], ◌∷◌, slice_get, ℤ, Some, None, codes}
use Rattle.std.specs.List.{list_all}
use Rattle.hc_rational.specs.Words.{Rational}
use Rattle.hc_term.specs.declared.post.Post.{Post}
use Rattle.hc_term.specs.declared.model.Meeting.{Meeting}
use Rattle.hc_term.specs.Posts.{first_meeting}
use Rattle.hc_runs.specs.Fractions.{shows_fractions}
use Rattle.hc_cast.specs.declared.program.CProgram.{CProgram}
use Rattle.hc_cmach.specs.State.{Word}
use Rattle.hc_clogic.specs.Runs.{Runs}
use Rattle.hc_core_c.specs.Twin.{Board64}
use Rattle.hc_cbuild.specs.Written.{call}
use Rattle.hc_core_c.specs.Owner.{core, Has}
use Rattle.hc_core_c.specs.Cost.{pass_steps}
use Rattle.hc_core_facts.specs.Standing.{StandsFor}
use Rattle.hc_core_facts.specs.OnePass.{passed, is_in, IsPass, OnePass}

-- ---- the pass

-- The posts' numbers are fractions, as registers are. A process that a meeting has ended is going in its post, until its thread posts the end.

-- `f_pass();` comes to its end, in so many steps of its thread at most, and none of them is undefined. The thread owns the mutex there, and its
-- own row and its locals are as they were. What is shared stands for the posts behind the language's pass.
pub record DoesPass (g : CProgram) (t P C : ℕ) (own : List Rational) (names : List Word) (values : List ℤ) (b : Board64) (ps : List Post) (clock horizon : Rational) (steps limit : ℕ) : Type 0 where
  pub behind : Board64
  pub runs : Runs g t (pass_steps P C) (call (codes "f_pass") [] ∷ []) (core own names values b) (core own names values behind)
  pub is : IsPass P C t b behind ps clock horizon steps limit (passed (limit - steps) C clock horizon ps)
  pub fractions : list_all shows_fractions (passed (limit - steps) C clock horizon ps).posts ≡ true

-- in each program that has the core, by each of its threads
abbrev pub OnePassOfC : Type 0
OnePassOfC = (g : CProgram) (t P C : ℕ) → Has g P C → t < P →
    (own : List Rational) (names : List Word) (values : List ℤ) (b : Board64) (ps : List Post) (clock horizon : Rational) (steps limit : ℕ) →
    StandsFor P C b ps clock horizon steps limit → list_all shows_fractions ps ≡ true → b.stop ≡ 0 → b.self ≡ t →
    DoesPass g t P C own names values b ps clock horizon steps limit

-- the same of the plain lists alone
abbrev pub OnePassOfBoards : Type 0
OnePassOfBoards = (P C : ℕ) → OnePass shows_fractions P C

-- ---- who meets

-- qs are the posts ps but for that of process p
abbrev pub Posted : ℕ → List Post → List Post → Type 0
Posted p ps qs = (k : ℕ) → k ≢ p → slice_get qs k ≡ slice_get ps k

-- Where no channel was ready before process p posted, a pass has one meeting at most, and p is in it.
abbrev pub OneMeetingAPost : Type 0
OneMeetingAPost = (n C p : ℕ) (clock horizon : Rational) (ps qs : List Post) → first_meeting C ps ≡ None → Posted p ps qs →
    (k : ℕ) (m : Meeting) → slice_get (passed n C clock horizon qs).meetings k ≡ Some m → (k ≡ 0) × (is_in p m ≡ true)
