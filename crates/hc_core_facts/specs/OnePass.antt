-- One pass of the core in the words of posts: what it makes of posts, a clock and a number of steps, and what it does to the board. Meetings
-- and delays are those of the language (hc_term/specs/Posts, Moved); a process that a meeting has ended is going in its post, until its
-- thread posts the end.
use Rattle.std.specs.Prelude.{◌≡◌, ◌≢◌, ◌<◌, ◌⊎◌, ℕ, zero, suc, ◌+◌, ◌*◌, ◌-◌, ◌==◌, Bool, true, false, not, ◌&&◌, if◌then◌else◌, List, [], ◌∷◌, ◌++◌, map, count_by, slice_get, slice_index_or, Option, Some, None, is_some}
use Rattle.std.specs.List.{list_all, list_any}
use Rattle.hc_rational.specs.Words.{Rational, ◌+ℚ◌}
use Rattle.hc_term.specs.declared.post.Post.{Post}
use Rattle.hc_term.specs.declared.post.Phase.{Phase}
use Rattle.hc_term.specs.declared.post.Phase.TheVariants as phase
use Rattle.hc_term.specs.declared.model.Meeting.{Meeting}
use Rattle.hc_term.specs.Process.{is_due}
use Rattle.hc_term.specs.Offers.{going_post}
use Rattle.hc_term.specs.Posts.{first_meeting, Passing, NoBound, AtHorizon, Overflows, Took, passing_on}
use Rattle.hc_term.specs.Moved.{moved_post, fired}
use Rattle.hc_cmach.specs.Line.{Line, Delays, Meets, Ends}
use Rattle.hc_core_c.specs.Twin.{Board64, nth, register, variable, pass}
use Rattle.hc_core_facts.specs.Standing.{StandsFor, flag}

-- ---- what posts show

-- a silent step (`wants_in` and `shows_step` of hc_board)
abbrev pub wants_in : Phase → Option Rational → Bool
wants_in phase.Going b = true
wants_in phase.Arrived b = is_due b
wants_in phase.Ended b = false

abbrev pub is_able : Post → Bool
is_able q = wants_in q.phase q.bound

abbrev pub is_ended : Phase → Bool
is_ended phase.Going = false
is_ended phase.Arrived = false
is_ended phase.Ended = true

-- ---- the kinds of stops

abbrev pub at_rest : List Post → ℕ
at_rest ps = if list_all (λ q. is_ended q.phase) ps then 0 else 1

-- the stop where time takes no delay
abbrev pub stop_of : List Post → Passing → Option ℕ
stop_of ps NoBound = Some (at_rest ps)
stop_of ps AtHorizon = Some 2
stop_of ps Overflows = Some 4
stop_of ps (Took by) = None

-- ---- the pass

-- what it comes to: posts, clock, steps left to the limit, the kind of the stop, the lines, and the meetings, the first first
pub record Passed : Type 0 where
  pub posts : List Post
  pub clock : Rational
  pub left : ℕ
  pub stop : Option ℕ
  pub lines : List Line
  pub meetings : List Meeting

abbrev pub stays : Rational → ℕ → Option ℕ → List Post → Passed
stays clock left stop ps = record { posts = ps; clock = clock; left = left; stop = stop; lines = []; meetings = [] }

-- after the delay: the limit, or the stop that holds where no process is able
abbrev pub stop_after : ℕ → Rational → Rational → List Post → Option ℕ
stop_after zero clock horizon ps = Some 3
stop_after (suc n) clock horizon ps = if list_any is_able ps then None else stop_of ps (passing_on clock horizon ps)

-- where suc n steps are left
abbrev pub time_by : ℕ → Rational → Rational → List Post → Passing → Passed
time_by n clock horizon ps (Took by) = record {
  posts = map (moved_post by) ps;
  clock = clock +ℚ by;
  left = n;
  stop = stop_after n (clock +ℚ by) horizon (map (moved_post by) ps);
  lines = Delays clock by ∷ [];
  meetings = [];
}
time_by n clock horizon ps how = stays clock (suc n) (stop_of ps how) ps

abbrev pub time : ℕ → Rational → Rational → List Post → Passed
time n clock horizon ps = if list_any is_able ps then stays clock (suc n) None ps else time_by n clock horizon ps (passing_on clock horizon ps)

abbrev pub line_of : Rational → Meeting → Line
line_of clock m = Meets clock m.channel m.sender m.receiver m.value

abbrev pub after_meeting : Rational → Meeting → Passed → Passed
after_meeting clock m o = record o { lines = line_of clock m ∷ o.lines; meetings = m ∷ o.meetings }

abbrev pub passed_by : (List Post → Passed) → Rational → List Post → Passed → Option Meeting → Passed
passed_by later clock ps last None = last
passed_by later clock ps last (Some m) = after_meeting clock m (later (fired m ps))

-- over so many channels, with so many steps left
abbrev pub passed : ℕ → ℕ → Rational → Rational → List Post → Passed
passed zero C clock horizon ps = stays clock 0 (Some 3) ps
passed (suc n) C clock horizon ps = passed_by (passed n C clock horizon) clock ps (time n clock horizon ps) (first_meeting C ps)

-- ---- what the board says of it

abbrev pub stop_code : Option ℕ → ℕ
stop_code None = 0
stop_code (Some kind) = kind + 1

abbrev pub end_lines : Rational → Option ℕ → List Line
end_lines clock None = []
end_lines clock (Some kind) = Ends kind clock None ∷ []

-- whether process k was arrived without a silent step, or ended (no meeting and no delay changes that), and is able now
abbrev pub became_able : List Post → List Post → ℕ → Bool
became_able ps qs k = not (is_able (slice_index_or ps k going_post)) && is_able (slice_index_or qs k going_post)

-- whether condition k is to be woken, by thread p
abbrev pub is_woken : ℕ → List Post → Passed → ℕ → Bool
is_woken p ps o k = not (k == p) && (if is_some o.stop then true else became_able ps o.posts k)

-- process k sends or receives in one of these meetings
abbrev pub is_in : ℕ → Meeting → Bool
is_in k m = if m.sender == k then true else m.receiver == k

-- ---- the board behind a pass

-- the board c after a pass of thread p from the board b, which stands for these posts, this clock and so many steps
pub record IsPass (P C p : ℕ) (b c : Board64) (ps : List Post) (clock horizon : Rational) (steps limit : ℕ) (o : Passed) : Type 0 where
  pub stands : StandsFor P C c o.posts o.clock horizon (limit - o.left) limit
  pub stop : c.stop ≡ stop_code o.stop
  pub lines : c.lines ≡ b.lines ++ o.lines ++ end_lines o.clock o.stop
  -- each condition of a process, once or not at all, and no other
  pub wakes : (k : ℕ) → k < P → count_by (λ j. j == k) c.wakes ≡ count_by (λ j. j == k) b.wakes + flag (is_woken p ps o k)
  pub no_other : (k : ℕ) → ¬ k < P → count_by (λ j. j == k) c.wakes ≡ count_by (λ j. j == k) b.wakes
  -- what meets
  pub sent : (m : Meeting) (i : ℕ) → slice_get o.meetings i ≡ Some m → nth b.send m.channel ≡ m.sender * 32 + nth c.met m.sender
  pub received : (m : Meeting) (i : ℕ) → slice_get o.meetings i ≡ Some m → nth b.receive m.channel ≡ m.receiver * 32 + nth c.met m.receiver
  pub values : (m : Meeting) (i : ℕ) → slice_get o.meetings i ≡ Some m → register c (variable m.receiver (nth b.into m.channel)) ≡ m.value
  -- what stays
  pub met : (k : ℕ) → k < P → list_any (is_in k) o.meetings ≡ false → nth c.met k ≡ nth b.met k
  pub into : c.into ≡ b.into
  -- a code is gone, with its offer, or as it was
  pub send : (k : ℕ) → (nth c.send k ≡ 0) ⊎ (nth c.send k ≡ nth b.send k)
  pub receive : (k : ℕ) → (nth c.receive k ≡ 0) ⊎ (nth c.receive k ≡ nth b.receive k)
  pub logged : (k : ℕ) → k < P → register c (k * 320 + 65) ≡ register b (k * 320 + 65)
  -- each variable that doesn't move behind the pass and that no meeting sets
  pub variables : (k i : ℕ) → k < P → i < 64 → nth c.moves (k * 64 + i) ≡ 0 →
      ((m : Meeting) (j : ℕ) → slice_get o.meetings j ≡ Some m → m.receiver ≡ k → nth b.into m.channel ≢ i) →
      register c (variable k i) ≡ register b (variable k i)
  pub self : c.self ≡ b.self

-- One pass on plain lists, of posts that all pass a test: beside that the C does the twin this is one pass of the core. It is proved for the test
-- that all numbers which a post shows are fractions; for any posts it is false: a bound, or a value that is offered and doesn't move,
-- is tried by the C where the language tries nothing. The posts afterwards pass the test, too.
abbrev pub OnePass : (Post → Bool) → ℕ → ℕ → Type 0
OnePass test P C = (p : ℕ) (b : Board64) (ps : List Post) (clock horizon : Rational) (steps limit : ℕ) →
    StandsFor P C b ps clock horizon steps limit → list_all test ps ≡ true → b.stop ≡ 0 → b.self ≡ p → p < P →
    IsPass P C p b (pass P C b) ps clock horizon steps limit (passed (limit - steps) C clock horizon ps)
    × (list_all test (passed (limit - steps) C clock horizon ps).posts ≡ true)
