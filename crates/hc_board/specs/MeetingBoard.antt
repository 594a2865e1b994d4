-- What a board does, in the words of the language: which two processes meet, what they leave of the posts, and how much time
-- passes. `board_laws` proves it of the functions that the calls answer by (`first_meeting`, `fired`, `passing_on`, `moved_post`).
use Rattle.std.specs.Prelude.{◌≡◌, ℕ, ◌<◌, ◌↔◌, map, true, false, List, length, slice_index_or, Some, None}
use Rattle.hc_rational.specs.Words.{Rational, ◌-ℚ◌, ◌<ℚ◌, ◌≤ℚ◌}
use Rattle.hc_term.specs.declared.post.Post.{Post}
use Rattle.hc_term.specs.declared.model.Meeting.{Meeting}
use Rattle.hc_term.specs.Offers.{going_post}
use Rattle.hc_term.specs.Posts.{sent_on, receives_on, first_meeting, least_bound, is_timed, delay_fits, length_of_delay, Passing, NoBound, AtHorizon, Overflows, Took, passing_on}
use Rattle.hc_term.specs.Moved.{moved_post, fired}

-- what process p shows; past the last process nothing is offered
abbrev pub shown : List Post → ℕ → Post
shown ps p = slice_index_or ps p going_post

-- ---- who meets

-- process p is the first that offers to send on channel c, and the value is v
pub record Sends (c : ℕ) (ps : List Post) (p : ℕ) (v : Rational) : Type 0 where
  pub there : p < length ps
  pub offers : sent_on c (shown ps p).offers ≡ Some v
  pub first : (q : ℕ) → q < p → sent_on c (shown ps q).offers ≡ None

-- process p is the first that offers to receive on channel c
pub record Receives (c : ℕ) (ps : List Post) (p : ℕ) : Type 0 where
  pub there : p < length ps
  pub offers : receives_on c (shown ps p).offers ≡ true
  pub first : (q : ℕ) → q < p → receives_on c (shown ps q).offers ≡ false

-- a channel is ready where both its ends are offered
pub record IsReady (c : ℕ) (ps : List Post) : Type 0 where
  pub sender : ℕ
  pub value : Rational
  pub sends : Sends c ps sender value
  pub receiver : ℕ
  pub receives : Receives c ps receiver

-- these two meet: on the ready channel of least number
pub record IsMeeting (channels : ℕ) (ps : List Post) (m : Meeting) : Type 0 where
  pub in_range : m.channel < channels
  pub sends : Sends m.channel ps m.sender m.value
  pub receives : Receives m.channel ps m.receiver
  pub least : (c : ℕ) → c < m.channel → ¬ IsReady c ps

-- ---- how time passes

-- some process waits for time, and the horizon lies ahead
pub record IsAhead (clock horizon : Rational) (ps : List Post) : Type 0 where
  pub timed : is_timed ps ≡ true
  pub below : clock <ℚ horizon

-- the lesser of the least bound and of what is left to the horizon
abbrev pub longest : Rational → Rational → List Post → Rational
longest clock horizon ps = length_of_delay (horizon -ℚ clock) (least_bound ps)

-- nothing waits for time, the horizon is reached, a working value of the longest delay doesn't fit, or it is taken
abbrev pub Passes : Rational → Rational → List Post → Passing → Type 0
Passes clock horizon ps NoBound = is_timed ps ≡ false
Passes clock horizon ps AtHorizon = (is_timed ps ≡ true) × (horizon ≤ℚ clock)
Passes clock horizon ps Overflows = IsAhead clock horizon ps × (delay_fits (longest clock horizon ps) clock ps ≡ false)
Passes clock horizon ps (Took by) =
    IsAhead clock horizon ps × (by ≡ longest clock horizon ps) × (delay_fits by clock ps ≡ true)

-- ---- the board

-- He 1994, and Zhou, Wang, Ravn 1996: communication on a channel joins both its ends, and time passes where none is ready
pub record MeetingBoard (channels : ℕ) (ps : List Post) : Type 0 where
  -- who meets, and that nobody does
  pub meets : (m : Meeting) → (first_meeting channels ps ≡ Some m) ↔ IsMeeting channels ps m
  pub none : (first_meeting channels ps ≡ None) ↔ ((c : ℕ) → c < channels → ¬ IsReady c ps)
  -- after it both are going, so that their other offers are gone, and all others show what they showed
  pub sender : (m : Meeting) → IsMeeting channels ps m → shown (fired m ps) m.sender ≡ going_post
  pub receiver : (m : Meeting) → IsMeeting channels ps m → shown (fired m ps) m.receiver ≡ going_post
  pub others : (m : Meeting) (p : ℕ) → ¬ p ≡ m.sender → ¬ p ≡ m.receiver → shown (fired m ps) p ≡ shown ps p
  -- how time passes, and what each process shows then
  pub passes : (clock horizon : Rational) (how : Passing) → (passing_on clock horizon ps ≡ how) ↔ Passes clock horizon ps how
  pub moves : (by : Rational) (p : ℕ) → p < length ps → shown (map (moved_post by) ps) p ≡ moved_post by (shown ps p)

abbrev pub EachIsMeetingBoard : Type 0
EachIsMeetingBoard = (channels : ℕ) (ps : List Post) → MeetingBoard channels ps
