-- What the index of a board keeps beside its posts: which processes offer what on which channel, which channels are ready,
-- which processes wait for time, and which want a silent step.
use Rattle.std.specs.Prelude.{◌≡◌, ℕ, ◌<◌, ◌^◌, Bool, true, false, not, ◌&&◌, ◌||◌, ◌==◌, if◌then◌else◌, List, length, slice_index, is_some}
use Rattle.std.specs.List.{list_any}
use Rattle.hc_limits.specs.Limits.{most_processes, most_channels}
use Rattle.hc_term.specs.declared.post.Post.{Post}
use Rattle.hc_term.specs.Posts.{is_empty}
use Rattle.hc_term.specs.Together.{is_offer}
use Rattle.hc_board.specs.declared.index.Index.{Index}
use Rattle.hc_board.specs.declared.deadlines.Deadline.{Deadline}
use Rattle.hc_board.specs.Able.{shows_able}
use Rattle.hc_board.specs.Bits.{has, is_in}
use Rattle.hc_board.specs.Deadlines.{AreDeadlinesOf}
use Rattle.hc_board.specs.MeetingBoard.{shown}
use Rattle.hc_board.specs.Seen.{KeepsLimits}

-- ---- who offers what

-- whether these offers send, or receive, on channel c
abbrev pub offers_on : Bool → ℕ → Post → Bool
offers_on sending c p = list_any (is_offer sending c) p.offers

-- whether some post sends, or receives, on channel c
abbrev pub is_offered : Bool → ℕ → List Post → Bool
is_offered sending c ps = list_any (offers_on sending c) ps

-- whether a post waits for time: it has a bound or evolves
abbrev pub is_waiting : Post → Bool
is_waiting p = is_some p.bound || not (is_empty p.moving)

-- ---- the index

-- the processes that are marked as those that offer to send, or to receive, on channel c
abbrev pub row : Bool → Index → ℕ → ℕ
row true o c = slice_index o.senders c
row false o c = slice_index o.receivers c

abbrev pub is_marked : Bool → Index → ℕ → ℕ → Bool
is_marked sending o c p = has (row sending o c) p

-- a set of no numbers is the word 0
abbrev pub is_filled : ℕ → Bool
is_filled word = not (word == 0)

-- both ends of channel c have a mark
abbrev pub has_both : Index → ℕ → Bool
has_both o c = is_filled (row true o c) && is_filled (row false o c)

-- there is a place for each channel, and the ready channels are those with both ends marked
pub record IsWhole (o : Index) : Type 0 where
  pub senders : length o.senders ≡ most_channels
  pub receivers : length o.receivers ≡ most_channels
  pub bits : (sending : Bool) (c : ℕ) → row sending o c < 2 ^ 64
  pub words : length o.ready ≡ 4
  pub ready : (c : ℕ) → c < most_channels → is_in o.ready c ≡ has_both o c
  pub timed : o.timed < 2 ^ 64

-- the marks of process q are set so on all ends of which f tells, and all other marks stay
pub record IsMarked (f : Bool → ℕ → Bool) (q : ℕ) (mark : Bool) (old new : Index) : Type 0 where
  pub whole : IsWhole new
  pub marks : (sending : Bool) (c p : ℕ) → c < most_channels → p < most_processes →
      is_marked sending new c p ≡ (if (p == q) && f sending c then mark else is_marked sending old c p)
  pub timed : new.timed ≡ old.timed
  pub able : new.able ≡ old.able

-- whether process q waits for time, and whether it wants a silent step, are marked so, and all other marks stay
pub record IsStated (q : ℕ) (waits wants : Bool) (old new : Index) : Type 0 where
  pub whole : IsWhole new
  pub rows : (sending : Bool) (c : ℕ) → row sending new c ≡ row sending old c
  pub timed : (p : ℕ) → p < most_processes → has new.timed p ≡ (if p == q then waits else has old.timed p)
  pub able : (p : ℕ) → p < most_processes → has new.able p ≡ (if p == q then wants else has old.able p)

-- the marks are those of the posts
pub record IsIndexOf (o : Index) (ps : List Post) : Type 0 where
  pub whole : IsWhole o
  pub marks : (sending : Bool) (c p : ℕ) → c < most_channels → p < most_processes →
      is_marked sending o c p ≡ offers_on sending c (shown ps p)
  pub timed : (p : ℕ) → p < most_processes → has o.timed p ≡ is_waiting (shown ps p)
  pub able : (p : ℕ) → p < most_processes → has o.able p ≡ shows_able ps p

-- what every board keeps: the limits, an index of its posts, and their deadlines
pub record IsKept (ps : List Post) (channels : ℕ) (o : Index) (ds : List Deadline) : Type 0 where
  pub limits : KeepsLimits ps channels
  pub index : IsIndexOf o ps
  pub deadlines : AreDeadlinesOf ds ps
