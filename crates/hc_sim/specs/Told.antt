-- What is told of a run while it goes on.
use Rattle.std.specs.Prelude.{◌≡◌, ◌++◌, ◌⊎◌, ℕ, List, [], Option, Some, None, Bool, true, Result, MatchResult}
use Rattle.hc_term.specs.declared.task.Task.{Task}
use Rattle.hc_term.specs.declared.run.Item.{Item}
use Rattle.hc_term.specs.declared.run.Stop.{Stop}
use Rattle.hc_term.specs.Canonical.{canonical}
use Rattle.hc_term.specs.TraceText.{lines, text, whole}
use Rattle.hc_world.specs.States.{SinkState}
use Rattle.hc_world.specs.Pieces.{IsBegun, PutsPiece}
use Rattle.hc_joint.specs.Seen.{Seen}
use Rattle.hc_joint.specs.Keeps.{opened, Keeps, GoesForward, HasTurn}

-- the whole text of the task's canonical run with its stop
abbrev pub canonical_text : Task → List ℕ
canonical_text t = let run = canonical t in whole t.system run.items run.end.clock run.stop

-- the whole text of the joint's history with its stop, where one stands
abbrev pub text_at : Option Stop → Seen → List ℕ
text_at None s = []
text_at (Some stop) s = whole s.task.system s.history s.clock stop

abbrev pub history_text : Seen → List ℕ
history_text s = text_at s.stop s

-- the canonical run begins with the joint's history
abbrev pub BeginsCanonical : Seen → Type 0
BeginsCanonical s = (rest : List Item) × ((canonical s.task).items ≡ s.history ++ rest)

-- The text of the history but for the last turn stands on the sink, if there was a turn; it is flushed no more than before.
pub record IsToldUpTo {O : Type 0} (state : O → SinkState) (before : O) (s : Seen) : Type 0 where
  pub old : Seen
  pub last : HasTurn old s
  pub sink : O
  pub stands : IsBegun state before sink (text s.task.system old.history)

-- Where the writing fails, the history is a beginning of the canonical run; and all its lines but those of the last turn stand.
pub record IsCutShort {O : Type 0} (state : O → SinkState) (before : O) (s : Seen) : Type 0 where
  pub begins : BeginsCanonical s
  pub told : (s ≡ opened s.task) ⊎ IsToldUpTo state before s

-- ---- one turn

-- One turn, if no stop stands, and the lines of its visible steps; at a fault the turn is taken, and a first part of
-- its lines stands.
pub record TellsTurn {O E : Type 0} (state : O → SinkState) (before after : O) (old new : Seen) (result : Result Bool E) : Type 0 where
  pub more : List Item
  pub history : new.history ≡ old.history ++ more
  pub kept : Keeps old
  pub keeps : Keeps new
  pub goes : MatchResult result (GoesForward old.stop old new) (λ _. GoesForward old.stop old new true)
  pub puts : PutsPiece state before after result (lines old.task.system more)
