-- What the words and the source give, in any call of the program: over its requests, and over what may be answered to them.
use Rattle.std.specs.Prelude.{◌≡◌, ◌≤◌, ◌⊎◌, ℕ, Bool, true, false, List, [], length}
use Rattle.hc_world.specs.Counts.{Rose}
use Rattle.hc_world.specs.Reading.{ReadsAll, ReadsPast, ReadsWithin}
use Rattle.hc_world.specs.Sinks.{IsWhole}
use Rattle.hc_world.specs.States.{SourceState, SinkState}
use Rattle.hc_cmd.specs.declared.refusal.Refusal.TheVariants.{Usage, Unread, Memory, TooLong}
use Rattle.hc_cmd.specs.Reply.{Reply}
use Rattle.hc_cmd.specs.Refusals.{refused}

-- a call: which request the words ask for; whether a request reads the source, and how many bytes at most;
-- and what may be answered to the text that was read, the empty one where none is
pub record Call (R : Type 0) : Type 1 where
  pub asks : List (List ℕ) → R → Type 0
  pub reads : R → Bool
  pub most_of : R → ℕ
  pub answers : R → List ℕ → Reply → Type 0

-- the words ask for nothing that there is
abbrev pub AsksNothing : {R : Type 0} → Call R → List (List ℕ) → Type 0
AsksNothing {R} call words = (request : R) → call.asks words request → ⊥

-- The reply to a request, `before` and `after` being the source: a text within the limit that was read to its end is answered,
-- a longer one refused.
pub data IsReplyTo {R S : Type 0} (call : Call R) (state : S → SourceState) (request : R) (before after : S) (reply : Reply) : Type 0 where
  without_source : call.reads request ≡ false → after ≡ before → call.answers request [] reply →
      IsReplyTo call state request before after reply
  answered : call.reads request ≡ true → (text : List ℕ) → ReadsAll (state before).left (state after).left text →
      length text ≤ call.most_of request → call.answers request text reply → IsReplyTo call state request before after reply
  too_long : call.reads request ≡ true → ReadsPast (state before).left (state after).left (call.most_of request) →
      reply ≡ refused (TooLong (call.most_of request)) → IsReplyTo call state request before after reply

-- What the words and the source give, where no write and no flush fails.
pub data Replies {R S : Type 0} (call : Call R) (state : S → SourceState) (words : List (List ℕ)) (before after : S) (reply : Reply) : Type 0 where
  usage : AsksNothing call words → after ≡ before → reply ≡ refused Usage → Replies call state words before after reply
  no_memory : (state after).faults ≡ (state before).faults → reply ≡ refused Memory → Replies call state words before after reply
  unread : (request : R) → call.asks words request → call.reads request ≡ true →
      ReadsWithin (state before).left (state after).left (call.most_of request) → Rose (state before).faults (state after).faults →
      reply ≡ refused Unread → Replies call state words before after reply
  replied : (request : R) → call.asks words request → (state after).faults ≡ (state before).faults →
      IsReplyTo call state request before after reply → Replies call state words before after reply

-- Where the words ask for something and no count of faults rises, the reply to it stands whole with its status,
-- or there is want of memory.
abbrev pub IsComplete : {R S O E : Type 0} → Call R → (S → SourceState) → (O → SinkState) → (E → SinkState) →
    List (List ℕ) → S → S → O → O → E → E → ℕ → Type 0
IsComplete {R} call source_state out_state err_state words source source' out out' err err' status =
    (request : R) → call.asks words request →
    (Rose (source_state source).faults (source_state source').faults → ⊥) →
    (Rose (out_state out).faults (out_state out').faults → ⊥) →
    (Rose (err_state err).faults (err_state err').faults → ⊥) →
    (status ≡ 5) ⊎ ((reply : Reply) × IsReplyTo call source_state request source source' reply × (status ≡ reply.status)
    × IsWhole out_state out out' reply.out × IsWhole err_state err err' reply.err)
