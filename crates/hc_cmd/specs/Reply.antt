-- What a call of the program is to leave behind, and what it leaves where a write or a flush fails.
use Rattle.std.specs.Prelude.{◌≡◌, ℕ, List}
use Rattle.hc_world.specs.States.{SinkState}
use Rattle.hc_world.specs.Sinks.{IsWhole, IsCut}

-- the status, and the bytes on output and on error, where no write and no flush fails
pub record Reply : Type 0 where
  pub status : ℕ
  pub out : List ℕ
  pub err : List ℕ

-- what one and the same reply lets stand on output and on error, and the status:
-- 4 before any other where a write or a flush failed, and nothing is written after that
pub data Stands {O E : Type 0} (out_state : O → SinkState) (err_state : E → SinkState) (out out' : O) (err err' : E) (reply : Reply) (status : ℕ) : Type 0 where
  whole : status ≡ reply.status → IsWhole out_state out out' reply.out → IsWhole err_state err err' reply.err →
      Stands out_state err_state out out' err err' reply status
  out_failed : status ≡ 4 → IsCut out_state out out' reply.out → err' ≡ err →
      Stands out_state err_state out out' err err' reply status
  err_failed : status ≡ 4 → IsWhole out_state out out' reply.out → IsCut err_state err err' reply.err →
      Stands out_state err_state out out' err err' reply status
