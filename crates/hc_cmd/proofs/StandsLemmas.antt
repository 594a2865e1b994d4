-- What follows from what stands: when the status is 4, and that all stands where nothing failed.
use Rattle.std.proofs.Common.{◌≡◌, ◌≢◌, ℕ, [], ◌⊎◌, inl, inr, sym, ◌∙◌}
use Rattle.hc_world.specs.Counts.{Rose}
use Rattle.hc_world.specs.Sinks.{IsWhole}
use Rattle.hc_world.specs.States.{SinkState}
use Rattle.hc_cmd.specs.Reply.{Reply, Stands, whole, out_failed, err_failed}

-- status 4 comes only where a count rose, for a reply that has another status
pub rose_at_4 : {O E : Type 0} {out_state : O → SinkState} {err_state : E → SinkState}
    {out out' : O} {err err' : E} {reply : Reply} {status : ℕ}
    → Stands out_state err_state out out' err err' reply status
    → reply.status ≢ 4 → status ≡ 4
    → Rose (out_state out).faults (out_state out').faults ⊎ Rose (err_state err).faults (err_state err').faults
rose_at_4 (whole is_status on_out on_err) other is_4 = absurd (other (sym is_status ∙ is_4))
rose_at_4 (out_failed is_status on_out on_err) other is_4 = inl on_out.rose
rose_at_4 (err_failed is_status on_out on_err) other is_4 = inr on_err.rose

-- where no count rose, the status is the reply's, and both texts stand whole
pub whole_without_fault : {O E : Type 0} {out_state : O → SinkState} {err_state : E → SinkState}
    {out out' : O} {err err' : E} {reply : Reply} {status : ℕ}
    → Stands out_state err_state out out' err err' reply status
    → (Rose (out_state out).faults (out_state out').faults → ⊥)
    → (Rose (err_state err).faults (err_state err').faults → ⊥)
    → (status ≡ reply.status) × IsWhole out_state out out' reply.out
    × IsWhole err_state err err' reply.err
whole_without_fault (whole is_status on_out on_err) no_out no_err = (is_status, on_out, on_err)
whole_without_fault (out_failed is_status on_out on_err) no_out no_err = absurd (no_out on_out.rose)
whole_without_fault (err_failed is_status on_out on_err) no_out no_err = absurd (no_err on_err.rose)

-- at a status other than 4 both counts are as before
pub counts_kept : {O E : Type 0} {out_state : O → SinkState} {err_state : E → SinkState}
    {out out' : O} {err err' : E} {reply : Reply} {status : ℕ}
    → Stands out_state err_state out out' err err' reply status
    → status ≢ 4 → ((out_state out').faults ≡ (out_state out).faults) × ((err_state err').faults ≡ (err_state err).faults)
counts_kept (whole is_status on_out on_err) other = (on_out.kept, on_err.kept)
counts_kept (out_failed is_status on_out on_err) other = absurd (other is_status)
counts_kept (err_failed is_status on_out on_err) other = absurd (other is_status)

-- what is on output, where the reply has nothing for it and its status isn't 4
pub no_output : {O E : Type 0} {out_state : O → SinkState} {err_state : E → SinkState}
    {out out' : O} {err err' : E} {reply : Reply} {status : ℕ}
    → Stands out_state err_state out out' err err' reply status
    → status ≢ 4 → (status ≡ reply.status → reply.out ≡ []) → out' ≡ out
no_output (whole is_status on_out on_err) other nothing = on_out.untouched (nothing is_status)
no_output (out_failed is_status on_out on_err) other nothing = absurd (other is_status)
no_output (err_failed is_status on_out on_err) other nothing = absurd (other is_status)
