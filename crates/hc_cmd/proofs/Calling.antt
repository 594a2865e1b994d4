-- What follows from what the words and the source give, in any call whose answers are answers.
use Rattle.std.proofs.Common.{◌≡◌, ◌≢◌, ℕ, false, List, [], ◌⊎◌, inl, inr, refl, sym, ap, subst, ◌∙◌}
use Rattle.hc_world.specs.Counts.{Rose}
use Rattle.hc_world.specs.Sinks.{IsWhole}
use Rattle.hc_world.specs.States.{SourceState, SinkState}
use Rattle.hc_cmd.specs.Reply.{Reply, Stands, whole, out_failed, err_failed}
use Rattle.hc_cmd.specs.Calls.{Call, AsksNothing, IsReplyTo, without_source, answered, too_long, Replies, usage, no_memory, unread, replied, IsComplete}
use Rattle.hc_cmd.proofs.Statuses.{is_done, IsAnswer, refuses, not_other, nothing_out}
use Rattle.hc_cmd.proofs.StandsLemmas.{counts_kept, no_output, rose_at_4, whole_without_fault}

-- words ask for one thing at most, and what is answered is an answer
pub record IsWell {R : Type 0} (call : Call R) : Type 0 where
  pub one : (words : List (List ℕ)) (r s : R) → call.asks words r → call.asks words s → r ≡ s
  pub answer : (request : R) (text : List ℕ) (reply : Reply) → call.answers request text reply → IsAnswer reply

status_is : (reply same : Reply) (k : ℕ) → reply ≡ same → reply.status ≡ k → same.status ≡ k
status_is reply same k e h = sym (ap (λ (r : Reply). r.status) e) ∙ h

out_is : (reply same : Reply) → reply ≡ same → reply.out ≡ same.out
out_is reply same e = ap (λ (r : Reply). r.out) e

module _ {R S : Type 0} (call : Call R) (well : IsWell call) (state : S → SourceState) (words : List (List ℕ)) (before after : S) where
  -- the reply to a request is an answer
  reply_answers : (request : R) (reply : Reply) → IsReplyTo call state request before after reply → IsAnswer reply
  reply_answers request reply (without_source not_read same a) = well.answer request _ reply a
  reply_answers request reply (answered read text all fits a) = well.answer request text reply a
  reply_answers request reply (too_long read past e) = subst IsAnswer (sym e) (refuses refl refl)

  -- a reply of status 2 says that the words ask for nothing, and that nothing was read
  pub two_tells : (reply : Reply) → Replies call state words before after reply → reply.status ≡ 2 → AsksNothing call words × (after ≡ before)
  two_tells reply (usage none same e) h = (none, same)
  two_tells reply (no_memory kept e) h = cc (status_is reply _ 2 e h)
  two_tells reply (unread request asked read within rose e) h = cc (status_is reply _ 2 e h)
  two_tells reply (replied request asked kept is) h = absurd (not_other reply 2 refl refl (reply_answers request reply is) h)

  -- a reply of status 3 says that a read failed
  pub three_tells : (reply : Reply) → Replies call state words before after reply → reply.status ≡ 3 → Rose (state before).faults (state after).faults
  three_tells reply (usage none same e) h = cc (status_is reply _ 3 e h)
  three_tells reply (no_memory kept e) h = cc (status_is reply _ 3 e h)
  three_tells reply (unread request asked read within rose e) h = rose
  three_tells reply (replied request asked kept is) h = absurd (not_other reply 3 refl refl (reply_answers request reply is) h)

  -- no reply has status 4
  never_four : (reply : Reply) → Replies call state words before after reply → reply.status ≢ 4
  never_four reply (usage none same e) h = cc (status_is reply _ 4 e h)
  never_four reply (no_memory kept e) h = cc (status_is reply _ 4 e h)
  never_four reply (unread request asked read within rose e) h = cc (status_is reply _ 4 e h)
  never_four reply (replied request asked kept is) h = not_other reply 4 refl refl (reply_answers request reply is) h

  -- a reply of a status with which nothing is done has nothing for output
  pub nothing_for_out : (k : ℕ) → is_done k ≡ false → (reply : Reply) → Replies call state words before after reply → reply.status ≡ k → reply.out ≡ []
  nothing_for_out k not_done reply (usage none same e) h = out_is reply _ e
  nothing_for_out k not_done reply (no_memory kept e) h = out_is reply _ e
  nothing_for_out k not_done reply (unread request asked read within rose e) h = out_is reply _ e
  nothing_for_out k not_done reply (replied request asked kept is) h = nothing_out reply k not_done (reply_answers request reply is) h

  -- where the words ask for nothing there is no reply but that, or want of memory
  pub nothing_gives : (reply : Reply) → Replies call state words before after reply → AsksNothing call words → (reply.status ≡ 2) ⊎ (reply.status ≡ 5)
  nothing_gives reply (usage none same e) nothing = inl (ap (λ (r : Reply). r.status) e)
  nothing_gives reply (no_memory kept e) nothing = inr (ap (λ (r : Reply). r.status) e)
  nothing_gives reply (unread request asked read within rose e) nothing = absurd (nothing request asked)
  nothing_gives reply (replied request asked kept is) nothing = absurd (nothing request asked)

  -- where the words ask and the source doesn't fail, the reply is that to the request, or there is want of memory
  request_gives : (request : R) (reply : Reply) → Replies call state words before after reply → call.asks words request →
      (Rose (state before).faults (state after).faults → ⊥) → (reply.status ≡ 5) ⊎ IsReplyTo call state request before after reply
  request_gives request reply (usage none same e) asked fine = absurd (none request asked)
  request_gives request reply (no_memory kept e) asked fine = inl (ap (λ (r : Reply). r.status) e)
  request_gives request reply (unread other again read within rose e) asked fine = absurd (fine rose)
  request_gives request reply (replied other again kept is) asked fine =
      inr (subst (λ (r : R). IsReplyTo call state r before after reply) (well.one words other request again asked) is)

module _ {R S O E : Type 0} (call : Call R) (well : IsWell call) (source_state : S → SourceState) (out_state : O → SinkState) (err_state : E → SinkState)
    (words : List (List ℕ)) (source source' : S) (out out' : O) (err err' : E) (status : ℕ) where
  usage_told : (reply : Reply) → Replies call source_state words source source' reply →
      Stands out_state err_state out out' err err' reply status → status ≡ 2 → AsksNothing call words × (source' ≡ source)
  usage_told reply replies (whole e o r) h = two_tells call well source_state words source source' reply replies (sym e ∙ h)
  usage_told reply replies (out_failed e o r) h = cc (sym e ∙ h)
  usage_told reply replies (err_failed e o r) h = cc (sym e ∙ h)

  fault_told : (reply : Reply) → Replies call source_state words source source' reply →
      Stands out_state err_state out out' err err' reply status → status ≡ 3 → Rose (source_state source).faults (source_state source').faults
  fault_told reply replies (whole e o r) h = three_tells call well source_state words source source' reply replies (sym e ∙ h)
  fault_told reply replies (out_failed e o r) h = cc (sym e ∙ h)
  fault_told reply replies (err_failed e o r) h = cc (sym e ∙ h)

  of_nothing : (reply : Reply) → status ≡ reply.status → (reply.status ≡ 2) ⊎ (reply.status ≡ 5) → (status ≡ 2) ⊎ (status ≡ 4) ⊎ (status ≡ 5)
  of_nothing reply e (inl h) = inl (e ∙ h)
  of_nothing reply e (inr h) = inr (inr (e ∙ h))

  nothing_told : (reply : Reply) → Replies call source_state words source source' reply →
      Stands out_state err_state out out' err err' reply status → AsksNothing call words → (status ≡ 2) ⊎ (status ≡ 4) ⊎ (status ≡ 5)
  nothing_told reply replies (whole e o r) nothing = of_nothing reply e (nothing_gives call well source_state words source source' reply replies nothing)
  nothing_told reply replies (out_failed e o r) nothing = inr (inl e)
  nothing_told reply replies (err_failed e o r) nothing = inr (inl e)

  finished : (request : R) (reply : Reply) → (reply.status ≡ 5) ⊎ IsReplyTo call source_state request source source' reply →
      (status ≡ reply.status) × IsWhole out_state out out' reply.out × IsWhole err_state err err' reply.err →
      (status ≡ 5) ⊎ ((reply : Reply) × IsReplyTo call source_state request source source' reply × (status ≡ reply.status)
      × IsWhole out_state out out' reply.out × IsWhole err_state err err' reply.err)
  finished request reply (inl e) h = inl (h.0 ∙ e)
  finished request reply (inr r) h = inr (reply, r, h.0, h.1, h.2)

  -- completeness follows from the reply that stands
  told_whole : (reply : Reply) → Replies call source_state words source source' reply →
      Stands out_state err_state out out' err err' reply status →
      IsComplete call source_state out_state err_state words source source' out out' err err' status
  told_whole reply replies stands request asked fine out_fine err_fine =
      finished request reply (request_gives call well source_state words source source' request reply replies asked fine)
      (whole_without_fault stands out_fine err_fine)

  -- where words in order ask for something, the status isn't 2
  not_refused : (reply : Reply) → Replies call source_state words source source' reply →
      Stands out_state err_state out out' err err' reply status → (request : R) → call.asks words request → status ≢ 2
  not_refused reply replies stands request asked e = (usage_told reply replies stands e).0 request asked

  -- what stands on output, where nothing is done
  pub nothing_out_at : (k : ℕ) → is_done k ≡ false → k ≢ 4 → (reply : Reply) → Replies call source_state words source source' reply →
      Stands out_state err_state out out' err err' reply status → status ≡ k → out' ≡ out
  nothing_out_at k not_done other reply replies stands e =
      no_output stands (λ four. other (sym e ∙ four))
      (λ is. nothing_for_out call well source_state words source source' k not_done reply replies (sym is ∙ e))

  output_kept : (reply : Reply) → Replies call source_state words source source' reply →
      Stands out_state err_state out out' err err' reply status → (status ≡ 1) ⊎ (status ≡ 2) ⊎ (status ≡ 3) ⊎ (status ≡ 5) → out' ≡ out
  output_kept reply replies stands (inl e) = nothing_out_at 1 refl (λ f. cc f) reply replies stands e
  output_kept reply replies stands (inr (inl e)) = nothing_out_at 2 refl (λ f. cc f) reply replies stands e
  output_kept reply replies stands (inr (inr (inl e))) = nothing_out_at 3 refl (λ f. cc f) reply replies stands e
  output_kept reply replies stands (inr (inr (inr e))) = nothing_out_at 5 refl (λ f. cc f) reply replies stands e

-- what a call owes beside its reply
pub record Owes {R S O E : Type 0} (call : Call R) (source_state : S → SourceState) (out_state : O → SinkState) (err_state : E → SinkState)
    (words : List (List ℕ)) (source source' : S) (out out' : O) (err err' : E) (status : ℕ) : Type 0 where
  pub asked : (request : R) → call.asks words request → status ≢ 2
  pub usage : status ≡ 2 → AsksNothing call words × (source' ≡ source)
  pub asks_nothing : AsksNothing call words → (status ≡ 2) ⊎ (status ≡ 4) ⊎ (status ≡ 5)
  pub read_fault : status ≡ 3 → Rose (source_state source).faults (source_state source').faults
  pub write_fault : status ≡ 4 → Rose (out_state out).faults (out_state out').faults ⊎ Rose (err_state err).faults (err_state err').faults
  pub counts : status ≢ 4 → ((out_state out').faults ≡ (out_state out).faults) × ((err_state err').faults ≡ (err_state err).faults)
  pub no_output : (status ≡ 1) ⊎ (status ≡ 2) ⊎ (status ≡ 3) ⊎ (status ≡ 5) → out' ≡ out
  pub complete : IsComplete call source_state out_state err_state words source source' out out' err err' status

pub owed : {R S O E : Type 0} (call : Call R) → IsWell call → (source_state : S → SourceState) (out_state : O → SinkState) (err_state : E → SinkState)
    (words : List (List ℕ)) (source source' : S) (out out' : O) (err err' : E) (status : ℕ) (reply : Reply) →
    Replies call source_state words source source' reply → Stands out_state err_state out out' err err' reply status →
    Owes call source_state out_state err_state words source source' out out' err err' status
owed call well source_state out_state err_state words source source' out out' err err' status reply replies stands = record {
  asked = not_refused call well source_state out_state err_state words source source' out out' err err' status reply replies stands;
  usage = usage_told call well source_state out_state err_state words source source' out out' err err' status reply replies stands;
  asks_nothing = nothing_told call well source_state out_state err_state words source source' out out' err err' status reply replies stands;
  read_fault = fault_told call well source_state out_state err_state words source source' out out' err err' status reply replies stands;
  write_fault = rose_at_4 stands (never_four call well source_state words source source' reply replies);
  counts = counts_kept stands;
  no_output = output_kept call well source_state out_state err_state words source source' out out' err err' status reply replies stands;
  complete = told_whole call well source_state out_state err_state words source source' out out' err err' status reply replies stands;
}
