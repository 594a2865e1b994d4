-- An event that sets no stop leaves a process that wants a silent step: where the last part is no delay, since else time would go
-- on or stop the run; and after a delay, since else time would do nothing more, which is a stop.
use Rattle.std.proofs.Common.{◌≡◌, refl, sym, ap, ◌∙◌, subst, ℕ, zero, suc, ◌-◌, Bool, true, false, ◌&&◌, if◌then◌else◌, nat_le, List, [], ◌∷◌, map, length, min, slice_get, Option, Some, None, inl, inr, arith}
use Rattle.std.specs.List.{list_all}
use Rattle.std.proofs.lemmas.Bool.{false≢true, and_parts, leb-true}
use Rattle.hc_limits.specs.Limits.{most_silent_steps, most_variables}
use Rattle.hc_term.specs.declared.stmt.Stmt.{Stmt}
use Rattle.hc_term.specs.declared.system.Process.{Process}
use Rattle.hc_term.specs.declared.model.Mark.TheVariants.{Going}
use Rattle.hc_term.specs.Value.{Store}
use Rattle.hc_term.specs.Process.{wants}
use Rattle.hc_term.specs.Rules.{is_stmt, is_process}
use Rattle.hc_term.specs.declared.task.Task.{Task}
use Rattle.hc_term.specs.declared.run.StretchEnd.{StretchEnd}
use Rattle.hc_term.specs.declared.run.StretchEnd.TheVariants as ends
use Rattle.hc_term.specs.declared.run.Step.TheVariants.{Comm}
use Rattle.hc_term.specs.declared.model.ProcessState.{ProcessState}
use Rattle.hc_term.specs.declared.model.Meeting.{Meeting}
use Rattle.hc_term.specs.declared.model.Configuration.{Configuration}
use Rattle.hc_term.specs.Posts.{Passing, NoBound, AtHorizon, Overflows, Took}
use Rattle.hc_term.specs.Step.{opening_of, ready, rests, passing, passing_by, passing_quiet, replaced, met, delayed}
use Rattle.hc_term.specs.Canonical.{wanting_from}
use Rattle.hc_term.specs.Event.{Event, progress, silent_items, stop_of_passing, stop_after, last_part_by, meetings_by, meetings, second_part, event_of}
use Rattle.hc_term.proofs.Wanting.{rests_where_none_wants}
use Rattle.hc_term.proofs.Ready.{ready-steps}
use Rattle.hc_term.proofs.Stretches.{progress-stretches}
use Rattle.hc_runs.specs.Laws.{IsOver, OpeningGoesOn, EventsGoOn}
use Rattle.hc_runs.proofs.Resting.{delays_end}
use Rattle.hc_runs.proofs.Parts.{Kept, run_keeps, reached_keeps, all_processes, all_in_profile}

module _ (t : Task) where
  abbrev Wakes : Event → Type 0
  Wakes e = e.stop ≡ None → rests e.end.processes ≡ false

  -- where time does nothing more, there is a stop
  over-stops : (c : Configuration) (o : Option Passing) → IsOver o → stop_of_passing c o ≡ None → ⊥
  over-stops c o (inl e) f = let is = sym (ap (stop_of_passing c) e) ∙ f in cc
  over-stops c o (inr e) f = let is = sym (ap (stop_of_passing c) e) ∙ f in cc

  after_delay : (n : ℕ) (c : Configuration) (b : Bool) → rests c.processes ≡ b → (rests c.processes ≡ true → IsOver (passing t c)) → stop_after n t c ≡ None →
      rests c.processes ≡ false
  after_delay n c false h over f = h
  after_delay zero c true h over f = cc
  after_delay (suc n) c true h over f = absurd (over-stops c (passing t c) (over h) f)

  stands_still : (b : Bool) (what : Passing) → passing_by None b what ≡ None → b ≡ false
  stands_still true what e = cc
  stands_still false what e = refl

  last_part-wakes : (n : ℕ) (c : Configuration) (o : Option Passing) → Kept t c → ready t c ≡ None → passing t c ≡ o → Wakes (last_part_by n t c o)
  last_part-wakes n c (Some (Took d)) k h e f =
      let in_profile = all_in_profile (length t.system.channels) t.system.processes c.processes k in
      after_delay n (delayed d c) (rests (delayed d c).processes) refl (λ r. delays_end t c d in_profile e r) f
  last_part-wakes n c (Some Overflows) k h e f = cc
  last_part-wakes n c (Some NoBound) k h e f = cc
  last_part-wakes n c (Some AtHorizon) k h e f = cc
  last_part-wakes n c None k h e f =
      stands_still (rests c.processes) (passing_quiet t c) (sym (ap (λ (m : Option Meeting). passing_by m (rests c.processes) (passing_quiet t c)) h) ∙ e)

  meetings_by-wakes : (n : ℕ) (c : Configuration) (o : Option Meeting) → Kept t c → ready t c ≡ o →
      ((d : Configuration) → Kept t d → Wakes (meetings n t d)) →
      Wakes (meetings_by c (meetings n t) (last_part_by n t c (passing t c)) o)
  meetings_by-wakes n c None k h ih = last_part-wakes n c (passing t c) k h refl
  meetings_by-wakes n c (Some m) k h ih =
      ih (met m c) (run_keeps t (record { at = c.clock; step = Comm m.channel m.value } ∷ []) c (met m c) (refl, (met m c, ready-steps t c m h, refl)) k)

  meetings-wakes : (n : ℕ) (c : Configuration) → Kept t c → Wakes (meetings n t c)
  meetings-wakes zero c k f = cc
  meetings-wakes (suc n) c k f = meetings_by-wakes n c (ready t c) k refl (meetings-wakes n) f

  second_part-wakes : (n p : ℕ) (c : Configuration) (end : StretchEnd) → Kept t c → Wakes (second_part n t p c end)
  second_part-wakes zero p c end k f = cc
  second_part-wakes (suc n) p c ends.Unfit k f = cc
  second_part-wakes (suc n) p c (ends.Logged v) k f = meetings-wakes (suc n) c k f
  second_part-wakes (suc n) p c ends.Waits k f = meetings-wakes (suc n) c k f
  second_part-wakes (suc n) p c ends.Ended k f = meetings-wakes (suc n) c k f
  second_part-wakes (suc n) p c ends.Spent k f = meetings-wakes (suc n) c k f

  event-wakes : (room p : ℕ) (c : Configuration) (q : ProcessState) → Kept t c → slice_get c.processes p ≡ Some q → Wakes (event_of room t p c (Some q))
  event-wakes room p c q k at =
      let n = min most_silent_steps room in
      let g = progress n t.seed p c.clock q in
      let s = progress-stretches t p n c q at in
      let mid = replaced c p g.next in
      second_part-wakes (room - length g.logs) p mid g.end (run_keeps t (silent_items c.clock p g.logs) c mid s.leads k)

wanting : (qs : List ProcessState) (o : Option ℕ) → wanting_from 0 qs ≡ o → rests qs ≡ false → (next : ℕ) × (wanting_from 0 qs ≡ Some next)
wanting qs (Some p) e h = (p, e)
wanting qs None e h = absurd (false≢true (sym h ∙ rests_where_none_wants 0 qs e))

pub events_go_on : EventsGoOn
events_go_on room t items p c q run at f =
    let whole = subst (λ (o : Option ProcessState). Wakes t (event_of room t p c o)) (sym at) (event-wakes t room p c q (reached_keeps t items c run) at) in
    wanting (event_of room t p c (slice_get c.processes p)).end.processes (wanting_from 0 (event_of room t p c (slice_get c.processes p)).end.processes) refl (whole f)

-- ---- the opening

body_wants : (body : List Stmt) (s : Store) → nat_le 1 (length body) ≡ true → wants (record { todo = body; store = s; choices = 0; mark = Going }) ≡ true
body_wants [] s h = absurd (omega (arith, leb-true 1 0 h))
body_wants (head ∷ rest) s h = refl

first_wants : (channels : ℕ) (bodies : List Process) → nat_le 1 (length bodies) ≡ true → list_all (is_process channels) bodies ≡ true →
    wanting_from 0 (map opening_of bodies) ≡ Some 0
first_wants channels [] h k = absurd (omega (arith, leb-true 1 0 h))
first_wants channels (b ∷ bodies) h k =
    let n = length b.variables in
    let ruled = (and_parts (is_process channels b) (list_all (is_process channels) bodies) k).0 in
    let few = (and_parts (nat_le n most_variables && nat_le 1 (length b.body)) (list_all (is_stmt channels n) b.body) ruled).0 in
    let some = (and_parts (nat_le n most_variables) (nat_le 1 (length b.body)) few).1 in
    ap (λ (w : Bool). if w then Some 0 else wanting_from 1 (map opening_of bodies)) (body_wants b.body (opening_of b).store some)

pub opening_goes_on : OpeningGoesOn
opening_goes_on t =
    let few = (and_parts _ _ (and_parts _ _ (and_parts _ _ t.system.kept).0).0).0 in
    first_wants (length t.system.channels) t.system.processes (and_parts _ _ (and_parts _ _ few).0).0 (all_processes t)
