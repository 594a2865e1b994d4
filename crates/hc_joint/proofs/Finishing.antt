-- A joint on its way to a stop by turns of the least process, each of which goes on as the canonical steps do.
use Rattle.std.proofs.Common.{◌≡◌, ◌<◌, refl, sym, ap, subst, ◌∙◌, ℕ, suc, ◌+◌, ◌-◌, ◌++◌, Bool, length, Option, Some, None, arith}
use Rattle.hc_term.specs.declared.run.Stop.{Stop}
use Rattle.hc_term.specs.declared.model.Configuration.{Configuration}
use Rattle.hc_term.specs.Step.{opening, Leads}
use Rattle.hc_term.specs.Canonical.{Course}
use Rattle.hc_term.specs.Event.{Event}
use Rattle.hc_runs.specs.Turns.{event_behind, one_more, Turns, completed}
use Rattle.hc_runs.specs.Laws.{Advances}
use Rattle.hc_runs.proofs.Turning.{least_wants, turns_are_run}
use Rattle.hc_runs.proofs.Visible.{turns_end}
use Rattle.hc_runs.proofs.LeastTurns.{least_turn_advances}
use Rattle.hc_joint.specs.Seen.{Seen}
use Rattle.hc_joint.specs.Keeps.{Keeps, IsReached, HasTurn, GoesForward, HasCourse, turned}

-- with this stop now, the canonical steps from c have led here, and go on from here where there is none
abbrev pub LeadsOn : Option Stop → Seen → Seen → Configuration → Type 0
LeadsOn (Some stop) old now c = HasCourse now (completed old.task old.history c)
LeadsOn None old now c =
    (d : Configuration) × IsReached now d × (completed old.task old.history c ≡ completed now.task now.history d)

-- nothing changed where a stop stood at first; else the canonical steps led here
abbrev pub IsOnCourse : Option Stop → Seen → Seen → Type 0
IsOnCourse (Some stop) old now = now ≡ old
IsOnCourse None old now = (c : Configuration) → IsReached old c → LeadsOn now.stop old now c

pub begun : (s : Seen) (o : Option Stop) → s.stop ≡ o → IsOnCourse o s s
begun s (Some stop) e = refl
begun s None e = λ c is. subst (λ (o : Option Stop). LeadsOn o s s c) (sym e) (c, is, refl)

-- how many turns there may be yet
abbrev pub left_by : Option Stop → Seen → ℕ
left_by (Some stop) s = 0
left_by None s = suc (s.task.limit - length s.history)

abbrev pub left : Seen → ℕ
left s = left_by s.stop s

-- ---- one turn of the least process

pub had_turn : (now new : Seen) (went : Bool) → now.stop ≡ None → GoesForward now.stop now new went → HasTurn now new
had_turn now new went none forward =
    (subst (λ (o : Option Stop). GoesForward o now new went) none forward).1

module _ (now new : Seen) (k : Keeps now) (none : now.stop ≡ None) (turn : HasTurn now new) where
  behind : Event
  behind = event_behind now.history now.task turn.process turn.before

  turns_before : Turns now.task now.turns now.history turn.before None
  turns_before =
      let at = subst (λ (d : Configuration). Turns now.task now.turns now.history d now.stop)
      (sym (k.only turn.before turn.is_reached.leads)) k.turned in
      subst (λ (o : Option Stop). Turns now.task now.turns now.history turn.before o) none at

  leads_after : Leads now.task (opening now.task) (now.history ++ behind.items) behind.end
  unfolding behind
  leads_after =
      let more = one_more now.turns now.history turn.before turn.process turns_before (least_wants turn.before turn.process turn.least) in
      (turns_are_run now.task (now.turns + 1) (now.history ++ behind.items) behind.end behind.stop more).leads

  advances : Advances now.task now.history turn.before behind
  unfolding behind
  advances = least_turn_advances now.task now.turns now.history turn.process turn.before turns_before turn.least

  went_by : (old : Seen) (c : Configuration) (o : Option Stop) → behind.stop ≡ o →
      completed old.task old.history c ≡ completed now.task now.history turn.before → LeadsOn o old (turned now behind) c
  went_by old c None f same =
      (behind.end, record { leads = leads_after; clock = refl }, same ∙ advances.going f)
  went_by old c (Some stop) f same =
      let course = same ∙ advances.stopped stop f in
      subst (λ (x : Course). HasCourse (turned now behind) x) (sym course)
      (record { items = refl; clock = refl; stop = f })

  went_on : (old : Seen) (c : Configuration) → LeadsOn None old now c → LeadsOn new.stop old new c
  unfolding behind
  went_on old c on =
      let here = k.only on.0 on.1.leads ∙ sym (k.only turn.before turn.is_reached.leads) in
      let same = on.2 ∙ ap (λ (d : Configuration). completed now.task now.history d) here in
      subst (λ (s : Seen). LeadsOn s.stop old s c) (sym turn.after) (went_by old c behind.stop refl same)

  pub turn_goes_on : (o : Option Stop) (old : Seen) → old.stop ≡ o → IsOnCourse o old now → IsOnCourse o old new
  turn_goes_on (Some stop) old e same =
      let wrong : Some stop ≡ None = sym e ∙ ap (λ (s : Seen). s.stop) (sym same) ∙ none in
      absurd (clash wrong)
    where
      clash : Some stop ≡ None → ⊥
      clash w = cc
  turn_goes_on None old e on = λ c is.
      went_on old c (subst (λ (o : Option Stop). LeadsOn o old now c) none (on c is))

  falls_by : (o : Option Stop) → behind.stop ≡ o → left_by o (turned now behind) < left_by None now
  unfolding behind
  falls_by (Some stop) f = omega arith
  falls_by None f =
      let less = turns_end now.task now.history turn.process turn.before (least_wants turn.before turn.process turn.least) f in
      omega (arith, less)

  pub turn_falls : left new < left now
  unfolding behind
  turn_falls =
      let less = falls_by behind.stop refl in
      let from = subst (λ (o : Option Stop). left_by behind.stop (turned now behind) < left_by o now) (sym none) less in
      subst (λ (s : Seen). left s < left now) (sym turn.after) from

  pub turn_keeps_task : new.task ≡ now.task
  turn_keeps_task = ap (λ (s : Seen). s.task) turn.after

  pub turn_keeps_recomputed : new.recomputed ≡ now.recomputed
  turn_keeps_recomputed = ap (λ (s : Seen). s.recomputed) turn.after

  pub turn_counts : new.turns ≡ now.turns + 1
  turn_counts = ap (λ (s : Seen). s.turns) turn.after
