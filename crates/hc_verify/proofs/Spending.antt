-- Processes that take invisible steps, one after the other, until all steps that were left are taken or no process has one.
use Rattle.std.proofs.Common.{◌≡◌, ◌≢◌, refl, sym, ap, subst, ◌∙◌, ℕ, ◌+◌, ◌-◌, ◌≤◌, ◌<◌, length, slice_get, Option, Some, None, ◌⊎◌, inl, inr, arith}
use Rattle.std.proofs.lemmas.Option.{slice_get_within}
use Rattle.hc_rational.specs.Words.{Rational}
use Rattle.hc_term.specs.declared.task.Task.{Task}
use Rattle.hc_term.specs.declared.run.StretchEnd.{StretchEnd}
use Rattle.hc_term.specs.declared.run.StretchEnd.TheVariants as ends
use Rattle.hc_term.specs.declared.model.ProcessState.{ProcessState}
use Rattle.hc_term.specs.declared.model.Configuration.{Configuration}
use Rattle.hc_term.specs.Silent.{Outcome, Idle, Unfit, Did, silent}
use Rattle.hc_term.specs.Step.{silent_by, silent_of, replaced}
use Rattle.hc_term.specs.Event.{Progress, progress}
use Rattle.hc_term.proofs.Places.{get-set_other}
use Rattle.hc_runs.proofs.Basics.{length-set}
use Rattle.hc_step.specs.declared.stretch.Stretch.{Stretch}
use Rattle.hc_order.specs.Demand.{Strolls, Advances, AreHalted, everyone}
use Rattle.hc_order.specs.Laws.{EndsAfterStroll}
use Rattle.hc_order.proofs.Stroll.{all_stay}
use Rattle.hc_order.proofs.Loop.{stretch_is_stroll}
use Rattle.hc_order.proofs.Advancing.{advances_one, advances_add, no_more_moves}
use Rattle.hc_member.proofs.Places.{is_set}
use Rattle.hc_verify.specs.declared.walk.Walk.{Walk}
use Rattle.hc_verify.specs.Stands.{IsAt, Runs}
use Rattle.hc_verify.specs.Following.{IsReached}
use Rattle.hc_verify.specs.Ending.{ReachesLimit, Spends, AllSpend, invisible_steps}
use Rattle.hc_verify.proofs.Logging.{is_there, same_number}

-- process number p has no invisible step in this state
abbrev HasNoMore : Task → Rational → ℕ → ProcessState → Type 0
HasNoMore t clock p r = (x : ProcessState) → silent t.seed p clock r ≡ Did None x → ⊥

-- ---- one process

module _ (t : Task) (p room : ℕ) (c : Configuration) (q : ProcessState) (new : Walk) where
  abbrev g : Progress
  g = progress room t.seed p c.clock q

  -- it took so many steps up to a state of which this is known
  spent : (k : ℕ) (to : ProcessState) (o : Outcome) → k ≤ room → IsAt t.system new (replaced c p g.next) →
      Strolls t c.clock p k q to → silent t.seed p c.clock to ≡ o → ((x : ProcessState) → o ≡ Did None x → ⊥) →
      Spends t p room c q new k
  spent k to o few at s e n = record {
    within = few;
    to = to;
    strolls = s;
    no_more = λ low x f. n x (sym e ∙ f);
    behind = g.next;
    at = at;
  }

  spends_by : (e : StretchEnd) → length g.logs ≤ room → IsAt t.system new (replaced c p g.next) →
      EndsAfterStroll room t p c.clock q g e → Spends t p room c q new (invisible_steps e (length g.logs))
  spends_by ends.Waits few at h = spent (length g.logs) g.next Idle few at h.0 h.1 (λ x e. cc)
  spends_by ends.Ended few at h = spent (length g.logs) g.next Idle few at h.0 h.1 (λ x e. cc)
  spends_by ends.Unfit few at h = spent (length g.logs) g.next Unfit few at h.0 h.1 (λ x e. cc)
  spends_by (ends.Logged v) few at h =
      let count : h.0 ≡ length g.logs - 1 = omega (arith, h.2) in
      let before : h.0 ≤ room = omega (arith, h.2, few) in
      subst (λ (k : ℕ). Spends t p room c q new k) count
      (spent h.0 h.1 (Did (Some v) g.next) before at h.3 h.4 (λ x e. cc))
  spends_by ends.Spent few at h = record {
    within = few;
    to = g.next;
    strolls = subst (λ (k : ℕ). Strolls t c.clock p k q g.next) (sym h.1) h.0;
    no_more = λ low x f. absurd (omega (arith, low, h.1));
    behind = g.next;
    at = at;
  }

  pub spends : (st : Stretch) → Runs t.system p new st c g → st.steps ≤ room → Spends t p room c q new (invisible_steps st.end st.steps)
  spends st runs few =
      let count : st.steps ≡ length g.logs = runs.counted in
      let by_end = spends_by g.end (omega (arith, few, count)) runs.at (stretch_is_stroll room t p c.clock q) in
      subst (λ (k : ℕ). Spends t p room c q new (invisible_steps st.end k)) (sym runs.counted)
      (subst (λ (e : StretchEnd). Spends t p room c q new (invisible_steps e (length g.logs))) (sym runs.ended) by_end)

-- ---- one after the other

-- Of so many steps that are left, the processes before number p took so many invisible ones, and the others none; where
-- steps are left those processes have no invisible one.
pub record Spending (t : Task) (p moved room : ℕ) (c : Configuration) (w : Walk) : Type 0 where
  pub reached : Configuration
  pub advances : Advances everyone t moved c reached
  pub others : (k : ℕ) → p ≤ k → slice_get reached.processes k ≡ slice_get c.processes k
  pub no_more : moved < room → (k : ℕ) (r : ProcessState) → k < p → slice_get reached.processes k ≡ Some r → HasNoMore t c.clock k r
  pub stands : Configuration
  pub at : IsAt t.system w stands
  pub same_clock : c.clock ≡ stands.clock
  pub counted : length stands.processes ≡ length c.processes
  pub untouched : (k : ℕ) → p ≤ k → slice_get stands.processes k ≡ slice_get c.processes k

below : (p k : ℕ) → k < p + 1 → k ≢ p → k < p
below p k low other = omega (arith, low, other)

module _ (t : Task) (c : Configuration) (room : ℕ) where
  pub begun : (w : Walk) → IsAt t.system w c → Spending t 0 0 room c w
  begun w at = record {
    reached = c;
    advances = record { same_clock = refl; stroll = all_stay t c.clock everyone 0 c.processes };
    others = λ k high. refl;
    no_more = λ left k r low e. absurd (omega (arith, low));
    stands = c;
    at = at;
    same_clock = refl;
    counted = refl;
    untouched = λ k high. refl;
  }

  module _ (p moved : ℕ) (w : Walk) (u : Spending t p moved room c w) where
    -- no member was added or lost
    pub same_members : (first : Walk) → IsAt t.system first c → length w.members.items ≡ length first.members.items
    same_members first at = u.at.members.counted ∙ u.counted ∙ sym at.members.counted

    -- process p is there
    pub next : p < length w.members.items → (q : ProcessState) × (slice_get u.stands.processes p ≡ Some q)
    next low = is_there u.stands.processes p (omega (arith, low, u.at.members.counted))

    module _ (q : ProcessState) (there : slice_get u.stands.processes p ≡ Some q) (new : Walk) (m : ℕ)
        (h : Spends t p (room - moved) u.stands q new m) where
      from : slice_get u.reached.processes p ≡ Some q
      from = u.others p (omega arith) ∙ sym (u.untouched p (omega arith)) ∙ there

      moved_on : Advances everyone t (moved + m) c (replaced u.reached p h.to)
      moved_on =
          let strolls = subst (λ (z : Rational). Strolls t z p m q h.to) (sym u.same_clock ∙ u.advances.same_clock) h.strolls in
          advances_add everyone t moved m c u.reached (replaced u.reached p h.to) u.advances
          (advances_one everyone t m p u.reached q h.to refl from strolls)

      by_place : moved + m < room → (k : ℕ) (r : ProcessState) → k < p + 1 →
          ((k ≡ p) × (h.to ≡ r)) ⊎ ((k ≢ p) × (slice_get u.reached.processes k ≡ Some r)) → HasNoMore t c.clock k r
      by_place left k r low (inl e) =
          subst (λ (n : ℕ). HasNoMore t c.clock n r) (sym e.0)
          (subst (λ (x : ProcessState). HasNoMore t c.clock p x) e.1
          (subst (λ (z : Rational). HasNoMore t z p h.to) (sym u.same_clock) (h.no_more (omega (arith, left)))))
      by_place left k r low (inr e) = u.no_more (omega (arith, left)) k r (below p k low e.0) e.1

      pub one_more : Spending t (p + 1) (moved + m) room c new
      one_more = record {
        reached = replaced u.reached p h.to;
        advances = moved_on;
        others = λ k high. get-set_other u.reached.processes p k h.to (λ e. omega (arith, e, high)) ∙ u.others k (omega (arith, high));
        no_more = λ left k r low e. by_place left k r low (is_set u.reached.processes p k h.to r e);
        stands = replaced u.stands p h.behind;
        at = h.at;
        same_clock = u.same_clock;
        counted = length-set u.stands.processes p h.behind ∙ u.counted;
        untouched = λ k high. get-set_other u.stands.processes p k h.behind (λ e. omega (arith, e, high)) ∙ u.untouched k (omega (arith, high));
      }

    -- all took their steps
    pub all_spend : length w.members.items ≤ p → moved ≤ room → AllSpend t room c moved
    all_spend past within = record { within = within; to = u.reached; advances = u.advances; no_more = λ left. halted left } where
      halted : moved < room → AreHalted everyone t u.reached
      halted left k all x s = by (slice_get u.reached.processes k) refl where
        by : (o : Option ProcessState) → slice_get u.reached.processes k ≡ o → ⊥
        by None e = let idle : silent_of t u.reached k ≡ Idle = ap (silent_by t u.reached.clock k) e in cc
        by (Some r) e =
            let low = slice_get_within u.reached.processes k r e in
            let same = same_number t c.clock everyone 0 moved c.processes u.reached.processes u.advances.stroll in
            let none = u.no_more left k r (omega (arith, low, same, past, u.at.members.counted, u.counted)) e in
            subst (λ (z : Rational). HasNoMore t z k r) u.advances.same_clock none x (sym (ap (silent_by t u.reached.clock k) e) ∙ s)

-- ---- the limit

module _ (t : Task) (at : Rational) (room : ℕ) (w : Walk) (c : Configuration) (r : IsReached t w room c) where
  pub other_clock : (at ≡ w.clock → ⊥) → ReachesLimit t at room c None
  other_clock other d adv here = other (here ∙ sym adv.same_clock ∙ sym r.at.clock)

  module _ (m : ℕ) (all : AllSpend t room c m) where
    pub too_few : m < room → ReachesLimit t at room c None
    too_few left d adv here =
        let most = no_more_moves everyone t room m c d all.to adv all.advances (all.no_more left) in
        omega (arith, most, left)

    pub all_taken : at ≡ w.clock → room ≤ m → ReachesLimit t at room c (Some room)
    all_taken here past =
        let same : m ≡ room = omega (arith, past, all.within) in (
          refl,
          (
            all.to,
            subst (λ (k : ℕ). Advances everyone t k c all.to) same all.advances,
            here ∙ r.at.clock ∙ all.advances.same_clock,
          ),
        )
