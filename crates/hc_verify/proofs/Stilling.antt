-- Processes that take all their invisible steps, one after the other: there is no other way to do so.
use Rattle.std.proofs.Common.{◌≡◌, ◌≢◌, refl, sym, ap, subst, ◌∙◌, ℕ, zero, suc, ◌+◌, ◌-◌, ◌≤◌, ◌<◌, List, [], ◌∷◌, length, slice_get, Option, Some, None, ◌⊎◌, inl, inr, arith}
use Rattle.std.proofs.lemmas.Option.{slice_get_within}
use Rattle.std.proofs.lemmas.List.{length-map}
use Rattle.hc_rational.specs.Words.{Rational}
use Rattle.hc_term.specs.declared.task.Task.{Task}
use Rattle.hc_term.specs.declared.system.System.{System}
use Rattle.hc_term.specs.declared.run.StretchEnd.{StretchEnd}
use Rattle.hc_term.specs.declared.run.StretchEnd.TheVariants as ends
use Rattle.hc_term.specs.declared.post.Post.{Post}
use Rattle.hc_term.specs.declared.model.ProcessState.{ProcessState}
use Rattle.hc_term.specs.declared.model.Configuration.{Configuration}
use Rattle.hc_term.specs.Offers.{post}
use Rattle.hc_term.specs.Silent.{Outcome, Idle, Unfit, Did, silent}
use Rattle.hc_term.specs.Step.{silent_by, silent_of, replaced}
use Rattle.hc_term.specs.Event.{Progress, progress}
use Rattle.hc_term.proofs.Places.{get-set_other}
use Rattle.hc_step.specs.declared.stretch.Stretch.{Stretch}
use Rattle.hc_order.specs.Demand.{Strolls, AllStroll, Advances, AreHalted, everyone}
use Rattle.hc_order.specs.Laws.{EndsAfterStroll}
use Rattle.hc_order.proofs.Stroll.{all_stay}
use Rattle.hc_order.proofs.OneWay.{did_one, one_stroll}
use Rattle.hc_order.proofs.Loop.{stretch_is_stroll}
use Rattle.hc_order.proofs.Advancing.{advances_one, advances_add, no_more_moves}
use Rattle.hc_member.proofs.Places.{is_set}
use Rattle.hc_verify.specs.declared.walk.Walk.{Walk}
use Rattle.hc_verify.specs.Stands.{IsAt, Runs}
use Rattle.hc_verify.specs.Halting.{HasNoStep, AreStill, Halts, AllHalt, still_steps}
use Rattle.hc_verify.proofs.Logging.{is_there, same_number}

-- ---- one process

module _ (t : Task) (clock : Rational) where
  -- no stroll is longer than one to where there is no step
  pub longest : (p n m : ℕ) (q r s : ProcessState) → Strolls t clock p n q r → Strolls t clock p m q s → HasNoStep t clock p s → n ≤ m
  longest p zero m q r s h k j = omega arith
  longest p (suc n) zero q r s h k j = absurd (j None h.0 (ap (silent t.seed p clock) (sym k) ∙ h.1))
  longest p (suc n) (suc m) q r s h k j =
      let same = (did_one (silent t.seed p clock q) None None h.0 k.0 h.1 k.1).1 in
      let rest = longest p n m h.0 r s h.2 (subst (λ (x : ProcessState). Strolls t clock p m x s) (sym same) k.2) j in
      omega (arith, rest)

module _ (t : Task) (p room : ℕ) (c : Configuration) (q : ProcessState) (new : Walk) where
  abbrev g : Progress
  g = progress room t.seed p c.clock q

  still_at : (o : Outcome) → silent t.seed p c.clock g.next ≡ o → ((l : Option Rational) (x : ProcessState) → o ≡ Did l x → ⊥) →
      HasNoStep t c.clock p g.next
  still_at o e n l x s = n l x (sym e ∙ s)

  halts_by : (e : StretchEnd) → length g.logs ≤ room → IsAt t.system new (replaced c p g.next) →
      EndsAfterStroll room t p c.clock q g e → Halts t p room c q new (still_steps e (length g.logs))
  halts_by ends.Waits few at h = (few, (g.next, h.0, still_at Idle h.1 (λ l x s. cc), at))
  halts_by ends.Ended few at h = (few, (g.next, h.0, still_at Idle h.1 (λ l x s. cc), at))
  halts_by ends.Unfit few at h = (few, (g.next, h.0, still_at Unfit h.1 (λ l x s. cc), at))
  halts_by (ends.Logged v) few at h =
      λ m r s n le. (
      let logs_next : (x : ProcessState) → silent t.seed p c.clock h.1 ≡ Did None x → ⊥ = λ x e. (let other = h.4 in cc) in
      let same = one_stroll t c.clock p m h.0 q r h.1 s h.3 (n None) logs_next in
      n (Some v) g.next (ap (silent t.seed p c.clock) same.1 ∙ h.4))
  halts_by ends.Spent few at h =
      λ m r s n le. (let more = longest t c.clock p room m q g.next r h.0 s n in omega (arith, more, le))

  pub halts : (st : Stretch) → Runs t.system p new st c g → st.steps ≤ room → Halts t p room c q new (still_steps st.end st.steps)
  halts st runs few =
      let count : st.steps ≡ length g.logs = runs.counted in
      let by_end = halts_by g.end (omega (arith, few, count)) runs.at (stretch_is_stroll room t p c.clock q) in
      subst (λ (k : ℕ). Halts t p room c q new (still_steps st.end k)) (sym runs.counted)
      (subst (λ (e : StretchEnd). Halts t p room c q new (still_steps e (length g.logs))) (sym runs.ended) by_end)

-- ---- one after the other

-- each process shows something
pub all_shown : (sys : System) (w : Walk) (c : Configuration) → IsAt sys w c → length w.board.posts ≡ length w.members.items
all_shown sys w c at = ap (λ (l : List Post). length l) at.shown ∙ length-map c.processes (post c.clock) ∙ sym at.members.counted

-- the steps of one of those that moved
pub stroll_in : (t : Task) (clock : Rational) (from at n : ℕ) (qs rs : List ProcessState) (q r : ProcessState) →
    AllStroll everyone t clock from n qs rs → slice_get qs at ≡ Some q → slice_get rs at ≡ Some r →
    (k : ℕ) × Strolls t clock (from + at) k q r
stroll_in t clock from at n [] [] q r h e f = cc
stroll_in t clock from at n [] (y ∷ rs) q r h e f = absurd h
stroll_in t clock from at n (x ∷ qs) [] q r h e f = absurd h
stroll_in t clock from zero n (x ∷ qs) (y ∷ rs) q r h e f =
    let one : x ≡ q = cc in
    let two : y ≡ r = cc in
    let here : from ≡ from + zero = omega arith in (
      h.0,
      subst (λ (p : ℕ). Strolls t clock p h.0 q r) here
          (subst (λ (z : ProcessState). Strolls t clock from h.0 z r) one (subst (λ (z : ProcessState). Strolls t clock from h.0 x z) two h.3)),
    )
stroll_in t clock from (suc at) n (x ∷ qs) (y ∷ rs) q r h e f =
    let rest = stroll_in t clock (suc from) at h.1 qs rs q r h.4 e f in
    let here : suc from + at ≡ from + suc at = omega arith in
    (rest.0, subst (λ (p : ℕ). Strolls t clock p rest.0 q r) here rest.1)

pub still_is_halted : (t : Task) (c : Configuration) → AreStill t c → AreHalted everyone t c
still_is_halted t c still p w x s = by (slice_get c.processes p) refl where
  by : (o : Option ProcessState) → slice_get c.processes p ≡ o → ⊥
  by None e = let idle : silent_of t c p ≡ Idle = ap (silent_by t c.clock p) e in cc
  by (Some r) e = still p r e None x (sym (ap (silent_by t c.clock p) e) ∙ s)

below : (p k : ℕ) → k < p + 1 → k ≢ p → k < p
below p k low other = omega (arith, low, other)

-- the processes before number p took their steps, so many in all, and the others none
pub record Underway (t : Task) (p moved : ℕ) (c : Configuration) (w : Walk) : Type 0 where
  pub reached : Configuration
  pub advances : Advances everyone t moved c reached
  pub at : IsAt t.system w reached
  pub still : (k : ℕ) (r : ProcessState) → k < p → slice_get reached.processes k ≡ Some r → HasNoStep t c.clock k r
  pub others : (k : ℕ) → p ≤ k → slice_get reached.processes k ≡ slice_get c.processes k

module _ (t : Task) (c : Configuration) where
  pub begun : (w : Walk) → IsAt t.system w c → Underway t 0 0 c w
  begun w at = record {
    reached = c;
    advances = record { same_clock = refl; stroll = all_stay t c.clock everyone 0 c.processes };
    at = at;
    still = λ k r low e. absurd (omega (arith, low));
    others = λ k high. refl;
  }

  module _ (p moved : ℕ) (w : Walk) (u : Underway t p moved c w) where
    -- no member was added or lost
    pub same_members : (first : Walk) → IsAt t.system first c → length w.members.items ≡ length first.members.items
    same_members first at =
        u.at.members.counted ∙ sym (same_number t c.clock everyone 0 moved c.processes u.reached.processes u.advances.stroll)
        ∙ sym at.members.counted

    -- process p is there
    pub next : p < length w.members.items → (q : ProcessState) × (slice_get u.reached.processes p ≡ Some q)
    next low = is_there u.reached.processes p (omega (arith, low, u.at.members.counted))

    module _ (q : ProcessState) (there : slice_get u.reached.processes p ≡ Some q) (new : Walk) (room : ℕ) where
      moved_on : (k : ℕ) (r : ProcessState) → Strolls t u.reached.clock p k q r → Advances everyone t (moved + k) c (replaced u.reached p r)
      moved_on k r s =
          advances_add everyone t moved k c u.reached (replaced u.reached p r) u.advances
          (advances_one everyone t k p u.reached q r refl there s)

      pub one_more : (m : ℕ) → Halts t p room u.reached q new (Some m) → Underway t (p + 1) (moved + m) c new
      one_more m h = record {
        reached = replaced u.reached p h.1.0;
        advances = moved_on m h.1.0 h.1.1;
        at = h.1.3;
        still = λ k r low e. by_place k r low (is_set u.reached.processes p k h.1.0 r e);
        others = λ k high. get-set_other u.reached.processes p k h.1.0 (λ e. omega (arith, e, high)) ∙ u.others k (omega (arith, high));
      } where
        by_place : (k : ℕ) (r : ProcessState) → k < p + 1 →
            ((k ≡ p) × (h.1.0 ≡ r)) ⊎ ((k ≢ p) × (slice_get u.reached.processes k ≡ Some r)) → HasNoStep t c.clock k r
        by_place k r low (inl e) =
            subst (λ (n : ℕ). HasNoStep t c.clock n r) (sym e.0)
            (subst (λ (x : ProcessState). HasNoStep t c.clock p x) e.1
            (subst (λ (z : Rational). HasNoStep t z p h.1.0) (sym u.advances.same_clock) h.1.2))
        by_place k r low (inr e) = u.still k r (below p k low e.0) e.1

      -- where process p can't halt in what is left, all can't
      pub stopped : (all : ℕ) → p < length w.members.items → room ≡ all - moved → Halts t p room u.reached q new None → AllHalt t all c new None
      stopped all low left h m e adv still le =
          let same = same_number t c.clock everyone 0 m c.processes e.processes adv.stroll in
          let before = same_number t c.clock everyone 0 moved c.processes u.reached.processes u.advances.stroll in
          let r = is_there e.processes p (omega (arith, low, same, before, u.at.members.counted)) in
          let from : slice_get c.processes p ≡ Some q = sym (u.others p (omega arith)) ∙ there in
          let s = stroll_in t c.clock 0 p m c.processes e.processes q r.0 adv.stroll from r.1 in
          let here : 0 + p ≡ p = omega arith in
          let strolls : Strolls t u.reached.clock p s.0 q r.0 =
          subst (λ (z : Rational). Strolls t z p s.0 q r.0) u.advances.same_clock
          (subst (λ (n : ℕ). Strolls t c.clock n s.0 q r.0) here s.1) in
          let most = no_more_moves everyone t (moved + s.0) m c (replaced u.reached p r.0) e (moved_on s.0 r.0 strolls) adv (still_is_halted t e still) in
          let no_step = subst (λ (z : Rational). HasNoStep t z p r.0) (sym adv.same_clock ∙ u.advances.same_clock) (still p r.0 r.1) in
          h s.0 r.0 strolls no_step (omega (arith, most, le, left))

    -- all took their steps
    pub all_halt : (room : ℕ) → length w.members.items ≤ p → moved ≤ room → AllHalt t room c w (Some moved)
    all_halt room past within = (within, (u.reached, u.advances, (λ k r e. still_there k r e), u.at)) where
      still_there : AreStill t u.reached
      still_there k r e =
          let low = slice_get_within u.reached.processes k r e in
          subst (λ (z : Rational). HasNoStep t z k r) u.advances.same_clock (u.still k r (omega (arith, low, past, u.at.members.counted)) e)
