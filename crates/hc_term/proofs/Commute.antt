-- Steps of different processes may be taken in either order.
use Rattle.std.proofs.Common.{◌≡◌, ◌≢◌, refl, sym, ap, ◌∙◌, subst, ℕ, slice_get, Option}
use Rattle.std.proofs.lemmas.List.{map-set}
use Rattle.hc_rational.specs.Words.{Rational}
use Rattle.hc_term.specs.declared.task.Task.{Task}
use Rattle.hc_term.specs.declared.run.Step.TheVariants.{Silent, Comm}
use Rattle.hc_term.specs.declared.model.ProcessState.{ProcessState}
use Rattle.hc_term.specs.declared.model.Meeting.{Meeting}
use Rattle.hc_term.specs.declared.model.Configuration.{Configuration}
use Rattle.hc_term.specs.Silent.{Idle, Did}
use Rattle.hc_term.specs.Offers.{post}
use Rattle.hc_term.specs.Communication.{sent, received}
use Rattle.hc_term.specs.Step.{posts, silent_by, silent_of, changed, replaced, met, SendsAt, ReceivesAt, Meets, StepTo}
use Rattle.hc_term.specs.Laws.{SilentStepsCommute, SilentAndCommCommute}
use Rattle.hc_term.proofs.Offering.{sender-idle, receiver-idle}
use Rattle.hc_term.proofs.Places.{get-set_other, set-set_other, get-changed_other, changed-set_other}

-- ---- two silent steps

silent_of-replaced : (t : Task) (c : Configuration) (p q : ℕ) (x : ProcessState) → p ≢ q →
    silent_of t (replaced c p x) q ≡ silent_of t c q
silent_of-replaced t c p q x d = ap (silent_by t c.clock q) (get-set_other c.processes p q x d)

-- the second of two silent steps, after the first
second_silent : (t : Task) (c one : Configuration) (p q : ℕ) (logged : Option Rational) (x y : ProcessState) →
    p ≢ q → one ≡ replaced c p x → silent_of t c q ≡ Did logged y →
    StepTo t one (Silent q logged) (replaced (replaced c p x) q y)
second_silent t c one p q logged x y d e h =
    subst (λ (k : Configuration). StepTo t k (Silent q logged) (replaced (replaced c p x) q y)) (sym e)
    (y, silent_of-replaced t c p q x d ∙ h, refl)

replaced-swap : (c : Configuration) (p q : ℕ) (x y : ProcessState) → p ≢ q →
    replaced (replaced c q y) p x ≡ replaced (replaced c p x) q y
replaced-swap c p q x y d =
    ap (λ ps. record { clock = c.clock; processes = ps }) (sym (set-set_other c.processes p q x y d))

pub silent_steps_commute : SilentStepsCommute
silent_steps_commute t c one two p q logged_p logged_q d h k =
    let x = h.0 in
    let y = k.0 in
    let back = second_silent t c two q p logged_p y x (λ e. d (sym e)) k.2 h.1 in (
      replaced (replaced c p x) q y,
      second_silent t c one p q logged_q x y d h.2 k.1,
      subst (StepTo t two (Silent p logged_p)) (replaced-swap c p q x y d) back,
    )

-- ---- a silent step and a communication

-- a process with a silent step is not one that has none
apart : (t : Task) (c : Configuration) (p k : ℕ) (logged : Option Rational) (x : ProcessState) →
    silent_of t c p ≡ Did logged x → silent_of t c k ≡ Idle → p ≢ k
apart t c p k logged x e idle same = let f = ap (silent_of t c) same in cc

post-replaced : (c : Configuration) (p k : ℕ) (x : ProcessState) → p ≢ k →
    slice_get (posts (replaced c p x)) k ≡ slice_get (posts c) k
post-replaced c p k x d =
    ap (λ ps. slice_get ps k) (map-set (post c.clock) c.processes p x)
    ∙ get-set_other (posts c) p k (post c.clock x) d

-- a change of a process that is no end of the meeting
module _ (c : Configuration) (m : Meeting) (p : ℕ) (x : ProcessState) (not_s : p ≢ m.sender) (not_r : p ≢ m.receiver) where
  meets_still : Meets m c → Meets m (replaced c p x)
  meets_still h = record {
    gives = subst (SendsAt m.channel m.value) (sym (post-replaced c p m.sender x not_s)) h.gives;
    takes = subst (ReceivesAt m.channel) (sym (post-replaced c p m.receiver x not_r)) h.takes;
  }

  met-replaced : met m (replaced c p x) ≡ replaced (met m c) p x
  met-replaced =
      let s = sent m.channel in
      let r = received m.channel m.value in
      let after_r = changed r m.receiver c.processes in
      let inner = changed-set_other r c.processes m.receiver p x (λ e. not_r (sym e)) in
      let outer = changed-set_other s after_r m.sender p x (λ e. not_s (sym e)) in
      ap (λ ps. record { clock = c.clock; processes = ps }) (ap (changed s m.sender) inner ∙ outer)

  silent_of-met : (t : Task) → silent_of t (met m c) p ≡ silent_of t c p
  silent_of-met t =
      let s = sent m.channel in
      let r = received m.channel m.value in
      let after_r = changed r m.receiver c.processes in
      let inner = get-changed_other r c.processes m.receiver p (λ e. not_r (sym e)) in
      let outer = get-changed_other s after_r m.sender p (λ e. not_s (sym e)) in
      ap (silent_by t c.clock p) (outer ∙ inner)

pub silent_and_comm_commute : SilentAndCommCommute
silent_and_comm_commute t c one two p channel logged value h k =
    let x = h.0 in
    let m = k.0 in
    let both = met m (replaced c p x) in
    let s = apart t c p m.sender logged x h.1 (sender-idle t c m k.4) in
    let r = apart t c p m.receiver logged x h.1 (receiver-idle t c m k.4) in (
      both,
      subst (λ (i : Configuration). StepTo t i (Comm channel value) both) (sym h.2)
          (m, k.1, k.2, k.3, meets_still c m p x s r k.4, refl),
      subst (λ (i : Configuration). StepTo t i (Silent p logged) both) (sym k.5)
          (x, silent_of-met c m p x s r t ∙ h.1, met-replaced c m p x s r),
    )
