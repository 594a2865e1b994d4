-- A process that offers a communication has no silent step.
use Rattle.std.proofs.Common.{◌≡◌, refl, ap, ℕ, zero, suc, Bool, true, false, if◌then◌else◌, List, [], ◌∷◌, map, slice_get, Some}
use Rattle.hc_rational.specs.Words.{Rational}
use Rattle.hc_term.specs.declared.stmt.Stmt.{Stmt, out-Stmt}
use Rattle.hc_term.specs.declared.stmt.Stmt.TheOpen.{Stmt-F}
use Rattle.hc_term.specs.declared.post.Offer.{Offer}
use Rattle.hc_term.specs.declared.task.Task.{Task}
use Rattle.hc_term.specs.declared.model.Mark.{Mark}
use Rattle.hc_term.specs.declared.model.Mark.TheVariants.{Going, Arrived}
use Rattle.hc_term.specs.declared.model.ProcessState.{ProcessState}
use Rattle.hc_term.specs.declared.model.Meeting.{Meeting}
use Rattle.hc_term.specs.declared.model.Configuration.{Configuration}
use Rattle.hc_term.specs.Value.{Store}
use Rattle.hc_term.specs.Process.{Layer, bound_here, is_due}
use Rattle.hc_term.specs.Silent.{Idle, goes_on, silent}
use Rattle.hc_term.specs.Offers.{offers_here, post}
use Rattle.hc_term.specs.Posts.{sent_on, receives_on}
use Rattle.hc_term.specs.Step.{silent_by, silent_of, SendsAt, ReceivesAt, Meets}

-- some communication is offered
abbrev pub Offers : List Offer → Type 0
Offers os = os ≡ [] → ⊥

none_at_end : (b : Bool) (os : List Offer) → Offers (if b then [] else os) → b ≡ false
none_at_end true os h = absurd (h refl)
none_at_end false os h = refl

not_due : (s : Store) (left : Rational) (l : Layer) → Offers (offers_here s (bound_here s left l) l) →
    is_due (bound_here s left l) ≡ false
not_due s left Stmt-F.Skip h = refl
not_due s left (Stmt-F.Assign x a) h = refl
not_due s left (Stmt-F.Log a) h = refl
not_due s left (Stmt-F.If test first second) h = refl
not_due s left (Stmt-F.Pick left' right) h = refl
not_due s left (Stmt-F.Forever body) h = refl
not_due s left (Stmt-F.Loop test body) h = refl
not_due s left (Stmt-F.Wait time) h = absurd (h refl)
not_due s left (Stmt-F.Io io) h = refl
not_due s left (Stmt-F.Choice branches) h = refl
not_due s left (Stmt-F.Evolve rates domain branches) h = none_at_end _ _ h

-- the same by the parts of the process
idle_at : (seed p : ℕ) (clock : Rational) (todo : List Stmt) (store : Store) (choices : ℕ) (mark : Mark) →
    Offers (post clock (record { todo = todo; store = store; choices = choices; mark = mark })).offers →
    silent seed p clock (record { todo = todo; store = store; choices = choices; mark = mark }) ≡ Idle
idle_at seed p clock [] store choices mark h = refl
idle_at seed p clock (head ∷ rest) store choices Going h = absurd (h refl)
idle_at seed p clock (head ∷ rest) store choices (Arrived left) h =
    let c : ProcessState = record { todo = head ∷ rest; store = store; choices = choices; mark = Arrived left } in
    ap (λ b. if b then goes_on c rest else Idle) (not_due store left (out-Stmt head) h)

pub offering-idle : (seed p : ℕ) (clock : Rational) (c : ProcessState) → Offers (post clock c).offers →
    silent seed p clock c ≡ Idle
offering-idle seed p clock c = idle_at seed p clock c.todo c.store c.choices c.mark

-- a process with a silent step offers nothing
pub active-offers : (seed p : ℕ) (clock : Rational) (c : ProcessState) → (silent seed p clock c ≡ Idle → ⊥) →
    (post clock c).offers ≡ []
active-offers seed p clock c h = by_offers (post clock c).offers refl where
  by_offers : (os : List Offer) → (post clock c).offers ≡ os → (post clock c).offers ≡ []
  by_offers [] e = e
  by_offers (o ∷ os) e = absurd (h (offering-idle seed p clock c (λ f. cc)))

-- ---- by the place of the process

sent_on-offers : (ch : ℕ) (v : Rational) (os : List Offer) → sent_on ch os ≡ Some v → Offers os
sent_on-offers ch v [] e f = cc
sent_on-offers ch v (o ∷ os) e f = cc

receives_on-offers : (ch : ℕ) (os : List Offer) → receives_on ch os ≡ true → Offers os
receives_on-offers ch [] e f = cc
receives_on-offers ch (o ∷ os) e f = cc

module _ (t : Task) (clock : Rational) (p : ℕ) where
  giving-idle : (c : ℕ) (v : Rational) (qs : List ProcessState) (k : ℕ) →
      SendsAt c v (slice_get (map (post clock) qs) k) → silent_by t clock p (slice_get qs k) ≡ Idle
  giving-idle c v [] k h = absurd h
  giving-idle c v (q ∷ qs) zero h = offering-idle t.seed p clock q (sent_on-offers c v (post clock q).offers h)
  giving-idle c v (q ∷ qs) (suc k) h = giving-idle c v qs k h

  receiving-idle : (c : ℕ) (qs : List ProcessState) (k : ℕ) → ReceivesAt c (slice_get (map (post clock) qs) k) →
      silent_by t clock p (slice_get qs k) ≡ Idle
  receiving-idle c [] k h = absurd h
  receiving-idle c (q ∷ qs) zero h = offering-idle t.seed p clock q (receives_on-offers c (post clock q).offers h)
  receiving-idle c (q ∷ qs) (suc k) h = receiving-idle c qs k h

-- both ends of a meeting have no silent step
pub sender-idle : (t : Task) (c : Configuration) (m : Meeting) → Meets m c → silent_of t c m.sender ≡ Idle
sender-idle t c m h = giving-idle t c.clock m.sender m.channel m.value c.processes m.sender h.gives

pub receiver-idle : (t : Task) (c : Configuration) (m : Meeting) → Meets m c → silent_of t c m.receiver ≡ Idle
receiver-idle t c m h = receiving-idle t c.clock m.receiver m.channel c.processes m.receiver h.takes
