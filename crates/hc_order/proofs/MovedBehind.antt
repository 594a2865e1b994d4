-- An invisible step may be taken behind a later step that doesn't ask for its process.
use Rattle.std.proofs.Common.{◌≡◌, ◌≢◌, refl, sym, ap, ◌∙◌, subst, ℕ, false, slice_get, slice_set, option_map, Option, None}
use Rattle.std.proofs.lemmas.Option.{slice_get-map}
use Rattle.std.proofs.lemmas.Bool.{true≢false}
use Rattle.hc_rational.specs.Words.{Rational}
use Rattle.hc_term.specs.declared.task.Task.{Task}
use Rattle.hc_term.specs.declared.run.Step.{Step}
use Rattle.hc_term.specs.declared.run.Step.TheVariants.{Silent, Comm, Delay}
use Rattle.hc_term.specs.declared.model.ProcessState.{ProcessState}
use Rattle.hc_term.specs.declared.model.Configuration.{Configuration}
use Rattle.hc_term.specs.Posts.{Took}
use Rattle.hc_term.specs.Silent.{Did}
use Rattle.hc_term.specs.Offers.{post}
use Rattle.hc_term.specs.Step.{opening, posts, silent_by, silent_of, replaced, met, SendsAt, ReceivesAt, Meets, StepTo}
use Rattle.hc_term.proofs.Commute.{silent_steps_commute, silent_and_comm_commute}
use Rattle.hc_term.proofs.Places.{get-set_other}
use Rattle.hc_term.proofs.Turns.{passing-quiet}
use Rattle.hc_order.specs.Demand.{asked, is_end_of}
use Rattle.hc_order.specs.Laws.{SilentStepIsFixed, DelaysFindRest, InvisibleStepsMoveBehind}
use Rattle.hc_order.proofs.Ends.{KeepsBodies, opening-keeps, run-keeps, step-keeps, giver-uses, wisher-uses}
use Rattle.hc_order.proofs.Lagging.{sender-asked, receiver-asked}
use Rattle.hc_order.proofs.OneWay.{did_one, one_step}
use Rattle.hc_order.proofs.Diamond.{differ}

pub silent_step_is_fixed : SilentStepIsFixed
silent_step_is_fixed t c one two p logged other s u =
    let same = did_one (silent_of t c p) logged other s.0 u.0 s.1 u.1 in
    (same.0, s.2 ∙ ap (replaced c p) same.1 ∙ sym u.2)

pub delays_find_rest : DelaysFindRest
delays_find_rest t c new d s = (passing-quiet t c (Took d) s.0).resting

post-replaced : (c : Configuration) (p k : ℕ) (x : ProcessState) → p ≢ k →
    slice_get (posts (replaced c p x)) k ≡ slice_get (posts c) k
post-replaced c p k x d =
    slice_get-map (post c.clock) (slice_set c.processes p x) k
    ∙ ap (option_map (post c.clock)) (get-set_other c.processes p k x d)
    ∙ sym (slice_get-map (post c.clock) c.processes k)

module _ (t : Task) (c : Configuration) (p : ℕ) (x : ProcessState)
    (keeps : KeepsBodies t.system.processes (replaced c p x).processes) where
  sooner : (s : Step) (new : Configuration) → StepTo t (replaced c p x) s new → asked t s p ≡ false →
      (other : Configuration) × StepTo t c s other
  sooner (Silent q l) new s out =
      let d : p ≢ q = λ e. differ t q p out (sym e) in
      (replaced c q s.0, (s.0, sym (ap (silent_by t c.clock q) (get-set_other c.processes p q x d)) ∙ s.1, refl))
  sooner (Comm channel value) new s out =
      let m = s.0 in
      let bodies = t.system.processes in
      let mid = replaced c p x in
      let out_of : is_end_of m.channel (slice_get bodies p) ≡ false =
      subst (λ (i : ℕ). is_end_of i (slice_get bodies p) ≡ false) (sym s.1) out in
      let not_s : p ≢ m.sender = λ e.
      true≢false (sym (sender-asked m.channel (slice_get bodies m.sender)
      (giver-uses c.clock m.channel m.value bodies mid.processes m.sender keeps s.4.gives))
      ∙ subst (λ (i : ℕ). is_end_of m.channel (slice_get bodies i) ≡ false) e out_of) in
      let not_r : p ≢ m.receiver = λ e.
      true≢false (sym (receiver-asked m.channel (slice_get bodies m.receiver)
      (wisher-uses c.clock m.channel bodies mid.processes m.receiver keeps s.4.takes))
      ∙ subst (λ (i : ℕ). is_end_of m.channel (slice_get bodies i) ≡ false) e out_of) in
      let meets : Meets m c = record {
        gives = subst (SendsAt m.channel m.value) (post-replaced c p m.sender x not_s) s.4.gives;
        takes = subst (ReceivesAt m.channel) (post-replaced c p m.receiver x not_r) s.4.takes;
      } in
      (met m c, (m, s.1, s.2, s.3, meets, refl))
  sooner (Delay d) new s out = absurd (true≢false out)

  -- and the invisible step then leads to where both lead
  behind : (l : Option Rational) (s : Step) (new other : Configuration) → silent_of t c p ≡ Did l x →
      StepTo t (replaced c p x) s new → asked t s p ≡ false → StepTo t c s other → StepTo t other (Silent p l) new
  behind l (Silent q k) new other e s out u =
      let j = silent_steps_commute t c (replaced c p x) other p q l k (λ f. differ t q p out (sym f)) (x, e, refl) u in
      subst (λ (d : Configuration). StepTo t other (Silent p l) d)
      (one_step t (replaced c p x) keeps (Silent q k) j.0 new j.1 s) j.2
  behind l (Comm channel value) new other e s out u =
      let j = silent_and_comm_commute t c (replaced c p x) other p channel l value (x, e, refl) u in
      subst (λ (d : Configuration). StepTo t other (Silent p l) d)
      (one_step t (replaced c p x) keeps (Comm channel value) j.0 new j.1 s) j.2
  behind l (Delay d) new other e s out u = absurd (true≢false out)

pub invisible_steps_move_behind : InvisibleStepsMoveBehind
invisible_steps_move_behind t items c mid new p s l a b out =
    let x = a.0 in
    let kept = run-keeps t t.system.processes items (opening t) c l (opening-keeps t.system.processes) in
    let later = step-keeps t t.system.processes (Silent p None) c (replaced c p x) (x, a.1, refl) kept in
    let there = subst (λ (d : Configuration). StepTo t d s new) a.2 b in
    let first = sooner t c p x later s new there out in
    (first.0, first.1, behind t c p x later None s new first.0 a.1 there out first.1)
