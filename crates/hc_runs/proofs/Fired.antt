-- After a meeting the two that met show what their new states show, and all others what they showed; and in what a run reaches the
-- meeting on the ready channel joins two processes.
use Rattle.std.proofs.Common.{◌≡◌, ◌≢◌, refl, sym, ap, ◌∙◌, ℕ, zero, suc, List, [], ◌∷◌, map, slice_get, slice_set, Option, Some, None}
use Rattle.hc_rational.specs.Words.{Rational}
use Rattle.hc_term.specs.declared.post.Post.{Post}
use Rattle.hc_term.specs.declared.model.ProcessState.{ProcessState}
use Rattle.hc_term.specs.Offers.{going_post, post}
use Rattle.hc_term.specs.Communication.{sent, received}
use Rattle.hc_term.specs.Step.{posts, changed, SendsAt, ReceivesAt}
use Rattle.hc_term.proofs.Places.{set-set_other, get-changed_other}
use Rattle.hc_term.proofs.Reached.{meetings_join_two}
use Rattle.hc_runs.specs.Laws.{PostsMeet, ReadyJoins}
use Rattle.hc_term.proofs.Ready.{ready_meets}
use Rattle.hc_runs.proofs.Basics.{set_twice}

-- a change of one process is a change of its post
post_changed : (clock : Rational) (f : ProcessState → ProcessState) (qs : List ProcessState) (p : ℕ) (q : ProcessState) → slice_get qs p ≡ Some q →
    map (post clock) (changed f p qs) ≡ slice_set (map (post clock) qs) p (post clock (f q))
post_changed clock f [] p q at = cc
post_changed clock f (r ∷ qs) zero q at = let same : r ≡ q = cc in ap (λ (x : ProcessState). post clock (f x) ∷ map (post clock) qs) same
post_changed clock f (r ∷ qs) (suc p) q at = ap (λ (l : List Post). post clock r ∷ l) (post_changed clock f qs p q at)

-- what two places held before doesn't matter where both are set anew
set_both : (ps : List Post) (s r : ℕ) (g x y : Post) → s ≢ r →
    slice_set (slice_set (slice_set (slice_set ps s g) r g) s x) r y ≡ slice_set (slice_set ps r y) s x
set_both ps s r g x y differ =
    ap (λ (l : List Post). slice_set l r y)
    (set-set_other (slice_set ps s g) r s g x (λ e. differ (sym e)) ∙ ap (λ (l : List Post). slice_set l r g) (set_twice ps s g x))
    ∙ set_twice (slice_set ps s x) r g y
    ∙ set-set_other ps s r x y differ

pub posts_meet : PostsMeet
posts_meet c m sender receiver differ sends receives =
    let send = sent m.channel in
    let receive = received m.channel m.value in
    let qs = c.processes in
    let still = get-changed_other receive qs m.receiver m.sender (λ e. differ (sym e)) ∙ sends in
    post_changed c.clock send (changed receive m.receiver qs) m.sender sender still
    ∙ ap (λ (l : List Post). slice_set l m.sender (post c.clock (send sender))) (post_changed c.clock receive qs m.receiver receiver receives)
    ∙ sym (set_both (posts c) m.sender m.receiver going_post (post c.clock (send sender)) (post c.clock (receive receiver)) differ)

-- ---- the meeting on the ready channel

-- the process that shows a post of which something holds that holds of none
record Shows (holds : Option Post → Type 0) (clock : Rational) (qs : List ProcessState) (p : ℕ) : Type 0 where
  process : ProcessState
  is : slice_get qs p ≡ Some process
  shown : holds (Some (post clock process))

shower : (holds : Option Post → Type 0) → (holds None → ⊥) → (clock : Rational) (qs : List ProcessState) (p : ℕ) → holds (slice_get (map (post clock) qs) p) →
    Shows holds clock qs p
shower holds none clock [] p h = absurd (none h)
shower holds none clock (q ∷ qs) zero h = record { process = q; is = refl; shown = h }
shower holds none clock (q ∷ qs) (suc p) h =
    let found = shower holds none clock qs p h in
    record { process = found.process; is = found.is; shown = found.shown }

pub ready_joins : ReadyJoins
ready_joins t items c m run e =
    let is = ready_meets t c m e in
    let meets = is.1 in
    let giving = shower (SendsAt m.channel m.value) (λ h. h) c.clock c.processes m.sender meets.gives in
    let taking = shower (ReceivesAt m.channel) (λ h. h) c.clock c.processes m.receiver meets.takes in (
      is.0,
      record {
        sender = giving.process;
        receiver = taking.process;
        differ = meetings_join_two t items c m run is.0 meets;
        sender_is = giving.is;
        receiver_is = taking.is;
        sends = giving.shown;
        receives = taking.shown;
      },
    )
