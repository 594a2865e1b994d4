-- Two members that are told of their meeting, one after the other.
use Rattle.std.proofs.Common.{◌≡◌, ◌≢◌, sym, ap, subst, ◌∙◌, ℕ, List, map, slice_get, slice_set, Some, None, true}
use Rattle.hc_rational.specs.Words.{Rational}
use Rattle.hc_term.specs.declared.post.Post.{Post}
use Rattle.hc_term.specs.declared.model.ProcessState.{ProcessState}
use Rattle.hc_term.specs.declared.model.Meeting.{Meeting}
use Rattle.hc_term.specs.declared.model.Configuration.{Configuration}
use Rattle.hc_term.specs.Offers.{post}
use Rattle.hc_term.specs.Posts.{sent_on, receives_on}
use Rattle.hc_term.specs.Communication.{sent, received}
use Rattle.hc_term.specs.Step.{posts, changed, met}
use Rattle.hc_term.proofs.Places.{set-set_other, get-changed_other, get-set_other}
use Rattle.hc_runs.specs.Laws.{Joins}
use Rattle.hc_member.specs.declared.member.Member.{Member}
use Rattle.hc_member.specs.States.{IsIn, AllIn}
use Rattle.hc_member.proofs.Places.{changed_sets}
use Rattle.hc_member.proofs.Beside.{all_but_one}
use Rattle.hc_member.proofs.Shown.{set_shown}

module _ (f g : ProcessState → ProcessState) (qs : List ProcessState) (s r : ℕ) (a b : ProcessState)
    (differ : s ≢ r) (s_is : slice_get qs s ≡ Some a) (r_is : slice_get qs r ≡ Some b) where
  -- both changes set their places
  both_changed : changed f s (changed g r qs) ≡ slice_set (slice_set qs s (f a)) r (g b)
  both_changed =
      changed_sets f (changed g r qs) s a (get-changed_other g qs r s (λ e. differ (sym e)) ∙ s_is)
      ∙ ap (λ (l : List ProcessState). slice_set l s (f a)) (changed_sets g qs r b r_is)
      ∙ set-set_other qs r s (g b) (f a) (λ e. differ (sym e))

  -- and what is shown at both
  both_shown : (clock : Rational) →
      map (post clock) (changed f s (changed g r qs)) ≡ slice_set (slice_set (map (post clock) qs) s (post clock (f a))) r (post clock (g b))
  both_shown clock =
      ap (map (post clock)) both_changed ∙ set_shown clock (slice_set qs s (f a)) r (g b)
      ∙ ap (λ (l : List Post). slice_set l r (post clock (g b))) (set_shown clock qs s (f a))

  all_told : (clock : Rational) (ms : List Member) (m n : Member) → AllIn clock ms qs →
      IsIn s clock m (f a) → IsIn r clock n (g b) →
      AllIn clock (slice_set (slice_set ms s m) r n) (changed f s (changed g r qs))
  all_told clock ms m n all one other =
      let first = all_but_one clock ms qs s m (f a) all one in
      let both = all_but_one clock (slice_set ms s m) (slice_set qs s (f a)) r n (g b) first other in
      subst (λ (l : List ProcessState). AllIn clock (slice_set (slice_set ms s m) r n) l) (sym both_changed) both

-- the member shows this, in whatever state it is
abbrev pub ShowsAll : Member → Post → Type 0
ShowsAll m shown = (k : ℕ) (clock : Rational) (q : ProcessState) → IsIn k clock m q → shown ≡ post clock q

-- the sender was told, and then the receiver, and what each shows stands among the posts
pub record HasTold (m : Meeting) (old new : List Member) (before after : List Post) (one sender two receiver : Member)
    (sending receiving : Post) : Type 0 where
  pub sender_is : slice_get old m.sender ≡ Some one
  pub sends : (k : ℕ) (clock : Rational) (q : ProcessState) → IsIn k clock one q → sent_on m.channel (post clock q).offers ≢ None →
      IsIn k clock sender (sent m.channel q)
  pub sender_shows : ShowsAll sender sending
  pub receiver_is : slice_get (slice_set old m.sender sender) m.receiver ≡ Some two
  pub receives : (k : ℕ) (clock : Rational) (q : ProcessState) → IsIn k clock two q → receives_on m.channel (post clock q).offers ≡ true →
      IsIn k clock receiver (received m.channel m.value q)
  pub receiver_shows : ShowsAll receiver receiving
  pub members : new ≡ slice_set (slice_set old m.sender sender) m.receiver receiver
  pub shown : after ≡ slice_set (slice_set before m.sender sending) m.receiver receiving

-- all are in the states after the meeting, and what the two show then stands among the posts
pub record AreTold (m : Meeting) (c : Configuration) (j : Joins m c) (new : List Member) (before after : List Post) : Type 0 where
  pub members : AllIn c.clock new (met m c).processes
  pub shown : after ≡
      slice_set (slice_set before m.sender (post c.clock (sent m.channel j.sender))) m.receiver
      (post c.clock (received m.channel m.value j.receiver))

pub told_by : (m : Meeting) (old new : List Member) (before after : List Post) (one sender two receiver : Member) (sending receiving : Post) →
    HasTold m old new before after one sender two receiver sending receiving →
    (c : Configuration) → AllIn c.clock old c.processes → (j : Joins m c) → AreTold m c j new before after
told_by m old new before after one sender two receiver sending receiving h c all j =
    let send = sent m.channel in
    let receive = received m.channel m.value in
    let first = all.each m.sender one j.sender h.sender_is j.sender_is in
    let told : IsIn m.sender c.clock sender (send j.sender) = h.sends m.sender c.clock j.sender first (λ e. sends_none e) in
    let there : slice_get old m.receiver ≡ Some two = sym (get-set_other old m.sender m.receiver sender j.differ) ∙ h.receiver_is in
    let other = all.each m.receiver two j.receiver there j.receiver_is in
    let took : IsIn m.receiver c.clock receiver (receive j.receiver) = h.receives m.receiver c.clock j.receiver other j.receives in
    record {
      members = subst (λ (l : List Member). AllIn c.clock l (met m c).processes) (sym h.members)
          (all_told send receive c.processes m.sender m.receiver j.sender j.receiver j.differ j.sender_is j.receiver_is
          c.clock old sender receiver all told took);
      shown =
          h.shown
          ∙ ap (λ (x : Post). slice_set (slice_set before m.sender x) m.receiver receiving)
          (h.sender_shows m.sender c.clock (send j.sender) told)
          ∙ ap (λ (x : Post). slice_set (slice_set before m.sender (post c.clock (send j.sender))) m.receiver x)
          (h.receiver_shows m.receiver c.clock (receive j.receiver) took);
    } where
      sends_none : sent_on m.channel (post c.clock j.sender).offers ≡ None → ⊥
      sends_none e = let some = j.sends in cc

-- where the posts were those of all processes, they are so again
pub told_show : (m : Meeting) (c : Configuration) (j : Joins m c) (new : List Member) (before after : List Post) →
    AreTold m c j new before after → before ≡ posts c → after ≡ posts (met m c)
told_show m c j new before after h same =
    let send = sent m.channel in
    let receive = received m.channel m.value in
    h.shown
    ∙ ap (λ (ps : List Post). slice_set (slice_set ps m.sender (post c.clock (send j.sender))) m.receiver (post c.clock (receive j.receiver))) same
    ∙ sym (both_shown send receive c.processes m.sender m.receiver j.sender j.receiver j.differ j.sender_is j.receiver_is c.clock)
