-- The line of a communication: both ends of the channel take their steps, and then they meet; there is no other way to follow it.
use Rattle.std.proofs.Common.{◌≡◌, ◌≢◌, refl, sym, ap, subst, ◌∙◌, ℕ, zero, suc, ◌+◌, ◌≤◌, ◌<◌, Bool, true, false, if◌then◌else◌, List, [], ◌∷◌, length, slice_get, slice_set, Option, Some, None, ◌⊎◌, inl, inr, count_by, arith}
use Rattle.hc_rational.specs.Words.{Rational}
use Rattle.std.proofs.lemmas.Bool.{or_cases, and_parts, or_left, or_right, leb-true, not-true, true≢false}
use Rattle.hc_term.specs.declared.system.Process.{Process}
use Rattle.hc_term.specs.declared.system.System.{System}
use Rattle.hc_term.specs.declared.task.Task.{Task}
use Rattle.hc_term.specs.declared.ends.Ends.{Ends}
use Rattle.hc_term.specs.declared.run.Step.TheVariants.{Comm}
use Rattle.hc_term.specs.declared.run.Item.{Item}
use Rattle.hc_term.specs.declared.model.ProcessState.{ProcessState}
use Rattle.hc_term.specs.declared.model.Meeting.{Meeting}
use Rattle.hc_term.specs.declared.model.Configuration.{Configuration}
use Rattle.hc_term.specs.Offers.{post}
use Rattle.hc_term.specs.Rules.{is_user}
use Rattle.hc_term.specs.Ends.{user_from, ends_of, is_joining}
use Rattle.hc_term.specs.Silent.{Idle, Did, silent}
use Rattle.hc_term.specs.Step.{opening, silent_by, silent_of, replaced, met, SendsAt, ReceivesAt, Meets, StepTo, Leads}
use Rattle.hc_term.proofs.Offering.{sender-idle, receiver-idle}
use Rattle.hc_term.proofs.Places.{get-set_other, get-set_same}
use Rattle.hc_term.proofs.Reached.{meetings_join_ends}
use Rattle.hc_runs.specs.Laws.{Joins}
use Rattle.hc_runs.proofs.Basics.{length-set}
use Rattle.hc_order.specs.Demand.{Movers, Strolls, Advances, AreHalted, Follows, asked, is_end_of}
use Rattle.hc_order.proofs.Ends.{PassesAt, pass_both, pass_once, joined}
use Rattle.hc_order.proofs.Stroll.{all_of, all_stay}
use Rattle.hc_order.proofs.Paths.{demand-path, advance-path, path_then}
use Rattle.hc_order.proofs.Advancing.{advances_one, advances_add, moves_are_needed, halted_moves_are_all}
use Rattle.hc_member.proofs.Places.{mapped_at}
use Rattle.hc_verify.specs.declared.walk.Walk.{Walk}
use Rattle.hc_verify.specs.Stands.{IsAt}
use Rattle.hc_verify.specs.Halting.{HasNoStep}
use Rattle.hc_verify.specs.Communicating.{IsBetweenEnds, HaveHalted, BothHalt, IsMeetingOn, IsOffered}
use Rattle.hc_verify.specs.Following.{IsReached, Followed}
use Rattle.hc_verify.proofs.Counted.{all_there}
use Rattle.hc_verify.proofs.Delaying.{not_idle}
use Rattle.hc_verify.proofs.Logging.{is_there, same_number}
use Rattle.hc_verify.proofs.Stilling.{stroll_in}

-- ---- those who meet

-- two that are there and meet join
pub joins : (w : Walk) (sys : System) (c : Configuration) (m : Meeting) → IsAt sys w c → m.sender ≢ m.receiver →
    m.sender < length w.members.items → m.receiver < length w.members.items → Meets m c → Joins m c
joins w sys c m at differ low high meets =
    let s = is_there c.processes m.sender (omega (arith, low, at.members.counted)) in
    let r = is_there c.processes m.receiver (omega (arith, high, at.members.counted)) in
    record {
      sender = s.0;
      receiver = r.0;
      differ = differ;
      sender_is = s.1;
      receiver_is = r.1;
      sends = subst (SendsAt m.channel m.value) (mapped_at (post c.clock) c.processes m.sender s.0 s.1) meets.gives;
      receives = subst (ReceivesAt m.channel) (mapped_at (post c.clock) c.processes m.receiver r.0 r.1) meets.takes;
    }

-- ---- the ends of a channel

-- the first user of a channel uses it
user_by : (sending : Bool) (c n : ℕ) (b : Process) (bodies : List Process) (k : ℕ) (used : Bool) → is_user sending c b ≡ used →
    (if used then Some n else user_from sending c (n + 1) bodies) ≡ Some k →
    (user_from sending c (n + 1) bodies ≡ Some k → (i : ℕ) × (k ≡ n + 1 + i) × PassesAt (is_user sending c) (slice_get bodies i)) →
    (i : ℕ) × (k ≡ n + i) × PassesAt (is_user sending c) (slice_get (b ∷ bodies) i)
user_by sending c n b bodies k true u e later = let same : n ≡ k = cc in (0, omega (arith, same), u)
user_by sending c n b bodies k false u e later = let r = later e in (suc r.0, omega (arith, r.1), r.2)

user_is : (sending : Bool) (c n : ℕ) (bodies : List Process) (k : ℕ) → user_from sending c n bodies ≡ Some k →
    (i : ℕ) × (k ≡ n + i) × PassesAt (is_user sending c) (slice_get bodies i)
user_is sending c n [] k e = cc
user_is sending c n (b ∷ bodies) k e = user_by sending c n b bodies k (is_user sending c b) refl e (user_is sending c (n + 1) bodies k)

uses_it : (sending : Bool) (c : ℕ) (bodies : List Process) (k : ℕ) → user_from sending c 0 bodies ≡ Some k →
    PassesAt (is_user sending c) (slice_get bodies k)
uses_it sending c bodies k e =
    let u = user_is sending c 0 bodies k e in
    let here : u.0 ≡ k = omega (arith, u.1) in
    subst (λ (i : ℕ). PassesAt (is_user sending c) (slice_get bodies i)) here u.2

is_end_by : (c : ℕ) (o : Option Process) → PassesAt (is_user true c) o ⊎ PassesAt (is_user false c) o → is_end_of c o ≡ true
is_end_by c None (inl h) = absurd h
is_end_by c None (inr h) = absurd h
is_end_by c (Some b) (inl h) = or_left (is_user true c b) (is_user false c b) h
is_end_by c (Some b) (inr h) = or_right (is_user true c b) (is_user false c b) h

end_parts : (c : ℕ) (o : Option Process) → is_end_of c o ≡ true → PassesAt (is_user true c) o ⊎ PassesAt (is_user false c) o
end_parts c None e = cc
end_parts c (Some b) e = or_cases (is_user true c b) (is_user false c b) e

there_by : (f : Process → Bool) (bodies : List Process) (k : ℕ) → PassesAt f (slice_get bodies k) → k < length bodies
there_by f [] k h = absurd h
there_by f (b ∷ bodies) zero h = omega arith
there_by f (b ∷ bodies) (suc k) h = omega (arith, there_by f bodies k h)

module _ (t : Task) (channel : ℕ) (value : Rational) (m : Meeting) (between : IsBetweenEnds t.system channel value m) where
  abbrev who : Movers
  who = asked t (Comm channel value)

  sender_uses : PassesAt (is_user true channel) (slice_get t.system.processes m.sender)
  sender_uses = uses_it true channel t.system.processes m.sender (ap (λ (e : Ends). e.sender) between.ends)

  receiver_uses : PassesAt (is_user false channel) (slice_get t.system.processes m.receiver)
  receiver_uses = uses_it false channel t.system.processes m.receiver (ap (λ (e : Ends). e.receiver) between.ends)

  sender_asked : who m.sender ≡ true
  sender_asked = is_end_by channel (slice_get t.system.processes m.sender) (inl sender_uses)

  receiver_asked : who m.receiver ≡ true
  receiver_asked = is_end_by channel (slice_get t.system.processes m.receiver) (inr receiver_uses)

  few : (count_by (is_user true channel) t.system.processes ≤ 1) × (count_by (is_user false channel) t.system.processes ≤ 1)
  few =
      let both = and_parts _ _ (and_parts _ _ (joined t channel between.below)).0 in
      (leb-true _ 1 both.0, leb-true _ 1 both.1)

  -- the line asks for no others
  only_ends : (p : ℕ) → who p ≡ true → (m.sender ≡ p) ⊎ (m.receiver ≡ p)
  only_ends p w = elim (end_parts channel (slice_get t.system.processes p) w) [
    | inl h ↦ inl (pass_once (is_user true channel) t.system.processes m.sender p few.0 sender_uses h)
    | inr h ↦ inr (pass_once (is_user false channel) t.system.processes m.receiver p few.1 receiver_uses h)
  ]

  pub differ : m.sender ≢ m.receiver
  differ same =
      let here = subst (λ (i : ℕ). PassesAt (is_user false channel) (slice_get t.system.processes i)) (sym same) receiver_uses in
      let both = pass_both (is_user true channel) (is_user false channel) t.system.processes m.sender sender_uses here in
      true≢false (sym both ∙ not-true _ (and_parts _ _ (joined t channel between.below)).1)

  pub sender_there : m.sender < length t.system.processes
  sender_there = there_by (is_user true channel) t.system.processes m.sender sender_uses

  pub receiver_there : m.receiver < length t.system.processes
  receiver_there = there_by (is_user false channel) t.system.processes m.receiver receiver_uses

-- ---- the line

idle_still : (t : Task) (d : Configuration) (clock : Rational) (p : ℕ) (x : ProcessState) → clock ≡ d.clock →
    slice_get d.processes p ≡ Some x → silent_of t d p ≡ Idle → HasNoStep t clock p x
idle_still t d clock p x same there idle logged y did =
    let here : silent t.seed p clock x ≡ Idle =
    ap (λ (z : Rational). silent t.seed p z x) same ∙ sym (ap (silent_by t d.clock p) there) ∙ idle in
    not_idle logged y (silent t.seed p clock x) did here

same_parts : (a b s e r f : ℕ) (v w : Rational) → a ≡ b → s ≡ e → r ≡ f → v ≡ w →
    ◌≡◌ {A = Meeting} (record { channel = a; sender = s; receiver = r; value = v })
    (record { channel = b; sender = e; receiver = f; value = w })
same_parts a b s e r f v w h₀ h₁ h₂ h₃ = cc

same_ends : (s e r f : ℕ) → ◌≡◌ {A = Ends} (record { sender = Some s; receiver = Some r }) (record { sender = Some e; receiver = Some f }) →
    (s ≡ e) × (r ≡ f)
same_ends s e r f h =
    let first : Some s ≡ Some e = ap (λ (x : Ends). x.sender) h in
    let second : Some r ≡ Some f = ap (λ (x : Ends). x.receiver) h in
    (cc, cc)

module _ (t : Task) (channel : ℕ) (value : Rational) (room : ℕ) (w : Walk) (c : Configuration) (reached : IsReached t w room c) where
  abbrev line_at : Rational → Item
  line_at at = record { at = at; step = Comm channel value }

  abbrev movers : Movers
  movers = asked t (Comm channel value)

  pub other_moment : (at : Rational) (new : Walk) → (at ≡ w.clock → ⊥) → Followed t (line_at at) room c new None
  other_moment at new other k d f le = other (f.at ∙ sym reached.at.clock)

  -- a run leads to what the movers reach
  run_to : (k : ℕ) (d : Configuration) → Advances movers t k c d → (items : List Item) × Leads t (opening t) items d
  run_to k d advances =
      let path = path_then t reached.lines [] reached.steps k (opening t) c d
      (demand-path t reached.lines reached.steps (opening t) c reached.visible reached.follows) (advance-path t movers k c d advances) in
      (path.items, path.leads)

  -- whoever meets there on the channel are its ends
  are_ends : (k : ℕ) (d : Configuration) (n : Meeting) → Advances movers t k c d → n.channel ≡ channel → channel < length t.system.channels →
      Meets n d → ends_of t.system channel ≡ record { sender = Some n.sender; receiver = Some n.receiver }
  are_ends k d n advances on below meets =
      let run = run_to k d advances in
      let own : n.channel < length t.system.channels = subst (λ (i : ℕ). i < length t.system.channels) (sym on) below in
      ap (ends_of t.system) (sym on) ∙ meetings_join_ends t run.0 d n run.1 own meets

  pub no_meeting : (at : Rational) (new : Walk) → IsMeetingOn t.system channel value None → Followed t (line_at at) room c new None
  no_meeting at new none k d f le =
      let s = f.step in
      let ends = are_ends f.moves f.mid s.0 f.advances s.1 s.3 s.4 in
      true≢false (sym (ap is_joining ends) ∙ none s.3)

  module _ (m : Meeting) (between : IsBetweenEnds t.system channel value m) where
    pub sender_below : m.sender < length w.members.items
    sender_below =
        let run = run_to 0 c (record { same_clock = refl; stroll = all_stay t c.clock movers 0 c.processes }) in
        omega (arith, sender_there t channel value m between, all_there t run.0 c run.1, reached.at.members.counted)

    pub receiver_below : m.receiver < length w.members.items
    receiver_below =
        let run = run_to 0 c (record { same_clock = refl; stroll = all_stay t c.clock movers 0 c.processes }) in
        omega (arith, receiver_there t channel value m between, all_there t run.0 c run.1, reached.at.members.counted)

    -- the ends in c
    pub sender_here : (q : ProcessState) × (slice_get c.processes m.sender ≡ Some q)
    sender_here = is_there c.processes m.sender (omega (arith, sender_below, reached.at.members.counted))

    pub receiver_here : (q : ProcessState) × (slice_get c.processes m.receiver ≡ Some q)
    receiver_here = is_there c.processes m.receiver (omega (arith, receiver_below, reached.at.members.counted))

    abbrev q : ProcessState
    q = sender_here.0

    abbrev r : ProcessState
    r = receiver_here.0

    -- they meet where the line's step is taken
    meets_there : (k : ℕ) (d new : Configuration) → Advances movers t k c d → StepTo t d (Comm channel value) new → Meets m d
    meets_there k d new advances s =
        let n = s.0 in
        let parts = same_ends n.sender m.sender n.receiver m.receiver (sym (are_ends k d n advances s.1 s.3 s.4) ∙ between.ends) in
        let same : n ≡ m =
        same_parts n.channel m.channel n.sender m.sender n.receiver m.receiver n.value m.value
        (s.1 ∙ sym between.on) parts.0 parts.1 (s.2 ∙ sym between.over) in
        subst (λ (x : Meeting). Meets x d) same s.4

    both_advance : (n : ℕ) (h : HaveHalted t m c.clock q r n) →
        Advances movers t n c (replaced (replaced c m.sender h.sender) m.receiver h.receiver)
    both_advance n h =
        let first = advances_one movers t h.sending m.sender c q h.sender (sender_asked t channel value m between) sender_here.1 h.sender_strolls in
        let mid = replaced c m.sender h.sender in
        let last = replaced mid m.receiver h.receiver in
        let there = get-set_other c.processes m.sender m.receiver h.sender (differ t channel value m between) ∙ receiver_here.1 in
        let second = advances_one movers t h.receiving m.receiver mid r h.receiver (receiver_asked t channel value m between) there h.receiver_strolls in
        subst (λ (k : ℕ). Advances movers t k c last) (sym h.counted)
        (advances_add movers t h.sending h.receiving c mid last first second)

    needed : (at : Rational) (n : ℕ) → HaveHalted t m c.clock q r n → (k : ℕ) (new : Configuration) → Follows t (line_at at) k c new → n < k
    needed at n h k new f =
        moves_are_needed t reached.lines (line_at at) reached.steps n k c (replaced (replaced c m.sender h.sender) m.receiver h.receiver)
        new refl reached.follows (both_advance n h) f

    -- the strolls of both to where the step is taken
    strolled : (k : ℕ) (d : Configuration) → Advances movers t k c d → (p : ℕ) (x y : ProcessState) → slice_get c.processes p ≡ Some x →
        slice_get d.processes p ≡ Some y → (n : ℕ) × Strolls t c.clock p n x y
    strolled k d advances p x y from to =
        let s = stroll_in t c.clock 0 p k c.processes d.processes x y (all_of t c.clock movers 0 k c.processes d.processes advances.stroll) from to in
        let here : 0 + p ≡ p = omega arith in
        (s.0, subst (λ (i : ℕ). Strolls t c.clock i s.0 x y) here s.1)

    have_halted : (n k : ℕ) (x y : ProcessState) → Strolls t c.clock m.sender n q x → Strolls t c.clock m.receiver k r y →
        HasNoStep t c.clock m.sender x → HasNoStep t c.clock m.receiver y → HaveHalted t m c.clock q r (n + k)
    have_halted n k x y one two one_still two_still = record {
      sender = x;
      receiver = y;
      sending = n;
      receiving = k;
      counted = refl;
      sender_strolls = one;
      receiver_strolls = two;
      sender_still = one_still;
      receiver_still = two_still;
    }

    pub cannot_halt : (at : Rational) (mid new : Walk) → BothHalt t m room c q r mid None → Followed t (line_at at) room c new None
    cannot_halt at mid new h k d f le =
        let meets = meets_there f.moves f.mid d f.advances f.step in
        let same = same_number t c.clock movers 0 f.moves c.processes f.mid.processes f.advances.stroll in
        let x = is_there f.mid.processes m.sender (omega (arith, sender_below, reached.at.members.counted, same)) in
        let y = is_there f.mid.processes m.receiver (omega (arith, receiver_below, reached.at.members.counted, same)) in
        let one = strolled f.moves f.mid f.advances m.sender q x.0 sender_here.1 x.1 in
        let two = strolled f.moves f.mid f.advances m.receiver r y.0 receiver_here.1 y.1 in
        let one_still = idle_still t f.mid c.clock m.sender x.0 f.advances.same_clock x.1 (sender-idle t f.mid m meets) in
        let two_still = idle_still t f.mid c.clock m.receiver y.0 f.advances.same_clock y.1 (receiver-idle t f.mid m meets) in
        let all = have_halted one.0 two.0 x.0 y.0 one.1 two.1 one_still two_still in
        let more = needed at (one.0 + two.0) all k d f in
        h (one.0 + two.0) all (omega (arith, more, le))

    module _ (n : ℕ) (h : HaveHalted t m c.clock q r n) where
      abbrev pub halted : Configuration
      halted = replaced (replaced c m.sender h.sender) m.receiver h.receiver

      sender_is : slice_get halted.processes m.sender ≡ Some h.sender
      sender_is =
          get-set_other (slice_set c.processes m.sender h.sender) m.receiver m.sender h.receiver (λ e. differ t channel value m between (sym e))
          ∙ get-set_same c.processes m.sender q h.sender sender_here.1

      receiver_is : slice_get halted.processes m.receiver ≡ Some h.receiver
      receiver_is =
          get-set_same (slice_set c.processes m.sender h.sender) m.receiver r h.receiver
          (get-set_other c.processes m.sender m.receiver h.sender (differ t channel value m between) ∙ receiver_here.1)

      are_halted : AreHalted movers t halted
      are_halted p asks x s = elim (only_ends t channel value m between p asks) [
        | inl e ↦ h.sender_still None x
            (sym (ap (silent_by t c.clock m.sender) sender_is) ∙ subst (λ (i : ℕ). silent_of t halted i ≡ Did None x) (sym e) s)
        | inr e ↦ h.receiver_still None x
            (sym (ap (silent_by t c.clock m.receiver) receiver_is) ∙ subst (λ (i : ℕ). silent_of t halted i ≡ Did None x) (sym e) s)
      ]

      -- only the meeting is missing
      must : (at : Rational) (k : ℕ) (new : Configuration) → Follows t (line_at at) k c new →
          (k ≡ suc n) × StepTo t halted (Comm channel value) new
      must at k new f =
          halted_moves_are_all t reached.lines (line_at at) reached.steps n k c halted new refl reached.follows (both_advance n h) are_halted f

      -- no member was added or lost
      pub members_after : (mid : Walk) → IsAt t.system mid halted → length mid.members.items ≡ length w.members.items
      members_after mid at =
          at.members.counted ∙ length-set (slice_set c.processes m.sender h.sender) m.receiver h.receiver
          ∙ length-set c.processes m.sender h.sender ∙ sym reached.at.members.counted

      pub too_many : (at : Rational) (new : Walk) → room ≤ n → Followed t (line_at at) room c new None
      too_many at new past k d f le = let all = (must at k d f).0 in omega (arith, all, past, le)

      pub not_met : (at : Rational) (mid new : Walk) → IsOffered t.system m halted mid false → Followed t (line_at at) room c new None
      not_met at mid new never k d f le = never (meets_there n halted d (both_advance n h) (must at k d f).1)

      pub they_meet : (at : Rational) (new : Walk) → at ≡ w.clock → n < room → IsOffered t.system m halted new true →
          Followed t (line_at at) room c new (Some (n + 1))
      they_meet at new here low offered = (
        omega (arith, low),
        (
          met m halted,
          (record {
            moves = n;
            mid = halted;
            counted = omega arith;
            at = here ∙ reached.at.clock;
            advances = both_advance n h;
            step = (m, between.on, between.over, between.below, offered.0, refl);
          }),
          offered.1,
        ),
      )
