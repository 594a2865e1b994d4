-- There is one way to move on demand.
use Rattle.std.proofs.Common.{◌≡◌, refl, sym, ap, ap₂, ◌∙◌, subst, subst₂, ℕ, zero, suc, ◌+◌, ◌<◌, Bool, true, false, not, ◌&&◌, ◌==◌, List, [], ◌∷◌, length, slice_get, Option, Some, None, arith, ◌⊎◌, inl, inr}
use Rattle.std.proofs.lemmas.Bool.{or_cases, and_parts, leb-true, true≢false}
use Rattle.std.proofs.lemmas.Bool.Decides.{nat_tests}
use Rattle.hc_rational.specs.Words.{Rational}
use Rattle.hc_term.specs.declared.system.Process.{Process}
use Rattle.hc_term.specs.declared.task.Task.{Task}
use Rattle.hc_term.specs.declared.run.Step.{Step}
use Rattle.hc_term.specs.declared.run.Step.TheVariants.{Silent, Comm, Delay}
use Rattle.hc_term.specs.declared.run.Item.{Item}
use Rattle.hc_term.specs.declared.model.ProcessState.{ProcessState}
use Rattle.hc_term.specs.declared.model.Meeting.{Meeting}
use Rattle.hc_term.specs.declared.model.Configuration.{Configuration}
use Rattle.hc_term.specs.Process.{wants}
use Rattle.hc_term.specs.Rules.{is_user}
use Rattle.hc_term.specs.Silent.{Outcome, Idle, Did, silent}
use Rattle.hc_term.specs.Posts.{Took}
use Rattle.hc_term.specs.Step.{opening, posts, rests, silent_by, silent_of, replaced, met, SendsAt, Meets, StepTo}
use Rattle.hc_term.proofs.Wanting.{active-wants}
use Rattle.hc_term.proofs.Offering.{sender-idle, receiver-idle}
use Rattle.hc_term.proofs.Turns.{passing-quiet}
use Rattle.hc_term.proofs.Bodies.{UsesNoMore, no_more-same, no_more-trans, Keeps, silent-keeps}
use Rattle.hc_order.specs.Shown.{is_visible, all_visible}
use Rattle.hc_order.specs.Demand.{Strolls, StrollsIf, Movers, AllStroll, Advances, asked, is_end_of, Follows, OnDemand}
use Rattle.hc_order.specs.Laws.{OneWayOnDemand}
use Rattle.hc_order.proofs.Ends.{KeepsBodies, opening-keeps, step-keeps, PassesAt, pass_once, giver-uses, wisher-uses, joined}

-- ---- what is left to do after a stroll uses no other channels

module _ (t : Task) (clock : Rational) where
  stroll-no_more : (p n : ℕ) (q r : ProcessState) → Strolls t clock p n q r → UsesNoMore q.todo r.todo
  stroll-no_more p zero q r s = subst (λ (x : ProcessState). UsesNoMore q.todo x.todo) s (no_more-same q.todo)
  stroll-no_more p (suc n) q r s =
      no_more-trans q.todo s.0.todo r.todo (subst (Keeps q.todo) s.1 (silent-keeps t.seed p clock q))
      (stroll-no_more p n s.0 r s.2)

  stroll_if-no_more : (b : Bool) (p n : ℕ) (q r : ProcessState) → StrollsIf b t clock p n q r → UsesNoMore q.todo r.todo
  stroll_if-no_more true p n q r s = stroll-no_more p n q r s
  stroll_if-no_more false p n q r s = subst (λ (x : ProcessState). UsesNoMore q.todo x.todo) s.1 (no_more-same q.todo)

  all-keep : (who : Movers) (bodies : List Process) (p n : ℕ) (qs rs : List ProcessState) →
      AllStroll who t clock p n qs rs → KeepsBodies bodies qs → KeepsBodies bodies rs
  all-keep who bodies p n [] [] h k = k
  all-keep who bodies p n [] (r ∷ rs) h k = absurd h
  all-keep who bodies p n (q ∷ qs) [] h k = absurd h
  all-keep who [] p n (q ∷ qs) (r ∷ rs) h k = absurd k
  all-keep who (b ∷ bodies) p n (q ∷ qs) (r ∷ rs) h k = (
    no_more-trans b.body q.todo r.todo k.0 (stroll_if-no_more (who p) p h.0 q r h.3),
    all-keep who bodies (suc p) h.1 qs rs h.4 k.1,
  )

pub advance-keeps : (who : Movers) (t : Task) (n : ℕ) (c d : Configuration) → Advances who t n c d →
    KeepsBodies t.system.processes c.processes → KeepsBodies t.system.processes d.processes
advance-keeps who t n c d h k = all-keep t c.clock who t.system.processes 0 n c.processes d.processes h.stroll k

-- ---- one stroll, up to where there is no invisible step

pub did_one : (o : Outcome) (l k : Option Rational) (q r : ProcessState) → o ≡ Did l q → o ≡ Did k r → (l ≡ k) × (q ≡ r)
did_one o l k q r e f = (cc, cc)

module _ (t : Task) (clock : Rational) where
  -- process number p has no invisible step in this state
  abbrev pub Halted : ℕ → ProcessState → Type 0
  Halted p q = (x : ProcessState) → silent t.seed p clock q ≡ Did None x → ⊥

  abbrev pub HaltedAt : ℕ → Option ProcessState → Type 0
  HaltedAt p None = Unit {0}
  HaltedAt p (Some q) = Halted p q

  pub one_stroll : (p n m : ℕ) (q r s : ProcessState) → Strolls t clock p n q r → Strolls t clock p m q s →
      Halted p r → Halted p s → (n ≡ m) × (r ≡ s)
  one_stroll p zero zero q r s h k i j = (refl, sym h ∙ k)
  one_stroll p zero (suc m) q r s h k i j = absurd (i k.0 (ap (silent t.seed p clock) (sym h) ∙ k.1))
  one_stroll p (suc n) zero q r s h k i j = absurd (j h.0 (ap (silent t.seed p clock) (sym k) ∙ h.1))
  one_stroll p (suc n) (suc m) q r s h k i j =
      let same = (did_one (silent t.seed p clock q) None None h.0 k.0 h.1 k.1).1 in
      let rest = one_stroll p n m h.0 r s h.2 (subst (λ (x : ProcessState). Strolls t clock p m x s) (sym same) k.2) i j in
      (ap suc rest.0, rest.1)

  one_stroll_if : (b : Bool) (p n m : ℕ) (q r s : ProcessState) → StrollsIf b t clock p n q r →
      StrollsIf b t clock p m q s → (b ≡ true → Halted p r) → (b ≡ true → Halted p s) → (n ≡ m) × (r ≡ s)
  one_stroll_if true p n m q r s h k i j = one_stroll p n m q r s h k (i refl) (j refl)
  one_stroll_if false p n m q r s h k i j = (h.0 ∙ sym k.0, sym h.1 ∙ k.1)

  -- each mover has no invisible step left
  abbrev pub AllHalted : Movers → ℕ → List ProcessState → Type 0
  AllHalted who p qs = (i at : ℕ) → i ≡ p + at → who i ≡ true → HaltedAt i (slice_get qs at)

  halted_next : (who : Movers) (p : ℕ) (q : ProcessState) (qs : List ProcessState) → AllHalted who p (q ∷ qs) →
      AllHalted who (suc p) qs
  halted_next who p q qs h i at e w = h i (suc at) (omega (arith, e)) w

  pub one_all : (who : Movers) (p n m : ℕ) (qs rs ss : List ProcessState) → AllStroll who t clock p n qs rs →
      AllStroll who t clock p m qs ss → AllHalted who p rs → AllHalted who p ss → (n ≡ m) × (rs ≡ ss)
  one_all who p n m [] [] [] h k i j = (h ∙ sym k, refl)
  one_all who p n m [] (r ∷ rs) ss h k i j = absurd h
  one_all who p n m [] [] (s ∷ ss) h k i j = absurd k
  one_all who p n m (q ∷ qs) [] ss h k i j = absurd h
  one_all who p n m (q ∷ qs) (r ∷ rs) [] h k i j = absurd k
  one_all who p n m (q ∷ qs) (r ∷ rs) (s ∷ ss) h k i j =
      let here = one_stroll_if (who p) p h.0 k.0 q r s h.3 k.3 (i p 0 (omega arith)) (j p 0 (omega arith)) in
      let rest = one_all who (suc p) h.1 k.1 qs rs ss h.4 k.4 (halted_next who p r rs i) (halted_next who p s ss j) in
      (omega (arith, h.2, k.2, here.0, rest.0), ap₂ (λ (x : ProcessState) (xs : List ProcessState). x ∷ xs) here.1 rest.1)

-- ---- whoever a step asks for has no invisible step where it is taken

module _ (t : Task) (c : Configuration) where
  pub idle-halted : (p : ℕ) (o : Outcome) → silent_of t c p ≡ o → ((x : ProcessState) → o ≡ Did None x → ⊥) →
      HaltedAt t c.clock p (slice_get c.processes p)
  idle-halted p o e never = by_place (slice_get c.processes p) refl where
    by_place : (q : Option ProcessState) → slice_get c.processes p ≡ q → HaltedAt t c.clock p q
    by_place None f = tt
    by_place (Some q) f = λ x s. never x (sym e ∙ ap (silent_by t c.clock p) f ∙ s)

  Settled : Step → Type 0
  Settled step = (p : ℕ) → asked t step p ≡ true → HaltedAt t c.clock p (slice_get c.processes p)

  log-settled : (p : ℕ) (v : Rational) (x : ProcessState) → silent_of t c p ≡ Did (Some v) x → (q : ℕ) →
      (p == q) ≡ true → HaltedAt t c.clock q (slice_get c.processes q)
  log-settled p v x e q w =
      let same : p ≡ q = grind (arith, nat_tests, w) in
      subst (λ (k : ℕ). HaltedAt t c.clock k (slice_get c.processes k)) same
      (idle-halted p (Did (Some v) x) e (λ y f. cc))

  pub resting : (qs : List ProcessState) (p : ℕ) (q : ProcessState) → rests qs ≡ true → slice_get qs p ≡ Some q →
      wants q ≡ false
  resting [] p q r e = cc
  resting (y ∷ qs) zero q r e =
      let same : y ≡ q = cc in
      no_want (wants y) (rests qs) (wants q) r (ap wants same) where
        no_want : (b o w : Bool) → (not b && o) ≡ true → b ≡ w → w ≡ false
        no_want true o w h e = cc
        no_want false o w h e = sym e
  resting (y ∷ qs) (suc p) q r e = resting qs p q (and_parts _ _ r).1 e

  not_idle : (x : ProcessState) (o : Outcome) → o ≡ Did None x → o ≡ Idle → ⊥
  not_idle x o e f = cc

  pub rest-halted : rests c.processes ≡ true → (p : ℕ) → HaltedAt t c.clock p (slice_get c.processes p)
  rest-halted r p = by_place (slice_get c.processes p) refl where
    by_place : (o : Option ProcessState) → slice_get c.processes p ≡ o → HaltedAt t c.clock p o
    by_place None e = tt
    by_place (Some q) e = λ x s.
        true≢false (sym (active-wants t.seed p c.clock q (λ i. not_idle x (silent t.seed p c.clock q) s i)) ∙ resting c.processes p q r e)

  module _ (keeps : KeepsBodies t.system.processes c.processes) (m : Meeting) (below : m.channel < length t.system.channels)
      (meets : Meets m c) where
    sends : PassesAt (is_user true m.channel) (slice_get t.system.processes m.sender)
    sends = giver-uses c.clock m.channel m.value t.system.processes c.processes m.sender keeps meets.gives

    receives : PassesAt (is_user false m.channel) (slice_get t.system.processes m.receiver)
    receives = wisher-uses c.clock m.channel t.system.processes c.processes m.receiver keeps meets.takes

    end_parts : (o : Option Process) → is_end_of m.channel o ≡ true →
        PassesAt (is_user true m.channel) o ⊎ PassesAt (is_user false m.channel) o
    end_parts None e = cc
    end_parts (Some b) e = or_cases (is_user true m.channel b) (is_user false m.channel b) e

    pub one_sender : (p : ℕ) → PassesAt (is_user true m.channel) (slice_get t.system.processes p) → m.sender ≡ p
    one_sender p h =
        let two = and_parts _ _ (and_parts _ _ (joined t m.channel below)).0 in
        pass_once (is_user true m.channel) t.system.processes m.sender p (leb-true _ 1 two.0) sends h

    pub one_receiver : (p : ℕ) → PassesAt (is_user false m.channel) (slice_get t.system.processes p) → m.receiver ≡ p
    one_receiver p h =
        let two = and_parts _ _ (and_parts _ _ (joined t m.channel below)).0 in
        pass_once (is_user false m.channel) t.system.processes m.receiver p (leb-true _ 1 two.1) receives h

    meeting-settled : (p : ℕ) → is_end_of m.channel (slice_get t.system.processes p) ≡ true →
        HaltedAt t c.clock p (slice_get c.processes p)
    meeting-settled p w = elim (end_parts (slice_get t.system.processes p) w) [
      | inl h ↦ subst (λ (k : ℕ). HaltedAt t c.clock k (slice_get c.processes k)) (one_sender p h)
          (idle-halted m.sender Idle (sender-idle t c m meets) (λ x f. cc))
      | inr h ↦ subst (λ (k : ℕ). HaltedAt t c.clock k (slice_get c.processes k)) (one_receiver p h)
          (idle-halted m.receiver Idle (receiver-idle t c m meets) (λ x f. cc))
    ]

  pub step-settled : KeepsBodies t.system.processes c.processes → (step : Step) (new : Configuration) →
      is_visible step ≡ true → StepTo t c step new → (p : ℕ) → asked t step p ≡ true →
      HaltedAt t c.clock p (slice_get c.processes p)
  step-settled k (Silent q None) new v s p w = cc
  step-settled k (Silent q (Some l)) new v s p w = log-settled q l s.0 s.1 p w
  step-settled k (Comm channel value) new v s p w =
      let m = s.0 in
      meeting-settled k m (subst (λ (i : ℕ). i < length t.system.channels) (sym s.1) s.3) s.4 p
      (subst (λ (i : ℕ). is_end_of i (slice_get t.system.processes p) ≡ true) (sym s.1) w)
  step-settled k (Delay d) new v s p w = rest-halted (passing-quiet t c (Took d) s.0).resting p

  -- ---- one step

  one_gift : (ch : ℕ) (v w : Rational) (o : Option _) → SendsAt ch v o → SendsAt ch w o → v ≡ w
  one_gift ch v w None g h = absurd g
  one_gift ch v w (Some p) g h = cc

  same_parts : (a b s e r f : ℕ) (v w : Rational) → a ≡ b → s ≡ e → r ≡ f → v ≡ w →
      ◌≡◌ {A = Meeting} (record { channel = a; sender = s; receiver = r; value = v })
      (record { channel = b; sender = e; receiver = f; value = w })
  same_parts a b s e r f v w h₀ h₁ h₂ h₃ = cc

  pub one_meeting : KeepsBodies t.system.processes c.processes → (m n : Meeting) → m.channel < length t.system.channels →
      n.channel ≡ m.channel → Meets m c → Meets n c → m ≡ n
  one_meeting k m n below same h g =
      let from = one_sender k m below h n.sender
      (subst (λ (i : ℕ). PassesAt (is_user true i) (slice_get t.system.processes n.sender)) same
      (giver-uses c.clock n.channel n.value t.system.processes c.processes n.sender k g.gives)) in
      let to = one_receiver k m below h n.receiver
      (subst (λ (i : ℕ). PassesAt (is_user false i) (slice_get t.system.processes n.receiver)) same
      (wisher-uses c.clock n.channel t.system.processes c.processes n.receiver k g.takes)) in
      let sent_on : SendsAt m.channel n.value (slice_get (posts c) m.sender) =
      subst₂ (λ (i j : ℕ). SendsAt i n.value (slice_get (posts c) j)) same (sym from) g.gives in
      same_parts m.channel n.channel m.sender n.sender m.receiver n.receiver m.value n.value (sym same) from to
      (one_gift m.channel m.value n.value (slice_get (posts c) m.sender) h.gives sent_on)

  pub one_step : KeepsBodies t.system.processes c.processes → (step : Step) (new other : Configuration) →
      StepTo t c step new → StepTo t c step other → new ≡ other
  one_step k (Silent p logged) new other s u =
      s.2 ∙ ap (replaced c p) (did_one (silent_of t c p) logged logged s.0 u.0 s.1 u.1).1 ∙ sym u.2
  one_step k (Comm channel value) new other s u =
      let m = s.0 in
      let n = u.0 in
      let below = subst (λ (i : ℕ). i < length t.system.channels) (sym s.1) s.3 in
      let alike = one_meeting k m n below (u.1 ∙ sym s.1) s.4 u.4 in
      s.5 ∙ ap (λ (x : Meeting). met x c) alike ∙ sym u.5
  one_step k (Delay d) new other s u = s.1 ∙ sym u.1

-- ---- one line, and all of them

pub same_configuration : (j k : Rational) (qs rs : List ProcessState) → j ≡ k → qs ≡ rs →
    ◌≡◌ {A = Configuration} (record { clock = j; processes = qs }) (record { clock = k; processes = rs })
same_configuration j k qs rs e f = cc

module _ (t : Task) where
  abbrev Kept : Configuration → Type 0
  Kept c = KeepsBodies t.system.processes c.processes

  pub follow-keeps : (i : Item) (n : ℕ) (c new : Configuration) → Follows t i n c new → Kept c → Kept new
  follow-keeps i n c new f k =
      step-keeps t t.system.processes i.step f.mid new f.step
      (advance-keeps (asked t i.step) t f.moves c f.mid f.advances k)

  one_follow : (i : Item) (n m : ℕ) (c new other : Configuration) → is_visible i.step ≡ true → Kept c →
      Follows t i n c new → Follows t i m c other → (n ≡ m) × (new ≡ other)
  one_follow i n m c new other v k f g =
      let who = asked t i.step in
      let settled : (d : Configuration) (j : ℕ) (end : Configuration) → Advances who t j c d → StepTo t d i.step end →
      AllHalted t c.clock who 0 d.processes =
      λ d j end a s p at e w.
      let here : at ≡ p = omega (arith, e) in
      subst₂ (λ (x : Rational) (y : ℕ). HaltedAt t x p (slice_get d.processes y)) (sym a.same_clock) (sym here)
      (step-settled t d (advance-keeps who t j c d a k) i.step end v s p w) in
      let both = one_all t c.clock who 0 f.moves g.moves c.processes f.mid.processes g.mid.processes f.advances.stroll
      g.advances.stroll (settled f.mid f.moves new f.advances f.step) (settled g.mid g.moves other g.advances g.step) in
      let mids : f.mid ≡ g.mid =
      same_configuration f.mid.clock g.mid.clock f.mid.processes g.mid.processes
      (sym f.advances.same_clock ∙ g.advances.same_clock) both.1 in
      let kept = advance-keeps who t f.moves c f.mid f.advances k in (
        f.counted ∙ ap suc both.0 ∙ sym g.counted,
        one_step t f.mid kept i.step new other f.step
            (subst (λ (d : Configuration). StepTo t d i.step other) (sym mids) g.step),
      )

  one_demand : (is : List Item) (n m : ℕ) (c new other : Configuration) → all_visible is ≡ true → Kept c →
      OnDemand t is n c new → OnDemand t is m c other → (n ≡ m) × (new ≡ other)
  one_demand [] n m c new other v k f g = (f.0 ∙ sym g.0, sym f.1 ∙ g.1)
  one_demand (i ∷ is) n m c new other v k f g =
      let both = and_parts (is_visible i.step) (all_visible is) v in
      let here = one_follow i f.0 g.0 c f.2 g.2 both.0 k f.4 g.4 in
      let later = subst (λ (d : Configuration). OnDemand t is g.1 d other) (sym here.1) g.5 in
      let rest = one_demand is f.1 g.1 f.2 new other both.1 (follow-keeps i f.0 c f.2 f.4 k) f.5 later in
      (omega (arith, f.3, g.3, here.0, rest.0), rest.1)

pub one_way_on_demand : OneWayOnDemand
one_way_on_demand t lines n m c d v f g =
    one_demand t lines n m (opening t) c d v (opening-keeps t.system.processes) f g
