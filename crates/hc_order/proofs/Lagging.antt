-- A configuration that lags behind by invisible silent steps follows each visible step by moving on demand.
use Rattle.std.proofs.Common.{◌≡◌, refl, sym, ap, ◌∙◌, subst, ℕ, suc, ◌+◌, true, false, ◌==◌, List, [], ◌∷◌, length, slice_get, slice_set, option_map, Option, Some, None, arith}
use Rattle.std.proofs.lemmas.Option.{slice_get-map}
use Rattle.std.proofs.lemmas.Bool.{or_left, or_right}
use Rattle.std.proofs.lemmas.Bool.Decides.{nat_tests}
use Rattle.hc_rational.specs.Words.{Rational}
use Rattle.hc_term.specs.declared.system.Process.{Process}
use Rattle.hc_term.specs.declared.task.Task.{Task}
use Rattle.hc_term.specs.declared.run.Step.{Step}
use Rattle.hc_term.specs.declared.run.Step.TheVariants.{Silent, Comm, Delay}
use Rattle.hc_term.specs.declared.run.Item.{Item}
use Rattle.hc_term.specs.declared.model.ProcessState.{ProcessState}
use Rattle.hc_term.specs.declared.model.Configuration.{Configuration}
use Rattle.hc_term.specs.Rules.{is_user}
use Rattle.hc_term.specs.Silent.{Did, silent}
use Rattle.hc_term.specs.Offers.{post}
use Rattle.hc_term.specs.Communication.{sent, received}
use Rattle.hc_term.specs.Step.{opening, posts, silent_by, silent_of, changed, replaced, met, SendsAt, ReceivesAt, Meets, StepTo, Leads}
use Rattle.hc_order.specs.Shown.{shown}
use Rattle.hc_order.specs.Demand.{Movers, AllStroll, Advances, asked, is_end_of, Follows, everyone, but}
use Rattle.hc_order.specs.Laws.{ByDemand, RunsMoveOnDemand}
use Rattle.hc_order.proofs.Ends.{KeepsBodies, opening-keeps, step-keeps, PassesAt, giver-uses, wisher-uses}
use Rattle.hc_order.proofs.Stroll.{all_stay, all_of, Split, split, unmoved, change_unmoved, set_unmoved, all_on}

-- ---- who is asked

eq-refl : (p : ℕ) → (p == p) ≡ true
eq-refl p = grind (arith, nat_tests)

pub sender-asked : (c : ℕ) (o : Option Process) → PassesAt (is_user true c) o → is_end_of c o ≡ true
sender-asked c None h = absurd h
sender-asked c (Some b) h = or_left (is_user true c b) (is_user false c b) h

pub receiver-asked : (c : ℕ) (o : Option Process) → PassesAt (is_user false c) o → is_end_of c o ≡ true
receiver-asked c None h = absurd h
receiver-asked c (Some b) h = or_right (is_user true c b) (is_user false c b) h

-- ---- one visible step

module _ (t : Task) where
  -- the step is followed on demand, and the rest of the lead stays
  pub record Behind (i : Item) (n : ℕ) (c new : Configuration) : Type 0 where
    pub moves : ℕ
    pub left : ℕ
    pub lazy : Configuration
    pub counted : suc n ≡ moves + left
    pub follows : Follows t i moves c lazy
    pub rest : Advances everyone t left lazy new

  module _ (c d : Configuration) (n : ℕ) (h : Advances everyone t n c d) where
    abbrev parts : (who : Movers) → Split t c.clock who 0 n c.processes d.processes
    parts who = split t c.clock who 0 n c.processes d.processes h.stroll

    -- those who are asked stand where they stand in d, the others where they stand in c
    abbrev between : Movers → Configuration
    between who = record { clock = d.clock; processes = (parts who).mids }

    reaches : (who : Movers) → Advances who t (parts who).now c (between who)
    reaches who = record { same_clock = h.same_clock; stroll = (parts who).first }

    standing : (who : Movers) (p : ℕ) → who p ≡ true →
        slice_get (between who).processes p ≡ slice_get d.processes p
    standing who p e =
        unmoved t c.clock who p e 0 (parts who).later p (parts who).mids d.processes (omega arith) (parts who).second

    showing : (who : Movers) (p : ℕ) → who p ≡ true → slice_get (posts (between who)) p ≡ slice_get (posts d) p
    showing who p e =
        slice_get-map (post d.clock) (parts who).mids p ∙ ap (option_map (post d.clock)) (standing who p e)
        ∙ sym (slice_get-map (post d.clock) d.processes p)

    -- a configuration that the others lead to
    rest_of : (who : Movers) (new : Configuration) (ms : List ProcessState) → new.clock ≡ d.clock →
        AllStroll (but who) t c.clock 0 (parts who).later ms new.processes →
        Advances everyone t (parts who).later (record { clock = d.clock; processes = ms }) new
    rest_of who new ms e s = record {
      same_clock = sym e;
      stroll = subst (λ (k : Rational). AllStroll everyone t k 0 (parts who).later ms new.processes) h.same_clock
          (all_of t c.clock (but who) 0 (parts who).later ms new.processes s);
    }

    behind : (at : Rational) (step : Step) (who : Movers) (lazy new : Configuration) → who ≡ asked t step →
        at ≡ d.clock → StepTo t (between who) step lazy → Advances everyone t (parts who).later lazy new →
        Behind (record { at = at; step = step }) n c new
    behind at step who lazy new w e s r =
        let p = parts who in
        record {
          moves = suc p.now;
          left = p.later;
          lazy = lazy;
          counted = omega (arith, p.counted);
          follows = record {
            moves = p.now;
            mid = between who;
            counted = refl;
            at = e ∙ sym h.same_clock;
            advances = subst (λ (f : Movers). Advances f t p.now c (between who)) w (reaches who);
            step = s;
          };
          rest = r;
        }

    log-behind : (at : Rational) (p : ℕ) (v : Rational) (new : Configuration) → at ≡ d.clock →
        StepTo t d (Silent p (Some v)) new → Behind (record { at = at; step = Silent p (Some v) }) n c new
    log-behind at p v new e s =
        let who : Movers = asked t (Silent p (Some v)) in
        let yes : who p ≡ true = eq-refl p in
        let x = s.0 in
        let k = parts who in
        let did : silent_of t (between who) p ≡ Did (Some v) x =
        ap (silent_by t d.clock p) (standing who p yes) ∙ s.1 in
        let later = set_unmoved t c.clock who p yes x 0 k.later p k.mids d.processes (omega arith) k.second in
        behind at (Silent p (Some v)) who (replaced (between who) p x) new refl e (x, did, refl)
        (subst (λ (o : Configuration). Advances everyone t k.later (replaced (between who) p x) o) (sym s.2)
        (rest_of who (replaced d p x) (slice_set k.mids p x) refl later))

    module _ (keeps : KeepsBodies t.system.processes d.processes) where
      comm-behind : (at : Rational) (channel : ℕ) (v : Rational) (new : Configuration) → at ≡ d.clock →
          StepTo t d (Comm channel v) new → Behind (record { at = at; step = Comm channel v }) n c new
      comm-behind at channel v new e s =
          let bodies = t.system.processes in
          let who : Movers = asked t (Comm channel v) in
          let m = s.0 in
          let sends : is_end_of m.channel (slice_get bodies m.sender) ≡ true =
          sender-asked m.channel (slice_get bodies m.sender)
          (giver-uses d.clock m.channel m.value bodies d.processes m.sender keeps s.4.gives) in
          let receives : is_end_of m.channel (slice_get bodies m.receiver) ≡ true =
          receiver-asked m.channel (slice_get bodies m.receiver)
          (wisher-uses d.clock m.channel bodies d.processes m.receiver keeps s.4.takes) in
          let from : who m.sender ≡ true =
          subst (λ (k : ℕ). is_end_of k (slice_get bodies m.sender) ≡ true) s.1 sends in
          let to : who m.receiver ≡ true =
          subst (λ (k : ℕ). is_end_of k (slice_get bodies m.receiver) ≡ true) s.1 receives in
          let k = parts who in
          let meets : Meets m (between who) = record {
            gives = subst (SendsAt m.channel m.value) (sym (showing who m.sender from)) s.4.gives;
            takes = subst (ReceivesAt m.channel) (sym (showing who m.receiver to)) s.4.takes;
          } in
          let f = received m.channel m.value in
          let inner = change_unmoved t c.clock who m.receiver to f 0 k.later m.receiver k.mids d.processes
          (omega arith) k.second in
          let outer = change_unmoved t c.clock who m.sender from (sent m.channel) 0 k.later m.sender
          (changed f m.receiver k.mids) (changed f m.receiver d.processes) (omega arith) inner in
          behind at (Comm channel v) who (met m (between who)) new refl e (m, s.1, s.2, s.3, meets, refl)
          (subst (λ (o : Configuration). Advances everyone t k.later (met m (between who)) o) (sym s.5)
          (rest_of who (met m d) (met m (between who)).processes refl outer))

    delay-behind : (at d' : Rational) (new : Configuration) → at ≡ d.clock →
        StepTo t d (Delay d') new → Behind (record { at = at; step = Delay d' }) n c new
    delay-behind at d' new e s = record {
      moves = suc n;
      left = 0;
      lazy = new;
      counted = omega arith;
      follows = record {
        moves = n;
        mid = d;
        counted = refl;
        at = e ∙ sym h.same_clock;
        advances = h;
        step = s;
      };
      rest = record { same_clock = refl; stroll = all_stay t new.clock everyone 0 new.processes };
    }

    -- an invisible step adds to the lead
    lead_on : (p : ℕ) (new : Configuration) → StepTo t d (Silent p None) new → Advances everyone t (suc n) c new
    lead_on p new s = by_place (slice_get d.processes p) refl where
      by_place : (o : Option ProcessState) → slice_get d.processes p ≡ o → Advances everyone t (suc n) c new
      by_place None e = let none = sym (ap (silent_by t d.clock p) e) ∙ s.1 in cc
      by_place (Some r) e =
          let did : silent t.seed p d.clock r ≡ Did None s.0 = sym (ap (silent_by t d.clock p) e) ∙ s.1 in
          let here : silent t.seed p c.clock r ≡ Did None s.0 =
          ap (λ (k : Rational). silent t.seed p k r) h.same_clock ∙ did in
          subst (λ (o : Configuration). Advances everyone t (suc n) c o) (sym s.2) (record {
            same_clock = h.same_clock;
            stroll = all_on t c.clock p r s.0 here 0 n p c.processes d.processes (omega arith) e h.stroll;
          })

  -- ---- a run

  -- what is to be shown of the steps `is`, from each configuration with each lead
  abbrev AllDemand : List Item → Type 0
  AllDemand is =
      (c d end : Configuration) (n : ℕ) → Advances everyone t n c d → KeepsBodies t.system.processes d.processes →
      Leads t d is end → ByDemand t (shown is) (n + length is) c end

  -- a visible step, and then the others
  visible : (i : Item) (is : List Item) → AllDemand is → (c mid end : Configuration) (n : ℕ) → Behind i n c mid →
      KeepsBodies t.system.processes mid.processes → Leads t mid is end →
      ByDemand t (i ∷ shown is) (n + suc (length is)) c end
  visible i is ih c mid end n b k l =
      let r = ih b.lazy mid end b.left b.rest k l in
      record {
        steps = b.moves + r.steps;
        left = r.left;
        mid = r.mid;
        counted = omega (arith, b.counted, r.counted);
        follows = (b.moves, r.steps, b.lazy, refl, b.follows, r.follows);
        rest = r.rest;
      }

  by_step : (at : Rational) (step : Step) (is : List Item) → AllDemand is → (c d mid end : Configuration) (n : ℕ) →
      Advances everyone t n c d → KeepsBodies t.system.processes d.processes → at ≡ d.clock → StepTo t d step mid →
      Leads t mid is end →
      ByDemand t (shown (record { at = at; step = step } ∷ is)) (n + suc (length is)) c end
  by_step at (Silent p None) is ih c d mid end n h k e s l =
      let next = step-keeps t t.system.processes (Silent p None) d mid s k in
      let r = ih c mid end (suc n) (lead_on c d n h p mid s) next l in
      record {
        steps = r.steps;
        left = r.left;
        mid = r.mid;
        counted = omega (arith, r.counted);
        follows = r.follows;
        rest = r.rest;
      }
  by_step at (Silent p (Some v)) is ih c d mid end n h k e s l =
      visible (record { at = at; step = Silent p (Some v) }) is ih c mid end n (log-behind c d n h at p v mid e s)
      (step-keeps t t.system.processes (Silent p (Some v)) d mid s k) l
  by_step at (Comm channel v) is ih c d mid end n h k e s l =
      visible (record { at = at; step = Comm channel v }) is ih c mid end n (comm-behind c d n h k at channel v mid e s)
      (step-keeps t t.system.processes (Comm channel v) d mid s k) l
  by_step at (Delay by) is ih c d mid end n h k e s l =
      visible (record { at = at; step = Delay by }) is ih c mid end n (delay-behind c d n h at by mid e s)
      (step-keeps t t.system.processes (Delay by) d mid s k) l

  demanded : (is : List Item) → AllDemand is
  demanded [] c d end n h k l = record {
    steps = 0;
    left = n;
    mid = c;
    counted = omega arith;
    follows = (refl, refl);
    rest = subst (λ (o : Configuration). Advances everyone t n c o) (sym l) h;
  }
  demanded (i ∷ is) c d end n h k l = by_step i.at i.step is (demanded is) c d l.1.0 end n h k l.0 l.1.1 l.1.2

pub runs_move_on_demand : RunsMoveOnDemand
runs_move_on_demand t items end l =
    let c = opening t in
    let h : Advances everyone t 0 c c =
    record { same_clock = refl; stroll = all_stay t c.clock everyone 0 c.processes } in
    let r = demanded t items c c end 0 h (opening-keeps t.system.processes) l in
    record {
      steps = r.steps;
      left = r.left;
      mid = r.mid;
      counted = omega (arith, r.counted);
      follows = r.follows;
      rest = r.rest;
    }
