-- Where one behaviour of a determinate system ends by termination, deadlock or at the horizon, all behaviours agree with it.
use Rattle.std.proofs.Common.{◌≡◌, ◌≢◌, refl, sym, ap, ap₂, ◌∙◌, subst, ℕ, zero, suc, ◌+◌, ◌<◌, Bool, true, false, not, ◌||◌, ◌==◌, if◌then◌else◌, List, [], ◌∷◌, ◌++◌, length, map, slice_get, Option, Some, None, is_some, arith, inl, inr}
use Rattle.std.proofs.lemmas.Bool.{and_parts, and_from, true≢false}
use Rattle.hc_rational.specs.Words.{Rational, rank}
use Rattle.hc_term.specs.declared.stmt.Stmt.{Stmt}
use Rattle.hc_term.specs.declared.task.Task.{Task}
use Rattle.hc_term.specs.declared.run.Step.{Step}
use Rattle.hc_term.specs.declared.run.Step.TheVariants.{Silent, Comm, Delay}
use Rattle.hc_term.specs.declared.run.Item.{Item}
use Rattle.hc_term.specs.declared.run.Stop.{Stop}
use Rattle.hc_term.specs.declared.run.Stop.TheVariants.{Terminated, Deadlock, Horizon, Limit, Overflow}
use Rattle.hc_term.specs.declared.post.Offer.{Offer}
use Rattle.hc_term.specs.declared.model.Mark.{Mark}
use Rattle.hc_term.specs.declared.model.ProcessState.{ProcessState}
use Rattle.hc_term.specs.declared.model.Configuration.{Configuration}
use Rattle.hc_term.specs.Value.{Store}
use Rattle.hc_term.specs.Process.{is_done, wants, wants_at, bound}
use Rattle.hc_term.specs.Silent.{Outcome, Idle, Unfit, Did, silent}
use Rattle.hc_term.specs.Offers.{post_at, post}
use Rattle.hc_term.specs.Communication.{sent, received}
use Rattle.hc_term.specs.Posts.{sent_on, Passing, NoBound, AtHorizon, Overflows, Took, is_empty, is_timed, passing_below}
use Rattle.hc_term.specs.Step.{opening, posts, rests, all_ended, passing, passing_quiet, silent_by, silent_of, changed, SendsAt, StepTo, Leads}
use Rattle.hc_term.specs.Stop.{StopsAt, Stops, IsBehaviour}
use Rattle.hc_term.proofs.Wanting.{active-wants}
use Rattle.hc_term.proofs.Offering.{sender-idle, receiver-idle}
use Rattle.hc_term.proofs.Places.{get-set_other, get-changed_other}
use Rattle.hc_term.proofs.Turns.{passing-quiet}
use Rattle.hc_order.specs.declared.handed.Handed.{Handed}
use Rattle.hc_order.specs.Determinate.{is_determinate, handed_by, handed}
use Rattle.hc_order.specs.Laws.{Agree, IsSettled, DeterminateRunsAgree}
use Rattle.hc_order.proofs.OneWay.{resting}
use Rattle.hc_order.proofs.Diamond.{Reaches, opening-reaches, step-reaches, Diamond, diamond, rest-silent, meets-ready}

-- ---- what is handed over

if-append : (b : Bool) (h : Handed) (xs ys : List Handed) →
    (if b then h ∷ (xs ++ ys) else (xs ++ ys)) ≡ (if b then h ∷ xs else xs) ++ ys
if-append true h xs ys = refl
if-append false h xs ys = refl

handed_by-append : (ch : ℕ) (at : Rational) (s : Step) (xs ys : List Handed) →
    handed_by ch at s (xs ++ ys) ≡ handed_by ch at s xs ++ ys
handed_by-append ch at (Silent p l) xs ys = refl
handed_by-append ch at (Comm c v) xs ys = if-append (c == ch) (record { at = at; value = v }) xs ys
handed_by-append ch at (Delay d) xs ys = refl

module _ (t : Task) where
  -- no step leads on
  abbrev pub Final : Configuration → Type 0
  Final c = (s : Step) (new : Configuration) → StepTo t c s new → ⊥

  -- ---- a step that is possible at the beginning may be taken there

  record Rest (items : List Item) (c one e : Configuration) (s : Step) : Type 0 where
    others : List Item
    leads : Leads t one others e
    shorter : length items ≡ suc (length others)
    lists : (ch : ℕ) → handed ch items ≡ handed_by ch c.clock s (handed ch others)

  abbrev AllStrip : List Item → Type 0
  AllStrip items =
      (c e one : Configuration) (s : Step) → Reaches t c → Leads t c items e → Final e → StepTo t c s one →
      Rest items c one e s

  strip_by : (i : Item) (is : List Item) (c mid e one : Configuration) (s : Step) → i.at ≡ c.clock →
      StepTo t c i.step mid → Reaches t mid → Leads t mid is e → Final e → AllStrip is → Diamond t c i.step s mid one →
      Rest (i ∷ is) c one e s
  strip_by i is c mid e one s at x r l f ih (inl same) = record {
    others = is;
    leads = subst (λ (d : Configuration). Leads t d is e) same.1 l;
    shorter = refl;
    lists = λ ch. ap₂ (λ (k : Rational) (u : Step). handed_by ch k u (handed ch is)) at same.0;
  }
  strip_by i is c mid e one s at x r l f ih (inr j) =
      let k = ih mid e j.both s r l f j.then_u in
      let next : Item = record { at = one.clock; step = i.step } in
      record {
        others = next ∷ k.others;
        leads = (refl, (j.both, j.then_s, k.leads));
        shorter = ap suc k.shorter;
        lists = λ ch.
            ap₂ (λ (b : Rational) (hs : List Handed). handed_by ch b i.step hs) at (k.lists ch)
            ∙ ap (λ (b : Rational). handed_by ch c.clock i.step (handed_by ch b s (handed ch k.others))) j.clock_one
            ∙ j.swaps ch (handed ch k.others)
            ∙ ap (λ (b : Rational). handed_by ch c.clock s (handed_by ch b i.step (handed ch k.others))) (sym j.clock_two);
      }

  strip : (items : List Item) → AllStrip items
  strip [] c e one s r l f x = absurd (f s one (subst (λ (d : Configuration). StepTo t d s one) (sym l) x))
  strip (i ∷ is) c e one s r l f x =
      strip_by i is c l.1.0 e one s l.0 l.1.1 (step-reaches t i.step c l.1.0 l.1.1 r) l.1.2 f (strip is)
      (diamond t c r i.step s l.1.0 one l.1.1 x)

  -- ---- so any run from there can be led on to the end

  record LedOn (items js : List Item) (d e : Configuration) : Type 0 where
    others : List Item
    leads : Leads t d others e
    counted : length items ≡ length js + length others
    lists : (ch : ℕ) → handed ch items ≡ handed ch js ++ handed ch others

  led_on : (js items : List Item) (c d e : Configuration) → Reaches t c → Leads t c items e → Final e → Leads t c js d →
      LedOn items js d e
  led_on [] items c d e r l f m = record {
    others = items;
    leads = subst (λ (x : Configuration). Leads t x items e) (sym m) l;
    counted = omega arith;
    lists = λ ch. refl;
  }
  led_on (j ∷ js) items c d e r l f m =
      let k = strip items c e m.1.0 j.step r l f m.1.1 in
      let g = led_on js k.others m.1.0 d e (step-reaches t j.step c m.1.0 m.1.1 r) k.leads f m.1.2 in
      record {
        others = g.others;
        leads = g.leads;
        counted = omega (arith, k.shorter, g.counted);
        lists = λ ch.
            k.lists ch
            ∙ ap₂ (λ (b : Rational) (hs : List Handed). handed_by ch b j.step hs) (sym m.0) (g.lists ch)
            ∙ handed_by-append ch j.at j.step (handed ch js) (handed ch g.others);
      }

  -- ---- stops that end

  quiet-final : (c : Configuration) (what : Passing) → passing t c ≡ Some what → ((d : Rational) → what ≡ Took d → ⊥) → Final c
  quiet-final c what e never (Silent p l) new s = rest-silent t c p l s.0 (passing-quiet t c what e).resting s.1
  quiet-final c what e never (Comm a v) new s =
      meets-ready t c s.0 (subst (λ (i : ℕ). i < length t.system.channels) (sym s.1) s.3) s.4 (passing-quiet t c what e).quiet
  quiet-final c what e never (Delay d) new s = never d (same_passing what (Took d) (passing t c) e s.0) where
    same_passing : (a b : Passing) (o : Option Passing) → o ≡ Some a → o ≡ Some b → a ≡ b
    same_passing a b o f g = cc

  -- where all have ended, time has nothing to do
  done-wants : (todo : List Stmt) (mark : Mark) (b : Option Rational) → is_done todo ≡ true → wants_at mark b todo ≡ false
  done-wants [] mark b e = refl
  done-wants (s ∷ ss) mark b e = cc

  done-untimed : (clock : Rational) (s : Store) (b : Option Rational) (mark : Mark) (todo : List Stmt) → is_done todo ≡ true →
      let p = post_at clock s b mark todo in (is_some p.bound || not (is_empty p.moving)) ≡ false
  done-untimed clock s b mark [] e = refl
  done-untimed clock s b mark (x ∷ xs) e = cc

  ended-rests : (qs : List ProcessState) → all_ended qs ≡ true → rests qs ≡ true
  ended-rests [] e = refl
  ended-rests (q ∷ qs) e =
      let parts = and_parts (is_done q.todo) (all_ended qs) e in
      and_from (not (wants q)) (rests qs) (ap not (done-wants q.todo q.mark (bound q) parts.0)) (ended-rests qs parts.1)

  neither : (a b : Bool) → a ≡ false → b ≡ false → (a || b) ≡ false
  neither true b e f = cc
  neither false b e f = f

  ended-untimed : (clock : Rational) (qs : List ProcessState) → all_ended qs ≡ true → is_timed (map (post clock) qs) ≡ false
  ended-untimed clock [] e = refl
  ended-untimed clock (q ∷ qs) e =
      let parts = and_parts (is_done q.todo) (all_ended qs) e in
      neither _ _ (done-untimed clock q.store (bound q) q.mark q.todo parts.0) (ended-untimed clock qs parts.1)

  done-offers : (clock : Rational) (s : Store) (b : Option Rational) (mark : Mark) (todo : List Stmt) → is_done todo ≡ true →
      (post_at clock s b mark todo).offers ≡ []
  done-offers clock s b mark [] e = refl
  done-offers clock s b mark (x ∷ xs) e = cc

  ended-gives : (ch : ℕ) (v clock : Rational) (qs : List ProcessState) (k : ℕ) → all_ended qs ≡ true →
      SendsAt ch v (slice_get (map (post clock) qs) k) → ⊥
  ended-gives ch v clock [] k e g = g
  ended-gives ch v clock (q ∷ qs) zero e g =
      let parts = and_parts (is_done q.todo) (all_ended qs) e in
      no_gift (post clock q).offers (done-offers clock q.store (bound q) q.mark q.todo parts.0) g where
        no_gift : (os : List Offer) → os ≡ [] → sent_on ch os ≡ Some v → ⊥
        no_gift os f h = let none = sym (ap (sent_on ch) f) ∙ h in cc
  ended-gives ch v clock (q ∷ qs) (suc k) e g = ended-gives ch v clock qs k (and_parts (is_done q.todo) (all_ended qs) e).1 g

  module _ (c : Configuration) (e : all_ended c.processes ≡ true) where
    ended-passing : passing_quiet t c ≡ NoBound
    ended-passing = untimed (is_timed (posts c)) (ended-untimed c.clock c.processes e) where
      untimed : (b : Bool) → b ≡ false →
          (if b then passing_below (rank c.clock t.horizon) c.clock t.horizon (posts c) else NoBound) ≡ NoBound
      untimed true f = cc
      untimed false f = refl

    ended-final : Final c
    ended-final (Silent p l) new s = rest-silent t c p l s.0 (ended-rests c.processes e) s.1
    ended-final (Comm a v) new s = ended-gives s.0.channel s.0.value c.clock c.processes s.0.sender e s.4.gives
    ended-final (Delay d) new s = not_took (passing_quiet t c) d ended-passing (passing-quiet t c (Took d) s.0).what where
      not_took : (p : Passing) (d : Rational) → p ≡ NoBound → p ≡ Took d → ⊥
      not_took p d f g = cc

  -- ---- a step that doesn't fit stays one

  not_idle : (o : Outcome) → o ≡ Unfit → o ≡ Idle → ⊥
  not_idle o e f = cc

  rest-unfit : (c : Configuration) (p : ℕ) → rests c.processes ≡ true → silent_of t c p ≡ Unfit → ⊥
  rest-unfit c p r e = by_place (slice_get c.processes p) refl where
    by_place : (o : Option ProcessState) → slice_get c.processes p ≡ o → ⊥
    by_place None f = let none = sym (ap (silent_by t c.clock p) f) ∙ e in cc
    by_place (Some q) f =
        let unfit : silent t.seed p c.clock q ≡ Unfit = sym (ap (silent_by t c.clock p) f) ∙ e in
        true≢false (sym (active-wants t.seed p c.clock q (not_idle (silent t.seed p c.clock q) unfit))
        ∙ resting t c c.processes p q r f)

  unlike : (c : Configuration) (p q : ℕ) (o : Outcome) → silent_of t c p ≡ Unfit → silent_of t c q ≡ o → (o ≡ Unfit → ⊥) → q ≢ p
  unlike c p q o e f never same = never (sym f ∙ ap (silent_of t c) same ∙ e)

  unfit-stays : (p : ℕ) (c new : Configuration) (s : Step) → silent_of t c p ≡ Unfit → StepTo t c s new → silent_of t new p ≡ Unfit
  unfit-stays p c new (Silent q l) e s =
      let other = unlike c p q (Did l s.0) e s.1 (λ f. cc) in
      subst (λ (d : Configuration). silent_of t d p ≡ Unfit) (sym s.2)
      (ap (silent_by t c.clock p) (get-set_other c.processes q p s.0 other) ∙ e)
  unfit-stays p c new (Comm a v) e s =
      let m = s.0 in
      let from = unlike c p m.sender Idle e (sender-idle t c m s.4) (λ f. cc) in
      let to = unlike c p m.receiver Idle e (receiver-idle t c m s.4) (λ f. cc) in
      let r = received m.channel m.value in
      subst (λ (d : Configuration). silent_of t d p ≡ Unfit) (sym s.5)
      (ap (silent_by t c.clock p)
      (get-changed_other (sent m.channel) (changed r m.receiver c.processes) m.sender p from
      ∙ get-changed_other r c.processes m.receiver p to) ∙ e)
  unfit-stays p c new (Delay d) e s = absurd (rest-unfit c p (passing-quiet t c (Took d) s.0).resting e)

  unfit-run : (p : ℕ) (items : List Item) (c new : Configuration) → silent_of t c p ≡ Unfit → Leads t c items new →
      silent_of t new p ≡ Unfit
  unfit-run p [] c new e l = subst (λ (d : Configuration). silent_of t d p ≡ Unfit) (sym l) e
  unfit-run p (i ∷ is) c new e l = unfit-run p is l.1.0 new (unfit-stays p c l.1.0 i.step e l.1.1) l.1.2

  -- ---- what a stop says

  -- the stop of a configuration in which nothing more is done
  abbrev told_by : Passing → Bool → Option Stop
  told_by NoBound true = Some Terminated
  told_by NoBound false = Some Deadlock
  told_by AtHorizon b = Some Horizon
  told_by Overflows b = Some (Overflow None)
  told_by (Took d) b = None

  abbrev is_quiet : Stop → Bool
  is_quiet Limit = false
  is_quiet (Overflow (Some p)) = false
  is_quiet _ = true

  record Told (c : Configuration) (stop : Stop) : Type 0 where
    final : Final c
    resting : rests c.processes ≡ true
    told : told_by (passing_quiet t c) (all_ended c.processes) ≡ Some stop

  told-at : (c : Configuration) (stop : Stop) → is_quiet stop ≡ true → StopsAt t c stop → Told c stop
  told-at c Limit q s = absurd s
  told-at c (Overflow (Some p)) q s = cc
  told-at c (Overflow None) q s =
      let p = passing-quiet t c Overflows s in
      record {
        final = quiet-final c Overflows s (λ d e. cc);
        resting = p.resting;
        told = ap (λ x. told_by x (all_ended c.processes)) p.what;
      }
  told-at c Terminated q s = record {
    final = ended-final c s;
    resting = ended-rests c.processes s;
    told = ap₂ told_by (ended-passing c s) s;
  }
  told-at c Deadlock q s =
      let p = passing-quiet t c NoBound s.0 in
      record {
        final = quiet-final c NoBound s.0 (λ d e. cc);
        resting = p.resting;
        told = ap₂ told_by p.what s.1;
      }
  told-at c Horizon q s =
      let p = passing-quiet t c AtHorizon s in
      record {
        final = quiet-final c AtHorizon s (λ d e. cc);
        resting = p.resting;
        told = ap (λ x. told_by x (all_ended c.processes)) p.what;
      }

  some_same : (a b : Stop) (o : Option Stop) → o ≡ Some a → o ≡ Some b → a ≡ b
  some_same a b o e f = cc

  -- ---- the theorem

  no_more : (others : List Item) (d e : Configuration) → Final d → Leads t d others e → (length others ≡ 0) × (e ≡ d)
  no_more [] d e f l = (refl, l)
  no_more (i ∷ is) d e f l = absurd (f i.step l.1.0 l.1.1)

  append_none : (hs : List Handed) → (hs ++ []) ≡ hs
  append_none [] = refl
  append_none (h ∷ hs) = ap (λ xs. h ∷ xs) (append_none hs)

  none_handed : (others : List Item) → length others ≡ 0 → (ch : ℕ) → handed ch others ≡ []
  none_handed [] e ch = refl
  none_handed (i ∷ is) e ch = absurd (omega (arith, e))

  agree_by : (items js : List Item) (end last : Configuration) (stop other : Stop) → Told end stop → length items < t.limit →
      LedOn items js last end → Stops t (length js) last other → Agree items js end last × (stop ≡ other)
  agree_by items js end last stop other h short g (inl k) = absurd (omega (arith, short, g.counted, k.0))
  agree_by items js end last stop other h short g (inr k) = by_stop other k.1 where
    by_quiet : (other : Stop) → is_quiet other ≡ true → StopsAt t last other → Agree items js end last × (stop ≡ other)
    by_quiet other q s =
        let there = told-at last other q s in
        let none = no_more g.others last end there.final g.leads in (
          record {
            steps = omega (arith, g.counted, none.0);
            same_end = none.1;
            lists = λ ch. g.lists ch ∙ ap (λ xs. handed ch js ++ xs) (none_handed g.others none.0 ch) ∙ append_none (handed ch js);
          },
          some_same stop other (told_by (passing_quiet t end) (all_ended end.processes)) h.told
              (ap (λ (d : Configuration). told_by (passing_quiet t d) (all_ended d.processes)) none.1 ∙ there.told),
        )

    by_stop : (other : Stop) → StopsAt t last other → Agree items js end last × (stop ≡ other)
    by_stop Limit s = absurd s
    by_stop (Overflow (Some p)) s = absurd (rest-unfit end p h.resting (unfit-run p g.others last end s g.leads))
    by_stop (Overflow None) s = by_quiet (Overflow None) refl s
    by_stop Terminated s = by_quiet Terminated refl s
    by_stop Deadlock s = by_quiet Deadlock refl s
    by_stop Horizon s = by_quiet Horizon refl s

  settled-quiet : (stop : Stop) → IsSettled stop → is_quiet stop ≡ true
  settled-quiet stop (inl e) = ap is_quiet e
  settled-quiet stop (inr (inl e)) = ap is_quiet e
  settled-quiet stop (inr (inr e)) = ap is_quiet e

  limit-unsettled : is_quiet Limit ≡ true → ⊥
  limit-unsettled e = cc

  agree : (items js : List Item) (end last : Configuration) (stop other : Stop) → is_determinate t.system ≡ true →
      IsBehaviour t items end stop → IsSettled stop → IsBehaviour t js last other → Agree items js end last × (stop ≡ other)
  agree items js end last stop other det b settled k = by_stops b.stops where
    quiet : is_quiet stop ≡ true
    quiet = settled-quiet stop settled

    by_stops : Stops t (length items) end stop → Agree items js end last × (stop ≡ other)
    by_stops (inl s) = absurd (limit-unsettled (sym (ap is_quiet s.1) ∙ quiet))
    by_stops (inr s) =
        let told = told-at end stop quiet s.1 in
        let g = led_on js items (opening t) last end (opening-reaches t det) b.run.leads told.final k.run.leads in
        agree_by items js end last stop other told s.0 g k.stops

pub determinate_runs_agree : DeterminateRunsAgree
determinate_runs_agree t items others end last stop other det b s k = agree t items others end last stop other det b s k
