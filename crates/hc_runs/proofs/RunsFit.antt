-- In what a run reaches all numbers are fractions, and so are those in its items.
use Rattle.std.proofs.Common.{◌≡◌, refl, sym, ap, ◌∙◌, subst, ℕ, zero, suc, ◌==◌, Bool, true, false, not, ◌&&◌, if◌then◌else◌, List, [], ◌∷◌, map, length, slice_get, slice_set, Option, Some, None, ◌⊎◌, inl, inr}
use Rattle.std.specs.List.{list_all}
use Rattle.std.proofs.lemmas.Bool.{false≢true, and_parts, and_from}
use Rattle.hc_rational.specs.Words.{Rational, zero_ℚ, ◌+ℚ◌, ◌-ℚ◌, ◌≤ℚ◌, ◌<ℚ◌, fits, is_negative}
use Rattle.hc_rational.proofs.FitsLaws.{zero_fits}
use Rattle.hc_rational.proofs.OrderLaws.{≤ℚ-or-<ℚ, ≤ℚ--ℚ}
use Rattle.hc_rational.proofs.RankLaws.{is_negative_is}
use Rattle.hc_term.specs.Moved.{IsWithin}
use Rattle.hc_term.specs.declared.system.Process.{Process}
use Rattle.hc_term.specs.declared.task.Task.{Task}
use Rattle.hc_term.specs.declared.run.Step.{Step}
use Rattle.hc_term.specs.declared.run.Step.TheVariants.{Silent, Comm, Delay}
use Rattle.hc_term.specs.declared.run.Item.{Item}
use Rattle.hc_term.specs.declared.post.Post.{Post}
use Rattle.hc_term.specs.declared.post.Offer.{Offer}
use Rattle.hc_term.specs.declared.post.Offer.TheVariants as offer
use Rattle.hc_term.specs.declared.model.ProcessState.{ProcessState}
use Rattle.hc_term.specs.declared.model.Configuration.{Configuration}
use Rattle.hc_term.specs.EndMoment.{fits_if}
use Rattle.hc_term.specs.Silent.{Idle, Did}
use Rattle.hc_term.specs.Offers.{post}
use Rattle.hc_term.specs.Communication.{sent, received, moved}
use Rattle.hc_term.specs.Posts.{Took, first_of, offer_sent_on, sent_on, post_fits}
use Rattle.hc_term.specs.Step.{opening, opening_of, posts, passing, silent_by, silent_of, changed, SendsAt, StepTo, Leads}
use Rattle.hc_term.specs.Together.{is_within}
use Rattle.hc_runs.specs.Laws.{keeps_profile}
use Rattle.hc_runs.proofs.Taking.{taking}
use Rattle.hc_runs.proofs.Resting.{shown_bound}
use Rattle.hc_runs.proofs.Within.{all_posts_move}
use Rattle.hc_runs.proofs.Parts.{Kept, run_keeps, opening_keeps, all_in_profile, all_made}
use Rattle.hc_runs.specs.Fractions.{numbers_in, all_numbers, task_numbers, is_offer_fraction, is_moving_fraction, shows_fractions, is_mark_fraction, has_fractions, is_step_fraction, is_item_fraction}
use Rattle.hc_runs.specs.Laws.{RunsKeepFractions, ItemsAreFractions}
use Rattle.hc_runs.proofs.Numbered.{numbered_inside}
use Rattle.hc_runs.proofs.StepsFit.{Fractions, KeepsFractions, silent_fits, sent_fractions, received_fractions, opening_fractions}
use Rattle.hc_runs.proofs.DelaysFit.{moved_fractions}

-- ---- all processes

abbrev AllFit : Rational → List ProcessState → Type 0
AllFit clock [] = Unit {0}
AllFit clock (q ∷ qs) = Fractions clock q × AllFit clock qs

opening_all : (bodies : List Process) → AllFit zero_ℚ (map opening_of bodies)
opening_all [] = tt
opening_all (b ∷ bodies) = (opening_fractions zero_ℚ b.body (length b.variables), opening_all bodies)

numbered_at : (qs : List ProcessState) (p : ℕ) (q : ProcessState) → list_all (λ (q : ProcessState). all_numbers q.todo) qs ≡ true → slice_get qs p ≡ Some q →
    all_numbers q.todo ≡ true
numbered_at [] p q n at = cc
numbered_at (r ∷ qs) zero q n at =
    let same : r ≡ q = cc in
    subst (λ (q : ProcessState). all_numbers q.todo ≡ true) same (and_parts (all_numbers r.todo) (list_all (λ (q : ProcessState). all_numbers q.todo) qs) n).0
numbered_at (r ∷ qs) (suc p) q n at = numbered_at qs p q (and_parts (all_numbers r.todo) (list_all (λ (q : ProcessState). all_numbers q.todo) qs) n).1 at

fit_at : (clock : Rational) (qs : List ProcessState) (p : ℕ) (q : ProcessState) → AllFit clock qs → slice_get qs p ≡ Some q → Fractions clock q
fit_at clock [] p q k at = cc
fit_at clock (r ∷ qs) zero q k at = let same : r ≡ q = cc in subst (Fractions clock) same k.0
fit_at clock (r ∷ qs) (suc p) q k at = fit_at clock qs p q k.1 at

set_all : (clock : Rational) (qs : List ProcessState) (p : ℕ) (x : ProcessState) → ((q : ProcessState) → slice_get qs p ≡ Some q → Fractions clock q → Fractions clock x) →
    AllFit clock qs → AllFit clock (slice_set qs p x)
set_all clock [] p x h k = k
set_all clock (q ∷ qs) zero x h k = (h q refl k.0, k.1)
set_all clock (q ∷ qs) (suc p) x h k = (k.0, set_all clock qs p x h k.1)

changed_all : (clock : Rational) (f : ProcessState → ProcessState) → ((q : ProcessState) → Fractions clock q → Fractions clock (f q)) → (qs : List ProcessState) (p : ℕ) →
    AllFit clock qs → AllFit clock (changed f p qs)
changed_all clock f h [] p k = k
changed_all clock f h (q ∷ qs) zero k = (h q k.0, k.1)
changed_all clock f h (q ∷ qs) (suc p) k = (k.0, changed_all clock f h qs p k.1)

-- ---- the value of a meeting

sent_on_by : (c : ℕ) (v : Rational) (o : Offer) (b : Bool) (at slope : Rational) → (fits at && fits slope) ≡ true → (if b then Some at else None) ≡ Some v → fits v ≡ true
sent_on_by c v o true at slope h e = let same : at ≡ v = cc in ap fits (sym same) ∙ (and_parts (fits at) (fits slope) h).0
sent_on_by c v o false at slope h e = cc

one_sent : (c : ℕ) (v : Rational) (o : Offer) → is_offer_fraction o ≡ true → offer_sent_on c o ≡ Some v → fits v ≡ true
one_sent c v (offer.Send channel at slope) h e = sent_on_by c v (offer.Send channel at slope) (channel == c) at slope h e
one_sent c v (offer.Receive channel) h e = cc

first_sent : (v : Rational) (x y : Option Rational) → (x ≡ Some v → fits v ≡ true) → (y ≡ Some v → fits v ≡ true) → first_of x y ≡ Some v → fits v ≡ true
first_sent v (Some w) y h k e = h e
first_sent v None y h k e = k e

sent_on-fits : (c : ℕ) (v : Rational) (os : List Offer) → list_all is_offer_fraction os ≡ true → sent_on c os ≡ Some v → fits v ≡ true
sent_on-fits c v [] h e = cc
sent_on-fits c v (o ∷ os) h e =
    let parts = and_parts (is_offer_fraction o) (list_all is_offer_fraction os) h in
    first_sent v (offer_sent_on c o) (sent_on c os) (one_sent c v o parts.0) (sent_on-fits c v os parts.1) e

given_fits : (clock : Rational) (c : ℕ) (v : Rational) (qs : List ProcessState) (k : ℕ) → AllFit clock qs → SendsAt c v (slice_get (map (post clock) qs) k) → fits v ≡ true
given_fits clock c v [] k h g = absurd g
given_fits clock c v (q ∷ qs) zero h g =
    let p = post clock q in
    sent_on-fits c v p.offers (and_parts (fits_if p.bound && fits_if p.due && list_all is_moving_fraction p.moving) (list_all is_offer_fraction p.offers) h.0.shown).1 g
given_fits clock c v (q ∷ qs) (suc k) h g = given_fits clock c v qs k h.1 g

-- ---- a delay

from_test : (q : Rational) → not (is_negative q) ≡ true → (zero_ℚ ≤ℚ q) ⊎ (q <ℚ zero_ℚ) → zero_ℚ ≤ℚ q
from_test q h (inl k) = k
from_test q h (inr k) = absurd (false≢true (sym (ap not ((is_negative_is q).1 k)) ∙ h))

within_from : (d : Rational) (b : Option Rational) → is_within d b ≡ true → IsWithin d b
within_from d None h = tt
within_from d (Some b) h = (≤ℚ--ℚ d b).0 (from_test (b -ℚ d) h (≤ℚ-or-<ℚ zero_ℚ (b -ℚ d)))

moved_all : (clock d : Rational) (qs : List ProcessState) → list_all keeps_profile qs ≡ true → zero_ℚ ≤ℚ d →
    list_all (λ (p : Post). is_within d p.bound) (map (post clock) qs) ≡ true → list_all (post_fits d) (map (post clock) qs) ≡ true → AllFit clock qs →
    AllFit (clock +ℚ d) (map (moved d) qs)
moved_all clock d [] p k w f h = tt
moved_all clock d (q ∷ qs) p k w f h =
    let kept = and_parts (keeps_profile q) (list_all keeps_profile qs) p in
    let within = and_parts (is_within d (post clock q).bound) (list_all (λ (p : Post). is_within d p.bound) (map (post clock) qs)) w in
    let works = and_parts (post_fits d (post clock q)) (list_all (post_fits d) (map (post clock) qs)) f in (
      moved_fractions clock d q kept.0 k (subst (IsWithin d) (shown_bound clock q) (within_from d (post clock q).bound within.0)) works.0 h.0,
      moved_all clock d qs kept.1 k within.1 works.1 h.1,
    )

-- ---- a run

module _ (t : Task) (n : task_numbers t ≡ true) where
  record Fitting (c : Configuration) : Type 0 where
    kept : Kept t c
    clocked : fits c.clock ≡ true
    all : AllFit c.clock c.processes

  -- what is left to do has the numbers of the bodies
  numbered : (c : Configuration) → Fitting c → list_all (λ (q : ProcessState). all_numbers q.todo) c.processes ≡ true
  numbered c h = all_made (length t.system.channels) numbers_in numbered_inside t.system.processes c.processes h.kept n

  silent_step : (p : ℕ) (c : Configuration) (q : ProcessState) → Fitting c → slice_get c.processes p ≡ Some q → KeepsFractions c.clock (silent_of t c p)
  silent_step p c q h at =
      subst (KeepsFractions c.clock) (sym (ap (silent_by t c.clock p) at))
      (silent_fits t.seed p c.clock q (numbered_at c.processes p q (numbered c h) at) (fit_at c.clock c.processes p q h.all at))

  -- what holds of the working values of a delay
  record Works (c : Configuration) (d : Rational) : Type 0 where
    fitting : fits d ≡ true
    clocked : fits (c.clock +ℚ d) ≡ true
    posts_fit : list_all (post_fits d) (posts c) ≡ true

  works_of : (c : Configuration) (d : Rational) → passing t c ≡ Some (Took d) → Works c d
  works_of c d e =
      let parts = and_parts (fits d && fits (c.clock +ℚ d)) (list_all (post_fits d) (posts c)) (taking t c d e).fitting in
      let two = and_parts (fits d) (fits (c.clock +ℚ d)) parts.0 in
      record { fitting = two.0; clocked = two.1; posts_fit = parts.1 }

  step_fits : (step : Step) (c new : Configuration) → StepTo t c step new → Fitting c → Fitting new
  step_fits (Silent p logged) c new s h =
      let kept = run_keeps t (record { at = c.clock; step = Silent p logged } ∷ []) c new (refl, (new, s, refl)) h.kept in
      subst Fitting (sym s.2)
      (record {
        kept = subst (Kept t) s.2 kept;
        clocked = h.clocked;
        all = set_all c.clock c.processes p s.0 (λ q at k. (subst (KeepsFractions c.clock) s.1 (silent_step p c q h at)).1) h.all;
      })
  step_fits (Comm channel value) c new s h =
      let m = s.0 in
      let kept = run_keeps t (record { at = c.clock; step = Comm channel value } ∷ []) c new (refl, (new, s, refl)) h.kept in
      let given = given_fits c.clock m.channel m.value c.processes m.sender h.all s.4.gives in
      let r = received m.channel m.value in
      let taken = changed_all c.clock r (λ q k. received_fractions c.clock m.channel m.value q given k) c.processes m.receiver h.all in
      subst Fitting (sym s.5)
      (record {
        kept = subst (Kept t) s.5 kept;
        clocked = h.clocked;
        all = changed_all c.clock (sent m.channel) (sent_fractions c.clock m.channel) (changed r m.receiver c.processes) m.sender taken;
      })
  step_fits (Delay d) c new s h =
      let kept = run_keeps t (record { at = c.clock; step = Delay d } ∷ []) c new (refl, (new, s, refl)) h.kept in
      let profile = all_in_profile (length t.system.channels) t.system.processes c.processes h.kept in
      let moves = all_posts_move t c d profile s.0 in
      let works = works_of c d s.0 in
      subst Fitting (sym s.1)
      (record {
        kept = subst (Kept t) s.1 kept;
        clocked = works.clocked;
        all = moved_all c.clock d c.processes profile moves.0 moves.1 works.posts_fit h.all;
      })

  run_fits : (items : List Item) (c new : Configuration) → Leads t c items new → Fitting c → Fitting new
  run_fits [] c new h k = subst Fitting (sym h) k
  run_fits (i ∷ is) c new h k = run_fits is h.1.0 new h.1.2 (step_fits i.step c h.1.0 h.1.1 k)

  start : Fitting (opening t)
  start = record { kept = opening_keeps t; clocked = zero_fits; all = opening_all t.system.processes }

  -- ---- the items of a run

  logged_by : (p : ℕ) (c : Configuration) (logged : Option Rational) (new : ProcessState) (o : Option ProcessState) → Fitting c → slice_get c.processes p ≡ o →
      silent_of t c p ≡ Did logged new → fits_if logged ≡ true
  logged_by p c logged new (Some q) h at e = (subst (KeepsFractions c.clock) e (silent_step p c q h at)).0
  logged_by p c logged new None h at e = let idle : silent_of t c p ≡ Idle = ap (silent_by t c.clock p) at in cc

  shown_step : (step : Step) (c new : Configuration) → StepTo t c step new → Fitting c → is_step_fraction step ≡ true
  shown_step (Silent p logged) c new s h = logged_by p c logged s.0 (slice_get c.processes p) h refl s.1
  shown_step (Comm channel value) c new s h =
      let m = s.0 in
      ap fits (sym s.2) ∙ given_fits c.clock m.channel m.value c.processes m.sender h.all s.4.gives
  shown_step (Delay d) c new s h = (works_of c d s.0).fitting

  items_fit : (items : List Item) (c new : Configuration) → Leads t c items new → Fitting c → list_all is_item_fraction items ≡ true
  items_fit [] c new h k = refl
  items_fit (i ∷ is) c new h k =
      and_from (is_item_fraction i) (list_all is_item_fraction is)
      (and_from (fits i.at) (is_step_fraction i.step) (ap fits h.0 ∙ k.clocked) (shown_step i.step c h.1.0 h.1.1 k))
      (items_fit is h.1.0 new h.1.2 (step_fits i.step c h.1.0 h.1.1 k))

-- ---- the laws

all_have : (clock : Rational) (qs : List ProcessState) → AllFit clock qs → list_all (has_fractions clock) qs ≡ true
all_have clock [] h = refl
all_have clock (q ∷ qs) h =
    and_from (has_fractions clock q) (list_all (has_fractions clock) qs)
    (and_from (list_all fits q.store && is_mark_fraction q.mark) (shows_fractions (post clock q)) (and_from (list_all fits q.store) (is_mark_fraction q.mark) h.0.stored h.0.marked) h.0.shown)
    (all_have clock qs h.1)

pub runs_keep_fractions : RunsKeepFractions
runs_keep_fractions t items c n run =
    let end = run_fits t n items (opening t) c run (start t n) in
    (end.clocked, all_have c.clock c.processes end.all)

pub items_are_fractions : ItemsAreFractions
items_are_fractions t items c n run = items_fit t n items (opening t) c run (start t n)
