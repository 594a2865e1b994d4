-- What a delay leaves of a process has fractions alone: what the process shows moves, and the working values of that motion fit.
use Rattle.std.proofs.Common.{◌≡◌, refl, sym, ap, subst, ◌∙◌, ℕ, zero, suc, Bool, true, false, ◌&&◌, ◌||◌, if◌then◌else◌, List, [], ◌∷◌, map, length, replicate, slice_set, slice_index_or, Option, Some, None, ◌⊎◌, inl, inr, arith}
use Rattle.std.specs.List.{list_all}
use Rattle.std.proofs.lemmas.List.{length-replicate}
use Rattle.std.proofs.lemmas.Bool.{and_parts, and_from}
use Rattle.hc_rational.specs.Words.{Rational, zero_ℚ, ◌+ℚ◌, ◌-ℚ◌, ◌*ℚ◌, ◌≤ℚ◌, fits, greater}
use Rattle.hc_rational.proofs.OrderLaws.{≤ℚ_antisymm}
use Rattle.hc_rational.proofs.RankLaws.{greater_is}
use Rattle.hc_term.specs.declared.stmt.Rate.{Rate}
use Rattle.hc_term.specs.declared.stmt.Stmt.{Stmt, out-Stmt}
use Rattle.hc_term.specs.declared.stmt.Stmt.TheOpen.{Stmt-F}
use Rattle.hc_term.specs.declared.post.Post.{Post}
use Rattle.hc_term.specs.declared.post.Moving.{Moving}
use Rattle.hc_term.specs.declared.post.Offer.{Offer}
use Rattle.hc_term.specs.declared.post.Offer.TheVariants as offer
use Rattle.hc_term.specs.declared.model.Mark.{Mark}
use Rattle.hc_term.specs.declared.model.Mark.TheVariants.{Going, Arrived}
use Rattle.hc_term.specs.declared.model.ProcessState.{ProcessState}
use Rattle.hc_term.specs.Value.{Store, val}
use Rattle.hc_term.specs.Motion.{Rates, with_rates, rates_in, value_after, after}
use Rattle.hc_term.specs.EndMoment.{fits_if}
use Rattle.hc_term.specs.Process.{Layer, bound_here, bound, is_due}
use Rattle.hc_term.specs.Offers.{moving_of, moving_here, post}
use Rattle.hc_term.specs.Communication.{moved_store, left_after, moved}
use Rattle.hc_term.specs.Posts.{is_empty, bound_fits, moving_fits, offer_fits, post_fits}
use Rattle.hc_term.specs.Moved.{IsWithin, less_by, moving_after, offer_after, offers_after, moved_post}
use Rattle.hc_runs.specs.Laws.{keeps_profile}
use Rattle.hc_runs.proofs.Basics.{length-set}
use Rattle.hc_runs.proofs.Bounds.{minus_none}
use Rattle.hc_runs.proofs.Moving.{posts_move}
use Rattle.hc_runs.specs.Fractions.{is_moving_fraction, is_offer_fraction, shows_fractions}
use Rattle.hc_runs.proofs.ShownFit.{shows, set_fits}
use Rattle.hc_runs.proofs.StepsFit.{Fractions, with_parts}

-- ---- the store and what is left to wait

after_set : (s : Store) (r : Rates) (d : Rational) (x : ℕ) (v : Rational) → length r ≡ length s →
    after s (slice_set r x (Some v)) d ≡ slice_set (after s r d) x (slice_index_or s x zero_ℚ +ℚ v *ℚ d)
after_set [] r d x v h = refl
after_set (u ∷ s) [] d x v h = absurd (omega (arith, h))
after_set (u ∷ s) (k ∷ r) d zero v h = refl
after_set (u ∷ s) (k ∷ r) d (suc x) v h = ap (λ l. value_after u k d ∷ l) (after_set s r d x v (omega (arith, h)))

abbrev nothing : ℕ → Rates
nothing n = replicate n None

after_nothing : (s : Store) (n : ℕ) (d : Rational) → after s (nothing n) d ≡ s
after_nothing [] n d = refl
after_nothing (u ∷ s) zero d = refl
after_nothing (u ∷ s) (suc n) d = ap (λ l. u ∷ l) (after_nothing s n d)

module _ (s : Store) (d : Rational) where
  with_fit : (rs : List Rate) (before : Rates) → length before ≡ length s → list_all fits (after s before d) ≡ true →
      list_all (moving_fits d) (moving_of s rs) ≡ true → list_all fits (after s (with_rates before rs s) d) ≡ true
  with_fit [] before n h k = h
  with_fit (r ∷ rs) before n h k =
      let v = val s r.value in
      let at = slice_index_or s r.variable zero_ℚ in
      let parts = and_parts (fits (v *ℚ d) && fits (at +ℚ v *ℚ d)) (list_all (moving_fits d) (moving_of s rs)) k in
      let lands = (and_parts (fits (v *ℚ d)) (fits (at +ℚ v *ℚ d)) parts.0).1 in
      with_fit rs (slice_set before r.variable (Some v)) (length-set before r.variable (Some v) ∙ n)
      (ap (list_all fits) (after_set s before d r.variable v n) ∙ set_fits (after s before d) r.variable (at +ℚ v *ℚ d) h lands) parts.1

  evolved_fits : (rs : List Rate) → list_all fits s ≡ true → list_all (moving_fits d) (moving_of s rs) ≡ true → list_all fits (after s (rates_in rs s) d) ≡ true
  evolved_fits rs h k = with_fit rs (nothing (length s)) (length-replicate (length s) None) (ap (list_all fits) (after_nothing s (length s) d) ∙ h) k

  store_fits : (l : Layer) → list_all fits s ≡ true → list_all (moving_fits d) (moving_here s l) ≡ true → list_all fits (moved_store s d l) ≡ true
  store_fits (Stmt-F.Evolve rs c bs) h k = evolved_fits rs h k
  store_fits _ h k = h

left_by : (d left : Rational) → zero_ℚ ≤ℚ d → d ≤ℚ greater zero_ℚ left → fits left ≡ true → fits (greater zero_ℚ left -ℚ d) ≡ true →
    (greater zero_ℚ left ≡ zero_ℚ) ⊎ (greater zero_ℚ left ≡ left) → fits (left -ℚ d) ≡ true
left_by d left k w h b (inl e) =
    let none : d ≡ zero_ℚ = ≤ℚ_antisymm d zero_ℚ (subst (λ (r : Rational). d ≤ℚ r) e w) k in
    ap fits (ap (λ (r : Rational). left -ℚ r) none ∙ minus_none left) ∙ h
left_by d left k w h b (inr e) = ap fits (ap (λ (r : Rational). r -ℚ d) (sym e)) ∙ b

left_fits : (d : Rational) (s : Store) (left : Rational) (l : Layer) → zero_ℚ ≤ℚ d → IsWithin d (bound_here s left l) → fits left ≡ true →
    bound_fits d (bound_here s left l) ≡ true → fits (left_after left d l) ≡ true
left_fits d s left (Stmt-F.Wait time) k w h b = left_by d left k w h b (greater_is zero_ℚ left).one
left_fits d s left _ k w h b = h

-- ---- what is shown after a delay

less_fits : (d : Rational) (b : Option Rational) → bound_fits d b ≡ true → fits_if (less_by d b) ≡ true
less_fits d None h = refl
less_fits d (Some b) h = h

moving_lands : (d : Rational) (ms : List Moving) → list_all is_moving_fraction ms ≡ true → list_all (moving_fits d) ms ≡ true →
    list_all is_moving_fraction (map (moving_after d) ms) ≡ true
moving_lands d [] h k = refl
moving_lands d (m ∷ ms) h k =
    let old = and_parts (fits m.at && fits m.rate) (list_all is_moving_fraction ms) h in
    let new = and_parts (fits (m.rate *ℚ d) && fits (m.at +ℚ m.rate *ℚ d)) (list_all (moving_fits d) ms) k in
    and_from (fits (m.at +ℚ m.rate *ℚ d) && fits m.rate) (list_all is_moving_fraction (map (moving_after d) ms))
    (and_from (fits (m.at +ℚ m.rate *ℚ d)) (fits m.rate) (and_parts (fits (m.rate *ℚ d)) (fits (m.at +ℚ m.rate *ℚ d)) new.0).1 (and_parts (fits m.at) (fits m.rate) old.0).1)
    (moving_lands d ms old.1 new.1)

offer_lands : (d : Rational) (o : Offer) → is_offer_fraction o ≡ true → offer_fits d o ≡ true → is_offer_fraction (offer_after d o) ≡ true
offer_lands d (offer.Send c at slope) h k =
    and_from (fits (at +ℚ slope *ℚ d)) (fits slope) (and_parts (fits (slope *ℚ d)) (fits (at +ℚ slope *ℚ d)) k).1 (and_parts (fits at) (fits slope) h).1
offer_lands d (offer.Receive c) h k = refl

offers_land : (d : Rational) (os : List Offer) → list_all is_offer_fraction os ≡ true → list_all (offer_fits d) os ≡ true →
    list_all is_offer_fraction (map (offer_after d) os) ≡ true
offers_land d [] h k = refl
offers_land d (o ∷ os) h k =
    let old = and_parts (is_offer_fraction o) (list_all is_offer_fraction os) h in
    let new = and_parts (offer_fits d o) (list_all (offer_fits d) os) k in
    and_from (is_offer_fraction (offer_after d o)) (list_all is_offer_fraction (map (offer_after d) os)) (offer_lands d o old.0 new.0) (offers_land d os old.1 new.1)

-- offers move only where something evolves
offers_after-land : (d : Rational) (none : Bool) (os : List Offer) → list_all is_offer_fraction os ≡ true → (none || list_all (offer_fits d) os) ≡ true →
    list_all is_offer_fraction (if none then os else map (offer_after d) os) ≡ true
offers_after-land d true os h k = h
offers_after-land d false os h k = offers_land d os h k

kept_due : (z : Bool) (due : Option Rational) → fits_if due ≡ true → fits_if (if z then None else due) ≡ true
kept_due true due h = refl
kept_due false due h = h

kept_offers : (z : Bool) (os : List Offer) → list_all is_offer_fraction os ≡ true → list_all is_offer_fraction (if z then [] else os) ≡ true
kept_offers true os h = refl
kept_offers false os h = h

post_lands : (d : Rational) (p : Post) → shows_fractions p ≡ true → post_fits d p ≡ true → shows_fractions (moved_post d p) ≡ true
post_lands d p h k =
    let three = and_parts (fits_if p.bound && fits_if p.due && list_all is_moving_fraction p.moving) (list_all is_offer_fraction p.offers) h in
    let two = and_parts (fits_if p.bound && fits_if p.due) (list_all is_moving_fraction p.moving) three.0 in
    let one = and_parts (fits_if p.bound) (fits_if p.due) two.0 in
    let works = and_parts (list_all (moving_fits d) p.moving && (is_empty p.moving || list_all (offer_fits d) p.offers)) (bound_fits d p.bound) k in
    let moves = and_parts (list_all (moving_fits d) p.moving) (is_empty p.moving || list_all (offer_fits d) p.offers) works.0 in
    let z = is_due (less_by d p.bound) in
    let offers = offers_after-land d (is_empty p.moving) p.offers three.1 moves.1 in
    shows (less_by d p.bound) (if z then None else p.due) (map (moving_after d) p.moving) (if z then [] else offers_after d p) (less_fits d p.bound works.1)
    (kept_due z p.due one.1) (moving_lands d p.moving two.1 moves.0) (kept_offers z (offers_after d p) offers)

moved_by_parts : (clock d : Rational) (todo : List Stmt) (store : Store) (choices : ℕ) (mark : Mark) → let q = with_parts todo store choices mark in
    keeps_profile q ≡ true → zero_ℚ ≤ℚ d → IsWithin d (bound q) → post_fits d (post clock q) ≡ true → Fractions clock q → Fractions (clock +ℚ d) (moved d q)
moved_by_parts clock d [] store choices Going p k w f h = record { stored = h.stored; marked = refl; shown = refl }
moved_by_parts clock d (head ∷ rest) store choices Going p k w f h = record { stored = h.stored; marked = refl; shown = refl }
moved_by_parts clock d [] store choices (Arrived left) p k w f h = record { stored = h.stored; marked = h.marked; shown = refl }
moved_by_parts clock d (head ∷ rest) store choices (Arrived left) p k w f h =
    let q = with_parts (head ∷ rest) store choices (Arrived left) in
    let l = out-Stmt head in
    let o = post clock q in
    let works = and_parts (list_all (moving_fits d) o.moving && (is_empty o.moving || list_all (offer_fits d) o.offers)) (bound_fits d o.bound) f in
    let moves = and_parts (list_all (moving_fits d) o.moving) (is_empty o.moving || list_all (offer_fits d) o.offers) works.0 in
    record {
      stored = store_fits store d l h.stored moves.0;
      marked = left_fits d store left l k w h.marked works.1;
      shown = ap shows_fractions (posts_move clock d q p k w) ∙ post_lands d o h.shown f;
    }

pub moved_fractions : (clock d : Rational) (q : ProcessState) → keeps_profile q ≡ true → zero_ℚ ≤ℚ d → IsWithin d (bound q) → post_fits d (post clock q) ≡ true →
    Fractions clock q → Fractions (clock +ℚ d) (moved d q)
moved_fractions clock d q p k w f h = moved_by_parts clock d q.todo q.store q.choices q.mark p k w f h
