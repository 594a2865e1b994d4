-- What a process shows that arrives where its working values fit.
use Rattle.std.proofs.Common.{◌≡◌, refl, ap, ◌∙◌, ℕ, zero, suc, Bool, true, false, ◌&&◌, if◌then◌else◌, List, [], ◌∷◌, length, replicate, slice_set, slice_index_or, Option, Some, None, ◌⊎◌, inl, inr}
use Rattle.std.specs.List.{list_all}
use Rattle.std.proofs.lemmas.Bool.{and_parts, and_from}
use Rattle.hc_rational.specs.Words.{Rational, zero_ℚ, ◌+ℚ◌, fits, greater, is_positive}
use Rattle.hc_rational.proofs.FitsLaws.{zero_fits}
use Rattle.hc_rational.proofs.RankLaws.{greater_is}
use Rattle.hc_term.specs.declared.expr.Expr.{Expr}
use Rattle.hc_term.specs.declared.expr.Cond.{Cond}
use Rattle.hc_term.specs.declared.stmt.Io.{Io}
use Rattle.hc_term.specs.declared.stmt.Io.TheVariants.{Send, Receive}
use Rattle.hc_term.specs.declared.stmt.Rate.{Rate}
use Rattle.hc_term.specs.declared.stmt.Stmt.TheOpen.{Stmt-F}
use Rattle.hc_term.specs.declared.stmt.Branch.{Branch, out-Branch}
use Rattle.hc_term.specs.declared.post.Post.{Post}
use Rattle.hc_term.specs.declared.post.Phase.TheVariants as phase
use Rattle.hc_term.specs.declared.post.Moving.{Moving}
use Rattle.hc_term.specs.declared.post.Offer.{Offer}
use Rattle.hc_term.specs.Value.{Store, val, is_fitting}
use Rattle.hc_term.specs.Motion.{Rates, with_rates, rates_in, line}
use Rattle.hc_term.specs.EndMoment.{fits_if, end_moment, domain_fits}
use Rattle.hc_term.specs.Process.{Layer, bound_here, is_due}
use Rattle.hc_term.specs.Silent.{due_fits, sent_fits, branches_fit, rates_fit, guard_fits, guards_fit, evolution_fits}
use Rattle.hc_term.specs.Offers.{moving_of, offer_of, offers_of, moving_here, offers_here, due_of}
use Rattle.hc_runs.proofs.Level.{level}
use Rattle.hc_runs.specs.Fractions.{numbers, numbers_sent, all_numbers, is_moving_fraction, is_offer_fraction, shows_fractions}
use Rattle.hc_runs.proofs.ValuesFit.{index_fits, value_fits, at_fits, slope_fits, at_is, end_fits}
use Rattle.hc_runs.proofs.Numbered.{rate_numbers, branch_numbers}

-- what a process shows that has arrived at a statement
abbrev pub here : Rational → Store → Rational → Layer → Post
here clock s left l = record {
  phase = phase.Arrived;
  bound = bound_here s left l;
  due = due_of clock (bound_here s left l);
  moving = moving_here s l;
  offers = offers_here s (bound_here s left l) l;
}

pub shows : (b due : Option Rational) (ms : List Moving) (os : List Offer) → fits_if b ≡ true → fits_if due ≡ true → list_all is_moving_fraction ms ≡ true →
    list_all is_offer_fraction os ≡ true → (fits_if b && fits_if due && list_all is_moving_fraction ms && list_all is_offer_fraction os) ≡ true
shows b due ms os h i j k =
    and_from (fits_if b && fits_if due && list_all is_moving_fraction ms) (list_all is_offer_fraction os)
    (and_from (fits_if b && fits_if due) (list_all is_moving_fraction ms) (and_from (fits_if b) (fits_if due) h i) j) k

due_by : (p : Bool) (v : Rational) → (if p then fits v else true) ≡ true → fits_if (if p then Some v else None) ≡ true
due_by true v h = h
due_by false v h = refl

due_of-fits : (clock : Rational) (b : Option Rational) → due_fits clock b ≡ true → fits_if (due_of clock b) ≡ true
due_of-fits clock None h = refl
due_of-fits clock (Some b) h = due_by (is_positive b) (clock +ℚ b) h

greater_by : (q g : Rational) → fits q ≡ true → (g ≡ zero_ℚ) ⊎ (g ≡ q) → fits g ≡ true
greater_by q g h (inl e) = ap fits e ∙ zero_fits
greater_by q g h (inr e) = ap fits e ∙ h

pub greater_fits : (q : Rational) → fits q ≡ true → fits (greater zero_ℚ q) ≡ true
greater_fits q h = greater_by q (greater zero_ℚ q) h (greater_is zero_ℚ q).one

pub set_fits : (s : Store) (x : ℕ) (v : Rational) → list_all fits s ≡ true → fits v ≡ true → list_all fits (slice_set s x v) ≡ true
set_fits [] x v h k = h
set_fits (u ∷ s) zero v h k = and_from (fits v) (list_all fits s) k (and_parts (fits u) (list_all fits s) h).1
set_fits (u ∷ s) (suc x) v h k =
    let parts = and_parts (fits u) (list_all fits s) h in
    and_from (fits u) (list_all fits (slice_set s x v)) parts.0 (set_fits s x v parts.1 k)

module _ (s : Store) (stored : list_all fits s ≡ true) where
  -- ---- plain offers

  plain_fits : (io : Io) → numbers_sent io ≡ true → sent_fits s io ≡ true → is_offer_fraction (offer_of s [] io) ≡ true
  plain_fits (Send c e) n h =
      and_from (fits (line s [] e).at) (fits (line s [] e).slope) (ap fits (at_is s [] e) ∙ value_fits s stored e n h) (ap fits (level s e) ∙ zero_fits)
  plain_fits (Receive c x) n h = refl

  branch_parts : (b : Branch) (bs : List Branch) → branch_numbers (b ∷ bs) ≡ true → (numbers_sent (out-Branch b).io ≡ true) × (branch_numbers bs ≡ true)
  branch_parts b bs h =
      let parts = and_parts (numbers_sent (out-Branch b).io && all_numbers (out-Branch b).body) (branch_numbers bs) h in
      ((and_parts (numbers_sent (out-Branch b).io) (all_numbers (out-Branch b).body) parts.0).0, parts.1)

  choice_fits : (bs : List Branch) → branch_numbers bs ≡ true → branches_fit s bs ≡ true → list_all is_offer_fraction (offers_of s [] bs) ≡ true
  choice_fits [] n h = refl
  choice_fits (b ∷ bs) n h =
      let ns = branch_parts b bs n in
      let parts = and_parts (sent_fits s (out-Branch b).io) (branches_fit s bs) h in
      and_from (is_offer_fraction (offer_of s [] (out-Branch b).io)) (list_all is_offer_fraction (offers_of s [] bs))
      (plain_fits (out-Branch b).io ns.0 parts.0) (choice_fits bs ns.1 parts.1)

  -- ---- evolutions

  set_rates : (k : Rates) (x : ℕ) (v : Rational) → list_all fits_if k ≡ true → fits v ≡ true → list_all fits_if (slice_set k x (Some v)) ≡ true
  set_rates [] x v h j = h
  set_rates (u ∷ k) zero v h j = and_from (fits v) (list_all fits_if k) j (and_parts (fits_if u) (list_all fits_if k) h).1
  set_rates (u ∷ k) (suc x) v h j =
      let parts = and_parts (fits_if u) (list_all fits_if k) h in
      and_from (fits_if u) (list_all fits_if (slice_set k x (Some v))) parts.0 (set_rates k x v parts.1 j)

  with_fit : (rs : List Rate) (before : Rates) → rate_numbers rs ≡ true → rates_fit s rs ≡ true → list_all fits_if before ≡ true →
      list_all fits_if (with_rates before rs s) ≡ true
  with_fit [] before n h k = k
  with_fit (r ∷ rs) before n h k =
      let ns = and_parts (numbers r.value) (rate_numbers rs) n in
      let parts = and_parts (is_fitting s r.value) (rates_fit s rs) h in
      with_fit rs (slice_set before r.variable (Some (val s r.value))) ns.1 parts.1 (set_rates before r.variable (val s r.value) k (value_fits s stored r.value ns.0 parts.0))

  abbrev nothing : ℕ → Rates
  nothing n = replicate n None

  nothing_fits : (n : ℕ) → list_all fits_if (nothing n) ≡ true
  nothing_fits zero = refl
  nothing_fits (suc n) = nothing_fits n

  moving_fit : (rs : List Rate) → rate_numbers rs ≡ true → rates_fit s rs ≡ true → list_all is_moving_fraction (moving_of s rs) ≡ true
  moving_fit [] n h = refl
  moving_fit (r ∷ rs) n h =
      let ns = and_parts (numbers r.value) (rate_numbers rs) n in
      let parts = and_parts (is_fitting s r.value) (rates_fit s rs) h in
      and_from (fits (slice_index_or s r.variable zero_ℚ) && fits (val s r.value)) (list_all is_moving_fraction (moving_of s rs))
      (and_from (fits (slice_index_or s r.variable zero_ℚ)) (fits (val s r.value)) (index_fits s r.variable stored) (value_fits s stored r.value ns.0 parts.0))
      (moving_fit rs ns.1 parts.1)

  module _ (k : Rates) (rated : list_all fits_if k ≡ true) where
    guard_shows : (io : Io) → numbers_sent io ≡ true → guard_fits s k io ≡ true → is_offer_fraction (offer_of s k io) ≡ true
    guard_shows (Send c e) n h =
        and_from (fits (line s k e).at) (fits (line s k e).slope) (at_fits s stored k rated e n h) (slope_fits s stored k rated e n h)
    guard_shows (Receive c x) n h = refl

    guards_show : (bs : List Branch) → branch_numbers bs ≡ true → guards_fit s k bs ≡ true → list_all is_offer_fraction (offers_of s k bs) ≡ true
    guards_show [] n h = refl
    guards_show (b ∷ bs) n h =
        let ns = branch_parts b bs n in
        let parts = and_parts (guard_fits s k (out-Branch b).io) (guards_fit s k bs) h in
        and_from (is_offer_fraction (offer_of s k (out-Branch b).io)) (list_all is_offer_fraction (offers_of s k bs))
        (guard_shows (out-Branch b).io ns.0 parts.0) (guards_show bs ns.1 parts.1)

  unless_due : (b : Bool) (os : List Offer) → list_all is_offer_fraction os ≡ true → list_all is_offer_fraction (if b then [] else os) ≡ true
  unless_due true os h = refl
  unless_due false os h = h

  -- ---- arrivals

  pub wait_shows : (clock left : Rational) (time : Expr) → fits left ≡ true → due_fits clock (Some (greater zero_ℚ left)) ≡ true →
      shows_fractions (here clock s left (Stmt-F.Wait time)) ≡ true
  wait_shows clock left time h k = shows (Some (greater zero_ℚ left)) (due_of clock (Some (greater zero_ℚ left))) [] [] (greater_fits left h) (due_of-fits clock (Some (greater zero_ℚ left)) k) refl refl

  pub io_shows : (clock left : Rational) (io : Io) → numbers_sent io ≡ true → sent_fits s io ≡ true → shows_fractions (here clock s left (Stmt-F.Io io)) ≡ true
  io_shows clock left io n h = shows None None [] (offer_of s [] io ∷ []) refl refl refl (ap (λ (b : Bool). b && true) (plain_fits io n h))

  pub choice_shows : (clock left : Rational) (bs : List Branch) → branch_numbers bs ≡ true → branches_fit s bs ≡ true →
      shows_fractions (here clock s left (Stmt-F.Choice bs)) ≡ true
  choice_shows clock left bs n h = shows None None [] (offers_of s [] bs) refl refl refl (choice_fits bs n h)

  pub evolve_shows : (clock left : Rational) (rs : List Rate) (c : Cond) (bs : List Branch) → (rate_numbers rs && branch_numbers bs) ≡ true → evolution_fits clock s rs c bs ≡ true →
      shows_fractions (here clock s left (Stmt-F.Evolve rs c bs)) ≡ true
  evolve_shows clock left rs c bs n h =
      let k = rates_in rs s in
      let b = end_moment s k c in
      let ns = and_parts (rate_numbers rs) (branch_numbers bs) n in
      let four = and_parts (rates_fit s rs && domain_fits s k c && guards_fit s k bs) (due_fits clock b) h in
      let three = and_parts (rates_fit s rs && domain_fits s k c) (guards_fit s k bs) four.0 in
      let two = and_parts (rates_fit s rs) (domain_fits s k c) three.0 in
      let rated = with_fit rs (nothing (length s)) ns.0 two.0 (nothing_fits (length s)) in
      shows b (due_of clock b) (moving_of s rs) (if is_due b then [] else offers_of s k bs) (end_fits s k c two.1) (due_of-fits clock b four.1) (moving_fit rs ns.0 two.0)
      (unless_due (is_due b) (offers_of s k bs) (guards_show k rated bs ns.1 three.1))
