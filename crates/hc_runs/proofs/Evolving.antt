-- An evolution of the profile in a delay: its rates stay, its variables move by them, its offers along their lines, and its
-- bound is the old one less the delay.
use Rattle.std.proofs.Common.{◌≡◌, refl, ap, ap₂, ◌∙◌, IsTrue, ℕ, true, false, not, ◌&&◌, List, [], ◌∷◌, map, length, nat_le, nat_lt, arith}
use Rattle.std.specs.List.{list_all}
use Rattle.std.proofs.lemmas.Bool.{not-true, and_parts, and_from, leb-true}
use Rattle.hc_limits.specs.Limits.{most_nodes}
use Rattle.hc_rational.specs.Words.{Rational}
use Rattle.hc_term.specs.declared.expr.Expr.{Expr}
use Rattle.hc_term.specs.declared.expr.Cond.{Cond}
use Rattle.hc_term.specs.declared.form.Form.{Form}
use Rattle.hc_term.specs.declared.stmt.Io.{Io}
use Rattle.hc_term.specs.declared.stmt.Io.TheVariants.{Send, Receive}
use Rattle.hc_term.specs.declared.stmt.Rate.{Rate}
use Rattle.hc_term.specs.declared.stmt.Branch.{Branch, out-Branch}
use Rattle.hc_term.specs.declared.post.Offer.{Offer}
use Rattle.hc_term.specs.declared.post.Offer.TheVariants as offer
use Rattle.hc_term.specs.Value.{Store, val}
use Rattle.hc_term.specs.Motion.{Rates, rates_in, after, form}
use Rattle.hc_term.specs.Offers.{moving_of, offer_of, offers_of}
use Rattle.hc_term.specs.Posts.{is_empty}
use Rattle.hc_term.specs.Profile.{nodes, reach, is_expr, all_apart, same_variable, pattern_of, is_rate, are_rates, sends_affine, is_moving_domain, is_evolution, ios_in}
use Rattle.hc_term.specs.Moved.{moving_after, offer_after}
use Rattle.hc_runs.proofs.Alike.{same_form, unmoved}
use Rattle.hc_runs.proofs.Later.{length-after, at_later, slope_later, value_stays}
use Rattle.hc_runs.proofs.Rated.{below, AllStay, stand, rates_stay, moving_moves, length-rates_in, alike}
use Rattle.hc_runs.proofs.Ending.{Ending, ending}

-- ---- offers along their lines

same_send : (c : ℕ) (a b m n : Rational) → a ≡ b → m ≡ n → offer.Send c a m ≡ offer.Send c b n
same_send c a b m n h k = cc

module _ (s : Store) (r pattern : Rates) (d : Rational) (paired : length r ≡ length s) (same : (e : Expr) → form r e ≡ form pattern e) where
  offer_moves : (io : Io) → sends_affine pattern io ≡ true → offer_of (after s r d) r io ≡ offer_after d (offer_of s r io)
  offer_moves (Send c e) h =
      let affine : IsTrue (form r e).affine = ap (λ (f : Form). f.affine) (same e) ∙ h in
      same_send c _ _ _ _ (at_later s r d paired e affine) (slope_later s r d paired e affine)
  offer_moves (Receive c x) h = refl

  offers_move : (bs : List Branch) → list_all (sends_affine pattern) (ios_in bs) ≡ true → offers_of (after s r d) r bs ≡ map (offer_after d) (offers_of s r bs)
  offers_move [] h = refl
  offers_move (b ∷ bs) h =
      let parts = and_parts (sends_affine pattern (out-Branch b).io) (list_all (sends_affine pattern) (ios_in bs)) h in
      ap₂ (λ (o : Offer) (os : List Offer). o ∷ os) (offer_moves (out-Branch b).io parts.0) (offers_move bs parts.1)

-- ---- rates

module _ (n : ℕ) (pattern : Rates) where
  all_below : (rs : List Rate) → list_all (is_rate n pattern) rs ≡ true → list_all (below n) rs ≡ true
  all_below [] h = refl
  all_below (r ∷ rs) h =
      let parts = and_parts (is_rate n pattern r) (list_all (is_rate n pattern) rs) h in
      let ranged = and_parts (nat_lt r.variable n && is_expr n r.value) (not (form pattern r.value).moves) parts.0 in
      and_from (below n r) (list_all (below n) rs) (and_parts (nat_lt r.variable n) (is_expr n r.value) ranged.0).0 (all_below rs parts.1)

  module _ (s : Store) (r : Rates) (d : Rational) (paired : length r ≡ length s) (same : (e : Expr) → form r e ≡ form pattern e) where
    rate_stays : (q : Rate) → is_rate n pattern q ≡ true → val (after s r d) q.value ≡ val s q.value
    rate_stays q h =
        let e = q.value in
        let parts = and_parts (nat_lt q.variable n && is_expr n e) (not (form pattern e).moves) h in
        let still : (form r e).moves ≡ false = ap (λ (f : Form). f.moves) (same e) ∙ not-true (form pattern e).moves parts.1 in
        let ruled = (and_parts (nat_lt q.variable n) (is_expr n e) parts.0).1 in
        let plain = (and_parts (nat_le (nodes e) most_nodes && nat_le (reach e) n) (form [] e).affine ruled).1 in
        value_stays s r d paired e (ap (λ (f : Form). f.affine) (unmoved r e still) ∙ plain) still

    all_stay : (rs : List Rate) → list_all (is_rate n pattern) rs ≡ true → AllStay s (after s r d) rs
    all_stay [] h = tt
    all_stay (q ∷ rs) h =
        let parts = and_parts (is_rate n pattern q) (list_all (is_rate n pattern) rs) h in
        (rate_stays q parts.0, all_stay rs parts.1)

-- ---- the evolution

-- an evolution has a rate
some_moving : (s : Store) (rs : List Rate) → nat_le 1 (length rs) ≡ true → is_empty (moving_of s rs) ≡ false
some_moving s [] h = absurd (omega (arith, leb-true 1 0 h))
some_moving s (r ∷ rs) h = refl

pub record Evolving (s : Store) (rs : List Rate) (c : Cond) (bs : List Branch) (d : Rational) : Type 0 where
  pub rates : rates_in rs (after s (rates_in rs s) d) ≡ rates_in rs s
  pub some : is_empty (moving_of s rs) ≡ false
  pub variables : moving_of (after s (rates_in rs s) d) rs ≡ map (moving_after d) (moving_of s rs)
  pub offers : offers_of (after s (rates_in rs s) d) (rates_in rs s) bs ≡ map (offer_after d) (offers_of s (rates_in rs s) bs)
  pub ends : Ending s (rates_in rs s) c

pub evolving : (s : Store) (rs : List Rate) (c : Cond) (bs : List Branch) (d : Rational) → is_evolution (length s) rs c (ios_in bs) ≡ true → Evolving s rs c bs d
evolving s rs c bs d h =
    let n = length s in
    let p = pattern_of n rs in
    let r = rates_in rs s in
    let paired = length-rates_in rs s in
    let same = same_form r p (alike rs s) in
    let parts = and_parts (are_rates n p rs && is_moving_domain n p c) (list_all (sends_affine p) (ios_in bs)) h in
    let ruled = and_parts (are_rates n p rs) (is_moving_domain n p c) parts.0 in
    let rated = and_parts (nat_le 1 (length rs) && all_apart same_variable rs) (list_all (is_rate n p) rs) ruled.0 in
    let two = and_parts (nat_le 1 (length rs)) (all_apart same_variable rs) rated.0 in
    let stay = all_stay n p s r d paired same rs rated.1 in
    record {
      rates = rates_stay s (after s r d) rs (length-after s r d) stay;
      some = some_moving s rs two.0;
      variables = moving_moves s r d rs paired (stand s rs (all_below n p rs rated.1) two.1) stay;
      offers = offers_move s r p d paired same bs parts.1;
      ends = ending s rs c ruled.1;
    }
