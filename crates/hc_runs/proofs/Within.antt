-- A delay is at least 0 and at most each bound, since it is the least of them or less; so every post moves.
use Rattle.std.proofs.Common.{◌≡◌, refl, sym, ap₂, subst, true, List, [], ◌∷◌, map, Option, Some, None, ⊎_elim}
use Rattle.std.specs.List.{list_all}
use Rattle.std.proofs.lemmas.Bool.{and_parts, and_from}
use Rattle.hc_rational.specs.Words.{Rational, zero_ℚ, ◌+ℚ◌, ◌-ℚ◌, ◌≤ℚ◌, lesser, earlier}
use Rattle.hc_rational.proofs.OrderLaws.{≤ℚ_trans, ≤ℚ-from_<ℚ, ≤ℚ--ℚ, <ℚ--ℚ}
use Rattle.hc_rational.proofs.RankLaws.{lesser_is}
use Rattle.hc_term.specs.declared.post.Post.{Post}
use Rattle.hc_term.specs.declared.model.ProcessState.{ProcessState}
use Rattle.hc_term.specs.Offers.{post}
use Rattle.hc_term.specs.Communication.{moved}
use Rattle.hc_term.specs.Posts.{least_bound}
use Rattle.hc_term.specs.Step.{posts}
use Rattle.hc_term.specs.Moved.{IsWithin, moved_post}
use Rattle.hc_term.specs.Together.{is_within}
use Rattle.hc_runs.specs.Laws.{keeps_profile, AllPostsMove}
use Rattle.hc_runs.proofs.Bounds.{not_negative}
use Rattle.hc_runs.proofs.Moving.{posts_move, bound_not_past}
use Rattle.hc_runs.proofs.Taking.{taking}
use Rattle.hc_runs.proofs.Resting.{shown_bound}

-- ---- the least bound

earlier-within : (x y : Option Rational) (t : Rational) → IsWithin t (earlier x y) → IsWithin t x × IsWithin t y
earlier-within None y t w = (tt, w)
earlier-within (Some d) None t w = (w, tt)
earlier-within (Some d) (Some e) t w = let is = lesser_is d e in (≤ℚ_trans t (lesser d e) d w is.first, ≤ℚ_trans t (lesser d e) e w is.second)

within_earlier : (x y : Option Rational) (t : Rational) → IsWithin t x → IsWithin t y → IsWithin t (earlier x y)
within_earlier None y t h k = k
within_earlier (Some d) None t h k = h
within_earlier (Some d) (Some e) t h k =
    ⊎_elim (λ is. subst (λ z. t ≤ℚ z) (sym is) h) (λ is. subst (λ z. t ≤ℚ z) (sym is) k) (lesser_is d e).one

-- ---- all processes

module _ (clock : Rational) where
  least_not_past : (qs : List ProcessState) → list_all keeps_profile qs ≡ true → IsWithin zero_ℚ (least_bound (map (post clock) qs))
  least_not_past [] h = tt
  least_not_past (q ∷ qs) h =
      let kept = and_parts (keeps_profile q) (list_all keeps_profile qs) h in
      within_earlier (post clock q).bound (least_bound (map (post clock) qs)) zero_ℚ
      (subst (IsWithin zero_ℚ) (sym (shown_bound clock q)) (bound_not_past q kept.0)) (least_not_past qs kept.1)

  within_by : (d : Rational) (b : Option Rational) → IsWithin d b → is_within d b ≡ true
  within_by d None w = refl
  within_by d (Some b) w = not_negative (b -ℚ d) ((≤ℚ--ℚ d b).1 w)

  all_within : (d : Rational) (qs : List ProcessState) → IsWithin d (least_bound (map (post clock) qs)) →
      list_all (λ (p : Post). is_within d p.bound) (map (post clock) qs) ≡ true
  all_within d [] w = refl
  all_within d (q ∷ qs) w =
      let parts = earlier-within (post clock q).bound (least_bound (map (post clock) qs)) d w in
      and_from (is_within d (post clock q).bound) (list_all (λ (p : Post). is_within d p.bound) (map (post clock) qs))
      (within_by d (post clock q).bound parts.0) (all_within d qs parts.1)

  all_move : (d : Rational) (qs : List ProcessState) → list_all keeps_profile qs ≡ true → zero_ℚ ≤ℚ d → IsWithin d (least_bound (map (post clock) qs)) →
      map (post (clock +ℚ d)) (map (moved d) qs) ≡ map (moved_post d) (map (post clock) qs)
  all_move d [] h k w = refl
  all_move d (q ∷ qs) h k w =
      let kept = and_parts (keeps_profile q) (list_all keeps_profile qs) h in
      let parts = earlier-within (post clock q).bound (least_bound (map (post clock) qs)) d w in
      ap₂ (λ (p : Post) (ps : List Post). p ∷ ps) (posts_move clock d q kept.0 k (subst (IsWithin d) (shown_bound clock q) parts.0)) (all_move d qs kept.1 k parts.1)

-- ---- the law

pub all_posts_move : AllPostsMove
all_posts_move t c d kept e =
    let is = taking t c d e in
    let from_zero : zero_ℚ ≤ℚ d =
    ⊎_elim (λ (b : least_bound (posts c) ≡ Some d). subst (IsWithin zero_ℚ) b (least_not_past c.clock c.processes kept))
    (λ (r : d ≡ t.horizon -ℚ c.clock). subst (λ z. zero_ℚ ≤ℚ z) (sym r) (≤ℚ-from_<ℚ zero_ℚ (t.horizon -ℚ c.clock) ((<ℚ--ℚ c.clock t.horizon).1 is.before)))
    is.lasts in
    (from_zero, all_within c.clock d c.processes is.within, all_move c.clock d c.processes kept from_zero is.within)
