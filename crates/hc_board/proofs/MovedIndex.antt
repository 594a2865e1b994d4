-- A delay changes what a process offers only where its bound runs out, and nothing of a process that waits for no time.
use Rattle.std.proofs.Common.{◌≡◌, ◌↔◌, ◌<◌, ◌≤◌, ◌+◌, ◌-◌, length, Bool, true, false, not, ◌&&◌, ◌||◌, ◌==◌, if◌then◌else◌, List, [], ◌∷◌, map, drop, Option, Some, None, is_some, IsTrue, refl, sym, ap, ap₂, subst, ◌∙◌, ℕ, arith}
use Rattle.std.specs.List.{list_all, list_any}
use Rattle.std.proofs.Math.ListN.{set, get_or}
use Rattle.std.proofs.lemmas.Bool.{false_from_ne_true, or_parts}
use Rattle.std.proofs.lemmas.List.{get_or_default, set-get_or, at_drop_more}
use Rattle.hc_limits.specs.Limits.{most_processes}
use Rattle.hc_rational.specs.Words.{Rational, ◌+ℚ◌, ◌-ℚ◌, ◌*ℚ◌, is_zero, earlier}
use Rattle.hc_rational.proofs.FieldLaws.{zero-+ℚ, -ℚ-self, -ℚ-+ℚ}
use Rattle.hc_rational.proofs.RankLaws.{is_zero_is}
use Rattle.hc_term.specs.declared.post.Post.{Post}
use Rattle.hc_term.specs.declared.post.Moving.{Moving}
use Rattle.hc_term.specs.declared.post.Offer.{Offer}
use Rattle.hc_term.specs.declared.post.Offer.TheVariants.{Send, Receive}
use Rattle.hc_term.specs.Offers.{going_post}
use Rattle.hc_term.specs.Process.{is_due}
use Rattle.hc_term.specs.Posts.{is_empty, least_bound, moving_fits, offer_fits, bound_fits, post_fits}
use Rattle.hc_term.specs.Together.{is_offer}
use Rattle.hc_term.specs.Moved.{less_by, moving_after, offer_after, offers_after, with_bound, moved_post}
use Rattle.hc_board.specs.declared.index.Index.{Index}
use Rattle.hc_board.specs.Able.{shows_step}
use Rattle.hc_board.specs.Bits.{has}
use Rattle.hc_board.specs.MeetingBoard.{shown}
use Rattle.hc_board.specs.Index.{offers_on, is_waiting, IsMarked, IsStated, IsIndexOf}
use Rattle.hc_board.proofs.IndexOf.{still_told, taken_away}

-- ---- a bound that runs out

zero_left : (b d : Rational) → b ≡ d → is_zero (b -ℚ d) ≡ true
zero_left b d e = (is_zero_is (b -ℚ d)).1 (ap (λ (q : Rational). q -ℚ d) e ∙ -ℚ-self d)

equal_then : (b d : Rational) → is_zero (b -ℚ d) ≡ true → b ≡ d
equal_then b d z = sym (-ℚ-+ℚ b d) ∙ (ap (λ (q : Rational). q +ℚ d) ((is_zero_is (b -ℚ d)).0 z) ∙ zero-+ℚ d)

by_test : (t : Bool) (b d : Rational) → (IsTrue t → b ≡ d) → (b ≡ d → IsTrue t) → t ≡ is_zero (b -ℚ d)
by_test true b d to from = sym (zero_left b d (to refl))
by_test false b d to from = sym (false_from_ne_true (is_zero (b -ℚ d)) (λ z. let h : false ≡ true = from (equal_then b d z) in cc))

-- a bound that is equal to the delay runs out with it, and no other
pub runs_out_is : (t : Bool) (b d : Rational) → (IsTrue t ↔ (b ≡ d)) → t ≡ is_due (less_by d (Some b))
runs_out_is t b d h = by_test t b d h.0 h.1

-- ---- offers that move

some_both : (b : Bool) (v w : Rational) → is_some (if b then Some v else None) ≡ is_some (if b then Some w else None)
some_both true v w = refl
some_both false v w = refl

moved_offer : (sending : Bool) (c : ℕ) (d : Rational) (o : Offer) → is_offer sending c (offer_after d o) ≡ is_offer sending c o
moved_offer true c d (Send channel at slope) = some_both (channel == c) (at +ℚ slope *ℚ d) at
moved_offer false c d (Send channel at slope) = refl
moved_offer true c d (Receive channel) = refl
moved_offer false c d (Receive channel) = refl

moved_offers : (sending : Bool) (c : ℕ) (d : Rational) (os : List Offer) →
    list_any (is_offer sending c) (map (offer_after d) os) ≡ list_any (is_offer sending c) os
moved_offers sending c d [] = refl
moved_offers sending c d (o ∷ os) = ap₂ (λ a b. a || b) (moved_offer sending c d o) (moved_offers sending c d os)

after_by : (still : Bool) (sending : Bool) (c : ℕ) (d : Rational) (os : List Offer) →
    list_any (is_offer sending c) (if still then os else map (offer_after d) os) ≡ list_any (is_offer sending c) os
after_by true sending c d os = refl
after_by false sending c d os = moved_offers sending c d os

pub over_offers_nothing : (d : Rational) (p : Post) → is_due (less_by d p.bound) ≡ true → (sending : Bool) (c : ℕ) →
    offers_on sending c (moved_post d p) ≡ false
over_offers_nothing d p e sending c = ap (λ (b : Bool). list_any (is_offer sending c) (if b then [] else offers_after d p)) e

pub else_offers_same : (d : Rational) (p : Post) → is_due (less_by d p.bound) ≡ false → (sending : Bool) (c : ℕ) →
    offers_on sending c (moved_post d p) ≡ offers_on sending c p
else_offers_same d p e sending c =
    ap (λ (b : Bool). list_any (is_offer sending c) (if b then [] else offers_after d p)) e
    ∙ after_by (is_empty p.moving) sending c d p.offers

-- ---- who waits for time

some_less : (d : Rational) (b : Option Rational) → is_some (less_by d b) ≡ is_some b
some_less d None = refl
some_less d (Some b) = refl

empty_moved : (d : Rational) (ms : List Moving) → is_empty (map (moving_after d) ms) ≡ is_empty ms
empty_moved d [] = refl
empty_moved d (m ∷ ms) = refl

-- after a delay the same processes wait for time
waits_still : (d : Rational) (p : Post) → is_waiting (moved_post d p) ≡ is_waiting p
waits_still d p = ap₂ (λ b e. b || not e) (some_less d p.bound) (empty_moved d p.moving)

-- a delay moves one post that waits for time
module _ (o new : Index) (ps : List Post) (p : ℕ) (d : Rational) (e q : Post) (over : Bool) (there : p < length ps) (within : length ps ≤ most_processes)
    (t : IsIndexOf o ps) (timed : has o.timed p ≡ true) (moved : q ≡ moved_post d (get_or ps p e)) (told : over ≡ is_due (less_by d (get_or ps p e).bound)) where
  same : get_or ps p e ≡ shown ps p
  same = get_or_default ps p e going_post there

  waits : true ≡ is_waiting q
  waits =
      sym timed ∙ t.timed p (omega (arith, there, within)) ∙ sym (ap is_waiting moved ∙ waits_still d (get_or ps p e) ∙ ap is_waiting same)

  -- its bound doesn't run out, and its offers stay
  pub else_told : (wants : Bool) → over ≡ false → IsStated p true wants o new → wants ≡ shows_step q → IsIndexOf new (set ps p q)
  else_told wants is_over state able =
      still_told o new ps p q true wants there within t state
      (λ sending c. ap (offers_on sending c) moved ∙ else_offers_same d (get_or ps p e) (sym told ∙ is_over) sending c ∙ ap (offers_on sending c) same)
      waits able

  -- it runs out, and its offers are taken away
  pub over_told : (gone : Index) (wants : Bool) → over ≡ true → IsMarked (λ sending c. offers_on sending c (get_or ps p e)) p false o gone →
      IsStated p true wants gone new → wants ≡ shows_step q → IsIndexOf new (set ps p q)
  over_told gone wants is_over away state able =
      taken_away ps p there within o gone t
      (subst (λ (r : Post). IsMarked (λ sending c. offers_on sending c r) p false o gone) same away) q true wants new
      (λ sending c. ap (offers_on sending c) moved ∙ over_offers_nothing d (get_or ps p e) (sym told ∙ is_over) sending c) state waits able

-- ---- what waits for no time

no_bound : (b : Option Rational) → is_some b ≡ false → b ≡ None
no_bound None h = refl
no_bound (Some b) h = cc

nothing_moves : (ms : List Moving) → not (is_empty ms) ≡ false → ms ≡ []
nothing_moves [] h = refl
nothing_moves (m ∷ ms) h = cc

module _ (p : Post) (h : is_waiting p ≡ false) where
  pub unbounded : p.bound ≡ None
  unbounded = no_bound p.bound (or_parts (is_some p.bound) (not (is_empty p.moving)) h).0

  unmoving : p.moving ≡ []
  unmoving = nothing_moves p.moving (or_parts (is_some p.bound) (not (is_empty p.moving)) h).1

  -- it fits each delay, which changes nothing of it
  pub always_fits : (d : Rational) → post_fits d p ≡ true
  always_fits d =
      ap₂ (λ ms b. list_all (moving_fits d) ms && (is_empty ms || list_all (offer_fits d) p.offers) && bound_fits d b) unmoving unbounded

  pub unmoved : (d : Rational) → moved_post d p ≡ p
  unmoved d =
      ap₂ (λ ms b. with_bound (less_by d b) (record p { moving = map (moving_after d) ms; offers = if is_empty ms then p.offers else map (offer_after d) p.offers }))
      unmoving unbounded
      ∙ ap₂ (λ ms b. record p { moving = ms; bound = b }) (sym unmoving) (sym unbounded)

-- posts stay where one of them is moved that waits for no time
pub set_unmoved : (d : Rational) (ps : List Post) (p : ℕ) → is_waiting (shown ps p) ≡ false → set ps p (moved_post d (shown ps p)) ≡ ps
set_unmoved d ps p h = ap (set ps p) (unmoved (shown ps p) h d) ∙ set-get_or ps p going_post

shown_waits : (o : Index) (ps : List Post) (p : ℕ) (d : Post) → IsIndexOf o ps → length ps ≤ most_processes → p < length ps →
    is_waiting (get_or ps p d) ≡ has o.timed p
shown_waits o ps p d t within there =
    ap is_waiting (get_or_default ps p d going_post there) ∙ sym (t.timed p (omega (arith, there, within)))

-- ---- along the posts

-- a post that doesn't wait is passed over
pub fits_next : (o : Index) (ps : List Post) (p : ℕ) (d : Rational) → IsIndexOf o ps → length ps ≤ most_processes → p < length ps →
    has o.timed p ≡ false → list_all (post_fits d) (drop p ps) ≡ list_all (post_fits d) (drop (p + 1) ps)
fits_next o ps p d t within there still =
    at_drop_more (list_all (post_fits d)) ps p going_post there
    ∙ ap (λ (b : Bool). b && list_all (post_fits d) (drop (p + 1) ps))
    (always_fits (shown ps p) (shown_waits o ps p going_post t within there ∙ still) d)

-- the least bound, from the last post on
pub bound_more : (ps : List Post) (n : ℕ) (d : Post) (least : Option Rational) → 0 < n → n ≤ length ps → least ≡ least_bound (drop n ps) →
    earlier (get_or ps (n - 1) d).bound least ≡ least_bound (drop (n - 1) ps)
bound_more ps n d least some low e =
    let next : n ≡ n - 1 + 1 = omega (arith, some) in
    ap (earlier (get_or ps (n - 1) d).bound) (e ∙ ap (λ (k : ℕ). least_bound (drop k ps)) next)
    ∙ sym (at_drop_more least_bound ps (n - 1) d (omega (arith, some, low)))

pub bound_passed : (o : Index) (ps : List Post) (n : ℕ) (least : Option Rational) → IsIndexOf o ps → length ps ≤ most_processes → 0 < n → n ≤ length ps →
    has o.timed (n - 1) ≡ false → least ≡ least_bound (drop n ps) → least ≡ least_bound (drop (n - 1) ps)
bound_passed o ps n least t within some low still e =
    let there : n - 1 < length ps = omega (arith, some, low) in
    let none = unbounded (shown ps (n - 1)) (shown_waits o ps (n - 1) going_post t within there ∙ still) in
    sym (ap (λ (b : Option Rational). earlier b least) none) ∙ bound_more ps n going_post least some low e
