-- The board that is put up shows the new post of p, and of all others what it showed before.
use Rattle.std.proofs.Common.{◌≡◌, ◌≢◌, refl, sym, ap, ap₂, ◌∙◌, subst, ℕ, zero, suc, ◌+◌, ◌*◌, ◌≤◌, ◌<◌, Bool, true, false, ◌||◌, ◌==◌, if◌then◌else◌, nat_lt, List, [], ◌∷◌, ◌++◌, map, take, length, slice_get, slice_set, slice_index_or, is_some, Option, Some, None, arith, ◌⊎◌, inl, inr}
use Rattle.std.specs.Prelude.{⊤}
use Rattle.std.specs.List.{list_all, list_any}
use Rattle.std.proofs.lemmas.Bool.{true≢false, eq-eqb}
use Rattle.std.proofs.lemmas.List.{get_or-take, get_or-set_same, get_or-set_other, length-set, length-map}
use Rattle.hc_rational.specs.Words.{Rational, zero_ℚ}
use Rattle.hc_term.specs.declared.stmt.Io.{Io}
use Rattle.hc_term.specs.declared.stmt.Rate.{Rate}
use Rattle.hc_term.specs.declared.post.Post.{Post}
use Rattle.hc_term.specs.declared.post.Moving.{Moving}
use Rattle.hc_term.specs.declared.post.Offer.{Offer}
use Rattle.hc_term.specs.declared.post.Offer.TheVariants.{Send, Receive}
use Rattle.hc_term.specs.Value.{Store, val}
use Rattle.hc_term.specs.Motion.{Rates}
use Rattle.hc_term.specs.Offers.{moving_of}
use Rattle.hc_term.proofs.Used.{list_any-map}
use Rattle.hc_core_c.specs.Twin.{Board64, nth, register, variable, rate_of, bound_of, start}
use Rattle.hc_cstep.specs.Stands as private
use Rattle.hc_core_facts.specs.Standing.{flag, phase_code, slope_of, OfferIs, BoundIs, Shows, KeepsPost}
use Rattle.hc_cpost.specs.Parts.{copied, below, own_registers, rate_registers, all_sent_registers, all_registers, marked}
use Rattle.hc_cpost.specs.Posting.{put_up}
use Rattle.hc_cpost.proofs.Rows.{is_among, copied_kept, copied_there, evolves, marked_there, marked_kept, evolves_low}
use Rattle.hc_cpost.proofs.Coded.{offered_by}
use Rattle.hc_cpost.proofs.Shares.{IsShared, IsVariable, IsBound, IsMotion, below_among, elsewhere}
use Rattle.hc_cpost.proofs.Gone.{Gone}
use Rattle.hc_cpost.proofs.Putting.{Puts, or_later, all_shared, own_among, rate_among, sent_among, Moves, moves_at, rate_is, sent_is, AreAmong, sent_at}

pub short_of : {A : Type 0} (os : List A) (i : ℕ) (o : A) → slice_get os i ≡ Some o → i < length os
short_of [] i o e = cc
short_of (y ∷ os) zero o e = omega arith
short_of (y ∷ os) (suc i) o e = (let h = short_of os i o e in omega (arith, h))

module _ (C p n : ℕ) (own : List Rational) (bounded : Bool) (phase : ℕ) (rates : List Rate) (ios : List Io) (s : Store) (r : Rates) (x : Post)
    (puts : Puts C n own bounded phase rates ios s r x) (b g : Board64) (gone : Gone C p b g) where
  abbrev pub up : Board64
  up = put_up p n own bounded phase rates ios g

  abbrev ds : List ℕ
  ds = all_registers n rates ios

  shared : (d : ℕ) → is_among d ds ≡ true → IsShared d
  shared = all_shared n rates ios puts.few puts.varied puts.short

  same_row : g.row ≡ b.row
  same_row = ap (λ (y : Board64). y.row) gone.is

  -- a register that isn't p's
  pub register_kept : (e : ℕ) → ((d : ℕ) → IsShared d → e ≢ p * 320 + d) → register up e ≡ register b e
  register_kept e apart = copied_kept p own ds g.row e (λ d h. apart d (shared d h)) ∙ ap (λ (row : List Rational). slice_index_or row e zero_ℚ) same_row

  -- ---- of the others

  module _ (k : ℕ) (apart : k ≢ p) where
    their : (e : ℕ) → e < 320 → register up (k * 320 + e) ≡ register b (k * 320 + e)
    their e low = register_kept (k * 320 + e) (λ d h. elsewhere p k d e h low apart)

    element_kept : (xs : List ℕ) (v : ℕ) → nth (slice_set xs p v) k ≡ nth xs k
    element_kept xs v = get_or-set_other xs p k v 0 apart

    bound_kept : (o : Option Rational) → BoundIs (register b (bound_of k)) o → BoundIs (register up (bound_of k)) o
    bound_kept None h = tt
    bound_kept (Some v) h = their 66 (omega arith) ∙ h

    same_place : (d e i : ℕ) → k * 320 + d + e ≡ i → d + e < 320 → register up i ≡ register b i
    same_place d e i is low =
        let whole : k * 320 + (d + e) ≡ i = omega (arith, is) in
        subst (λ (j : ℕ). register up j ≡ register b j) whole (their (d + e) low)

    moving_kept : (m : Moving) → m.variable < 64 → (register b (variable k m.variable) ≡ m.at) × (register b (rate_of k m.variable) ≡ m.rate) →
        (register up (variable k m.variable) ≡ m.at) × (register up (rate_of k m.variable) ≡ m.rate)
    moving_kept m low h = (
      their m.variable (omega (arith, low)) ∙ h.0,
      same_place 128 m.variable (rate_of k m.variable) refl (omega (arith, low)) ∙ h.1,
    )

    offer_kept : (i : ℕ) (q : Post) (o : Offer) → i < 32 → OfferIs b k i q o → OfferIs up k i q o
    offer_kept i q (Send channel at slope) low h = (
      same_place 192 i (k * 320 + 192 + i) refl (omega (arith, low)) ∙ h.0,
      same_place 256 i (k * 320 + 256 + i) refl (omega (arith, low)) ∙ h.1,
    )
    offer_kept i q (Receive channel) low h = tt

    flags_kept : (i : ℕ) → i < 64 → nth up.moves (k * 64 + i) ≡ nth b.moves (k * 64 + i)
    flags_kept i low =
        let differ : (j : ℕ) → j < 64 → k * 64 + i ≢ p * 64 + j = λ j less e. apart (omega (arith, low, less, e)) in
        marked_kept p rates g.moves (k * 64 + i)
        (λ j h. differ j (let less = evolves_low p n rates puts.varied j h in let few = puts.few in omega (arith, less, few)))
        ∙ gone.others (k * 64 + i) differ

    pub shows_others : (clock : Rational) (q : Post) → KeepsPost clock q → Shows b k q → Shows up k q
    shows_others clock q keeps h = record {
      phase = element_kept g.phase phase ∙ ap (λ (y : Board64). nth y.phase k) gone.is ∙ element_kept b.phase 0 ∙ h.phase;
      bounded = element_kept g.bounded (flag bounded) ∙ ap (λ (y : Board64). nth y.bounded k) gone.is ∙ element_kept b.bounded 0 ∙ h.bounded;
      bound = bound_kept q.bound h.bound;
      moves = λ i low. flags_kept i low ∙ h.moves i low;
      moving = λ i m e. moving_kept m (keeps.variables i m e) (h.moving i m e);
      offers = λ i o e. offer_kept i q o (let short = keeps.few in let low = short_of q.offers i o e in omega (arith, short, low)) (h.offers i o e);
    }

  -- ---- of p

  module _ (low : p < 64) (wide : length b.row ≡ 20480) (there : p < length b.phase) (there' : p < length b.bounded) (room : p * 64 + 64 ≤ length b.moves) where
    its : (d : ℕ) → d < 320 → is_among d ds ≡ true → register up (p * 320 + d) ≡ slice_index_or own d zero_ℚ
    its d less h =
        let inside : p * 320 + d < length g.row = subst (λ (row : List Rational). p * 320 + d < length row) (sym same_row) (omega (arith, low, less, wide)) in
        copied_there p own ds g.row d inside h

    bound_up : (o : Option Rational) → private.BoundIs bounded own o → BoundIs (register up (bound_of p)) o
    bound_up None h = tt
    bound_up (Some v) h = its 66 (omega arith) (own_among n rates ios 66 refl) ∙ h.1

    bounded_is : (o : Option Rational) → private.BoundIs bounded own o → bounded ≡ is_some o
    bounded_is None h = h
    bounded_is (Some v) h = h.0

    pub variable_up : (i : ℕ) → i < n → register up (variable p i) ≡ slice_index_or s i zero_ℚ
    variable_up i less =
        let few = puts.few in
        its i (omega (arith, less, few)) (own_among n rates ios i (or_later (66 == i) (is_among i (below n)) (below_among n i less)))
        ∙ sym (get_or-take n own i zero_ℚ less) ∙ ap (λ (l : List Rational). slice_index_or l i zero_ℚ) puts.store

    at_once : (i d e : ℕ) → p * 320 + d + e ≡ i → d + e < 320 → is_among (d + e) ds ≡ true → register up i ≡ slice_index_or own (d + e) zero_ℚ
    at_once i d e is less h =
        let whole : p * 320 + (d + e) ≡ i = omega (arith, is) in
        subst (λ (j : ℕ). register up j ≡ slice_index_or own (d + e) zero_ℚ) whole (its (d + e) less h)

    moving_up : (k : ℕ) (m : Moving) → slice_get x.moving k ≡ Some m → (register up (variable p m.variable) ≡ m.at) × (register up (rate_of p m.variable) ≡ m.rate)
    moving_up k m e =
        let few = puts.few in
        let h = moves_at n s rates puts.varied k m (sym (ap (λ (ms : List Moving). slice_get ms k) puts.moving) ∙ e) in
        let less = h.low in (
          variable_up m.variable less ∙ sym h.at,
          at_once (rate_of p m.variable) 128 m.variable refl (omega (arith, less, few)) (rate_among n rates ios (128 + m.variable) h.among)
              ∙ rate_is own x.moving k m puts.shows.rates e,
        )

    flags_up : (i : ℕ) → i < 64 → nth up.moves (p * 64 + i) ≡ flag (list_any (λ (m : Moving). m.variable == i) x.moving)
    flags_up i less =
        let long = gone.long in
        marked_there p rates g.moves i (omega (arith, long, room, less))
        ∙ ap (λ (y : ℕ). if evolves p i rates then 1 else y) (gone.still i less)
        ∙ as_flag (evolves p i rates)
        ∙ ap flag
        (
        sym (list_any-map (λ (m : Moving). m.variable == i) (λ (y : Rate). record { variable = y.variable; at = slice_index_or s y.variable zero_ℚ; rate = val s y.value }) rates)
        ∙ sym (ap (λ (ms : List Moving). list_any (λ (m : Moving). m.variable == i) ms) puts.moving)
        )
      where
        as_flag : (z : Bool) → (if z then 1 else 0) ≡ flag z
        as_flag true = refl
        as_flag false = refl

    offer_up : (i : ℕ) (o : Offer) → slice_get x.offers i ≡ Some o → OfferIs up p i x o
    offer_up i (Receive channel) e = tt
    offer_up i (Send channel at slope) e =
        let few = puts.short in
        let many : length x.offers ≡ length ios = ap (λ (os : List Offer). length os) puts.offers ∙ length-map ios _ in
        let low = short_of x.offers i (Send channel at slope) e in
        let same : 0 + i ≡ i = omega arith in
        let among : AreAmong i (all_sent_registers 0 ios) =
        subst (λ (j : ℕ). AreAmong j (all_sent_registers 0 ios)) same
        (sent_at s r 0 ios i channel at slope (sym (ap (λ (os : List Offer). slice_get os i) puts.offers) ∙ e)) in
        let sent : private.SentIs own i (Send channel at slope) =
        subst (λ (j : ℕ). private.SentIs own j (Send channel at slope)) same (sent_is own 0 x.offers i (Send channel at slope) puts.shows.sent e) in (
          at_once (p * 320 + 192 + i) 192 i refl (omega (arith, few, many, low)) (sent_among n rates ios (192 + i) among.0) ∙ sent.0,
          at_once (p * 320 + 256 + i) 256 i refl (omega (arith, few, many, low)) (sent_among n rates ios (256 + i) among.1) ∙ sent.1
              ∙ sym (puts.level i channel at slope e),
        )

    phase_there : p < length g.phase
    phase_there = subst (λ (l : ℕ). p < l) (sym (ap (λ (y : Board64). length y.phase) gone.is ∙ length-set b.phase p 0)) there

    bounded_there : p < length g.bounded
    bounded_there = subst (λ (l : ℕ). p < l) (sym (ap (λ (y : Board64). length y.bounded) gone.is ∙ length-set b.bounded p 0)) there'

    pub shows_own : Shows up p x
    shows_own = record {
      phase = get_or-set_same g.phase p phase 0 phase_there ∙ puts.phase_is;
      bounded = get_or-set_same g.bounded p (flag bounded) 0 bounded_there ∙ ap flag (bounded_is x.bound puts.shows.bound);
      bound = bound_up x.bound puts.shows.bound;
      moves = flags_up;
      moving = moving_up;
      offers = offer_up;
    }
