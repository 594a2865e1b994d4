-- What is put up shows the post: its own registers, marks and codes are those of the new post, and no other's have changed.
use Rattle.std.proofs.Common.{◌≡◌, ◌≢◌, refl, sym, ap, ap₂, ◌∙◌, subst, ℕ, zero, suc, ◌+◌, ◌*◌, ◌≤◌, ◌<◌, Bool, true, false, ◌&&◌, ◌||◌, ◌==◌, if◌then◌else◌, nat_lt, List, [], ◌∷◌, ◌++◌, map, take, length, count_by, slice_get, slice_set, slice_index_or, is_some, Option, Some, None, arith, ◌⊎◌, inl, inr}
use Rattle.std.specs.List.{list_all, list_any}
use Rattle.std.proofs.lemmas.Bool.{true≢false, and_parts, eqb-true, eq-eqb, ltb-true}
use Rattle.std.proofs.lemmas.Option.{same_Some}
use Rattle.std.proofs.lemmas.List.{get_or-take, get_or-set_same, get_or-set_other, length-set}
use Rattle.hc_rational.specs.Words.{Rational, zero_ℚ}
use Rattle.hc_term.specs.declared.stmt.Io.{Io}
use Rattle.hc_term.specs.declared.stmt.Io.TheVariants as io
use Rattle.hc_term.specs.declared.stmt.Rate.{Rate}
use Rattle.hc_term.specs.declared.post.Post.{Post}
use Rattle.hc_term.specs.declared.post.Moving.{Moving}
use Rattle.hc_term.specs.declared.post.Offer.{Offer}
use Rattle.hc_term.specs.declared.post.Offer.TheVariants.{Send, Receive}
use Rattle.hc_term.specs.Value.{Store, val}
use Rattle.hc_term.specs.Motion.{Rates}
use Rattle.hc_term.specs.Offers.{moving_of, offer_of}
use Rattle.hc_term.specs.Profile.{is_io}
use Rattle.hc_term.specs.Rules.{is_on}
use Rattle.hc_term.proofs.Used.{list_any-map}
use Rattle.hc_core_c.specs.Twin.{Board64, nth, register, variable, rate_of, bound_of, start}
use Rattle.hc_cstep.specs.Stands as private
use Rattle.hc_core_facts.specs.Standing.{flag, phase_code, slope_of, OfferIs, BoundIs, Shows, KeepsPost}
use Rattle.hc_cpost.specs.Parts.{copied, below, own_registers, rate_registers, sent_registers, all_sent_registers, all_registers, marked, coded, directed}
use Rattle.hc_cpost.specs.Posting.{put_up}
use Rattle.hc_cpost.proofs.Rows.{is_among, copied_kept, copied_there, evolves, marked_there, marked_kept}
use Rattle.hc_cpost.proofs.Coded.{offered_by}
use Rattle.hc_cpost.proofs.Shares.{IsShared, IsMotion, below_among, own_shared, rates_shared, sent_shared, elsewhere, not_core}
use Rattle.hc_cpost.proofs.Gone.{Gone}

-- What the own row and the instruction say of the new post: what evolves and what is offered, of which channels are used once and variables are few.
pub record Puts (C n : ℕ) (own : List Rational) (bounded : Bool) (phase : ℕ) (rates : List Rate) (ios : List Io) (s : Store) (r : Rates) (x : Post) : Type 0 where
  pub few : n ≤ 64
  pub sized : length s ≡ n
  pub store : take n own ≡ s
  pub phase_is : phase ≡ phase_code x.phase
  pub moving : x.moving ≡ moving_of s rates
  pub offers : x.offers ≡ offered_by s r ios
  pub shows : private.Shows bounded own x
  pub level : (g channel : ℕ) (at slope : Rational) → slice_get x.offers g ≡ Some (Send channel at slope) → slope_of x slope ≡ slope
  pub varied : list_all (λ (r : Rate). nat_lt r.variable n) rates ≡ true
  pub ruled : list_all (is_io C n) ios ≡ true
  pub once : (sending : Bool) (c : ℕ) → count_by (is_on sending c) ios ≤ 1
  pub short : length ios ≤ 32

-- ---- registers among all

or_first : (a b : Bool) → a ≡ true → (a || b) ≡ true
or_first true b h = refl
or_first false b h = absurd (true≢false (sym h))

pub or_later : (a b : Bool) → b ≡ true → (a || b) ≡ true
or_later true b h = refl
or_later false b h = h

or_split : {A : Type 0} (a b : Bool) → (a || b) ≡ true → (a ≡ true → A) → (b ≡ true → A) → A
or_split true b h f g = f refl
or_split false b h f g = g h

or_assoc : (a b c : Bool) → ((a || b) || c) ≡ (a || (b || c))
or_assoc true b c = refl
or_assoc false b c = refl

among-append : (d : ℕ) (ds es : List ℕ) → is_among d (ds ++ es) ≡ (is_among d ds || is_among d es)
among-append d [] es = refl
among-append d (c ∷ ds) es = ap (λ (b : Bool). (c == d) || b) (among-append d ds es) ∙ sym (or_assoc (c == d) (is_among d ds) (is_among d es))

module _ (n : ℕ) (rates : List Rate) (ios : List Io) where
  abbrev all : List ℕ
  all = all_registers n rates ios

  abbrev others : List ℕ
  others = rate_registers rates ++ all_sent_registers 0 ios

  pub own_among : (d : ℕ) → is_among d (own_registers n) ≡ true → is_among d all ≡ true
  own_among d h = among-append d (own_registers n) others ∙ or_first (is_among d (own_registers n)) (is_among d others) h

  pub rate_among : (d : ℕ) → is_among d (rate_registers rates) ≡ true → is_among d all ≡ true
  rate_among d h =
      among-append d (own_registers n) others
      ∙ or_later (is_among d (own_registers n)) (is_among d others)
      (among-append d (rate_registers rates) (all_sent_registers 0 ios) ∙ or_first (is_among d (rate_registers rates)) (is_among d (all_sent_registers 0 ios)) h)

  pub sent_among : (d : ℕ) → is_among d (all_sent_registers 0 ios) ≡ true → is_among d all ≡ true
  sent_among d h =
      among-append d (own_registers n) others
      ∙ or_later (is_among d (own_registers n)) (is_among d others)
      (among-append d (rate_registers rates) (all_sent_registers 0 ios) ∙ or_later (is_among d (rate_registers rates)) (is_among d (all_sent_registers 0 ios)) h)

  of_rates : (d : ℕ) → (128 ≤ d) × (d < 192) → IsShared d
  of_rates d (h, k) = IsMotion h (omega (arith, k))

  of_sent : (d : ℕ) → ((192 + 0 ≤ d) × (d < 224)) ⊎ ((256 + 0 ≤ d) × (d < 288)) → IsShared d
  of_sent d (inl (h, k)) = IsMotion (omega (arith, h)) (omega (arith, k))
  of_sent d (inr (h, k)) = IsMotion (omega (arith, h)) k

  pub all_shared : n ≤ 64 → list_all (λ (r : Rate). nat_lt r.variable n) rates ≡ true → length ios ≤ 32 → (d : ℕ) → is_among d all ≡ true → IsShared d
  all_shared few varied short d h =
      or_split (is_among d (own_registers n)) (is_among d others) (sym (among-append d (own_registers n) others) ∙ h) (λ k. own_shared n few d k)
      (
      λ k. or_split (is_among d (rate_registers rates)) (is_among d (all_sent_registers 0 ios))
      (sym (among-append d (rate_registers rates) (all_sent_registers 0 ios)) ∙ k)
      (λ j. of_rates d (rates_shared n few rates varied d j))
      (λ j. of_sent d (sent_shared 0 ios d (omega (arith, short)) j))
      )

-- ---- what the k-th evolving variable and the g-th offer ask

-- a moving variable is one of the rates'
pub record Moves (n : ℕ) (rates : List Rate) (s : Store) (m : Moving) : Type 0 where
  pub among : is_among (128 + m.variable) (rate_registers rates) ≡ true
  pub low : m.variable < n
  pub at : m.at ≡ slice_index_or s m.variable zero_ℚ

moves_on : (n : ℕ) (r : Rate) (rates : List Rate) (s : Store) (m : Moving) → Moves n rates s m → Moves n (r ∷ rates) s m
moves_on n r rates s m h = record { among = or_later (128 + r.variable == 128 + m.variable) (is_among (128 + m.variable) (rate_registers rates)) h.among; low = h.low; at = h.at }

pub moves_at : (n : ℕ) (s : Store) (rates : List Rate) → list_all (λ (r : Rate). nat_lt r.variable n) rates ≡ true → (k : ℕ) (m : Moving) → slice_get (moving_of s rates) k ≡ Some m →
    Moves n rates s m
moves_at n s [] h k m e = cc
moves_at n s (r ∷ rates) h zero m e =
    let parts = and_parts (nat_lt r.variable n) (list_all (λ (r : Rate). nat_lt r.variable n) rates) h in
    let low = ltb-true r.variable n parts.0 in
    let first : Moving = record { variable = r.variable; at = slice_index_or s r.variable zero_ℚ; rate = val s r.value } in
    subst (λ (y : Moving). Moves n (r ∷ rates) s y) (same_Some first m e)
    (
    record {
      among = or_first (128 + r.variable == 128 + r.variable) (is_among (128 + r.variable) (rate_registers rates)) (eq-eqb (128 + r.variable) (128 + r.variable) refl);
      low = low;
      at = refl;
    }
    )
moves_at n s (r ∷ rates) h (suc k) m e =
    moves_on n r rates s m (moves_at n s rates (and_parts (nat_lt r.variable n) (list_all (λ (r : Rate). nat_lt r.variable n) rates) h).1 k m e)

pub rate_is : (row : List Rational) (ms : List Moving) (k : ℕ) (m : Moving) → private.RatesAre row ms → slice_get ms k ≡ Some m →
    slice_index_or row (128 + m.variable) zero_ℚ ≡ m.rate
rate_is row [] k m h e = cc
rate_is row (x ∷ xs) zero m h e = subst (λ (y : Moving). slice_index_or row (128 + y.variable) zero_ℚ ≡ y.rate) (same_Some x m e) h.0
rate_is row (x ∷ xs) (suc k) m h e = rate_is row xs k m h.1 e

pub sent_is : (row : List Rational) (j : ℕ) (os : List Offer) (g : ℕ) (o : Offer) → private.SentAre row j os → slice_get os g ≡ Some o → private.SentIs row (j + g) o
sent_is row j [] g o h e = cc
sent_is row j (x ∷ xs) zero o h e =
    let same : j ≡ j + 0 = omega arith in
    subst (λ (i : ℕ). private.SentIs row i o) same (subst (λ (y : Offer). private.SentIs row j y) (same_Some x o e) h.0)
sent_is row j (x ∷ xs) (suc g) o h e =
    let next : j + 1 + g ≡ j + suc g = omega arith in
    subst (λ (i : ℕ). private.SentIs row i o) next (sent_is row (j + 1) xs g o h.1 e)

-- value and slope of an offer to send are among those that are written
abbrev pub AreAmong : ℕ → List ℕ → Type 0
AreAmong g ds = (is_among (192 + g) ds ≡ true) × (is_among (256 + g) ds ≡ true)

among_behind : (g : ℕ) (ds es : List ℕ) → AreAmong g es → AreAmong g (ds ++ es)
among_behind g ds es h = (
  among-append (192 + g) ds es ∙ or_later (is_among (192 + g) ds) (is_among (192 + g) es) h.0,
  among-append (256 + g) ds es ∙ or_later (is_among (256 + g) ds) (is_among (256 + g) es) h.1,
)

pub sent_at : (s : Store) (r : Rates) (j : ℕ) (ios : List Io) (g channel : ℕ) (at slope : Rational) → slice_get (offered_by s r ios) g ≡ Some (Send channel at slope) →
    AreAmong (j + g) (all_sent_registers j ios)
sent_at s r j [] g channel at slope e = cc
sent_at s r j (io.Send c v ∷ ios) zero channel at slope e =
    let same : j ≡ j + 0 = omega arith in
    let ds = all_sent_registers (suc j) ios in
    subst (λ (i : ℕ). AreAmong i (all_sent_registers j (io.Send c v ∷ ios))) same
    ((
      or_first (192 + j == 192 + j) ((256 + j == 192 + j) || is_among (192 + j) ds) (eq-eqb (192 + j) (192 + j) refl),
      or_later (192 + j == 256 + j) ((256 + j == 256 + j) || is_among (256 + j) ds) (or_first (256 + j == 256 + j) (is_among (256 + j) ds) (eq-eqb (256 + j) (256 + j) refl)),
    )
    )
sent_at s r j (io.Receive c y ∷ ios) zero channel at slope e = cc
sent_at s r j (i ∷ ios) (suc g) channel at slope e =
    let next : suc j + g ≡ j + suc g = omega arith in
    subst (λ (k : ℕ). AreAmong k (all_sent_registers j (i ∷ ios))) next
    (among_behind (suc j + g) (sent_registers j i) (all_sent_registers (suc j) ios) (sent_at s r (suc j) ios g channel at slope e))
