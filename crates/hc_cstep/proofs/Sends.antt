-- The blocks of branches that send, one after the other: each leaves its value and its slope, and none touches those of another.
use Rattle.std.specs.Prelude.{◌≡◌, ◌≢◌, ◌≤◌, ◌<◌, ℕ, ◌+◌, zero, suc, Bool, true, List, [], ◌∷◌, length, take, slice_set, slice_index_or, map, IsTrue, Option, Some, None}
use Rattle.std.specs.List.{list_all}
use Rattle.std.proofs.Common.{refl, ◌∙◌, arith}
use Rattle.std.proofs.lemmas.Bool.{and_parts}
use Rattle.std.proofs.lemmas.List.{get_or-set_same, get_or-set_other, length-set, take-set-le}
use Rattle.hc_rational.specs.Words.{Rational, zero_ℚ}
use Rattle.hc_term.specs.declared.expr.Expr.{Expr}
use Rattle.hc_term.specs.declared.stmt.Io.{Io}
use Rattle.hc_term.specs.declared.stmt.Io.TheVariants.{Send, Receive}
use Rattle.hc_term.specs.declared.post.Offer.{Offer}
use Rattle.hc_term.specs.declared.post.Offer.TheVariants as offer
use Rattle.hc_term.specs.Motion.{Rates}
use Rattle.hc_cast.specs.declared.stmt.CStmt.{CStmt}
use Rattle.hc_cast.specs.declared.program.CProgram.{CProgram}
use Rattle.hc_cmach.specs.State.{width}
use Rattle.hc_cstep.specs.Locals.{Mine, Base}
use Rattle.hc_cstep.specs.Stands.{register, rate_of, value_of, slope_of, SentAre}
use Rattle.hc_cstep.specs.Words.{each}
use Rattle.hc_cstep.specs.Parts.{RateIs, AreRates}
use Rattle.hc_cstep.specs.Sending.{sent_by, all_sent}
use Rattle.hc_cstep.specs.Premises.{is_sent, steps_of}
use Rattle.hc_cstep.proofs.Prepared.{same_below, Ready, Prepares, after, still_ready, prepares_none, prepares_longer, prepares_so, prepares_guarded, then_each}

-- ---- rates stay where they are

there_below : (xs : Rates) (x : ℕ) (v : Rational) → slice_index_or xs x None ≡ Some v → x < length xs
there_below [] x v h = cc
there_below (y ∷ xs) zero v h = omega arith
there_below (y ∷ xs) (suc x) v h = let less = there_below xs x v h in omega (arith, less)

still_held : (a k : Option Rational) (held now : Rational) → ((v : Rational) → a ≡ Some v → now ≡ held) → RateIs a k held → RateIs a k now
still_held None None held now f h = tt
still_held None (Some k) held now f h = h
still_held (Some v) None held now f h = h
still_held (Some v) (Some k) held now f h = f v refl ∙ h

pub rates_stand : (pattern r : Rates) (row now : List Rational) → length pattern ≤ 64 → take 192 now ≡ take 192 row → AreRates pattern r row → AreRates pattern r now
rates_stand pattern r row now short same h =
    λ x. still_held (slice_index_or pattern x None) (slice_index_or r x None) (register row (rate_of x)) (register now (rate_of x))
    (λ v e. let less = there_below pattern x v e in same_below 192 now row (rate_of x) (omega (arith, less, short)) same) (h x)

-- ---- one branch

-- value and slope of branch k stand there, and those of all others are those of before
pub record Sent (k : ℕ) (before : List Rational) (at slope : Rational) (row : List Rational) : Type 0 where
  pub value : register row (value_of k) ≡ at
  pub grows : register row (slope_of k) ≡ slope
  pub rest_values : (h : ℕ) → h < 64 → h ≢ k → register row (value_of h) ≡ register before (value_of h)
  pub rest_slopes : (h : ℕ) → h < 64 → h ≢ k → register row (slope_of h) ≡ register before (slope_of h)

abbrev pub with_sent : ℕ → List Rational → Rational → Rational → List Rational
with_sent k row at slope = slice_set (slice_set row (value_of k) at) (slope_of k) slope

module _ (k : ℕ) (less : k < 64) (before row : List Rational) (at slope : Rational) (wide : length row ≡ width) where
  abbrev first : List Rational
  first = slice_set row (value_of k) at

  first_wide : length first ≡ width
  first_wide = length-set row (value_of k) at ∙ wide

  pub sent_there : ((i : ℕ) → i < 320 → register row i ≡ register before i) → Sent k before at slope (with_sent k row at slope)
  sent_there same = record {
    value =
        get_or-set_other first (slope_of k) (value_of k) slope zero_ℚ (λ e. omega (arith, e))
        ∙ get_or-set_same row (value_of k) at zero_ℚ (omega (arith, less, wide));
    grows = get_or-set_same first (slope_of k) slope zero_ℚ (omega (arith, less, first_wide));
    rest_values =
        λ h few apart.
        get_or-set_other first (slope_of k) (value_of h) slope zero_ℚ (λ e. omega (arith, e, few))
        ∙ get_or-set_other row (value_of k) (value_of h) at zero_ℚ (λ e. apart (omega (arith, e))) ∙ same (value_of h) (omega (arith, few));
    rest_slopes =
        λ h few apart.
        get_or-set_other first (slope_of k) (slope_of h) slope zero_ℚ (λ e. apart (omega (arith, e)))
        ∙ get_or-set_other row (value_of k) (slope_of h) at zero_ℚ (λ e. omega (arith, e, less)) ∙ same (slope_of h) (omega (arith, few));
  }

  pub sent_low : take 192 (with_sent k row at slope) ≡ take 192 row
  sent_low = take-set-le 192 first (slope_of k) slope (omega arith) ∙ take-set-le 192 row (value_of k) at (omega arith)

  pub sent_wide : length (with_sent k row at slope) ≡ length row
  sent_wide = length-set first (slope_of k) slope ∙ length-set row (value_of k) at

-- ---- all branches

-- the first of them is number k
pub record AllSent (k : ℕ) (before : List Rational) (offers : List Offer) (row : List Rational) : Type 0 where
  pub sent : SentAre row k offers
  pub earlier_values : (h : ℕ) → h < k → register row (value_of h) ≡ register before (value_of h)
  pub earlier_slopes : (h : ℕ) → h < k → register row (slope_of h) ≡ register before (slope_of h)

abbrev pub offered : (Expr → Rational) → (Expr → Rational) → Io → Offer
offered at slope (Send channel value) = offer.Send channel (at value) (slope value)
offered at slope (Receive channel variable) = offer.Receive channel

pub few_blocks : (one : ℕ → Expr → List CStmt) (n k : ℕ) (ios : List Io) → length (all_sent one k ios) ≤ steps_of n (length ios)
few_blocks one n k [] = omega arith
few_blocks one n k (io ∷ ios) = one_more io (all_sent one (k + 1) ios) (few_blocks one n (k + 1) ios)
  where
    one_more : (io : Io) (blocks : List (List CStmt)) → length blocks ≤ steps_of n (length ios) → length (sent_by one k io blocks) ≤ (1 + n) + steps_of n (length ios)
    one_more (Send channel value) blocks h = omega (arith, h)
    one_more (Receive channel variable) blocks h = omega (arith, h)

module _ (g : CProgram) (p : ℕ) (b : Base) (vars : ℕ) (few : vars ≤ 64) (room : ℕ) (clock : Rational) (s : List Rational) (pattern r : Rates) (short : length pattern ≤ 64)
    (one : ℕ → Expr → List CStmt) (n : ℕ) (good fit : Expr → Bool) (at slope : Expr → Rational) where
  -- a block for one branch
  abbrev pub Sender : Type 0
  Sender =
      (m : Mine) (k : ℕ) (e : Expr) → Ready vars room clock s m → AreRates pattern r m.row → k < 64 → IsTrue (good e) →
      Prepares g p n b 192 (one k e) m (fit e) (λ (row : List Rational) (truth : Bool). Sent k m.row (at e) (slope e) row)

  module _ (sends : Sender) where
    abbrev Done : ℕ → Mine → List Io → Type 0
    Done k m ios =
        Prepares g p (steps_of n (length ios)) b 192 (each (all_sent one k ios)) m (list_all (is_sent fit) ios)
        (λ (row : List Rational) (truth : Bool). AllSent k m.row (map (offered at slope) ios) row)

    -- the first sends
    more_send : (ios : List Io) (k : ℕ) (m : Mine) (channel : ℕ) (e : Expr) → k + suc (length ios) ≤ 64 → Ready vars room clock s m → AreRates pattern r m.row → IsTrue (good e) →
        ((w : Mine) → Ready vars room clock s w → AreRates pattern r w.row → Done (k + 1) w ios) → Done k m (Send channel e ∷ ios)
    more_send ios k m channel e fits ready rated is rest =
        let a = prepares_guarded g p b n 192 (one k e) m (fit e) (λ (row : List Rational) (truth : Bool). Sent k m.row (at e) (slope e) row) ready.on
        (sends m k e ready rated (omega (arith, fits)) is) in
        then_each g p b (1 + n) (steps_of n (length ios)) 192 (each (one k e ∷ [])) (all_sent one (k + 1) ios) m (fit e) (list_all (is_sent fit) ios)
        (λ (row : List Rational) (truth : Bool). Sent k m.row (at e) (slope e) row)
        (λ (row : List Rational) (truth : Bool). AllSent k m.row (map (offered at slope) (Send channel e ∷ ios)) row)
        (few_blocks one n (k + 1) ios) a
        (
        λ on.
        let w = after m a.row true a.truth a.others in
        let sent = a.such on in
        prepares_so g p b (steps_of n (length ios)) 192 192 (each (all_sent one (k + 1) ios)) w (list_all (is_sent fit) ios)
        (λ (row : List Rational) (truth : Bool). AllSent (k + 1) a.row (map (offered at slope) ios) row)
        (λ (row : List Rational) (truth : Bool). AllSent k m.row (map (offered at slope) (Send channel e ∷ ios)) row) (omega arith)
        (rest w (still_ready vars room clock s m 192 a.row a.truth a.others few (omega arith) ready a.wide a.kept a.low) (rates_stand pattern r m.row a.row short a.low rated))
        (
        λ low all.
        record {
          sent = ((all.earlier_values k (omega arith) ∙ sent.value, all.earlier_slopes k (omega arith) ∙ sent.grows), all.sent);
          earlier_values = λ h less. all.earlier_values h (omega (arith, less)) ∙ sent.rest_values h (omega (arith, less, fits)) (λ same. omega (arith, same, less));
          earlier_slopes = λ h less. all.earlier_slopes h (omega (arith, less)) ∙ sent.rest_slopes h (omega (arith, less, fits)) (λ same. omega (arith, same, less));
        }
        )
        )

    -- the first receives
    more_receive : (ios : List Io) (k : ℕ) (m : Mine) (channel variable : ℕ) → Done (k + 1) m ios → Done k m (Receive channel variable ∷ ios)
    more_receive ios k m channel variable d =
        prepares_longer g p b (steps_of n (length ios)) ((1 + n) + steps_of n (length ios)) 192 (each (all_sent one (k + 1) ios)) m (list_all (is_sent fit) ios)
        (λ (row : List Rational) (truth : Bool). AllSent k m.row (map (offered at slope) (Receive channel variable ∷ ios)) row) (omega arith)
        (
        prepares_so g p b (steps_of n (length ios)) 192 192 (each (all_sent one (k + 1) ios)) m (list_all (is_sent fit) ios)
        (λ (row : List Rational) (truth : Bool). AllSent (k + 1) m.row (map (offered at slope) ios) row)
        (λ (row : List Rational) (truth : Bool). AllSent k m.row (map (offered at slope) (Receive channel variable ∷ ios)) row) (omega arith) d
        (
        λ low all.
        record {
          sent = (tt, all.sent);
          earlier_values = λ h less. all.earlier_values h (omega (arith, less));
          earlier_slopes = λ h less. all.earlier_slopes h (omega (arith, less));
        }
        )
        )

    pub all_send : (ios : List Io) (k : ℕ) (m : Mine) → k + length ios ≤ 64 → Ready vars room clock s m → AreRates pattern r m.row → IsTrue (list_all (is_sent good) ios) → Done k m ios
    all_send [] k m fits ready rated is =
        prepares_none g p b 192 m (λ (row : List Rational) (truth : Bool). AllSent k m.row [] row) ready.on
        (record { sent = tt; earlier_values = λ h less. refl; earlier_slopes = λ h less. refl })
    all_send (Send channel e ∷ ios) k m fits ready rated is =
        let parts = and_parts (good e) (list_all (is_sent good) ios) is in
        more_send ios k m channel e fits ready rated parts.0 (λ w again there. all_send ios (k + 1) w (omega (arith, fits)) again there parts.1)
    all_send (Receive channel variable ∷ ios) k m fits ready rated is =
        more_receive ios k m channel variable (all_send ios (k + 1) m (omega (arith, fits)) ready rated is)
