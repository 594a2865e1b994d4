-- The code of one comparison's line leaves its value and its slope in their registers.
use Rattle.std.specs.Prelude.{◌≡◌, ◌⊎◌, ◌<◌, ◌≤◌, ℕ, ◌+◌, ◌==◌, nat_lt, Bool, true, false, ◌&&◌, List, [], ◌∷◌, length, take, slice_index_or, Option, Some, None, ℤ, IsTrue}
use Rattle.std.proofs.Common.{refl, sym, ap, ap₂, ◌∙◌, subst, arith, inl, inr}
use Rattle.std.proofs.lemmas.Bool.{ltb-true, ltb-false}
use Rattle.std.proofs.lemmas.List.{get_or_past}
use Rattle.hc_rational.specs.Words.{Rational, ◌-ℚ◌, fits}
use Rattle.hc_term.specs.declared.expr.Expr.{Expr}
use Rattle.hc_term.specs.Value.{Store}
use Rattle.hc_term.specs.Motion.{Rates, line}
use Rattle.hc_cast.specs.declared.stmt.CStmt.{CStmt}
use Rattle.hc_cast.specs.declared.program.CProgram.{CProgram}
use Rattle.hc_cmach.specs.State.{width}
use Rattle.hc_clogic.specs.Runs.{Runs}
use Rattle.hc_clogic.proofs.Runs.{runs_on}
use Rattle.hc_cstep.specs.Locals.{Mine, Base, view}
use Rattle.hc_cstep.specs.Stands.{rate_of}
use Rattle.hc_cstep.specs.Parts.{RateIs, AreRates}
use Rattle.hc_cend.specs.Searching.{register}
use Rattle.hc_cend.specs.Places.{Places, AreApart}
use Rattle.hc_cend.specs.Lining.{Compared, gap_of_sides, line_fits, guard, subtracts, gap_code, is_side, SideWorks}
use Rattle.hc_cend.proofs.Registers.{Same, same_register, same_less}
use Rattle.hc_cend.proofs.Given.{is_there}
use Rattle.hc_cend.proofs.Guards as guards

-- what the code of a side finds
pub record IsReady (vars room : ℕ) (pattern : Rates) (s : Store) (r : Rates) (m : Mine) : Type 0 where
  pub wide : length m.row ≡ width
  pub spare : length m.others ≡ room
  pub store : take vars m.row ≡ s
  pub rates : AreRates pattern r m.row

rate_still : (a b : Option Rational) (held now : Rational) → (a ≡ None) ⊎ (now ≡ held) → RateIs a b held → RateIs a b now
rate_still None None held now k h = tt
rate_still (Some x) (Some y) held now (inl none) h = absurd (let no : Some x ≡ None = none in cc)
rate_still (Some x) (Some y) held now (inr same) h = same ∙ h
rate_still None (Some y) held now k h = h
rate_still (Some x) None held now k h = h

rates_still : (vars : ℕ) (pattern r : Rates) (row was : List Rational) → vars ≤ 64 → length pattern ≡ vars → Same 320 row was → AreRates pattern r was → AreRates pattern r row
rates_still vars pattern r row was few long same h x = by (nat_lt x vars) refl
  where
    by : (b : Bool) → nat_lt x vars ≡ b → RateIs (slice_index_or pattern x None) (slice_index_or r x None) (register row (rate_of x))
    by true e =
        let less = ltb-true x vars e in
        rate_still (slice_index_or pattern x None) (slice_index_or r x None) (register was (rate_of x)) (register row (rate_of x))
        (inr (same_register 320 row was same (rate_of x) (omega (arith, less, few)))) (h x)
    by false e =
        let le = ltb-false x vars e in
        rate_still (slice_index_or pattern x None) (slice_index_or r x None) (register was (rate_of x)) (register row (rate_of x))
        (inl (get_or_past pattern x None (omega (arith, le, long)))) (h x)

pub ready_still : (vars room : ℕ) (pattern : Rates) (s : Store) (r : Rates) (m w : Mine) → vars ≤ 64 → length pattern ≡ vars →
    length w.row ≡ length m.row → length w.others ≡ length m.others → Same 320 w.row m.row → IsReady vars room pattern s r m → IsReady vars room pattern s r w
ready_still vars room pattern s r m w few long wide spare same h = record {
  wide = wide ∙ h.wide;
  spare = spare ∙ h.spare;
  store = same_less vars 320 w.row m.row (omega (arith, few)) same ∙ h.store;
  rates = rates_still vars pattern r w.row m.row few long same h.rates;
}

-- v_ok behind all four pieces is whether all fit
chain : (o a b c d x y : Bool) → (((o && a) && b) ≡ true → c ≡ x) → ((((o && a) && b) && c) ≡ true → d ≡ y) →
    ((((o && a) && b) && c) && d) ≡ (o && (a && (b && (x && y))))
chain false a b c d x y h k = refl
chain true false b c d x y h k = refl
chain true true false c d x y h k = refl
chain true true true false d x y h k = ap (λ (u : Bool). u && y) (h refl)
chain true true true true d x y h k = k refl ∙ ap (λ (u : Bool). u && y) (h refl)

pub and_first : (a b : Bool) → (a && b) ≡ true → a ≡ true
and_first true b h = refl
and_first false b h = h

pub and_second : (a b : Bool) → (a && b) ≡ true → b ≡ true
and_second true b h = h
and_second false b h = absurd (let no : false ≡ true = h in cc)

module _ (g : CProgram) (t : ℕ) (low : nat_lt t 65 ≡ true) (not_last : (t == 64) ≡ false) (self : (t == t) ≡ true) (b : Base) (p : Places)
    (n deep : ℕ) (apart : AreApart 320 p n deep) (vars room : ℕ) (few : vars ≤ 64) (pattern : Rates) (long : length pattern ≡ vars)
    (is_line : Expr → Bool) (side : ℕ → Expr → List CStmt) (s : Store) (r : Rates) (steps : ℕ)
    (works : SideWorks g t steps b vars room pattern is_line side p.crossing s r) where
  abbrev Piece : (ℕ → Type 0) → Mine → ℕ → List CStmt → Bool → Type 0
  Piece Kept m k ss fit = guards.Piece g t low not_last self b Kept m k ss fit

  abbrev Below : ℕ → ℕ → Type 0
  Below d x = x < d

  -- ---- the line of one side

  abbrev Sided : ℕ → Mine → Expr → Type 0
  Sided d m e =
      (h : Piece (Below d) m (1 + steps) (guard (side d e) ∷ []) ((line s r e).fits_all))
      × ((m.ok && (line s r e).fits_all) ≡ true → (register h.row d ≡ (line s r e).at) × (register h.row (d + 1) ≡ (line s r e).slope))

  sided_by : (d : ℕ) (m : Mine) (e : Expr) → p.crossing ≤ d → d ≤ p.crossing + 2 → IsReady vars room pattern s r m → IsTrue (is_side vars pattern is_line e) →
      (o : Bool) → m.ok ≡ o → Sided d m e
  sided_by d m e above near h good false off =
      let k = guards.passed g t low not_last self b (Below d) m steps (side d e) ((line s r e).fits_all) off in
      (k, λ i. absurd (let no : false ≡ true = sym (ap (λ (u : Bool). u && (line s r e).fits_all) off) ∙ i in cc))
  sided_by d m e above near h good true on =
      let l = works d m e above near on h.wide h.spare h.store h.rates good in
      let k =
      guards.done g t low not_last self b (Below d) m steps (side d e) ((line s r e).fits_all) l.does.row l.does.truth l.does.others on l.does.runs l.does.wide l.does.kept l.does.low
      (λ x less. same_register d l.does.row m.row l.below x less) in
      (k, λ i. let all = and_second m.ok ((line s r e).fits_all) i in (l.at all, l.slope all))

  sided : (d : ℕ) (m : Mine) (e : Expr) → p.crossing ≤ d → d ≤ p.crossing + 2 → IsReady vars room pattern s r m → IsTrue (is_side vars pattern is_line e) → Sided d m e
  sided d m e above near h good = sided_by d m e above near h good m.ok refl

  -- ---- the whole

  -- a register that isn't of comparison i
  pub record IsOther (i x : ℕ) : Type 0 where
    pub below : x < p.crossing
    pub not_at : x ≡ p.at + i → ⊥
    pub not_slope : x ≡ p.slope + i → ⊥

  abbrev pub gap_steps : ℕ
  gap_steps = (1 + steps) + ((1 + steps) + (2 + 2))

  pub record Gapped (i : ℕ) (m : Mine) (q : Compared) : Type 0 where
    pub row : List Rational
    pub truth : Bool
    pub others : List ℤ
    pub runs : Runs g t gap_steps (gap_code side t p i q) (view b m)
        (view b (record m { row = row; ok = m.ok && line_fits s r q; truth = truth; others = others }))
    pub wide : length row ≡ length m.row
    pub spare : length others ≡ length m.others
    pub beneath : Same 320 row m.row
    pub same : (x : ℕ) → IsOther i x → register row x ≡ register m.row x
    pub at : (m.ok && line_fits s r q) ≡ true → register row (p.at + i) ≡ (gap_of_sides s r q).at
    pub slope : (m.ok && line_fits s r q) ≡ true → register row (p.slope + i) ≡ (gap_of_sides s r q).slope

  module _ (i : ℕ) (less : i < n) (m : Mine) (ready : IsReady vars room pattern s r m) (q : Compared)
      (left_good : IsTrue (is_side vars pattern is_line q.left)) (right_good : IsTrue (is_side vars pattern is_line q.right)) where
    abbrev c : ℕ
    c = p.crossing

    room_for : c + 3 < 20480
    room_for = omega (arith, less, apart.moment, apart.best, apart.sign, apart.truth, apart.end)

    at_room : p.at + i < 20480
    at_room = omega (arith, less, apart.slope, apart.crossing, apart.moment, apart.best, apart.sign, apart.truth, apart.end)

    slope_room : p.slope + i < 20480
    slope_room = omega (arith, less, apart.crossing, apart.moment, apart.best, apart.sign, apart.truth, apart.end)

    abbrev One : Type 0
    One = Sided c m q.left

    one : One
    one = sided c m q.left (omega arith) (omega arith) ready left_good

    module _ (h1 : One) where
      abbrev m1 : Mine
      m1 = record m { row = h1.0.row; ok = m.ok && (line s r q.left).fits_all; truth = h1.0.truth; others = h1.0.others }

      ready1 : IsReady vars room pattern s r m1
      ready1 = ready_still vars room pattern s r m m1 few long h1.0.long h1.0.spare h1.0.beneath ready

      abbrev Two : Type 0
      Two = Sided (c + 2) m1 q.right

      two : Two
      two = sided (c + 2) m1 q.right (omega arith) (omega arith) ready1 right_good

      module _ (h2 : Two) where
        abbrev m2 : Mine
        m2 = record m1 { row = h2.0.row; ok = m1.ok && (line s r q.right).fits_all; truth = h2.0.truth; others = h2.0.others }

        abbrev at_fits : Bool
        at_fits = fits (register m2.row c -ℚ register m2.row (c + 2))

        abbrev NotAt : ℕ → Type 0
        NotAt x = x ≡ p.at + i → ⊥

        abbrev Three : Type 0
        Three =
            guards.Differs g t low not_last self b m2 (p.at + i) c (c + 2) (is_there (p.at + i) at_room) (is_there c (omega (arith, room_for)))
            (is_there (c + 2) (omega (arith, room_for))) NotAt

        three : Three
        three =
            guards.differs g t low not_last self b m2 (p.at + i) c (c + 2) (is_there (p.at + i) at_room) (is_there c (omega (arith, room_for)))
            (is_there (c + 2) (omega (arith, room_for))) NotAt (λ k d. d) (h2.0.long ∙ h1.0.long ∙ ready.wide) at_room (omega (arith, apart.zero, apart.at))

        module _ (h3 : Three) where
          abbrev m3 : Mine
          m3 = record m2 { row = h3.0.row; ok = m2.ok && at_fits; truth = h3.0.truth; others = h3.0.others }

          abbrev slope_fits : Bool
          slope_fits = fits (register m3.row (c + 1) -ℚ register m3.row (c + 3))

          abbrev NotSlope : ℕ → Type 0
          NotSlope x = x ≡ p.slope + i → ⊥

          abbrev Four : Type 0
          Four =
              guards.Differs g t low not_last self b m3 (p.slope + i) (c + 1) (c + 3) (is_there (p.slope + i) slope_room) (is_there (c + 1) (omega (arith, room_for)))
              (is_there (c + 3) room_for) NotSlope

          four : Four
          four =
              guards.differs g t low not_last self b m3 (p.slope + i) (c + 1) (c + 3) (is_there (p.slope + i) slope_room) (is_there (c + 1) (omega (arith, room_for)))
              (is_there (c + 3) room_for) NotSlope (λ k d. d) (h3.0.long ∙ h2.0.long ∙ h1.0.long ∙ ready.wide) slope_room
              (omega (arith, apart.zero, apart.at, apart.slope))

          -- what the four registers hold where both sides fit
          left_at : m2.ok ≡ true → register m2.row c ≡ (line s r q.left).at
          left_at e = h2.0.same c (omega arith) ∙ (h1.1 (and_first m1.ok ((line s r q.right).fits_all) e)).0

          right_at : m2.ok ≡ true → register m2.row (c + 2) ≡ (line s r q.right).at
          right_at e = (h2.1 e).0

          left_slope : m2.ok ≡ true → register m3.row (c + 1) ≡ (line s r q.left).slope
          left_slope e =
              h3.0.same (c + 1) (λ k. omega (arith, k, less, apart.slope, apart.crossing))
              ∙ h2.0.same (c + 1) (omega arith)
              ∙ (h1.1 (and_first m1.ok ((line s r q.right).fits_all) e)).1

          right_slope : m2.ok ≡ true → register m3.row (c + 3) ≡ (line s r q.right).slope
          right_slope e =
              let next : c + 3 ≡ c + 2 + 1 = omega arith in
              h3.0.same (c + 3) (λ k. omega (arith, k, less, apart.slope, apart.crossing))
              ∙ ap (register m2.row) next
              ∙ (h2.1 e).1

          abbrev gap_at : Rational
          gap_at = (gap_of_sides s r q).at

          abbrev gap_slope : Rational
          gap_slope = (gap_of_sides s r q).slope

          at_is : m2.ok ≡ true → register m2.row c -ℚ register m2.row (c + 2) ≡ gap_at
          at_is e = ap₂ (λ (u w : Rational). u -ℚ w) (left_at e) (right_at e)

          slope_is : m2.ok ≡ true → register m3.row (c + 1) -ℚ register m3.row (c + 3) ≡ gap_slope
          slope_is e = ap₂ (λ (u w : Rational). u -ℚ w) (left_slope e) (right_slope e)

          slope_is_later : m3.ok ≡ true → register m3.row (c + 1) -ℚ register m3.row (c + 3) ≡ gap_slope
          slope_is_later e = slope_is (and_first m2.ok at_fits e)

          all_ok : (m3.ok && slope_fits) ≡ (m.ok && line_fits s r q)
          all_ok =
              chain m.ok ((line s r q.left).fits_all) ((line s r q.right).fits_all) at_fits slope_fits (fits gap_at) (fits gap_slope)
              (λ e. ap fits (at_is e)) (λ e. ap fits (slope_is_later e))

          module _ (h4 : Four) where
            abbrev end : Mine
            end = record m3 { row = h4.0.row; ok = m3.ok && slope_fits; truth = h4.0.truth; others = h4.0.others }

            ran : Runs g t gap_steps (gap_code side t p i q) (view b m) (view b end)
            ran =
                runs_on g t (1 + steps) ((1 + steps) + (2 + 2)) (guard (side c q.left) ∷ [])
                (guard (side (c + 2) q.right) ∷ guard (subtracts t (p.at + i) c (c + 2)) ∷ guard (subtracts t (p.slope + i) (c + 1) (c + 3)) ∷ [])
                (view b m) (view b m1) (view b end) h1.0.runs
                (
                runs_on g t (1 + steps) (2 + 2) (guard (side (c + 2) q.right) ∷ [])
                (guard (subtracts t (p.at + i) c (c + 2)) ∷ guard (subtracts t (p.slope + i) (c + 1) (c + 3)) ∷ [])
                (view b m1) (view b m2) (view b end) h2.0.runs
                (
                runs_on g t 2 2 (guard (subtracts t (p.at + i) c (c + 2)) ∷ []) (guard (subtracts t (p.slope + i) (c + 1) (c + 3)) ∷ [])
                (view b m2) (view b m3) (view b end) h3.0.runs h4.0.runs
                )
                )

            all : (m.ok && line_fits s r q) ≡ true → (m3.ok && slope_fits) ≡ true
            all e = all_ok ∙ e

            gapped : Gapped i m q
            gapped = record {
              row = h4.0.row;
              truth = h4.0.truth;
              others = h4.0.others;
              runs =
                  subst (λ (o : Bool). Runs g t gap_steps (gap_code side t p i q) (view b m) (view b (record m { row = h4.0.row; ok = o; truth = h4.0.truth; others = h4.0.others })))
                  all_ok ran;
              wide = h4.0.long ∙ h3.0.long ∙ h2.0.long ∙ h1.0.long;
              spare = h4.0.spare ∙ h3.0.spare ∙ h2.0.spare ∙ h1.0.spare;
              beneath = h4.0.beneath ∙ h3.0.beneath ∙ h2.0.beneath ∙ h1.0.beneath;
              same =
                  λ x o.
                  h4.0.same x o.not_slope ∙ h3.0.same x o.not_at ∙ h2.0.same x (omega (arith, o.below)) ∙ h1.0.same x o.below;
              at =
                  λ e.
                  let up = and_first m3.ok slope_fits (all e) in
                  h4.0.same (p.at + i) (λ k. omega (arith, k, less, apart.slope)) ∙ h3.1 up ∙ at_is (and_first m2.ok at_fits up);
              slope = λ e. h4.1 (all e) ∙ slope_is_later (and_first m3.ok slope_fits (all e));
            }

    pub gap_runs : Gapped i m q
    gap_runs =
        let h1 = one in
        let h2 = two h1 in
        let h3 = three h1 h2 in
        gapped h1 h2 h3 (four h1 h2 h3)
