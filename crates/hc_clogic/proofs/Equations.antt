-- What each primitive does to a view, one equation for each outcome, for the thread's own row and for the common one alike: `to` is the row that the
-- call names, and what stands in it is written by `puts_in`, which computes once it is known which row that is.
use Rattle.std.specs.Prelude.{◌≡◌, ℕ, ◌==◌, Bool, true, false, ◌&&◌, [], ◌∷◌, length, slice_set, ℤ, pos, unsigned_abs, Option, Some}
use Rattle.std.proofs.Common.{refl, ap, ◌∙◌}
use Rattle.std.proofs.lemmas.Bool.{eq-eqb}
use Rattle.std.specs.Int.{int_signum}
use Rattle.hc_rational.specs.Words.{Rational, ratio, rank, neg_ℚ, ◌+ℚ◌, ◌-ℚ◌, ◌*ℚ◌, ◌/ℚ◌, fits, is_zero}
use Rattle.hc_cast.specs.declared.primitive.Primitive.TheVariants.{FrSet, FrMove, FrAdd, FrSub, FrMul, FrDiv, FrNeg, FrCmp, FrSign, OutDelay, OutComm, OutLog, OutEnd, CWake}
use Rattle.hc_cast.specs.declared.program.CProgram.{CProgram}
use Rattle.hc_cmach.specs.State.{Word, Shared}
use Rattle.hc_cmach.specs.Line.{Line, Delays, Meets, Logs, Ends}
use Rattle.hc_cmach.specs.Expression.{is_index}
use Rattle.hc_cmach.specs.Primitive.{Reach, Its, Common, Beyond, register_in, is_literal, rank_number, is_who, who_of, are_places}
use Rattle.hc_clogic.specs.Runs.{View}
use Rattle.hc_clogic.specs.Views.{reached, is_there, given, with_shared, with_line, with_wake, puts_in, moves_in, computes_in, divides_in, answers_in, prints_in, wakes_in, where_it_is, primitive_view}

-- ---- which row it is

module _ (t : ℕ) (v : View) where
  -- a thread's own row, inside a section and outside
  pub reached_own : (t == 64) ≡ false → reached t v (pos t) ≡ Its v.row
  reached_own other = let self : (t == t) ≡ true = eq-eqb t t refl in simp (other, self)

  -- the common row, for the owner of the mutex
  pub reached_common : (m : Shared) → v.shared ≡ Some m → reached t v (pos 64) ≡ Common m
  reached_common m e = simp e

-- what is written there
module _ (v : View) (target : Option Word) (d : ℕ) (x : Rational) (z : ℤ) where
  pub puts_shared : (m : Shared) → v.shared ≡ Some m → puts_in v target (Common m) d x z ≡ Some (with_shared v target (record { row = slice_set m.row d x; arrays = m.arrays }) z)
  puts_shared m e = simp e

-- ---- the choices of the table

module _ (v : View) (target : Option Word) (to : Reach) (here : is_there to ≡ true) where
  pub computes_fitting : (d : ℕ) (x : Rational) → fits x ≡ true → computes_in v target to d x ≡ puts_in v target to d x (pos 1)
  computes_fitting d x fit = by to here
    where
      by : (r : Reach) → is_there r ≡ true → computes_in v target r d x ≡ puts_in v target r d x (pos 1)
      by (Its row) h = simp fit
      by (Common m) h = simp fit
      by (Beyond k) h = absurd cc

  pub computes_unfitting : (d : ℕ) (x : Rational) → fits x ≡ false → computes_in v target to d x ≡ Some (given v target (pos 0))
  computes_unfitting d x unfit = by to here
    where
      by : (r : Reach) → is_there r ≡ true → computes_in v target r d x ≡ Some (given v target (pos 0))
      by (Its row) h = simp unfit
      by (Common m) h = simp unfit
      by (Beyond k) h = absurd cc

  pub divides_by : (d a b : ℕ) → is_zero (register_in to b) ≡ false →
      divides_in v target to d a b ≡ computes_in v target to d (register_in to a /ℚ register_in to b)
  divides_by d a b some = by to here some
    where
      by : (r : Reach) → is_there r ≡ true → is_zero (register_in r b) ≡ false → divides_in v target r d a b ≡ computes_in v target r d (register_in r a /ℚ register_in r b)
      by (Its row) h k = simp k
      by (Common m) h k = simp k
      by (Beyond k) h e = absurd cc

  pub answers_there : (z : ℤ) → answers_in v target to z ≡ Some (given v target z)
  answers_there z = by to here
    where
      by : (r : Reach) → is_there r ≡ true → answers_in v target r z ≡ Some (given v target z)
      by (Its row) h = refl
      by (Common m) h = refl
      by (Beyond k) h = absurd cc

  pub prints_there : (m : Shared) (l : Line) → prints_in v target to (Some m) l ≡ Some (with_line v target l)
  prints_there m l = by to here
    where
      by : (r : Reach) → is_there r ≡ true → prints_in v target r (Some m) l ≡ Some (with_line v target l)
      by (Its row) h = refl
      by (Common s) h = refl
      by (Beyond k) h = absurd cc

  pub moves_there : (d : ℕ) (from : Reach) (a : ℕ) → is_there from ≡ true → moves_in v target to d from a ≡ puts_in v target to d (register_in from a) (pos 0)
  moves_there d from a there = by to from here there
    where
      by : (r q : Reach) → is_there r ≡ true → is_there q ≡ true → moves_in v target r d q a ≡ puts_in v target r d (register_in q a) (pos 0)
      by (Its row) (Its line) h k = refl
      by (Its row) (Common m) h k = refl
      by (Common s) (Its line) h k = refl
      by (Common s) (Common m) h k = refl
      by (Beyond j) q h k = absurd cc
      by r (Beyond j) h k = absurd cc

-- ---- primitives

there_is : (b : Bool) (w : Option View) → b ≡ true → where_it_is b w ≡ w
there_is true w e = refl
there_is false w e = absurd cc

module _ (g : CProgram) (t : ℕ) (v : View) (target : Option Word) (r : ℤ) (to : Reach) (at : reached t v r ≡ to) (here : is_there to ≡ true) where
  -- what stands in a register of the row
  abbrev value : ℤ → Rational
  value a = register_in to (unsigned_abs a)

  pub set_view : (d n m : ℤ) → are_places r (d ∷ []) ≡ true → is_literal n m ≡ true →
      primitive_view g t v target FrSet (r ∷ d ∷ n ∷ m ∷ []) ≡ puts_in v target to (unsigned_abs d) (ratio n m) (pos 0)
  set_view d n m places literal =
      there_is (are_places r (d ∷ [])) _ places
      ∙ there_is (is_literal n m) _ literal
      ∙ ap (λ (row : Reach). puts_in v target row (unsigned_abs d) (ratio n m) (pos 0)) at

  -- to this row, from any that is there
  pub move_view : (d q a : ℤ) (from : Reach) → reached t v q ≡ from → is_there from ≡ true → (are_places r (d ∷ []) && are_places q (a ∷ [])) ≡ true →
      primitive_view g t v target FrMove (r ∷ d ∷ q ∷ a ∷ []) ≡ puts_in v target to (unsigned_abs d) (register_in from (unsigned_abs a)) (pos 0)
  move_view d q a from is there places =
      there_is (are_places r (d ∷ []) && are_places q (a ∷ [])) _ places
      ∙ ap (λ (row : Reach). moves_in v target row (unsigned_abs d) (reached t v q) (unsigned_abs a)) at
      ∙ ap (λ (row : Reach). moves_in v target to (unsigned_abs d) row (unsigned_abs a)) is
      ∙ moves_there v target to here (unsigned_abs d) from (unsigned_abs a) there

  add_by : (d a b : ℤ) → are_places r (d ∷ a ∷ b ∷ []) ≡ true →
      primitive_view g t v target FrAdd (r ∷ d ∷ a ∷ b ∷ []) ≡ computes_in v target to (unsigned_abs d) (value a +ℚ value b)
  add_by d a b places =
      there_is (are_places r (d ∷ a ∷ b ∷ [])) _ places
      ∙ ap (λ (row : Reach). computes_in v target row (unsigned_abs d) (register_in row (unsigned_abs a) +ℚ register_in row (unsigned_abs b))) at

  pub add_view : (d a b : ℤ) → are_places r (d ∷ a ∷ b ∷ []) ≡ true → fits (value a +ℚ value b) ≡ true →
      primitive_view g t v target FrAdd (r ∷ d ∷ a ∷ b ∷ []) ≡ puts_in v target to (unsigned_abs d) (value a +ℚ value b) (pos 1)
  add_view d a b places fit = add_by d a b places ∙ computes_fitting v target to here (unsigned_abs d) (value a +ℚ value b) fit

  pub add_fails : (d a b : ℤ) → are_places r (d ∷ a ∷ b ∷ []) ≡ true → fits (value a +ℚ value b) ≡ false →
      primitive_view g t v target FrAdd (r ∷ d ∷ a ∷ b ∷ []) ≡ Some (given v target (pos 0))
  add_fails d a b places unfit = add_by d a b places ∙ computes_unfitting v target to here (unsigned_abs d) (value a +ℚ value b) unfit

  sub_by : (d a b : ℤ) → are_places r (d ∷ a ∷ b ∷ []) ≡ true →
      primitive_view g t v target FrSub (r ∷ d ∷ a ∷ b ∷ []) ≡ computes_in v target to (unsigned_abs d) (value a -ℚ value b)
  sub_by d a b places =
      there_is (are_places r (d ∷ a ∷ b ∷ [])) _ places
      ∙ ap (λ (row : Reach). computes_in v target row (unsigned_abs d) (register_in row (unsigned_abs a) -ℚ register_in row (unsigned_abs b))) at

  pub sub_view : (d a b : ℤ) → are_places r (d ∷ a ∷ b ∷ []) ≡ true → fits (value a -ℚ value b) ≡ true →
      primitive_view g t v target FrSub (r ∷ d ∷ a ∷ b ∷ []) ≡ puts_in v target to (unsigned_abs d) (value a -ℚ value b) (pos 1)
  sub_view d a b places fit = sub_by d a b places ∙ computes_fitting v target to here (unsigned_abs d) (value a -ℚ value b) fit

  pub sub_fails : (d a b : ℤ) → are_places r (d ∷ a ∷ b ∷ []) ≡ true → fits (value a -ℚ value b) ≡ false →
      primitive_view g t v target FrSub (r ∷ d ∷ a ∷ b ∷ []) ≡ Some (given v target (pos 0))
  sub_fails d a b places unfit = sub_by d a b places ∙ computes_unfitting v target to here (unsigned_abs d) (value a -ℚ value b) unfit

  mul_by : (d a b : ℤ) → are_places r (d ∷ a ∷ b ∷ []) ≡ true →
      primitive_view g t v target FrMul (r ∷ d ∷ a ∷ b ∷ []) ≡ computes_in v target to (unsigned_abs d) (value a *ℚ value b)
  mul_by d a b places =
      there_is (are_places r (d ∷ a ∷ b ∷ [])) _ places
      ∙ ap (λ (row : Reach). computes_in v target row (unsigned_abs d) (register_in row (unsigned_abs a) *ℚ register_in row (unsigned_abs b))) at

  pub mul_view : (d a b : ℤ) → are_places r (d ∷ a ∷ b ∷ []) ≡ true → fits (value a *ℚ value b) ≡ true →
      primitive_view g t v target FrMul (r ∷ d ∷ a ∷ b ∷ []) ≡ puts_in v target to (unsigned_abs d) (value a *ℚ value b) (pos 1)
  mul_view d a b places fit = mul_by d a b places ∙ computes_fitting v target to here (unsigned_abs d) (value a *ℚ value b) fit

  pub mul_fails : (d a b : ℤ) → are_places r (d ∷ a ∷ b ∷ []) ≡ true → fits (value a *ℚ value b) ≡ false →
      primitive_view g t v target FrMul (r ∷ d ∷ a ∷ b ∷ []) ≡ Some (given v target (pos 0))
  mul_fails d a b places unfit = mul_by d a b places ∙ computes_unfitting v target to here (unsigned_abs d) (value a *ℚ value b) unfit

  div_by : (d a b : ℤ) → are_places r (d ∷ a ∷ b ∷ []) ≡ true → is_zero (value b) ≡ false →
      primitive_view g t v target FrDiv (r ∷ d ∷ a ∷ b ∷ []) ≡ computes_in v target to (unsigned_abs d) (value a /ℚ value b)
  div_by d a b places some =
      there_is (are_places r (d ∷ a ∷ b ∷ [])) _ places
      ∙ ap (λ (row : Reach). divides_in v target row (unsigned_abs d) (unsigned_abs a) (unsigned_abs b)) at
      ∙ divides_by v target to here (unsigned_abs d) (unsigned_abs a) (unsigned_abs b) some

  -- by a register that isn't 0
  pub div_view : (d a b : ℤ) → are_places r (d ∷ a ∷ b ∷ []) ≡ true → is_zero (value b) ≡ false → fits (value a /ℚ value b) ≡ true →
      primitive_view g t v target FrDiv (r ∷ d ∷ a ∷ b ∷ []) ≡ puts_in v target to (unsigned_abs d) (value a /ℚ value b) (pos 1)
  div_view d a b places some fit = div_by d a b places some ∙ computes_fitting v target to here (unsigned_abs d) (value a /ℚ value b) fit

  pub div_fails : (d a b : ℤ) → are_places r (d ∷ a ∷ b ∷ []) ≡ true → is_zero (value b) ≡ false → fits (value a /ℚ value b) ≡ false →
      primitive_view g t v target FrDiv (r ∷ d ∷ a ∷ b ∷ []) ≡ Some (given v target (pos 0))
  div_fails d a b places some unfit = div_by d a b places some ∙ computes_unfitting v target to here (unsigned_abs d) (value a /ℚ value b) unfit

  pub neg_view : (d a : ℤ) → are_places r (d ∷ a ∷ []) ≡ true →
      primitive_view g t v target FrNeg (r ∷ d ∷ a ∷ []) ≡ puts_in v target to (unsigned_abs d) (neg_ℚ (value a)) (pos 0)
  neg_view d a places =
      there_is (are_places r (d ∷ a ∷ [])) _ places
      ∙ ap (λ (row : Reach). puts_in v target row (unsigned_abs d) (neg_ℚ (register_in row (unsigned_abs a))) (pos 0)) at

  pub cmp_view : (a b : ℤ) → are_places r (a ∷ b ∷ []) ≡ true →
      primitive_view g t v target FrCmp (r ∷ a ∷ b ∷ []) ≡ Some (given v target (rank_number (rank (value a) (value b))))
  cmp_view a b places =
      there_is (are_places r (a ∷ b ∷ [])) _ places
      ∙ ap (λ (row : Reach). answers_in v target row (rank_number (rank (register_in row (unsigned_abs a)) (register_in row (unsigned_abs b))))) at
      ∙ answers_there v target to here (rank_number (rank (value a) (value b)))

  pub sign_view : (a : ℤ) → are_places r (a ∷ []) ≡ true →
      primitive_view g t v target FrSign (r ∷ a ∷ []) ≡ Some (given v target (int_signum (value a).num))
  sign_view a places =
      there_is (are_places r (a ∷ [])) _ places
      ∙ ap (λ (row : Reach). answers_in v target row (int_signum (register_in row (unsigned_abs a)).num)) at
      ∙ answers_there v target to here (int_signum (value a).num)

  -- ---- lines, by the owner of the mutex

  module _ (m : Shared) (owns : v.shared ≡ Some m) where
    printed : (l : Line) → prints_in v target to v.shared l ≡ Some (with_line v target l)
    printed l = ap (λ (seen : Option Shared). prints_in v target to seen l) owns ∙ prints_there v target to here m l

    pub delay_view : (a b : ℤ) → are_places r (a ∷ b ∷ []) ≡ true →
        primitive_view g t v target OutDelay (r ∷ a ∷ b ∷ []) ≡ Some (with_line v target (Delays (value a) (value b)))
    delay_view a b places =
        there_is (are_places r (a ∷ b ∷ [])) _ places
        ∙ ap (λ (row : Reach). prints_in v target row v.shared (Delays (register_in row (unsigned_abs a)) (register_in row (unsigned_abs b)))) at
        ∙ printed (Delays (value a) (value b))

    pub comm_view : (a c p q b : ℤ) →
        (are_places r (a ∷ b ∷ []) && is_index c (length g.channels) && is_index p (length g.processes) && is_index q (length g.processes)) ≡ true →
        primitive_view g t v target OutComm (r ∷ a ∷ c ∷ p ∷ q ∷ b ∷ [])
        ≡ Some (with_line v target (Meets (value a) (unsigned_abs c) (unsigned_abs p) (unsigned_abs q) (value b)))
    comm_view a c p q b places =
        there_is (are_places r (a ∷ b ∷ []) && is_index c (length g.channels) && is_index p (length g.processes) && is_index q (length g.processes)) _ places
        ∙ ap
        (
        λ (row : Reach).
        prints_in v target row v.shared
        (Meets (register_in row (unsigned_abs a)) (unsigned_abs c) (unsigned_abs p) (unsigned_abs q) (register_in row (unsigned_abs b)))
        )
        at
        ∙ printed (Meets (value a) (unsigned_abs c) (unsigned_abs p) (unsigned_abs q) (value b))

    pub log_view : (a p b : ℤ) → (are_places r (a ∷ b ∷ []) && is_index p (length g.processes)) ≡ true →
        primitive_view g t v target OutLog (r ∷ a ∷ p ∷ b ∷ []) ≡ Some (with_line v target (Logs (value a) (unsigned_abs p) (value b)))
    log_view a p b places =
        there_is (are_places r (a ∷ b ∷ []) && is_index p (length g.processes)) _ places
        ∙ ap (λ (row : Reach). prints_in v target row v.shared (Logs (register_in row (unsigned_abs a)) (unsigned_abs p) (register_in row (unsigned_abs b)))) at
        ∙ printed (Logs (value a) (unsigned_abs p) (value b))

    pub end_view : (k a w : ℤ) → (is_index k 5 && are_places r (a ∷ []) && is_who w (length g.processes)) ≡ true →
        primitive_view g t v target OutEnd (k ∷ r ∷ a ∷ w ∷ []) ≡ Some (with_line v target (Ends (unsigned_abs k) (value a) (who_of w)))
    end_view k a w places =
        there_is (is_index k 5 && are_places r (a ∷ []) && is_who w (length g.processes)) _ places
        ∙ ap (λ (row : Reach). prints_in v target row v.shared (Ends (unsigned_abs k) (register_in row (unsigned_abs a)) (who_of w))) at
        ∙ printed (Ends (unsigned_abs k) (value a) (who_of w))

pub wake_view : (g : CProgram) (t : ℕ) (v : View) (target : Option Word) (m : Shared) → v.shared ≡ Some m → (k : ℤ) → is_index k 64 ≡ true →
    primitive_view g t v target CWake (k ∷ []) ≡ Some (with_wake v target (unsigned_abs k))
wake_view g t v target m owns k here =
    there_is (is_index k 64) _ here
    ∙ ap (λ (seen : Option Shared). wakes_in v target (unsigned_abs k) seen) owns
