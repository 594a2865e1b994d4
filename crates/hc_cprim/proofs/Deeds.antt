-- What rows that are reached come to.
use Rattle.std.proofs.Common.{◌≡◌, refl, ap, ap₂, ◌∙◌, ℕ, Bool, true, false, Some, None}
use Rattle.std.specs.Prelude.{ℤ, pos, if◌then◌else◌}
use Rattle.hc_rational.specs.Words.{Rational, ◌/ℚ◌, is_zero, ratio}
use Rattle.hc_cmach.specs.Primitive.{CTurn, Reach, reach, register_in, computed, divided, sets, puts, is_literal}
use Rattle.hc_cprim.specs.declared.deed.Deed.{Deed}
use Rattle.hc_cprim.specs.declared.deed.Seat.{Seat}
use Rattle.hc_cprim.specs.declared.deed.Way.{Way}
use Rattle.hc_cprim.specs.declared.deed.Way.TheVariants as way
use Rattle.hc_cprim.specs.Deeds.{Around, spot, reached, deed_turn, kind_beyond, lowest}

chosen : (b : Bool) (t u : CTurn) → b ≡ false → (if b then t else u) ≡ u
chosen true t u e = absurd (cc)
chosen false t u e = refl

divided_here : (s : Seat) (q : Around) (w : Way) (r d a b : ℕ) → kind_beyond w ≡ None → is_zero (register_in (reached s q w) b) ≡ false →
    divided (spot s q) q.target (reached s q w) r d a b
    ≡ computed (spot s q) q.target (reached s q w) d (register_in (reached s q w) a /ℚ register_in (reached s q w) b)
divided_here s q way.Its r d a b here some = chosen _ _ _ some
divided_here s q way.Common r d a b here some = chosen _ _ _ some
divided_here s q (way.Beyond k) r d a b here some = absurd (cc)

module _ (s : Seat) (q : Around) (w : Way) (r d a b : ℕ) (x y : Rational) (result : Deed) (reached_is : reach (spot s q) r ≡ reached s q w)
    (first : register_in (reached s q w) a ≡ x) (second : register_in (reached s q w) b ≡ y) where
  pub computed_by : (op : Rational → Rational → Rational) → computed (spot s q) q.target (reached s q w) d (op x y) ≡ deed_turn s q result →
      computed (spot s q) q.target (reach (spot s q) r) d (op (register_in (reach (spot s q) r) a) (register_in (reach (spot s q) r) b)) ≡ deed_turn s q result
  computed_by op h =
      ap (λ (z : Reach). computed (spot s q) q.target z d (op (register_in z a) (register_in z b))) reached_is
      ∙ ap₂ (λ (u v : Rational). computed (spot s q) q.target (reached s q w) d (op u v)) first second ∙ h

  pub divided_by : kind_beyond w ≡ None → is_zero y ≡ false → computed (spot s q) q.target (reached s q w) d (x /ℚ y) ≡ deed_turn s q result →
      divided (spot s q) q.target (reach (spot s q) r) r d a b ≡ deed_turn s q result
  divided_by here some h =
      ap (λ (z : Reach). divided (spot s q) q.target z r d a b) reached_is
      ∙ divided_here s q w r d a b here (ap is_zero second ∙ some)
      ∙ ap₂ (λ (u v : Rational). computed (spot s q) q.target (reached s q w) d (u /ℚ v)) first second ∙ h

-- ---- fractions as they are written

by_lowest : (b : Bool) (v x : Rational) (t u : CTurn) (f : Rational → CTurn) → Some v ≡ (if b then Some x else None) → t ≡ f x → (if b then t else u) ≡ f v
by_lowest true v x t u f e h = h ∙ ap f (cc)
by_lowest false v x t u f e h = absurd (cc)

pub sets_some : (s : Seat) (q : Around) (w : Way) (r d : ℕ) (n m : ℤ) (v : Rational) (result : Deed) → reach (spot s q) r ≡ reached s q w →
    Some v ≡ lowest n m → puts (spot s q) q.target (reached s q w) d v (pos 0) ≡ deed_turn s q result → sets (spot s q) q.target r d n m ≡ deed_turn s q result
sets_some s q w r d n m v result reached_is e h =
    by_lowest (is_literal n m) v (ratio n m) _ _ (λ x. puts (spot s q) q.target (reach (spot s q) r) d x (pos 0)) e refl
    ∙ ap (λ (z : Reach). puts (spot s q) q.target z d v (pos 0)) reached_is ∙ h
