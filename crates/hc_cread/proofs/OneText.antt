-- Bytes are the text of one program, or are refused in one way.
use Rattle.std.proofs.Common.{◌≡◌, ◌⊎◌, inl, inr, refl, sym, ◌∙◌, subst, ℕ, List, ◌++◌}
use Rattle.std.proofs.lemmas.List.{append_cancel_left}
use Rattle.hc_frac.specs.declared.place.Place.{Place}
use Rattle.hc_cast.specs.declared.program.CProgram.{CProgram}
use Rattle.hc_cgrammar.specs.declared.flaw.Flaw.{Flaw}
use Rattle.hc_cgrammar.specs.declared.flaw.Refusal.{Refusal}
use Rattle.hc_cgrammar.specs.declared.flaw.Refusal.TheVariants as why
use Rattle.hc_cgrammar.specs.Prelude.{prelude, behind_prelude}
use Rattle.hc_cgrammar.specs.Unit.{IsUnit, IsRefused}
use Rattle.hc_cgrammar.specs.Text.{IsCText, IsCTextRefused, no_prelude, in_unit}
use Rattle.hc_cread.proofs.OneAnswer as unit
use Rattle.hc_cread.proofs.Fronts.{begins_or_not}

abbrev from : Place
from = behind_prelude

module _ (bytes : List ℕ) where
  -- there is one unit behind the prelude
  same_unit : (u z : List ℕ) → bytes ≡ prelude ++ u → bytes ≡ prelude ++ z → u ≡ z
  same_unit u z e f = append_cancel_left prelude u z (sym e ∙ f)

  moved : (u z : List ℕ) (p : CProgram) → bytes ≡ prelude ++ u → bytes ≡ prelude ++ z → IsUnit from u p → IsUnit from z p
  moved u z p e f x = subst (λ u. IsUnit from u p) (same_unit u z e f) x

  moved_refusal : (u z : List ℕ) (f : Flaw) (p : Place) → bytes ≡ prelude ++ u → bytes ≡ prelude ++ z → IsRefused from u f p → IsRefused from z f p
  moved_refusal u z f p e h x = subst (λ u. IsRefused from u f p) (same_unit u z e h) x

  pub one_program : (x y : CProgram) → IsCText bytes x → IsCText bytes y → x ≡ y
  one_program x y a b = unit.one_program from b.unit x y (moved a.unit b.unit x a.parts b.parts a.is_unit) b.is_unit

  pub not_refused : (x : CProgram) (r : Refusal) → IsCText bytes x → IsCTextRefused bytes r → ⊥
  not_refused x r a (no_prelude never e) = never a.unit a.parts
  not_refused x r a (in_unit z f p parts refused e) =
      unit.not_refused from z x f p (moved a.unit z x a.parts parts a.is_unit) refused

  same_refusal : (f g : Flaw) (p q : Place) → (f ≡ g) × (p ≡ q) → why.Unit f p ≡ why.Unit g q
  same_refusal f g p q (e, h) = λ i. why.Unit (e i) (h i)

  pub one_refusal : (q r : Refusal) → IsCTextRefused bytes q → IsCTextRefused bytes r → q ≡ r
  one_refusal q r (no_prelude never e) (no_prelude never' e') = e ∙ sym e'
  one_refusal q r (no_prelude never e) (in_unit z f p parts refused e') = absurd (never z parts)
  one_refusal q r (in_unit z f p parts refused e) (no_prelude never e') = absurd (never z parts)
  one_refusal q r (in_unit u f p parts refused e) (in_unit z g o parts' refused' e') =
      e ∙ same_refusal f g p o (unit.one_refusal from z f g p o (moved_refusal u z f p parts parts' refused) refused') ∙ sym e'

  by_unit : (u : List ℕ) → bytes ≡ prelude ++ u
      → ((x : CProgram) × IsUnit from u x) ⊎ ((f : Flaw) × (p : Place) × IsRefused from u f p)
      → ((x : CProgram) × IsCText bytes x) ⊎ ((r : Refusal) × IsCTextRefused bytes r)
  by_unit u parts (inl (x, is)) = inl (x, record { unit = u; parts = parts; is_unit = is })
  by_unit u parts (inr (f, p, refused)) = inr (why.Unit f p, in_unit u f p parts refused refl)

  by_front : ((u : List ℕ) × (bytes ≡ prelude ++ u)) ⊎ ((u : List ℕ) → bytes ≡ prelude ++ u → ⊥)
      → ((x : CProgram) × IsCText bytes x) ⊎ ((r : Refusal) × IsCTextRefused bytes r)
  by_front (inl (u, parts)) = by_unit u parts (unit.every_text from u)
  by_front (inr never) = inr (why.Prelude, no_prelude never refl)

  pub every_text : ((x : CProgram) × IsCText bytes x) ⊎ ((r : Refusal) × IsCTextRefused bytes r)
  every_text = by_front (begins_or_not prelude bytes)
