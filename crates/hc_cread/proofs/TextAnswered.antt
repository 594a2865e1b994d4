-- What reading a whole text answers, from what reading its unit answers.
use Rattle.std.proofs.Common.{◌≡◌, refl, ap, sym, ◌∙◌, subst, ℕ, List, ◌++◌, ◌+◌, ◌<◌, ◌≤◌, arith, Option, Some, None, Ok, Err}
use Rattle.std.proofs.lemmas.List.{append_cancel_left}
use Rattle.hc_limits.specs.Limits.{most_text_bytes}
use Rattle.hc_frac.specs.declared.place.Place.{Place}
use Rattle.hc_cast.specs.declared.program.CProgram.{CProgram}
use Rattle.hc_cgrammar.specs.declared.flaw.Flaw.{Flaw}
use Rattle.hc_cgrammar.specs.declared.flaw.Refusal.{Refusal}
use Rattle.hc_cgrammar.specs.declared.flaw.Refusal.TheVariants as why
use Rattle.hc_cgrammar.specs.Prelude.{prelude, behind_prelude}
use Rattle.hc_cgrammar.specs.Unit.{IsUnit, IsRefused}
use Rattle.hc_cgrammar.specs.Text.{IsCText, IsCTextRefused, no_prelude, in_unit}
use Rattle.hc_cread.specs.declared.reading.UnitStop.{UnitStop}
use Rattle.hc_cread.specs.declared.reading.UnitStop.TheVariants as unit_stop
use Rattle.hc_cread.specs.declared.whole.CStop.TheVariants.{Refused}
use Rattle.hc_cread.specs.Stops as units
use Rattle.hc_cread.specs.TextStops.{stop_of, IsExact}

-- a refusal of a unit is told
abbrev told_unit : Flaw × Place → Option (Flaw × Place)
told_unit what = Some what

-- a unit begins in column 1 of line 64
pub unit_line : behind_prelude.line ≡ 64
unfolding prelude behind_prelude
unit_line = refl

pub unit_column : behind_prelude.column ≡ 1
unfolding prelude behind_prelude
unit_column = refl

-- so the places of a text within the limit fit
pub lines_fit : (p : Place) (n m : ℕ) → p ≡ behind_prelude → n ≤ m → m ≤ most_text_bytes → p.line + n < 4294967296
lines_fit p n m e h k = let line : p.line ≡ 64 = ap (λ (q : Place). q.line) e ∙ unit_line in omega arith

pub columns_fit : (p : Place) (n m : ℕ) → p ≡ behind_prelude → n ≤ m → m ≤ most_text_bytes → p.column + n < 4294967296
columns_fit p n m e h k = let column : p.column ≡ 1 = ap (λ (q : Place). q.column) e ∙ unit_column in omega arith

-- without the prelude, that is the refusal
pub prelude_exact : (bytes : List ℕ) → ((u : List ℕ) → bytes ≡ prelude ++ u → ⊥) → IsExact bytes (Err (Refused why.Prelude))
prelude_exact bytes never = record {
  value_is = tt;
  refusal_is = no_prelude never refl;
  every_value = λ p x. absurd (never x.unit x.parts);
  every_refusal = only_prelude;
}
  where
    only_prelude : (r : Refusal) → IsCTextRefused bytes r → why.Prelude ≡ r
    only_prelude r (no_prelude n e) = sym e
    only_prelude r (in_unit u f p parts refused e) = absurd (never u parts)

module _ (bytes unit : List ℕ) (parts : bytes ≡ prelude ++ unit) where
  same_unit : (u : List ℕ) → bytes ≡ prelude ++ u → u ≡ unit
  same_unit u e = append_cancel_left prelude u unit (sym e ∙ parts)

  unit_is : (p : CProgram) (x : IsCText bytes p) → IsUnit behind_prelude unit p
  unit_is p x = subst (λ u. IsUnit behind_prelude u p) (same_unit x.unit x.parts) x.is_unit

  refusal_is : (u : List ℕ) (f : Flaw) (p : Place) → bytes ≡ prelude ++ u → IsRefused behind_prelude u f p → IsRefused behind_prelude unit f p
  refusal_is u f p e x = subst (λ v. IsRefused behind_prelude v f p) (same_unit u e) x

  pub text_exact : (p : CProgram) → units.IsExact behind_prelude unit (Ok p) → IsExact bytes (Ok p)
  text_exact p h = record {
    value_is = record { unit = unit; parts = parts; is_unit = h.value_is };
    refusal_is = tt;
    every_value = λ q x. h.every_value q (unit_is q x);
    every_refusal = not_refused;
  }
    where
      not_refused : (r : Refusal) → IsCTextRefused bytes r → ⊥
      not_refused r (no_prelude never e) = never unit parts
      not_refused r (in_unit u f place e x is) = h.every_refusal (f, place) (refusal_is u f place e x)

  pub stop_exact : (s : UnitStop) → units.IsExact behind_prelude unit (Err s) → IsExact bytes (Err (stop_of s))
  stop_exact (unit_stop.Refused f p) h = record {
    value_is = tt;
    refusal_is = in_unit unit f p parts h.refusal_is refl;
    every_value = λ q x. absurd (never_told (h.every_value q (unit_is q x)));
    every_refusal = only_this;
  }
    where
      never_told : told_unit (f, p) ≡ None → ⊥
      never_told e = cc

      only_this : (r : Refusal) → IsCTextRefused bytes r → why.Unit f p ≡ r
      only_this r (no_prelude never e) = absurd (never unit parts)
      only_this r (in_unit u g q e x is) =
          ap (λ (y : Flaw × Place). why.Unit y.0 y.1) (h.every_refusal (g, q) (refusal_is u g q e x)) ∙ sym is
  stop_exact unit_stop.Memory h = record {
    value_is = tt;
    refusal_is = tt;
    every_value = λ q x. refl;
    every_refusal = λ r x. tt;
  }
