-- What is a C text, which program it is, and where a text that is none is refused.
use Rattle.std.specs.Prelude.{◌≡◌, ℕ, List, ◌++◌}
use Rattle.hc_frac.specs.declared.place.Place.{Place}
use Rattle.hc_cast.specs.declared.program.CProgram.{CProgram}
use Rattle.hc_cgrammar.specs.declared.flaw.Flaw.{Flaw}
use Rattle.hc_cgrammar.specs.declared.flaw.Refusal.{Refusal}
use Rattle.hc_cgrammar.specs.declared.flaw.Refusal.TheVariants as why
use Rattle.hc_cgrammar.specs.Prelude.{prelude, behind_prelude}
use Rattle.hc_cgrammar.specs.Unit.{IsUnit, IsRefused}

-- the bytes are the prelude and a unit behind it, and this is its program
pub record IsCText (bytes : List ℕ) (p : CProgram) : Type 0 where
  pub unit : List ℕ
  pub parts : bytes ≡ prelude ++ unit
  pub is_unit : IsUnit behind_prelude unit p

-- why the bytes are no C text: they don't begin with the prelude, or what stands behind it is refused
pub data IsCTextRefused (bytes : List ℕ) (refusal : Refusal) : Type 0 where
  no_prelude : ((unit : List ℕ) → bytes ≡ prelude ++ unit → ⊥) → refusal ≡ why.Prelude → IsCTextRefused bytes refusal
  in_unit : (unit : List ℕ) (flaw : Flaw) (place : Place) → bytes ≡ prelude ++ unit → IsRefused behind_prelude unit flaw place →
      refusal ≡ why.Unit flaw place → IsCTextRefused bytes refusal
