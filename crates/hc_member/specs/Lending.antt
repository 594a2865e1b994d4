-- What is kept of a process, what of it is lent to an advance, and which advance may be taken over.
use Rattle.std.specs.Prelude.{◌≡◌, ◌≢◌, ℕ, Bool, true, false, Some}
use Rattle.hc_rational.specs.Words.{Rational}
use Rattle.hc_code.specs.declared.code.ProcCode.{ProcCode}
use Rattle.hc_step.specs.declared.local.Local.{Local}
use Rattle.hc_advance.specs.Lead.{Lead, StartsAt, begun, steps_of}
use Rattle.hc_member.specs.declared.member.Member.{Member}

-- its code, and what it keeps between its steps
pub record Kept : Type 0 where
  pub code : ProcCode
  pub local : Local

-- what is kept of the member's process
abbrev pub kept : Member → Kept
kept m = record { code = m.code; local = m.local }

-- an advance of the same code starts from what is kept, and isn't worked; another is unchanged
abbrev pub Lends : Kept → Rational → ℕ → Lead → Lead → Bool → Type 0
Lends k clock seed old new true = (old.code ≡ k.code) × (new ≡ begun k.code k.local clock seed)
Lends k clock seed old new false = (old.code ≢ k.code) × (new ≡ old)

-- the advance starts from what is kept, at this clock and with this seed, and is worked, with so many steps
pub record HasSteps (k : Kept) (clock : Rational) (seed : ℕ) (a : Lead) (steps : ℕ) : Type 0 where
  pub starts : StartsAt a k.code k.local clock seed
  pub steps_are : steps_of a.worked ≡ Some steps
