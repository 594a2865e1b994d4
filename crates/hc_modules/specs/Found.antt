-- The answers of a search: what is found first, or that there is nothing.
use Rattle.std.specs.Prelude.{◌≡◌, ℕ, List, [], ◌∷◌, slice_get, Option, Some, None, IfSome, Result, Ok, Err}
use Rattle.hc_modules.specs.declared.flat.ModuleStop.{ModuleStop}
use Rattle.hc_modules.specs.declared.flat.ModuleStop.TheVariants as stop
use Rattle.hc_frac.specs.declared.place.Place.{Place}

-- nothing is found, or this is found first
abbrev pub first_of : {X : Type 0} → List X → Result (Unit {0}) X
first_of [] = Ok tt
first_of (x ∷ xs) = Err x

-- a count, where nothing is found
abbrev pub count_of : List Place → ℕ → Result ℕ Place
count_of [] n = Ok n
count_of (p ∷ ps) n = Err p

-- what is refused first, where an error tells a refusal: want of memory tells none, and says nothing of what is found
abbrev pub IsFirst : {E : Type 0} (told : E → Option E) → List E → E → Type 0
IsFirst told found e = IfSome (told e) (λ s. slice_get found 0 ≡ Some s)

-- the refusal that an error of expanding tells
abbrev pub told : ModuleStop → Option ModuleStop
told stop.Memory = None
told s = Some s
