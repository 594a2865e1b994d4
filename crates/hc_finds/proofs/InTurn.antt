-- What is found first along the phases, of errors that tell themselves.
use Rattle.std.proofs.Common.{◌≡◌, refl, List, [], ◌∷◌, ◌++◌, IfSome, Ok, Err}
use Rattle.hc_modules.specs.Found.{first_of, IsFirst}
use Rattle.hc_modules.proofs.Firsts.{first_on, first_after, first_told}
use Rattle.hc_finds.specs.declared.stop.CheckStop.{CheckStop}
use Rattle.hc_finds.specs.declared.stop.CheckStop.TheVariants as stop
use Rattle.hc_finds.specs.First.{told}

pub tells_itself : (s : CheckStop) → IfSome (told s) (λ r. r ≡ s)
tells_itself (stop.TooMany w p) = refl
tells_itself (stop.DivisorNotLiteral p) = refl
tells_itself (stop.ZeroDivisor p) = refl
tells_itself (stop.RepeatedRate p) = refl
tells_itself (stop.RateEvolves p) = refl
tells_itself (stop.NotAffine p) = refl
tells_itself (stop.RepeatedGuard p) = refl
tells_itself (stop.SelfChannel p) = refl
tells_itself (stop.TwoSenders p) = refl
tells_itself (stop.TwoReceivers p) = refl
tells_itself stop.Memory = tt

-- by the first, the second and the third phase
pub by-first : (us bs cs : List CheckStop) (s : CheckStop) → IsFirst told us s → IsFirst told (us ++ bs ++ cs) s
by-first us bs cs s h = first_on told (us ++ bs) cs s (first_on told us bs s h)

pub by-second : (us bs cs : List CheckStop) (s : CheckStop) → us ≡ [] → first_of bs ≡ Err s → IsFirst told (us ++ bs ++ cs) s
by-second us [] cs s e h = absurd (cc)
by-second us (b ∷ bs) cs s e h =
    first_on told (us ++ b ∷ bs) cs s (first_after told us (b ∷ bs) s e (first_told told tells_itself (b ∷ bs) s (cc)))

pub by-third : (us bs cs : List CheckStop) (s : CheckStop) → us ≡ [] → first_of bs ≡ Ok tt → IsFirst told cs s → IsFirst told (us ++ bs ++ cs) s
by-third [] [] cs s e f h = h
by-third [] (b ∷ bs) cs s e f h = absurd (cc)
by-third (u ∷ us) bs cs s e f h = absurd (cc)

-- by none
pub by-none : (us bs cs : List CheckStop) → us ≡ [] → first_of bs ≡ Ok tt → cs ≡ [] → us ++ bs ++ cs ≡ []
by-none [] [] cs e f g = g
by-none [] (b ∷ bs) cs e f g = absurd (cc)
by-none (u ∷ us) bs cs e f g = absurd (cc)
