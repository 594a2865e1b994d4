-- An error of expanding tells itself, unless memory ran out.
use Rattle.std.proofs.Common.{◌≡◌, refl, IfSome}
use Rattle.hc_modules.specs.declared.flat.ModuleStop.{ModuleStop}
use Rattle.hc_modules.specs.declared.flat.ModuleStop.TheVariants as stop
use Rattle.hc_modules.specs.Found.{told}

pub tells_itself : (s : ModuleStop) → IfSome (told s) (λ r. r ≡ s)
tells_itself (stop.RepeatedModule p) = refl
tells_itself (stop.RepeatedParameter p) = refl
tells_itself (stop.ParameterWritten p) = refl
tells_itself (stop.TooManyProcesses p) = refl
tells_itself (stop.RepeatedProcess p) = refl
tells_itself (stop.UnknownModule p) = refl
tells_itself (stop.WrongArgumentCount p) = refl
tells_itself (stop.WrongArgumentKind p) = refl
tells_itself (stop.TooManyStatements p) = refl
tells_itself (stop.TooManyNodes p) = refl
tells_itself stop.Memory = tt
