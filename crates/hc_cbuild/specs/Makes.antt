-- What a call makes that may meet want of memory.
use Rattle.std.specs.Prelude.{◌≡◌, Result, IfOk}

-- where r is Ok, it is Ok t
abbrev pub Makes : {T E : Type 0} → Result T E → T → Type 0
Makes r t = IfOk r (λ made. made ≡ t)
