-- A fact of both sides of a choice.
use Rattle.std.proofs.Common.{true, false, Bool, cond}

pub either : {X : Type 0} (P : X → Type 0) (b : Bool) (x y : X) → P x → P y → P (cond b x y)
either P true x y g h = g
either P false x y g h = h
