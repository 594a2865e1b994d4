-- Which primitive each name calls: one equation for each, so that programs compute.
use Rattle.std.specs.Prelude.{◌≡◌, ℕ, List, ◌∷◌, Some, None, codes}
use Rattle.std.proofs.Common.{refl}
use Rattle.hc_cast.specs.declared.primitive.Primitive.TheVariants as primitive
use Rattle.hc_cast.specs.Primitives.{primitive_named, primitives}

pub named-FrSet : primitive_named (codes "fr_set") ≡ Some primitive.FrSet
unfolding primitive_named primitives
named-FrSet = refl

pub named-FrMove : primitive_named (codes "fr_move") ≡ Some primitive.FrMove
unfolding primitive_named primitives
named-FrMove = refl

pub named-FrAdd : primitive_named (codes "fr_add") ≡ Some primitive.FrAdd
unfolding primitive_named primitives
named-FrAdd = refl

pub named-FrSub : primitive_named (codes "fr_sub") ≡ Some primitive.FrSub
unfolding primitive_named primitives
named-FrSub = refl

pub named-FrMul : primitive_named (codes "fr_mul") ≡ Some primitive.FrMul
unfolding primitive_named primitives
named-FrMul = refl

pub named-FrDiv : primitive_named (codes "fr_div") ≡ Some primitive.FrDiv
unfolding primitive_named primitives
named-FrDiv = refl

pub named-FrNeg : primitive_named (codes "fr_neg") ≡ Some primitive.FrNeg
unfolding primitive_named primitives
named-FrNeg = refl

pub named-FrCmp : primitive_named (codes "fr_cmp") ≡ Some primitive.FrCmp
unfolding primitive_named primitives
named-FrCmp = refl

pub named-FrSign : primitive_named (codes "fr_sign") ≡ Some primitive.FrSign
unfolding primitive_named primitives
named-FrSign = refl

pub named-OutDelay : primitive_named (codes "out_delay") ≡ Some primitive.OutDelay
unfolding primitive_named primitives
named-OutDelay = refl

pub named-OutComm : primitive_named (codes "out_comm") ≡ Some primitive.OutComm
unfolding primitive_named primitives
named-OutComm = refl

pub named-OutLog : primitive_named (codes "out_log") ≡ Some primitive.OutLog
unfolding primitive_named primitives
named-OutLog = refl

pub named-OutEnd : primitive_named (codes "out_end") ≡ Some primitive.OutEnd
unfolding primitive_named primitives
named-OutEnd = refl

pub named-MLock : primitive_named (codes "m_lock") ≡ Some primitive.MLock
unfolding primitive_named primitives
named-MLock = refl

pub named-MUnlock : primitive_named (codes "m_unlock") ≡ Some primitive.MUnlock
unfolding primitive_named primitives
named-MUnlock = refl

pub named-CWait : primitive_named (codes "c_wait") ≡ Some primitive.CWait
unfolding primitive_named primitives
named-CWait = refl

pub named-CWake : primitive_named (codes "c_wake") ≡ Some primitive.CWake
unfolding primitive_named primitives
named-CWake = refl

-- no function's name is that of a primitive
pub named-function : (w : List ℕ) → primitive_named (102 ∷ 95 ∷ w) ≡ None
unfolding primitive_named primitives
named-function w = refl

pub ruleset callees = (named-FrSet, named-FrMove, named-FrAdd, named-FrSub, named-FrMul, named-FrDiv, named-FrNeg, named-FrCmp, named-FrSign, named-OutDelay, named-OutComm, named-OutLog, named-OutEnd, named-MLock, named-MUnlock, named-CWait, named-CWake, named-function)
