-- Primitives: how each is spelled, how many arguments a call of it has, and whether it gives an int.
use Rattle.std.specs.Prelude.{ℕ, Bool, true, false, List, [], ◌∷◌, Option, find, codes, nat_eq}
use Rattle.std.specs.Cmp.Lexicographic.{pointwise}
use Rattle.hc_cast.specs.declared.primitive.Primitive.{Primitive}
use Rattle.hc_cast.specs.declared.primitive.Primitive.TheVariants as primitive

-- how a primitive is spelled
abbrev pub text_of : Primitive → List ℕ
text_of primitive.FrSet = codes "fr_set"
text_of primitive.FrMove = codes "fr_move"
text_of primitive.FrAdd = codes "fr_add"
text_of primitive.FrSub = codes "fr_sub"
text_of primitive.FrMul = codes "fr_mul"
text_of primitive.FrDiv = codes "fr_div"
text_of primitive.FrNeg = codes "fr_neg"
text_of primitive.FrCmp = codes "fr_cmp"
text_of primitive.FrSign = codes "fr_sign"
text_of primitive.OutDelay = codes "out_delay"
text_of primitive.OutComm = codes "out_comm"
text_of primitive.OutLog = codes "out_log"
text_of primitive.OutEnd = codes "out_end"
text_of primitive.MLock = codes "m_lock"
text_of primitive.MUnlock = codes "m_unlock"
text_of primitive.CWait = codes "c_wait"
text_of primitive.CWake = codes "c_wake"

-- all of them
unfoldable pub primitives : List Primitive
primitives =
    primitive.FrSet ∷ primitive.FrMove ∷ primitive.FrAdd ∷ primitive.FrSub ∷ primitive.FrMul ∷ primitive.FrDiv ∷ primitive.FrNeg ∷ primitive.FrCmp ∷ primitive.FrSign
    ∷ primitive.OutDelay ∷ primitive.OutComm ∷ primitive.OutLog ∷ primitive.OutEnd ∷ primitive.MLock ∷ primitive.MUnlock ∷ primitive.CWait ∷ primitive.CWake ∷ []

-- the first of a list that is spelled so, if there is one
abbrev pub primitive_among : List Primitive → List ℕ → Option Primitive
primitive_among ps w = find (λ p. pointwise nat_eq (text_of p) w) ps

-- the primitive that is spelled so, if there is one
unfoldable pub primitive_named : List ℕ → Option Primitive
primitive_named w = primitive_among primitives w

-- how many arguments a call of it has
abbrev pub count : Primitive → ℕ
count primitive.FrSet = 4
count primitive.FrMove = 4
count primitive.FrAdd = 4
count primitive.FrSub = 4
count primitive.FrMul = 4
count primitive.FrDiv = 4
count primitive.FrNeg = 3
count primitive.FrCmp = 3
count primitive.FrSign = 2
count primitive.OutDelay = 3
count primitive.OutComm = 6
count primitive.OutLog = 4
count primitive.OutEnd = 4
count primitive.MLock = 0
count primitive.MUnlock = 0
count primitive.CWait = 1
count primitive.CWake = 1

-- whether it gives an int
abbrev pub gives : Primitive → Bool
gives primitive.FrAdd = true
gives primitive.FrSub = true
gives primitive.FrMul = true
gives primitive.FrDiv = true
gives primitive.FrCmp = true
gives primitive.FrSign = true
gives _ = false
