-- What a reader answers: of all texts, trees or tokens alike.
use Rattle.std.specs.Prelude.{◌≡◌, Option, None, IfSome, Result, Ok, Err, IfOk, IfErr}

module _ {V Q X E : Type 0} (value : X → V) (told : E → Option Q) where
  -- the answer is this value, or memory ran out
  abbrev pub IsValueOrMemory : V → Result X E → Type 0
  IsValueOrMemory v (Ok x) = value x ≡ v
  IsValueOrMemory v (Err e) = told e ≡ None

  -- the answer is this refusal, or memory ran out
  abbrev pub IsRefusalOrMemory : Q → Result X E → Type 0
  IsRefusalOrMemory q (Ok x) = ⊥
  IsRefusalOrMemory q (Err e) = IfSome (told e) (λ r. r ≡ q)

  -- an answer is right, and what is right is the answer, unless memory runs out. `value` is what an answer gives, and `told`
  -- the refusal that it is; where memory ran out it tells none
  pub record IsExact (IsValue : V → Type 0) (IsRefusal : Q → Type 0) (result : Result X E) : Type 0 where
    pub value_is : IfOk result (λ x. IsValue (value x))
    pub refusal_is : IfErr result (λ e. IfSome (told e) IsRefusal)
    pub every_value : (v : V) → IsValue v → IsValueOrMemory v result
    pub every_refusal : (q : Q) → IsRefusal q → IsRefusalOrMemory q result
