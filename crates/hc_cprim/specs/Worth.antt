-- What formulas are worth: as expressions, with places in place of names.
use Rattle.std.specs.Prelude.{ℕ, ◌-◌, ◌++◌, min, length, take, replicate, Bool, true, false, if◌then◌else◌, List, [], ◌∷◌, slice_index_or, ℤ, pos, unsigned_abs, take, Option, Some, None, Result, Ok, Err, MatchResult, ◌≡◌}
use Rattle.hc_cast.specs.declared.expr.COp.{COp}
use Rattle.hc_cast.specs.declared.expr.COp.TheVariants.{And, Or}
use Rattle.hc_cmach.specs.declared.kind.Kind.{Kind}
use Rattle.hc_cmach.specs.declared.kind.Kind.TheVariants.{Index, Unlocked}
use Rattle.hc_cmach.specs.State.{Shared}
use Rattle.hc_cmach.specs.Expression.{Value, Values, is_true, is_index, negated, inverted, combined, together}
use Rattle.hc_ccode.specs.declared.code.Formula.{Formula, fold-Formula}
use Rattle.hc_ccode.specs.declared.code.Formula.TheOpen.{Formula-F}

-- element i of array number a, which the owner of the mutex sees
abbrev pub element_at : Bool → List (List ℤ) → ℕ → ℕ → Value
element_at false arrays a i = Err Unlocked
element_at true arrays a i = Ok (slice_index_or (slice_index_or arrays a []) i (pos 0))

-- the same of an array with n elements, at an index that was worked out
abbrev pub indexed : Bool → List (List ℤ) → ℕ → ℕ → Value → Value
indexed owns arrays a n (Err k) = Err k
indexed owns arrays a n (Ok i) = if is_index i n then element_at owns arrays a (unsigned_abs i) else Err Index

-- one level, where each part stands for its value
abbrev pub worth_layer : List ℤ → Bool → List (List ℤ) → Formula-F Value → Value
worth_layer values owns arrays (Formula-F.Number z) = Ok z
worth_layer values owns arrays (Formula-F.Local p) = Ok (slice_index_or values p (pos 0))
worth_layer values owns arrays (Formula-F.Element a n i) = indexed owns arrays a n i
worth_layer values owns arrays (Formula-F.Neg a) = negated a
worth_layer values owns arrays (Formula-F.Not a) = inverted a
worth_layer values owns arrays (Formula-F.Binary op a b) = combined op a b

-- the value of a formula over the values of a body's locals, and over the arrays if the thread owns the mutex
abbrev pub worth_at : List ℤ → Bool → List (List ℤ) → Formula → Value
worth_at values owns arrays f = fold-Formula Value (worth_layer values owns arrays) f

abbrev pub worths_at : List ℤ → Bool → List (List ℤ) → List Formula → Values
worths_at values owns arrays [] = Ok []
worths_at values owns arrays (f ∷ fs) = together (worth_at values owns arrays f) (worths_at values owns arrays fs)

-- what `&&` and `||` are worth by their first side alone
abbrev pub decided : COp → ℤ → Option ℤ
decided And a = if is_true a then None else Some (pos 0)
decided Or a = if is_true a then Some (pos 1) else None
decided op a = None

-- what a thread sees of the shared part, which is all of it for the owner of the mutex and else nothing
abbrev pub seen_by : Bool → Shared → Option Shared
seen_by false m = None
seen_by true m = Some m

-- n values stand in front, or the first kind for which there is none is answered
abbrev pub Works : Values → ℕ → List ℤ → Result Unit Kind → Type 0
Works vs n there result = MatchResult result (λ _. vs ≡ Ok (take n there)) (λ k. vs ≡ Err k)

-- the first so many of some values, as far as there are as many and there is room, and zeros behind them
abbrev pub loaded : List ℤ → ℕ → List ℤ → List ℤ
loaded old count from =
    let k = min (min count (length from)) (length old) in
    take k from ++ replicate (length old - k) (pos 0)
