-- The count of nodes ends where the definition finds the first expression with too many.
use Rattle.std.proofs.Common.{◌≡◌, refl, ap, sym, ◌∙◌, ◌+◌, Bool, true, false, nat_lt, List, [], ◌∷◌, ◌++◌, fold, Result, Ok, Err, if◌then◌else◌, arith}
use Rattle.std.proofs.lemmas.List.Sums.{sum_by-append, sum_by-cons}
use Rattle.hc_frac.specs.declared.place.Place.{Place}
use Rattle.hc_modules.specs.declared.nodes.NodeCount.{NodeCount}
use Rattle.hc_modules.specs.declared.nodes.NodeCount.TheVariants.{Within, Beyond}
use Rattle.hc_modules.specs.Counted.{add}
use Rattle.hc_modules.specs.Finds.{along, only_if, nodes_too_many}
use Rattle.hc_modules.specs.Found.{first_of}
use Rattle.hc_modules.specs.Outermost.{Outermost, total_size}

abbrev pub answer_of : NodeCount → Result (Unit {0}) Place
answer_of (Within n) = Ok tt
answer_of (Beyond p) = Err p

stays_beyond : (p : Place) (xs : List Outermost) → fold add (Beyond p) xs ≡ Beyond p
stays_beyond p [] = refl
stays_beyond p (x ∷ xs) = stays_beyond p xs

abbrev behind : List Outermost → List Outermost → List Place
behind before xs = along (λ before x. only_if (nat_lt 50000 (total_size (before ++ x ∷ []))) x.place) before xs

one_more : (before : List Outermost) (x : Outermost) → total_size (before ++ x ∷ []) ≡ total_size before + x.size
one_more before x =
    sum_by-append (λ y. y.size) before (x ∷ [])
    ∙ ap (λ n. total_size before + n) (sum_by-cons (λ (y : Outermost). y.size) x [] ∙ omega arith)

from_here : (before xs : List Outermost) → answer_of (fold add (Within (total_size before)) xs) ≡ first_of (behind before xs)
from_here before [] = refl
from_here before (x ∷ xs) =
    at (nat_lt 50000 (total_size before + x.size)) (from_here (before ++ x ∷ []) xs)
    ∙ ap (λ n. first_of (only_if (nat_lt 50000 n) x.place ++ behind (before ++ x ∷ []) xs)) (sym (one_more before x))
  where
    at : (b : Bool) → answer_of (fold add (Within (total_size (before ++ x ∷ []))) xs) ≡ first_of (behind (before ++ x ∷ []) xs)
        → answer_of (fold add (if b then Beyond x.place else Within (total_size before + x.size)) xs)
        ≡ first_of (only_if b x.place ++ behind (before ++ x ∷ []) xs)
    at true h = ap answer_of (stays_beyond x.place xs)
    at false h = ap (λ n. answer_of (fold add (Within n) xs)) (sym (one_more before x)) ∙ h

pub counted_right : (xs : List Outermost) → answer_of (fold add (Within 0) xs) ≡ first_of (nodes_too_many xs)
counted_right xs = from_here [] xs
