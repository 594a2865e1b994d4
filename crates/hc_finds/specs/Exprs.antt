-- What is looked for in expressions and conditions, in the order of the text.
use Rattle.std.specs.Prelude.{Bool, true, false, ◌&&◌, ◌||◌, ◌==◌, unsigned_abs, List, [], ◌∷◌, ◌++◌, map}
use Rattle.std.specs.List.{list_any}
use Rattle.hc_frac.specs.declared.place.Place.{Place}
use Rattle.hc_frac.specs.declared.decimal.Decimal.{Decimal}
use Rattle.hc_ast.specs.Bare.{Word}
use Rattle.hc_ast.specs.declared.expr.Op.{Op}
use Rattle.hc_ast.specs.declared.expr.Op.TheVariants as sign
use Rattle.hc_ast.specs.declared.expr.ExprKind.TheOpen.{ExprKind-F}
use Rattle.hc_ast.specs.declared.expr.ExprTree.{ExprTree, fold-ExprTree}
use Rattle.hc_ast.specs.declared.expr.CondKind.TheOpen.{CondKind-F}
use Rattle.hc_ast.specs.declared.expr.CondTree.{CondTree, fold-CondTree}
use Rattle.hc_modules.specs.Bindings.{same_word}
use Rattle.hc_modules.specs.Finds.{only_if}

-- ---- names

-- a name where it stands
pub record NameAt : Type 0 where
  pub place : Place
  pub word : Word

abbrev pub names_layer : ExprKind-F (Place → List NameAt) (List NameAt) → Place → List NameAt
names_layer (ExprKind-F.Number d) p = []
names_layer (ExprKind-F.Name x) p = record { place = p; word = x } ∷ []
names_layer (ExprKind-F.Neg a) p = a
names_layer (ExprKind-F.Binary op a b) p = a ++ b

-- the names in an expression
abbrev pub names_in : ExprTree → List NameAt
names_in e = fold-ExprTree (Place → List NameAt) (List NameAt) names_layer (λ t. t.kind t.place) e

abbrev pub words_in : ExprTree → List Word
words_in e = map (λ n. n.word) (names_in e)

abbrev pub sides_layer : CondKind-F (List ExprTree) (List ExprTree) → List ExprTree
sides_layer CondKind-F.True = []
sides_layer CondKind-F.False = []
sides_layer (CondKind-F.Compare how a b) = a ∷ b ∷ []
sides_layer (CondKind-F.Not x) = x
sides_layer (CondKind-F.And x y) = x ++ y
sides_layer (CondKind-F.Or x y) = x ++ y

-- the sides of all comparisons in a condition
abbrev pub sides : CondTree → List ExprTree
sides x = fold-CondTree (List ExprTree) (List ExprTree) sides_layer (λ t. t.kind) x

-- ---- divisors

abbrev pub is_division : Op → Bool
is_division sign.Div = true
is_division _ = false

abbrev pub not_literal_layer : ExprKind-F (Bool → Place → List Place) (Bool → List Place) → Bool → Place → List Place
not_literal_layer (ExprKind-F.Number d) divides p = []
not_literal_layer (ExprKind-F.Name x) divides p = only_if divides p
not_literal_layer (ExprKind-F.Neg a) divides p = only_if divides p ++ a false
not_literal_layer (ExprKind-F.Binary op a b) divides p = a false ++ only_if divides p ++ b (is_division op)

-- the divisors that are no numbers in an expression, which is a divisor itself or not
abbrev pub divisors_not_literal : Bool → ExprTree → List Place
divisors_not_literal divides e =
    fold-ExprTree (Bool → Place → List Place) (Bool → List Place) not_literal_layer (λ t. λ b. t.kind b t.place) e divides

abbrev pub is_zero : Decimal → Bool
is_zero d = unsigned_abs d.digits == 0

abbrev pub zero_layer : ExprKind-F (Bool → Place → List Place) (Bool → List Place) → Bool → Place → List Place
zero_layer (ExprKind-F.Number d) divides p = only_if (divides && is_zero d) p
zero_layer (ExprKind-F.Name x) divides p = []
zero_layer (ExprKind-F.Neg a) divides p = a false
zero_layer (ExprKind-F.Binary op a b) divides p = a false ++ b (is_division op)

-- the divisors that are the number 0
abbrev pub zero_divisors : Bool → ExprTree → List Place
zero_divisors divides e =
    fold-ExprTree (Bool → Place → List Place) (Bool → List Place) zero_layer (λ t. λ b. t.kind b t.place) e divides

-- ---- what evolves

abbrev pub is_among : List Word → Word → Bool
is_among xs x = list_any (λ y. same_word y x) xs

-- whether one of these variables stands in an expression, and its products with one on both sides
pub record Moves : Type 0 where
  pub moves : Bool
  pub products : List Place

abbrev pub is_product : Op → Bool
is_product sign.Mul = true
is_product _ = false

abbrev pub moves_layer : List Word → ExprKind-F (Place → Moves) Moves → Place → Moves
moves_layer xs (ExprKind-F.Number d) p = record { moves = false; products = [] }
moves_layer xs (ExprKind-F.Name x) p = record { moves = is_among xs x; products = [] }
moves_layer xs (ExprKind-F.Neg a) p = a
moves_layer xs (ExprKind-F.Binary op a b) p = record {
  moves = a.moves || b.moves;
  products = a.products ++ only_if (is_product op && (a.moves && b.moves)) p ++ b.products;
}

abbrev pub moves_of : List Word → ExprTree → Moves
moves_of xs e = fold-ExprTree (Place → Moves) Moves (moves_layer xs) (λ t. t.kind t.place) e
