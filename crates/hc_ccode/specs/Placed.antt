-- Expressions and calls with places in place of names.
use Rattle.std.specs.Prelude.{ℕ, List, [], ◌∷◌, map, Option, Some, None}
use Rattle.hc_cast.specs.declared.primitive.Primitive.{Primitive}
use Rattle.hc_cast.specs.declared.primitive.Primitive.TheVariants.{FrSet}
use Rattle.hc_cast.specs.declared.expr.CExpr.{CExpr, fold-CExpr}
use Rattle.hc_cast.specs.declared.expr.CExpr.TheOpen.{CExpr-F}
use Rattle.hc_cast.specs.declared.program.CProgram.{CProgram}
use Rattle.hc_cmach.specs.State.{Word, place_of, array_place, array_length}
use Rattle.hc_cmach.specs.Expression.{written}
use Rattle.hc_ccode.specs.declared.code.Formula.{Formula}
use Rattle.hc_ccode.specs.declared.code.Formula.TheVariants as formula
use Rattle.hc_ccode.specs.declared.code.Node.{Node}
use Rattle.hc_ccode.specs.declared.code.Node.TheVariants as node

-- one level, where each part stands for its formula
abbrev pub placed_layer : CProgram → List Word → CExpr-F Formula → Formula
placed_layer g names (CExpr-F.Number z) = formula.Number z
placed_layer g names (CExpr-F.Local x) = formula.Local (place_of x names)
placed_layer g names (CExpr-F.Element a i) = formula.Element (array_place g a) (array_length g a) i
placed_layer g names (CExpr-F.Neg a) = formula.Neg a
placed_layer g names (CExpr-F.Not a) = formula.Not a
placed_layer g names (CExpr-F.Binary op a b) = formula.Binary op a b

-- an expression in a body with these names
abbrev pub placed : CProgram → List Word → CExpr → Formula
placed g names e = fold-CExpr Formula (placed_layer g names) e

abbrev pub placed_all : CProgram → List Word → List CExpr → List Formula
placed_all g names es = map (placed g names) es

abbrev pub placed_option : CProgram → List Word → Option CExpr → Option Formula
placed_option g names None = None
placed_option g names (Some e) = Some (placed g names e)

-- the local that takes a result
abbrev pub placed_target : List Word → Option Word → Option ℕ
placed_target names None = None
placed_target names (Some x) = Some (place_of x names)

-- a call of a primitive; `fr_set` takes two numbers as they are written
abbrev pub placed_primitive : CProgram → List Word → Option Word → Primitive → List CExpr → ℕ → Node
placed_primitive g names target FrSet (r ∷ d ∷ n ∷ m ∷ []) next =
    node.Literal (placed g names r) (placed g names d) (written n) (written m) (placed_target names target) next
placed_primitive g names target p es next = node.Primitive p (placed_all g names es) (placed_target names target) next
