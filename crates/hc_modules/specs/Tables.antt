-- What the code keeps by names: the value parameters of a module, and the arguments of a call.
use Rattle.std.specs.Prelude.{◌≡◌, Bool, ◌&&◌, cond, List, find, Option, Some, None, option_map}
use Rattle.std.specs.List.{list_any}
use Rattle.std.specs.Option.{option_or}
use denote.Ref.{Bor}
use Rattle.hc_ast.specs.declared.expr.ExprTree.{ExprTree}
use Rattle.hc_ast.specs.declared.tree.Param.{Param}
use Rattle.hc_ast.specs.declared.tree.ParamKind.{ParamKind}
use Rattle.hc_ast.specs.declared.tree.ParamKind.TheVariants as p
use Rattle.hc_ast.specs.Bare.{Word}
use Rattle.indexmap.specs.IndexMap.{IndexMap, get}
use Rattle.hc_frac.specs.declared.place.Place.{Place}
use Rattle.hc_modules.specs.Bindings.{Bindings, same_word, is_channel, is_value, is_value_of, argument_of}
use Rattle.hc_modules.specs.Finds.{only_if}
use Rattle.hc_modules.specs.Outermost.{Written}

-- these names are those of the value parameters
abbrev pub AreValues : List Word → List Param → Type 0
AreValues xs ps = (x : Word) → list_any (same_word x) xs ≡ list_any (is_value_of x) ps

-- where one of these variables is written
abbrev pub writes_among : List Word → Written → List Place
writes_among xs w = only_if (list_any (same_word w.variable) xs) w.place

-- ---- the arguments of a call

abbrev pub is_kind : ParamKind → ParamKind → Bool
is_kind p.Channel k = is_channel k
is_kind p.Value k = is_value k

-- whether a parameter is of this kind and this name
abbrev pub is_of : ParamKind → Word → Param → Bool
is_of kind x p = is_kind kind p.kind && same_word p.name x

-- the argument for a parameter, where it is of this kind and name
abbrev pub argument_for : ParamKind → Param × ExprTree → Word → Option ExprTree
argument_for kind b x = cond (is_of kind x b.0) (Some b.1) None

-- the argument for the first parameter of this kind and name
abbrev pub argument_in : ParamKind → Bindings → Word → Option ExprTree
argument_in kind bs x = argument_of (find (λ b. is_of kind x b.0) bs)

-- what a table has for a name
abbrev pub found_in : {S : Type 0} → IndexMap Word (Bor ExprTree) S → Word → Option ExprTree
found_in m x = option_map (λ e. e.now) (get same_word m x)

-- a table has this for each name
abbrev pub Finds : {S : Type 0} → IndexMap Word (Bor ExprTree) S → (Word → Option ExprTree) → Type 0
Finds m f = (x : Word) → found_in m x ≡ f x

-- behind what a table had, it has this
abbrev pub Adds : {S : Type 0} → IndexMap Word (Bor ExprTree) S → IndexMap Word (Bor ExprTree) S → (Word → Option ExprTree) → Type 0
Adds old new f = (x : Word) → found_in new x ≡ option_or (found_in old x) (f x)
