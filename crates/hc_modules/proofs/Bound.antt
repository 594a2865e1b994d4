-- The tables of names that the code keeps.
use Rattle.std.proofs.Common.{◌≡◌, refl, ap, ap₂, sym, ◌∙◌, ℕ, ◌+◌, ◌<◌, Bool, true, false, cond, ◌||◌, if◌then◌else◌, List, [], ◌∷◌, ◌++◌, take, get_or, length, find, flat_map, zip, Option, Some, None, arith, min}
use Rattle.std.proofs.lemmas.List.{take_more, take_all}
use Rattle.std.proofs.lemmas.Slice.Zip.{length-zip, get_or-zip}
use Rattle.std.specs.List.{list_any}
use Rattle.std.proofs.lemmas.List.Folds.{list_any-append}
use Rattle.indexmap.specs.IndexSet.{insert_key}
use Rattle.std.specs.Option.{option_or}
use Rattle.std.specs.Cmp.Lexicographic.{nat_list_eq_equiv}
use Rattle.hc_ast.specs.Bare.{Word}
use Rattle.hc_ast.specs.declared.expr.ExprTree.{ExprTree}
use Rattle.hc_ast.specs.declared.tree.Param.{Param}
use Rattle.hc_ast.specs.declared.tree.ParamKind.{ParamKind}
use Rattle.hc_modules.specs.Bindings.{Bindings, same_word, argument_of}
use Rattle.hc_modules.specs.Finds.{only_if, writes_parameter}
use Rattle.hc_modules.specs.Outermost.{Written}
use Rattle.hc_modules.specs.Tables.{is_of, argument_for, argument_in, AreValues, writes_among}

-- ---- arguments

find_more : {X : Type 0} (test : X → Bool) (xs : List X) (x : X) → find test (xs ++ x ∷ []) ≡ option_or (find test xs) (cond (test x) (Some x) None)
find_more test [] x = refl
find_more test (y ∷ ys) x = by (test y) (find_more test ys x)
  where
    by : (b : Bool) → find test (ys ++ x ∷ []) ≡ option_or (find test ys) (cond (test x) (Some x) None)
        → cond b (Some y) (find test (ys ++ x ∷ [])) ≡ option_or (cond b (Some y) (find test ys)) (cond (test x) (Some x) None)
    by true h = refl
    by false h = h

of_either : (a b : Option (Param × ExprTree)) → argument_of (option_or a b) ≡ option_or (argument_of a) (argument_of b)
of_either None b = refl
of_either (Some a) b = refl

of_one : (t : Bool) (b : Param × ExprTree) → argument_of (cond t (Some b) None) ≡ cond t (Some b.1) None
of_one true b = refl
of_one false b = refl

pub argument_more : (kind : ParamKind) (bs : Bindings) (b : Param × ExprTree) (x : Word)
    → argument_in kind (bs ++ b ∷ []) x ≡ option_or (argument_in kind bs x) (argument_for kind b x)
argument_more kind bs b x =
    ap argument_of (find_more (λ c. is_of kind x c.0) bs b)
    ∙ of_either (find (λ c. is_of kind x c.0) bs) (cond (is_of kind x b.0) (Some b) None)
    ∙ ap (option_or (argument_in kind bs x)) (of_one (is_of kind x b.0) b)

-- one pair more
pub zip_more : (ps : List Param) (es : List ExprTree) (i : ℕ) (p : Param) (a : ExprTree) → i < length ps → i < length es
    → p ≡ get_or ps i p → a ≡ get_or es i a → take (i + 1) (zip ps es) ≡ take i (zip ps es) ++ (p, a) ∷ []
zip_more ps es i p a h k e f =
    take_more (zip ps es) i (p, a) (omega (arith, h, k, length-zip ps es))
    ∙ ap (λ b. take i (zip ps es) ++ b ∷ []) (get_or-zip ps es i (p, a) h k ∙ ap₂ (λ q b. (q, b)) (sym e) (sym f))

pub zip_whole : (ps : List Param) (es : List ExprTree) (n : ℕ) → n ≡ min (length ps) (length es) → take n (zip ps es) ≡ zip ps es
zip_whole ps es n e = take_all n (zip ps es) (omega (arith, e, length-zip ps es))

-- ---- value parameters

pub or_false : (b : Bool) → (b || false) ≡ b
or_false true = refl
or_false false = refl

pub any_more : {X : Type 0} (test : X → Bool) (xs : List X) (x : X) → list_any test (xs ++ x ∷ []) ≡ (list_any test xs || test x)
any_more test xs x = list_any-append test xs (x ∷ []) ∙ ap (λ b. list_any test xs || b) (or_false (test x))

any_alike : {X : Type 0} (p q : X → Bool) → ((y : X) → p y ≡ q y) → (ys : List X) → list_any p ys ≡ list_any q ys
any_alike p q e [] = refl
any_alike p q e (y ∷ ys) = ap₂ (λ a b. a || b) (e y) (any_alike p q e ys)

-- a name that is inserted is there with those before
pub inserted : (ks : List Word) (k c : Word) → list_any (same_word c) (insert_key same_word ks k) ≡ (list_any (same_word c) ks || same_word c k)
inserted ks k c = by (list_any (same_word k) ks) refl
  where
    there : (b : Bool) → same_word c k ≡ b → list_any (same_word k) ks ≡ true → list_any (same_word c) ks ≡ (list_any (same_word c) ks || b)
    there true e h =
        let is : list_any (same_word c) ks ≡ true =
        any_alike (same_word c) (same_word k) (λ y. nat_list_eq_equiv.congr c k y e) ks ∙ h in
        is ∙ ap (λ b. b || true) (sym is)
    there false e h = sym (or_false (list_any (same_word c) ks))

    by : (b : Bool) → list_any (same_word k) ks ≡ b
        → list_any (same_word c) (if b then ks else ks ++ k ∷ []) ≡ (list_any (same_word c) ks || same_word c k)
    by true h = there (same_word c k) refl h
    by false h = any_more (same_word c) ks k

-- writes of these variables are those of the value parameters
pub writes_same : (xs : List Word) (ps : List Param) → AreValues xs ps → (ws : List Written)
    → flat_map (writes_among xs) ws ≡ flat_map (writes_parameter ps) ws
writes_same xs ps are [] = refl
writes_same xs ps are (w ∷ ws) = ap₂ (λ b us. only_if b w.place ++ us) (are w.variable) (writes_same xs ps are ws)
