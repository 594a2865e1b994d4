-- When a statement is single, one equation for each form.
use Rattle.std.proofs.Common.{rules, ◌≡◌, refl, ap, suc, ℕ, Bool, true, false, ◌&&◌, List, [], ◌∷◌, map, ◌∙◌}
use Rattle.std.specs.Prelude.{length, nat_le}
use Rattle.std.specs.List.{list_all}
use Rattle.std.proofs.lemmas.Bool.Decides.{nat_tests}
use Rattle.hc_term.specs.declared.expr.Cond.{Cond}
use Rattle.hc_term.specs.declared.stmt.Rate.{Rate}
use Rattle.hc_term.specs.declared.stmt.Stmt.{Stmt, the_lemmas}
use Rattle.hc_term.specs.declared.stmt.Stmt.TheViews as seen
use Rattle.hc_term.specs.declared.stmt.Branch.{Branch, out-Branch}
use Rattle.hc_order.specs.Determinate.{is_single}
use Rattle.hc_det.specs.Single.{one_branch}

all-map : {X Y : Type 0} (p : X → Bool) (h : Y → X) (ys : List Y) → list_all p (map h ys) ≡ list_all (λ y. p (h y)) ys
all-map p h [] = refl
all-map p h (y ∷ ys) = ap (λ b. p (h y) && b) (all-map p h ys)

abbrev pub all_single : List Stmt → Bool
all_single ss = list_all is_single ss

abbrev few : List Branch → Bool
few bs = nat_le (length bs) 1 && list_all (λ b. list_all is_single (out-Branch b).body) bs

and_true : (b : Bool) → (b && true) ≡ b
and_true true = refl
and_true false = refl

no_few : (n : ℕ) (b : Bool) → (nat_le (suc (suc n)) 1 && b) ≡ false
no_few n b = search (rules, nat_tests)

few-one : (bs : List Branch) → few bs ≡ one_branch bs
few-one [] = refl
few-one (b ∷ []) = and_true (list_all is_single (out-Branch b).body)
few-one (b ∷ c ∷ bs) = no_few (length bs) (list_all (λ x. list_all is_single (out-Branch x).body) (b ∷ c ∷ bs))

length-map' : {X Y : Type 0} (h : Y → X) (ys : List Y) → length (map h ys) ≡ length ys
length-map' h [] = refl
length-map' h (y ∷ ys) = ap suc (length-map' h ys)

pub single-If : (s : Stmt) (c : Cond) (ss rs : List Stmt) → s ≡ seen.If c ss rs → is_single s ≡ (all_single ss && all_single rs)
single-If s c ss rs e = search (rules, the_lemmas, all-map)

pub single-Pick : (s : Stmt) (ss rs : List Stmt) → s ≡ seen.Pick ss rs → is_single s ≡ (all_single ss && all_single rs)
single-Pick s ss rs e = search (rules, the_lemmas, all-map)

pub single-Forever : (s : Stmt) (ss : List Stmt) → s ≡ seen.Forever ss → is_single s ≡ all_single ss
single-Forever s ss e = search (rules, the_lemmas, all-map)

pub single-Loop : (s : Stmt) (c : Cond) (ss : List Stmt) → s ≡ seen.Loop c ss → is_single s ≡ all_single ss
single-Loop s c ss e = search (rules, the_lemmas, all-map)

choice : (s : Stmt) (bs : List Branch) → s ≡ seen.Choice bs → is_single s ≡ few bs
choice s bs e = search (rules, the_lemmas, all-map, length-map')

evolve : (s : Stmt) (rs : List Rate) (c : Cond) (bs : List Branch) → s ≡ seen.Evolve rs c bs → is_single s ≡ few bs
evolve s rs c bs e = search (rules, the_lemmas, all-map, length-map')

pub single-Choice : (s : Stmt) (bs : List Branch) → s ≡ seen.Choice bs → is_single s ≡ one_branch bs
single-Choice s bs e = choice s bs e ∙ few-one bs

pub single-Evolve : (s : Stmt) (rs : List Rate) (c : Cond) (bs : List Branch) → s ≡ seen.Evolve rs c bs → is_single s ≡ one_branch bs
single-Evolve s rs c bs e = evolve s rs c bs e ∙ few-one bs
