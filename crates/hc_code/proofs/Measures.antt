-- The measure of each form of a statement, from those of its parts.
use Rattle.std.proofs.Common.{rules, ◌≡◌, refl, sym, ap, ◌∙◌, ℕ, ◌+◌, ◌-◌, ◌≤◌, List, [], ◌∷◌, length, sum_by, arith}
use Rattle.std.proofs.lemmas.List.Sums.{sum-map, sum_by-cons}
use Rattle.hc_term.specs.declared.expr.Expr.{Expr}
use Rattle.hc_term.specs.declared.expr.Cond.{Cond}
use Rattle.hc_term.specs.declared.stmt.Io.{Io}
use Rattle.hc_term.specs.declared.stmt.Rate.{Rate}
use Rattle.hc_term.specs.declared.stmt.Stmt.{Stmt, the_lemmas}
use Rattle.hc_term.specs.declared.stmt.Stmt.TheVariants as stmt
use Rattle.hc_term.specs.declared.stmt.Stmt.TheViews as seen
use Rattle.hc_term.specs.declared.stmt.Branch.{Branch, out-Branch}
use Rattle.hc_term.specs.Profile.{nodes, nodes_in, ios_in}
use Rattle.hc_term.specs.Rules.{statements, size, sent_nodes}
use Rattle.hc_term.proofs.Sizes.{all_statements, branch_statements, all_sizes, branch_sizes, rate_sizes, statements-If, statements-Pick, statements-Forever, statements-Loop, statements-Choice, statements-Evolve, size-If, size-Pick, size-Forever, size-Loop, size-Choice, size-Evolve}
use Rattle.hc_code.specs.Measure.{further, measure_of, measure_all, sent_in, rated_in}
use Rattle.hc_code.specs.Pieces.{bodies}

abbrev pub all_further : List Stmt → ℕ
all_further ss = sum_by further ss

abbrev pub branch_further : List Branch → ℕ
branch_further bs = sum_by (λ b. 1 + sum_by further (out-Branch b).body) bs

abbrev pub measure_bodies : List (List Stmt) → ℕ
measure_bodies sss = sum_by measure_all sss

-- ---- statements without parts

pub skip_measure : measure_of stmt.Skip ≡ 1
skip_measure = search (rules, the_lemmas)

pub assign_measure : (x : ℕ) (e : Expr) → measure_of (stmt.Assign x e) ≡ 1 + nodes e + 0
assign_measure x e = search (rules, the_lemmas)

pub wait_measure : (e : Expr) → measure_of (stmt.Wait e) ≡ 1 + nodes e + 0
wait_measure e = search (rules, the_lemmas)

pub log_measure : (e : Expr) → measure_of (stmt.Log e) ≡ 1 + nodes e + 0
log_measure e = search (rules, the_lemmas)

pub io_measure : (io : Io) → measure_of (stmt.Io io) ≡ 1 + sent_nodes io + 0
io_measure io = search (rules, the_lemmas)

-- ---- those with parts

further-If : (s : Stmt) (c : Cond) (ss rs : List Stmt) → s ≡ seen.If c ss rs → further s ≡ all_further ss + all_further rs
further-If s c ss rs e = search (rules, the_lemmas, sum-map)

further-Pick : (s : Stmt) (ss rs : List Stmt) → s ≡ seen.Pick ss rs → further s ≡ all_further ss + all_further rs
further-Pick s ss rs e = search (rules, the_lemmas, sum-map)

further-Forever : (s : Stmt) (ss : List Stmt) → s ≡ seen.Forever ss → further s ≡ all_further ss
further-Forever s ss e = search (rules, the_lemmas, sum-map)

further-Loop : (s : Stmt) (c : Cond) (ss : List Stmt) → s ≡ seen.Loop c ss → further s ≡ all_further ss
further-Loop s c ss e = search (rules, the_lemmas, sum-map)

further-Choice : (s : Stmt) (bs : List Branch) → s ≡ seen.Choice bs → further s ≡ branch_further bs
further-Choice s bs e = search (rules, the_lemmas, sum-map)

further-Evolve : (s : Stmt) (rs : List Rate) (c : Cond) (bs : List Branch) → s ≡ seen.Evolve rs c bs → further s ≡ length rs + branch_further bs
further-Evolve s rs c bs e = search (rules, the_lemmas, sum-map)

measures : (ss : List Stmt) → measure_all ss ≡ all_statements ss + all_sizes ss + all_further ss
measures [] = refl
measures (s ∷ ss) =
    let rest = measures ss in
    omega (arith, rest, sum_by-cons measure_of s ss, sum_by-cons statements s ss, sum_by-cons size s ss, sum_by-cons further s ss)

-- a branch counts one beside its statements
branches : (bs : List Branch) →
    measure_bodies (bodies bs) + length bs + sent_in (ios_in bs) ≡ branch_statements bs + branch_sizes bs + branch_further bs
branches [] = refl
branches (b ∷ bs) =
    let rest = branches bs in
    let own = measures (out-Branch b).body in
    let first : measure_bodies (bodies (b ∷ bs)) ≡ measure_all (out-Branch b).body + measure_bodies (bodies bs) = sum_by-cons measure_all (out-Branch b).body (bodies bs) in
    let sent : sent_in (ios_in (b ∷ bs)) ≡ sent_nodes (out-Branch b).io + sent_in (ios_in bs) = sum_by-cons sent_nodes (out-Branch b).io (ios_in bs) in
    let counted : branch_statements (b ∷ bs) ≡ all_statements (out-Branch b).body + branch_statements bs = sum_by-cons (λ d. sum_by statements (out-Branch d).body) b bs in
    let sized : branch_sizes (b ∷ bs) ≡ sent_nodes (out-Branch b).io + all_sizes (out-Branch b).body + branch_sizes bs =
    sum_by-cons (λ d. sent_nodes (out-Branch d).io + sum_by size (out-Branch d).body) b bs in
    let more : branch_further (b ∷ bs) ≡ 1 + all_further (out-Branch b).body + branch_further bs = sum_by-cons (λ d. 1 + sum_by further (out-Branch d).body) b bs in
    omega (arith, rest, own, first, sent, counted, sized, more)

two_bodies : (ss rs : List Stmt) → measure_bodies (ss ∷ rs ∷ []) ≡ measure_all ss + measure_all rs
two_bodies ss rs = let a = sum_by-cons measure_all ss (rs ∷ []) in let b = sum_by-cons measure_all rs [] in omega (arith, a, b)

one_body : (ss : List Stmt) → measure_bodies (ss ∷ []) ≡ measure_all ss
one_body ss = let a = sum_by-cons measure_all ss [] in omega (arith, a)

pub if_measure : (c : Cond) (ss rs : List Stmt) → (1 + nodes_in c) + measure_bodies (ss ∷ rs ∷ []) ≤ measure_of (seen.If c ss rs)
if_measure c ss rs =
    omega (arith, two_bodies ss rs, measures ss, measures rs, statements-If _ c ss rs refl, size-If _ c ss rs refl, further-If _ c ss rs refl)

pub pick_measure : (ss rs : List Stmt) → 1 + measure_bodies (ss ∷ rs ∷ []) ≤ measure_of (seen.Pick ss rs)
pick_measure ss rs =
    omega (arith, two_bodies ss rs, measures ss, measures rs, statements-Pick _ ss rs refl, size-Pick _ ss rs refl, further-Pick _ ss rs refl)

pub forever_measure : (ss : List Stmt) → 1 + measure_bodies (ss ∷ []) ≤ measure_of (seen.Forever ss)
forever_measure ss = omega (arith, one_body ss, measures ss, statements-Forever _ ss refl, size-Forever _ ss refl, further-Forever _ ss refl)

pub loop_measure : (c : Cond) (ss : List Stmt) → (1 + nodes_in c) + measure_bodies (ss ∷ []) ≤ measure_of (seen.Loop c ss)
loop_measure c ss = omega (arith, one_body ss, measures ss, statements-Loop _ c ss refl, size-Loop _ c ss refl, further-Loop _ c ss refl)

pub choice_measure : (bs : List Branch) →
    (1 + (length bs - 1) + sent_in (ios_in bs)) + measure_bodies (bodies bs) ≤ measure_of (seen.Choice bs)
choice_measure bs = omega (arith, branches bs, statements-Choice _ bs refl, size-Choice _ bs refl, further-Choice _ bs refl)

pub evolve_measure : (rs : List Rate) (c : Cond) (bs : List Branch) →
    (1 + length rs + length bs + rated_in rs + nodes_in c + sent_in (ios_in bs)) + measure_bodies (bodies bs) ≤ measure_of (seen.Evolve rs c bs)
evolve_measure rs c bs = omega (arith, branches bs, statements-Evolve _ rs c bs refl, size-Evolve _ rs c bs refl, further-Evolve _ rs c bs refl)
