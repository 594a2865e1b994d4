-- The number of statements, and of nodes, one equation for each form of a statement.
use Rattle.std.proofs.Common.{rules, ◌≡◌, ℕ, ◌+◌, List, sum_by}
use Rattle.std.proofs.lemmas.List.Sums.{sum-map}
use Rattle.hc_term.specs.declared.expr.Cond.{Cond}
use Rattle.hc_term.specs.declared.stmt.Rate.{Rate}
use Rattle.hc_term.specs.declared.stmt.Stmt.{Stmt, the_lemmas}
use Rattle.hc_term.specs.declared.stmt.Stmt.TheViews as seen
use Rattle.hc_term.specs.declared.stmt.Branch.{Branch, out-Branch}
use Rattle.hc_term.specs.Profile.{nodes, nodes_in}
use Rattle.hc_term.specs.Rules.{statements, size, sent_nodes}

abbrev pub all_statements : List Stmt → ℕ
all_statements ss = sum_by statements ss

abbrev pub branch_statements : List Branch → ℕ
branch_statements bs = sum_by (λ b. sum_by statements (out-Branch b).body) bs

pub statements-If : (s : Stmt) (c : Cond) (ss rs : List Stmt) → s ≡ seen.If c ss rs → statements s ≡ 1 + all_statements ss + all_statements rs
statements-If s c ss rs e = search (rules, the_lemmas, sum-map)

pub statements-Pick : (s : Stmt) (ss rs : List Stmt) → s ≡ seen.Pick ss rs → statements s ≡ 1 + all_statements ss + all_statements rs
statements-Pick s ss rs e = search (rules, the_lemmas, sum-map)

pub statements-Forever : (s : Stmt) (ss : List Stmt) → s ≡ seen.Forever ss → statements s ≡ 1 + all_statements ss
statements-Forever s ss e = search (rules, the_lemmas, sum-map)

pub statements-Loop : (s : Stmt) (c : Cond) (ss : List Stmt) → s ≡ seen.Loop c ss → statements s ≡ 1 + all_statements ss
statements-Loop s c ss e = search (rules, the_lemmas, sum-map)

pub statements-Choice : (s : Stmt) (bs : List Branch) → s ≡ seen.Choice bs → statements s ≡ 1 + branch_statements bs
statements-Choice s bs e = search (rules, the_lemmas, sum-map)

pub statements-Evolve : (s : Stmt) (rs : List Rate) (c : Cond) (bs : List Branch) → s ≡ seen.Evolve rs c bs → statements s ≡ 1 + branch_statements bs
statements-Evolve s rs c bs e = search (rules, the_lemmas, sum-map)

abbrev pub all_sizes : List Stmt → ℕ
all_sizes ss = sum_by size ss

abbrev pub branch_sizes : List Branch → ℕ
branch_sizes bs = sum_by (λ b. sent_nodes (out-Branch b).io + sum_by size (out-Branch b).body) bs

abbrev pub rate_sizes : List Rate → ℕ
rate_sizes rs = sum_by (λ r. nodes r.value) rs

pub size-If : (s : Stmt) (c : Cond) (ss rs : List Stmt) → s ≡ seen.If c ss rs → size s ≡ nodes_in c + all_sizes ss + all_sizes rs
size-If s c ss rs e = search (rules, the_lemmas, sum-map)

pub size-Pick : (s : Stmt) (ss rs : List Stmt) → s ≡ seen.Pick ss rs → size s ≡ all_sizes ss + all_sizes rs
size-Pick s ss rs e = search (rules, the_lemmas, sum-map)

pub size-Loop : (s : Stmt) (c : Cond) (ss : List Stmt) → s ≡ seen.Loop c ss → size s ≡ nodes_in c + all_sizes ss
size-Loop s c ss e = search (rules, the_lemmas, sum-map)

pub size-Evolve : (s : Stmt) (rs : List Rate) (c : Cond) (bs : List Branch) → s ≡ seen.Evolve rs c bs →
    size s ≡ rate_sizes rs + nodes_in c + branch_sizes bs
size-Evolve s rs c bs e = search (rules, the_lemmas, sum-map)

pub size-Forever : (s : Stmt) (ss : List Stmt) → s ≡ seen.Forever ss → size s ≡ all_sizes ss
size-Forever s ss e = search (rules, the_lemmas, sum-map)

pub size-Choice : (s : Stmt) (bs : List Branch) → s ≡ seen.Choice bs → size s ≡ branch_sizes bs
size-Choice s bs e = search (rules, the_lemmas, sum-map)
