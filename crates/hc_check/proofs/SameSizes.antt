-- Numbering changes no number of statements and no number of nodes.
use Rattle.std.proofs.Common.{rules, arith, ◌≡◌, refl, ap, sym, ◌∙◌, ℕ, ◌+◌, List, [], ◌∷◌, ◌++◌, map, flat_map, sum_by, Option, Some, None}
use Rattle.std.proofs.lemmas.List.Sums.{sum_by-cons, sum_by-append}
use Rattle.std.proofs.lemmas.List.Folds.{flat_map-map}
use Rattle.hc_ast.specs.Bare.{Word}
use Rattle.hc_ast.specs.declared.expr.ExprTree.{ExprTree}
use Rattle.hc_ast.specs.declared.expr.CondTree.{CondTree}
use Rattle.hc_ast.specs.declared.stmt.IoTree.{IoTree}
use Rattle.hc_ast.specs.declared.stmt.IoTree.TheVariants as io_of
use Rattle.hc_ast.specs.declared.stmt.RateTree.{RateTree}
use Rattle.hc_ast.specs.declared.stmt.StmtTree.{StmtTree}
use Rattle.hc_ast.specs.declared.stmt.BranchTree.{BranchTree, out-BranchTree}
use Rattle.hc_ast.specs.declared.stmt.StmtKind.{the_lemmas}
use Rattle.hc_ast.specs.declared.stmt.StmtKind.TheVariants as plain
use Rattle.hc_ast.specs.declared.stmt.StmtKind.TheViews as seen
use Rattle.hc_term.specs.declared.stmt.Io.{Io}
use Rattle.hc_term.specs.declared.stmt.Stmt.{Stmt, the_lemmas as stmt_lemmas}
use Rattle.hc_term.specs.declared.stmt.Stmt.TheVariants as a
use Rattle.hc_term.specs.declared.stmt.Branch.{Branch, out-Branch}
use Rattle.hc_term.specs.declared.expr.Expr.{Expr}
use Rattle.hc_term.specs.Rules.{statements, size, sent_nodes, body_statements, body_size}
use Rattle.hc_term.specs.Profile as numbered
use Rattle.hc_term.proofs.Sizes as forms
use Rattle.hc_modules.specs.declared.flat.FlatProcess.{FlatProcess}
use Rattle.hc_modules.specs.Sizes.{nodes, cond_nodes}
use Rattle.hc_modules.specs.Sizes as written
use Rattle.hc_modules.specs.Outermost.{Outermost, of_expr, of_cond, of_io, outermost, branch_outermost, all_outermost, total_size, outermost_layer, outermost_branch}
use Rattle.hc_modules.proofs.Rows.{both_rows}
use Rattle.hc_modules.proofs.Folds.{fold-choose}
use Rattle.hc_modules.proofs.Induction.{Each, EachElse, EachBehind, Steps, by_induction}
use Rattle.hc_finds.specs.Limits.{variables_of}
use Rattle.hc_finds.specs.Names.{number_in}
use Rattle.hc_check.specs.Numbered.{expr_over, cond_over, rate_over, io_over, stmt_over, branch_over, process_over}
use Rattle.hc_check.proofs.OverForms.{else_over, over-Skip, over-Assign, over-Wait, over-Io, over-Log, over-If, over-Pick, over-Forever, over-Loop, over-Choice, over-Evolve, io-over-branch, body-over-branch}
use Rattle.hc_check.proofs.NumberedSizes.{nodes_same, cond_nodes_same}
use Rattle.hc_check.proofs.SameStatements as counts

-- the nodes of a row of statements, of an else part, of branches, of rates
abbrev row_size : List StmtTree → ℕ
row_size ss = total_size (flat_map outermost ss)

abbrev else_size : Option (List StmtTree) → ℕ
else_size None = 0
else_size (Some ss) = row_size ss

abbrev branch_size : List BranchTree → ℕ
branch_size bs = total_size (flat_map branch_outermost bs)

abbrev rate_size : List RateTree → ℕ
rate_size rs = total_size (map (λ r. of_expr r.value) rs)

both : (os ps : List Outermost) → total_size (os ++ ps) ≡ total_size os + total_size ps
both os ps = sum_by-append (λ x. x.size) os ps

one_and : (o : Outermost) (os : List Outermost) → total_size (o ∷ os) ≡ o.size + total_size os
one_and o os = sum_by-cons (λ x. x.size) o os

alone : (o : Outermost) → total_size (o ∷ []) ≡ o.size
alone o = one_and o [] ∙ omega arith

-- ---- the outermost expressions of each form

module _ (s : StmtTree) where
  size-If : (c : CondTree) (ss : List StmtTree) (no : Option (List StmtTree)) → s.kind ≡ seen.If c ss no
      → total_size (outermost s) ≡ cond_nodes c + row_size ss + else_size no
  size-If c ss None e =
      let h : outermost s ≡ of_cond c ∷ (flat_map outermost ss ++ []) = search (rules, the_lemmas, flat_map-map) in
      ap total_size h ∙ one_and (of_cond c) (flat_map outermost ss ++ []) ∙ ap (λ n. cond_nodes c + n) (both (flat_map outermost ss) []) ∙ omega arith
  size-If c ss (Some rs) e =
      ap total_size (fold-choose (List Outermost) (List Outermost) (List Outermost) outermost_layer outermost_branch (λ t. t.kind) s c ss rs e
      ∙ ap (λ os. of_cond c ∷ os) (both_rows outermost ss rs))
      ∙ one_and (of_cond c) (flat_map outermost ss ++ flat_map outermost rs)
      ∙ ap (λ n. cond_nodes c + n) (both (flat_map outermost ss) (flat_map outermost rs)) ∙ omega arith

  size-Pick : (ss rs : List StmtTree) → s.kind ≡ seen.Pick ss rs → total_size (outermost s) ≡ row_size ss + row_size rs
  size-Pick ss rs e =
      let h : outermost s ≡ flat_map outermost ss ++ flat_map outermost rs = search (rules, the_lemmas, flat_map-map) in
      ap total_size h ∙ both (flat_map outermost ss) (flat_map outermost rs)

  size-Forever : (ss : List StmtTree) → s.kind ≡ seen.Forever ss → total_size (outermost s) ≡ row_size ss
  size-Forever ss e = let h : outermost s ≡ flat_map outermost ss = search (rules, the_lemmas, flat_map-map) in ap total_size h

  size-Loop : (c : CondTree) (ss : List StmtTree) → s.kind ≡ seen.Loop c ss → total_size (outermost s) ≡ row_size ss + cond_nodes c
  size-Loop c ss e =
      let h : outermost s ≡ flat_map outermost ss ++ of_cond c ∷ [] = search (rules, the_lemmas, flat_map-map) in
      ap total_size h ∙ both (flat_map outermost ss) (of_cond c ∷ []) ∙ ap (λ n. row_size ss + n) (alone (of_cond c))

  size-Choice : (bs : List BranchTree) → s.kind ≡ seen.Choice bs → total_size (outermost s) ≡ branch_size bs
  size-Choice bs e = let h : outermost s ≡ flat_map branch_outermost bs = search (rules, the_lemmas, flat_map-map) in ap total_size h

  size-Evolve : (rs : List RateTree) (c : CondTree) (bs : List BranchTree) → s.kind ≡ seen.Evolve rs c bs
      → total_size (outermost s) ≡ rate_size rs + cond_nodes c + branch_size bs
  size-Evolve rs c bs e =
      let h : outermost s ≡ map (λ r. of_expr r.value) rs ++ of_cond c ∷ flat_map branch_outermost bs = search (rules, the_lemmas, flat_map-map) in
      ap total_size h ∙ both (map (λ r. of_expr r.value) rs) (of_cond c ∷ flat_map branch_outermost bs)
      ∙ ap (λ n. rate_size rs + n) (one_and (of_cond c) (flat_map branch_outermost bs)) ∙ omega arith

  size-Assign : (x : Word) (v : ExprTree) → s.kind ≡ plain.Assign x v → total_size (outermost s) ≡ nodes v
  size-Assign x v e = let h : outermost s ≡ of_expr v ∷ [] = search (rules, the_lemmas) in ap total_size h ∙ alone (of_expr v)

  size-Wait : (v : ExprTree) → s.kind ≡ plain.Wait v → total_size (outermost s) ≡ nodes v
  size-Wait v e = let h : outermost s ≡ of_expr v ∷ [] = search (rules, the_lemmas) in ap total_size h ∙ alone (of_expr v)

  size-Log : (v : ExprTree) → s.kind ≡ plain.Log v → total_size (outermost s) ≡ nodes v
  size-Log v e = let h : outermost s ≡ of_expr v ∷ [] = search (rules, the_lemmas) in ap total_size h ∙ alone (of_expr v)

  size-Io : (i : IoTree) → s.kind ≡ plain.Io i → total_size (outermost s) ≡ total_size (of_io i)
  size-Io i e = let h : outermost s ≡ of_io i = search (rules, the_lemmas) in ap total_size h

size-branch : (b : BranchTree) → total_size (branch_outermost b) ≡ total_size (of_io (out-BranchTree b).io) + row_size (out-BranchTree b).body
size-branch b =
    let h : branch_outermost b ≡ of_io (out-BranchTree b).io ++ flat_map outermost (out-BranchTree b).body = search (rules, the_lemmas, flat_map-map) in
    ap total_size h ∙ both (of_io (out-BranchTree b).io) (flat_map outermost (out-BranchTree b).body)

-- ---- numbered

assign_size : (x : ℕ) (v : Expr) (t : Stmt) → t ≡ a.Assign x v → size t ≡ numbered.nodes v
assign_size x v t e = search (rules, stmt_lemmas)

wait_size : (v : Expr) (t : Stmt) → t ≡ a.Wait v → size t ≡ numbered.nodes v
wait_size v t e = search (rules, stmt_lemmas)

log_size : (v : Expr) (t : Stmt) → t ≡ a.Log v → size t ≡ numbered.nodes v
log_size v t e = search (rules, stmt_lemmas)

io_size : (i : Io) (t : Stmt) → t ≡ a.Io i → size t ≡ sent_nodes i
io_size i t e = search (rules, stmt_lemmas)

-- sums agree with the outermost expressions in a row where each pair does
sizes_agree : {X Y : Type 0} (f : X → Y) (g : Y → ℕ) (h : X → List Outermost) (xs : List X) → Each (λ x. g (f x) ≡ total_size (h x)) xs
    → sum_by g (map f xs) ≡ total_size (flat_map h xs)
sizes_agree f g h [] es = refl
sizes_agree f g h (x ∷ xs) es =
    sum_by-cons g (f x) (map f xs) ∙ ap (λ n. n + sum_by g (map f xs)) es.0
    ∙ ap (λ n. total_size (h x) + n) (sizes_agree f g h xs es.1) ∙ sym (both (h x) (flat_map h xs))

module _ (cs xs : List Word) where
  sent_same : (i : IoTree) → sent_nodes (io_over cs xs i) ≡ total_size (of_io i)
  sent_same (io_of.Send c v) = nodes_same xs v ∙ sym (alone (of_expr v))
  sent_same (io_of.Receive c x) = refl

  rates_same : (rs : List RateTree) → forms.rate_sizes (map (rate_over xs) rs) ≡ rate_size rs
  rates_same [] = refl
  rates_same (r ∷ rs) =
      sum_by-cons (λ q. numbered.nodes q.value) (rate_over xs r) (map (rate_over xs) rs)
      ∙ ap (λ n. n + forms.rate_sizes (map (rate_over xs) rs)) (nodes_same xs r.value)
      ∙ ap (λ n. nodes r.value + n) (rates_same rs) ∙ sym (one_and (of_expr r.value) (map (λ q. of_expr q.value) rs))

  abbrev IsSame : StmtTree → Type 0
  IsSame s = size (stmt_over cs xs s) ≡ total_size (outermost s)

  row_same : (ss : List StmtTree) → Each IsSame ss → forms.all_sizes (map (stmt_over cs xs) ss) ≡ row_size ss
  row_same ss es = sizes_agree (stmt_over cs xs) size outermost ss es

  else_same : (no : Option (List StmtTree)) → EachElse IsSame no → forms.all_sizes (else_over cs xs no) ≡ else_size no
  else_same None es = refl
  else_same (Some ss) es = row_same ss es

  abbrev branch_over_size : Branch → ℕ
  branch_over_size b = sent_nodes (out-Branch b).io + sum_by size (out-Branch b).body

  behind_same : (bs : List BranchTree) → Each (EachBehind IsSame) bs
      → Each (λ b. branch_over_size (branch_over cs xs b) ≡ total_size (branch_outermost b)) bs
  behind_same [] es = tt
  behind_same (b ∷ bs) es = (
    ap (λ i. sent_nodes i + sum_by size (out-Branch (branch_over cs xs b)).body) (io-over-branch cs xs b)
        ∙ ap (λ ss. sent_nodes (io_over cs xs (out-BranchTree b).io) + sum_by size ss) (body-over-branch cs xs b)
        ∙ ap (λ n. n + sum_by size (map (stmt_over cs xs) (out-BranchTree b).body)) (sent_same (out-BranchTree b).io)
        ∙ ap (λ n. total_size (of_io (out-BranchTree b).io) + n) (row_same (out-BranchTree b).body es.0)
        ∙ sym (size-branch b),
    behind_same bs es.1,
  )

  branches_same : (bs : List BranchTree) → Each (EachBehind IsSame) bs → forms.branch_sizes (map (branch_over cs xs) bs) ≡ branch_size bs
  branches_same bs es = sizes_agree (branch_over cs xs) branch_over_size branch_outermost bs (behind_same bs es)

  same_steps : Steps IsSame
  same_steps = record {
    skip = λ s e. let o = over-Skip cs xs s e in search (rules, the_lemmas, stmt_lemmas);
    assign = λ s x v e. assign_size (number_in xs x) (expr_over xs v) (stmt_over cs xs s) (over-Assign cs xs s x v e) ∙ nodes_same xs v ∙ sym (size-Assign s x v e);
    wait = λ s v e. wait_size (expr_over xs v) (stmt_over cs xs s) (over-Wait cs xs s v e) ∙ nodes_same xs v ∙ sym (size-Wait s v e);
    io = λ s i e. io_size (io_over cs xs i) (stmt_over cs xs s) (over-Io cs xs s i e) ∙ sent_same i ∙ sym (size-Io s i e);
    log = λ s v e. log_size (expr_over xs v) (stmt_over cs xs s) (over-Log cs xs s v e) ∙ nodes_same xs v ∙ sym (size-Log s v e);
    when = λ s c ss no e f g.
        let h = forms.size-If _ (cond_over xs c) (map (stmt_over cs xs) ss) (else_over cs xs no) (over-If cs xs s c ss no e) in
        omega (arith, h, size-If s c ss no e, cond_nodes_same xs c, row_same ss f, else_same no g);
    pick = λ s ss rs e f g.
        let h = forms.size-Pick _ (map (stmt_over cs xs) ss) (map (stmt_over cs xs) rs) (over-Pick cs xs s ss rs e) in
        omega (arith, h, size-Pick s ss rs e, row_same ss f, row_same rs g);
    forever = λ s ss e f.
        let h = forms.size-Forever _ (map (stmt_over cs xs) ss) (over-Forever cs xs s ss e) in
        omega (arith, h, size-Forever s ss e, row_same ss f);
    loop = λ s c ss e f.
        let h = forms.size-Loop _ (cond_over xs c) (map (stmt_over cs xs) ss) (over-Loop cs xs s c ss e) in
        omega (arith, h, size-Loop s c ss e, cond_nodes_same xs c, row_same ss f);
    choice = λ s bs e f.
        let h = forms.size-Choice _ (map (branch_over cs xs) bs) (over-Choice cs xs s bs e) in
        omega (arith, h, size-Choice s bs e, branches_same bs f);
    evolve = λ s rs c bs e f.
        let h = forms.size-Evolve _ (map (rate_over xs) rs) (cond_over xs c) (map (branch_over cs xs) bs) (over-Evolve cs xs s rs c bs e) in
        omega (arith, h, size-Evolve s rs c bs e, rates_same rs, cond_nodes_same xs c, branches_same bs f);
  }

  pub sizes_same : (s : StmtTree) → size (stmt_over cs xs s) ≡ total_size (outermost s)
  sizes_same = by_induction IsSame same_steps

-- of one statement, and of all processes
pub statements_same : (cs xs : List Word) (s : StmtTree) → statements (stmt_over cs xs s) ≡ written.statements s
statements_same = counts.statements_same

pub all_statements_same : (cs : List Word) (ps : List FlatProcess) → sum_by body_statements (map (process_over cs) ps) ≡ written.all_statements ps
all_statements_same = counts.all_statements_same

pub all_sizes_same : (cs : List Word) (ps : List FlatProcess) → sum_by body_size (map (process_over cs) ps) ≡ total_size (all_outermost ps)
all_sizes_same cs ps =
    sizes_agree (process_over cs) body_size (λ p. flat_map outermost p.body) ps
    (counts.each_of (λ p. body_size (process_over cs p) ≡ total_size (flat_map outermost p.body)) process_same ps)
  where
    process_same : (p : FlatProcess) → body_size (process_over cs p) ≡ total_size (flat_map outermost p.body)
    process_same p =
        sizes_agree (stmt_over cs (variables_of p)) size outermost p.body
        (counts.each_of (λ s. size (stmt_over cs (variables_of p) s) ≡ total_size (outermost s)) (sizes_same cs (variables_of p)) p.body)
