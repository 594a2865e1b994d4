-- What is built along a text is its tree: statements.
use Rattle.std.proofs.Common.{◌≡◌, refl, ap, sym, ◌∙◌, List, [], ◌∷◌, ◌++◌, append_assoc}
use Rattle.std.proofs.lemmas.List.{append-nil}
use Rattle.hc_grammar.specs.Texts.{Read, Did}
use Rattle.hc_token.specs.declared.fixed.Fixed.TheVariants as fix
use Rattle.hc_ast.specs.declared.role.Role.TheVariants as r
use Rattle.hc_ast.specs.declared.role.Mark.TheVariants as m
use Rattle.hc_ast.specs.declared.stmt.StmtTree.{StmtTree}
use Rattle.hc_ast.specs.declared.stmt.RateTree.{RateTree}
use Rattle.hc_ast.specs.declared.stmt.BranchTree.{BranchTree}
use Rattle.hc_ast.specs.Leaves.{Spelled}
use Rattle.hc_ast.specs.Exprs as ex
use Rattle.hc_ast.specs.Conds as co
use Rattle.hc_ast.specs.Stmts as st
use Rattle.hc_ast.specs.StmtRoles as spell
use Rattle.hc_ast.specs.StmtTrees as tree
use Rattle.hc_parse.specs.declared.values.Values.{Values}
use Rattle.hc_parse.specs.Builder.{push_cond, push_fixed, push_name, push_io, push_body, push_choice, push_rates}
use Rattle.hc_parse.proofs.Built.{W, kept_fixed, kept_name, kept_rate, built_expr, built_cond}

built_io : (i : st.Io) (w : Spelled) (v : Values) → W (spell.io i w) v ≡ W w (push_io (tree.io_place i) (tree.io_tree i) v)
built_io (st.send x s e) w v =
    kept_name x (ex.expr e (Did m.Send ∷ w)) v ∙ built_expr e (Did m.Send ∷ w) (push_name x.0.place x.1 v)
built_io (st.receive x s y) w v =
    kept_name x (Read y.0 r.Keep ∷ Did m.Receive ∷ w) v ∙ kept_name y (Did m.Receive ∷ w) (push_name x.0.place x.1 v)

built_rate : (x : st.Rate) (xs : List RateTree) (w : Spelled) (v : Values)
    → W (spell.rate x w) (push_rates xs v) ≡ W w (push_rates (xs ++ tree.rate_tree x ∷ []) v)
built_rate (st.rate x s e) xs w v =
    kept_rate x (ex.expr e (Did m.Rate ∷ w)) (push_rates xs v)
    ∙ built_expr e (Did m.Rate ∷ w) (push_name x.0.place x.1 (push_rates xs v))

-- one more in front of the others
pub one_more : {X : Type 0} (xs : List X) (y : X) (ys : List X) → (xs ++ y ∷ []) ++ ys ≡ xs ++ y ∷ ys
one_more xs y ys = append_assoc xs (y ∷ []) ys

built_rates : (rs : st.Rates) (xs : List RateTree) (w : Spelled) (v : Values)
    → W (spell.rates rs w) (push_rates xs v) ≡ W w (push_rates (xs ++ tree.rates_tree rs) v)
built_rates st.no_rate xs w v = ap (λ ys. W w (push_rates ys v)) (sym (append-nil xs))
built_rates (st.next_rate t x rs) xs w v =
    built_rate x xs (spell.rates rs w) v ∙ built_rates rs (xs ++ tree.rate_tree x ∷ []) w v
    ∙ ap (λ ys. W w (push_rates ys v)) (one_more xs (tree.rate_tree x) (tree.rates_tree rs))

mutual
  pub built_seq : (x : st.Seq) (w : Spelled) (v : Values) → W (spell.seq x w) v ≡ W w (push_body (tree.seq_tree x) v)
  built_seq (st.seq x xs) w v = built_stmt x [] (spell.more xs w) v ∙ built_more xs (tree.stmt_tree x ∷ []) w v

  built_more : (ss : st.More) (xs : List StmtTree) (w : Spelled) (v : Values)
      → W (spell.more ss w) (push_body xs v) ≡ W w (push_body (xs ++ tree.more_tree ss) v)
  built_more st.no_more xs w v = ap (λ ys. W w (push_body ys v)) (sym (append-nil xs))
  built_more (st.next t x ss) xs w v =
      built_stmt x xs (spell.more ss w) v ∙ built_more ss (xs ++ tree.stmt_tree x ∷ []) w v
      ∙ ap (λ ys. W w (push_body ys v)) (one_more xs (tree.stmt_tree x) (tree.more_tree ss))

  built_stmt : (x : st.Stmt) (xs : List StmtTree) (w : Spelled) (v : Values)
      → W (spell.stmt x w) (push_body xs v) ≡ W w (push_body (xs ++ tree.stmt_tree x ∷ []) v)
  built_stmt (st.skip t) xs w v = kept_fixed fix.Skip t (Did m.Skip ∷ w) (push_body xs v)
  built_stmt (st.assign x s e) xs w v =
      kept_name x (ex.expr e (Did m.Assign ∷ w)) (push_body xs v)
      ∙ built_expr e (Did m.Assign ∷ w) (push_name x.0.place x.1 (push_body xs v))
  built_stmt (st.wait t a e b) xs w v =
      let end = Read b.0 r.Plain ∷ Did m.Wait ∷ w in
      kept_fixed fix.Wait t (ex.expr e end) (push_body xs v) ∙ built_expr e end (push_fixed t.0.place fix.Wait (push_body xs v))
  built_stmt (st.log t a e b) xs w v =
      let end = Read b.0 r.Plain ∷ Did m.Log ∷ w in
      kept_fixed fix.Log t (ex.expr e end) (push_body xs v) ∙ built_expr e end (push_fixed t.0.place fix.Log (push_body xs v))
  built_stmt (st.communicate i) xs w v = built_io i (Did m.Io ∷ w) (push_body xs v)
  built_stmt (st.when t c u x b) xs w v =
      let v1 = push_fixed t.0.place fix.If (push_body xs v) in
      let body = Read u.0 r.Plain ∷ spell.seq x (Read b.0 r.Close ∷ Did m.If ∷ w) in
      kept_fixed fix.If t (co.cond c body) (push_body xs v)
      ∙ built_cond c body v1
      ∙ built_seq x (Read b.0 r.Close ∷ Did m.If ∷ w) (push_cond (co.cond_tree c) v1)
  built_stmt (st.choose t c u x l y b) xs w v =
      let v1 = push_fixed t.0.place fix.If (push_body xs v) in
      let end = Read b.0 r.Close ∷ Did m.Else ∷ w in
      let body = Read u.0 r.Plain ∷ spell.seq x (Read l.0 r.Plain ∷ spell.seq y end) in
      kept_fixed fix.If t (co.cond c body) (push_body xs v)
      ∙ built_cond c body v1
      ∙ built_seq x (Read l.0 r.Plain ∷ spell.seq y end) (push_cond (co.cond_tree c) v1)
      ∙ built_seq y end (push_body (tree.seq_tree x) (push_cond (co.cond_tree c) v1))
  built_stmt (st.pick a x b t u y z) xs w v =
      let v1 = push_fixed a.0.place fix.OpenRound (push_body xs v) in
      let end = Read z.0 r.Close ∷ Did m.Pick ∷ w in
      let behind = Read b.0 r.Close ∷ Read t.0 r.Plain ∷ Read u.0 r.Open ∷ spell.seq y end in
      kept_fixed fix.OpenRound a (spell.seq x behind) (push_body xs v)
      ∙ built_seq x behind v1
      ∙ built_seq y end (push_body (tree.seq_tree x) v1)
  built_stmt (st.forever a x b t) xs w v =
      let behind = Read b.0 r.Close ∷ Read t.0 r.Plain ∷ Did m.Forever ∷ w in
      kept_fixed fix.OpenRound a (spell.seq x behind) (push_body xs v)
      ∙ built_seq x behind (push_fixed a.0.place fix.OpenRound (push_body xs v))
  built_stmt (st.loop a x b u c z t) xs w v =
      let v1 = push_fixed a.0.place fix.OpenRound (push_body xs v) in
      let end = Read z.0 r.Close ∷ Read t.0 r.Plain ∷ Did m.Loop ∷ w in
      let behind = Read b.0 r.Close ∷ Read u.0 r.Open ∷ Did m.Fresh ∷ co.cond c end in
      kept_fixed fix.OpenRound a (spell.seq x behind) (push_body xs v)
      ∙ built_seq x behind v1
      ∙ built_cond c end (push_body (tree.seq_tree x) v1)
  built_stmt (st.select (st.choice t a x bs b)) xs w v =
      let v1 = push_fixed t.0.place fix.EmptySquare (push_body xs v) in
      let end = Read b.0 r.Close ∷ Did m.Choice ∷ w in
      kept_fixed fix.EmptySquare t (Did m.Branches ∷ spell.branch x (spell.branches bs end)) (push_body xs v)
      ∙ built_branch x [] (spell.branches bs end) v1 ∙ built_branches bs (tree.branch_tree x ∷ []) end v1
  built_stmt (st.evolve a x rs t c b i) xs w v =
      let v1 = push_fixed a.0.place fix.Less (push_body xs v) in
      let v2 = push_choice [] v1 in
      let rates = tree.rate_tree x ∷ tree.rates_tree rs in
      let end = Read b.0 r.Close ∷ spell.interrupt i (Did m.Evolve ∷ w) in
      let domain = Read t.0 r.Plain ∷ Did m.Fresh ∷ co.cond c end in
      kept_fixed fix.Less a (Did m.Rates ∷ spell.rate x (spell.rates rs domain)) (push_body xs v)
      ∙ built_rate x [] (spell.rates rs domain) v2
      ∙ built_rates rs (tree.rate_tree x ∷ []) domain v2
      ∙ built_cond c end (push_rates rates v2)
      ∙ built_interrupt i (Did m.Evolve ∷ w) (push_cond (co.cond_tree c) (push_rates rates v1))

  built_interrupt : (i : st.Interrupt) (w : Spelled) (v : Values)
      → W (spell.interrupt i w) (push_choice [] v) ≡ W w (push_choice (tree.interrupt_tree i) v)
  built_interrupt st.none w v = refl
  built_interrupt (st.on u (st.choice t a x bs b)) w v =
      built_branch x [] (spell.branches bs (Read b.0 r.Close ∷ w)) v
      ∙ built_branches bs (tree.branch_tree x ∷ []) (Read b.0 r.Close ∷ w) v

  built_branches : (bs : st.Branches) (xs : List BranchTree) (w : Spelled) (v : Values)
      → W (spell.branches bs w) (push_choice xs v) ≡ W w (push_choice (xs ++ tree.branches_tree bs) v)
  built_branches st.no_other xs w v = ap (λ ys. W w (push_choice ys v)) (sym (append-nil xs))
  built_branches (st.other t x bs) xs w v =
      built_branch x xs (spell.branches bs w) v ∙ built_branches bs (xs ++ tree.branch_tree x ∷ []) w v
      ∙ ap (λ ys. W w (push_choice ys v)) (one_more xs (tree.branch_tree x) (tree.branches_tree bs))

  built_branch : (x : st.Branch) (xs : List BranchTree) (w : Spelled) (v : Values)
      → W (spell.branch x w) (push_choice xs v) ≡ W w (push_choice (xs ++ tree.branch_tree x ∷ []) v)
  built_branch (st.branch i t x) xs w v =
      let v1 = push_choice xs v in
      built_io i (Read t.0 r.Plain ∷ spell.seq x (Did m.Branch ∷ w)) v1
      ∙ built_seq x (Did m.Branch ∷ w) (push_io (tree.io_place i) (tree.io_tree i) v1)
