-- What the phrases of a text within its limits keep: statements.
use Rattle.std.proofs.Common.{◌≤◌, ℕ, ◌+◌, ◌-◌, ◌∷◌, refl, arith}
use Rattle.hc_grammar.specs.Texts.{Read, Did}
use Rattle.hc_ast.specs.declared.role.Role.TheVariants as r
use Rattle.hc_ast.specs.declared.role.Mark.TheVariants as m
use Rattle.hc_ast.specs.Leaves.{Spelled}
use Rattle.hc_ast.specs.Exprs.{Expr, expr}
use Rattle.hc_ast.specs.Conds.{Cond, cond}
use Rattle.hc_ast.specs.Stmts as g
use Rattle.hc_ast.specs.StmtRoles.{io, rate, rates, seq, more, stmt, interrupt, branches}
use Rattle.hc_print.proofs.BareExprs.{expr_bare, cond_bare}
use Rattle.hc_print.proofs.BareStmts.{io_bare, rate_bare, rates_bare, seq_bare, more_bare, stmt_bare, interrupt_bare, branches_bare}
use Rattle.hc_print.proofs.KeptExprs.{expr_kept, cond_kept}
use Rattle.hc_print.proofs.OkStmts.{OkExpr, OkCond, OkIo, OkRate, OkRates, AreSome, OkStmt, OkStmts, OkBranches}
use Rattle.hc_print.proofs.Sound.{IsSound, sound_name, sound_rate}
use Rattle.hc_print.proofs.Walking.{Walks, walks_at}

-- the rest of a text, behind any number of nodes
abbrev pub Left : Spelled → ℕ → Type 0
Left v d = (n : ℕ) × Walks IsSound v d n

-- behind what closes an item
pub closed : (v : Spelled) (d n : ℕ) → Walks IsSound v (d + 1 - 1) n → Walks IsSound v d n
closed v d n w = walks_at IsSound v (d + 1 - 1) d n n (omega arith) refl w

pub expr_ok : (e : Expr) (v : Spelled) (d : ℕ) → d ≤ 64 → Walks IsSound (expr e v) d 0 → OkExpr (expr_bare e) d × Left v d
expr_ok e v d i w =
    let p = expr_kept e v d 0 i w in
    (record { good = p.good; deep = p.deep; few = omega (arith, p.few) }, (_, p.after))

cond_ok : (c : Cond) (v : Spelled) (d : ℕ) → d ≤ 64 → Walks IsSound (cond c v) d 0 → OkCond (cond_bare c) d × Left v d
cond_ok c v d i w =
    let p = cond_kept c v d 0 i w in
    (record { good = p.good; deep = p.deep; few = omega (arith, p.few) }, (_, p.after))

io_kept : (x : g.Io) (v : Spelled) (d n : ℕ) → d ≤ 64 → Walks IsSound (io x v) d n → OkIo (io_bare x) d × Left v d
io_kept (g.send x s e) v d n i (sx, _, (_, _, w)) =
    let p = expr_ok e (Did m.Send ∷ v) d i w in ((sound_name x sx, p.0), p.1)
io_kept (g.receive x s y) v d n i (sx, _, (_, _, (sy, _, w))) = ((sound_name x sx, sound_name y sy), (n, w))

rate_kept : (x : g.Rate) (v : Spelled) (d n : ℕ) → d ≤ 64 → Walks IsSound (rate x v) d n → OkRate (rate_bare x) d × Left v d
rate_kept (g.rate x s e) v d n i (sx, _, (_, _, w)) =
    let p = expr_ok e (Did m.Rate ∷ v) d i w in ((sound_rate x sx, p.0), p.1)

rates_kept : (xs : g.Rates) (v : Spelled) (d n : ℕ) → d ≤ 64 → Walks IsSound (rates xs v) d n
    → OkRates (rates_bare xs) d × Left v d
rates_kept g.no_rate v d n i w = (tt, (n, w))
rates_kept (g.next_rate t x xs) v d n i (_, _, w) =
    let p = rate_kept x (rates xs v) d n i w in
    let q = rates_kept xs v d p.1.0 i p.1.1 in
    ((p.0, q.0), q.1)

mutual
  pub seq_kept : (x : g.Seq) (v : Spelled) (d n : ℕ) → d ≤ 64 → Walks IsSound (seq x v) d n
      → (AreSome (seq_bare x) × OkStmts (seq_bare x) d) × Left v d
  seq_kept (g.seq x xs) v d n i w =
      let p = stmt_kept x (more xs v) d n i w in
      let q = more_kept xs v d p.1.0 i p.1.1 in
      ((tt, (p.0, q.0)), q.1)

  more_kept : (x : g.More) (v : Spelled) (d n : ℕ) → d ≤ 64 → Walks IsSound (more x v) d n → OkStmts (more_bare x) d × Left v d
  more_kept g.no_more v d n i w = (tt, (n, w))
  more_kept (g.next t x xs) v d n i (_, _, w) =
      let p = stmt_kept x (more xs v) d n i w in
      let q = more_kept xs v d p.1.0 i p.1.1 in
      ((p.0, q.0), q.1)

  stmt_kept : (x : g.Stmt) (v : Spelled) (d n : ℕ) → d ≤ 64 → Walks IsSound (stmt x v) d n → OkStmt (stmt_bare x) d × Left v d
  stmt_kept (g.skip t) v d n i (_, _, w) = (tt, (n, w))
  stmt_kept (g.assign x t e) v d n i (sx, _, (_, _, w)) =
      let p = expr_ok e (Did m.Assign ∷ v) d i w in ((sound_name x sx, p.0), p.1)
  stmt_kept (g.wait t a e z) v d n i (_, _, (_, _, w)) =
      let p = expr_ok e (Read z.0 r.Plain ∷ Did m.Wait ∷ v) d i w in (p.0, (p.1.0, p.1.1.2))
  stmt_kept (g.log t a e z) v d n i (_, _, (_, _, w)) =
      let p = expr_ok e (Read z.0 r.Plain ∷ Did m.Log ∷ v) d i w in (p.0, (p.1.0, p.1.1.2))
  stmt_kept (g.communicate x) v d n i w = io_kept x (Did m.Io ∷ v) d n i w
  stmt_kept (g.when t c u x z) v d n i (_, room, w) =
      let p = cond_ok c (Read u.0 r.Plain ∷ seq x (Read z.0 r.Close ∷ Did m.If ∷ v)) (d + 1) (omega arith) w in
      let q = seq_kept x (Read z.0 r.Close ∷ Did m.If ∷ v) (d + 1) p.1.0 (omega arith) p.1.1.2 in
      ((room, p.0, q.0), (q.1.0, closed v d q.1.0 q.1.1.2))
  stmt_kept (g.choose t c u x o y z) v d n i (_, room, w) =
      let p = cond_ok c (Read u.0 r.Plain ∷ seq x (Read o.0 r.Plain ∷ seq y (Read z.0 r.Close ∷ Did m.Else ∷ v))) (d + 1) (omega arith) w in
      let q = seq_kept x (Read o.0 r.Plain ∷ seq y (Read z.0 r.Close ∷ Did m.Else ∷ v)) (d + 1) p.1.0 (omega arith) p.1.1.2 in
      let s = seq_kept y (Read z.0 r.Close ∷ Did m.Else ∷ v) (d + 1) q.1.0 (omega arith) q.1.1.2 in
      ((room, p.0, q.0, s.0), (s.1.0, closed v d s.1.0 s.1.1.2))
  stmt_kept (g.pick a x z t u y o) v d n i (_, room, w) =
      let after = Read t.0 r.Plain ∷ Read u.0 r.Open ∷ seq y (Read o.0 r.Close ∷ Did m.Pick ∷ v) in
      let p = seq_kept x (Read z.0 r.Close ∷ after) (d + 1) n (omega arith) w in
      let next = closed after d p.1.0 p.1.1.2 in
      let q = seq_kept y (Read o.0 r.Close ∷ Did m.Pick ∷ v) (d + 1) p.1.0 (omega arith) next.2.2 in
      ((room, p.0, q.0), (q.1.0, closed v d q.1.0 q.1.1.2))
  stmt_kept (g.forever a x z t) v d n i (_, room, w) =
      let after = Read t.0 r.Plain ∷ Did m.Forever ∷ v in
      let p = seq_kept x (Read z.0 r.Close ∷ after) (d + 1) n (omega arith) w in
      ((room, p.0), (p.1.0, (closed after d p.1.0 p.1.1.2).2))
  stmt_kept (g.loop a x z u c o t) v d n i (_, room, w) =
      let last = Read t.0 r.Plain ∷ Did m.Loop ∷ v in
      let after = Read u.0 r.Open ∷ Did m.Fresh ∷ cond c (Read o.0 r.Close ∷ last) in
      let p = seq_kept x (Read z.0 r.Close ∷ after) (d + 1) n (omega arith) w in
      let next = closed after d p.1.0 p.1.1.2 in
      let q = cond_ok c (Read o.0 r.Close ∷ last) (d + 1) (omega arith) next.2 in
      ((room, p.0, q.0), (q.1.0, (closed last d q.1.0 q.1.1.2).2))
  stmt_kept (g.select (g.choice t a (g.branch j s x) xs z)) v d n i (_, _, (_, room, w)) =
      let last = Read z.0 r.Close ∷ Did m.Choice ∷ v in
      let p = io_kept j (Read s.0 r.Plain ∷ seq x (Did m.Branch ∷ branches xs last)) (d + 1) n (omega arith) w in
      let q = seq_kept x (Did m.Branch ∷ branches xs last) (d + 1) p.1.0 (omega arith) p.1.1.2 in
      let o = branches_kept xs last (d + 1) q.1.0 (omega arith) q.1.1 in
      ((room, p.0, q.0, o.0), (o.1.0, closed v d o.1.0 o.1.1.2))
  stmt_kept (g.evolve a x xs t c z j) v d n i (_, room, w) =
      let last = interrupt j (Did m.Evolve ∷ v) in
      let domain = Did m.Fresh ∷ cond c (Read z.0 r.Close ∷ last) in
      let p = rate_kept x (rates xs (Read t.0 r.Plain ∷ domain)) (d + 1) n (omega arith) w in
      let q = rates_kept xs (Read t.0 r.Plain ∷ domain) (d + 1) p.1.0 (omega arith) p.1.1 in
      let s = cond_ok c (Read z.0 r.Close ∷ last) (d + 1) (omega arith) q.1.1.2 in
      let o = interrupt_kept j (Did m.Evolve ∷ v) d s.1.0 (omega arith) (closed last d s.1.0 s.1.1.2) in
      ((room, p.0, q.0, s.0, o.0), o.1)

  interrupt_kept : (x : g.Interrupt) (v : Spelled) (d n : ℕ) → d ≤ 64 → Walks IsSound (interrupt x v) d n
      → OkBranches (interrupt_bare x) (d + 1) × Left v d
  interrupt_kept g.none v d n i w = (tt, (n, w))
  interrupt_kept (g.on u (g.choice t a (g.branch j s x) xs z)) v d n i (_, _, (_, _, (_, room, w))) =
      let last = Read z.0 r.Close ∷ v in
      let p = io_kept j (Read s.0 r.Plain ∷ seq x (Did m.Branch ∷ branches xs last)) (d + 1) n (omega arith) w in
      let q = seq_kept x (Did m.Branch ∷ branches xs last) (d + 1) p.1.0 (omega arith) p.1.1.2 in
      let o = branches_kept xs last (d + 1) q.1.0 (omega arith) q.1.1 in
      ((p.0, q.0, o.0), (o.1.0, closed v d o.1.0 o.1.1.2))

  branches_kept : (x : g.Branches) (v : Spelled) (d n : ℕ) → d ≤ 64 → Walks IsSound (branches x v) d n
      → OkBranches (branches_bare x) d × Left v d
  branches_kept g.no_other v d n i w = (tt, (n, w))
  branches_kept (g.other t (g.branch j s x) xs) v d n i (_, _, w) =
      let p = io_kept j (Read s.0 r.Plain ∷ seq x (Did m.Branch ∷ branches xs v)) d n i w in
      let q = seq_kept x (Did m.Branch ∷ branches xs v) d p.1.0 i p.1.1.2 in
      let o = branches_kept xs v d q.1.0 i q.1.1 in
      ((p.0, q.0, o.0), o.1)
