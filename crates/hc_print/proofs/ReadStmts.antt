-- The canonical spelling of each statement that a source may have is read as that statement.
use Rattle.std.proofs.Common.{◌≡◌, ◌<◌, ℕ, ◌+◌, ◌-◌, List, [], ◌∷◌, refl, ap, ap₂, sym, ◌∙◌, arith}
use Rattle.hc_grammar.specs.Texts.{Read, Did}
use Rattle.hc_token.specs.declared.fixed.Fixed.TheVariants as fix
use Rattle.hc_token.specs.declared.token.Token.{Token}
use Rattle.hc_ast.specs.declared.role.Role.TheVariants as r
use Rattle.hc_ast.specs.declared.role.Mark.TheVariants as m
use Rattle.hc_ast.specs.Bare.{BareExpr, BareCond, BareIo, send, receive, BareRate, BareStmt, BareStmts, no_more, then, BareBranches, no_other, or_else}
use Rattle.hc_ast.specs.Bare as b
use Rattle.hc_ast.specs.Leaves.{Spelled}
use Rattle.hc_ast.specs.Exprs.{Expr, expr}
use Rattle.hc_ast.specs.Conds.{Cond, cond}
use Rattle.hc_ast.specs.Stmts as g
use Rattle.hc_ast.specs.StmtRoles.{io, rate, rates, seq, more, stmt, interrupt, branches}
use Rattle.hc_ast.specs.Counts.{unfit}
use Rattle.hc_print.specs.declared.level.Level.TheVariants as at
use Rattle.hc_print.specs.Lexemes.{Lexeme, Lexemes, fixed}
use Rattle.hc_print.specs.CanonExprs as canon_expr
use Rattle.hc_print.specs.CanonStmts as canon
use Rattle.hc_print.proofs.BareExprs.{expr_bare, cond_bare}
use Rattle.hc_print.proofs.BareStmts.{io_bare, rate_bare, rates_bare, seq_bare, more_bare, stmt_bare, interrupt_bare, branches_bare}
use Rattle.hc_print.proofs.OkStmts.{OkExpr, OkCond, OkIo, OkRate, OkRates, AreSome, OkStmt, OkStmts, OkBranches}
use Rattle.hc_print.proofs.Peaks.{size, cond_size}
use Rattle.hc_print.proofs.Saying.{Says, Next}
use Rattle.hc_print.proofs.Walking.{Walks, walks_at}
use Rattle.hc_print.proofs.Phrases.{flaw_of, IsFit, Phrase}
use Rattle.hc_print.proofs.ReadExprs.{all_levels}
use Rattle.hc_print.proofs.ReadConds.{all_levels_of}

-- the limits are kept along it where they are behind it, whatever was counted before
abbrev pub Free : ℕ → (Spelled → Spelled) → Type 0
Free d f = (v : Spelled) → ((n : ℕ) → Walks IsFit v d n) → (n : ℕ) → Walks IsFit (f v) d n

-- an expression and a condition of their own
abbrev pub fresh_expr : Expr → Spelled → Spelled
fresh_expr x v = Did m.Fresh ∷ expr x v

abbrev pub fresh_cond : Cond → Spelled → Spelled
fresh_cond x v = Did m.Fresh ∷ cond x v

-- one token more in front
pub front : {l : Lexeme} {R : List Token → Type 0} {ts vs : List Token} (h : Next l R ts) → vs ≡ h.others → h.first ∷ vs ≡ ts
front h e = ap (λ us. h.first ∷ us) e ∙ sym h.all

pub opened : (v : Spelled) (d : ℕ) → ((n : ℕ) → Walks IsFit v d n) → (n : ℕ) → Walks IsFit v (d + 1 - 1) n
opened v d f n = walks_at IsFit v d (d + 1 - 1) n n (omega arith) refl (f n)

pub expr_read : (e : BareExpr) (d : ℕ) → OkExpr e d → (w : Lexemes) (ts : List Token)
    → Says (canon_expr.expr e at.Alone w) ts → Phrase fresh_expr expr_bare (Free d) e w ts
expr_read e d ok w ts h = let p = (all_levels e).alone w ts h in record {
  phrase = p.phrase;
  others = p.others;
  rest = p.rest;
  tokens = p.tokens;
  bare = p.bare;
  goes = λ v f n. p.goes v d 0 ok.deep (omega (arith, ok.few)) (f (0 + size e));
}

cond_read : (c : BareCond) (d : ℕ) → OkCond c d → (w : Lexemes) (ts : List Token)
    → Says (canon_expr.cond c at.Alone w) ts → Phrase fresh_cond cond_bare (Free d) c w ts
cond_read c d ok w ts h = let p = (all_levels_of c).alone w ts h in record {
  phrase = p.phrase;
  others = p.others;
  rest = p.rest;
  tokens = p.tokens;
  bare = p.bare;
  goes = λ v f n. p.goes v d 0 ok.deep (omega (arith, ok.few)) (f (0 + cond_size c));
}

io_read : (i : BareIo) (d : ℕ) → OkIo i d → (w : Lexemes) (ts : List Token) → Says (canon.io i w) ts
    → Phrase io io_bare (Free d) i w ts
io_read (send x e) d ok w ts h =
    let p = expr_read e d ok.1 w h.rest.others h.rest.rest in record {
      phrase = g.send (h.first, x, h.is) (h.rest.first, h.rest.is) p.phrase;
      others = p.others;
      rest = p.rest;
      tokens = λ v q. front h (front h.rest (p.tokens (Did m.Send ∷ v) q));
      bare = ap (send x) p.bare;
      goes = λ v f n. (ap flaw_of h.is, tt, (ap unfit h.rest.is, tt, p.goes (Did m.Send ∷ v) f n));
    }
io_read (receive x y) d ok w ts h = record {
  phrase = g.receive (h.first, x, h.is) (h.rest.first, h.rest.is) (h.rest.rest.first, y, h.rest.rest.is);
  others = h.rest.rest.others;
  rest = h.rest.rest.rest;
  tokens = λ v q. front h (front h.rest (front h.rest.rest q));
  bare = refl;
  goes = λ v f n. (ap flaw_of h.is, tt, (ap unfit h.rest.is, tt, (ap flaw_of h.rest.rest.is, tt, f n)));
}

rate_read : (x : BareRate) (d : ℕ) → OkRate x d → (w : Lexemes) (ts : List Token) → Says (canon.rate x w) ts
    → Phrase rate rate_bare (Free d) x w ts
rate_read x d ok w ts h =
    let p = expr_read x.value d ok.1 w h.rest.others h.rest.rest in record {
      phrase = g.rate (h.first, x.variable, h.is) (h.rest.first, h.rest.is) p.phrase;
      others = p.others;
      rest = p.rest;
      tokens = λ v q. front h (front h.rest (p.tokens (Did m.Rate ∷ v) q));
      bare = ap (λ e. let a_rate : BareRate = record { variable = x.variable; value = e } in a_rate) p.bare;
      goes = λ v f n. (ap flaw_of h.is, tt, (ap unfit h.rest.is, tt, p.goes (Did m.Rate ∷ v) f n));
    }

rates_read : (xs : List BareRate) (d : ℕ) → OkRates xs d → (w : Lexemes) (ts : List Token) → Says (canon.more_rates xs w) ts
    → Phrase rates rates_bare (Free d) xs w ts
rates_read [] d ok w ts h = record {
  phrase = g.no_rate;
  others = ts;
  rest = h;
  tokens = λ v q. q;
  bare = refl;
  goes = λ v f n. f n;
}
rates_read (x ∷ xs) d ok w ts h =
    let p = rate_read x d ok.0 (canon.more_rates xs w) h.others h.rest in
    let q = rates_read xs d ok.1 w p.others p.rest in record {
      phrase = g.next_rate (h.first, h.is) p.phrase q.phrase;
      others = q.others;
      rest = q.rest;
      tokens = λ v e. front h (p.tokens (rates q.phrase v) (q.tokens v e));
      bare = ap₂ ◌∷◌ p.bare q.bare;
      goes = λ v f n. (ap unfit h.is, tt, p.goes (rates q.phrase v) (q.goes v f) n);
    }

mutual
  pub seq_read : (ss : BareStmts) (d : ℕ) → AreSome ss × OkStmts ss d → (w : Lexemes) (ts : List Token)
      → Says (canon.stmts ss w) ts → Phrase seq seq_bare (Free d) ss w ts
  seq_read no_more d ok w ts h = absurd ok.0
  seq_read (then s ss) d ok w ts h =
      let p = stmt_read s d ok.1.0 (canon.more_stmts ss w) ts h in
      let q = more_read ss d ok.1.1 w p.others p.rest in record {
        phrase = g.seq p.phrase q.phrase;
        others = q.others;
        rest = q.rest;
        tokens = λ v e. p.tokens (more q.phrase v) (q.tokens v e);
        bare = ap₂ then p.bare q.bare;
        goes = λ v f n. p.goes (more q.phrase v) (q.goes v f) n;
      }

  more_read : (ss : BareStmts) (d : ℕ) → OkStmts ss d → (w : Lexemes) (ts : List Token) → Says (canon.more_stmts ss w) ts
      → Phrase more more_bare (Free d) ss w ts
  more_read no_more d ok w ts h = record {
    phrase = g.no_more;
    others = ts;
    rest = h;
    tokens = λ v q. q;
    bare = refl;
    goes = λ v f n. f n;
  }
  more_read (then s ss) d ok w ts h =
      let p = stmt_read s d ok.0 (canon.more_stmts ss w) h.others h.rest in
      let q = more_read ss d ok.1 w p.others p.rest in record {
        phrase = g.next (h.first, h.is) p.phrase q.phrase;
        others = q.others;
        rest = q.rest;
        tokens = λ v e. front h (p.tokens (more q.phrase v) (q.tokens v e));
        bare = ap₂ then p.bare q.bare;
        goes = λ v f n. (ap unfit h.is, tt, p.goes (more q.phrase v) (q.goes v f) n);
      }

  stmt_read : (s : BareStmt) (d : ℕ) → OkStmt s d → (w : Lexemes) (ts : List Token) → Says (canon.stmt s w) ts
      → Phrase stmt stmt_bare (Free d) s w ts
  stmt_read b.skip d ok w ts h = record {
    phrase = g.skip (h.first, h.is);
    others = h.others;
    rest = h.rest;
    tokens = λ v q. front h q;
    bare = refl;
    goes = λ v f n. (ap unfit h.is, tt, f n);
  }
  stmt_read (b.assign x e) d ok w ts h =
      let p = expr_read e d ok.1 w h.rest.others h.rest.rest in record {
        phrase = g.assign (h.first, x, h.is) (h.rest.first, h.rest.is) p.phrase;
        others = p.others;
        rest = p.rest;
        tokens = λ v q. front h (front h.rest (p.tokens (Did m.Assign ∷ v) q));
        bare = ap (b.assign x) p.bare;
        goes = λ v f n. (ap flaw_of h.is, tt, (ap unfit h.rest.is, tt, p.goes (Did m.Assign ∷ v) f n));
      }
  stmt_read (b.wait e) d ok w ts h =
      let p = expr_read e d ok (fixed fix.CloseRound ∷ w) h.rest.others h.rest.rest in record {
        phrase = g.wait (h.first, h.is) (h.rest.first, h.rest.is) p.phrase (p.rest.first, p.rest.is);
        others = p.rest.others;
        rest = p.rest.rest;
        tokens = λ v q. front h (front h.rest (p.tokens (Read p.rest.first r.Plain ∷ Did m.Wait ∷ v) (front p.rest q)));
        bare = ap b.wait p.bare;
        goes = λ v f n. (
          ap unfit h.is,
          tt,
          (
            ap unfit h.rest.is,
            tt,
            p.goes (Read p.rest.first r.Plain ∷ Did m.Wait ∷ v) (λ n. (ap unfit p.rest.is, tt, f n)) n,
          ),
        );
      }
  stmt_read (b.log e) d ok w ts h =
      let p = expr_read e d ok (fixed fix.CloseRound ∷ w) h.rest.others h.rest.rest in record {
        phrase = g.log (h.first, h.is) (h.rest.first, h.rest.is) p.phrase (p.rest.first, p.rest.is);
        others = p.rest.others;
        rest = p.rest.rest;
        tokens = λ v q. front h (front h.rest (p.tokens (Read p.rest.first r.Plain ∷ Did m.Log ∷ v) (front p.rest q)));
        bare = ap b.log p.bare;
        goes = λ v f n. (
          ap unfit h.is,
          tt,
          (
            ap unfit h.rest.is,
            tt,
            p.goes (Read p.rest.first r.Plain ∷ Did m.Log ∷ v) (λ n. (ap unfit p.rest.is, tt, f n)) n,
          ),
        );
      }
  stmt_read (b.io i) d ok w ts h =
      let p = io_read i d ok w ts h in record {
        phrase = g.communicate p.phrase;
        others = p.others;
        rest = p.rest;
        tokens = λ v q. p.tokens (Did m.Io ∷ v) q;
        bare = ap b.io p.bare;
        goes = λ v f n. p.goes (Did m.Io ∷ v) f n;
      }
  stmt_read (b.when c ss) d ok w ts h =
      let p = cond_read c (d + 1) ok.1 (fixed fix.Then ∷ canon.stmts ss (fixed fix.EndIf ∷ w)) h.others h.rest in
      let q = seq_read ss (d + 1) ok.2 (fixed fix.EndIf ∷ w) p.rest.others p.rest.rest in record {
        phrase = g.when (h.first, h.is) p.phrase (p.rest.first, p.rest.is) q.phrase (q.rest.first, q.rest.is);
        others = q.rest.others;
        rest = q.rest.rest;
        tokens = λ v e.
            let last = Read q.rest.first r.Close ∷ Did m.If ∷ v in
            front h (p.tokens (Read p.rest.first r.Plain ∷ seq q.phrase last) (front p.rest (q.tokens last (front q.rest e))));
        bare = ap₂ b.when p.bare q.bare;
        goes = λ v f n.
            let last = Read q.rest.first r.Close ∷ Did m.If ∷ v in (
              ap unfit h.is,
              ok.0,
              p.goes (Read p.rest.first r.Plain ∷ seq q.phrase last)
                  (λ n. (ap unfit p.rest.is, tt, q.goes last (λ n. (ap unfit q.rest.is, tt, opened v d f n)) n)) n,
            );
      }
  stmt_read (b.choose c ss rs) d ok w ts h =
      let p = cond_read c (d + 1) ok.1 (fixed fix.Then ∷ canon.stmts ss (fixed fix.Else ∷ canon.stmts rs (fixed fix.EndIf ∷ w)))
      h.others h.rest in
      let q = seq_read ss (d + 1) ok.2 (fixed fix.Else ∷ canon.stmts rs (fixed fix.EndIf ∷ w)) p.rest.others p.rest.rest in
      let o = seq_read rs (d + 1) ok.3 (fixed fix.EndIf ∷ w) q.rest.others q.rest.rest in record {
        phrase = g.choose (h.first, h.is) p.phrase (p.rest.first, p.rest.is) q.phrase (q.rest.first, q.rest.is) o.phrase
            (o.rest.first, o.rest.is);
        others = o.rest.others;
        rest = o.rest.rest;
        tokens = λ v e.
            let last = Read o.rest.first r.Close ∷ Did m.Else ∷ v in
            let middle = Read q.rest.first r.Plain ∷ seq o.phrase last in
            front h (p.tokens (Read p.rest.first r.Plain ∷ seq q.phrase middle)
            (front p.rest (q.tokens middle (front q.rest (o.tokens last (front o.rest e))))));
        bare = ap₂ (λ c ss. b.choose c ss (seq_bare o.phrase)) p.bare q.bare ∙ ap (b.choose c ss) o.bare;
        goes = λ v f n.
            let last = Read o.rest.first r.Close ∷ Did m.Else ∷ v in
            let middle = Read q.rest.first r.Plain ∷ seq o.phrase last in (
              ap unfit h.is,
              ok.0,
              p.goes (Read p.rest.first r.Plain ∷ seq q.phrase middle)
                  (λ n. (
                    ap unfit p.rest.is,
                    tt,
                    q.goes middle
                        (λ n. (ap unfit q.rest.is, tt, o.goes last (λ n. (ap unfit o.rest.is, tt, opened v d f n)) n)) n,
                  )) n,
            );
      }
  stmt_read (b.pick ss rs) d ok w ts h =
      let p = seq_read ss (d + 1) ok.1
      (fixed fix.CloseRound ∷ fixed fix.PlusPlus ∷ fixed fix.OpenRound ∷ canon.stmts rs (fixed fix.CloseRound ∷ w)) h.others h.rest in
      let sign = p.rest.rest in
      let q = seq_read rs (d + 1) ok.2 (fixed fix.CloseRound ∷ w) sign.rest.others sign.rest.rest in record {
        phrase = g.pick (h.first, h.is) p.phrase (p.rest.first, p.rest.is) (sign.first, sign.is) (sign.rest.first, sign.rest.is)
            q.phrase (q.rest.first, q.rest.is);
        others = q.rest.others;
        rest = q.rest.rest;
        tokens = λ v e.
            let last = Read q.rest.first r.Close ∷ Did m.Pick ∷ v in
            let middle = Read sign.first r.Plain ∷ Read sign.rest.first r.Open ∷ seq q.phrase last in
            front h (p.tokens (Read p.rest.first r.Close ∷ middle)
            (front p.rest (front sign (front sign.rest (q.tokens last (front q.rest e))))));
        bare = ap₂ b.pick p.bare q.bare;
        goes = λ v f n.
            let last = Read q.rest.first r.Close ∷ Did m.Pick ∷ v in
            let middle = Read sign.first r.Plain ∷ Read sign.rest.first r.Open ∷ seq q.phrase last in (
              ap unfit h.is,
              ok.0,
              p.goes (Read p.rest.first r.Close ∷ middle)
                  (λ n. (
                    ap unfit p.rest.is,
                    tt,
                    opened middle d
                        (λ n. (
                          ap unfit sign.is,
                          tt,
                          (
                            ap unfit sign.rest.is,
                            ok.0,
                            q.goes last (λ n. (ap unfit q.rest.is, tt, opened v d f n)) n,
                          ),
                        )) n,
                  )) n,
            );
      }
  stmt_read (b.forever ss) d ok w ts h =
      let p = seq_read ss (d + 1) ok.1 (fixed fix.CloseRound ∷ fixed fix.StarStar ∷ w) h.others h.rest in
      let sign = p.rest.rest in record {
        phrase = g.forever (h.first, h.is) p.phrase (p.rest.first, p.rest.is) (sign.first, sign.is);
        others = sign.others;
        rest = sign.rest;
        tokens = λ v e.
            let last = Read sign.first r.Plain ∷ Did m.Forever ∷ v in
            front h (p.tokens (Read p.rest.first r.Close ∷ last) (front p.rest (front sign e)));
        bare = ap b.forever p.bare;
        goes = λ v f n.
            let last = Read sign.first r.Plain ∷ Did m.Forever ∷ v in (
              ap unfit h.is,
              ok.0,
              p.goes (Read p.rest.first r.Close ∷ last)
                  (λ n. (ap unfit p.rest.is, tt, opened last d (λ n. (ap unfit sign.is, tt, f n)) n)) n,
            );
      }
  stmt_read (b.loop c ss) d ok w ts h =
      let p = seq_read ss (d + 1) ok.1 (fixed fix.CloseRound ∷ fixed fix.OpenCurly
      ∷ canon_expr.cond c at.Alone (fixed fix.CloseCurly ∷ fixed fix.StarStar ∷ w)) h.others h.rest in
      let curly = p.rest.rest in
      let q = cond_read c (d + 1) ok.2 (fixed fix.CloseCurly ∷ fixed fix.StarStar ∷ w) curly.others curly.rest in
      let sign = q.rest.rest in record {
        phrase = g.loop (h.first, h.is) p.phrase (p.rest.first, p.rest.is) (curly.first, curly.is) q.phrase
            (q.rest.first, q.rest.is) (sign.first, sign.is);
        others = sign.others;
        rest = sign.rest;
        tokens = λ v e.
            let last = Read sign.first r.Plain ∷ Did m.Loop ∷ v in
            let middle = Read curly.first r.Open ∷ fresh_cond q.phrase (Read q.rest.first r.Close ∷ last) in
            front h (p.tokens (Read p.rest.first r.Close ∷ middle)
            (front p.rest (front curly (q.tokens (Read q.rest.first r.Close ∷ last) (front q.rest (front sign e))))));
        bare = ap₂ b.loop q.bare p.bare;
        goes = λ v f n.
            let last = Read sign.first r.Plain ∷ Did m.Loop ∷ v in
            let middle = Read curly.first r.Open ∷ fresh_cond q.phrase (Read q.rest.first r.Close ∷ last) in (
              ap unfit h.is,
              ok.0,
              p.goes (Read p.rest.first r.Close ∷ middle)
                  (λ n. (
                    ap unfit p.rest.is,
                    tt,
                    opened middle d
                        (λ n. (
                          ap unfit curly.is,
                          ok.0,
                          q.goes (Read q.rest.first r.Close ∷ last)
                              (λ n. (ap unfit q.rest.is, tt, opened last d (λ n. (ap unfit sign.is, tt, f n)) n)) n,
                        )) n,
                  )) n,
            );
      }
  stmt_read (b.choice no_other) d ok w ts h = absurd ok
  stmt_read (b.choice (or_else i ss bs)) d ok w ts h =
      let round = h.rest in
      let p = io_read i (d + 1) ok.1 (fixed fix.Arrow ∷ canon.stmts ss (canon.more_branches bs (fixed fix.CloseRound ∷ w)))
      round.others round.rest in
      let q = seq_read ss (d + 1) ok.2 (canon.more_branches bs (fixed fix.CloseRound ∷ w)) p.rest.others p.rest.rest in
      let o = branches_read bs (d + 1) ok.3 (fixed fix.CloseRound ∷ w) q.others q.rest in record {
        phrase = g.select (g.choice (h.first, h.is) (round.first, round.is)
            (g.branch p.phrase (p.rest.first, p.rest.is) q.phrase) o.phrase (o.rest.first, o.rest.is));
        others = o.rest.others;
        rest = o.rest.rest;
        tokens = λ v e.
            let last = Read o.rest.first r.Close ∷ Did m.Choice ∷ v in
            let middle = Did m.Branch ∷ branches o.phrase last in
            front h (front round (p.tokens (Read p.rest.first r.Plain ∷ seq q.phrase middle)
            (front p.rest (q.tokens middle (o.tokens last (front o.rest e))))));
        bare = ap b.choice (ap₂ (λ i ss. or_else i ss (branches_bare o.phrase)) p.bare q.bare ∙ ap (or_else i ss) o.bare);
        goes = λ v f n.
            let last = Read o.rest.first r.Close ∷ Did m.Choice ∷ v in
            let middle = Did m.Branch ∷ branches o.phrase last in (
              ap unfit h.is,
              tt,
              (
                ap unfit round.is,
                ok.0,
                p.goes (Read p.rest.first r.Plain ∷ seq q.phrase middle)
                    (λ n. (
                      ap unfit p.rest.is,
                      tt,
                      q.goes middle
                          (o.goes last (λ n. (ap unfit o.rest.is, tt, opened v d f n))) n,
                    )) n,
              ),
            );
      }
  stmt_read (b.evolve [] c bs) d ok w ts h = absurd ok
  stmt_read (b.evolve (x ∷ xs) c bs) d ok w ts h =
      let p = rate_read x (d + 1) ok.1
      (canon.more_rates xs (fixed fix.And ∷ canon_expr.cond c at.Alone (fixed fix.Greater ∷ canon.interrupt bs w))) h.others h.rest in
      let q = rates_read xs (d + 1) ok.2 (fixed fix.And ∷ canon_expr.cond c at.Alone (fixed fix.Greater ∷ canon.interrupt bs w))
      p.others p.rest in
      let o = cond_read c (d + 1) ok.3 (fixed fix.Greater ∷ canon.interrupt bs w) q.rest.others q.rest.rest in
      let j = interrupt_read bs d ok.0 ok.4 w o.rest.others o.rest.rest in record {
        phrase = g.evolve (h.first, h.is) p.phrase q.phrase (q.rest.first, q.rest.is) o.phrase (o.rest.first, o.rest.is) j.phrase;
        others = j.others;
        rest = j.rest;
        tokens = λ v e.
            let last = interrupt j.phrase (Did m.Evolve ∷ v) in
            let domain = fresh_cond o.phrase (Read o.rest.first r.Close ∷ last) in
            front h (p.tokens (rates q.phrase (Read q.rest.first r.Plain ∷ domain))
            (q.tokens (Read q.rest.first r.Plain ∷ domain)
            (front q.rest (o.tokens (Read o.rest.first r.Close ∷ last) (front o.rest (j.tokens (Did m.Evolve ∷ v) e))))));
        bare = ap₂ (λ rs c. b.evolve rs c (interrupt_bare j.phrase)) (ap₂ ◌∷◌ p.bare q.bare) o.bare ∙ ap (b.evolve (x ∷ xs) c) j.bare;
        goes = λ v f n.
            let last = interrupt j.phrase (Did m.Evolve ∷ v) in
            let domain = fresh_cond o.phrase (Read o.rest.first r.Close ∷ last) in (
              ap unfit h.is,
              ok.0,
              p.goes (rates q.phrase (Read q.rest.first r.Plain ∷ domain))
                  (q.goes (Read q.rest.first r.Plain ∷ domain)
                  (λ n. (
                    ap unfit q.rest.is,
                    tt,
                    o.goes (Read o.rest.first r.Close ∷ last)
                        (λ n. (ap unfit o.rest.is, tt, opened last d (j.goes (Did m.Evolve ∷ v) f) n)) n,
                  ))) n,
            );
      }

  interrupt_read : (bs : BareBranches) (d : ℕ) → d < 64 → OkBranches bs (d + 1) → (w : Lexemes) (ts : List Token)
      → Says (canon.interrupt bs w) ts → Phrase interrupt interrupt_bare (Free d) bs w ts
  interrupt_read no_other d room ok w ts h = record {
    phrase = g.none;
    others = ts;
    rest = h;
    tokens = λ v q. q;
    bare = refl;
    goes = λ v f n. f n;
  }
  interrupt_read (or_else i ss bs) d room ok w ts h =
      let square = h.rest in
      let round = square.rest in
      let p = io_read i (d + 1) ok.0 (fixed fix.Arrow ∷ canon.stmts ss (canon.more_branches bs (fixed fix.CloseRound ∷ w)))
      round.others round.rest in
      let q = seq_read ss (d + 1) ok.1 (canon.more_branches bs (fixed fix.CloseRound ∷ w)) p.rest.others p.rest.rest in
      let o = branches_read bs (d + 1) ok.2 (fixed fix.CloseRound ∷ w) q.others q.rest in record {
        phrase = g.on (h.first, h.is) (g.choice (square.first, square.is) (round.first, round.is)
            (g.branch p.phrase (p.rest.first, p.rest.is) q.phrase) o.phrase (o.rest.first, o.rest.is));
        others = o.rest.others;
        rest = o.rest.rest;
        tokens = λ v e.
            let last = Read o.rest.first r.Close ∷ v in
            let middle = Did m.Branch ∷ branches o.phrase last in
            front h (front square (front round (p.tokens (Read p.rest.first r.Plain ∷ seq q.phrase middle)
            (front p.rest (q.tokens middle (o.tokens last (front o.rest e)))))));
        bare = ap₂ (λ i ss. or_else i ss (branches_bare o.phrase)) p.bare q.bare ∙ ap (or_else i ss) o.bare;
        goes = λ v f n.
            let last = Read o.rest.first r.Close ∷ v in
            let middle = Did m.Branch ∷ branches o.phrase last in (
              ap unfit h.is,
              tt,
              (
                ap unfit square.is,
                tt,
                (
                  ap unfit round.is,
                  room,
                  p.goes (Read p.rest.first r.Plain ∷ seq q.phrase middle)
                      (λ n. (
                        ap unfit p.rest.is,
                        tt,
                        q.goes middle
                            (o.goes last (λ n. (ap unfit o.rest.is, tt, opened v d f n))) n,
                      )) n,
                ),
              ),
            );
      }

  branches_read : (bs : BareBranches) (d : ℕ) → OkBranches bs d → (w : Lexemes) (ts : List Token)
      → Says (canon.more_branches bs w) ts → Phrase branches branches_bare (Free d) bs w ts
  branches_read no_other d ok w ts h = record {
    phrase = g.no_other;
    others = ts;
    rest = h;
    tokens = λ v q. q;
    bare = refl;
    goes = λ v f n. f n;
  }
  branches_read (or_else i ss bs) d ok w ts h =
      let p = io_read i d ok.0 (fixed fix.Arrow ∷ canon.stmts ss (canon.more_branches bs w)) h.others h.rest in
      let q = seq_read ss d ok.1 (canon.more_branches bs w) p.rest.others p.rest.rest in
      let o = branches_read bs d ok.2 w q.others q.rest in record {
        phrase = g.other (h.first, h.is) (g.branch p.phrase (p.rest.first, p.rest.is) q.phrase) o.phrase;
        others = o.others;
        rest = o.rest;
        tokens = λ v e.
            let middle = Did m.Branch ∷ branches o.phrase v in
            front h (p.tokens (Read p.rest.first r.Plain ∷ seq q.phrase middle)
            (front p.rest (q.tokens middle (o.tokens v e))));
        bare = ap₂ (λ i ss. or_else i ss (branches_bare o.phrase)) p.bare q.bare ∙ ap (or_else i ss) o.bare;
        goes = λ v f n.
            let middle = Did m.Branch ∷ branches o.phrase v in (
              ap unfit h.is,
              tt,
              p.goes (Read p.rest.first r.Plain ∷ seq q.phrase middle)
                  (λ n. (ap unfit p.rest.is, tt, q.goes middle (o.goes v f) n)) n,
            );
      }
