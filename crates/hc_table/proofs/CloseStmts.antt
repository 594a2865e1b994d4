-- Each row makes a phrase of its parts: statements.
use Rattle.std.proofs.Common.{◌≡◌, [], ◌∷◌}
use Rattle.hc_grammar.specs.declared.symbol.Symbol.TheVariants.{Head}
use Rattle.hc_grammar.proofs.Phrases.{Chain, closes_with}
use Rattle.hc_token.specs.declared.kind.Kind.{Kind}
use Rattle.hc_token.specs.declared.fixed.Fixed.TheVariants as fix
use Rattle.hc_token.specs.declared.kind.Kind.TheVariants as k
use Rattle.hc_token.specs.declared.token.Token.{Token}
use Rattle.hc_grammar.specs.Texts.{Read, Did}
use Rattle.hc_ast.specs.declared.role.Role.TheVariants as r
use Rattle.hc_ast.specs.declared.role.Mark.TheVariants as m
use Rattle.hc_ast.specs.Leaves.{Spelled, OfFixed}
use Rattle.hc_ast.specs.Conds as co
use Rattle.hc_ast.specs.Stmts as st
use Rattle.hc_ast.specs.StmtRoles as spell
use Rattle.hc_table.specs.declared.head.Head.TheVariants as h
use Rattle.hc_table.specs.Rows.{seq, stmt, named, else_part, after, branch, meet, branches, rate, rates, interrupt, more}
use Rattle.hc_table.specs.Table.{table}
use Rattle.hc_table.proofs.Derive.{kind_of}
use Rattle.hc_table.proofs.Leaves.{a_name, a_rate}
use Rattle.hc_table.proofs.Phrase.{Phrase, named_rest, else_rest, after_rest, meet_rest, NamedRest, assigned, sent, received, ElseRest, ended, other, AfterRest, again, or_group, tested}
use Rattle.hc_table.proofs.Phrase.{MeetRest, offered, taken}
use Rattle.hc_table.proofs.CloseExprs.{of_fixed, of_name, Makes}

module _ (t : Token) where
  named_is : (i : kind_of t ≡ k.Name) (n : NamedRest) (w v : Spelled) → w ≡ named_rest n v → Phrase h.Stmt (Read t r.Keep ∷ w) v
  named_is i (assigned s e) w v f = (st.assign (a_name t i) s e, cc)
  named_is i (sent s e) w v f = (st.communicate (st.send (a_name t i) s e), cc)
  named_is i (received s y) w v f = (st.communicate (st.receive (a_name t i) s y), cc)

  if_is : (i : kind_of t ≡ k.Fixed fix.If) (c : co.Cond) (u : OfFixed fix.Then) (x : st.Seq) (n : ElseRest) (w v : Spelled)
      → w ≡ Did m.Fresh ∷ co.cond c (Read u.0 r.Plain ∷ spell.seq x (else_rest n v)) → Phrase h.Stmt (Read t r.Begin ∷ w) v
  if_is i c u x (ended b) w v f = (st.when (t, i) c u x b, cc)
  if_is i c u x (other l y b) w v f = (st.choose (t, i) c u x l y b, cc)

  group_is : (i : kind_of t ≡ k.Fixed fix.OpenRound) (x : st.Seq) (b : OfFixed fix.CloseRound) (n : AfterRest) (w v : Spelled)
      → w ≡ spell.seq x (Read b.0 r.Close ∷ after_rest n v) → Phrase h.Stmt (Read t r.Begin ∷ w) v
  group_is i x b (again l) w v f = (st.forever (t, i) x b l, cc)
  group_is i x b (or_group l u y z) w v f = (st.pick (t, i) x b l u y z, cc)
  group_is i x b (tested u c z l) w v f = (st.loop (t, i) x b u c z l, cc)

  branch_is : (i : kind_of t ≡ k.Name) (n : MeetRest) (a : OfFixed fix.Arrow) (x : st.Seq) (w v : Spelled)
      → w ≡ meet_rest n (Read a.0 r.Plain ∷ spell.seq x (Did m.Branch ∷ v)) → Phrase h.Branch (Read t r.Keep ∷ w) v
  branch_is i (offered s e) a x w v f = (st.branch (st.send (a_name t i) s e) a x, cc)
  branch_is i (taken s y) a x w v f = (st.branch (st.receive (a_name t i) s y) a x, cc)

  pub makes_stmt : (kind : Kind) → kind_of t ≡ kind → Makes h.Stmt t (stmt kind)
  makes_stmt (k.Fixed fix.Skip) i = λ w v (u, e, e1). (st.skip (t, i), cc)
  makes_stmt k.Name i = λ w v (u, (n, e), e1). named_is i n w v (cc)
  makes_stmt (k.Fixed fix.Wait) i = λ w v (a, u, same_a, e, (u1, e1, (u2, (x, e2), (b, u3, same_b, e3, (u4, e4, e5))))).
      (st.wait (t, i) (of_fixed fix.OpenRound a same_a) x (of_fixed fix.CloseRound b same_b), cc)
  makes_stmt (k.Fixed fix.Log) i = λ w v (a, u, same_a, e, (u1, e1, (u2, (x, e2), (b, u3, same_b, e3, (u4, e4, e5))))).
      (st.log (t, i) (of_fixed fix.OpenRound a same_a) x (of_fixed fix.CloseRound b same_b), cc)
  makes_stmt (k.Fixed fix.If) i = λ w v (u, e, (u1, (c, e1), (l, u2, same_l, e2, (u3, e3, (u4, (x, xs, e4), (u5, (n, e5), e6)))))).
      if_is i c (of_fixed fix.Then l same_l) (st.seq x xs) n w v (cc)
  makes_stmt (k.Fixed fix.OpenRound) i = λ w v (u, e, (u1, (x, xs, e1), (b, u2, same_b, e2, (u3, (n, e3), e4)))).
      group_is i (st.seq x xs) (of_fixed fix.CloseRound b same_b) n w v (cc)
  makes_stmt (k.Fixed fix.EmptySquare) i = λ w v (a, u, same_a, e, (u1, e1, (u2, (x, e2), (u3, (xs, b, e3), (u4, e4, e5))))).
      (st.select (st.choice (t, i) (of_fixed fix.OpenRound a same_a) x xs b), cc)
  makes_stmt (k.Fixed fix.Less) i = λ w v (u, e, (u1, (x, e1), (u2, (xs, l, c, b, e2), (u3, (n, e3), (u4, e4, e5))))).
      (st.evolve (t, i) x xs l c b n, cc)
  makes_stmt _ i = tt

  pub makes_named : (kind : Kind) → kind_of t ≡ kind → Makes h.Named t (named kind)
  makes_named (k.Fixed fix.ColonEqual) i = λ w v (u, e, (u1, (x, e1), (u2, e2, e3))). (assigned (t, i) x, cc)
  makes_named (k.Fixed fix.Exclamation) i = λ w v (u, e, (u1, (x, e1), (u2, e2, (u3, e3, e4)))). (sent (t, i) x, cc)
  makes_named (k.Fixed fix.Question) i = λ w v (y, u, same_y, e, (u1, e1, (u2, e2, e3))). (received (t, i) (of_name y same_y), cc)
  makes_named _ i = tt

  pub makes_else : (kind : Kind) → kind_of t ≡ kind → Makes h.Else t (else_part kind)
  makes_else (k.Fixed fix.EndIf) i = λ w v (u, e, e1). (ended (t, i), cc)
  makes_else (k.Fixed fix.Else) i = λ w v (u, e, (u1, (x, xs, e1), (b, u2, same_b, e2, (u3, e3, e4)))).
      (other (t, i) (st.seq x xs) (of_fixed fix.EndIf b same_b), cc)
  makes_else _ i = tt

  pub makes_after : (kind : Kind) → kind_of t ≡ kind → Makes h.After t (after kind)
  makes_after (k.Fixed fix.StarStar) i = λ w v (u, e, e1). (again (t, i), cc)
  makes_after (k.Fixed fix.PlusPlus) i = λ w v (a, u, same_a, e, (u1, e1, (u2, (x, xs, e2), (b, u3, same_b, e3, (u4, e4, e5))))).
      (or_group (t, i) (of_fixed fix.OpenRound a same_a) (st.seq x xs) (of_fixed fix.CloseRound b same_b), cc)
  makes_after (k.Fixed fix.OpenCurly) i = λ w v (u, e, (u1, (c, e1), (b, u2, same_b, e2, (l, u3, same_l, e3, (u4, e4, e5))))).
      (tested (t, i) c (of_fixed fix.CloseCurly b same_b) (of_fixed fix.StarStar l same_l), cc)
  makes_after _ i = tt

  pub makes_branch : (kind : Kind) → kind_of t ≡ kind → Makes h.Branch t (branch kind)
  makes_branch k.Name i = λ w v (u, (n, e), (a, u1, same_a, e1, (u2, e2, (u3, (x, xs, e3), (u4, e4, e5))))).
      branch_is i n (of_fixed fix.Arrow a same_a) (st.seq x xs) w v (cc)
  makes_branch _ i = tt

  pub makes_meet : (kind : Kind) → kind_of t ≡ kind → Makes h.Meet t (meet kind)
  makes_meet (k.Fixed fix.Exclamation) i = λ w v (u, e, (u1, (x, e1), (u2, e2, e3))). (offered (t, i) x, cc)
  makes_meet (k.Fixed fix.Question) i = λ w v (y, u, same_y, e, (u1, e1, e2)). (taken (t, i) (of_name y same_y), cc)
  makes_meet _ i = tt

  pub makes_branches : (kind : Kind) → kind_of t ≡ kind → Makes h.Branches t (branches kind)
  makes_branches (k.Fixed fix.CloseRound) i = λ w v e. (st.no_other, (t, i), cc)
  makes_branches (k.Fixed fix.Comma) i = λ w v (u, (x, e), (u1, (xs, b, e1), e2)). (st.other (t, i) x xs, b, cc)
  makes_branches _ i = tt

  pub makes_rate : (kind : Kind) → kind_of t ≡ kind → Makes h.Rate t (rate kind)
  makes_rate k.Rate i = λ w v (s, u, same_s, e, (u1, e1, (u2, (x, e2), (u3, e3, e4)))).
      (st.rate (a_rate t i) (of_fixed fix.Equal s same_s) x, cc)
  makes_rate _ i = tt

  pub makes_rates : (kind : Kind) → kind_of t ≡ kind → Makes h.Rates t (rates kind)
  makes_rates (k.Fixed fix.Comma) i = λ w v (u, (x, e), (u1, (xs, l, c, b, e1), e2)). (st.next_rate (t, i) x xs, l, c, b, cc)
  makes_rates (k.Fixed fix.And) i = λ w v (u, e, (u1, (c, e1), (b, u2, same_b, e2, e3))).
      (st.no_rate, (t, i), c, of_fixed fix.Greater b same_b, cc)
  makes_rates _ i = tt

  pub makes_interrupt : (kind : Kind) → kind_of t ≡ kind → Makes h.Interrupt t (interrupt kind)
  makes_interrupt (k.Fixed fix.BarGreater) i = λ w v (l, u, same_l, e, (a, u1, same_a, e1, (u2, (x, e2), (u3, (xs, b, e3), e4)))).
      (st.on (t, i) (st.choice (of_fixed fix.EmptySquare l same_l) (of_fixed fix.OpenRound a same_a) x xs b), cc)
  makes_interrupt _ i = tt

  pub makes_more : (kind : Kind) → kind_of t ≡ kind → Makes h.More t (more kind)
  makes_more (k.Fixed fix.Semicolon) i = λ w v (u, (x, e), (u1, (xs, e1), e2)). (st.next (t, i) x xs, cc)
  makes_more _ i = tt

  -- statements begin with the first one
  listed : (w u v : Spelled) → Phrase h.Stmt w u → Chain table kind_of Phrase (Head h.More ∷ []) u v → Phrase h.Seq w v
  listed w u v (x, e) (u1, (xs, e1), e2) = (x, xs, cc)

  pub makes_seq : (kind : Kind) → kind_of t ≡ kind → Makes h.Seq t (seq kind)
  makes_seq kind i = closes_with table kind_of Phrase h.Stmt h.Seq t (Head h.More ∷ []) (stmt kind) listed (makes_stmt kind i)
