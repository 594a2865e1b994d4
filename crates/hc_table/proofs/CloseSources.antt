-- Each row makes a phrase of its parts: whole sources.
use Rattle.std.proofs.Common.{◌≡◌, refl, ap, true, [], ◌∷◌}
use Rattle.hc_grammar.specs.declared.symbol.Symbol.TheVariants.{Head, Mark}
use Rattle.hc_grammar.specs.Texts.{Read}
use Rattle.hc_grammar.proofs.Phrases.{Chain, Closed, closes_with, whole}
use Rattle.hc_token.specs.declared.kind.Kind.{Kind}
use Rattle.hc_token.specs.declared.fixed.Fixed.TheVariants as fix
use Rattle.hc_token.specs.declared.kind.Kind.TheVariants as k
use Rattle.hc_token.specs.declared.token.Token.{Token}
use Rattle.hc_ast.specs.declared.role.Role.TheVariants as r
use Rattle.hc_ast.specs.declared.role.Mark.TheVariants as m
use Rattle.hc_ast.specs.declared.tree.ParamKind.TheVariants as p
use Rattle.hc_ast.specs.Leaves.{Spelled, OfFixed}
use Rattle.hc_ast.specs.Exprs as ex
use Rattle.hc_ast.specs.Conds as co
use Rattle.hc_ast.specs.Stmts as st
use Rattle.hc_ast.specs.Sources as so
use Rattle.hc_ast.specs.Source.{IsSpelling}
use Rattle.hc_table.specs.declared.head.Head as head
use Rattle.hc_table.specs.declared.head.Head.TheVariants as h
use Rattle.hc_table.specs.Rows.{source, param_then, params, more_params, process, process_body, processes, factor, arguments, more_arguments}
use Rattle.hc_table.specs.Table.{table, entry, empties, start}
use Rattle.hc_table.proofs.Derive.{D, kind_of}
use Rattle.hc_table.proofs.Leaves.{a_name}
use Rattle.hc_table.proofs.Phrase.{Phrase, body_rest, BodyRest, own, called}
use Rattle.hc_table.proofs.CloseExprs.{of_kind, of_fixed, of_name, Makes, makes_expr, makes_sums, makes_term, makes_products, makes_factor, makes_cond, makes_ors, makes_both, makes_ands, makes_one, makes_compare}
use Rattle.hc_table.proofs.CloseStmts.{makes_seq, makes_stmt, makes_named, makes_else, makes_after, makes_branch, makes_meet, makes_branches, makes_rate, makes_rates, makes_interrupt, makes_more}

-- arguments begin with the first factor of the first one
argued : (w u v : Spelled) → Phrase h.Factor w u
    → Chain table kind_of Phrase (Head h.Products ∷ Head h.Sums ∷ Mark m.Argument ∷ Head h.MoreArguments ∷ []) u v → Phrase h.Arguments w v
argued w u v (f, e) (u1, (ps, e1), (u2, (ss, e2), (u3, e3, (u4, (es, b, e4), e5)))) =
    (so.with (ex.sum (ex.product f ps) ss) es, b, cc)

module _ (t : Token) where
  body_is : (i : kind_of t ≡ k.Name) (s : OfFixed fix.Equal) (n : BodyRest) (w v : Spelled)
      → w ≡ Read s.0 r.Plain ∷ body_rest n v → Phrase h.Process (Read t r.Keep ∷ w) v
  body_is i s (own a y b) w v f = (so.inline (a_name t i) s a y b, cc)
  body_is i s (called y a es b) w v f = (so.call (a_name t i) s y a es b, cc)

  makes_source : (kind : Kind) → kind_of t ≡ kind → Makes h.Source t (source kind)
  makes_source (k.Fixed fix.Module) i =
      λ w v (
        x,
        u,
        same_x,
        e,
        (
          a,
          u1,
          same_a,
          e1,
          (
            u2,
            e2,
            (
              u3,
              (ps, b, e3),
              (
                c,
                u4,
                same_c,
                e4,
                (
                  d,
                  u5,
                  same_d,
                  e5,
                  (u6, e6, (u7, (y, ys, e7), (f, u8, same_f, e8, (l, u9, same_l, e9, (u10, e10, (u11, (more, e11), e12)))))),
                ),
              ),
            ),
          ),
        ),
      ). (
        so.after_module
            (so.module_of (t, i) (of_name x same_x) (of_fixed fix.OpenRound a same_a) ps b (of_fixed fix.Colon c same_c)
            (of_fixed fix.Begin d same_d) (st.seq y ys) (of_fixed fix.EndBody f same_f) (of_fixed fix.EndModule l same_l)) more,
        cc,
      )
  makes_source (k.Fixed fix.System) i = λ w v (u, (x, e), (u1, (xs, b, e1), e2)). (so.system (t, i) x xs b, cc)
  makes_source _ i = tt

  makes_params : (kind : Kind) → kind_of t ≡ kind → Makes h.Params t (params kind)
  makes_params (k.Fixed fix.CloseRound) i = λ w v e. (so.none, (t, i), cc)
  makes_params (k.Fixed fix.Ch) i = λ w v (x, u, same_x, e, (u1, e1, (u2, (ps, b, e2), e3))).
      (so.some (so.param (t, p.Channel, ap so.param_kind i) (of_name x same_x)) ps, b, cc)
  makes_params (k.Fixed fix.Val) i = λ w v (x, u, same_x, e, (u1, e1, (u2, (ps, b, e2), e3))).
      (so.some (so.param (t, p.Value, ap so.param_kind i) (of_name x same_x)) ps, b, cc)
  makes_params _ i = tt

  makes_more_params : (kind : Kind) → kind_of t ≡ kind → Makes h.MoreParams t (more_params kind)
  makes_more_params (k.Fixed fix.CloseRound) i = λ w v e. (so.no_param, (t, i), cc)
  makes_more_params (k.Fixed fix.Comma) i = λ w v (u, (x, e), (u1, (xs, b, e1), e2)). (so.next_param (t, i) x xs, b, cc)
  makes_more_params _ i = tt

  makes_param : (kind : Kind) → kind_of t ≡ kind → Makes h.Param t (param_then [] kind)
  makes_param (k.Fixed fix.Ch) i = λ w v (x, u, same_x, e, (u1, e1, e2)).
      (so.param (t, p.Channel, ap so.param_kind i) (of_name x same_x), cc)
  makes_param (k.Fixed fix.Val) i = λ w v (x, u, same_x, e, (u1, e1, e2)).
      (so.param (t, p.Value, ap so.param_kind i) (of_name x same_x), cc)
  makes_param _ i = tt

  makes_process : (kind : Kind) → kind_of t ≡ kind → Makes h.Process t (process kind)
  makes_process k.Name i = λ w v (s, u, same_s, e, (u1, (n, e1), e2)). body_is i (of_fixed fix.Equal s same_s) n w v (cc)
  makes_process _ i = tt

  makes_process_body : (kind : Kind) → kind_of t ≡ kind → Makes h.ProcessBody t (process_body kind)
  makes_process_body (k.Fixed fix.OpenRound) i = λ w v (u, e, (u1, (y, ys, e1), (b, u2, same_b, e2, (u3, e3, e4)))).
      (own (t, i) (st.seq y ys) (of_fixed fix.CloseRound b same_b), cc)
  makes_process_body k.Name i = λ w v (a, u, same_a, e, (u1, e1, (u2, e2, (u3, (es, b, e3), (u4, e4, e5))))).
      (called (a_name t i) (of_fixed fix.OpenRound a same_a) es b, cc)
  makes_process_body _ i = tt

  makes_processes : (kind : Kind) → kind_of t ≡ kind → Makes h.Processes t (processes kind)
  makes_processes (k.Fixed fix.BarBar) i = λ w v (u, (x, e), (u1, (xs, b, e1), e2)). (so.next_process (t, i) x xs, b, cc)
  makes_processes (k.Fixed fix.EndSystem) i = λ w v e. (so.no_process, (t, i), cc)
  makes_processes _ i = tt

  makes_arguments : (kind : Kind) → kind_of t ≡ kind → Makes h.Arguments t (arguments kind)
  makes_arguments (k.Fixed fix.CloseRound) i = λ w v e. (so.without, (t, i), cc)
  makes_arguments kind i =
      closes_with table kind_of Phrase h.Factor h.Arguments t
      (Head h.Products ∷ Head h.Sums ∷ Mark m.Argument ∷ Head h.MoreArguments ∷ []) (factor kind) argued (makes_factor t kind i)

  makes_more_arguments : (kind : Kind) → kind_of t ≡ kind → Makes h.MoreArguments t (more_arguments kind)
  makes_more_arguments (k.Fixed fix.CloseRound) i = λ w v e. (so.no_argument, (t, i), cc)
  makes_more_arguments (k.Fixed fix.Comma) i = λ w v (u, e, (u1, (x, e1), (u2, e2, (u3, (es, b, e3), e4)))).
      (so.next_argument (t, i) x es, b, cc)
  makes_more_arguments _ i = tt

row : (x : head.Head) (t : Token) → Makes x t (entry x (kind_of t))
row h.Source t = makes_source t (kind_of t) refl
row h.Params t = makes_params t (kind_of t) refl
row h.MoreParams t = makes_more_params t (kind_of t) refl
row h.Param t = makes_param t (kind_of t) refl
row h.Process t = makes_process t (kind_of t) refl
row h.ProcessBody t = makes_process_body t (kind_of t) refl
row h.Processes t = makes_processes t (kind_of t) refl
row h.Arguments t = makes_arguments t (kind_of t) refl
row h.MoreArguments t = makes_more_arguments t (kind_of t) refl
row h.Seq t = makes_seq t (kind_of t) refl
row h.Stmt t = makes_stmt t (kind_of t) refl
row h.Named t = makes_named t (kind_of t) refl
row h.Else t = makes_else t (kind_of t) refl
row h.After t = makes_after t (kind_of t) refl
row h.Branch t = makes_branch t (kind_of t) refl
row h.Meet t = makes_meet t (kind_of t) refl
row h.Branches t = makes_branches t (kind_of t) refl
row h.Rate t = makes_rate t (kind_of t) refl
row h.Rates t = makes_rates t (kind_of t) refl
row h.Interrupt t = makes_interrupt t (kind_of t) refl
row h.More t = makes_more t (kind_of t) refl
row h.Expr t = makes_expr t (kind_of t) refl
row h.Sums t = makes_sums t (kind_of t) refl
row h.Term t = makes_term t (kind_of t) refl
row h.Products t = makes_products t (kind_of t) refl
row h.Factor t = makes_factor t (kind_of t) refl
row h.Cond t = makes_cond t (kind_of t) refl
row h.Ors t = makes_ors t (kind_of t) refl
row h.Both t = makes_both t (kind_of t) refl
row h.Ands t = makes_ands t (kind_of t) refl
row h.One t = makes_one t (kind_of t) refl
row h.Compare t = makes_compare t (kind_of t) refl

nothing : (x : head.Head) (w : Spelled) → empties x ≡ true → Phrase x w w
nothing h.Interrupt w e = (st.none, refl)
nothing h.More w e = (st.no_more, refl)
nothing h.Products w e = (ex.no_other, refl)
nothing h.Sums w e = (ex.no_more, refl)
nothing h.Ands w e = (co.no_other, refl)
nothing h.Ors w e = (co.no_more, refl)
nothing _ w e = absurd (cc)

closed : Closed table kind_of Phrase
closed = record { row = row; nothing = nothing }

-- a derived text is one of the grammar
pub is_spelling : (w : Spelled) → D start w → IsSpelling w
is_spelling w d =
    let (u, (x, e), (b, v, same_b, f, g)) = whole table kind_of Phrase closed start w d in
    (so.whole x (of_kind k.End b same_b), cc)
