-- Each row makes a phrase of its parts: statements.
use Rattle.std.proofs.Common.{◌≡◌, refl, ap, true, List, [], ◌∷◌, ◌++◌}
use Rattle.hc_grammar.specs.declared.symbol.Symbol.TheVariants.{Token, Head, Mark}
use Rattle.hc_grammar.specs.Texts.{Read, Did}
use Rattle.hc_grammar.proofs.Phrases.{Chain, chain_append, closes_with}
use Rattle.hc_ctoken.specs.declared.kind.Kind.{Kind}
use Rattle.hc_ctoken.specs.declared.fixed.Fixed.TheVariants as fix
use Rattle.hc_ctoken.specs.declared.kind.Kind.TheVariants as k
use Rattle.hc_ctoken.specs.declared.token.Token as tok
use Rattle.hc_ctoken.specs.Tokens.{kind_of}
use Rattle.hc_cgrammar.specs.declared.role.Role.TheVariants as r
use Rattle.hc_cgrammar.specs.declared.role.Mark.TheVariants as m
use Rattle.hc_cgrammar.specs.Leaves.{Spelled, OfFixed, OfLocal}
use Rattle.hc_cgrammar.specs.Exprs as ex
use Rattle.hc_cgrammar.specs.Stmts as st
use Rattle.hc_cgrammar.specs.StmtRoles as spell
use Rattle.hc_ctable.specs.declared.head.Head.TheVariants as h
use Rattle.hc_ctable.specs.Symbols.{Rule, plain, fixed}
use Rattle.hc_ctable.specs.Rows.{unary, or_then, value, returned, arguments, more_arguments, statements, else_part, cases}
use Rattle.hc_ctable.specs.Table.{same, table}
use Rattle.hc_ctable.proofs.Leaves.{a_fixed, a_number, a_local, an_array, a_function, a_primitive}
use Rattle.hc_ctable.proofs.Phrase.{Phrase, ValueRest, valued, called, value_rest, ReturnedRest, nothing_returned, returned_value, returned_rest, ElseRest, no_else, with_else, else_rest, CasesRest, cases_rest}
use Rattle.hc_ctable.proofs.CloseExprs.{Makes, here, operands, makes_unary}
use Rattle.hc_ctable.proofs.Derive.{more_of_or}
use Rattle.hc_ctable.proofs.DeriveStmts.{behind_value, behind_returned, behind_argument}

-- an expression and what stands behind it, from its first operand
behind : (q : List Rule) (w u v : Spelled) → Phrase h.Unary w u → Chain table kind_of Phrase (more_of_or ++ q) u v
    → (x : ex.Or) × (u' : Spelled) × (w ≡ ex.or x u') × Chain table kind_of Phrase q u' v
behind q w u v e c =
    let (u', own, more) = chain_append table kind_of Phrase more_of_or q u v c in
    let (x, f) = operands w u u' e own in
    (x, u', f, more)

value_is : (w u v : Spelled) → Phrase h.Unary w u → Chain table kind_of Phrase (more_of_or ++ behind_value) u v → Phrase h.Value w v
value_is w u v e c =
    let (x, u1, f, (t, u2, same_t, e1, (u3, e2, e3))) = behind behind_value w u v e c in
    (valued x (a_fixed fix.Semicolon t same_t), cc)

returned_is : (w u v : Spelled) → Phrase h.Unary w u → Chain table kind_of Phrase (more_of_or ++ behind_returned) u v → Phrase h.Returned w v
returned_is w u v e c =
    let (x, u1, f, (t, u2, same_t, e1, (u3, e2, e3))) = behind behind_returned w u v e c in
    (returned_value x (a_fixed fix.Semicolon t same_t), cc)

argued : (w u v : Spelled) → Phrase h.Unary w u → Chain table kind_of Phrase (more_of_or ++ behind_argument) u v → Phrase h.Arguments w v
argued w u v e c =
    let (x, u1, f, (u2, e1, (u3, (xs, b, e2), e3))) = behind behind_argument w u v e c in
    (st.with x xs, b, cc)

module _ (t : tok.Token) where
  set_is : (i : same k.AnyLocal (kind_of t) ≡ true) (s : OfFixed fix.Equal) (n : ValueRest) (xs : st.Stmts) (w v : Spelled)
      → w ≡ Read s.0 r.Plain ∷ Did m.Fresh ∷ value_rest n (spell.stmts xs v) → Phrase h.Statements (Read t r.Target ∷ w) v
  set_is i s (valued x e) xs w v f = (st.then (st.set (a_local t i) s x e) xs, cc)
  set_is i s (called c e) xs w v f = (st.then (st.set_call (a_local t i) s c e) xs, cc)

  if_is : (i : kind_of t ≡ k.Fixed fix.If) (l : OfFixed fix.OpenRound) (x : ex.Or) (b : OfFixed fix.CloseRound) (y : st.Block) (n : ElseRest)
      (xs : st.Stmts) (w v : Spelled)
      → w ≡ Read l.0 r.Open ∷ Did m.Fresh ∷ ex.or x (Read b.0 r.Close ∷ spell.block y (else_rest n (spell.stmts xs v)))
      → Phrase h.Statements (Read t r.Plain ∷ w) v
  if_is i l x b y no_else xs w v f = (st.then (st.when (here fix.If t i refl) l x b y) xs, cc)
  if_is i l x b y (with_else u z) xs w v f = (st.then (st.choose (here fix.If t i refl) l x b y u z) xs, cc)

  return_is : (i : kind_of t ≡ k.Fixed fix.Return) (n : ReturnedRest) (xs : st.Stmts) (w v : Spelled)
      → w ≡ Did m.Fresh ∷ returned_rest n (spell.stmts xs v) → Phrase h.Statements (Read t r.Plain ∷ w) v
  return_is i (nothing_returned e) xs w v f = (st.then (st.return (here fix.Return t i refl) e) xs, cc)
  return_is i (returned_value x e) xs w v f = (st.then (st.return_value (here fix.Return t i refl) x e) xs, cc)

  pub makes_statements : (kind : Kind) → kind_of t ≡ kind → Makes h.Statements t (statements kind)
  makes_statements k.Local i = λ w v (s, u, same_s, e, (u1, e1, (u2, (n, e2), (u3, (xs, e3), e4)))).
      set_is (ap (same k.AnyLocal) i) (a_fixed fix.Equal s same_s) n xs w v (cc)
  makes_statements k.Unused i = λ w v (s, u, same_s, e, (u1, e1, (u2, (n, e2), (u3, (xs, e3), e4)))).
      set_is (ap (same k.AnyLocal) i) (a_fixed fix.Equal s same_s) n xs w v (cc)
  makes_statements k.Array i =
      λ w v (l, u, same_l, e, (u1, e1, (u2, (x, e2), (b, u3, same_b, e3, (s, u4, same_s, e4, (u5, e5, (u6, (y, e6), (c, u7, same_c, e7, (u8, e8, (u9, (xs, e9), e10)))))))))). (
        st.then
            (st.store (an_array t (ap (same k.Array) i)) (a_fixed fix.OpenSquare l same_l) x (a_fixed fix.CloseSquare b same_b)
            (a_fixed fix.Equal s same_s) y (a_fixed fix.Semicolon c same_c)) xs,
        cc,
      )
  makes_statements k.Function i =
      λ w v (l, u, same_l, e, (u1, e1, (u2, (ys, b, e2), (c, u3, same_c, e3, (u4, e4, (u5, (xs, e5), e6)))))). (
        st.then
            (st.do_call (st.call (st.function (a_function t (ap (same k.Function) i))) (a_fixed fix.OpenRound l same_l) ys b)
            (a_fixed fix.Semicolon c same_c)) xs,
        cc,
      )
  makes_statements k.Primitive i =
      λ w v (l, u, same_l, e, (u1, e1, (u2, (ys, b, e2), (c, u3, same_c, e3, (u4, e4, (u5, (xs, e5), e6)))))). (
        st.then
            (st.do_call (st.call (st.primitive (a_primitive t (ap (same k.Primitive) i))) (a_fixed fix.OpenRound l same_l) ys b)
            (a_fixed fix.Semicolon c same_c)) xs,
        cc,
      )
  makes_statements (k.Fixed fix.If) i =
      λ w v (l, u, same_l, e, (u1, e1, (u2, (x, e2), (b, u3, same_b, e3, (o, u4, same_o, e4, (u5, e5, (u6, (ys, e6), (p, u7, same_p, e7, (u8, (n, e8), (u9, (xs, e9), e10)))))))))).
      if_is i (a_fixed fix.OpenRound l same_l) x (a_fixed fix.CloseRound b same_b)
      (st.block (a_fixed fix.OpenCurly o same_o) ys (a_fixed fix.CloseCurly p same_p)) n xs w v (cc)
  makes_statements (k.Fixed fix.While) i =
      λ w v (l, u, same_l, e, (u1, e1, (u2, (x, e2), (b, u3, same_b, e3, (o, u4, same_o, e4, (u5, e5, (u6, (ys, e6), (p, u7, same_p, e7, (u8, e8, (u9, (xs, e9), e10)))))))))). (
        st.then
            (st.loop (here fix.While t i refl) (a_fixed fix.OpenRound l same_l) x (a_fixed fix.CloseRound b same_b)
            (st.block (a_fixed fix.OpenCurly o same_o) ys (a_fixed fix.CloseCurly p same_p))) xs,
        cc,
      )
  makes_statements (k.Fixed fix.Switch) i =
      λ w v (l, u, same_l, e, (u1, e1, (u2, (x, e2), (b, u3, same_b, e3, (o, u4, same_o, e4, (u5, e5, (u6, (n, e6), (u7, e7, (u8, (xs, e8), e9))))))))). (
        st.then
            (st.switch (here fix.Switch t i refl) (a_fixed fix.OpenRound l same_l) x (a_fixed fix.CloseRound b same_b) (a_fixed fix.OpenCurly o same_o)
            n.cases n.default_word n.colon n.otherwise n.break_word n.semicolon n.brace') xs,
        cc,
      )
  makes_statements (k.Fixed fix.Return) i = λ w v (u, e, (u1, (n, e1), (u2, (xs, e2), e3))). return_is i n xs w v (cc)
  makes_statements _ i = tt

  pub makes_else : (kind : Kind) → kind_of t ≡ kind → Makes h.Else t (else_part kind)
  makes_else (k.Fixed fix.Else) i = λ w v (o, u, same_o, e, (u1, e1, (u2, (ys, e2), (p, u3, same_p, e3, (u4, e4, e5))))).
      (with_else (here fix.Else t i refl) (st.block (a_fixed fix.OpenCurly o same_o) ys (a_fixed fix.CloseCurly p same_p)), cc)
  makes_else _ i = tt

  pub makes_cases : (kind : Kind) → kind_of t ≡ kind → Makes h.Cases t (cases kind)
  makes_cases (k.Fixed fix.Case) i =
      λ w v (n, u, same_n, e, (c, u1, same_c, e1, (o, u2, same_o, e2, (u3, e3, (u4, (ys, e4), (p, u5, same_p, e5, (b, u6, same_b, e6, (d, u7, same_d, e7, (u8, e8, (u9, (x, e9), e10)))))))))). (
        record {
          cases =
              st.next_case (here fix.Case t i refl) (a_number n same_n) (a_fixed fix.Colon c same_c)
              (st.block (a_fixed fix.OpenCurly o same_o) ys (a_fixed fix.CloseCurly p same_p))
              (a_fixed fix.Break b same_b) (a_fixed fix.Semicolon d same_d) x.cases;
          default_word = x.default_word;
          colon = x.colon;
          otherwise = x.otherwise;
          break_word = x.break_word;
          semicolon = x.semicolon;
          brace' = x.brace';
        },
        cc,
      )
  makes_cases (k.Fixed fix.Default) i =
      λ w v (c, u1, same_c, e1, (o, u2, same_o, e2, (u3, e3, (u4, (ys, e4), (p, u5, same_p, e5, (b, u6, same_b, e6, (d, u7, same_d, e7, (q, u8, same_q, e8, e9)))))))). (
        record {
          cases = st.no_case;
          default_word = here fix.Default t i refl;
          colon = a_fixed fix.Colon c same_c;
          otherwise = st.block (a_fixed fix.OpenCurly o same_o) ys (a_fixed fix.CloseCurly p same_p);
          break_word = a_fixed fix.Break b same_b;
          semicolon = a_fixed fix.Semicolon d same_d;
          brace' = a_fixed fix.CloseCurly q same_q;
        },
        cc,
      )
  makes_cases _ i = tt

  pub makes_value : (kind : Kind) → kind_of t ≡ kind → Makes h.Value t (value kind)
  makes_value k.Function i = λ w v (l, u, same_l, e, (u1, e1, (u2, (ys, b, e2), (c, u3, same_c, e3, (u4, e4, e5))))). (
    called (st.call (st.function (a_function t (ap (same k.Function) i))) (a_fixed fix.OpenRound l same_l) ys b)
        (a_fixed fix.Semicolon c same_c),
    cc,
  )
  makes_value k.Primitive i = λ w v (l, u, same_l, e, (u1, e1, (u2, (ys, b, e2), (c, u3, same_c, e3, (u4, e4, e5))))). (
    called (st.call (st.primitive (a_primitive t (ap (same k.Primitive) i))) (a_fixed fix.OpenRound l same_l) ys b)
        (a_fixed fix.Semicolon c same_c),
    cc,
  )
  makes_value kind i =
      closes_with table kind_of Phrase h.Unary h.Value t (more_of_or ++ behind_value) (unary kind) value_is (makes_unary t kind i)

  pub makes_returned : (kind : Kind) → kind_of t ≡ kind → Makes h.Returned t (returned kind)
  makes_returned (k.Fixed fix.Semicolon) i = λ w v (u, e, e1). (nothing_returned (here fix.Semicolon t i refl), cc)
  makes_returned kind i =
      closes_with table kind_of Phrase h.Unary h.Returned t (more_of_or ++ behind_returned) (unary kind) returned_is (makes_unary t kind i)

  pub makes_arguments : (kind : Kind) → kind_of t ≡ kind → Makes h.Arguments t (arguments kind)
  makes_arguments (k.Fixed fix.CloseRound) i = λ w v e. (st.without, here fix.CloseRound t i refl, cc)
  makes_arguments kind i =
      closes_with table kind_of Phrase h.Unary h.Arguments t (more_of_or ++ behind_argument) (unary kind) argued (makes_unary t kind i)

  pub makes_more_arguments : (kind : Kind) → kind_of t ≡ kind → Makes h.MoreArguments t (more_arguments kind)
  makes_more_arguments (k.Fixed fix.CloseRound) i = λ w v e. (st.no_argument, here fix.CloseRound t i refl, cc)
  makes_more_arguments (k.Fixed fix.Comma) i = λ w v (u, e, (u1, (x, e1), (u2, e2, (u3, (xs, b, e3), e4)))).
      (st.next_argument (here fix.Comma t i refl) x xs, b, cc)
  makes_more_arguments _ i = tt
