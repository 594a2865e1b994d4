-- Each row makes a phrase of its parts: units; so what the table derives is a text of the grammar.
use Rattle.std.proofs.Common.{◌≡◌, refl, ap, true, List, [], ◌∷◌}
use Rattle.hc_grammar.specs.declared.symbol.Symbol.TheVariants.{Token, Head, Mark}
use Rattle.hc_grammar.specs.Texts.{Read, Did, mark_then}
use Rattle.hc_grammar.specs.Derives.{Derives}
use Rattle.hc_grammar.proofs.Phrases.{Chain, Closed, whole}
use Rattle.hc_ctoken.specs.declared.kind.Kind.{Kind}
use Rattle.hc_ctoken.specs.declared.fixed.Fixed.TheVariants as fix
use Rattle.hc_ctoken.specs.declared.kind.Kind.TheVariants as k
use Rattle.hc_ctoken.specs.declared.token.Token as tok
use Rattle.hc_ctoken.specs.Tokens.{kind_of}
use Rattle.hc_cgrammar.specs.declared.role.Role.{Role}
use Rattle.hc_cgrammar.specs.declared.role.Role.TheVariants as r
use Rattle.hc_cgrammar.specs.declared.role.Mark.TheVariants as m
use Rattle.hc_cgrammar.specs.Leaves.{Spelled, OfFixed}
use Rattle.hc_cgrammar.specs.Exprs as ex
use Rattle.hc_cgrammar.specs.Stmts as st
use Rattle.hc_cgrammar.specs.Units as un
use Rattle.hc_cgrammar.specs.UnitRoles as write
use Rattle.hc_cgrammar.specs.Unit.{IsSpelling}
use Rattle.hc_ctable.specs.declared.head.Head as head
use Rattle.hc_ctable.specs.declared.head.Head.TheVariants as h
use Rattle.hc_ctable.specs.Symbols.{Rule, plain}
use Rattle.hc_ctable.specs.Rows.{strings, unit, more_strings, functions, a_function, kinded, voided, a_thread, threads, starred, listed, parameters, more_parameters, locals}
use Rattle.hc_ctable.specs.Rows as rows
use Rattle.hc_ctable.specs.Table.{same, entry, empties, left_out, table, start}
use Rattle.hc_ctable.proofs.Leaves as leaf
use Rattle.hc_ctable.proofs.Leaves.{a_fixed, a_number, a_local, a_string, string_spelled}
use Rattle.hc_ctable.proofs.Phrase.{Phrase, uncompared, no_else, FunctionsRest, functions_rest, ThreadsRest, threads_rest, FunctionBody, function_body, ThreadBody, thread_body, VoidedRest, voided_rest, KindedRest, kinded_rest, giving, void, StarredRest, starred_rest, thread, table_rest}
use Rattle.hc_ctable.proofs.Phrase as phrase
use Rattle.hc_ctable.proofs.CloseExprs.{Makes, here, makes_unary, makes_products, makes_product, makes_sums, makes_sum, makes_compare, makes_compared, makes_ands, makes_and, makes_ors, makes_or}
use Rattle.hc_ctable.proofs.CloseStmts.{makes_statements, makes_else, makes_cases, makes_value, makes_returned, makes_arguments, makes_more_arguments}

abbrev C : List Rule → Spelled → Spelled → Type 0
C = Chain table kind_of Phrase

module _ (t : tok.Token) where
  makes_channels : (kind : Kind) → kind_of t ≡ kind → Makes h.Channels t (more_strings r.Channel h.Channels kind)
  makes_channels (k.Fixed fix.Comma) i = λ w v (s, u, same_s, e, (u1, (xs, e1), e2)). (
    un.next_string (here fix.Comma t i refl) (a_string s same_s) xs,
    cc (string_spelled r.Channel s same_s (write.more_strings r.Channel xs v)),
  )
  makes_channels _ i = tt

  makes_processes : (kind : Kind) → kind_of t ≡ kind → Makes h.Processes t (more_strings r.Process h.Processes kind)
  makes_processes (k.Fixed fix.Comma) i = λ w v (s, u, same_s, e, (u1, (xs, e1), e2)). (
    un.next_string (here fix.Comma t i refl) (a_string s same_s) xs,
    cc (string_spelled r.Process s same_s (write.more_strings r.Process xs v)),
  )
  makes_processes _ i = tt

  makes_listed : (kind : Kind) → kind_of t ≡ kind → Makes h.Listed t (listed kind)
  makes_listed (k.Fixed fix.Comma) i = λ w v (n, u, same_n, e, (u1, (xs, e1), e2)).
      (un.next_listed (here fix.Comma t i refl) (leaf.a_thread n same_n) xs, cc)
  makes_listed _ i = tt

  makes_parameters : (kind : Kind) → kind_of t ≡ kind → Makes h.Parameters t (parameters kind)
  makes_parameters (k.Fixed fix.Void) i = λ w v e. (un.none (here fix.Void t i refl), cc)
  makes_parameters (k.Fixed fix.Int) i = λ w v (n, u, same_n, e, (u1, (xs, e1), e2)).
      (un.some (here fix.Int t i refl) (a_local n same_n) xs, cc)
  makes_parameters _ i = tt

  makes_more_parameters : (kind : Kind) → kind_of t ≡ kind → Makes h.MoreParameters t (more_parameters kind)
  makes_more_parameters (k.Fixed fix.Comma) i = λ w v (j, u, same_j, e, (n, u1, same_n, e1, (u2, (xs, e2), e3))).
      (un.next_parameter (here fix.Comma t i refl) (a_fixed fix.Int j same_j) (a_local n same_n) xs, cc)
  makes_more_parameters _ i = tt

  makes_locals : (kind : Kind) → kind_of t ≡ kind → Makes h.Locals t (locals kind)
  makes_locals (k.Fixed fix.Int) i = λ w v (n, u, same_n, e, (s, u1, same_s, e1, (z, u2, same_z, e2, (c, u3, same_c, e3, (u4, (xs, e4), e5))))).
      (un.next_local (here fix.Int t i refl) (a_local n same_n) (a_fixed fix.Equal s same_s) (leaf.a_zero z same_z) (a_fixed fix.Semicolon c same_c) xs, cc)
  makes_locals _ i = tt

-- strings behind the word of their array
strings_is : (role : Role) (others : head.Head) (p : List Rule)
    → ((w v : Spelled) → Phrase others w v → (x : un.MoreStrings) × (w ≡ write.more_strings role x v))
    → (w v : Spelled) → C (strings role others p) w v
    → (x : un.Strings) × (u : Spelled) × (w ≡ write.strings role x u) × C p u v
strings_is role others p named w v
    (l, u, same_l, e, (n, u1, same_n, e1, (b, u2, same_b, e2, (s, u3, same_s, e3, (o, u4, same_o, e4, (f, u5, same_f, e5, (u6, more, (q, u7, same_q, e7, (c, u8, same_c, e8, rest))))))))) =
    let (xs, e6) = named u5 u6 more in (
      record {
        left = a_fixed fix.OpenSquare l same_l;
        count = a_number n same_n;
        right = a_fixed fix.CloseSquare b same_b;
        sign = a_fixed fix.Equal s same_s;
        brace = a_fixed fix.OpenCurly o same_o;
        first = a_string f same_f;
        others = xs;
        brace' = a_fixed fix.CloseCurly q same_q;
        semicolon = a_fixed fix.Semicolon c same_c;
      },
      u8,
      cc (string_spelled role f same_f (write.more_strings role xs (Read q r.EndNames ∷ Read c r.Plain ∷ u8))),
      rest,
    )

-- a function behind its name, and a thread behind its name
function_is : (w v : Spelled) → C a_function w v
    → (x : FunctionBody) × (u : Spelled) × (w ≡ function_body x u) × C (Head h.Functions ∷ []) u v
function_is w v
    (l, u, same_l, e, (u1, e1, (u2, (ps, e2), (b, u3, same_b, e3, (o, u4, same_o, e4, (u5, e5, (u6, (ls, e6), (u7, e7, (u8, (ss, e8), (q, u9, same_q, e9, (u10, e10, rest))))))))))) = (
      record {
        left = a_fixed fix.OpenRound l same_l;
        parameters = ps;
        right = a_fixed fix.CloseRound b same_b;
        body = un.body (a_fixed fix.OpenCurly o same_o) ls ss (a_fixed fix.CloseCurly q same_q);
      },
      u10,
      cc,
      rest,
    )

thread_is : (w v : Spelled) → C a_thread w v
    → (x : ThreadBody) × (u : Spelled) × (w ≡ thread_body x u) × C (Head h.Threads ∷ []) u v
thread_is w v
    (l, u, same_l, e, (j, u1, same_j, e1, (s, u2, same_s, e2, (z, u3, same_z, e3, (b, u4, same_b, e4, (o, u5, same_o, e5, (u6, e6, (u7, (ls, e7), (u8, e8, (u9, (ss, e9), (q, u10, same_q, e10, (u11, e11, rest)))))))))))) = (
      record {
        left = a_fixed fix.OpenRound l same_l;
        void_word = a_fixed fix.Void j same_j;
        star = a_fixed fix.Star s same_s;
        unused = leaf.an_unused z same_z;
        right = a_fixed fix.CloseRound b same_b;
        body = un.body (a_fixed fix.OpenCurly o same_o) ls ss (a_fixed fix.CloseCurly q same_q);
      },
      u11,
      cc,
      rest,
    )

-- main
main_is : (w v : Spelled) → C rows.main w v → (x : un.Main) × (w ≡ write.main x v)
main_is w v
    (a, u, same_a, e, (b, u1, same_b, e1, (c, u2, same_c, e2, (d, u3, same_d, e3, (f, u4, same_f, e4, (g, u5, same_g, e5, (i, u6, same_i, e6, (j, u7, same_j, e7, (l, u8, same_l, e8, (n, u9, same_n, e9, (o, u10, same_o, e10, (p, u11, same_p, e11, (q, u12, same_q, e12, (s, u13, same_s, e13, (x, u14, same_x, e14, e15))))))))))))))) = (
      record {
        int_word = a_fixed fix.Int a same_a;
        word = a_fixed fix.Main b same_b;
        left = a_fixed fix.OpenRound c same_c;
        void_word = a_fixed fix.Void d same_d;
        right = a_fixed fix.CloseRound f same_f;
        brace = a_fixed fix.OpenCurly g same_g;
        return_word = a_fixed fix.Return i same_i;
        callee = a_fixed fix.HcMain j same_j;
        left' = a_fixed fix.OpenRound l same_l;
        count = a_number n same_n;
        comma = a_fixed fix.Comma o same_o;
        threads = a_fixed fix.HcThreads p same_p;
        right' = a_fixed fix.CloseRound q same_q;
        semicolon = a_fixed fix.Semicolon s same_s;
        brace' = a_fixed fix.CloseCurly x same_x;
      },
      cc,
    )

-- what follows "static" is a function, or the first thread
kinded_is : (t : OfFixed fix.Static) (n : KindedRest) (v : Spelled) → Phrase h.Functions (Read t.0 r.Plain ∷ kinded_rest n v) v
kinded_is t (giving i n x rest) v = (
  record {
    functions = un.next_function (un.giving t i n x.left x.parameters x.right x.body) rest.functions;
    first = rest.first;
    rest = rest.rest;
  },
  refl,
)
kinded_is t (void u (phrase.a_function n x rest)) v = (
  record {
    functions = un.next_function (un.plain t u n x.left x.parameters x.right x.body) rest.functions;
    first = rest.first;
    rest = rest.rest;
  },
  refl,
)
kinded_is t (void u (phrase.a_thread s n x rest)) v = (
  record {
    functions = un.no_function;
    first = un.thread t u s n x.left x.void_word x.star x.unused x.right x.body;
    rest = rest;
  },
  refl,
)

-- what follows "static" "void" "*" is a thread, or the table
starred_is : (t : OfFixed fix.Static) (u : OfFixed fix.Void) (s : OfFixed fix.Star) (n : StarredRest) (v : Spelled)
    → Phrase h.Threads (Read t.0 r.Plain ∷ Read u.0 r.Plain ∷ Read s.0 r.Plain ∷ starred_rest n v) v
starred_is t u s (thread n x rest) v = (
  record {
    others = un.next_thread (un.thread t u s n x.left x.void_word x.star x.unused x.right x.body) rest.others;
    table = rest.table;
    main = rest.main;
  },
  refl,
)
starred_is t u s (phrase.table x main) v = (
  record {
    others = un.no_thread;
    table = record {
      static_word = t;
      void_word = u;
      star = s;
      left = x.left;
      star' = x.star;
      const_word = x.const_word;
      word = x.word;
      square = x.square;
      count = x.count;
      square' = x.square';
      right = x.right;
      left' = x.left';
      void_word' = x.void_word;
      star'' = x.star';
      right' = x.right';
      sign = x.sign;
      brace = x.brace;
      first = x.first;
      others = x.others;
      brace' = x.brace';
      semicolon = x.semicolon;
    };
    main = main;
  },
  refl,
)

module _ (t : tok.Token) where
  makes_functions : (kind : Kind) → kind_of t ≡ kind → Makes h.Functions t (functions kind)
  makes_functions (k.Fixed fix.Static) i = λ w v (u, (n, e), e1).
      let (x, f) = kinded_is (here fix.Static t i refl) n v in (x, cc)
  makes_functions _ i = tt

  makes_kinded : (kind : Kind) → kind_of t ≡ kind → Makes h.Kinded t (kinded kind)
  makes_kinded (k.Fixed fix.Int) i = λ w v (n, u, same_n, e, c).
      let (x, u1, f, (u2, (rest, e1), e2)) = function_is u v c in
      (giving (here fix.Int t i refl) (leaf.a_function n same_n) x rest, cc)
  makes_kinded (k.Fixed fix.Void) i = λ w v (u, (n, e), e1). (void (here fix.Void t i refl) n, cc)
  makes_kinded _ i = tt

  makes_voided : (kind : Kind) → kind_of t ≡ kind → Makes h.Voided t (voided kind)
  makes_voided k.Function i = λ w v c.
      let (x, u1, f, (u2, (rest, e1), e2)) = function_is w v c in
      (phrase.a_function (leaf.a_function t (ap (same k.Function) i)) x rest, cc)
  makes_voided (k.Fixed fix.Star) i = λ w v (n, u, same_n, e, c).
      let (x, u1, f, (u2, (rest, e1), e2)) = thread_is u v c in
      (phrase.a_thread (here fix.Star t i refl) (leaf.a_thread n same_n) x rest, cc)
  makes_voided _ i = tt

  makes_threads : (kind : Kind) → kind_of t ≡ kind → Makes h.Threads t (threads kind)
  makes_threads (k.Fixed fix.Static) i = λ w v (u, u1, same_u, e, (s, u2, same_s, e1, (u3, (n, e2), e3))).
      let (x, f) = starred_is (here fix.Static t i refl) (a_fixed fix.Void u same_u) (a_fixed fix.Star s same_s) n v in (x, cc)
  makes_threads _ i = tt

  makes_starred : (kind : Kind) → kind_of t ≡ kind → Makes h.Starred t (starred kind)
  makes_starred k.Thread i = λ w v c.
      let (x, u1, f, (u2, (rest, e1), e2)) = thread_is w v c in
      (thread (leaf.a_thread t (ap (same k.Thread) i)) x rest, cc)
  makes_starred (k.Fixed fix.OpenRound) i =
      λ w v (a, u, same_a, e, (b, u1, same_b, e1, (c, u2, same_c, e2, (d, u3, same_d, e3, (n, u4, same_n, e4, (f, u5, same_f, e5, (g, u6, same_g, e6, (j, u7, same_j, e7, (l, u8, same_l, e8, (o, u9, same_o, e9, (p, u10, same_p, e10, (q, u11, same_q, e11, (s, u12, same_s, e12, (y, u13, same_y, e13, (u14, (xs, e14), (z, u15, same_z, e15, (m', u16, same_m, e16, rest))))))))))))))))).
      let (x, last) = main_is u16 v rest in (
        phrase.table
            (record {
              left = here fix.OpenRound t i refl;
              star = a_fixed fix.Star a same_a;
              const_word = a_fixed fix.Const b same_b;
              word = a_fixed fix.HcThreads c same_c;
              square = a_fixed fix.OpenSquare d same_d;
              count = a_number n same_n;
              square' = a_fixed fix.CloseSquare f same_f;
              right = a_fixed fix.CloseRound g same_g;
              left' = a_fixed fix.OpenRound j same_j;
              void_word = a_fixed fix.Void l same_l;
              star' = a_fixed fix.Star o same_o;
              right' = a_fixed fix.CloseRound p same_p;
              sign = a_fixed fix.Equal q same_q;
              brace = a_fixed fix.OpenCurly s same_s;
              first = leaf.a_thread y same_y;
              others = xs;
              brace' = a_fixed fix.CloseCurly z same_z;
              semicolon = a_fixed fix.Semicolon m' same_m;
            }) x,
        cc,
      )
  makes_starred _ i = tt

  -- what follows the names of channels
  abbrev behind_channels : List Rule
  behind_channels =
      plain fix.Const ∷ plain fix.Char ∷ plain fix.Star ∷ plain fix.Const ∷ plain fix.ProcName
      ∷ strings r.Process h.Processes (Head h.Functions ∷ [])

  makes_unit : (kind : Kind) → kind_of t ≡ kind → Makes h.Unit t (unit kind)
  makes_unit (k.Fixed fix.Static) i =
      λ w v (j, u, same_j, e, (n, u1, same_n, e1, (l, u2, same_l, e2, (c, u3, same_c, e3, (b, u4, same_b, e4, (s, u5, same_s, e5, (u6, e6, (u7, (x, e7), e8)))))))). (
        record {
          arrays =
              un.next_array
              (un.array (here fix.Static t i refl) (a_fixed fix.Int j same_j) (leaf.an_array n same_n) (a_fixed fix.OpenSquare l same_l)
              (a_number c same_c) (a_fixed fix.CloseSquare b same_b) (a_fixed fix.Semicolon s same_s)) x.arrays;
          channels = x.channels;
          processes = x.processes;
          rest = x.rest;
        },
        cc,
      )
  makes_unit (k.Fixed fix.Const) i =
      λ w v (a, u, same_a, e, (b, u1, same_b, e1, (c, u2, same_c, e2, (d, u3, same_d, e3, more)))).
      let (x, u4, f, (g, u5, same_g, e5, (j, u6, same_j, e6, (l, u7, same_l, e7, (n, u8, same_n, e8, (o, u9, same_o, e9, others)))))) =
      strings_is r.Channel h.Channels behind_channels (λ w v p. p) u3 v more in
      let (y, u10, f', (u11, (rest, e11), e12)) = strings_is r.Process h.Processes (Head h.Functions ∷ []) (λ w v p. p) u9 v others in (
        record {
          arrays = un.no_array;
          channels =
              un.channel_names
              (record {
                const_word = here fix.Const t i refl;
                char_word = a_fixed fix.Char a same_a;
                star = a_fixed fix.Star b same_b;
                const_word' = a_fixed fix.Const c same_c;
              }) (a_fixed fix.ChanName d same_d) x;
          processes =
              un.process_names
              (record {
                const_word = a_fixed fix.Const g same_g;
                char_word = a_fixed fix.Char j same_j;
                star = a_fixed fix.Star l same_l;
                const_word' = a_fixed fix.Const n same_n;
              }) (a_fixed fix.ProcName o same_o) y;
          rest = rest;
        },
        cc,
      )
  makes_unit _ i = tt

row : (x : head.Head) (t : tok.Token) → Makes x t (entry x (kind_of t))
row h.Unit t = makes_unit t (kind_of t) refl
row h.Channels t = makes_channels t (kind_of t) refl
row h.Processes t = makes_processes t (kind_of t) refl
row h.Functions t = makes_functions t (kind_of t) refl
row h.Kinded t = makes_kinded t (kind_of t) refl
row h.Voided t = makes_voided t (kind_of t) refl
row h.Threads t = makes_threads t (kind_of t) refl
row h.Starred t = makes_starred t (kind_of t) refl
row h.Listed t = makes_listed t (kind_of t) refl
row h.Parameters t = makes_parameters t (kind_of t) refl
row h.MoreParameters t = makes_more_parameters t (kind_of t) refl
row h.Locals t = makes_locals t (kind_of t) refl
row h.Statements t = makes_statements t (kind_of t) refl
row h.Else t = makes_else t (kind_of t) refl
row h.Cases t = makes_cases t (kind_of t) refl
row h.Value t = makes_value t (kind_of t) refl
row h.Returned t = makes_returned t (kind_of t) refl
row h.Arguments t = makes_arguments t (kind_of t) refl
row h.MoreArguments t = makes_more_arguments t (kind_of t) refl
row h.Or t = makes_or t (kind_of t) refl
row h.Ors t = makes_ors t (kind_of t) refl
row h.And t = makes_and t (kind_of t) refl
row h.Ands t = makes_ands t (kind_of t) refl
row h.Compared t = makes_compared t (kind_of t) refl
row h.Compare t = makes_compare t (kind_of t) refl
row h.Sum t = makes_sum t (kind_of t) refl
row h.Sums t = makes_sums t (kind_of t) refl
row h.Product t = makes_product t (kind_of t) refl
row h.Products t = makes_products t (kind_of t) refl
row h.Unary t = makes_unary t (kind_of t) refl

nothing : (x : head.Head) (w : Spelled) → empties x ≡ true → Phrase x (mark_then (left_out x) w) w
nothing h.Channels w e = (un.no_string, refl)
nothing h.Processes w e = (un.no_string, refl)
nothing h.Listed w e = (un.no_listed, refl)
nothing h.MoreParameters w e = (un.no_parameter, refl)
nothing h.Locals w e = (un.no_local, refl)
nothing h.Statements w e = (st.no_more, refl)
nothing h.Else w e = (no_else, refl)
nothing h.Ors w e = (ex.no_or, refl)
nothing h.Ands w e = (ex.no_and, refl)
nothing h.Compare w e = (uncompared, refl)
nothing h.Sums w e = (ex.no_more, refl)
nothing h.Products w e = (ex.no_other, refl)
nothing _ w e = absurd (cc)

closed : Closed table kind_of Phrase
closed = record { row = row; nothing = nothing }

-- a derived text is one of the grammar
pub is_spelling : (w : Spelled) → Derives table kind_of start w → IsSpelling w
is_spelling w d =
    let (u, (x, e), (b, v, same_b, f, g)) = whole table kind_of Phrase closed start w d in (
      record {
        arrays = x.arrays;
        channels = x.channels;
        processes = x.processes;
        functions = x.rest.functions;
        first = x.rest.first;
        others = x.rest.rest.others;
        table = x.rest.rest.table;
        main = x.rest.rest.main;
        last = leaf.an_end b same_b;
      },
      cc,
    )
