-- Threads and their table are built again.
use Rattle.std.proofs.Common.{◌≡◌, ◌<◌, ◌==◌, ℕ, ◌+◌, ℤ, pos, Bool, true, false, not, ◌||◌, List, [], ◌∷◌, length, refl, ap, ap₂, sym, ◌∙◌, subst, arith}
use Rattle.std.specs.Prelude.{nat_le, nat_lt, codes}
use Rattle.std.specs.Ordering.{int_eq}
use Rattle.std.specs.Cmp.{signed_Decides}
use Rattle.std.proofs.lemmas.Bool.{true≢false, eqb-true}
use Rattle.std.proofs.lemmas.Bool.Decides.{nat_tests}
use Rattle.hc_grammar.specs.Texts as texts
use Rattle.hc_grammar.specs.Texts.{Read, Did}
use Rattle.hc_cast.specs.declared.program.CBody.{CBody}
use Rattle.hc_ctoken.specs.declared.fixed.Fixed.TheVariants as fix
use Rattle.hc_ctoken.specs.declared.token.Lexeme.{Lexeme}
use Rattle.hc_ctoken.specs.declared.token.Lexeme.TheVariants as lex
use Rattle.hc_ctoken.specs.declared.token.Token.{Token}
use Rattle.hc_cgrammar.specs.declared.role.Role.{Role}
use Rattle.hc_cgrammar.specs.declared.role.Role.TheVariants as r
use Rattle.hc_cgrammar.specs.declared.role.Mark.TheVariants as m
use Rattle.hc_cgrammar.specs.Leaves.{Spelled, Saying, OfFixed, OfNumber, OfThread}
use Rattle.hc_cgrammar.specs.State.{Strings}
use Rattle.hc_cgrammar.specs.Rules.{breaks_rule}
use Rattle.hc_cgrammar.specs.Units as g
use Rattle.hc_cgrammar.specs.UnitRoles.{thread, more_threads, more_listed, table, main}
use Rattle.hc_cgrammar.specs.UnitTrees.{thread_tree, more_threads_tree}
use Rattle.hc_cspell.specs.Tokens.{fixed, numbered}
use Rattle.hc_cspell.specs.Units as canon
use Rattle.hc_cwrite.proofs.Follows.{Frame, at, frame_after, judged_parts}
use Rattle.hc_cwrite.proofs.Fine.{AllSound}
use Rattle.hc_cwrite.proofs.Pieces.{Any, both, token, mark}
use Rattle.hc_cwrite.proofs.Stmts.{plain, opens, closes}
use Rattle.hc_cwrite.proofs.Parts.{body_again}
use Rattle.hc_cwrite.proofs.Stages.{IsThere, Stage, from_piece, next, as_stage, given, token_at}

-- a frame outside of arrays: the strings, and how many threads and names in the table there are
abbrev pub frame : Strings → ℕ → ℕ → Frame
frame st k j = record { at_length = false; strings = st; threads = k; listed = j }

-- ---- tests

pub not_false : (b : Bool) → not b ≡ false → b ≡ true
not_false true h = refl
not_false false h = absurd (true≢false h)

pub or_false : (a b : Bool) → a || b ≡ false → (a ≡ false) × (b ≡ false)
or_false true b h = absurd (true≢false h)
or_false false b h = (refl, h)

pub by_int : (z : ℤ) (k : ℕ) → int_eq z (pos k) ≡ true → z ≡ pos k
by_int z k h = (signed_Decides z (pos k)).0 h

-- a token in its role breaks no rule where it stands
pub keeps_rule : (role : Role) (t : Token) (l : Lexeme) (A : Frame) (v : Spelled) → t.lexeme ≡ l → (i : IsThere A (Read t role ∷ v))
    → breaks_rule role l (at A i.1 i.0) ≡ false
keeps_rule role t l A v is i =
    let P : Lexeme → Type 0 = λ l. breaks_rule role l (at A i.1 i.0) ≡ false in
    subst P is (judged_parts role t.lexeme (at A i.1 i.0) i.2.1).2

-- a number that is said to be that of the threads
says_number : (n : ℤ) (k : ℕ) → not (int_eq n (pos k)) ≡ false → n ≡ pos k
says_number n k h = by_int n k (not_false (int_eq n (pos k)) h)

-- nothing
pub nothing_more : (A : Frame) → Stage {T = Unit {0}} A A (λ v. v) (λ w. w) (λ u v. v) Any
nothing_more A = record {
  sound = λ v s. s;
  leads = λ v i. i;
  fine = λ v s i w h. h;
  reads = λ v s i w ts h. record { part = tt; others = ts; rest = h; tokens = λ v e. e; good = tt; goes = λ v v' f. f };
}

-- ---- threads

name_again : (st : Strings) (k j : ℕ) (t : OfThread)
    → Stage {T = Saying (lex.Thread k)} (frame st k j) (frame st (k + 1) j) (λ v. Read t.0 r.DeclareThread ∷ v) (λ w. lex.Thread k ∷ w)
    (λ u v. Read u.0 r.DeclareThread ∷ v) Any
name_again st k j t =
    given (t.1 ≡ k)
    (λ v i. eqb-true t.1 k (not_false (t.1 == k) (keeps_rule r.DeclareThread t.0 (lex.Thread t.1) (frame st k j) v t.2 i)))
    (λ v s. s.1)
    (λ is. token_at r.DeclareThread (lex.Thread k) t.0 (frame st k j) (frame st (k + 1) j) (t.2 ∙ ap lex.Thread is) refl (λ x. x))

pub thread_again : (st : Strings) (k : ℕ) (x : g.Thread)
    → Stage {T = g.Thread} (frame st k 0) (frame st (k + 1) 0) (thread x) (canon.thread k (thread_tree x)) thread
    (λ y. thread_tree y ≡ thread_tree x)
thread_again st k (g.thread static_word void_word star name left void_word' star' unused right b) =
    as_stage (λ q. g.thread q.0.0 q.0.1.0 q.0.1.1 (q.1.0.0, k, q.1.0.1) q.1.1.0 q.1.1.1.0 q.1.1.1.1.0 q.1.1.1.1.1.0 q.1.1.1.1.1.1.0
    q.1.1.1.1.1.1.1.0) _ _ _ (λ q v. refl) (λ w. refl) (λ q i. i.1.1.1.1.1.1.1.0)
    (next (from_piece (frame st k 0) (both (plain fix.Static static_word) (both (plain fix.Void void_word) (plain fix.Star star))))
    (next (name_again st k 0 name)
    (from_piece (frame st (k + 1) 0) (both (opens fix.OpenRound left) (both (plain fix.Void void_word') (both (plain fix.Star star')
    (both (token r.Plain (lex.Local (codes "v_u")) unused (λ l a. refl) (λ x. x)) (both (closes fix.CloseRound right)
    (both (body_again r.EndThread (λ l a. refl) b) (mark m.Thread))))))))))

-- how many threads there are behind further ones
abbrev pub count_behind : ℕ → g.MoreThreads → ℕ
count_behind k g.no_thread = k
count_behind k (g.next_thread x xs) = count_behind (k + 1) xs

pub count_is : (k : ℕ) (xs : g.MoreThreads) → count_behind k xs ≡ k + length (more_threads_tree xs)
count_is k g.no_thread = omega arith
count_is k (g.next_thread x xs) = omega (arith, count_is (k + 1) xs)

pub more_threads_again : (st : Strings) (k : ℕ) (xs : g.MoreThreads)
    → Stage {T = g.MoreThreads} (frame st k 0) (frame st (count_behind k xs) 0) (more_threads xs)
    (canon.threads_from k (more_threads_tree xs)) more_threads (λ y. more_threads_tree y ≡ more_threads_tree xs)
more_threads_again st k g.no_thread =
    as_stage (λ u. g.no_thread) _ _ _ (λ u v. refl) (λ w. refl) (λ u i. refl) (nothing_more (frame st k 0))
more_threads_again st k (g.next_thread x xs) =
    as_stage (λ q. g.next_thread q.0 q.1) _ _ _ (λ q v. refl) (λ w. refl) (λ q i. ap₂ ◌∷◌ i.0 i.1)
    (next (thread_again st k x) (more_threads_again st (k + 1) xs))

-- ---- the table

-- a name in the table, and then it isn't the last thread yet
listed_again : (st : Strings) (K j : ℕ) (t : OfThread)
    → Stage {T = Saying (lex.Thread j)} (frame st K j) (frame st K (j + 1)) (λ v. Read t.0 r.Listed ∷ v) (λ w. lex.Thread j ∷ w)
    (λ u v. Read u.0 r.Listed ∷ v) Any
listed_again st K j t =
    given (t.1 ≡ j)
    (λ v i.
    let h = or_false (not (t.1 == j)) (nat_le K j) (keeps_rule r.Listed t.0 (lex.Thread t.1) (frame st K j) v t.2 i) in
    eqb-true t.1 j (not_false (t.1 == j) h.0))
    (λ v s. s.1)
    (λ is. token_at r.Listed (lex.Thread j) t.0 (frame st K j) (frame st K (j + 1)) (t.2 ∙ ap lex.Thread is) refl (λ x. x))

-- further names and the bracket behind them, where so many threads are left
abbrev Listing : Type 0
Listing = g.MoreListed × OfFixed fix.CloseCurly

abbrev listing : Listing → Spelled → Spelled
listing q v = more_listed q.0 (Read q.1.0 r.EndTable ∷ v)

listed_sound : (xs : g.MoreListed) (brace : OfFixed fix.CloseCurly) (v : Spelled)
    → AllSound (texts.tokens_of (listing (xs, brace) v)) → AllSound (texts.tokens_of v)
listed_sound g.no_listed brace v s = s.1
listed_sound (g.next_listed comma name xs) brace v s = listed_sound xs brace v s.1.1

no_more_left : (K j : ℕ) (bs : List CBody) → K ≡ j + length bs → nat_lt j K ≡ false → length bs ≡ 0
no_more_left K j bs e h = grind (arith, nat_tests)

some_left : (K j : ℕ) (bs : List CBody) → K ≡ j + length bs → nat_le K j ≡ false → 0 < length bs
some_left K j bs e h = grind (arith, nat_tests)

more_listed_again : (st : Strings) (K j : ℕ) (bs : List CBody) → K ≡ j + length bs → (xs : g.MoreListed)
    → (brace : OfFixed fix.CloseCurly)
    → Stage {T = Listing} (frame st K j) (frame st K K) (listing (xs, brace)) (λ w. canon.more_listed j bs (fixed fix.CloseCurly ∷ w))
    listing Any
more_listed_again st K j [] e g.no_listed brace =
    as_stage (λ q. (g.no_listed, q)) _ _ _ (λ q v. refl) (λ w. refl) (λ q i. tt)
    (token_at r.EndTable (lex.Fixed fix.CloseCurly) brace.0 (frame st K j) (frame st K K) brace.1
    (ap (λ n. frame st K n) (omega (arith, e))) (λ x. x))
more_listed_again st K j (b ∷ bs) e g.no_listed brace =
    given ⊥
    (λ v i.
    let left = no_more_left K j (b ∷ bs) e (keeps_rule r.EndTable brace.0 (lex.Fixed fix.CloseCurly) (frame st K j) v brace.1 i) in
    absurd (omega (arith, left)))
    (λ v s. s.1) (λ x. absurd x)
more_listed_again st K j [] e (g.next_listed comma name xs) brace =
    given ⊥
    (λ v i.
    let rest = listing (xs, brace) v in
    let behind : IsThere (frame st K j) (Read name.0 r.Listed ∷ rest) =
    (from_piece (frame st K j) (plain fix.Comma comma)).leads (Read name.0 r.Listed ∷ rest) i in
    let h = or_false (not (name.1 == j)) (nat_le K j) (keeps_rule r.Listed name.0 (lex.Thread name.1) (frame st K j) rest name.2 behind) in
    let left = some_left K j [] e h.1 in
    absurd (omega (arith, left)))
    (λ v s. listed_sound xs brace v s.1.1) (λ x. absurd x)
more_listed_again st K j (b ∷ bs) e (g.next_listed comma name xs) brace =
    as_stage (λ q. (g.next_listed q.0 (q.1.0.0, j, q.1.0.1) q.1.1.0, q.1.1.1)) _ _ _ (λ q v. refl) (λ w. refl) (λ q i. tt)
    (next (from_piece (frame st K j) (plain fix.Comma comma)) (next (listed_again st K j name)
    (more_listed_again st K (j + 1) bs (omega (arith, e)) xs brace)))

-- where n threads are said to follow
count_again : (st : Strings) (K j : ℕ) (n : OfNumber) (role : Role) (m : ℕ) → m ≡ K
    → ((v : Spelled) → IsThere (frame st K j) (Read n.0 role ∷ v) → n.1 ≡ pos K)
    → frame_after role (lex.Number (pos m)) (frame st K j) ≡ frame st K j
    → Stage {T = Saying (lex.Number (pos m))} (frame st K j) (frame st K j) (λ v. Read n.0 role ∷ v) (λ w. numbered m ∷ w)
    (λ u v. Read u.0 role ∷ v) Any
count_again st K j n role m e fact quiet =
    given (n.1 ≡ pos K) fact (λ v s. s.1)
    (λ is. token_at role (lex.Number (pos m)) n.0 (frame st K j) (frame st K j) (n.2 ∙ ap lex.Number (is ∙ ap pos (sym e))) quiet (λ x. x))

pub table_again : (st : Strings) (K : ℕ) (b : CBody) (bs : List CBody) → length (b ∷ bs) ≡ K → (x : g.Table)
    → Stage {T = g.Table} (frame st K 0) (frame st K K) (table x) (canon.table (b ∷ bs)) table Any
table_again st K b bs e x =
    as_stage (λ q. let y : g.Table = record {
      static_word = q.0.0;
      void_word = q.0.1.0;
      star = q.0.1.1.0;
      left = q.0.1.1.1.0;
      star' = q.0.1.1.1.1.0;
      const_word = q.0.1.1.1.1.1.0;
      word = q.0.1.1.1.1.1.1.0;
      square = q.0.1.1.1.1.1.1.1;
      count = (q.1.0.0, pos (length (b ∷ bs)), q.1.0.1);
      square' = q.1.1.0.0;
      right = q.1.1.0.1.0;
      left' = q.1.1.0.1.1.0;
      void_word' = q.1.1.0.1.1.1.0;
      star'' = q.1.1.0.1.1.1.1.0;
      right' = q.1.1.0.1.1.1.1.1.0;
      sign = q.1.1.0.1.1.1.1.1.1.0;
      brace = q.1.1.0.1.1.1.1.1.1.1;
      first = (q.1.1.1.0.0, 0, q.1.1.1.0.1);
      others = q.1.1.1.1.0.0;
      brace' = q.1.1.1.1.0.1;
      semicolon = q.1.1.1.1.1;
    } in y) _ _ _ (λ q v. refl) (λ w. refl) (λ q i. tt)
    (next (from_piece (frame st K 0) (both (plain fix.Static x.static_word) (both (plain fix.Void x.void_word)
    (both (plain fix.Star x.star) (both (opens fix.OpenRound x.left) (both (plain fix.Star x.star') (both (plain fix.Const x.const_word)
    (both (plain fix.HcThreads x.word) (opens fix.OpenSquare x.square)))))))))
    (next (count_again st K 0 x.count r.TableCount (length (b ∷ bs)) e
    (λ v i. says_number x.count.1 K
    (or_false (not (int_eq x.count.1 (pos K))) (not (K == st.count))
    (keeps_rule r.TableCount x.count.0 (lex.Number x.count.1) (frame st K 0) v x.count.2 i)).0) refl)
    (next (from_piece (frame st K 0) (both (closes fix.CloseSquare x.square') (both (closes fix.CloseRound x.right)
    (both (opens fix.OpenRound x.left') (both (plain fix.Void x.void_word') (both (plain fix.Star x.star'')
    (both (closes fix.CloseRound x.right') (both (plain fix.Equal x.sign) (opens fix.OpenCurly x.brace)))))))))
    (next (listed_again st K 0 x.first)
    (next (more_listed_again st K (0 + 1) bs (omega (arith, e)) x.others x.brace')
    (from_piece (frame st K K) (plain fix.Semicolon x.semicolon)))))))

pub main_again : (st : Strings) (K m : ℕ) → m ≡ K → (x : g.Main)
    → Stage {T = g.Main} (frame st K K) (frame st K K) (main x) (canon.main m) main Any
main_again st K m e x =
    as_stage (λ q. let y : g.Main = record {
      int_word = q.0.0;
      word = q.0.1.0;
      left = q.0.1.1.0;
      void_word = q.0.1.1.1.0;
      right = q.0.1.1.1.1.0;
      brace = q.0.1.1.1.1.1.0;
      return_word = q.0.1.1.1.1.1.1.0;
      callee = q.0.1.1.1.1.1.1.1.0;
      left' = q.0.1.1.1.1.1.1.1.1;
      count = (q.1.0.0, pos m, q.1.0.1);
      comma = q.1.1.0;
      threads = q.1.1.1.0;
      right' = q.1.1.1.1.0;
      semicolon = q.1.1.1.1.1.0;
      brace' = q.1.1.1.1.1.1;
    } in y) _ _ _ (λ q v. refl) (λ w. refl) (λ q i. tt)
    (next (from_piece (frame st K K) (both (plain fix.Int x.int_word) (both (plain fix.Main x.word) (both (opens fix.OpenRound x.left)
    (both (plain fix.Void x.void_word) (both (closes fix.CloseRound x.right) (both (opens fix.OpenCurly x.brace)
    (both (plain fix.Return x.return_word) (both (plain fix.HcMain x.callee) (opens fix.OpenRound x.left'))))))))))
    (next (count_again st K K x.count r.MainCount m e
    (λ v i. says_number x.count.1 K (keeps_rule r.MainCount x.count.0 (lex.Number x.count.1) (frame st K K) v x.count.2 i)) refl)
    (from_piece (frame st K K) (both (plain fix.Comma x.comma) (both (plain fix.HcThreads x.threads) (both (closes fix.CloseRound x.right')
    (both (plain fix.Semicolon x.semicolon) (closes fix.CloseCurly x.brace'))))))))
