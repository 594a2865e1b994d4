-- The names of channels and processes are built again.
use Rattle.std.proofs.Common.{◌≡◌, ◌<◌, ℕ, ◌+◌, ℤ, pos, Bool, true, false, ◌||◌, ◌&&◌, List, [], ◌∷◌, length, refl, ap, sym, ◌∙◌, arith}
use Rattle.std.specs.Prelude.{nat_lt}
use Rattle.std.proofs.lemmas.Bool.{true≢false}
use Rattle.std.proofs.lemmas.Bool.Decides.{nat_tests}
use Rattle.hc_grammar.specs.Texts as texts
use Rattle.hc_grammar.specs.Texts.{Read}
use Rattle.hc_ctoken.specs.declared.fixed.Fixed.TheVariants as fix
use Rattle.hc_ctoken.specs.declared.token.Lexeme.TheVariants as lex
use Rattle.hc_cgrammar.specs.declared.role.Role.{Role}
use Rattle.hc_cgrammar.specs.declared.role.Role.TheVariants as r
use Rattle.hc_cgrammar.specs.Leaves.{Word, Spelled, Saying, OfFixed, OfNumber, OfText, OfEmpty}
use Rattle.hc_cgrammar.specs.State.{Strings, State}
use Rattle.hc_cgrammar.specs.Rules.{breaks_rule}
use Rattle.hc_cgrammar.specs.Units as g
use Rattle.hc_cgrammar.specs.UnitRoles.{string, more_strings, header, strings, channel_names, process_names}
use Rattle.hc_cgrammar.specs.UnitTrees.{more_strings_tree, strings_tree, channels_tree, processes_tree}
use Rattle.hc_cspell.specs.Tokens.{Lexemes, fixed, numbered}
use Rattle.hc_cspell.specs.Units as canon
use Rattle.hc_cwrite.proofs.Follows.{Frame, at, frame_after}
use Rattle.hc_cwrite.proofs.Fine.{AllSound}
use Rattle.hc_cwrite.proofs.Pieces.{Piece, Any, both, as_part}
use Rattle.hc_cwrite.proofs.Stmts.{sign, plain, opens, closes}
use Rattle.hc_cwrite.proofs.Stages.{IsThere, Stage, from_piece, next, as_stage, given, token_at}
use Rattle.hc_cwrite.proofs.Threads.{frame, nothing_more, not_false, or_false, by_int, keeps_rule}

-- one string more, which isn't empty
abbrev one_more : Strings → Strings
one_more st = record { wanted = st.wanted; count = st.count + 1; has_empty = st.has_empty }

abbrev counted : List Word → Strings → Strings
counted [] st = st
counted (w ∷ ws) st = counted ws (one_more st)

counted_wanted : (ws : List Word) (st : Strings) → (counted ws st).wanted ≡ st.wanted
counted_wanted [] st = refl
counted_wanted (w ∷ ws) st = counted_wanted ws (one_more st)

counted_count : (ws : List Word) (st : Strings) → (counted ws st).count ≡ st.count + length ws
counted_count [] st = omega arith
counted_count (w ∷ ws) st = omega (arith, counted_count ws (one_more st))

-- the role of a string that counts it, and has no empty string behind another one
record IsNaming (role : Role) : Type 0 where
  named : (w : Word) (st : Strings) (k j : ℕ) → frame_after role (lex.Text w) (frame st k j) ≡ frame (one_more st) k j
  refuses : (st : Strings) (k j e : ℕ) (s : State) → 0 < st.count → breaks_rule role lex.EmptyText (at (frame st k j) e s) ≡ false → ⊥

none_counted : (b : Bool) (n : ℕ) → 0 < n → b || (true && nat_lt 0 n) ≡ false → ⊥
none_counted b n h e = let f : nat_lt 0 n ≡ false = (or_false b (true && nat_lt 0 n) e).1 in grind (arith, nat_tests)

channel_naming : IsNaming r.Channel
channel_naming = record {
  named = λ w st k j. refl;
  refuses = λ st k j e s h i. none_counted st.has_empty st.count h i;
}

process_naming : IsNaming r.Process
process_naming = record { named = λ w st k j. refl; refuses = λ st k j e s h i. true≢false i }

-- ---- soundness behind strings

string_sound : (role : Role) (x : g.String) (v : Spelled) → AllSound (texts.tokens_of (string role x v)) → AllSound (texts.tokens_of v)
string_sound role (g.named t) v s = s.1
string_sound role (g.empty t) v s = s.1

more_sound : (role : Role) (xs : g.MoreStrings) (v : Spelled) → AllSound (texts.tokens_of (more_strings role xs v))
    → AllSound (texts.tokens_of v)
more_sound role g.no_string v s = s
more_sound role (g.next_string comma x xs) v s = more_sound role xs v (string_sound role x (more_strings role xs v) s.1)

strings_sound : (role : Role) (x : g.Strings) (v : Spelled) → AllSound (texts.tokens_of (strings role x v)) → AllSound (texts.tokens_of v)
strings_sound role x v s =
    let end = Read x.brace'.0 r.EndNames ∷ Read x.semicolon.0 r.Plain ∷ v in
    (more_sound role x.others end (string_sound role x.first (more_strings role x.others end) s.1.1.1.1.1)).1.1

-- ---- strings

text_again : (role : Role) → IsNaming role → (st : Strings) (k j : ℕ) (t : OfText)
    → Stage {T = Saying (lex.Text t.1)} (frame st k j) (frame (one_more st) k j) (λ v. Read t.0 role ∷ v) (λ w. lex.Text t.1 ∷ w)
    (λ u v. Read u.0 role ∷ v) Any
text_again role n st k j t = token_at role (lex.Text t.1) t.0 (frame st k j) (frame (one_more st) k j) t.2 (n.named t.1 st k j) (λ x. x)

more_again : (role : Role) → IsNaming role → (st : Strings) → 0 < st.count → (k j : ℕ) (xs : g.MoreStrings)
    → Stage {T = g.MoreStrings} (frame st k j) (frame (counted (more_strings_tree xs) st) k j) (more_strings role xs)
    (canon.more_strings (more_strings_tree xs)) (more_strings role) (λ y. more_strings_tree y ≡ more_strings_tree xs)
more_again role n st some k j g.no_string =
    as_stage (λ u. g.no_string) _ _ _ (λ u v. refl) (λ w. refl) (λ u i. refl) (nothing_more (frame st k j))
more_again role n st some k j (g.next_string comma (g.named t) xs) =
    as_stage (λ q. g.next_string q.0 (g.named (q.1.0.0, t.1, q.1.0.1)) q.1.1) _ _ _ (λ q v. refl) (λ w. refl)
    (λ q i. ap (λ ws. t.1 ∷ ws) i.1.1)
    (next (from_piece (frame st k j) (plain fix.Comma comma)) (next (text_again role n st k j t)
    (more_again role n (one_more st) (omega (arith, some)) k j xs)))
more_again role n st some k j (g.next_string comma (g.empty t) xs) =
    given ⊥
    (λ v i.
    let rest = more_strings role xs v in
    let behind : IsThere (frame st k j) (Read t.0 role ∷ rest) =
    (from_piece (frame st k j) (plain fix.Comma comma)).leads (Read t.0 role ∷ rest) i in
    n.refuses st k j behind.1 behind.0 some (keeps_rule role t.0 lex.EmptyText (frame st k j) rest t.1 behind))
    (λ v s. more_sound role xs v s.1.1) (λ x. absurd x)

-- how the strings begin, where so many are said to follow
abbrev Opening : ℤ → Type 0
Opening n = OfFixed fix.OpenSquare × (Saying (lex.Number n) × (OfFixed fix.CloseSquare × (OfFixed fix.Equal × OfFixed fix.OpenCurly)))

abbrev opening : (n : ℤ) → Opening n → Spelled → Spelled
opening n q v = Read q.0.0 r.Open ∷ Read q.1.0.0 r.Count ∷ Read q.1.1.0.0 r.Close ∷ Read q.1.1.1.0.0 r.Plain ∷ Read q.1.1.1.1.0 r.Open ∷ v

abbrev begun : ℤ → Strings
begun n = record { wanted = n; count = 0; has_empty = false }

module _ (st : Strings) (k j : ℕ) (left : OfFixed fix.OpenSquare) (count : OfNumber) (right : OfFixed fix.CloseSquare)
    (equal : OfFixed fix.Equal) (brace : OfFixed fix.OpenCurly) (others : g.MoreStrings) (brace' : OfFixed fix.CloseCurly)
    (semicolon : OfFixed fix.Semicolon) where
  abbrev all_strings : g.String → g.Strings
  all_strings first = record {
    left = left;
    count = count;
    right = right;
    sign = equal;
    brace = brace;
    first = first;
    others = others;
    brace' = brace';
    semicolon = semicolon;
  }

  abbrev front_of : Spelled → Spelled
  front_of v = Read left.0 r.Open ∷ Read count.0 r.Count ∷ Read right.0 r.Close ∷ Read equal.0 r.Plain ∷ Read brace.0 r.Open ∷ v

  opening_again : (n : ℤ) → count.1 ≡ n
      → Stage {T = Opening n} (frame st k j) (frame (begun n) k j) front_of
      (λ w. fixed fix.OpenSquare ∷ lex.Number n ∷ fixed fix.CloseSquare ∷ fixed fix.Equal ∷ fixed fix.OpenCurly ∷ w) (opening n) Any
  opening_again n is =
      as_stage (λ q. (q.0, (q.1.0, (q.1.1.0, (q.1.1.1.0, q.1.1.1.1))))) _ _ _ (λ q v. refl) (λ w. refl) (λ q i. tt)
      (next (from_piece (frame st k j) (opens fix.OpenSquare left))
      (next (token_at r.Count (lex.Number n) count.0 (frame st k j) (frame (begun n) k j) (count.2 ∙ ap lex.Number is) refl (λ x. x))
      (from_piece (frame (begun n) k j) (both (closes fix.CloseSquare right) (both (plain fix.Equal equal) (opens fix.OpenCurly brace))))))

  end_rule : (A : Frame) (v : Spelled) → IsThere A (Read brace'.0 r.EndNames ∷ Read semicolon.0 r.Plain ∷ v)
      → A.strings.wanted ≡ pos A.strings.count
  end_rule A v i =
      by_int A.strings.wanted A.strings.count (not_false _
      (keeps_rule r.EndNames brace'.0 (lex.Fixed fix.CloseCurly) A (Read semicolon.0 r.Plain ∷ v) brace'.1 i))

  -- a name and further ones
  texts_again : (role : Role) → IsNaming role → (n : ℤ) (t : OfText)
      → Stage {T = Saying (lex.Text t.1) × g.MoreStrings} (frame (begun n) k j)
      (frame (counted (t.1 ∷ more_strings_tree others) (begun n)) k j) (λ v. Read t.0 role ∷ more_strings role others v)
      (canon.strings (t.1 ∷ more_strings_tree others)) (λ q v. Read q.0.0 role ∷ more_strings role q.1 v)
      (λ q. more_strings_tree q.1 ≡ more_strings_tree others)
  texts_again role naming n t =
      as_stage (λ q. q) _ _ _ (λ q v. refl) (λ w. refl) (λ q i. i.1)
      (next (text_again role naming (begun n) k j t) (more_again role naming (one_more (begun n)) (omega arith) k j others))

  counted_right : (role : Role) → IsNaming role → (t : OfText) (v : Spelled)
      → IsThere (frame st k j) (strings role (all_strings (g.named t)) v) → count.1 ≡ pos (length (t.1 ∷ more_strings_tree others))
  counted_right role naming t v i =
      let ws = t.1 ∷ more_strings_tree others in
      let end = Read brace'.0 r.EndNames ∷ Read semicolon.0 r.Plain ∷ v in
      let behind = (texts_again role naming count.1 t).leads end
      ((opening_again count.1 refl).leads (Read t.0 role ∷ more_strings role others end) i) in
      sym (counted_wanted ws (begun count.1)) ∙ end_rule (frame (counted ws (begun count.1)) k j) v behind
      ∙ ap pos (omega (arith, counted_count ws (begun count.1)))

  named_again : (role : Role) → IsNaming role → (t : OfText)
      → Stage {T = g.Strings} (frame st k j)
      (frame (counted (t.1 ∷ more_strings_tree others) (begun (pos (length (t.1 ∷ more_strings_tree others))))) k j)
      (strings role (all_strings (g.named t)))
      (λ w. fixed fix.OpenSquare ∷ numbered (length (t.1 ∷ more_strings_tree others)) ∷ fixed fix.CloseSquare ∷ fixed fix.Equal
      ∷ fixed fix.OpenCurly ∷ canon.strings (t.1 ∷ more_strings_tree others) (canon.end_of_names w))
      (strings role) (λ y. strings_tree y ≡ t.1 ∷ more_strings_tree others)
  named_again role naming t =
      let ws = t.1 ∷ more_strings_tree others in
      let n = pos (length ws) in
      given (count.1 ≡ n) (counted_right role naming t) (strings_sound role (all_strings (g.named t)))
      (λ is.
      as_stage
      (λ q. let y : g.Strings = record {
        left = q.0.0;
        count = (q.0.1.0.0, pos (length (t.1 ∷ more_strings_tree others)), q.0.1.0.1);
        right = q.0.1.1.0;
        sign = q.0.1.1.1.0;
        brace = q.0.1.1.1.1;
        first = g.named (q.1.0.0.0, t.1, q.1.0.0.1);
        others = q.1.0.1;
        brace' = q.1.1.0;
        semicolon = q.1.1.1;
      } in y) _ _ _ (λ q v. refl) (λ w. refl) (λ q i. ap (λ vs. t.1 ∷ vs) i.1.0)
      (next (opening_again n is) (next (texts_again role naming n t)
      (from_piece (frame (counted ws (begun n)) k j)
      (both (sign r.EndNames fix.CloseCurly brace' (λ l a. refl)) (plain fix.Semicolon semicolon))))))

  -- a first string that is empty
  empty_first : (t : OfEmpty) (v : Spelled)
      → IsThere (frame st k j) (strings r.Channel (all_strings (g.empty t)) v)
      → IsThere (frame (record { wanted = count.1; count = 0 + 1; has_empty = true }) k j)
      (more_strings r.Channel others (Read brace'.0 r.EndNames ∷ Read semicolon.0 r.Plain ∷ v))
  empty_first t v i =
      let rest = more_strings r.Channel others (Read brace'.0 r.EndNames ∷ Read semicolon.0 r.Plain ∷ v) in
      (token_at r.Channel lex.EmptyText t.0 (frame (begun count.1) k j)
      (frame (record { wanted = count.1; count = 0 + 1; has_empty = true }) k j) t.1 refl (λ x. x)).leads rest
      ((opening_again count.1 refl).leads (Read t.0 r.Channel ∷ rest) i)

  no_process : (t : OfEmpty) (v : Spelled) → IsThere (frame st k j) (strings r.Process (all_strings (g.empty t)) v) → ⊥
  no_process t v i =
      let rest = more_strings r.Process others (Read brace'.0 r.EndNames ∷ Read semicolon.0 r.Plain ∷ v) in
      true≢false (keeps_rule r.Process t.0 lex.EmptyText (frame (begun count.1) k j) rest t.1
      ((opening_again count.1 refl).leads (Read t.0 r.Process ∷ rest) i))

-- a string behind an empty one
none_behind_empty : (m : ℤ) (k j : ℕ) (comma : OfFixed fix.Comma) (x : g.String) (v : Spelled)
    → IsThere (frame (record { wanted = m; count = 0 + 1; has_empty = true }) k j)
    (Read comma.0 r.Plain ∷ string r.Channel x v) → ⊥
none_behind_empty m k j comma (g.named t) v i =
    let A = frame (record { wanted = m; count = 0 + 1; has_empty = true }) k j in
    true≢false (keeps_rule r.Channel t.0 (lex.Text t.1) A v t.2
    ((from_piece A (plain fix.Comma comma)).leads (Read t.0 r.Channel ∷ v) i))
none_behind_empty m k j comma (g.empty t) v i =
    let A = frame (record { wanted = m; count = 0 + 1; has_empty = true }) k j in
    true≢false (keeps_rule r.Channel t.0 lex.EmptyText A v t.1
    ((from_piece A (plain fix.Comma comma)).leads (Read t.0 r.Channel ∷ v) i))

-- the strings, whatever they lead to
abbrev Renamed : Role → (Lexemes → Lexemes) → Strings → ℕ → ℕ → g.Strings → Type 0
Renamed role c st k j x =
    (st' : Strings) × Stage {T = g.Strings} (frame st k j) (frame st' k j) (strings role x) c (strings role)
    (λ y. strings_tree y ≡ strings_tree x)

-- how the strings of a list of names are spelled behind the word
abbrev channel_strings : List Word → Lexemes → Lexemes
channel_strings [] w =
    fixed fix.OpenSquare ∷ numbered 1 ∷ fixed fix.CloseSquare ∷ fixed fix.Equal ∷ fixed fix.OpenCurly ∷ lex.EmptyText ∷ canon.end_of_names w
channel_strings (x ∷ xs) w =
    fixed fix.OpenSquare ∷ numbered (length (x ∷ xs)) ∷ fixed fix.CloseSquare ∷ fixed fix.Equal ∷ fixed fix.OpenCurly
    ∷ canon.strings (x ∷ xs) (canon.end_of_names w)

abbrev process_strings : List Word → Lexemes → Lexemes
process_strings xs w =
    fixed fix.OpenSquare ∷ numbered (length xs) ∷ fixed fix.CloseSquare ∷ fixed fix.Equal ∷ fixed fix.OpenCurly
    ∷ canon.strings xs (canon.end_of_names w)

channel_strings_again : (st : Strings) (k j : ℕ) (left : OfFixed fix.OpenSquare) (count : OfNumber) (right : OfFixed fix.CloseSquare)
    (equal : OfFixed fix.Equal) (brace : OfFixed fix.OpenCurly) (first : g.String) (others : g.MoreStrings) (brace' : OfFixed fix.CloseCurly)
    (semicolon : OfFixed fix.Semicolon)
    → Renamed r.Channel (channel_strings (strings_tree (all_strings st k j left count right equal brace others brace' semicolon first))) st k j
    (all_strings st k j left count right equal brace others brace' semicolon first)
channel_strings_again st k j left count right equal brace (g.named t) others brace' semicolon = (
  counted (t.1 ∷ more_strings_tree others) (begun (pos (length (t.1 ∷ more_strings_tree others)))),
  named_again st k j left count right equal brace others brace' semicolon r.Channel channel_naming t,
)
channel_strings_again st k j left count right equal brace (g.empty t) g.no_string brace' semicolon =
    let x : g.Strings = all_strings st k j left count right equal brace g.no_string brace' semicolon (g.empty t) in
    let st' : Strings = record { wanted = pos 1; count = 0 + 1; has_empty = true } in (
      st',
      given (count.1 ≡ pos 1)
          (λ v i. end_rule st k j left count right equal brace g.no_string brace' semicolon
          (frame (record { wanted = count.1; count = 0 + 1; has_empty = true }) k j) v
          (empty_first st k j left count right equal brace g.no_string brace' semicolon t v i))
          (strings_sound r.Channel x)
          (λ is.
          as_stage
          (λ q. let y : g.Strings = record {
            left = q.0.0;
            count = (q.0.1.0.0, pos 1, q.0.1.0.1);
            right = q.0.1.1.0;
            sign = q.0.1.1.1.0;
            brace = q.0.1.1.1.1;
            first = g.empty q.1.0;
            others = g.no_string;
            brace' = q.1.1.0;
            semicolon = q.1.1.1;
          } in y) _ _ _ (λ q v. refl) (λ w. refl) (λ q i. refl)
          (next (opening_again st k j left count right equal brace g.no_string brace' semicolon (pos 1) is)
          (next (token_at r.Channel lex.EmptyText t.0 (frame (begun (pos 1)) k j) (frame st' k j) t.1 refl (λ x. x))
          (from_piece (frame st' k j)
          (both (sign r.EndNames fix.CloseCurly brace' (λ l a. refl)) (plain fix.Semicolon semicolon)))))),
    )
channel_strings_again st k j left count right equal brace (g.empty t) (g.next_string comma y ys) brace' semicolon =
    let others = g.next_string comma y ys in
    let x : g.Strings = all_strings st k j left count right equal brace others brace' semicolon (g.empty t) in (
      st,
      given ⊥
          (λ v i. none_behind_empty count.1 k j comma y _ (empty_first st k j left count right equal brace others brace' semicolon t v i))
          (strings_sound r.Channel x) (λ i. absurd i),
    )

process_strings_again : (st : Strings) (k j : ℕ) (left : OfFixed fix.OpenSquare) (count : OfNumber) (right : OfFixed fix.CloseSquare)
    (equal : OfFixed fix.Equal) (brace : OfFixed fix.OpenCurly) (first : g.String) (others : g.MoreStrings) (brace' : OfFixed fix.CloseCurly)
    (semicolon : OfFixed fix.Semicolon)
    → Renamed r.Process (process_strings (strings_tree (all_strings st k j left count right equal brace others brace' semicolon first))) st k j
    (all_strings st k j left count right equal brace others brace' semicolon first)
process_strings_again st k j left count right equal brace (g.named t) others brace' semicolon = (
  counted (t.1 ∷ more_strings_tree others) (begun (pos (length (t.1 ∷ more_strings_tree others)))),
  named_again st k j left count right equal brace others brace' semicolon r.Process process_naming t,
)
process_strings_again st k j left count right equal brace (g.empty t) others brace' semicolon =
    let x : g.Strings = all_strings st k j left count right equal brace others brace' semicolon (g.empty t) in (
      st,
      given ⊥ (no_process st k j left count right equal brace others brace' semicolon t) (strings_sound r.Process x) (λ i. absurd i),
    )

header_again : (h : g.Header)
    → Piece {T = g.Header} (header h) (λ w. fixed fix.Const ∷ fixed fix.Char ∷ fixed fix.Star ∷ fixed fix.Const ∷ w) header Any
header_again h =
    as_part
    (λ q. let y : g.Header = record { const_word = q.0; char_word = q.1.0; star = q.1.1.0; const_word' = q.1.1.1 } in y) _ _ _
    (λ q v. refl) (λ w. refl) (λ q i. tt)
    (both (plain fix.Const h.const_word) (both (plain fix.Char h.char_word) (both (plain fix.Star h.star) (plain fix.Const h.const_word'))))

channels_spelled : (ws : List Word) (w : Lexemes)
    → canon.channels ws w
    ≡ fixed fix.Const ∷ fixed fix.Char ∷ fixed fix.Star ∷ fixed fix.Const ∷ fixed fix.ChanName ∷ channel_strings ws w
channels_spelled [] w = refl
channels_spelled (x ∷ xs) w = refl

pub channels_again : (st : Strings) (k j : ℕ) (x : g.ChannelNames)
    → (st' : Strings) × Stage {T = g.ChannelNames} (frame st k j) (frame st' k j) (channel_names x) (canon.channels (channels_tree x))
    channel_names (λ y. channels_tree y ≡ channels_tree x)
channels_again st k j (g.channel_names h word x) =
    let (st', again) = channel_strings_again st k j x.left x.count x.right x.sign x.brace x.first x.others x.brace' x.semicolon in (
      st',
      as_stage (λ q. g.channel_names q.0 q.1.0 q.1.1) _ _ _ (λ q v. refl) (λ w. channels_spelled (strings_tree x) w) (λ q i. i.1.1)
          (next (from_piece (frame st k j) (header_again h)) (next (from_piece (frame st k j) (plain fix.ChanName word)) again)),
    )

pub processes_again : (st : Strings) (k j : ℕ) (x : g.ProcessNames)
    → (st' : Strings) × Stage {T = g.ProcessNames} (frame st k j) (frame st' k j) (process_names x) (canon.processes (processes_tree x))
    process_names (λ y. processes_tree y ≡ processes_tree x)
processes_again st k j (g.process_names h word x) =
    let (st', again) = process_strings_again st k j x.left x.count x.right x.sign x.brace x.first x.others x.brace' x.semicolon in (
      st',
      as_stage (λ q. g.process_names q.0 q.1.0 q.1.1) _ _ _ (λ q v. refl) (λ w. refl) (λ q i. i.1.1)
          (next (from_piece (frame st k j) (header_again h)) (next (from_piece (frame st k j) (plain fix.ProcName word)) again)),
    )
