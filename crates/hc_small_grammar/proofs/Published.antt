-- The texts of the published grammar are those that the table derives.
use Rattle.std.proofs.Common.{◌≡◌, refl, ap, sym, subst, true, List, [], ◌∷◌}
use Rattle.hc_grammar.specs.declared.symbol.Symbol.TheVariants as want
use Rattle.hc_grammar.specs.Table.{Takes}
use Rattle.hc_grammar.specs.Texts.{mark_then}
use Rattle.hc_grammar.specs.Derives.{Derives, token, mark, takes, skips, done}
use Rattle.hc_grammar.proofs.Phrases.{Closes, Closed, whole}
use Rattle.hc_small_grammar.specs.declared.letters.Kind.{Kind}
use Rattle.hc_small_grammar.specs.declared.letters.Kind.TheVariants as k
use Rattle.hc_small_grammar.specs.declared.letters.Role.TheVariants as r
use Rattle.hc_small_grammar.specs.declared.letters.Head.{Head}
use Rattle.hc_small_grammar.specs.declared.letters.Head.TheVariants as h
use Rattle.hc_small_grammar.specs.declared.letters.Token.{Token}
use Rattle.hc_small_grammar.specs.Table as by
use Rattle.hc_small_grammar.specs.Table.{Rule, Row, same, table, start}
use Rattle.hc_small_grammar.specs.Grammar.{Value, name, brackets, First, unsaid, said, Lines, none, declared, used, dropped, Spelled, value, first, lines, IsSpelling}

abbrev kind_of : Token → Kind
kind_of t = t.kind

abbrev D : List Rule → Spelled → Type 0
D = Derives table kind_of

-- what a kind takes, where it takes itself alone
is_let : (kind : Kind) → same k.Let kind ≡ true → kind ≡ k.Let
is_let k.Let e = refl
is_let _ e = absurd (cc)

is_use : (kind : Kind) → same k.Use kind ≡ true → kind ≡ k.Use
is_use k.Use e = refl
is_use _ e = absurd (cc)

is_drop : (kind : Kind) → same k.Drop kind ≡ true → kind ≡ k.Drop
is_drop k.Drop e = refl
is_drop _ e = absurd (cc)

is_equal : (kind : Kind) → same k.Equal kind ≡ true → kind ≡ k.Equal
is_equal k.Equal e = refl
is_equal _ e = absurd (cc)

is_open : (kind : Kind) → same k.OpenRound kind ≡ true → kind ≡ k.OpenRound
is_open k.OpenRound e = refl
is_open _ e = absurd (cc)

-- whatever any name takes is a value
name_row : (kind : Kind) → same k.AnyName kind ≡ true → by.value kind ≡ Takes r.Uses []
name_row k.Name e = refl
name_row k.It e = refl
name_row _ e = absurd (cc)

value_text : (x : Value) (ss : List Rule) (w : Spelled) → D ss w → D (want.Head h.Value ∷ ss) (value x w)
value_text (name t) ss w d = takes (name_row t.0.kind t.1) d
value_text (brackets bracket x close) ss w d =
    takes (ap by.value (is_open bracket.0.kind bracket.1)) (value_text x _ _ (token close.1 (mark d)))

first_text : (x : First) (ss : List Rule) (w : Spelled) → D ss w → D (want.Head h.First ∷ ss) (first x w)
first_text unsaid ss w d = skips refl d
first_text (said sign x) ss w d = takes (ap by.first (is_equal sign.0.kind sign.1)) (value_text x ss w d)

lines_text : (x : Lines) (ss : List Rule) (w : Spelled) → D ss w → D (want.Head h.Lines ∷ ss) (lines x w)
lines_text none ss w d = skips refl d
lines_text (declared word t x semicolon more) ss w d =
    takes (ap by.lines (is_let word.0.kind word.1)) (token t.1 (first_text x _ _ (token semicolon.1 (lines_text more ss w d))))
lines_text (used word x semicolon more) ss w d =
    takes (ap by.lines (is_use word.0.kind word.1)) (value_text x _ _ (token semicolon.1 (lines_text more ss w d)))
lines_text (dropped word t semicolon more) ss w d =
    takes (ap by.lines (is_drop word.0.kind word.1)) (token t.1 (token semicolon.1 (lines_text more ss w d)))

pub derived : (w : Spelled) → IsSpelling w → D start w
derived w (x, end, e) = subst (D start) (sym e) (lines_text x _ _ (token end.1 done))

-- w is a phrase and then v
abbrev Phrase : Head → Spelled → Spelled → Type 0
Phrase h.Value w v = (x : Value) × (w ≡ value x v)
Phrase h.First w v = (x : First) × (w ≡ first x v)
Phrase h.Lines w v = (x : Lines) × (w ≡ lines x v)

abbrev Makes : Head → Token → Row → Type 0
Makes head t row = Closes table kind_of Phrase head t row

makes_value : (t : Token) (kind : Kind) → t.kind ≡ kind → Makes h.Value t (by.value kind)
makes_value t k.Name i = λ w v e. (name (t, ap (same k.AnyName) i), cc)
makes_value t k.It i = λ w v e. (name (t, ap (same k.AnyName) i), cc)
makes_value t k.OpenRound i = λ w v (u, (x, e), (close, u1, same_close, e1, (u2, e2, e3))).
    (brackets (t, ap (same k.OpenRound) i) x (close, same_close), cc)
makes_value t _ i = tt

makes_first : (t : Token) (kind : Kind) → t.kind ≡ kind → Makes h.First t (by.first kind)
makes_first t k.Equal i = λ w v (u, (x, e), e1). (said (t, ap (same k.Equal) i) x, cc)
makes_first t _ i = tt

makes_lines : (t : Token) (kind : Kind) → t.kind ≡ kind → Makes h.Lines t (by.lines kind)
makes_lines t k.Let i = λ w v (n, u, same_n, e, (u0, (x, e0), (s, u1, same_s, e1, (u2, (more, e2), e3)))).
    (declared (t, ap (same k.Let) i) (n, same_n) x (s, same_s) more, cc)
makes_lines t k.Use i = λ w v (u, (x, e), (s, u1, same_s, e1, (u2, (more, e2), e3))).
    (used (t, ap (same k.Use) i) x (s, same_s) more, cc)
makes_lines t k.Drop i = λ w v (n, u, same_n, e, (s, u1, same_s, e1, (u2, (more, e2), e3))).
    (dropped (t, ap (same k.Drop) i) (n, same_n) (s, same_s) more, cc)
makes_lines t _ i = tt

row : (head : Head) (t : Token) → Makes head t (by.entry head t.kind)
row h.Value t = makes_value t t.kind refl
row h.First t = makes_first t t.kind refl
row h.Lines t = makes_lines t t.kind refl

nothing : (head : Head) (w : Spelled) → by.empties head ≡ true → Phrase head (mark_then (by.left_out head) w) w
nothing h.Lines w e = (none, refl)
nothing h.First w e = (unsaid, refl)
nothing h.Value w e = absurd (cc)

closed : Closed table kind_of Phrase
closed = record { row = row; nothing = nothing }

pub is_spelling : (w : Spelled) → D start w → IsSpelling w
is_spelling w d =
    let (u, (x, e), (end, u1, same_end, e1, e2)) = whole table kind_of Phrase closed start w d in
    (x, (end, same_end), cc)
