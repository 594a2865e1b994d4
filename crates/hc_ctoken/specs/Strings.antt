-- Strings: a quote, at most one word, a quote.
use Rattle.std.specs.Prelude.{ℕ, ◌+◌, Bool, true, ◌&&◌, if◌then◌else◌, ◌==◌, List, [], ◌∷◌, length, drop, slice_index, take_while, Some}
use Rattle.std.specs.Char.{is_ascii_alphabetic}
use Rattle.hc_frac.specs.Word.{word_byte}
use Rattle.hc_scan.specs.declared.piece.Piece.{Piece}
use Rattle.hc_token.specs.declared.token.Lexeme as source
use Rattle.hc_token.specs.declared.token.Lexeme.TheVariants as src
use Rattle.hc_token.specs.Words.{word}
use Rattle.hc_ctoken.specs.declared.token.Lexeme.{Lexeme}
use Rattle.hc_ctoken.specs.declared.token.Lexeme.TheVariants as lex

-- a string says a name of the source language; the grammar has no string with another word of it
abbrev pub said : source.Lexeme → Lexeme
said (src.Name w) = lex.Text w
said src.LongWord = lex.LongWord
said _ = lex.Other

-- what is between the quotes
abbrev pub quoted : List ℕ → Lexeme
quoted [] = lex.EmptyText
quoted (b ∷ w) = said (word (b ∷ w))

-- a byte that begins no token
abbrev pub other : Piece Lexeme
other = record { len = 1; lexeme = Some lex.Other }

-- whether bytes of words are a word, or none at all
abbrev pub is_word_or_none : List ℕ → Bool
is_word_or_none [] = true
is_word_or_none (b ∷ w) = is_ascii_alphabetic b

-- whether a text begins with a quote
abbrev pub in_quote : List ℕ → Bool
in_quote z = slice_index z 0 == 34

-- the string that begins with a quote in front of z, or that quote alone, which begins no token
abbrev pub string_piece : List ℕ → Piece Lexeme
string_piece z =
    let w = take_while word_byte z in
    if is_word_or_none w && in_quote (drop (length w) z) then record { len = 2 + length w; lexeme = Some (quoted w) } else other
