-- Words: keywords, primitives, and the names of arrays, functions, locals and threads, which their first letters tell apart.
use Rattle.std.specs.Prelude.{ℕ, Bool, not, ◌&&◌, if◌then◌else◌, List, length, drop, Option, Some, None, min, codes, nat_eq, nat_lt}
use Rattle.std.specs.Char.{is_ascii_digit}
use Rattle.std.specs.List.{list_all, starts_with}
use Rattle.std.specs.Str.Parse.{digits_value}
use Rattle.hc_limits.specs.Limits.{most_word_bytes}
use Rattle.hc_cast.specs.declared.primitive.Primitive.{Primitive}
use Rattle.hc_cast.specs.Primitives.{primitive_named}
use Rattle.hc_ctoken.specs.declared.fixed.Fixed.{Fixed}
use Rattle.hc_ctoken.specs.declared.token.Lexeme.{Lexeme}
use Rattle.hc_ctoken.specs.declared.token.Lexeme.TheVariants as lex
use Rattle.hc_ctoken.specs.Kinds.{keyword}
use Rattle.hc_ctoken.specs.Numbers.{is_padded}

-- a number without a leading zero, and nothing else
abbrev pub is_numeral : List ℕ → Bool
is_numeral ds = nat_lt 0 (length ds) && list_all is_ascii_digit ds && not (is_padded ds)

-- the number of a thread; where 64 bits don't hold it, the greatest that they hold
abbrev pub thread_number : List ℕ → ℕ
thread_number ds = min (digits_value 10 ds) 18446744073709551615

-- `t` and a number is a thread
abbrev pub thread : List ℕ → Lexeme
thread w = if starts_with nat_eq w (codes "t") && is_numeral (drop 1 w) then lex.Thread (thread_number (drop 1 w)) else lex.Other

-- a word that is no keyword and no primitive
abbrev pub named : List ℕ → Lexeme
named w =
    if starts_with nat_eq w (codes "a_") then lex.Array w
    else (if starts_with nat_eq w (codes "f_") then lex.Function w
    else (if starts_with nat_eq w (codes "v_") then lex.Local w
    else thread w))

abbrev pub primitive_or_name : Option Primitive → List ℕ → Lexeme
primitive_or_name (Some p) w = lex.Primitive p
primitive_or_name None w = named w

-- a word within the limit
abbrev pub short_word : Option Fixed → List ℕ → Lexeme
short_word (Some one) w = lex.Fixed one
short_word None w = primitive_or_name (primitive_named w) w

-- a word
unfoldable pub word : List ℕ → Lexeme
word w = if nat_lt most_word_bytes (length w) then lex.LongWord else short_word (keyword w) w
