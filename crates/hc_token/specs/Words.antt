-- Words: keywords, names and rates.
use Rattle.std.specs.Prelude.{ℕ, ◌-◌, Bool, not, ◌&&◌, if◌then◌else◌, List, length, take, Option, Some, None, is_some, codes, nat_eq, nat_lt}
use Rattle.std.specs.List.{ends_with}
use Rattle.hc_limits.specs.Limits.{most_word_bytes}
use Rattle.hc_token.specs.declared.fixed.Fixed.{Fixed}
use Rattle.hc_token.specs.declared.token.Lexeme.{Lexeme}
use Rattle.hc_token.specs.declared.token.Lexeme.TheVariants as lex
use Rattle.hc_token.specs.Kinds.{keyword}

-- whether a word ends in `_dot`
abbrev pub ends_in_dot : List ℕ → Bool
ends_in_dot w = ends_with nat_eq w (codes "_dot")

-- a word without these four bytes
abbrev pub front_of : List ℕ → List ℕ
front_of w = take (length w - 4) w

-- a name is a word that is no keyword and doesn't end in `_dot`
unfoldable pub is_name : List ℕ → Bool
is_name w = not (is_some (keyword w)) && not (ends_in_dot w)

-- a name with `_dot` behind it is a rate
abbrev pub before_dot : List ℕ → Lexeme
before_dot front = if is_name front then lex.Rate front else lex.Other

-- a word within the limit, which may be a keyword
abbrev pub short_word : Option Fixed → List ℕ → Lexeme
short_word (Some one) w = lex.Fixed one
short_word None w = if ends_in_dot w then before_dot (front_of w) else lex.Name w

-- a word
unfoldable pub word : List ℕ → Lexeme
word w = if nat_lt most_word_bytes (length w) then lex.LongWord else short_word (keyword w) w
