-- What a token is and says, and its kind: what it is without what it says.
use Rattle.std.specs.Prelude.{ℕ, ℤ, pos, zero, if◌then◌else◌, List, codes, nat_eq}
use Rattle.std.specs.Cmp.Lexicographic.{pointwise}
use Rattle.hc_ctoken.specs.declared.kind.Kind.{Kind}
use Rattle.hc_ctoken.specs.declared.kind.Kind.TheVariants as k
use Rattle.hc_ctoken.specs.declared.token.Lexeme.{Lexeme}
use Rattle.hc_ctoken.specs.declared.token.Lexeme.TheVariants as lex

-- `v_u` has a kind of its own among the words that begin with `v_`, and `0` among the numbers
abbrev pub local_kind : List ℕ → Kind
local_kind w = if pointwise nat_eq w (codes "v_u") then k.Unused else k.Local

abbrev pub number_kind : ℤ → Kind
number_kind (pos zero) = k.Zero
number_kind _ = k.Number

abbrev pub kind_of : Lexeme → Kind
kind_of (lex.Fixed one) = k.Fixed one
kind_of (lex.Array w) = k.Array
kind_of (lex.Function w) = k.Function
kind_of (lex.Local w) = local_kind w
kind_of (lex.Thread n) = k.Thread
kind_of (lex.Primitive p) = k.Primitive
kind_of (lex.Number n) = number_kind n
kind_of lex.EmptyText = k.Text
kind_of (lex.Text w) = k.Text
kind_of lex.End = k.End
kind_of lex.LongWord = k.LongWord
kind_of lex.LargeNumber = k.LargeNumber
kind_of (lex.Padded n) = k.Padded
kind_of lex.Other = k.Other
