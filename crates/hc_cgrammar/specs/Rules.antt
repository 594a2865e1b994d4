-- What may be wrong with a token of a unit: limits, and rules on names.
use Rattle.std.specs.Prelude.{ℕ, ℤ, pos, Bool, true, false, not, ◌&&◌, ◌||◌, if◌then◌else◌, ◌==◌, List, [], ◌∷◌, length, Option, Some, None, is_some, is_none, nat_le, nat_lt, int_lt}
use Rattle.std.specs.List.{list_any}
use Rattle.std.specs.Ordering.{int_eq}
use Rattle.hc_grammar.specs.Reader.{Reader}
use Rattle.hc_ctoken.specs.declared.token.Lexeme.{Lexeme}
use Rattle.hc_ctoken.specs.declared.token.Lexeme.TheVariants as lex
use Rattle.hc_ctoken.specs.declared.token.Token.{Token}
use Rattle.hc_cgrammar.specs.declared.flaw.Flaw.{Flaw}
use Rattle.hc_cgrammar.specs.declared.flaw.Flaw.TheVariants as wrong
use Rattle.hc_cgrammar.specs.declared.role.Role.{Role}
use Rattle.hc_cgrammar.specs.declared.role.Role.TheVariants as r
use Rattle.hc_cgrammar.specs.declared.role.Mark.{Mark}
use Rattle.hc_cgrammar.specs.Limits.{most_open_items, most_nodes, most_channels, most_arrays, most_elements, most_functions, most_threads, most_locals, most_number}
use Rattle.hc_cgrammar.specs.State.{Shape, number, minus_number, Signature, Owner, function, thread, Call, State}
use Rattle.hc_cgrammar.specs.Walk.{name_of, value_of, is_among, opens, is_node, function_named, called, walk}

-- whether the third or the fourth argument of `fr_set` is under way
abbrev pub in_literal : Option Call → Bool
in_literal None = false
in_literal (Some c) = c.is_set && (c.commas == 2 || c.commas == 3)

-- whether a number can't stand where it does, whatever the grammar says there
abbrev pub out_of_range : State → ℤ → Bool
out_of_range s n =
    if s.at_length then int_lt n (pos 1) || int_lt (pos most_elements) n
    else not (in_literal s.call) && int_lt (pos most_number) n

-- as it stands: a word that is too long, or a number out of range
abbrev pub unfit : Lexeme → State → Bool
unfit lex.LongWord s = true
unfit lex.LargeNumber s = true
unfit (lex.Number n) s = out_of_range s n
unfit (lex.Padded n) s = out_of_range s n
unfit _ s = false

-- in its role: with it there are more of its sort than the limit
abbrev pub is_full : Role → State → Bool
is_full r.DeclareArray s = nat_le most_arrays (length s.arrays)
is_full r.Channel s = nat_le most_channels s.strings.count
is_full r.DeclareGiving s = nat_le most_functions (length s.functions)
is_full r.DeclareVoid s = nat_le most_functions (length s.functions)
is_full r.DeclareParameter s = nat_le most_locals (length s.locals)
is_full r.DeclareLocal s = nat_le most_locals (length s.locals)
is_full r.DeclareThread s = nat_le most_threads s.threads
is_full role s = is_node role && nat_le most_nodes s.nodes

-- in its role: it opens one item more than the limit
abbrev pub is_too_deep : Role → State → Bool
is_too_deep role s = opens role && nat_le most_open_items s.open_items

-- whether a string is the empty one
abbrev pub is_empty : Lexeme → Bool
is_empty lex.EmptyText = true
is_empty _ = false

-- whether a token names the thread of this number
abbrev pub names_thread : Lexeme → ℕ → Bool
names_thread (lex.Thread n) k = n == k
names_thread _ k = false

-- whether a token says this number
abbrev pub says : Lexeme → ℕ → Bool
says l n = int_eq (value_of l) (pos n)

abbrev pub gives : Option Signature → Bool
gives None = false
gives (Some f) = f.gives

-- whether an expression is a number; whether it is a number, or a minus and a number; whether it is the number 0
abbrev pub is_number : Shape → Bool
is_number (number n) = true
is_number _ = false

abbrev pub is_literal : Shape → Bool
is_literal (number n) = true
is_literal minus_number = true
is_literal _ = false

abbrev pub is_zero : Shape → Bool
is_zero (number n) = int_eq n (pos 0)
is_zero _ = false

-- whether the arguments of a call are as they must be, where the last one has this shape
abbrev pub are_right : Call → Shape → Bool
are_right c last = c.arguments == c.arity && (not c.is_set || (is_literal c.third && is_number last))

abbrev pub closes_well : Option Call → Shape → Bool
closes_well None last = true
closes_well (Some c) last = are_right c last

-- whether a number is among those of the innermost `switch`
abbrev pub is_case : List (List ℤ) → ℤ → Bool
is_case [] n = false
is_case (ns ∷ rest) n = list_any (λ k. int_eq k n) ns

-- whether a `return` may stand in a body: without a value, and with a value of this shape
abbrev pub may_return : Owner → Bool
may_return (function f) = not f.gives
may_return thread = false

abbrev pub may_return_value : Owner → Shape → Bool
may_return_value (function f) x = f.gives
may_return_value thread x = is_zero x

-- in its role: it breaks a rule on names
abbrev pub breaks_rule : Role → Lexeme → State → Bool
-- a name is declared for the second time in its scope
breaks_rule r.DeclareArray l s = is_among s.arrays (name_of l)
breaks_rule r.DeclareGiving l s = is_some (function_named s.functions (name_of l))
breaks_rule r.DeclareVoid l s = is_some (function_named s.functions (name_of l))
breaks_rule r.DeclareParameter l s = is_among s.locals (name_of l)
breaks_rule r.DeclareLocal l s = is_among s.locals (name_of l)
-- a name is used that isn't declared before
breaks_rule r.Target l s = not (is_among s.locals (name_of l))
breaks_rule r.Local l s = not (is_among s.locals (name_of l))
breaks_rule r.TargetArray l s = not (is_among s.arrays (name_of l))
breaks_rule r.Element l s = not (is_among s.arrays (name_of l))
breaks_rule r.Callee l s = is_none (called l s)
-- a result is taken of what isn't declared before, or gives none
breaks_rule r.GivingCallee l s = not (gives (called l s))
-- a thread isn't the next one, or stands in the table beyond the last one
breaks_rule r.DeclareThread l s = not (names_thread l s.threads)
breaks_rule r.Listed l s = not (names_thread l s.listed) || nat_le s.threads s.listed
-- the number of arguments is wrong, or those of `fr_set` aren't literal
breaks_rule r.CloseArguments l s = not (closes_well s.call s.shape)
-- a `return` has a value that it may not have, or hasn't the one that it must have
breaks_rule r.EndReturn l s = not (may_return s.owner)
breaks_rule r.EndValueReturn l s = not (may_return_value s.owner s.shape)
-- the last statement of a thread isn't a `return`
breaks_rule r.EndThread l s = not s.returned
-- the number of a case stood before
breaks_rule r.CaseNumber l s = is_case s.cases (value_of l)
-- a string is empty and not the first of `chan_name`, or follows an empty one
breaks_rule r.Channel l s = s.strings.has_empty || (is_empty l && nat_lt 0 s.strings.count)
breaks_rule r.Process l s = is_empty l
-- a number isn't that of the strings, of the threads, or of the names
breaks_rule r.EndNames l s = not (int_eq s.strings.wanted (pos s.strings.count))
breaks_rule r.TableCount l s = not (says l s.threads) || not (s.threads == s.strings.count)
breaks_rule r.EndTable l s = nat_lt s.listed s.threads
breaks_rule r.MainCount l s = not (says l s.threads)
breaks_rule _ l s = false

-- in its role, the first in this order
abbrev pub judged : Role → Lexeme → State → Option Flaw
judged role l s =
    if is_full role s then Some wrong.Limit
    else (if is_too_deep role s then Some wrong.TooDeep
    else (if breaks_rule role l s then Some wrong.Names else None))

-- the questions at each token of a unit
abbrev pub reader : Reader Token Role Mark State Flaw
reader = record {
  walk = walk;
  early = λ t s. if unfit t.lexeme s then Some wrong.Limit else None;
  syntax = wrong.Syntax;
  judge = λ role t s. judged role t.lexeme s;
}
