-- A mark changes nothing of what is asked of a token as it stands.
use Rattle.std.proofs.Common.{◌≡◌, ℤ, Bool, refl, ap}
use Rattle.std.specs.Prelude.{Option, Some, None, pos, int_lt, not, ◌&&◌, ◌||◌, if◌then◌else◌}
use Rattle.hc_grammar.specs.Reader.{IsCalm}
use Rattle.hc_ctoken.specs.declared.token.Lexeme.{Lexeme}
use Rattle.hc_ctoken.specs.declared.token.Lexeme.TheVariants as lex
use Rattle.hc_ctoken.specs.declared.token.Token.{Token}
use Rattle.hc_cgrammar.specs.declared.flaw.Flaw.TheVariants as wrong
use Rattle.hc_cgrammar.specs.declared.role.Mark.{Mark}
use Rattle.hc_cgrammar.specs.declared.role.Mark.TheVariants as m
use Rattle.hc_cgrammar.specs.Limits.{most_elements, most_number}
use Rattle.hc_cgrammar.specs.State.{Shape, Call, State}
use Rattle.hc_cgrammar.specs.Walk.{with_argument, call_behind, after_mark}
use Rattle.hc_cgrammar.specs.Rules.{in_literal, out_of_range, unfit, reader}
use Rattle.std.specs.Option.{option_map}

argument_calm : (x : Shape) (c : Option Call) → in_literal (option_map (with_argument x) c) ≡ in_literal c
argument_calm x None = refl
argument_calm x (Some c) = refl

call_calm : (b : Mark) (s : State) → in_literal (call_behind b s) ≡ in_literal s.call
call_calm m.Argument s = argument_calm s.shape s.call
call_calm _ s = refl

range_calm : (b : Mark) (s : State) (n : ℤ) → out_of_range (after_mark b s) n ≡ out_of_range s n
range_calm b s n =
    ap (λ l. if s.at_length then int_lt n (pos 1) || int_lt (pos most_elements) n else not l && int_lt (pos most_number) n) (call_calm b s)

unfit_calm : (b : Mark) (l : Lexeme) (s : State) → unfit l (after_mark b s) ≡ unfit l s
unfit_calm b (lex.Number n) s = range_calm b s n
unfit_calm b (lex.Padded n) s = range_calm b s n
unfit_calm b lex.LongWord s = refl
unfit_calm b _ s = refl

pub calm : IsCalm reader
calm b t s = ap (λ u. if u then Some wrong.Limit else None) (unfit_calm b t.lexeme s)
