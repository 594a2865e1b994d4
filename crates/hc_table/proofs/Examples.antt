-- Each phrase of the table has a text.
use Rattle.std.proofs.Common.{◌≡◌, refl, true, List, [], ◌∷◌}
use Rattle.hc_grammar.specs.declared.symbol.Symbol.TheVariants.{Head}
use Rattle.hc_grammar.specs.Derives.{token, mark, takes, skips}
use Rattle.hc_grammar.specs.Ll1.{Examples}
use Rattle.hc_token.specs.Tokens.{first_place}
use Rattle.hc_token.specs.declared.kind.Kind.{Kind}
use Rattle.hc_token.specs.declared.fixed.Fixed.TheVariants as fix
use Rattle.hc_token.specs.declared.kind.Kind.TheVariants as k
use Rattle.hc_token.specs.declared.token.Token as tok
use Rattle.hc_token.specs.declared.token.Lexeme.{Lexeme}
use Rattle.hc_token.specs.declared.token.Lexeme.TheVariants as lex
use Rattle.hc_token.specs.Ranged.{decimal}
use Rattle.hc_ast.specs.Leaves.{Spelled}
use Rattle.hc_table.specs.declared.head.Head as head
use Rattle.hc_table.specs.declared.head.Head.TheVariants as h
use Rattle.hc_table.specs.Symbols.{Rule, an_expr, a_cond, a_seq}
use Rattle.hc_table.specs.Table.{same, table}
use Rattle.hc_table.proofs.Derive.{D, kind_of}

-- what a token of a kind may say
abbrev lexeme_of : Kind → Lexeme
lexeme_of (k.Fixed one) = lex.Fixed one
lexeme_of k.Name = lex.Name []
lexeme_of k.Rate = lex.Rate []
lexeme_of k.Number = lex.Number (decimal 0 0 refl)
lexeme_of k.End = lex.End
lexeme_of k.LongWord = lex.LongWord
lexeme_of k.LargeNumber = lex.LargeNumber
lexeme_of k.Other = lex.Other

-- a token of a kind
abbrev a : Kind → tok.Token
a kind = record { place = first_place; lexeme = lexeme_of kind }

pub same_self : (kind : Kind) → same kind kind ≡ true
same_self (k.Fixed fix.Module) = refl
same_self _ = refl

of_its_kind : (kind : Kind) → same kind (kind_of (a kind)) ≡ true
of_its_kind (k.Fixed one) = same_self (k.Fixed one)
of_its_kind _ = refl

-- some text of these symbols
abbrev Some_text : List Rule → Type 0
Some_text ss = (w : Spelled) × D ss w

module _ (ss : List Rule) (w : Spelled) (d : D ss w) where
  a_factor : Some_text (Head h.Factor ∷ ss)
  a_factor = (_, takes {t = a k.Number} refl d)

  an_expression : Some_text (an_expr ss)
  an_expression = (_, takes {t = a k.Number} refl (skips refl (skips refl d)))

  a_term : Some_text (Head h.Term ∷ ss)
  a_term = (_, takes {t = a k.Number} refl (skips refl d))

  a_condition : Some_text (a_cond ss)
  a_condition = (_, takes {t = a (k.Fixed fix.True)} refl (skips refl (skips refl d)))

  a_both : Some_text (Head h.Both ∷ ss)
  a_both = (_, takes {t = a (k.Fixed fix.True)} refl (skips refl d))

  some_statements : Some_text (Head h.Seq ∷ ss)
  some_statements = (_, takes {t = a (k.Fixed fix.Skip)} refl (mark (skips refl d)))

  a_sequence : Some_text (a_seq ss)
  a_sequence = (_, mark (takes {t = a (k.Fixed fix.Skip)} refl (mark (skips refl d))))

  a_meet : Some_text (Head h.Meet ∷ ss)
  a_meet = (_, takes {t = a (k.Fixed fix.Question)} refl (token {t = a k.Name} refl (mark d)))

a_phrase : (x : head.Head) (ss : List Rule) (w : Spelled) → D ss w → Some_text (Head x ∷ ss)
a_phrase h.Source ss w d =
    let (u, e) = a_sequence _ _ (token {t = a (k.Fixed fix.CloseRound)} refl (mark (takes {t = a (k.Fixed fix.EndSystem)} refl d))) in
    (_, takes {t = a (k.Fixed fix.System)} refl (takes {t = a k.Name} refl (token {t = a (k.Fixed fix.Equal)} refl (takes {t = a (k.Fixed fix.OpenRound)} refl e))))
a_phrase h.Params ss w d = (_, takes {t = a (k.Fixed fix.CloseRound)} refl d)
a_phrase h.MoreParams ss w d = (_, takes {t = a (k.Fixed fix.CloseRound)} refl d)
a_phrase h.Param ss w d = (_, takes {t = a (k.Fixed fix.Ch)} refl (token {t = a k.Name} refl (mark d)))
a_phrase h.Process ss w d =
    let (u, e) = a_sequence _ _ (token {t = a (k.Fixed fix.CloseRound)} refl (mark d)) in
    (_, takes {t = a k.Name} refl (token {t = a (k.Fixed fix.Equal)} refl (takes {t = a (k.Fixed fix.OpenRound)} refl e)))
a_phrase h.ProcessBody ss w d =
    let (u, e) = a_sequence _ _ (token {t = a (k.Fixed fix.CloseRound)} refl (mark d)) in (_, takes {t = a (k.Fixed fix.OpenRound)} refl e)
a_phrase h.Processes ss w d = (_, takes {t = a (k.Fixed fix.EndSystem)} refl d)
a_phrase h.Arguments ss w d = (_, takes {t = a (k.Fixed fix.CloseRound)} refl d)
a_phrase h.MoreArguments ss w d = (_, takes {t = a (k.Fixed fix.CloseRound)} refl d)
a_phrase h.Seq ss w d = some_statements ss w d
a_phrase h.Expr ss w d = an_expression ss w d
a_phrase h.Term ss w d = a_term ss w d
a_phrase h.Cond ss w d = a_condition ss w d
a_phrase h.Both ss w d = a_both ss w d
a_phrase h.Stmt ss w d = (_, takes {t = a (k.Fixed fix.Skip)} refl (mark d))
a_phrase h.Named ss w d = (_, takes {t = a (k.Fixed fix.Question)} refl (token {t = a k.Name} refl (mark (mark d))))
a_phrase h.Else ss w d = (_, takes {t = a (k.Fixed fix.EndIf)} refl (mark d))
a_phrase h.After ss w d = (_, takes {t = a (k.Fixed fix.StarStar)} refl (mark d))
a_phrase h.Branch ss w d =
    let (u, e) = a_sequence _ _ (mark d) in
    let (v, f) = a_meet _ _ (token {t = a (k.Fixed fix.Arrow)} refl e) in (_, takes {t = a k.Name} refl f)
a_phrase h.Meet ss w d = a_meet ss w d
a_phrase h.Branches ss w d = (_, takes {t = a (k.Fixed fix.CloseRound)} refl d)
a_phrase h.Rate ss w d =
    let (u, e) = an_expression _ _ (mark d) in (_, takes {t = a k.Rate} refl (token {t = a (k.Fixed fix.Equal)} refl (mark e)))
a_phrase h.Rates ss w d =
    let (u, e) = a_condition _ _ (token {t = a (k.Fixed fix.Greater)} refl d) in (_, takes {t = a (k.Fixed fix.And)} refl (mark e))
a_phrase h.Interrupt ss w d = (w, skips refl d)
a_phrase h.More ss w d = (w, skips refl d)
a_phrase h.Factor ss w d = a_factor ss w d
a_phrase h.Products ss w d = (w, skips refl d)
a_phrase h.Sums ss w d = (w, skips refl d)
a_phrase h.One ss w d = (_, takes {t = a (k.Fixed fix.True)} refl d)
a_phrase h.Compare ss w d = let (u, e) = an_expression _ _ (mark d) in (_, takes {t = a (k.Fixed fix.Less)} refl e)
a_phrase h.Ands ss w d = (w, skips refl d)
a_phrase h.Ors ss w d = (w, skips refl d)

pub examples : Examples table kind_of
examples = record { a_token = λ kind. (a kind, of_its_kind kind); a_phrase = a_phrase }
