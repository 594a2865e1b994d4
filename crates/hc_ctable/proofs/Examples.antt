-- Each phrase of the table has a text.
use Rattle.std.proofs.Common.{◌≡◌, refl, true, List, [], ◌∷◌, ℕ, pos, codes}
use Rattle.hc_grammar.specs.declared.symbol.Symbol.TheVariants.{Head}
use Rattle.hc_grammar.specs.Derives.{token, mark, takes, skips}
use Rattle.hc_grammar.specs.Ll1.{Examples}
use Rattle.hc_scan.specs.Places.{first_place}
use Rattle.hc_cast.specs.declared.primitive.Primitive.TheVariants as primitive
use Rattle.hc_ctoken.specs.declared.kind.Kind.{Kind}
use Rattle.hc_ctoken.specs.declared.fixed.Fixed.TheVariants as fix
use Rattle.hc_ctoken.specs.declared.kind.Kind.TheVariants as k
use Rattle.hc_ctoken.specs.declared.token.Token as tok
use Rattle.hc_ctoken.specs.declared.token.Lexeme.{Lexeme}
use Rattle.hc_ctoken.specs.declared.token.Lexeme.TheVariants as lex
use Rattle.hc_ctoken.specs.Tokens.{kind_of}
use Rattle.hc_cgrammar.specs.declared.role.Role.{Role}
use Rattle.hc_cgrammar.specs.declared.role.Role.TheVariants as r
use Rattle.hc_cgrammar.specs.Leaves.{Spelled}
use Rattle.hc_ctable.specs.declared.head.Head as head
use Rattle.hc_ctable.specs.declared.head.Head.TheVariants as h
use Rattle.hc_ctable.specs.Symbols.{Rule, a_block, a_body}
use Rattle.hc_ctable.specs.Rows.{main, a_thread}
use Rattle.hc_ctable.specs.Table.{same, table}
use Rattle.hc_ctable.proofs.Derive.{D}
use Rattle.hc_ctable.proofs.Alike.{same_fixed}
use Rattle.std.proofs.Common.{◌++◌}

-- what a token that a wanted kind takes may say
abbrev lexeme_of : Kind → Lexeme
lexeme_of (k.Fixed one) = lex.Fixed one
lexeme_of k.Array = lex.Array []
lexeme_of k.Function = lex.Function []
lexeme_of k.Local = lex.Local []
lexeme_of k.Unused = lex.Local (codes "v_u")
lexeme_of k.Thread = lex.Thread 0
lexeme_of k.Primitive = lex.Primitive primitive.MLock
lexeme_of k.Number = lex.Number (pos 1)
lexeme_of k.Zero = lex.Number (pos 0)
lexeme_of k.Text = lex.EmptyText
lexeme_of k.End = lex.End
lexeme_of k.AnyNumber = lex.Number (pos 0)
lexeme_of k.AnyLocal = lex.Local []
lexeme_of k.LongWord = lex.LongWord
lexeme_of k.LargeNumber = lex.LargeNumber
lexeme_of k.Padded = lex.Padded (pos 0)
lexeme_of k.Other = lex.Other

-- such a token
abbrev a : Kind → tok.Token
a kind = record { place = first_place; lexeme = lexeme_of kind }

taken : (kind : Kind) → same kind (kind_of (a kind)) ≡ true
taken (k.Fixed one) = same_fixed one
taken _ = refl

-- some text of these symbols
abbrev Some_text : List Rule → Type 0
Some_text ss = (w : Spelled) × D ss w

module _ (ss : List Rule) (w : Spelled) (d : D ss w) where
  some_or : Some_text (Head h.Or ∷ ss)
  some_or = (_, takes {t = a k.Number} refl (skips refl (skips refl (skips refl (skips refl (skips refl d))))))

  some_sum : Some_text (Head h.Sum ∷ ss)
  some_sum = (_, takes {t = a k.Number} refl (skips refl (skips refl d)))

  some_block : Some_text (a_block ss)
  some_block =
      (_, token {t = a (k.Fixed fix.OpenCurly)} refl (mark (skips refl (token {t = a (k.Fixed fix.CloseCurly)} refl d))))

  some_body : (role : Role) → Some_text (a_body role ss)
  some_body role =
      (_, token {t = a (k.Fixed fix.OpenCurly)} refl (mark (skips refl (mark (skips refl (token {t = a (k.Fixed fix.CloseCurly)} refl d))))))

  some_main : Some_text (main ++ ss)
  some_main = (
    _,
    token {t = a (k.Fixed fix.Int)} refl (token {t = a (k.Fixed fix.Main)} refl (token {t = a (k.Fixed fix.OpenRound)} refl
        (token {t = a (k.Fixed fix.Void)} refl (token {t = a (k.Fixed fix.CloseRound)} refl (token {t = a (k.Fixed fix.OpenCurly)} refl
        (token {t = a (k.Fixed fix.Return)} refl (token {t = a (k.Fixed fix.HcMain)} refl (token {t = a (k.Fixed fix.OpenRound)} refl
        (token {t = a k.Zero} refl (token {t = a (k.Fixed fix.Comma)} refl (token {t = a (k.Fixed fix.HcThreads)} refl
        (token {t = a (k.Fixed fix.CloseRound)} refl (token {t = a (k.Fixed fix.Semicolon)} refl (token {t = a (k.Fixed fix.CloseCurly)} refl d)))))))))))))),
  )

  some_starred : Some_text (Head h.Starred ∷ ss)
  some_starred =
      let (u, e) = some_main in (
        _,
        takes {t = a (k.Fixed fix.OpenRound)} refl (token {t = a (k.Fixed fix.Star)} refl (token {t = a (k.Fixed fix.Const)} refl
            (token {t = a (k.Fixed fix.HcThreads)} refl (token {t = a (k.Fixed fix.OpenSquare)} refl (token {t = a k.Zero} refl
            (token {t = a (k.Fixed fix.CloseSquare)} refl (token {t = a (k.Fixed fix.CloseRound)} refl (token {t = a (k.Fixed fix.OpenRound)} refl
            (token {t = a (k.Fixed fix.Void)} refl (token {t = a (k.Fixed fix.Star)} refl (token {t = a (k.Fixed fix.CloseRound)} refl
            (token {t = a (k.Fixed fix.Equal)} refl (token {t = a (k.Fixed fix.OpenCurly)} refl (token {t = a k.Thread} refl
            (skips refl (token {t = a (k.Fixed fix.CloseCurly)} refl (token {t = a (k.Fixed fix.Semicolon)} refl e))))))))))))))))),
      )

  some_threads : Some_text (Head h.Threads ∷ ss)
  some_threads =
      let (u, e) = some_starred in
      (_, takes {t = a (k.Fixed fix.Static)} refl (token {t = a (k.Fixed fix.Void)} refl (token {t = a (k.Fixed fix.Star)} refl e)))

module _ (ss : List Rule) (w : Spelled) (d : D ss w) where
  -- the first thread, and what follows it
  some_voided : Some_text (Head h.Voided ∷ ss)
  some_voided =
      let (u, e) = some_threads ss w d in
      let (v, f) = some_body _ _ (mark e) r.EndThread in (
        _,
        takes {t = a (k.Fixed fix.Star)} refl (token {t = a k.Thread} refl (token {t = a (k.Fixed fix.OpenRound)} refl
            (token {t = a (k.Fixed fix.Void)} refl (token {t = a (k.Fixed fix.Star)} refl (token {t = a k.Unused} refl
            (token {t = a (k.Fixed fix.CloseRound)} refl f)))))),
      )

  some_kinded : Some_text (Head h.Kinded ∷ ss)
  some_kinded = let (u, e) = some_voided in (_, takes {t = a (k.Fixed fix.Void)} refl e)

  some_functions : Some_text (Head h.Functions ∷ ss)
  some_functions = let (u, e) = some_kinded in (_, takes {t = a (k.Fixed fix.Static)} refl e)

  some_unit : Some_text (Head h.Unit ∷ ss)
  some_unit =
      let (u, e) = some_functions in (
        _,
        takes {t = a (k.Fixed fix.Const)} refl (token {t = a (k.Fixed fix.Char)} refl (token {t = a (k.Fixed fix.Star)} refl
            (token {t = a (k.Fixed fix.Const)} refl (token {t = a (k.Fixed fix.ChanName)} refl (token {t = a (k.Fixed fix.OpenSquare)} refl
            (token {t = a k.Zero} refl (token {t = a (k.Fixed fix.CloseSquare)} refl (token {t = a (k.Fixed fix.Equal)} refl
            (token {t = a (k.Fixed fix.OpenCurly)} refl (token {t = a k.Text} refl (skips refl (token {t = a (k.Fixed fix.CloseCurly)} refl
            (token {t = a (k.Fixed fix.Semicolon)} refl (token {t = a (k.Fixed fix.Const)} refl (token {t = a (k.Fixed fix.Char)} refl
            (token {t = a (k.Fixed fix.Star)} refl (token {t = a (k.Fixed fix.Const)} refl (token {t = a (k.Fixed fix.ProcName)} refl
            (token {t = a (k.Fixed fix.OpenSquare)} refl (token {t = a k.Zero} refl (token {t = a (k.Fixed fix.CloseSquare)} refl
            (token {t = a (k.Fixed fix.Equal)} refl (token {t = a (k.Fixed fix.OpenCurly)} refl (token {t = a k.Text} refl
            (skips refl (token {t = a (k.Fixed fix.CloseCurly)} refl (token {t = a (k.Fixed fix.Semicolon)} refl e))))))))))))))))))))))))))),
      )

a_phrase : (x : head.Head) (ss : List Rule) (w : Spelled) → D ss w → Some_text (Head x ∷ ss)
a_phrase h.Unit ss w d = some_unit ss w d
a_phrase h.Channels ss w d = (w, skips refl d)
a_phrase h.Processes ss w d = (w, skips refl d)
a_phrase h.Functions ss w d = some_functions ss w d
a_phrase h.Kinded ss w d = some_kinded ss w d
a_phrase h.Voided ss w d = some_voided ss w d
a_phrase h.Threads ss w d = some_threads ss w d
a_phrase h.Starred ss w d = some_starred ss w d
a_phrase h.Listed ss w d = (w, skips refl d)
a_phrase h.Parameters ss w d = (_, takes {t = a (k.Fixed fix.Void)} refl d)
a_phrase h.MoreParameters ss w d = (w, skips refl d)
a_phrase h.Locals ss w d = (w, skips refl d)
a_phrase h.Statements ss w d = (w, skips refl d)
a_phrase h.Else ss w d = (_, skips refl d)
a_phrase h.Cases ss w d =
    let (u, e) =
    some_block _ _
    (token {t = a (k.Fixed fix.Break)} refl (token {t = a (k.Fixed fix.Semicolon)} refl (token {t = a (k.Fixed fix.CloseCurly)} refl d))) in
    (_, takes {t = a (k.Fixed fix.Default)} refl (token {t = a (k.Fixed fix.Colon)} refl e))
a_phrase h.Value ss w d = (
  _,
  takes {t = a k.Number} refl
      (skips refl (skips refl (skips refl (skips refl (skips refl (token {t = a (k.Fixed fix.Semicolon)} refl (mark d))))))),
)
a_phrase h.Returned ss w d = (_, takes {t = a (k.Fixed fix.Semicolon)} refl (mark d))
a_phrase h.Arguments ss w d = (_, takes {t = a (k.Fixed fix.CloseRound)} refl d)
a_phrase h.MoreArguments ss w d = (_, takes {t = a (k.Fixed fix.CloseRound)} refl d)
a_phrase h.Or ss w d = some_or ss w d
a_phrase h.Ors ss w d = (w, skips refl d)
a_phrase h.And ss w d = (_, takes {t = a k.Number} refl (skips refl (skips refl (skips refl (skips refl d)))))
a_phrase h.Ands ss w d = (w, skips refl d)
a_phrase h.Compared ss w d = (_, takes {t = a k.Number} refl (skips refl (skips refl (skips refl d))))
a_phrase h.Compare ss w d = (w, skips refl d)
a_phrase h.Sum ss w d = some_sum ss w d
a_phrase h.Sums ss w d = (w, skips refl d)
a_phrase h.Product ss w d = (_, takes {t = a k.Number} refl (skips refl d))
a_phrase h.Products ss w d = (w, skips refl d)
a_phrase h.Unary ss w d = (_, takes {t = a k.Number} refl d)

pub examples : Examples table kind_of
examples = record { a_token = λ kind. (a kind, taken kind); a_phrase = a_phrase }
