-- Each text of the grammar derives in the table: statements.
use Rattle.std.proofs.Common.{◌≡◌, refl, ap, ◌∙◌, List, [], ◌∷◌, ◌++◌, true}
use Rattle.hc_grammar.specs.declared.symbol.Symbol.TheVariants.{Token, Head, Mark}
use Rattle.hc_grammar.specs.Table.{Takes, with_more}
use Rattle.hc_grammar.specs.Texts.{Read, Did}
use Rattle.hc_grammar.specs.Derives.{token, mark, takes, skips}
use Rattle.hc_ctoken.specs.declared.kind.Kind.{Kind}
use Rattle.hc_ctoken.specs.declared.fixed.Fixed.TheVariants as fix
use Rattle.hc_ctoken.specs.declared.kind.Kind.TheVariants as k
use Rattle.hc_ctoken.specs.Lexemes as lexemes
use Rattle.hc_ctoken.specs.Tokens.{kind_of}
use Rattle.hc_cgrammar.specs.declared.role.Role.{Role}
use Rattle.hc_cgrammar.specs.declared.role.Role.TheVariants as r
use Rattle.hc_cgrammar.specs.declared.role.Mark.TheVariants as m
use Rattle.hc_cgrammar.specs.Leaves.{Spelled, OfFixed, OfFunction, OfPrimitive}
use Rattle.hc_cgrammar.specs.Exprs.{Or, or}
use Rattle.hc_cgrammar.specs.Stmts as g
use Rattle.hc_cgrammar.specs.StmtRoles as spell
use Rattle.hc_ctable.specs.declared.head.Head as head
use Rattle.hc_ctable.specs.declared.head.Head.TheVariants as h
use Rattle.hc_ctable.specs.Symbols.{Rule, Row, a_block, called, plain, fixed}
use Rattle.hc_ctable.specs.Rows.{unary, or_then, value, returned, arguments, more_arguments, statements, a_target, a_call, else_part, cases}
use Rattle.hc_ctable.specs.Table.{same, entry, table}
use Rattle.hc_ctable.proofs.Leaves.{at_local, at_number}
use Rattle.hc_ctable.proofs.Derive.{D, fixed_kind, array_kind, is, begins, more_of_or, operands_text, or_text}

pub function_kind : (t : OfFunction) → kind_of t.0 ≡ k.Function
function_kind t = ap lexemes.kind_of t.2

pub primitive_kind : (t : OfPrimitive) → kind_of t.0 ≡ k.Primitive
primitive_kind t = ap lexemes.kind_of t.2

-- what stands behind an expression that a local becomes, that is returned, and that is an argument
abbrev pub behind_value : List Rule
behind_value = plain fix.Semicolon ∷ Mark m.Set ∷ []

abbrev pub behind_returned : List Rule
behind_returned = fixed fix.Semicolon r.EndValueReturn ∷ Mark m.ValueReturn ∷ []

abbrev pub behind_argument : List Rule
behind_argument = Mark m.Argument ∷ Head h.MoreArguments ∷ []

-- each of these phrases begins as its expression does
value_row : (kind : Kind) (role : Role) (p : List Rule) → unary kind ≡ Takes role p → value kind ≡ Takes role (p ++ (more_of_or ++ behind_value))
value_row (k.Fixed fix.Minus) role p e = ap (with_more (more_of_or ++ behind_value)) e
value_row (k.Fixed fix.Exclamation) role p e = ap (with_more (more_of_or ++ behind_value)) e
value_row k.Number role p e = ap (with_more (more_of_or ++ behind_value)) e
value_row k.Zero role p e = ap (with_more (more_of_or ++ behind_value)) e
value_row k.Local role p e = ap (with_more (more_of_or ++ behind_value)) e
value_row k.Unused role p e = ap (with_more (more_of_or ++ behind_value)) e
value_row k.Array role p e = ap (with_more (more_of_or ++ behind_value)) e
value_row (k.Fixed fix.OpenRound) role p e = ap (with_more (more_of_or ++ behind_value)) e
value_row _ role p e = absurd (cc)

returned_row : (kind : Kind) (role : Role) (p : List Rule) → unary kind ≡ Takes role p → returned kind ≡ Takes role (p ++ (more_of_or ++ behind_returned))
returned_row (k.Fixed fix.Minus) role p e = ap (with_more (more_of_or ++ behind_returned)) e
returned_row (k.Fixed fix.Exclamation) role p e = ap (with_more (more_of_or ++ behind_returned)) e
returned_row k.Number role p e = ap (with_more (more_of_or ++ behind_returned)) e
returned_row k.Zero role p e = ap (with_more (more_of_or ++ behind_returned)) e
returned_row k.Local role p e = ap (with_more (more_of_or ++ behind_returned)) e
returned_row k.Unused role p e = ap (with_more (more_of_or ++ behind_returned)) e
returned_row k.Array role p e = ap (with_more (more_of_or ++ behind_returned)) e
returned_row (k.Fixed fix.OpenRound) role p e = ap (with_more (more_of_or ++ behind_returned)) e
returned_row _ role p e = absurd (cc)

arguments_row : (kind : Kind) (role : Role) (p : List Rule) → unary kind ≡ Takes role p → arguments kind ≡ Takes role (p ++ (more_of_or ++ behind_argument))
arguments_row (k.Fixed fix.Minus) role p e = ap (with_more (more_of_or ++ behind_argument)) e
arguments_row (k.Fixed fix.Exclamation) role p e = ap (with_more (more_of_or ++ behind_argument)) e
arguments_row k.Number role p e = ap (with_more (more_of_or ++ behind_argument)) e
arguments_row k.Zero role p e = ap (with_more (more_of_or ++ behind_argument)) e
arguments_row k.Local role p e = ap (with_more (more_of_or ++ behind_argument)) e
arguments_row k.Unused role p e = ap (with_more (more_of_or ++ behind_argument)) e
arguments_row k.Array role p e = ap (with_more (more_of_or ++ behind_argument)) e
arguments_row (k.Fixed fix.OpenRound) role p e = ap (with_more (more_of_or ++ behind_argument)) e
arguments_row _ role p e = absurd (cc)

more_arguments_text : (xs : g.MoreArguments) {ss : List Rule} {w : Spelled} → D (Head h.MoreArguments ∷ ss) w
    → D (Head h.MoreArguments ∷ ss) (spell.more_arguments xs w)
more_arguments_text g.no_argument d = d
more_arguments_text (g.next_argument s e xs) d =
    takes (ap more_arguments (fixed_kind s)) (mark (or_text e (mark (more_arguments_text xs d))))

-- a call behind its callee
call_text : (l : OfFixed fix.OpenRound) (xs : g.Arguments) (b : OfFixed fix.CloseRound) {ss : List Rule} {w : Spelled} → D ss w
    → D (called ss) (Read l.0 r.OpenArguments ∷ Did m.Fresh ∷ spell.arguments xs (Read b.0 r.CloseArguments ∷ w))
call_text l g.without b d = token (is fix.OpenRound l refl) (mark (takes (ap arguments (fixed_kind b)) d))
call_text l (g.with e xs) b d =
    token (is fix.OpenRound l refl)
    (mark (begins h.Unary h.Arguments (more_of_or ++ behind_argument) refl arguments_row
    (operands_text e (mark (more_arguments_text xs (takes (ap more_arguments (fixed_kind b)) d))))))

mutual
  pub stmts_text : (xs : g.Stmts) {ss : List Rule} {w : Spelled} → D ss w → D (Head h.Statements ∷ ss) (spell.stmts xs w)
  stmts_text g.no_more d = skips refl d
  stmts_text (g.then x xs) d = stmt_text x (stmts_text xs d)

  stmt_text : (x : g.Stmt) {ss : List Rule} {w : Spelled} → D (Head h.Statements ∷ ss) w → D (Head h.Statements ∷ ss) (spell.stmt x w)
  stmt_text (g.set v s e t) d =
      takes (at_local statements a_target refl refl v)
      (token (is fix.Equal s refl) (mark (begins h.Unary h.Value (more_of_or ++ behind_value) refl value_row
      (operands_text e (token (is fix.Semicolon t refl) (mark d))))))
  stmt_text (g.set_call v s (g.call (g.function n) l xs b) t) d =
      takes (at_local statements a_target refl refl v)
      (token (is fix.Equal s refl) (mark (takes (ap value (function_kind n)) (call_text l xs b (token (is fix.Semicolon t refl) (mark d))))))
  stmt_text (g.set_call v s (g.call (g.primitive n) l xs b) t) d =
      takes (at_local statements a_target refl refl v)
      (token (is fix.Equal s refl) (mark (takes (ap value (primitive_kind n)) (call_text l xs b (token (is fix.Semicolon t refl) (mark d))))))
  stmt_text (g.store a l i b s e t) d =
      takes (ap statements (array_kind a))
      (token (is fix.OpenSquare l refl) (mark (or_text i (token (is fix.CloseSquare b refl)
      (token (is fix.Equal s refl) (mark (or_text e (token (is fix.Semicolon t refl) (mark d)))))))))
  stmt_text (g.do_call (g.call (g.function n) l xs b) t) d =
      takes (ap statements (function_kind n)) (call_text l xs b (token (is fix.Semicolon t refl) (mark d)))
  stmt_text (g.do_call (g.call (g.primitive n) l xs b) t) d =
      takes (ap statements (primitive_kind n)) (call_text l xs b (token (is fix.Semicolon t refl) (mark d)))
  stmt_text (g.when u l e b x) d =
      takes (ap statements (fixed_kind u))
      (token (is fix.OpenRound l refl) (mark (or_text e (token (is fix.CloseRound b refl) (block_text x (skips refl d))))))
  stmt_text (g.choose u l e b x v y) d =
      takes (ap statements (fixed_kind u))
      (token (is fix.OpenRound l refl) (mark (or_text e (token (is fix.CloseRound b refl)
      (block_text x (takes (ap else_part (fixed_kind v)) (block_text y (mark d))))))))
  stmt_text (g.loop u l e b x) d =
      takes (ap statements (fixed_kind u))
      (token (is fix.OpenRound l refl) (mark (or_text e (token (is fix.CloseRound b refl) (block_text x (mark d))))))
  stmt_text (g.switch u l e b o xs v c x y t o') d =
      takes (ap statements (fixed_kind u))
      (token (is fix.OpenRound l refl) (mark (or_text e (token (is fix.CloseRound b refl)
      (token (is fix.OpenCurly o refl) (mark (cases_text xs
      (takes (ap cases (fixed_kind v)) (token (is fix.Colon c refl) (block_text x
      (token (is fix.Break y refl) (token (is fix.Semicolon t refl) (token (is fix.CloseCurly o' refl) (mark d))))))))))))))
  stmt_text (g.return u t) d = takes (ap statements (fixed_kind u)) (mark (takes (ap returned (fixed_kind t)) (mark d)))
  stmt_text (g.return_value u e t) d =
      takes (ap statements (fixed_kind u))
      (mark (begins h.Unary h.Returned (more_of_or ++ behind_returned) refl returned_row
      (operands_text e (token (is fix.Semicolon t refl) (mark d)))))

  block_text : (x : g.Block) {ss : List Rule} {w : Spelled} → D ss w → D (a_block ss) (spell.block x w)
  block_text (g.block o xs o') d =
      token (is fix.OpenCurly o refl) (mark (stmts_text xs (token (is fix.CloseCurly o' refl) d)))

  cases_text : (xs : g.Cases) {ss : List Rule} {w : Spelled} → D (Head h.Cases ∷ ss) w → D (Head h.Cases ∷ ss) (spell.cases xs w)
  cases_text g.no_case d = d
  cases_text (g.next_case u n c x y t xs) d =
      takes (ap cases (fixed_kind u))
      (token (at_number (same k.AnyNumber) true refl refl n) (token (is fix.Colon c refl) (block_text x
      (token (is fix.Break y refl) (token (is fix.Semicolon t refl) (mark (cases_text xs d)))))))
