-- Every statement of a text is built again.
use Rattle.std.proofs.Common.{◌≡◌, ℤ, Bool, true, false, cond, List, ◌∷◌, length, map, Option, Some, None, refl, ap, ap₂, sym, ◌∙◌, subst}
use Rattle.std.specs.Prelude.{nat_lt}
use Rattle.hc_grammar.specs.Texts.{Read, Did}
use Rattle.hc_cast.specs.declared.primitive.Primitive.{Primitive}
use Rattle.hc_cast.specs.declared.primitive.Primitive.TheVariants as primitive
use Rattle.hc_cast.specs.Primitives.{primitives, primitive_named, text_of}
use Rattle.hc_cast.specs.declared.stmt.CStmt.{CStmt}
use Rattle.hc_cast.specs.declared.stmt.CStmt.TheVariants as s
use Rattle.hc_cast.specs.declared.stmt.CStmt.TheFolds.{fold-roll-CCase}
use Rattle.hc_cast.specs.declared.stmt.CCase.{roll-CCase}
use Rattle.hc_ctoken.specs.declared.fixed.Fixed.{Fixed}
use Rattle.hc_ctoken.specs.declared.fixed.Fixed.TheVariants as fix
use Rattle.hc_ctoken.specs.declared.token.Lexeme.TheVariants as lex
use Rattle.hc_ctoken.specs.Kinds.{keyword}
use Rattle.hc_ctoken.specs.Words.{primitive_or_name, short_word, word}
use Rattle.hc_cgrammar.specs.declared.role.Role.{Role}
use Rattle.hc_cgrammar.specs.declared.role.Role.TheVariants as r
use Rattle.hc_cgrammar.specs.declared.role.Mark.TheVariants as m
use Rattle.hc_cgrammar.specs.Leaves.{Word, Saying, OfFixed, OfLocal}
use Rattle.hc_cgrammar.specs.Exprs.{Or, or, or_tree}
use Rattle.hc_cgrammar.specs.Stmts as g
use Rattle.hc_cgrammar.specs.StmtRoles.{callee, more_arguments, arguments, call, stmts, stmt, block, cases}
use Rattle.hc_cgrammar.specs.StmtTrees.{callee_name, more_arguments_tree, arguments_tree, call_tree, stmts_tree, stmt_tree, block_tree, cases_tree}
use Rattle.hc_cspell.specs.declared.level.Level.TheVariants as at
use Rattle.hc_cspell.specs.Tokens.{Lexemes, fixed}
use Rattle.hc_cspell.specs.Exprs.{expr}
use Rattle.hc_cspell.specs.Stmts as canon
use Rattle.hc_cspell.specs.Stmts.{Spells, stmt_layer, case_layer}
use Rattle.hc_cspell.proofs.StmtForms.{spelled-Set, spelled-Store, spelled-Call, spelled-when, spelled-choose, spelled-While, spelled-Switch, spelled-Return}
use Rattle.hc_cwrite.proofs.Saying.{front}
use Rattle.hc_cwrite.proofs.Follows.{Frame, calm, Follows, free_token, Leads, lead_token}
use Rattle.hc_cwrite.proofs.Fine.{IsFine, IsReadAs, IsSoundAs}
use Rattle.hc_cwrite.proofs.Pieces.{Piece, Any, both, as_part, empty, IsCalm, token, mark}
use Rattle.hc_cwrite.proofs.Known.{at_own, fine_at, sound_behind, lead_behind}
use Rattle.hc_cwrite.proofs.Exprs.{or_known}

-- tokens by what they are
pub sign : (role : Role) (one : Fixed) (t : OfFixed one) → IsCalm role
    → Piece {T = OfFixed one} (λ v. Read t.0 role ∷ v) (λ w. fixed one ∷ w) (λ u v. Read u.0 role ∷ v) Any
sign role one t is_calm = token role (lex.Fixed one) t is_calm (λ x. tt)

pub plain : (one : Fixed) (t : OfFixed one)
    → Piece {T = OfFixed one} (λ v. Read t.0 r.Plain ∷ v) (λ w. fixed one ∷ w) (λ u v. Read u.0 r.Plain ∷ v) Any
plain one t = sign r.Plain one t (λ l a. refl)

pub opens : (one : Fixed) (t : OfFixed one)
    → Piece {T = OfFixed one} (λ v. Read t.0 r.Open ∷ v) (λ w. fixed one ∷ w) (λ u v. Read u.0 r.Open ∷ v) Any
opens one t = sign r.Open one t (λ l a. refl)

pub closes : (one : Fixed) (t : OfFixed one)
    → Piece {T = OfFixed one} (λ v. Read t.0 r.Close ∷ v) (λ w. fixed one ∷ w) (λ u v. Read u.0 r.Close ∷ v) Any
closes one t = sign r.Close one t (λ l a. refl)

pub local : (role : Role) (t : OfLocal) → IsCalm role
    → Piece {T = Saying (lex.Local t.1)} (λ v. Read t.0 role ∷ v) (λ w. lex.Local t.1 ∷ w) (λ u v. Read u.0 role ∷ v) Any
local role t is_calm = token role (lex.Local t.1) (t.0, t.2) is_calm (λ x. x)

-- an expression
pub expression : (x : Or) → Piece {T = Or} (or x) (expr (or_tree x) at.Or) or (λ y. or_tree y ≡ or_tree x)
expression x =
    let k = or_known x in record {
      sound = λ v s. sound_behind at.Or (or_tree x) (or x) k v s;
      fine = λ v s w fine. fine_at at.Or (or_tree x) (or x) k at.Or v s w fine;
      leads = λ a v. lead_behind at.Or (or_tree x) (or x) k a v;
      reads = λ v s w ts h.
          let p = at_own at.Or (or_tree x) (or x) k w ts h in
          record {
            part = p.part;
            others = p.others;
            rest = p.rest;
            tokens = p.tokens;
            good = p.tree;
            goes = λ a v v' f. p.goes 0 0 a v v' f;
          };
    }

-- ---- calls

-- a word that is read as a function is no primitive
by_primitive : (o : Option Primitive) (w : Word) → primitive_or_name o w ≡ lex.Function w → canon.callee_of o w ≡ lex.Function w
by_primitive (Some p) w e = absurd (cc)
by_primitive None w e = refl

by_keyword : (o : Option Fixed) (w : Word) → short_word o w ≡ lex.Function w → canon.callee w ≡ lex.Function w
by_keyword (Some one) w e = absurd (cc)
by_keyword None w e = by_primitive (primitive_named w) w e

by_length : (b : Bool) (w : Word) → cond b lex.LongWord (short_word (keyword w) w) ≡ lex.Function w → canon.callee w ≡ lex.Function w
by_length true w e = absurd (cc)
by_length false w e = by_keyword (keyword w) w e

function_called : (w : Word) → word w ≡ lex.Function w → canon.callee w ≡ lex.Function w
unfolding word
function_called w e = by_length (nat_lt 64 (length w)) w e

primitive_called : (p : Primitive) → canon.callee (text_of p) ≡ lex.Primitive p
unfolding primitive_named primitives
primitive_called primitive.FrSet = refl
primitive_called _ = refl

called : (role : Role) → IsCalm role → (x : g.Callee)
    → Piece {T = g.Callee} (callee role x) (λ w. canon.callee (callee_name x) ∷ w) (callee role) (λ y. callee_name y ≡ callee_name x)
called role is_calm (g.function name) = record {
  sound = λ v s. s.1;
  fine = λ v s w fine.
      let good : IsReadAs name.1 (lex.Function name.1) = subst IsSoundAs name.2 s.0 in
      (subst IsFine (sym (function_called name.1 good.reads)) good, fine);
  leads = λ a v.
      let P : Frame → Type 0 = λ b. Leads (calm a) b (Read name.0 role ∷ v) v in
      subst P (is_calm name.0.lexeme a) (lead_token role name.0 (calm a) v);
  reads = λ v s w ts h.
      let good : IsReadAs name.1 (lex.Function name.1) = subst IsSoundAs name.2 s.0 in
      let is = h.is ∙ function_called name.1 good.reads in
      record {
        part = g.function (h.first, name.1, is);
        others = h.others;
        rest = h.rest;
        tokens = λ v i. front h i;
        good = refl;
        goes = λ a v v' f.
            let P : Frame → Type 0 = λ b. Follows 0 0 b v v' in
            free_token role name.0 h.first (lex.Function name.1) (calm a) v v' name.2 is (subst P (sym (is_calm (lex.Function name.1) a)) f);
      };
}
called role is_calm (g.primitive name) = record {
  sound = λ v s. s.1;
  fine = λ v s w fine. (subst IsFine (sym (primitive_called name.1)) tt, fine);
  leads = λ a v.
      let P : Frame → Type 0 = λ b. Leads (calm a) b (Read name.0 role ∷ v) v in
      subst P (is_calm name.0.lexeme a) (lead_token role name.0 (calm a) v);
  reads = λ v s w ts h.
      let is = h.is ∙ primitive_called name.1 in
      record {
        part = g.primitive (h.first, name.1, is);
        others = h.others;
        rest = h.rest;
        tokens = λ v i. front h i;
        good = refl;
        goes = λ a v v' f.
            let P : Frame → Type 0 = λ b. Follows 0 0 b v v' in
            free_token role name.0 h.first (lex.Primitive name.1) (calm a) v v' name.2 is (subst P (sym (is_calm (lex.Primitive name.1) a)) f);
      };
}

more_arguments_again : (xs : g.MoreArguments)
    → Piece {T = g.MoreArguments} (more_arguments xs) (canon.more_arguments (more_arguments_tree xs)) more_arguments
    (λ y. more_arguments_tree y ≡ more_arguments_tree xs)
more_arguments_again g.no_argument = as_part (λ u. g.no_argument) _ _ _ (λ u v. refl) (λ w. refl) (λ u i. refl) empty
more_arguments_again (g.next_argument comma x xs) =
    as_part (λ q. g.next_argument q.0 q.1.1.0 q.1.1.1.1) _ _ _ (λ q v. refl) (λ w. refl) (λ q i. ap₂ ◌∷◌ i.1.1.0 i.1.1.1.1)
    (both (sign r.NextArgument fix.Comma comma (λ l a. refl)) (both (mark m.Fresh) (both (expression x)
    (both (mark m.Argument) (more_arguments_again xs)))))

arguments_again : (xs : g.Arguments)
    → Piece {T = g.Arguments} (arguments xs) (canon.arguments (arguments_tree xs)) arguments (λ y. arguments_tree y ≡ arguments_tree xs)
arguments_again g.without = as_part (λ u. g.without) _ _ _ (λ u v. refl) (λ w. refl) (λ u i. refl) empty
arguments_again (g.with x xs) =
    as_part (λ q. g.with q.0 q.1.1) _ _ _ (λ q v. refl) (λ w. refl) (λ q i. ap₂ ◌∷◌ i.0 i.1.1)
    (both (expression x) (both (mark m.Argument) (more_arguments_again xs)))

-- how a call is spelled
abbrev call_spelled : g.Call → Spells
call_spelled (g.call named left values right) = canon.call (callee_name named) (arguments_tree values)

call_again : (role : Role) → IsCalm role → (x : g.Call)
    → Piece {T = g.Call} (call role x) (call_spelled x) (call role) (λ y. (taken : Option Word) → call_tree taken y ≡ call_tree taken x)
call_again role is_calm (g.call named left values right) =
    as_part (λ q. g.call q.0 q.1.0 q.1.1.1.0 q.1.1.1.1) _ _ _ (λ q v. refl) (λ w. refl)
    (λ q i taken. ap₂ (s.Call taken) i.0 i.1.1.1.0)
    (both (called role is_calm named) (both (sign r.OpenArguments fix.OpenRound left (λ l a. refl)) (both (mark m.Fresh)
    (both (arguments_again values) (sign r.CloseArguments fix.CloseRound right (λ l a. refl))))))

call_stmt : (taken : Option Word) (x : g.Call) (w : Lexemes)
    → canon.stmt (call_tree taken x) w ≡ canon.taken_by taken (call_spelled x (fixed fix.Semicolon ∷ w))
call_stmt taken (g.call named left values right) w =
    ap (λ f. f w) (spelled-Call _ taken (callee_name named) (arguments_tree values) refl)

case_spelled : (n : ℤ) (ss : List CStmt) (w : Lexemes)
    → canon.a_case (roll-CCase (record { number = n; body = ss })) w
    ≡ fixed fix.Case ∷ lex.Number n ∷ fixed fix.Colon ∷ canon.block (map canon.stmt ss) (fixed fix.Break ∷ fixed fix.Semicolon ∷ w)
case_spelled n ss w = ap (λ f. f w) (fold-roll-CCase Spells Spells stmt_layer case_layer (record { number = n; body = ss }))

-- ---- statements

-- a word and an expression in round brackets
abbrev Tested : Fixed → Type 0
Tested one = OfFixed one × (OfFixed fix.OpenRound × (Unit {0} × (Or × OfFixed fix.CloseRound)))

tested : (one : Fixed) (t : OfFixed one) (left : OfFixed fix.OpenRound) (x : Or) (right : OfFixed fix.CloseRound)
    → Piece {T = Tested one}
    (λ v. Read t.0 r.Plain ∷ Read left.0 r.Open ∷ Did m.Fresh ∷ or x (Read right.0 r.Close ∷ v))
    (λ w. fixed one ∷ fixed fix.OpenRound ∷ expr (or_tree x) at.Or (fixed fix.CloseRound ∷ w))
    (λ q v. Read q.0.0 r.Plain ∷ Read q.1.0.0 r.Open ∷ Did m.Fresh ∷ or q.1.1.1.0 (Read q.1.1.1.1.0 r.Close ∷ v))
    (λ q. or_tree q.1.1.1.0 ≡ or_tree x)
tested one t left x right =
    as_part (λ q. q) _ _ _ (λ q v. refl) (λ w. refl) (λ q i. i.1.1.1.0)
    (both (plain one t) (both (opens fix.OpenRound left) (both (mark m.Fresh) (both (expression x) (closes fix.CloseRound right)))))

mutual
  pub stmts_again : (xs : g.Stmts)
      → Piece {T = g.Stmts} (stmts xs) (canon.stmts (stmts_tree xs)) stmts (λ y. stmts_tree y ≡ stmts_tree xs)
  stmts_again g.no_more = as_part (λ u. g.no_more) _ _ _ (λ u v. refl) (λ w. refl) (λ u i. refl) empty
  stmts_again (g.then x xs) =
      as_part (λ q. g.then q.0 q.1) _ _ _ (λ q v. refl) (λ w. refl) (λ q i. ap₂ ◌∷◌ i.0 i.1)
      (both (stmt_again x) (stmts_again xs))

  stmt_again : (x : g.Stmt) → Piece {T = g.Stmt} (stmt x) (canon.stmt (stmt_tree x)) stmt (λ y. stmt_tree y ≡ stmt_tree x)
  stmt_again (g.set target equal value semicolon) =
      as_part (λ q. g.set (q.0.0, target.1, q.0.1) q.1.0 q.1.1.1.0 q.1.1.1.1.0) _ _ _ (λ q v. refl)
      (λ w. ap (λ f. f w) (spelled-Set _ target.1 (or_tree value) refl)) (λ q i. ap (s.Set target.1) i.1.1.1.0)
      (both (local r.Target target (λ l a. refl)) (both (plain fix.Equal equal) (both (mark m.Fresh) (both (expression value)
      (both (plain fix.Semicolon semicolon) (mark m.Set))))))
  stmt_again (g.set_call target equal value semicolon) =
      as_part (λ q. g.set_call (q.0.0, target.1, q.0.1) q.1.0 q.1.1.1.0 q.1.1.1.1.0) _ _ _ (λ q v. refl)
      (λ w. call_stmt (Some target.1) value w) (λ q i. i.1.1.1.0 (Some target.1))
      (both (local r.Target target (λ l a. refl)) (both (plain fix.Equal equal) (both (mark m.Fresh)
      (both (call_again r.GivingCallee (λ l a. refl) value) (both (plain fix.Semicolon semicolon) (mark m.SetCall))))))
  stmt_again (g.store array left index right equal value semicolon) =
      as_part (λ q. g.store (q.0.0, array.1, q.0.1) q.1.0 q.1.1.1.0 q.1.1.1.1.0 q.1.1.1.1.1.0 q.1.1.1.1.1.1.1.0 q.1.1.1.1.1.1.1.1.0)
      _ _ _ (λ q v. refl) (λ w. ap (λ f. f w) (spelled-Store _ array.1 (or_tree index) (or_tree value) refl))
      (λ q i. ap₂ (s.Store array.1) i.1.1.1.0 i.1.1.1.1.1.1.1.0)
      (both (token r.TargetArray (lex.Array array.1) (array.0, array.2) (λ l a. refl) (λ x. x)) (both (opens fix.OpenSquare left)
      (both (mark m.Fresh) (both (expression index) (both (closes fix.CloseSquare right) (both (plain fix.Equal equal)
      (both (mark m.Fresh) (both (expression value) (both (plain fix.Semicolon semicolon) (mark m.Store))))))))))
  stmt_again (g.do_call c semicolon) =
      as_part (λ q. g.do_call q.0 q.1.0) _ _ _ (λ q v. refl) (λ w. call_stmt None c w) (λ q i. i.0 None)
      (both (call_again r.Callee (λ l a. refl) c) (both (plain fix.Semicolon semicolon) (mark m.Call)))
  stmt_again (g.when word left test right body) =
      as_part (λ q. g.when q.0.0 q.0.1.0 q.0.1.1.1.0 q.0.1.1.1.1 q.1.0) _ _ _ (λ q v. refl)
      (λ w. ap (λ f. f w) (spelled-when _ (or_tree test) (block_tree body) refl)) (λ q i. ap₂ (λ e ss. s.If e ss None) i.0 i.1.0)
      (both (tested fix.If word left test right) (both (block_again body) (mark m.If)))
  stmt_again (g.choose word left test right body else_word other) =
      as_part (λ q. g.choose q.0.0 q.0.1.0 q.0.1.1.1.0 q.0.1.1.1.1 q.1.0 q.1.1.0 q.1.1.1.0) _ _ _ (λ q v. refl)
      (λ w. ap (λ f. f w) (spelled-choose _ (or_tree test) (block_tree body) (block_tree other) refl))
      (λ q i. ap₂ (λ e ss. s.If e ss (Some (block_tree q.1.1.1.0))) i.0 i.1.0
      ∙ ap (λ rs. s.If (or_tree test) (block_tree body) (Some rs)) i.1.1.1.0)
      (both (tested fix.If word left test right) (both (block_again body) (both (plain fix.Else else_word)
      (both (block_again other) (mark m.IfElse)))))
  stmt_again (g.loop word left test right body) =
      as_part (λ q. g.loop q.0.0 q.0.1.0 q.0.1.1.1.0 q.0.1.1.1.1 q.1.0) _ _ _ (λ q v. refl)
      (λ w. ap (λ f. f w) (spelled-While _ (or_tree test) (block_tree body) refl)) (λ q i. ap₂ s.While i.0 i.1.0)
      (both (tested fix.While word left test right) (both (block_again body) (mark m.While)))
  stmt_again (g.switch word left on right brace xs default_word colon otherwise break_word semicolon brace') =
      as_part (λ q. g.switch q.0.0 q.0.1.0 q.0.1.1.1.0 q.0.1.1.1.1 q.1.0 q.1.1.1.0 q.1.1.1.1.0 q.1.1.1.1.1.0 q.1.1.1.1.1.1.0
      q.1.1.1.1.1.1.1.0 q.1.1.1.1.1.1.1.1.0 q.1.1.1.1.1.1.1.1.1.0) _ _ _ (λ q v. refl)
      (λ w. ap (λ f. f w) (spelled-Switch _ (or_tree on) (cases_tree xs) (block_tree otherwise) refl))
      (λ q i. ap₂ (λ e cs. s.Switch e cs (block_tree q.1.1.1.1.1.1.0)) i.0 i.1.1.1.0
      ∙ ap (s.Switch (or_tree on) (cases_tree xs)) i.1.1.1.1.1.1.0)
      (both (tested fix.Switch word left on right) (both (sign r.OpenCases fix.OpenCurly brace (λ l a. refl)) (both (mark m.Cases)
      (both (cases_again xs) (both (plain fix.Default default_word) (both (plain fix.Colon colon) (both (block_again otherwise)
      (both (plain fix.Break break_word) (both (plain fix.Semicolon semicolon)
      (both (sign r.CloseCases fix.CloseCurly brace' (λ l a. refl)) (mark m.Switch)))))))))))
  stmt_again (g.return word semicolon) =
      as_part (λ q. g.return q.0 q.1.1.0) _ _ _ (λ q v. refl) (λ w. ap (λ f. f w) (spelled-Return _ None refl)) (λ q i. refl)
      (both (plain fix.Return word) (both (mark m.Fresh) (both (sign r.EndReturn fix.Semicolon semicolon (λ l a. refl)) (mark m.Return))))
  stmt_again (g.return_value word value semicolon) =
      as_part (λ q. g.return_value q.0 q.1.1.0 q.1.1.1.0) _ _ _ (λ q v. refl)
      (λ w. ap (λ f. f w) (spelled-Return _ (Some (or_tree value)) refl)) (λ q i. ap (λ e. s.Return (Some e)) i.1.1.0)
      (both (plain fix.Return word) (both (mark m.Fresh) (both (expression value)
      (both (sign r.EndValueReturn fix.Semicolon semicolon (λ l a. refl)) (mark m.ValueReturn)))))

  block_again : (x : g.Block)
      → Piece {T = g.Block} (block x) (canon.block (map canon.stmt (block_tree x))) block (λ y. block_tree y ≡ block_tree x)
  block_again (g.block brace ss brace') =
      as_part (λ q. g.block q.0 q.1.1.0 q.1.1.1) _ _ _ (λ q v. refl) (λ w. refl) (λ q i. i.1.1.0)
      (both (opens fix.OpenCurly brace) (both (mark m.Statements) (both (stmts_again ss) (closes fix.CloseCurly brace'))))

  cases_again : (xs : g.Cases)
      → Piece {T = g.Cases} (cases xs) (canon.cases (cases_tree xs)) cases (λ y. cases_tree y ≡ cases_tree xs)
  cases_again g.no_case = as_part (λ u. g.no_case) _ _ _ (λ u v. refl) (λ w. refl) (λ u i. refl) empty
  cases_again (g.next_case word numeral colon body break_word semicolon xs) =
      as_part (λ q. g.next_case q.0 (q.1.0.0, numeral.1, q.1.0.1) q.1.1.0 q.1.1.1.0 q.1.1.1.1.0 q.1.1.1.1.1.0 q.1.1.1.1.1.1.1)
      _ _ _ (λ q v. refl) (λ w. case_spelled numeral.1 (block_tree body) (canon.cases (cases_tree xs) w))
      (λ q i. ap₂ (λ ss cs. roll-CCase (record { number = numeral.1; body = ss }) ∷ cs) i.1.1.1.0 i.1.1.1.1.1.1.1)
      (both (plain fix.Case word) (both (token r.CaseNumber (lex.Number numeral.1) (numeral.0, numeral.2) (λ l a. refl) (λ x. x))
      (both (plain fix.Colon colon) (both (block_again body) (both (plain fix.Break break_word) (both (plain fix.Semicolon semicolon)
      (both (mark m.Case) (cases_again xs))))))))
