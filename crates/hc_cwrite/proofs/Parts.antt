-- Arrays, functions and bodies are built again.
use Rattle.std.proofs.Common.{◌≡◌, ◌≤◌, ℤ, pos, negsuc, true, false, ◌||◌, ◌∷◌, None, refl, ap, ap₂, sym, ◌∙◌, subst, arith}
use Rattle.std.specs.Prelude.{int_lt}
use Rattle.std.proofs.lemmas.Bool.{true≢false}
use Rattle.std.proofs.lemmas.Bool.Decides.{nat_tests}
use Rattle.hc_grammar.specs.Texts.{Read}
use Rattle.hc_cast.specs.declared.program.CArray.{CArray}
use Rattle.hc_cast.specs.declared.program.CFunction.{CFunction}
use Rattle.hc_cast.specs.declared.program.CBody.{CBody}
use Rattle.hc_ctoken.specs.declared.fixed.Fixed.TheVariants as fix
use Rattle.hc_ctoken.specs.declared.token.Lexeme.{Lexeme}
use Rattle.hc_ctoken.specs.declared.token.Lexeme.TheVariants as lex
use Rattle.hc_cgrammar.specs.declared.flaw.Flaw.TheVariants as wrong
use Rattle.hc_cgrammar.specs.declared.role.Role.{Role}
use Rattle.hc_cgrammar.specs.declared.role.Role.TheVariants as r
use Rattle.hc_cgrammar.specs.declared.role.Mark.TheVariants as m
use Rattle.hc_cgrammar.specs.Leaves.{OfFixed, OfNumber}
use Rattle.hc_cgrammar.specs.Rules.{unfit}
use Rattle.hc_cgrammar.specs.Units as g
use Rattle.hc_cgrammar.specs.UnitRoles.{array, arrays, locals, body, more_parameters, parameters, function, functions}
use Rattle.hc_cgrammar.specs.UnitTrees.{length_of, array_tree, arrays_tree, locals_tree, body_tree, more_parameters_tree, parameters_tree, function_tree, functions_tree}
use Rattle.hc_cspell.specs.Tokens.{fixed, numbered}
use Rattle.hc_cspell.specs.Units as canon
use Rattle.hc_cwrite.proofs.Saying.{front}
use Rattle.hc_cwrite.proofs.Follows.{Frame, at, calm, passed, free_token, lead_token, then_leads}
use Rattle.hc_cwrite.proofs.Pieces.{Piece, both, as_part, empty, IsCalm, token, mark}
use Rattle.hc_cwrite.proofs.Stmts.{sign, plain, opens, closes, local, stmts_again}

-- ---- arrays

in_length : (n : ℤ) → int_lt n (pos 1) || int_lt (pos 1000000) n ≡ false → n ≡ pos (length_of n)
in_length (pos k) h = ap pos (let small : k ≤ 1000000 = grind (arith, nat_tests) in omega (arith, small))
in_length (negsuc k) h = absurd (true≢false h)

-- the frame before a length
lengthy : Frame → Frame
lengthy a = record { at_length = true; strings = a.strings; threads = a.threads; listed = a.listed }

length_again : (left : OfFixed fix.OpenSquare) (n : OfNumber)
    → Piece {T = OfFixed fix.OpenSquare × OfNumber} (λ v. Read left.0 r.OpenLength ∷ Read n.0 r.Length ∷ v)
    (λ w. fixed fix.OpenSquare ∷ numbered (length_of n.1) ∷ w) (λ q v. Read q.0.0 r.OpenLength ∷ Read q.1.0 r.Length ∷ v)
    (λ q. length_of q.1.1 ≡ length_of n.1)
unfolding lengthy
length_again left n = record {
  sound = λ v s. s.1.1;
  fine = λ v s w h. (tt, ((length_of n.1, refl, omega arith), h));
  leads = λ a v. then_leads (calm a) (lengthy a) (calm a) _ _ _ (lead_token r.OpenLength left.0 (calm a) (Read n.0 r.Length ∷ v))
      (lead_token r.Length n.0 (lengthy a) v);
  reads = λ v s w ts h. record {
    part = ((h.first, h.is), (h.rest.first, pos (length_of n.1), h.rest.is));
    others = h.rest.others;
    rest = h.rest.rest;
    tokens = λ v e. front h (front h.rest e);
    good = omega arith;
    goes = λ a v v' f.
        free_token r.OpenLength left.0 h.first (lex.Fixed fix.OpenSquare) (calm a) _ _ left.1 h.is
        (record {
          run = λ s d e i j (fit, good, w).
              let P : Lexeme → Type 0 = λ l. unfit l (at (lengthy a) e s) ≡ false in
              let in_it = in_length n.1 (subst P n.2 (passed (unfit n.0.lexeme (at (lengthy a) e s)) wrong.Limit None fit).0) in
              (free_token r.Length n.0 h.rest.first (lex.Number n.1) (lengthy a) v v' n.2
              (h.rest.is ∙ ap lex.Number (sym in_it)) f).run s d e i j (fit, good, w);
        });
  };
}

array_again : (x : g.Array) → Piece {T = g.Array} (array x) (canon.array (array_tree x)) array (λ y. array_tree y ≡ array_tree x)
array_again (g.array static_word int_word name left n right semicolon) =
    as_part (λ q. g.array q.0 q.1.0 (q.1.1.0.0, name.1, q.1.1.0.1) q.1.1.1.0.0 q.1.1.1.0.1 q.1.1.1.1.0 q.1.1.1.1.1.0) _ _ _
    (λ q v. refl) (λ w. refl)
    (λ q i. ap (λ k. let a : CArray = record { name = name.1; length = k } in a) i.1.1.1.0)
    (both (plain fix.Static static_word) (both (plain fix.Int int_word)
    (both (token r.DeclareArray (lex.Array name.1) (name.0, name.2) (λ l a. refl) (λ x. x)) (both (length_again left n)
    (both (closes fix.CloseSquare right) (both (plain fix.Semicolon semicolon) (mark m.Array)))))))

pub arrays_again : (xs : g.Arrays)
    → Piece {T = g.Arrays} (arrays xs) (canon.arrays (arrays_tree xs)) arrays (λ y. arrays_tree y ≡ arrays_tree xs)
arrays_again g.no_array = as_part (λ u. g.no_array) _ _ _ (λ u v. refl) (λ w. refl) (λ u i. refl) empty
arrays_again (g.next_array x xs) =
    as_part (λ q. g.next_array q.0 q.1) _ _ _ (λ q v. refl) (λ w. refl) (λ q i. ap₂ ◌∷◌ i.0 i.1) (both (array_again x) (arrays_again xs))

-- ---- bodies

locals_again : (xs : g.Locals)
    → Piece {T = g.Locals} (locals xs) (canon.locals (locals_tree xs)) locals (λ y. locals_tree y ≡ locals_tree xs)
locals_again g.no_local = as_part (λ u. g.no_local) _ _ _ (λ u v. refl) (λ w. refl) (λ u i. refl) empty
locals_again (g.next_local int_word name equal zero semicolon xs) =
    as_part (λ q. g.next_local q.0 (q.1.0.0, name.1, q.1.0.1) q.1.1.0 q.1.1.1.0 q.1.1.1.1.0 q.1.1.1.1.1) _ _ _
    (λ q v. refl) (λ w. refl) (λ q i. ap (λ ws. name.1 ∷ ws) i.1.1.1.1.1)
    (both (plain fix.Int int_word) (both (local r.DeclareLocal name (λ l a. refl)) (both (plain fix.Equal equal)
    (both (token r.Plain (lex.Number (pos 0)) zero (λ l a. refl) (λ x. x)) (both (plain fix.Semicolon semicolon) (locals_again xs))))))

pub body_again : (role : Role) → IsCalm role → (x : g.Body)
    → Piece {T = g.Body} (body role x) (canon.body (body_tree x)) (body role) (λ y. body_tree y ≡ body_tree x)
body_again role is_calm (g.body brace ls ss brace') =
    as_part (λ q. g.body q.0 q.1.1.0 q.1.1.1.1.0 q.1.1.1.1.1) _ _ _ (λ q v. refl) (λ w. refl)
    (λ q i. ap₂ (λ ls ss. let b : CBody = record { locals = ls; statements = ss } in b) i.1.1.0 i.1.1.1.1.0)
    (both (opens fix.OpenCurly brace) (both (mark m.Locals) (both (locals_again ls) (both (mark m.Statements)
    (both (stmts_again ss) (sign role fix.CloseCurly brace' is_calm))))))

-- ---- functions

more_parameters_again : (xs : g.MoreParameters)
    → Piece {T = g.MoreParameters} (more_parameters xs) (canon.more_params (more_parameters_tree xs)) more_parameters
    (λ y. more_parameters_tree y ≡ more_parameters_tree xs)
more_parameters_again g.no_parameter = as_part (λ u. g.no_parameter) _ _ _ (λ u v. refl) (λ w. refl) (λ u i. refl) empty
more_parameters_again (g.next_parameter comma int_word name xs) =
    as_part (λ q. g.next_parameter q.0 q.1.0 (q.1.1.0.0, name.1, q.1.1.0.1) q.1.1.1) _ _ _
    (λ q v. refl) (λ w. refl) (λ q i. ap (λ ws. name.1 ∷ ws) i.1.1.1)
    (both (plain fix.Comma comma) (both (plain fix.Int int_word) (both (local r.DeclareParameter name (λ l a. refl)) (more_parameters_again xs))))

parameters_again : (xs : g.Parameters)
    → Piece {T = g.Parameters} (parameters xs) (canon.params (parameters_tree xs)) parameters (λ y. parameters_tree y ≡ parameters_tree xs)
parameters_again (g.none void_word) =
    as_part (λ q. g.none q) _ _ _ (λ q v. refl) (λ w. refl) (λ q i. refl) (plain fix.Void void_word)
parameters_again (g.some int_word name xs) =
    as_part (λ q. g.some q.0 (q.1.0.0, name.1, q.1.0.1) q.1.1) _ _ _ (λ q v. refl) (λ w. refl) (λ q i. ap (λ ws. name.1 ∷ ws) i.1.1)
    (both (plain fix.Int int_word) (both (local r.DeclareParameter name (λ l a. refl)) (more_parameters_again xs)))

function_again : (x : g.Function)
    → Piece {T = g.Function} (function x) (canon.function (function_tree x)) function (λ y. function_tree y ≡ function_tree x)
function_again (g.giving static_word int_word name left ps right b) =
    as_part (λ q. g.giving q.0 q.1.0 (q.1.1.0.0, name.1, q.1.1.0.1) q.1.1.1.0 q.1.1.1.1.1.0 q.1.1.1.1.1.1.0 q.1.1.1.1.1.1.1.0) _ _ _
    (λ q v. refl) (λ w. refl)
    (λ q i. ap₂ (λ ps b. let f : CFunction = record { name = name.1; gives = true; params = ps; body = b } in f) i.1.1.1.1.1.0 i.1.1.1.1.1.1.1.0)
    (both (plain fix.Static static_word) (both (plain fix.Int int_word)
    (both (token r.DeclareGiving (lex.Function name.1) (name.0, name.2) (λ l a. refl) (λ x. x)) (both (opens fix.OpenRound left)
    (both (mark m.Parameters) (both (parameters_again ps) (both (closes fix.CloseRound right)
    (both (body_again r.EndFunction (λ l a. refl) b) (mark m.Function)))))))))
function_again (g.plain static_word void_word name left ps right b) =
    as_part (λ q. g.plain q.0 q.1.0 (q.1.1.0.0, name.1, q.1.1.0.1) q.1.1.1.0 q.1.1.1.1.1.0 q.1.1.1.1.1.1.0 q.1.1.1.1.1.1.1.0) _ _ _
    (λ q v. refl) (λ w. refl)
    (λ q i. ap₂ (λ ps b. let f : CFunction = record { name = name.1; gives = false; params = ps; body = b } in f) i.1.1.1.1.1.0 i.1.1.1.1.1.1.1.0)
    (both (plain fix.Static static_word) (both (plain fix.Void void_word)
    (both (token r.DeclareVoid (lex.Function name.1) (name.0, name.2) (λ l a. refl) (λ x. x)) (both (opens fix.OpenRound left)
    (both (mark m.Parameters) (both (parameters_again ps) (both (closes fix.CloseRound right)
    (both (body_again r.EndFunction (λ l a. refl) b) (mark m.Function)))))))))

pub functions_again : (xs : g.Functions)
    → Piece {T = g.Functions} (functions xs) (canon.functions (functions_tree xs)) functions (λ y. functions_tree y ≡ functions_tree xs)
functions_again g.no_function = as_part (λ u. g.no_function) _ _ _ (λ u v. refl) (λ w. refl) (λ u i. refl) empty
functions_again (g.next_function x xs) =
    as_part (λ q. g.next_function q.0 q.1) _ _ _ (λ q v. refl) (λ w. refl) (λ q i. ap₂ ◌∷◌ i.0 i.1)
    (both (function_again x) (functions_again xs))
