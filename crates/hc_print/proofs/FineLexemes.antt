-- What a canonical spelling says is written as the tokens that say it.
use Rattle.std.proofs.Common.{ℕ, ◌+◌, Bool, true, false, List, [], ◌∷◌, refl}
use Rattle.hc_frac.specs.declared.place.Place.{Place}
use Rattle.hc_token.specs.declared.fixed.Fixed.{Fixed}
use Rattle.hc_token.specs.declared.fixed.Fixed.TheVariants as fix
use Rattle.hc_token.specs.Tokens.{tokens_from, end_at}
use Rattle.hc_ast.specs.Bare.{BareExpr, number, name, neg, binary, BareCond, always, never, compare, negation, both, either}
use Rattle.hc_ast.specs.Bare.{BareIo, send, receive, BareRate, BareStmt, BareStmts, no_more, then, BareBranches, no_other, or_else}
use Rattle.hc_ast.specs.Bare.{BareParam, BareModule, BareBody, inline, call, BareProcess, BareTree}
use Rattle.hc_ast.specs.Bare as b
use Rattle.hc_print.specs.declared.level.Level.{Level}
use Rattle.hc_print.specs.declared.level.Level.TheVariants as at
use Rattle.hc_print.specs.Lexemes.{Lexeme, Lexemes, fixed, named, rated, numbered, only_if}
use Rattle.hc_print.specs.Written.{token_text, written}
use Rattle.hc_print.specs.CanonExprs.{left_of, right_of, needs_round, both_needs_square, either_needs_square, expr, cond}
use Rattle.hc_print.specs.CanonStmts.{io, rate, more_rates, stmts, more_stmts, stmt, interrupt, more_branches}
use Rattle.hc_print.specs.Canonical.{more_params, params, module_of, modules, more_arguments, arguments, body, process, more_processes, processes, source}
use Rattle.hc_print.proofs.KeptExprs.{GoodExpr, GoodCond}
use Rattle.hc_print.proofs.KeptSources.{OkParams, OkModule, OkModules, OkArguments, OkBody, OkProcess, OkProcesses, OkSystem, OkTree}
use Rattle.hc_print.proofs.OkStmts.{OkIo, OkRate, OkRates, OkStmt, OkStmts, OkBranches}
use Rattle.hc_print.proofs.Printed.{Reads, fixed_read}
use Rattle.hc_print.proofs.PrintedNumbers.{numbered_read}
use Rattle.hc_print.proofs.PrintedWords.{named_read, rated_read}
use Rattle.hc_print.proofs.Saying.{Says}
use Rattle.hc_print.proofs.Sound.{GoodName, GoodRate, GoodNumber}

-- a lexeme that is read as it is written
abbrev pub IsFine : Lexeme → Type 0
IsFine (fixed one) = Unit {0}
IsFine (named w) = GoodName w
IsFine (rated w) = GoodRate w
IsFine (numbered digits places) = GoodNumber digits places

abbrev pub AreFine : Lexemes → Type 0
AreFine [] = Unit {0}
AreFine (l ∷ w) = IsFine l × AreFine w

fine_read : (l : Lexeme) → IsFine l → (p : Place) (z : List ℕ) → Reads l z (tokens_from 0 p (token_text l z))
fine_read (fixed one) fine p z = fixed_read one p z
fine_read (named w) fine p z = named_read w fine p z
fine_read (rated w) fine p z = rated_read w fine p z
fine_read (numbered digits places) fine p z = numbered_read digits places fine p z

-- the tokens of what is written say it
pub written_says : (w : Lexemes) → AreFine w → (p : Place) → Says w (tokens_from 0 p (written w))
unfolding written
written_says [] fine p = record { last = end_at p; is_end = refl; alone = refl }
written_says (l ∷ w) (one, fine) p =
    let r = fine_read l one p (written w) in record {
      first = r.first;
      others = tokens_from 0 r.place (written w);
      all = r.all;
      is = r.is;
      rest = written_says w fine r.place;
    }

only_if_fine : (needed : Bool) (one : Fixed) (w : Lexemes) → AreFine w → AreFine (only_if needed one w)
only_if_fine true one w fine = (tt, fine)
only_if_fine false one w fine = fine

expr_fine : (e : BareExpr) (l : Level) → GoodExpr e → (w : Lexemes) → AreFine w → AreFine (expr e l w)
expr_fine (number digits places) l good w fine = (good, fine)
expr_fine (name x) l good w fine = (good, fine)
expr_fine (neg x) l good w fine = (tt, expr_fine x at.Tight good w fine)
expr_fine (binary op x y) l good w fine =
    let n = needs_round op l in
    only_if_fine n fix.OpenRound _ (expr_fine x (left_of op) good.0 _ (
      tt,
      expr_fine y (right_of op) good.1 _ (only_if_fine n fix.CloseRound w fine),
    ))

cond_fine : (c : BareCond) (l : Level) → GoodCond c → (w : Lexemes) → AreFine w → AreFine (cond c l w)
cond_fine always l good w fine = (tt, fine)
cond_fine never l good w fine = (tt, fine)
cond_fine (compare how x y) l good w fine =
    expr_fine x at.Alone good.0 _ (tt, expr_fine y at.Alone good.1 w fine)
cond_fine (negation c) l good w fine = (tt, cond_fine c at.Tight good w fine)
cond_fine (both b c) l good w fine =
    let n = both_needs_square l in
    only_if_fine n fix.OpenSquare _ (cond_fine b at.Inner good.0 _ (
      tt,
      cond_fine c at.Tight good.1 _ (only_if_fine n fix.CloseSquare w fine),
    ))
cond_fine (either b c) l good w fine =
    let n = either_needs_square l in
    only_if_fine n fix.OpenSquare _ (cond_fine b at.Alone good.0 _ (
      tt,
      cond_fine c at.Inner good.1 _ (only_if_fine n fix.CloseSquare w fine),
    ))

io_fine : (i : BareIo) (d : ℕ) → OkIo i d → (w : Lexemes) → AreFine w → AreFine (io i w)
io_fine (send x e) d ok w fine = (ok.0, (tt, expr_fine e at.Alone ok.1.good w fine))
io_fine (receive x y) d ok w fine = (ok.0, (tt, (ok.1, fine)))

rate_fine : (x : BareRate) (d : ℕ) → OkRate x d → (w : Lexemes) → AreFine w → AreFine (rate x w)
rate_fine x d ok w fine = (ok.0, (tt, expr_fine x.value at.Alone ok.1.good w fine))

more_rates_fine : (xs : List BareRate) (d : ℕ) → OkRates xs d → (w : Lexemes) → AreFine w → AreFine (more_rates xs w)
more_rates_fine [] d ok w fine = fine
more_rates_fine (x ∷ xs) d ok w fine = (tt, rate_fine x d ok.0 _ (more_rates_fine xs d ok.1 w fine))

mutual
  stmts_fine : (ss : BareStmts) (d : ℕ) → OkStmts ss d → (w : Lexemes) → AreFine w → AreFine (stmts ss w)
  stmts_fine no_more d ok w fine = fine
  stmts_fine (then s ss) d ok w fine = stmt_fine s d ok.0 _ (more_fine ss d ok.1 w fine)

  more_fine : (ss : BareStmts) (d : ℕ) → OkStmts ss d → (w : Lexemes) → AreFine w → AreFine (more_stmts ss w)
  more_fine no_more d ok w fine = fine
  more_fine (then s ss) d ok w fine = (tt, stmt_fine s d ok.0 _ (more_fine ss d ok.1 w fine))

  stmt_fine : (s : BareStmt) (d : ℕ) → OkStmt s d → (w : Lexemes) → AreFine w → AreFine (stmt s w)
  stmt_fine b.skip d ok w fine = (tt, fine)
  stmt_fine (b.assign x e) d ok w fine = (ok.0, (tt, expr_fine e at.Alone ok.1.good w fine))
  stmt_fine (b.wait e) d ok w fine = (tt, (tt, expr_fine e at.Alone ok.good _ (tt, fine)))
  stmt_fine (b.io i) d ok w fine = io_fine i d ok w fine
  stmt_fine (b.log e) d ok w fine = (tt, (tt, expr_fine e at.Alone ok.good _ (tt, fine)))
  stmt_fine (b.when c ss) d ok w fine =
      (tt, cond_fine c at.Alone ok.1.good _ (tt, stmts_fine ss (d + 1) ok.2.1 _ (tt, fine)))
  stmt_fine (b.choose c ss rs) d ok w fine =
      (tt, cond_fine c at.Alone ok.1.good _ (tt, stmts_fine ss (d + 1) ok.2.1 _ (tt, stmts_fine rs (d + 1) ok.3.1 _ (tt, fine))))
  stmt_fine (b.pick ss rs) d ok w fine =
      (tt, stmts_fine ss (d + 1) ok.1.1 _ (tt, (tt, (tt, stmts_fine rs (d + 1) ok.2.1 _ (tt, fine)))))
  stmt_fine (b.forever ss) d ok w fine = (tt, stmts_fine ss (d + 1) ok.1.1 _ (tt, (tt, fine)))
  stmt_fine (b.loop c ss) d ok w fine =
      (tt, stmts_fine ss (d + 1) ok.1.1 _ (tt, (tt, cond_fine c at.Alone ok.2.good _ (tt, (tt, fine)))))
  stmt_fine (b.choice no_other) d ok w fine = absurd ok
  stmt_fine (b.choice (or_else i ss bs)) d ok w fine =
      (tt, (tt, io_fine i (d + 1) ok.1 _ (tt, stmts_fine ss (d + 1) ok.2.1 _ (branches_fine bs (d + 1) ok.3 _ (tt, fine)))))
  stmt_fine (b.evolve [] c bs) d ok w fine = absurd ok
  stmt_fine (b.evolve (x ∷ xs) c bs) d ok w fine = (
    tt,
    rate_fine x (d + 1) ok.1 _ (more_rates_fine xs (d + 1) ok.2 _ (
      tt,
      cond_fine c at.Alone ok.3.good _ (tt, interrupt_fine bs (d + 1) ok.4 w fine),
    )),
  )

  interrupt_fine : (bs : BareBranches) (d : ℕ) → OkBranches bs d → (w : Lexemes) → AreFine w → AreFine (interrupt bs w)
  interrupt_fine no_other d ok w fine = fine
  interrupt_fine (or_else i ss bs) d ok w fine =
      (tt, (tt, (tt, io_fine i d ok.0 _ (tt, stmts_fine ss d ok.1.1 _ (branches_fine bs d ok.2 _ (tt, fine))))))

  branches_fine : (bs : BareBranches) (d : ℕ) → OkBranches bs d → (w : Lexemes) → AreFine w → AreFine (more_branches bs w)
  branches_fine no_other d ok w fine = fine
  branches_fine (or_else i ss bs) d ok w fine =
      (tt, io_fine i d ok.0 _ (tt, stmts_fine ss d ok.1.1 _ (branches_fine bs d ok.2 w fine)))

more_params_fine : (ps : List BareParam) → OkParams ps → (w : Lexemes) → AreFine w → AreFine (more_params ps w)
more_params_fine [] ok w fine = fine
more_params_fine (p ∷ ps) ok w fine = (tt, (tt, (ok.0, more_params_fine ps ok.1 w fine)))

params_fine : (ps : List BareParam) → OkParams ps → (w : Lexemes) → AreFine w → AreFine (params ps w)
params_fine [] ok w fine = fine
params_fine (p ∷ ps) ok w fine = (tt, (ok.0, more_params_fine ps ok.1 w fine))

module_fine : (x : BareModule) → OkModule x → (w : Lexemes) → AreFine w → AreFine (module_of x w)
module_fine x ok w fine =
    (tt, (ok.0, (tt, params_fine x.params ok.1 _ (tt, (tt, (tt, stmts_fine x.body 0 ok.2.1 _ (tt, (tt, fine))))))))

modules_fine : (xs : List BareModule) → OkModules xs → (w : Lexemes) → AreFine w → AreFine (modules xs w)
modules_fine [] ok w fine = fine
modules_fine (x ∷ xs) ok w fine = module_fine x ok.0 _ (modules_fine xs ok.1 w fine)

more_arguments_fine : (es : List BareExpr) → OkArguments es → (w : Lexemes) → AreFine w → AreFine (more_arguments es w)
more_arguments_fine [] ok w fine = fine
more_arguments_fine (e ∷ es) ok w fine = (tt, expr_fine e at.Alone ok.0.good _ (more_arguments_fine es ok.1 w fine))

arguments_fine : (es : List BareExpr) → OkArguments es → (w : Lexemes) → AreFine w → AreFine (arguments es w)
arguments_fine [] ok w fine = fine
arguments_fine (e ∷ es) ok w fine = expr_fine e at.Alone ok.0.good _ (more_arguments_fine es ok.1 w fine)

body_fine : (x : BareBody) → OkBody x → (w : Lexemes) → AreFine w → AreFine (body x w)
body_fine (inline ss) ok w fine = (tt, stmts_fine ss 0 ok.1 _ (tt, fine))
body_fine (call x es) ok w fine = (ok.0, (tt, arguments_fine es ok.1 _ (tt, fine)))

process_fine : (x : BareProcess) → OkProcess x → (w : Lexemes) → AreFine w → AreFine (process x w)
process_fine x ok w fine = (ok.0, (tt, body_fine x.body ok.1 w fine))

more_processes_fine : (xs : List BareProcess) → OkProcesses xs → (w : Lexemes) → AreFine w → AreFine (more_processes xs w)
more_processes_fine [] ok w fine = fine
more_processes_fine (x ∷ xs) ok w fine = (tt, process_fine x ok.0 _ (more_processes_fine xs ok.1 w fine))

processes_fine : (xs : List BareProcess) → OkSystem xs → (w : Lexemes) → AreFine w → AreFine (processes xs w)
processes_fine [] ok w fine = absurd ok
processes_fine (x ∷ xs) ok w fine = process_fine x ok.0 _ (more_processes_fine xs ok.1 w fine)

pub source_fine : (t : BareTree) → OkTree t → AreFine (source t)
source_fine t ok = modules_fine t.modules ok.0 _ (tt, processes_fine t.processes ok.1 _ (tt, tt))
