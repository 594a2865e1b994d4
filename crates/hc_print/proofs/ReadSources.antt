-- The canonical spelling of each tree that a source may have is read as that tree.
use Rattle.std.proofs.Common.{◌≡◌, List, [], ◌∷◌, Some, refl, ap, ap₂, ◌∙◌}
use Rattle.hc_grammar.specs.Texts.{Read, Did}
use Rattle.hc_token.specs.declared.fixed.Fixed.TheVariants as fix
use Rattle.hc_token.specs.declared.kind.Kind.TheVariants as k
use Rattle.hc_token.specs.declared.token.Token.{Token}
use Rattle.hc_ast.specs.declared.role.Role.TheVariants as r
use Rattle.hc_ast.specs.declared.role.Mark.TheVariants as m
use Rattle.hc_ast.specs.declared.tree.ParamKind.{ParamKind}
use Rattle.hc_ast.specs.declared.tree.ParamKind.TheVariants as stands_for
use Rattle.hc_ast.specs.Bare.{Word, BareExpr, BareStmts, BareParam, BareModule, BareBody, inline, call, BareProcess, BareTree}
use Rattle.hc_ast.specs.Leaves.{Spelled}
use Rattle.hc_ast.specs.StmtRoles.{seq}
use Rattle.hc_ast.specs.Sources as g
use Rattle.hc_ast.specs.Sources.{param_kind}
use Rattle.hc_ast.specs.SourceRoles.{param, more_params, params, module_of, more_arguments, arguments, process, processes, source}
use Rattle.hc_ast.specs.Counts.{unfit}
use Rattle.hc_print.specs.Lexemes.{Lexemes, fixed}
use Rattle.hc_print.specs.CanonStmts as canon_stmt
use Rattle.hc_print.specs.Canonical as canon
use Rattle.hc_print.proofs.BareSources.{param_bare, more_params_bare, params_bare, module_bare, more_arguments_bare, arguments_bare, process_bare, processes_bare, in_front, source_bare}
use Rattle.hc_print.proofs.KeptSources.{OkModule, OkModules, OkArguments, OkBody, OkProcess, OkProcesses, OkSystem}
use Rattle.hc_print.proofs.Saying.{Says}
use Rattle.hc_print.proofs.Phrases.{flaw_of, Phrase}
use Rattle.hc_print.proofs.ReadStmts.{Free, front, expr_read, seq_read}

-- the word before a parameter is read as its kind
param_is : (kind : ParamKind) → param_kind (k.Fixed (canon.param_sign kind)) ≡ Some kind
param_is stands_for.Channel = refl
param_is stands_for.Value = refl

param_read : (x : BareParam) (w : Lexemes) (ts : List Token) → Says (canon.param x w) ts → Phrase param param_bare (Free 0) x w ts
param_read x w ts h = record {
  phrase = g.param (h.first, x.kind, ap param_kind h.is ∙ param_is x.kind) (h.rest.first, x.name, h.rest.is);
  others = h.rest.others;
  rest = h.rest.rest;
  tokens = λ v e. front h (front h.rest e);
  bare = refl;
  goes = λ v f n. (ap unfit h.is, tt, (ap flaw_of h.rest.is, tt, f n));
}

more_params_read : (xs : List BareParam) (w : Lexemes) (ts : List Token) → Says (canon.more_params xs w) ts
    → Phrase more_params more_params_bare (Free 0) xs w ts
more_params_read [] w ts h = record {
  phrase = g.no_param;
  others = ts;
  rest = h;
  tokens = λ v e. e;
  bare = refl;
  goes = λ v f n. f n;
}
more_params_read (x ∷ xs) w ts h =
    let p = param_read x (canon.more_params xs w) h.others h.rest in
    let q = more_params_read xs w p.others p.rest in record {
      phrase = g.next_param (h.first, h.is) p.phrase q.phrase;
      others = q.others;
      rest = q.rest;
      tokens = λ v e. front h (p.tokens (more_params q.phrase v) (q.tokens v e));
      bare = ap₂ ◌∷◌ p.bare q.bare;
      goes = λ v f n. (ap unfit h.is, tt, p.goes (more_params q.phrase v) (q.goes v f) n);
    }

params_read : (xs : List BareParam) (w : Lexemes) (ts : List Token) → Says (canon.params xs w) ts
    → Phrase params params_bare (Free 0) xs w ts
params_read [] w ts h = record {
  phrase = g.none;
  others = ts;
  rest = h;
  tokens = λ v e. e;
  bare = refl;
  goes = λ v f n. f n;
}
params_read (x ∷ xs) w ts h =
    let p = param_read x (canon.more_params xs w) ts h in
    let q = more_params_read xs w p.others p.rest in record {
      phrase = g.some p.phrase q.phrase;
      others = q.others;
      rest = q.rest;
      tokens = λ v e. p.tokens (more_params q.phrase v) (q.tokens v e);
      bare = ap₂ ◌∷◌ p.bare q.bare;
      goes = λ v f n. p.goes (more_params q.phrase v) (q.goes v f) n;
    }

module_read : (x : BareModule) → OkModule x → (w : Lexemes) (ts : List Token) → Says (canon.module_of x w) ts
    → Phrase module_of module_bare (Free 0) x w ts
module_read x ok w ts h =
    let name = h.rest in
    let round = name.rest in
    let p = params_read x.params (fixed fix.CloseRound ∷ fixed fix.Colon ∷ fixed fix.Begin
    ∷ canon_stmt.stmts x.body (fixed fix.EndBody ∷ fixed fix.EndModule ∷ w)) round.others round.rest in
    let close = p.rest in
    let colon = close.rest in
    let begin = colon.rest in
    let q = seq_read x.body 0 ok.2 (fixed fix.EndBody ∷ fixed fix.EndModule ∷ w) begin.others begin.rest in
    let body_end = q.rest in
    let module_end = body_end.rest in record {
      phrase = g.module_of (h.first, h.is) (name.first, x.name, name.is) (round.first, round.is) p.phrase (close.first, close.is)
          (colon.first, colon.is) (begin.first, begin.is) q.phrase (body_end.first, body_end.is) (module_end.first, module_end.is);
      others = module_end.others;
      rest = module_end.rest;
      tokens = λ v e.
          let last = Read body_end.first r.Plain ∷ Read module_end.first r.Plain ∷ Did m.Module ∷ v in
          front h (front name (front round (p.tokens
          (Read close.first r.Plain ∷ Read colon.first r.Plain ∷ Read begin.first r.Plain ∷ seq q.phrase last)
          (front close (front colon (front begin (q.tokens last (front body_end (front module_end e)))))))));
      bare = ap₂ (λ (ps : List BareParam) (ss : BareStmts).
          let one : BareModule = record { name = x.name; params = ps; body = ss } in one) p.bare q.bare;
      goes = λ v f n.
          let last = Read body_end.first r.Plain ∷ Read module_end.first r.Plain ∷ Did m.Module ∷ v in (
            ap unfit h.is,
            tt,
            (
              ap flaw_of name.is,
              tt,
              (
                ap unfit round.is,
                tt,
                p.goes
                    (Read close.first r.Plain ∷ Read colon.first r.Plain ∷ Read begin.first r.Plain ∷ seq q.phrase last)
                    (λ n. (
                      ap unfit close.is,
                      tt,
                      (
                        ap unfit colon.is,
                        tt,
                        (
                          ap unfit begin.is,
                          tt,
                          q.goes last
                              (λ n. (ap unfit body_end.is, tt, (ap unfit module_end.is, tt, f n))) n,
                        ),
                      ),
                    )) n,
              ),
            ),
          );
    }

more_arguments_read : (es : List BareExpr) → OkArguments es → (w : Lexemes) (ts : List Token)
    → Says (canon.more_arguments es w) ts → Phrase more_arguments more_arguments_bare (Free 0) es w ts
more_arguments_read [] ok w ts h = record {
  phrase = g.no_argument;
  others = ts;
  rest = h;
  tokens = λ v e. e;
  bare = refl;
  goes = λ v f n. f n;
}
more_arguments_read (x ∷ xs) ok w ts h =
    let p = expr_read x 0 ok.0 (canon.more_arguments xs w) h.others h.rest in
    let q = more_arguments_read xs ok.1 w p.others p.rest in record {
      phrase = g.next_argument (h.first, h.is) p.phrase q.phrase;
      others = q.others;
      rest = q.rest;
      tokens = λ v e. front h (p.tokens (Did m.Argument ∷ more_arguments q.phrase v) (q.tokens v e));
      bare = ap₂ ◌∷◌ p.bare q.bare;
      goes = λ v f n. (ap unfit h.is, tt, p.goes (Did m.Argument ∷ more_arguments q.phrase v) (q.goes v f) n);
    }

abbrev fresh_arguments : g.Arguments → Spelled → Spelled
fresh_arguments x v = Did m.Fresh ∷ arguments x v

arguments_read : (es : List BareExpr) → OkArguments es → (w : Lexemes) (ts : List Token)
    → Says (canon.arguments es w) ts → Phrase fresh_arguments arguments_bare (Free 0) es w ts
arguments_read [] ok w ts h = record {
  phrase = g.without;
  others = ts;
  rest = h;
  tokens = λ v e. e;
  bare = refl;
  goes = λ v f n. f 0;
}
arguments_read (x ∷ xs) ok w ts h =
    let p = expr_read x 0 ok.0 (canon.more_arguments xs w) ts h in
    let q = more_arguments_read xs ok.1 w p.others p.rest in record {
      phrase = g.with p.phrase q.phrase;
      others = q.others;
      rest = q.rest;
      tokens = λ v e. p.tokens (Did m.Argument ∷ more_arguments q.phrase v) (q.tokens v e);
      bare = ap₂ ◌∷◌ p.bare q.bare;
      goes = λ v f n. p.goes (Did m.Argument ∷ more_arguments q.phrase v) (q.goes v f) n;
    }

abbrev as_process : Word → BareBody → BareProcess
as_process x body = record { name = x; body = body }

body_read : (x : Word) (y : BareBody) → OkBody y → (w : Lexemes) (ts : List Token)
    → Says (canon.process (as_process x y) w) ts → Phrase process process_bare (Free 0) (as_process x y) w ts
body_read x (inline ss) ok w ts h =
    let round = h.rest.rest in
    let p = seq_read ss 0 ok (fixed fix.CloseRound ∷ w) round.others round.rest in record {
      phrase = g.inline (h.first, x, h.is) (h.rest.first, h.rest.is) (round.first, round.is) p.phrase (p.rest.first, p.rest.is);
      others = p.rest.others;
      rest = p.rest.rest;
      tokens = λ v e. front h (front h.rest (front round
          (p.tokens (Read p.rest.first r.Plain ∷ Did m.Inline ∷ v) (front p.rest e))));
      bare = ap (λ ss. as_process x (inline ss)) p.bare;
      goes = λ v f n. (
        ap flaw_of h.is,
        tt,
        (
          ap unfit h.rest.is,
          tt,
          (
            ap unfit round.is,
            tt,
            p.goes (Read p.rest.first r.Plain ∷ Did m.Inline ∷ v) (λ n. (ap unfit p.rest.is, tt, f n)) n,
          ),
        ),
      );
    }
body_read x (call y es) ok w ts h =
    let name = h.rest.rest in
    let round = name.rest in
    let p = arguments_read es ok.1 (fixed fix.CloseRound ∷ w) round.others round.rest in record {
      phrase = g.call (h.first, x, h.is) (h.rest.first, h.rest.is) (name.first, y, name.is) (round.first, round.is) p.phrase
          (p.rest.first, p.rest.is);
      others = p.rest.others;
      rest = p.rest.rest;
      tokens = λ v e. front h (front h.rest (front name (front round
          (p.tokens (Read p.rest.first r.Plain ∷ Did m.Call ∷ v) (front p.rest e)))));
      bare = ap (λ es. as_process x (call y es)) p.bare;
      goes = λ v f n. (
        ap flaw_of h.is,
        tt,
        (
          ap unfit h.rest.is,
          tt,
          (
            ap flaw_of name.is,
            tt,
            (
              ap unfit round.is,
              tt,
              p.goes (Read p.rest.first r.Plain ∷ Did m.Call ∷ v) (λ n. (ap unfit p.rest.is, tt, f n)) n,
            ),
          ),
        ),
      );
    }

process_read : (x : BareProcess) → OkProcess x → (w : Lexemes) (ts : List Token) → Says (canon.process x w) ts
    → Phrase process process_bare (Free 0) x w ts
process_read x ok w ts h = body_read x.name x.body ok.1 w ts h

processes_read : (xs : List BareProcess) → OkProcesses xs → (w : Lexemes) (ts : List Token)
    → Says (canon.more_processes xs w) ts → Phrase processes processes_bare (Free 0) xs w ts
processes_read [] ok w ts h = record {
  phrase = g.no_process;
  others = ts;
  rest = h;
  tokens = λ v e. e;
  bare = refl;
  goes = λ v f n. f n;
}
processes_read (x ∷ xs) ok w ts h =
    let p = process_read x ok.0 (canon.more_processes xs w) h.others h.rest in
    let q = processes_read xs ok.1 w p.others p.rest in record {
      phrase = g.next_process (h.first, h.is) p.phrase q.phrase;
      others = q.others;
      rest = q.rest;
      tokens = λ v e. front h (p.tokens (processes q.phrase v) (q.tokens v e));
      bare = ap₂ ◌∷◌ p.bare q.bare;
      goes = λ v f n. (ap unfit h.is, tt, p.goes (processes q.phrase v) (q.goes v f) n);
    }

abbrev as_tree : List BareModule → List BareProcess → BareTree
as_tree ms ps = record { modules = ms; processes = ps }

pub source_read : (ms : List BareModule) (ps : List BareProcess) → OkModules ms → OkSystem ps → (w : Lexemes) (ts : List Token)
    → Says (canon.modules ms (fixed fix.System ∷ canon.processes ps (fixed fix.EndSystem ∷ w))) ts
    → Phrase source source_bare (Free 0) (as_tree ms ps) w ts
source_read [] [] ok some w ts h = absurd some
source_read [] (x ∷ xs) ok some w ts h =
    let p = process_read x some.0 (canon.more_processes xs (fixed fix.EndSystem ∷ w)) h.others h.rest in
    let q = processes_read xs some.1 (fixed fix.EndSystem ∷ w) p.others p.rest in record {
      phrase = g.system (h.first, h.is) p.phrase q.phrase (q.rest.first, q.rest.is);
      others = q.rest.others;
      rest = q.rest.rest;
      tokens = λ v e.
          let last = Read q.rest.first r.Plain ∷ v in
          front h (p.tokens (processes q.phrase last) (q.tokens last (front q.rest e)));
      bare = ap (as_tree []) (ap₂ ◌∷◌ p.bare q.bare);
      goes = λ v f n.
          let last = Read q.rest.first r.Plain ∷ v in
          (ap unfit h.is, tt, p.goes (processes q.phrase last) (q.goes last (λ n. (ap unfit q.rest.is, tt, f n))) n);
    }
source_read (x ∷ xs) ps ok some w ts h =
    let after = canon.modules xs (fixed fix.System ∷ canon.processes ps (fixed fix.EndSystem ∷ w)) in
    let p = module_read x ok.0 after ts h in
    let q = source_read xs ps ok.1 some w p.others p.rest in record {
      phrase = g.after_module p.phrase q.phrase;
      others = q.others;
      rest = q.rest;
      tokens = λ v e. p.tokens (source q.phrase v) (q.tokens v e);
      bare = ap₂ in_front p.bare q.bare;
      goes = λ v f n. p.goes (source q.phrase v) (q.goes v f) n;
    }
