-- Each text of the grammar derives in the table: whole sources.
use Rattle.std.proofs.Common.{◌≡◌, refl, ap, List, [], ◌∷◌, ◌++◌, Some}
use Rattle.hc_grammar.specs.declared.symbol.Symbol.TheVariants.{Token, Head, Mark}
use Rattle.hc_grammar.specs.Table.{Takes, with_more}
use Rattle.hc_grammar.specs.Derives.{done, token, mark, takes}
use Rattle.hc_token.specs.declared.kind.Kind.{Kind}
use Rattle.hc_token.specs.declared.fixed.Fixed.TheVariants as fix
use Rattle.hc_token.specs.declared.kind.Kind.TheVariants as k
use Rattle.hc_ast.specs.declared.role.Role.{Role}
use Rattle.hc_ast.specs.declared.role.Role.TheVariants as r
use Rattle.hc_ast.specs.declared.role.Mark.TheVariants as m
use Rattle.hc_ast.specs.declared.tree.ParamKind.{ParamKind}
use Rattle.hc_ast.specs.Leaves.{Spelled}
use Rattle.hc_ast.specs.Exprs as ex
use Rattle.hc_ast.specs.Sources as g
use Rattle.hc_ast.specs.SourceRoles as spell
use Rattle.hc_table.specs.declared.head.Head.TheVariants as h
use Rattle.hc_table.specs.Symbols.{Rule}
use Rattle.hc_table.specs.Rows.{source, param_then, params, more_params, process, process_body, processes, factor, arguments, more_arguments}
use Rattle.hc_table.specs.Table.{start}
use Rattle.hc_table.proofs.Leaves.{name_kind}
use Rattle.hc_table.proofs.Derive.{D, kind_of, is, is_name, begins, expr_text, sums_text, products_text, factor_text}
use Rattle.hc_table.proofs.DeriveStmts.{seq_text}

param_row : (kind : Kind) (what : ParamKind) → g.param_kind kind ≡ Some what
    → param_then [] kind ≡ Takes r.Keep (Token k.Name r.Keep ∷ Mark m.Param ∷ [])
param_row (k.Fixed fix.Ch) what e = refl
param_row (k.Fixed fix.Val) what e = refl
param_row _ what e = absurd (cc)

params_row : (kind : Kind) (what : ParamKind) → g.param_kind kind ≡ Some what
    → params kind ≡ Takes r.Keep (Token k.Name r.Keep ∷ Mark m.Param ∷ Head h.MoreParams ∷ [])
params_row (k.Fixed fix.Ch) what e = refl
params_row (k.Fixed fix.Val) what e = refl
params_row _ what e = absurd (cc)

param_text : (x : g.Param) {ss : List Rule} {w : Spelled} → D ss w → D (Head h.Param ∷ ss) (spell.param x w)
param_text (g.param t x) d = takes (param_row (kind_of t.0) t.1 t.2) (token (is_name x) (mark d))

more_params_text : (xs : g.MoreParams) {ss : List Rule} {w : Spelled} → D (Head h.MoreParams ∷ ss) w
    → D (Head h.MoreParams ∷ ss) (spell.more_params xs w)
more_params_text g.no_param d = d
more_params_text (g.next_param t x xs) d = takes (ap more_params t.1) (param_text x (more_params_text xs d))

module_text : (x : g.Module) {w : Spelled} {ss : List Rule} → D (Head h.Source ∷ ss) w → D (Head h.Source ∷ ss) (spell.module_of x w)
module_text (g.module_of t x a g.none b c e y f l) d =
    takes (ap source t.1) (token (is_name x) (token (is (k.Fixed fix.OpenRound) a refl) (mark (takes (ap params b.1)
    (token (is (k.Fixed fix.Colon) c refl) (token (is (k.Fixed fix.Begin) e refl)
    (seq_text y (token (is (k.Fixed fix.EndBody) f refl) (token (is (k.Fixed fix.EndModule) l refl) (mark d))))))))))
module_text (g.module_of t x a (g.some (g.param u p) ps) b c e y f l) d =
    takes (ap source t.1) (token (is_name x) (token (is (k.Fixed fix.OpenRound) a refl) (mark
    (takes (params_row (kind_of u.0) u.1 u.2) (token (is_name p) (mark (more_params_text ps (takes (ap more_params b.1)
    (token (is (k.Fixed fix.Colon) c refl) (token (is (k.Fixed fix.Begin) e refl)
    (seq_text y (token (is (k.Fixed fix.EndBody) f refl) (token (is (k.Fixed fix.EndModule) l refl) (mark d))))))))))))))

more_arguments_text : (es : g.MoreArguments) {ss : List Rule} {w : Spelled} → D (Head h.MoreArguments ∷ ss) w
    → D (Head h.MoreArguments ∷ ss) (spell.more_arguments es w)
more_arguments_text g.no_argument d = d
more_arguments_text (g.next_argument t e es) d = takes (ap more_arguments t.1) (mark (expr_text e (mark (more_arguments_text es d))))

-- arguments begin as the first factor of their first one
argument_row : (kind : Kind) (role : Role) (p : List Rule) → factor kind ≡ Takes role p
    → arguments kind ≡ Takes role (p ++ Head h.Products ∷ Head h.Sums ∷ Mark m.Argument ∷ Head h.MoreArguments ∷ [])
argument_row k.Number role p e = ap (with_more (Head h.Products ∷ Head h.Sums ∷ Mark m.Argument ∷ Head h.MoreArguments ∷ [])) e
argument_row k.Name role p e = ap (with_more (Head h.Products ∷ Head h.Sums ∷ Mark m.Argument ∷ Head h.MoreArguments ∷ [])) e
argument_row (k.Fixed fix.Minus) role p e = ap (with_more (Head h.Products ∷ Head h.Sums ∷ Mark m.Argument ∷ Head h.MoreArguments ∷ [])) e
argument_row (k.Fixed fix.OpenRound) role p e = ap (with_more (Head h.Products ∷ Head h.Sums ∷ Mark m.Argument ∷ Head h.MoreArguments ∷ [])) e
argument_row _ role p e = absurd (cc)

process_text : (x : g.Process) {ss : List Rule} {w : Spelled} → D ss w → D (Head h.Process ∷ ss) (spell.process x w)
process_text (g.inline x t a y b) d =
    takes (ap process (name_kind x)) (token (is (k.Fixed fix.Equal) t refl) (takes (ap process_body a.1) (seq_text y (token (is (k.Fixed fix.CloseRound) b refl) (mark d)))))
process_text (g.call x t y a g.without b) d =
    takes (ap process (name_kind x)) (token (is (k.Fixed fix.Equal) t refl) (takes (ap process_body (name_kind y))
    (token (is (k.Fixed fix.OpenRound) a refl) (mark (mark (takes (ap arguments b.1) (mark d)))))))
process_text (g.call x t y a (g.with (ex.sum (ex.product f fs) ts) es) b) d =
    takes (ap process (name_kind x)) (token (is (k.Fixed fix.Equal) t refl) (takes (ap process_body (name_kind y))
    (token (is (k.Fixed fix.OpenRound) a refl) (mark (mark
    (begins h.Factor h.Arguments (Head h.Products ∷ Head h.Sums ∷ Mark m.Argument ∷ Head h.MoreArguments ∷ []) refl argument_row
    (factor_text f (products_text fs (sums_text ts
    (mark (more_arguments_text es (takes (ap more_arguments b.1) (mark d)))))))))))))

processes_text : (xs : g.Processes) {ss : List Rule} {w : Spelled} → D (Head h.Processes ∷ ss) w
    → D (Head h.Processes ∷ ss) (spell.processes xs w)
processes_text g.no_process d = d
processes_text (g.next_process t x xs) d = takes (ap processes t.1) (process_text x (processes_text xs d))

source_text : (x : g.Source) {ss : List Rule} {w : Spelled} → D ss w → D (Head h.Source ∷ ss) (spell.source x w)
source_text (g.after_module x xs) d = module_text x (source_text xs d)
source_text (g.system t x xs b) d = takes (ap source t.1) (process_text x (processes_text xs (takes (ap processes b.1) d)))

-- a whole source derives
pub whole_text : (x : g.Whole) → D start (spell.whole x)
whole_text (g.whole s t) = source_text s (token (is k.End t refl) done)
