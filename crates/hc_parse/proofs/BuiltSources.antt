-- What is built along a text is its tree: whole sources.
use Rattle.std.proofs.Common.{◌≡◌, refl, ap, sym, ◌∙◌, List, [], ◌∷◌, ◌++◌, Some}
use Rattle.std.proofs.lemmas.List.{append-nil}
use Rattle.hc_grammar.specs.Texts.{Read, Did}
use Rattle.hc_token.specs.declared.fixed.Fixed.{Fixed}
use Rattle.hc_token.specs.declared.fixed.Fixed.TheVariants as fix
use Rattle.hc_token.specs.declared.kind.Kind.TheVariants as k
use Rattle.hc_token.specs.declared.token.Lexeme.{Lexeme}
use Rattle.hc_token.specs.declared.token.Lexeme.TheVariants as lex
use Rattle.hc_token.specs.Lexemes.{kind_of}
use Rattle.hc_ast.specs.declared.role.Role.TheVariants as r
use Rattle.hc_ast.specs.declared.role.Mark.TheVariants as m
use Rattle.hc_ast.specs.declared.expr.ExprTree.{ExprTree}
use Rattle.hc_ast.specs.declared.tree.Param.{Param}
use Rattle.hc_ast.specs.declared.tree.ParamKind.{ParamKind}
use Rattle.hc_ast.specs.declared.tree.ModuleDef.{ModuleDef}
use Rattle.hc_ast.specs.declared.tree.ProcessDef.{ProcessDef}
use Rattle.hc_ast.specs.Leaves.{Spelled}
use Rattle.hc_ast.specs.Exprs as ex
use Rattle.hc_ast.specs.StmtRoles as spell
use Rattle.hc_ast.specs.Sources as so
use Rattle.hc_ast.specs.SourceRoles as write
use Rattle.hc_ast.specs.SourceTrees as tree
use Rattle.hc_parse.specs.declared.values.Values.{Values}
use Rattle.hc_parse.specs.Builder.{blank, push_fixed, push_name, add_process, param_kind_of}
use Rattle.hc_parse.proofs.Built.{W, Sign, kept_name, kept_sign, built_expr}
use Rattle.hc_parse.proofs.BuiltStmts.{built_seq, one_more}

param_fixed : (one : Fixed) (what : ParamKind) → so.param_kind (k.Fixed one) ≡ Some what → param_kind_of one ≡ what
param_fixed fix.Ch what i = cc
param_fixed fix.Val what i = cc
param_fixed _ what i = absurd (cc)

param_word : (l : Lexeme) (what : ParamKind) → so.param_kind (kind_of l) ≡ Some what → Sign param_kind_of l what
param_word (lex.Fixed one) what i = (one, refl, param_fixed one what i)
param_word _ what i = absurd (cc)

-- with these parameters, and with these arguments
abbrev with_params : List Param → Values → Values
with_params ps v = record v { params = ps }

abbrev with_arguments : List ExprTree → Values → Values
with_arguments es v = record v { arguments = es }

built_param : (x : so.Param) (ps : List Param) (w : Spelled) (v : Values)
    → W (write.param x w) (with_params ps v) ≡ W w (with_params (ps ++ tree.param_tree x ∷ []) v)
built_param (so.param t x) ps w v =
    let is = param_word t.0.lexeme t.1 t.2 in
    kept_sign param_kind_of t.0.lexeme t.1 is t.0.place (Read x.0 r.Keep ∷ Did m.Param ∷ w) (with_params ps v)
    ∙ kept_name x (Did m.Param ∷ w) (push_fixed t.0.place is.0 (with_params ps v))
    ∙ ap (λ what. let a : Param = record { place = t.0.place; kind = what; name = x.1 } in W w (with_params (ps ++ a ∷ []) v)) is.2

built_more_params : (xs : so.MoreParams) (ps : List Param) (w : Spelled) (v : Values)
    → W (write.more_params xs w) (with_params ps v) ≡ W w (with_params (ps ++ tree.more_params_tree xs) v)
built_more_params so.no_param ps w v = ap (λ qs. W w (with_params qs v)) (sym (append-nil ps))
built_more_params (so.next_param t x xs) ps w v =
    built_param x ps (write.more_params xs w) v ∙ built_more_params xs (ps ++ tree.param_tree x ∷ []) w v
    ∙ ap (λ qs. W w (with_params qs v)) (one_more ps (tree.param_tree x) (tree.more_params_tree xs))

built_params : (xs : so.Params) (w : Spelled) (v : Values)
    → W (write.params xs w) (with_params [] v) ≡ W w (with_params (tree.params_tree xs) v)
built_params so.none w v = refl
built_params (so.some x xs) w v = built_param x [] (write.more_params xs w) v ∙ built_more_params xs (tree.param_tree x ∷ []) w v

built_more_arguments : (xs : so.MoreArguments) (es : List ExprTree) (w : Spelled) (v : Values)
    → W (write.more_arguments xs w) (with_arguments es v) ≡ W w (with_arguments (es ++ tree.more_arguments_tree xs) v)
built_more_arguments so.no_argument es w v = ap (λ fs. W w (with_arguments fs v)) (sym (append-nil es))
built_more_arguments (so.next_argument t e xs) es w v =
    built_expr e (Did m.Argument ∷ write.more_arguments xs w) (with_arguments es v)
    ∙ built_more_arguments xs (es ++ ex.expr_tree e ∷ []) w v
    ∙ ap (λ fs. W w (with_arguments fs v)) (one_more es (ex.expr_tree e) (tree.more_arguments_tree xs))

built_arguments : (xs : so.Arguments) (w : Spelled) (v : Values)
    → W (write.arguments xs w) (with_arguments [] v) ≡ W w (with_arguments (tree.arguments_tree xs) v)
built_arguments so.without w v = refl
built_arguments (so.with e xs) w v =
    built_expr e (Did m.Argument ∷ write.more_arguments xs w) (with_arguments [] v)
    ∙ built_more_arguments xs (ex.expr_tree e ∷ []) w v

-- what is built along w goes on as from values that have these modules and processes, but for the parts of the latest
record GoesOn (w rest : Spelled) (v : Values) (modules : List ModuleDef) (processes : List ProcessDef) : Type 0 where
  after : Values
  same : W w v ≡ W rest after
  has_modules : after.modules ≡ modules
  has_processes : after.processes ≡ processes

built_process : (x : so.Process) (w : Spelled) (v : Values)
    → GoesOn (write.process x w) w v v.modules (v.processes ++ tree.process_tree x ∷ [])
built_process (so.inline x t a y b) w v = record {
  after = add_process (tree.process_tree (so.inline x t a y b)) v;
  same = kept_name x (spell.seq y (Read b.0 r.Plain ∷ Did m.Inline ∷ w)) v
      ∙ built_seq y (Read b.0 r.Plain ∷ Did m.Inline ∷ w) (push_name x.0.place x.1 v);
  has_modules = refl;
  has_processes = refl;
}
built_process (so.call x t y a es b) w v = record {
  after = add_process (tree.process_tree (so.call x t y a es b)) (with_arguments [] v);
  same =
      let end = Read b.0 r.Plain ∷ Did m.Call ∷ w in
      let called = Did m.Arguments ∷ write.arguments es end in
      kept_name x (Read y.0 r.Keep ∷ called) v
      ∙ kept_name y called (push_name x.0.place x.1 v)
      ∙ built_arguments es end (push_name y.0.place y.1 (push_name x.0.place x.1 v));
  has_modules = refl;
  has_processes = refl;
}

built_processes : (xs : so.Processes) (w : Spelled) (v : Values)
    → GoesOn (write.processes xs w) w v v.modules (v.processes ++ tree.processes_tree xs)
built_processes so.no_process w v = record { after = v; same = refl; has_modules = refl; has_processes = sym (append-nil v.processes) }
built_processes (so.next_process t x xs) w v =
    let first = built_process x (write.processes xs w) v in
    let more = built_processes xs w first.after in
    record {
      after = more.after;
      same = first.same ∙ more.same;
      has_modules = more.has_modules ∙ first.has_modules;
      has_processes = more.has_processes ∙ ap (λ ps. ps ++ tree.processes_tree xs) first.has_processes
          ∙ one_more v.processes (tree.process_tree x) (tree.processes_tree xs);
    }

built_module : (x : so.Module) (w : Spelled) (v : Values)
    → GoesOn (write.module_of x w) w v (v.modules ++ tree.module_tree x ∷ []) v.processes
built_module (so.module_of t x a ps b c d y f l) w v =
    let end = Read f.0 r.Plain ∷ Read l.0 r.Plain ∷ Did m.Module ∷ w in
    let named = push_name x.0.place x.1 v in
    let inside = with_params (tree.params_tree ps) named in
    let body = Read b.0 r.Plain ∷ Read c.0 r.Plain ∷ Read d.0 r.Plain ∷ spell.seq y end in
    record {
      after = record v { params = []; modules = v.modules ++ tree.module_tree (so.module_of t x a ps b c d y f l) ∷ [] };
      same = kept_name x (Did m.Params ∷ write.params ps body) v ∙ built_params ps body named ∙ built_seq y end inside;
      has_modules = refl;
      has_processes = refl;
    }

built_source : (x : so.Source) (w : Spelled) (v : Values)
    → GoesOn (write.source x w) w v (v.modules ++ (tree.source_tree x).modules) (v.processes ++ (tree.source_tree x).processes)
built_source (so.after_module x xs) w v =
    let first = built_module x (write.source xs w) v in
    let more = built_source xs w first.after in
    record {
      after = more.after;
      same = first.same ∙ more.same;
      has_modules = more.has_modules ∙ ap (λ ms. ms ++ (tree.source_tree xs).modules) first.has_modules
          ∙ one_more v.modules (tree.module_tree x) (tree.source_tree xs).modules;
      has_processes = more.has_processes ∙ ap (λ ps. ps ++ (tree.source_tree xs).processes) first.has_processes;
    }
built_source (so.system t x xs b) w v =
    let first = built_process x (write.processes xs (Read b.0 r.Plain ∷ w)) v in
    let more = built_processes xs (Read b.0 r.Plain ∷ w) first.after in
    record {
      after = more.after;
      same = first.same ∙ more.same;
      has_modules = more.has_modules ∙ first.has_modules ∙ sym (append-nil v.modules);
      has_processes = more.has_processes ∙ ap (λ ps. ps ++ tree.processes_tree xs) first.has_processes
          ∙ one_more v.processes (tree.process_tree x) (tree.processes_tree xs);
    }

-- along a whole source its modules and its processes are built
pub built_whole : (x : so.Whole)
    → let v = W (write.whole x) blank in
    (v.modules ≡ (tree.whole_tree x).modules) × (v.processes ≡ (tree.whole_tree x).processes)
built_whole (so.whole s t) =
    let g = built_source s (Read t.0 r.Plain ∷ []) blank in
    (ap (λ (v : Values). v.modules) g.same ∙ g.has_modules, ap (λ (v : Values). v.processes) g.same ∙ g.has_processes)
