use Rattle.std.proofs.Common.{◌≡◌, ◌++◌, ℕ, List, [], sym, subst, ◌∙◌}
use Rattle.hc_ast.specs.Unplaced.{bare}
use Rattle.hc_print.specs.Written.{written}
use Rattle.hc_print.specs.Canonical.{source}
use Rattle.hc_print.proofs.Chains.{nothing_behind}
use Rattle.hc_print.specs.Readable.{ReadsBackAs}
use Rattle.hc_print.proofs.ReadsBack.{reads_back}
use Rattle.hc_print.proofs.tree.print.Goals as goal

pub returns-clause-canonical : goal.returns-clause-canonical
returns-clause-canonical c =
    let all : c.write_system.new.out.bytes.items ++ written [] ≡ c.new.result.items ++ written (source (bare c.args.tree.now)) =
    cc (c.in_ok-write_system.ensures [] ∙ c.in_ok-write_modules.ensures _) in
    nothing_behind c.write_system.new.out.bytes.items c.new.result.items (source (bare c.args.tree.now)) c.new.ensures.items all

pub returns-clause-reads_back : goal.returns-clause-reads_back
returns-clause-reads_back c =
    let P : List ℕ → Type 0 = λ bytes. ReadsBackAs bytes c.args.tree.now in
    subst P (sym (returns-clause-canonical c)) (reads_back c.args.tree.now c.requires)
