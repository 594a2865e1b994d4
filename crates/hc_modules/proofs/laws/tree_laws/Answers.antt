use Rattle.std.proofs.Common.{◌≡◌, refl, ap, sym, ◌∙◌, ◌⊎◌, inl, inr, ℕ, List, [], ◌∷◌, slice_get, Some}
use Rattle.hc_ast.specs.declared.tree.Tree.{Tree}
use Rattle.hc_modules.specs.declared.flat.Flat.{Flat}
use Rattle.hc_modules.specs.declared.flat.FlatProcess.{FlatProcess}
use Rattle.hc_modules.specs.declared.flat.ModuleStop.{ModuleStop}
use Rattle.hc_modules.specs.Expansion.{expansion}
use Rattle.hc_modules.specs.Sizes.{all_statements}
use Rattle.hc_modules.specs.Refusals.{refusals, IsExpansion, IsRefused}
use Rattle.hc_modules.proofs.laws.tree_laws.Goals as goal

abbrev flat_of : List FlatProcess → ℕ → Flat
flat_of ps n = record { processes = ps; statements = n }

-- by what is found first, if anything is
by_finds : (t : Tree) (found : List ModuleStop) → refusals t ≡ found → ((f : Flat) × IsExpansion t f) ⊎ ((s : ModuleStop) × IsRefused t s)
by_finds t [] e =
    inl (flat_of (expansion t) (all_statements (expansion t)), record { nothing_found = e; processes = refl; statements = refl })
by_finds t (s ∷ ss) e = inr (s, ap (λ xs. slice_get xs 0) e)

pub returns : goal.returns
returns c = record {
  one_expansion = λ t f g x y.
      ap (λ ps. flat_of ps f.statements) (x.processes ∙ sym y.processes) ∙ ap (flat_of g.processes) (x.statements ∙ sym y.statements);
  one_refusal = λ t r s x y. let e : Some r ≡ Some s = sym x ∙ y in cc;
  not_refused = λ t f s x y. let e = sym (ap (λ ss. slice_get ss 0) x.nothing_found) ∙ y in cc;
  every_tree = λ t. by_finds t (refusals t) refl;
}
