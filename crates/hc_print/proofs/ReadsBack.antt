-- The canonical spelling of each tree of a source is read as that tree.
use Rattle.std.proofs.Common.{◌≡◌, ℕ, List, [], ◌∷◌, refl, ap, sym, ◌∙◌, subst}
use Rattle.hc_grammar.specs.Texts as texts
use Rattle.hc_grammar.specs.Texts.{Read}
use Rattle.hc_token.specs.declared.token.Token.{Token}
use Rattle.hc_token.specs.Tokens.{first_place, tokens_of}
use Rattle.hc_ast.specs.declared.role.Role.TheVariants as r
use Rattle.hc_ast.specs.declared.tree.Tree.{Tree}
use Rattle.hc_ast.specs.Bare.{BareTree}
use Rattle.hc_ast.specs.Unplaced.{bare}
use Rattle.hc_ast.specs.Counts.{unfit}
use Rattle.hc_ast.specs.Source.{IsSource, IsTreeOf}
use Rattle.hc_ast.specs.Sources as g
use Rattle.hc_ast.specs.SourceRoles.{whole}
use Rattle.hc_ast.specs.SourceTrees.{whole_tree}
use Rattle.hc_print.specs.Canonical.{source, canonical}
use Rattle.hc_print.specs.Readable.{CanonicalReadsBack}
use Rattle.hc_print.proofs.BareSources.{whole_same}
use Rattle.hc_print.proofs.FineLexemes.{source_fine, written_says}
use Rattle.hc_print.proofs.KeptSources.{OkTree, whole_kept}
use Rattle.hc_print.proofs.Limits.{within_limits, walks_along}
use Rattle.hc_print.proofs.ReadSources.{source_read}
use Rattle.hc_print.proofs.Saying.{Says}
use Rattle.hc_print.proofs.Sound.{AllSound, tokens_sound}

-- what the tree of a source keeps
tree_ok : (bytes : List ℕ) (t : Tree) → IsSource bytes t → OkTree (bare t)
tree_ok bytes t is =
    let sound : AllSound (texts.tokens_of (whole is.written)) = subst AllSound (sym is.tokens) (tokens_sound 0 first_place bytes) in
    let kept = whole_kept is.written (walks_along (whole is.written) 0 0 sound is.within) in
    subst OkTree (sym (whole_same is.written) ∙ ap bare is.tree) kept

-- tokens that say the canonical spelling are those of a source
says_source : (t : BareTree) → OkTree t → (ts : List Token) → Says (source t) ts → (u : Tree) × IsTreeOf ts u × (bare u ≡ t)
says_source t ok ts h =
    let p = source_read t.modules t.processes ok.0 ok.1 [] ts h in
    let last : Token = p.rest.last in
    let all : g.Whole = g.whole p.phrase (last, p.rest.is_end) in
    let ends = Read last r.Plain ∷ [] in (
      whole_tree all,
      record {
        written = all;
        tokens = p.tokens ends (sym p.rest.alone);
        within = within_limits (whole all) 0 0 (p.goes ends (λ n. (ap unfit p.rest.is_end, tt, tt)) 0);
        tree = refl;
      },
      whole_same all ∙ p.bare,
    )

pub reads_back : CanonicalReadsBack
reads_back t (bytes, is) =
    let ok = tree_ok bytes t is in
    says_source (bare t) ok (tokens_of (canonical t)) (written_says (source (bare t)) (source_fine (bare t) ok) first_place)
