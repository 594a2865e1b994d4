-- What the reader accepts is a source, and the values that stand then are its tree; and the other way round.
use Rattle.std.proofs.Common.{◌≡◌, refl, ap, sym, ◌∙◌, subst, List}
use Rattle.hc_grammar.specs.Texts.{tokens_of}
use Rattle.hc_grammar.specs.Ends.{Ends}
use Rattle.hc_grammar.specs.Reader.{Within, walked}
use Rattle.hc_grammar.specs.Language.{is_last}
use Rattle.hc_grammar.specs.Answers.{Accepted}
use Rattle.hc_token.specs.declared.token.Token.{Token}
use Rattle.hc_ast.specs.declared.tree.Tree.{Tree}
use Rattle.hc_ast.specs.Counts.{opening, reader}
use Rattle.hc_ast.specs.Sources as so
use Rattle.hc_ast.specs.SourceRoles as write
use Rattle.hc_ast.specs.SourceTrees as tree
use Rattle.hc_ast.specs.Source.{IsSpelling, IsTreeOf}
use Rattle.hc_parse.specs.declared.values.Values.{Values}
use Rattle.hc_parse.specs.Builder.{builder, blank, tree_of}
use Rattle.hc_parse.specs.Language.{language}
use Rattle.hc_parse.proofs.BuiltSources.{built_whole}

-- a tree is its parts
same_parts : (t : Tree) (v : Values) → v.modules ≡ t.modules → v.processes ≡ t.processes → t ≡ tree_of v
same_parts t v e f = λ i. record { modules = sym e i; processes = sym f i }

-- the values of a text are its tree
is_tree : (x : so.Whole) (v : Values) → walked builder (write.whole x) blank ≡ v → tree.whole_tree x ≡ tree_of v
is_tree x v e =
    let (modules, processes) = built_whole x in
    same_parts (tree.whole_tree x) (walked builder (write.whole x) blank) modules processes ∙ ap tree_of e

module _ (ts : List Token) where
  -- what is accepted is a source with this tree
  pub tree_accepted : (v : Values) → Accepted language IsSpelling ts v → IsTreeOf ts (tree_of v)
  tree_accepted v a =
      let (x, spelled) = a.is_text in
      record {
        written = x;
        tokens = ap tokens_of (sym spelled) ∙ a.tokens;
        within = subst (λ w. Within reader w opening) spelled a.within;
        tree = is_tree x v (ap (λ w. walked builder w blank) (sym spelled) ∙ a.built);
      }

  -- a source is accepted, and gives its tree
  pub accepts_tree : (t : Tree) → IsTreeOf ts t → (v : Values) × Accepted language IsSpelling ts v × (tree_of v ≡ t)
  accepts_tree t x =
      let w = write.whole x.written in
      let v = walked builder w blank in (
        v,
        record { text = w; is_text = (x.written, refl); tokens = x.tokens; within = x.within; built = refl },
        sym (is_tree x.written v refl) ∙ x.tree,
      )
