-- What is known of a part against which nothing is found.
use Rattle.std.specs.Prelude.{◌≡◌, Bool, List, [], IsTrue}
use Rattle.std.specs.List.{list_any}
use Rattle.hc_ast.specs.Bare.{Word}
use Rattle.hc_modules.specs.Bindings.{same_word}
use Rattle.hc_modules.proofs.Induction.{Each}
use Rattle.hc_finds.specs.declared.rules.Rule.{Rule}
use Rattle.hc_finds.specs.Parts.{Part}
use Rattle.hc_finds.specs.Rules.{breaks}
use Rattle.hc_finds.specs.Limits.{channels_in, variables_in, guards_beyond, nodes_beyond}

abbrev pub is_named : List Word → Word → Bool
is_named names x = list_any (same_word x) names

-- nothing is found against a part, and its names are among these
pub record IsClean (cs xs : List Word) (x : Part) : Type 0 where
  pub channels : Each (λ c. IsTrue (is_named cs c)) (channels_in x)
  pub variables : Each (λ v. IsTrue (is_named xs v)) (variables_in x)
  pub guards : guards_beyond x ≡ []
  pub nodes : nodes_beyond x ≡ []
  pub lawful : (r : Rule) → breaks r x ≡ []
