-- What parsing answers, from what the reader answers.
use Rattle.std.proofs.Common.{◌≡◌, refl, ap, sym, ◌∙◌, subst, ℕ, List, Option, Some, None, IfSome, Result, Ok, Err}
use Rattle.hc_frac.specs.declared.place.Place.{Place}
use Rattle.hc_grammar.specs.Answers.{Accepted}
use Rattle.hc_grammar.specs.Refusals.{IsRefusedAt}
use Rattle.hc_grammar.specs.Exact as grammar
use Rattle.hc_grammar.specs.Stops as grammar_stops
use Rattle.hc_grammar.specs.declared.whole.Stop.{Stop}
use Rattle.hc_grammar.specs.declared.whole.Stop.TheVariants as is
use Rattle.hc_token.specs.declared.token.Token.{Token}
use Rattle.hc_token.specs.Tokens.{tokens_of}
use Rattle.hc_ast.specs.declared.flaw.Flaw.{Flaw}
use Rattle.hc_ast.specs.declared.flaw.Flaw.TheVariants as wrong
use Rattle.hc_ast.specs.declared.tree.Tree.{Tree}
use Rattle.hc_ast.specs.Source.{IsSpelling, IsSource, IsRefused}
use Rattle.hc_parse.specs.declared.values.Values.{Values}
use Rattle.hc_parse.specs.declared.text.SourceText.{SourceText}
use Rattle.hc_parse.specs.declared.parsing.ParseStop.{ParseStop}
use Rattle.hc_parse.specs.Builder.{tree_of}
use Rattle.hc_parse.specs.Language.{language}
use Rattle.hc_parse.specs.Stops.{told, stop_for, stop_of, IsExact}
use Rattle.hc_parse.proofs.Accepting.{tree_accepted, accepts_tree}

-- what stops reading is told by what stops parsing
told_for : (f : Flaw) (p : Place) → told (stop_for f p) ≡ Some (f, p)
told_for wrong.NameTooLong p = refl
told_for wrong.NumberUnfit p = refl
told_for wrong.Syntax p = refl
told_for wrong.TooDeep p = refl
told_for wrong.TooManyNodes p = refl

told_of : (s : Stop Flaw) → told (stop_of s) ≡ grammar_stops.told s
told_of (is.Refused f p) = told_for f p
told_of is.Memory = refl

-- what the reader answers to these tokens
abbrev pub IsRead : List Token → Result SourceText (Stop Flaw) → Type 0
IsRead ts = grammar.IsExact (λ (r : SourceText). r.values) grammar_stops.told (Accepted language IsSpelling ts)
    (IsRefusedAt language.reader IsSpelling language.opening (λ (t : Token). t.place) ts)

module _ (bytes : List ℕ) where
  -- a refusal in two words and in one
  in_one : (f : Flaw × Place) → IsRefused bytes f.0 f.1
      → IsRefusedAt language.reader IsSpelling language.opening (λ (t : Token). t.place) (tokens_of bytes) f
  in_one f x = record { at = x.at; refusal = x.refusal; place_is = x.place_is }

  pub tree_exact : (r : SourceText) → IsRead (tokens_of bytes) (Ok r) → IsExact bytes (Ok (tree_of r.values))
  tree_exact r h = record {
    value_is = tree_accepted (tokens_of bytes) r.values h.value_is;
    refusal_is = tt;
    every_value = λ t x.
        let (v, accepted, e) = accepts_tree (tokens_of bytes) t x in ap tree_of (h.every_value v accepted) ∙ e;
    every_refusal = λ f x. h.every_refusal f (in_one f x);
  }

  told_refusal : (s : Stop Flaw) → IsRead (tokens_of bytes) (Err s) → IfSome (grammar_stops.told s) (λ f. IsRefused bytes f.0 f.1)
  told_refusal (is.Refused f p) h = h.refusal_is
  told_refusal is.Memory h = tt

  pub stop_exact : (s : Stop Flaw) → IsRead (tokens_of bytes) (Err s) → IsExact bytes (Err (stop_of s))
  stop_exact s h = record {
    value_is = tt;
    refusal_is = subst (λ o. IfSome o (λ f. IsRefused bytes f.0 f.1)) (sym (told_of s)) (told_refusal s h);
    every_value = λ t x.
        let (v, accepted, e) = accepts_tree (tokens_of bytes) t x in told_of s ∙ h.every_value v accepted;
    every_refusal = λ f x. subst (λ o. IfSome o (λ g. g ≡ f)) (sym (told_of s)) (h.every_refusal f (in_one f x));
  }
