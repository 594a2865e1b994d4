-- What reading a unit answers, from what the reader answers.
use Rattle.std.proofs.Common.{◌≡◌, refl, ap, sym, ◌∙◌, subst, ℕ, List, IfSome, Result, Ok, Err}
use Rattle.hc_frac.specs.declared.place.Place.{Place}
use Rattle.hc_grammar.specs.Answers.{Accepted}
use Rattle.hc_grammar.specs.Refusals.{IsRefusedAt}
use Rattle.hc_grammar.specs.Exact as grammar
use Rattle.hc_grammar.specs.Stops as grammar_stops
use Rattle.hc_grammar.specs.declared.whole.Stop.{Stop}
use Rattle.hc_grammar.specs.declared.whole.Stop.TheVariants as is
use Rattle.hc_ctoken.specs.declared.token.Token.{Token}
use Rattle.hc_ctoken.specs.Tokens.{tokens_from}
use Rattle.hc_cgrammar.specs.declared.flaw.Flaw.{Flaw}
use Rattle.hc_cgrammar.specs.Unit.{IsSpelling, IsRefused}
use Rattle.hc_cread.specs.declared.unit_text.UnitText.{UnitText}
use Rattle.hc_cread.specs.Builder.{program_of}
use Rattle.hc_cread.specs.Language.{language}
use Rattle.hc_cread.specs.Stops.{told, stop_of, IsExact}
use Rattle.hc_cread.proofs.Accepting.{program_accepted, accepts_program}

-- what stops reading is told
told_of : (s : Stop Flaw) → told (stop_of s) ≡ grammar_stops.told s
told_of (is.Refused f p) = refl
told_of is.Memory = refl

-- what the reader answers to these tokens
abbrev pub IsRead : List Token → Result UnitText (Stop Flaw) → Type 0
IsRead ts = grammar.IsExact (λ (r : UnitText). r.values) grammar_stops.told (Accepted language IsSpelling ts)
    (IsRefusedAt language.reader IsSpelling language.opening (λ (t : Token). t.place) ts)

module _ (from : Place) (bytes : List ℕ) where
  abbrev ts : List Token
  ts = tokens_from from bytes

  pub program_exact : (r : UnitText) → IsRead ts (Ok r) → IsExact from bytes (Ok (program_of r.values))
  program_exact r h = record {
    value_is = program_accepted ts r.values h.value_is;
    refusal_is = tt;
    every_value = λ p x.
        let (v, accepted, e) = accepts_program ts p x in ap program_of (h.every_value v accepted) ∙ e;
    every_refusal = λ f x. h.every_refusal f x;
  }

  told_refusal : (s : Stop Flaw) → IsRead ts (Err s) → IfSome (grammar_stops.told s) (λ f. IsRefused from bytes f.0 f.1)
  told_refusal (is.Refused f p) h = h.refusal_is
  told_refusal is.Memory h = tt

  pub stop_exact : (s : Stop Flaw) → IsRead ts (Err s) → IsExact from bytes (Err (stop_of s))
  stop_exact s h = record {
    value_is = tt;
    refusal_is = subst (λ o. IfSome o (λ f. IsRefused from bytes f.0 f.1)) (sym (told_of s)) (told_refusal s h);
    every_value = λ p x.
        let (v, accepted, e) = accepts_program ts p x in told_of s ∙ h.every_value v accepted;
    every_refusal = λ f x. subst (λ o. IfSome o (λ g. g ≡ f)) (sym (told_of s)) (h.every_refusal f x);
  }
