-- The subset of C can be read token by token, and its texts are those of the published grammar.
use Rattle.std.proofs.Common.{refl, sym, subst}
use Rattle.hc_grammar.specs.Reader.{Walk, IsCalm}
use Rattle.hc_grammar.specs.Language.{IsReadable}
use Rattle.hc_grammar.proofs.Settings.{Setting}
use Rattle.hc_ctoken.specs.declared.token.Token.{Token}
use Rattle.hc_cgrammar.specs.declared.role.Role.{Role}
use Rattle.hc_cgrammar.specs.declared.role.Mark.{Mark}
use Rattle.hc_cgrammar.specs.Leaves.{Spelled}
use Rattle.hc_cgrammar.specs.Unit.{IsSpelling}
use Rattle.hc_cgrammar.specs.Rules.{reader}
use Rattle.hc_ctable.specs.Table.{start}
use Rattle.hc_ctable.specs.Language.{language}
use Rattle.hc_ctable.proofs.Tabled.{ll1, ends, start_fits, start_closes}
use Rattle.hc_ctable.proofs.Examples.{examples}
use Rattle.hc_ctable.proofs.Derive.{D}
use Rattle.hc_ctable.proofs.DeriveUnits.{whole_text}
use Rattle.hc_ctable.proofs.CloseUnits.{is_spelling}
use Rattle.hc_ctable.proofs.Calm.{calm}

pub derived : (w : Spelled) → IsSpelling w → D start w
derived w (x, e) = subst (D start) (sym e) (whole_text x)

module _ {V : Type 0} (builder : Walk Token Role Mark V) (blank : V) where
  pub readable : IsReadable (language builder blank)
  readable = record {
    ll1 = ll1;
    examples = examples;
    start_fits = start_fits;
    ends = ends;
    start_closes = start_closes;
    calm = calm;
  }

  abbrev pub setting : Setting (language builder blank)
  setting = record { law = readable; Is = IsSpelling; derived = derived; is = is_spelling }
