use Rattle.std.proofs.Common.{◌≡◌, ◌≤◌, ◌∙◌, ap, subst, List, ℕ, length, arith}
use Rattle.hc_limits.specs.Limits.{most_source_bytes}
use Rattle.hc_make.specs.Made.{made_text}
use Rattle.hc_cmd.specs.Sources.{OfSource}
use Rattle.hc_cmd.specs.Answers.{SumsUp}
use Rattle.hc_cmd.specs.Prepared.{Prepares}
use Rattle.hc_cmd.proofs.Finding.{ok_found}
use Rattle.hc_cmd.proofs.prepared.prepare_made.Goals as goal

pub prepare_sum-requires : goal.prepare_sum-requires
prepare_sum-requires c =
    let short = ok_found (λ text. length text.items ≤ most_source_bytes) _ c.made_source.result c.map_err.result c.in_ok-text.text c.made_source.ensures.short c.map_err.ensures.cases c.in_ok-text.was in
    let same = ap length c.as_slice.ensures.value in
    omega (arith, short, same)

pub returns : goal.returns
returns c =
    let made = c.args.made in
    let text = ok_found (λ text. text.items ≡ made_text made.pairs made.seed) _ c.made_source.result c.map_err.result c.in_ok-text.text c.made_source.ensures.text c.map_err.ensures.cases c.in_ok-text.was in
    subst (λ (bytes : List ℕ). Prepares (OfSource (λ flat. SumsUp made) bytes) c.prepare_sum.result) (c.as_slice.ensures.value ∙ text) c.prepare_sum.ensures
