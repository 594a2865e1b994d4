use Rattle.std.proofs.Common.{rules, ◌≡◌, ◌≢◌, true}
use Rattle.std.specs.Prelude.{pos, int_lt, SomeIff}
use Rattle.hc_rational.specs.Words.{ratio, IsFrac}
use Rattle.hc_cprim.proofs.Lowest.{lowest_some, lowest_none}
use Rattle.hc_cprim.proofs.rows.in_lowest_terms.Goals as goal

pub returns-in-Some : goal.returns-in-Some
returns-in-Some c small =
    let n = c.args.n in
    let m = c.args.m in
    let above : int_lt (pos 0) c.args.m ≡ true = search rules in
    let same : c.in-Some.value ≡ ratio c.args.n c.args.m = search rules in
    let told : SomeIff c.as_written.result ((c.in-Some.value.num ≡ c.args.n) × (pos c.in-Some.value.den ≡ c.args.m)) c.in-Some.value = search rules in
    lowest_some c.args.n c.args.m c.in-Some.value c.as_written.result above same told

pub returns-in-None : goal.returns-in-None
returns-in-None c small =
    let above : int_lt (pos 0) c.args.m ≡ true = search rules in
    let told : ((c.args.m ≢ pos 0) × IsFrac (ratio c.args.n c.args.m)) → ⊥ = search rules in
    lowest_none c.args.n c.args.m above small told
