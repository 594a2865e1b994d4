use Rattle.std.proofs.Common.{◌∙◌, ap, codes}
use Rattle.clap.specs.Matches.{found_of}
use Rattle.clap.proofs.WalkLemmas.{first_value-rows}
use Rattle.hc_words.specs.Line.{is_yes}
use Rattle.hc_words.proofs.line.given_of.Goals as goal

pub returns : goal.returns
returns c =
    let found = found_of c.args.matches.now in
    let number = c.get_str.ensures ∙ first_value-rows found (codes "N") in
    let seed = c.get_str-2.ensures ∙ first_value-rows found (codes "seed") in
    let horizon = c.get_str-3.ensures ∙ first_value-rows found (codes "horizon") in
    let limit = c.get_str-4.ensures ∙ first_value-rows found (codes "limit") in
    let workers = c.get_str-5.ensures ∙ first_value-rows found (codes "workers") in
    let steps = c.get_str-6.ensures ∙ first_value-rows found (codes "steps") in
    let flag = c.get_str-7.ensures ∙ first_value-rows found (codes "report") in
    let report = c.is_yes.ensures ∙ ap is_yes flag in
    let other = c.get_str-8.ensures ∙ first_value-rows found (codes "channels") in
    let channels = c.is_yes-2.ensures ∙ ap is_yes other in
    cc (number, seed, horizon, limit, workers, steps, report, channels)
