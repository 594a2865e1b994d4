use Rattle.std.proofs.Common.{◌∙◌, ◌≡◌, sym, refl, pos}
use Rattle.hc_frac.proofs.TextLemmas.{text_utf8, num_parsed, den_parsed, found}
use Rattle.hc_frac.proofs.reading.candidate.Goals as goal

pub returns-in_default : goal.returns-in_default
returns-in_default c = λ q fits e. absurd (c.in_default.ensures.cases.0 (text_utf8 q c.args.bytes.now fits e))

pub returns-in_default-parse : goal.returns-in_default-parse
returns-in_default-parse c = λ q fits e.
    let text = e ∙ sym c.in-Ok.ensures.cases.0 in
    absurd (c.in_default-parse.not-Ok q.num (num_parsed q _ c.parse.result fits (c.halves.ensures.first q fits text) c.parse.ensures.value.0))

pub returns-in_default-parse-2 : goal.returns-in_default-parse-2
returns-in_default-parse-2 c = λ q fits e.
    let text = e ∙ sym c.in-Ok.ensures.cases.0 in
    absurd (c.in_default-parse-2.not-Ok (pos q.den) (den_parsed q _ c.parse-2.result fits (c.halves.ensures.second q fits text) c.parse-2.ensures.value.0))

pub returns : goal.returns
returns c = λ q fits e.
    let text = e ∙ sym c.in-Ok.ensures.cases.0 in
    let top = num_parsed q _ c.parse.result fits (c.halves.ensures.first q fits text) c.parse.ensures.value.0 in
    let bottom = den_parsed q _ c.parse-2.result fits (c.halves.ensures.second q fits text) c.parse-2.ensures.value.0 in
    let num : c.in-Ok-parse.num ≡ q.num = cc (c.in-Ok-parse.is, top) in
    let den : c.in-Ok-parse-2.den ≡ pos q.den = cc (c.in-Ok-parse-2.is, bottom) in
    found q c.in-Ok-parse.num c.in-Ok-parse-2.den _ _ c.new.result fits num den refl refl c.new.ensures
