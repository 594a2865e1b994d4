use Rattle.std.proofs.Common.{◌≡◌, ◌++◌, ◌∷◌, map, subst, OnOk, append_assoc}
use Rattle.hc_term.specs.TraceText.{words}
use Rattle.hc_upgrade.specs.Tails.{tail}
use Rattle.hc_upgrade.proofs.Tails.{words_tail}
use Rattle.hc_upgrade.proofs.line.put_words.Goals as goal

pub returns : goal.returns
returns c =
    let old = c.args.text.now.items in
    let first = c.args.first.now in
    let rest = c.args.rest.now in
    let same : c.extend_from_slice.new.self.items ++ tail rest ≡ old ++ words (first ∷ map (λ w. w.now) rest) =
    cc (c.in_ok-extend_from_slice.ensures.items, c.as_bytes.ensures.value, append_assoc old first (tail rest), words_tail first rest) in
    subst (λ xs. OnOk c.put_rest.result (c.put_rest.new.text.items ≡ xs)) same c.put_rest.ensures
