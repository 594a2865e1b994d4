use Rattle.std.proofs.Common.{◌≡◌, ◌-◌, ◌+◌, suc, ap, ◌∙◌, ◌++◌, ℕ, length, arith}
use Rattle.std.proofs.lemmas.List.{length-append}
use Rattle.hc_make.specs.Made.{last_line, line_end, pairs}
use Rattle.hc_make.proofs.Paired.{written_more, line_end_short}
use Rattle.hc_make.proofs.made.made_source.Goals as goal

pub loop-number-preserved : goal.loop-number-preserved
loop-number-preserved c =
    let i = c.loop-number.number in
    let more = c.args.pairs - 1 - i in
    let before = c.loop-number.text.items in
    let drawn_text = c.put_pair.new.text.items in
    let below = c.loop-number-test.true in
    let left : c.args.pairs - i ≡ suc more = omega (arith, below) in
    let next : more ≡ c.args.pairs - (i + 1) = omega (arith, below) in
    let told = written_more before drawn_text c.put_line_end.new.text.items last_line i (c.args.pairs - i) more c.next_word.result c.rate_of-rate.result
    c.loop-number.words c.next_word.new.self left c.next_word.ensures c.rate_of-rate.ensures c.in_ok-put_pair.ensures.pair c.in_ok-put_line_end.ensures in
    let short = c.loop-number.invariant.short in
    let pair_short = c.in_ok-put_pair.ensures.short in
    let long = ap length c.in_ok-put_line_end.ensures ∙ length-append drawn_text (line_end more) in
    let end_short = line_end_short more in
    record {
      text = c.loop-number.invariant.text ∙ (told ∙ ap (λ (n : ℕ). c.put_line_end.new.text.items ++ (pairs (i + 1) n c.next_word.new.self ++ last_line)) next);
      short = omega (arith, short, pair_short, long, end_short);
    }
