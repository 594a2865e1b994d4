use Rattle.std.specs.String.{string_bytes}
use Rattle.hc_words.proofs.Asking.{not_asked, none_found, second_word}
use Rattle.hc_words.proofs.requests.asked_for.Goals as goal

pub returns-in-len2-up-clause-usage : goal.returns-in-len2-up-clause-usage
returns-in-len2-up-clause-usage c = λ e.
    let named = second_word string_bytes c.args.words.now.items c.as_slice.result.now c.name-item.result c.as_slice.ensures.value c.in-len2-up.len_at_least c.name-item.is in
    not_asked _ (string_bytes c.name-item.result) c.as_str.result.now _ named c.as_str.ensures.value (c.in_ok-given.ensures {u = tt}).given
    (c.requested.ensures.none (none_found c.requested.result c.ok_or.result c.ok_or.ensures.variant e))
