use Rattle.std.proofs.Common.{◌∙◌, ap, map}
use Rattle.std.specs.String.{string_bytes}
use Rattle.hc_words.proofs.Command.{taken_of, given_of, refused_of}
use Rattle.hc_words.proofs.line.read_words.Goals as goal

pub returns-in-Ok-try_get_matches_from-clause-taken : goal.returns-in-Ok-try_get_matches_from-clause-taken
returns-in-Ok-try_get_matches_from-clause-taken c =
    taken_of _ _ _ c.in-Ok.ensures (ap (map string_bytes) c.as_slice.ensures.value) c.in-Ok-try_get_matches_from.ensures.kinds

pub returns-in-Ok-try_get_matches_from-clause-given : goal.returns-in-Ok-try_get_matches_from-clause-given
returns-in-Ok-try_get_matches_from-clause-given c =
    c.given_of.ensures ∙ given_of _ _ _ _ c.in-Ok.ensures (ap (map string_bytes) c.as_slice.ensures.value) c.in-Ok-try_get_matches_from.ensures.matches

pub returns-clause-refused : goal.returns-clause-refused
returns-clause-refused c = λ e taken.
    let memory = refused_of _ _ _ c.in-Err-try_get_matches_from.error c.in-Ok.ensures (ap (map string_bytes) c.as_slice.ensures.value) c.in-Err-try_get_matches_from.ensures.kinds taken in
    let equal = rw (c.kind.ensures ∙ memory) at c.eq.ensures in
    cc (equal, c.if-eq.false)
