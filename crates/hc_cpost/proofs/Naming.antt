-- A name is a word.
use Rattle.std.specs.Prelude.{◌≡◌, ℕ, Bool, true, ◌&&◌, nat_le, List, length, slice_index}
use Rattle.std.specs.List.{list_all}
use Rattle.std.specs.Char.{is_ascii_alphabetic}
use Rattle.std.proofs.lemmas.Bool.{and_parts, leb-true}
use Rattle.hc_frac.specs.Word.{IsWord, word_byte}
use Rattle.hc_cbuild.specs.Names.{is_name}

pub word_of : (w : List ℕ) → is_name w ≡ true → IsWord w
word_of w e =
    let outer = and_parts (is_ascii_alphabetic (slice_index w 0) && list_all word_byte w) (nat_le (length w) 64) e in
    let inner = and_parts (is_ascii_alphabetic (slice_index w 0)) (list_all word_byte w) outer.0 in
    record { letter_first = inner.0; all = inner.1; short = leb-true (length w) 64 outer.1 }
