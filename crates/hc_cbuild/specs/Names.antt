-- Names in generated code.
use Rattle.std.specs.Prelude.{ℕ, Bool, ◌&&◌, nat_le, List, length, slice_index}
use Rattle.std.specs.List.{list_all}
use Rattle.std.specs.Char.{is_ascii_alphabetic}
use Rattle.hc_frac.specs.Word.{word_byte}

-- whether bytes are a name: a letter, then letters, digits and `_`, 64 at most (`IsWord` of hc_frac, as a test that computes)
abbrev pub is_name : List ℕ → Bool
is_name w = is_ascii_alphabetic (slice_index w 0) && list_all word_byte w && nat_le (length w) 64
