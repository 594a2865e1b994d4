-- Each primitive is spelled by a word.
use Rattle.std.proofs.Common.{◌≡◌, ℕ, Bool, true, List, length, refl}
use Rattle.std.specs.Prelude.{◌&&◌, nat_le, slice_index}
use Rattle.std.specs.List.{list_all}
use Rattle.std.specs.Char.{is_ascii_alphabetic}
use Rattle.std.proofs.lemmas.Bool.{and_parts, leb-true}
use Rattle.hc_frac.specs.Word.{IsWord, word_byte}
use Rattle.hc_cast.specs.declared.primitive.Primitive.{Primitive}
use Rattle.hc_cast.specs.declared.primitive.Primitive.TheVariants as primitive
use Rattle.hc_cast.specs.Primitives.{text_of}

-- whether bytes are a word
abbrev fits : List ℕ → Bool
fits w = is_ascii_alphabetic (slice_index w 0) && list_all word_byte w && nat_le (length w) 64

word : (w : List ℕ) → fits w ≡ true → IsWord w
word w e =
    let outer = and_parts (is_ascii_alphabetic (slice_index w 0) && list_all word_byte w) (nat_le (length w) 64) e in
    let inner = and_parts (is_ascii_alphabetic (slice_index w 0)) (list_all word_byte w) outer.0 in
    record { letter_first = inner.0; all = inner.1; short = leb-true (length w) 64 outer.1 }

pub is_word : (p : Primitive) → IsWord (text_of p)
is_word primitive.FrSet = word _ refl
is_word primitive.FrMove = word _ refl
is_word primitive.FrAdd = word _ refl
is_word primitive.FrSub = word _ refl
is_word primitive.FrMul = word _ refl
is_word primitive.FrDiv = word _ refl
is_word primitive.FrNeg = word _ refl
is_word primitive.FrCmp = word _ refl
is_word primitive.FrSign = word _ refl
is_word primitive.OutDelay = word _ refl
is_word primitive.OutComm = word _ refl
is_word primitive.OutLog = word _ refl
is_word primitive.OutEnd = word _ refl
is_word primitive.MLock = word _ refl
is_word primitive.MUnlock = word _ refl
is_word primitive.CWait = word _ refl
is_word primitive.CWake = word _ refl
