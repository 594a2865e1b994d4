-- A word is text.
use Rattle.std.proofs.Common.{ℕ, ◌<◌, List, [], ◌∷◌, zero, suc, arith}
use Rattle.std.specs.Prelude.{IsTrue, IsAscii, IsUtf8}
use Rattle.std.specs.List.{list_all}
use Rattle.std.proofs.lemmas.Bool.{and_parts}
use Rattle.std.proofs.lemmas.Bool.Decides.{nat_tests}
use Rattle.std.proofs.lemmas.Str.{IsUtf8-from_ascii}
use Rattle.hc_frac.specs.Word.{word_byte}

word_below : (b : ℕ) → IsTrue (word_byte b) → b < 128
word_below b h = grind (arith, nat_tests)

word_ascii : (bs : List ℕ) → IsTrue (list_all word_byte bs) → IsAscii bs
word_ascii [] h i = omega arith
word_ascii (b ∷ bs) h zero = word_below b (and_parts (word_byte b) (list_all word_byte bs) h).0
word_ascii (b ∷ bs) h (suc i) = word_ascii bs (and_parts (word_byte b) (list_all word_byte bs) h).1 i

pub word_text : (bs : List ℕ) → IsTrue (list_all word_byte bs) → IsUtf8 bs
word_text bs h = IsUtf8-from_ascii bs (word_ascii bs h)
