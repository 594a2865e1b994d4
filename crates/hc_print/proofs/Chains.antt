-- What follows from the last of several calls.
use Rattle.std.specs.Prelude.{Result, OnOk}
use Rattle.std.proofs.Common.{◌≡◌, ◌++◌, ℕ, List, [], ap, sym, ◌∙◌}
use Rattle.std.proofs.lemmas.List.{append-nil}
use Rattle.std.proofs.lemmas.Result.{on_ok_weaker}
use Rattle.hc_print.specs.Lexemes.{Lexemes}
use Rattle.hc_print.specs.Written.{written}

pub then_ok : {T E P Q : Type 0} (r : Result T E) → OnOk r P → (P → Q) → OnOk r Q
then_ok r p f = on_ok_weaker r f p

-- a text that began empty is what was written
pub nothing_behind : (new old : List ℕ) (w : Lexemes) → old ≡ [] → new ++ written [] ≡ old ++ written w → new ≡ written w
unfolding written
nothing_behind new old w e h = sym (append-nil new) ∙ h ∙ ap (λ x. x ++ written w) e
