-- What follows from the last of several calls.
use Rattle.std.specs.Prelude.{Result, OnOk}
use Rattle.std.proofs.Common.{◌≡◌, ◌++◌, ℕ, List, [], length, ap, sym, ◌∙◌}
use Rattle.std.proofs.lemmas.List.{append-nil}
use Rattle.std.proofs.lemmas.Result.{on_ok_weaker}
use Rattle.hc_cast.specs.declared.program.CProgram.{CProgram}
use Rattle.hc_cast.specs.declared.program.CArray.{CArray}
use Rattle.hc_cast.specs.declared.program.CFunction.{CFunction}
use Rattle.hc_cast.specs.declared.program.CBody.{CBody}
use Rattle.hc_cgrammar.specs.Leaves.{Word}
use Rattle.hc_cspell.specs.Tokens.{Lexemes, written}
use Rattle.hc_cspell.specs.Units.{arrays, channels, processes, functions, threads_from, table, main, unit}

pub then_ok : {T E P Q : Type 0} (r : Result T E) → OnOk r P → (P → Q) → OnOk r Q
then_ok r p f = on_ok_weaker r f p

-- a text that began so is that and what was written
pub behind_front : (new front old : List ℕ) (w : Lexemes) → old ≡ front → new ++ written [] ≡ old ++ written w
    → new ≡ front ++ written w
unfolding written
behind_front new front old w e h = sym (append-nil new) ∙ h ∙ ap (λ x. x ++ written w) e

-- a program by its parts
pub unit_of : (p : CProgram) (xs : List CArray) (cs ps : List Word) (fs : List CFunction) (ts us : List CBody) (n : ℕ)
    → xs ≡ p.arrays → cs ≡ p.channels → ps ≡ p.processes → fs ≡ p.functions → ts ≡ p.threads → us ≡ p.threads
    → n ≡ length p.threads
    → arrays xs (channels cs (processes ps (functions fs (threads_from 0 ts (table us (main n [])))))) ≡ unit p
unit_of p xs cs ps fs ts us n a b c d e f g = rw (a, b, c, d, e, f, g)
