-- Headers are found where bytes begin with one of two texts.
use Rattle.std.proofs.Common.{◌≡◌, ℕ, ◌-◌, ◌≤◌, Bool, true, false, List, [], length, take, drop, sym, ◌∙◌, subst}
use Rattle.std.specs.Prelude.{IsTrue, ◌↔◌, nat_eq}
use Rattle.std.specs.List.{starts_with}
use Rattle.std.proofs.lemmas.Bool.Decides.{Decides-eqb}
use Rattle.std.proofs.lemmas.List.{take_rest, drop_all}
use Rattle.std.proofs.lemmas.Slice.Eq.{starts_is}
use Rattle.hc_trace.specs.declared.traces.Version.TheVariants.{First, Second}
use Rattle.hc_trace.specs.Traces.{header_of}
use Rattle.hc_trace.specs.Splitting.{BeginsLine, BeginsTrace, HasHeaderAt}

pub begins_first : (bytes : List ℕ) (r : Bool) → r ≡ starts_with nat_eq bytes (header_of First) → r ≡ true → IsTrue r ↔ BeginsTrace bytes
begins_first bytes r e is =
    ((λ _. (First, drop 13 bytes, (starts_is Decides-eqb bytes (header_of First) r e).0 is)), (λ _. is))

pub begins_second : (bytes : List ℕ) (first second : Bool) → first ≡ starts_with nat_eq bytes (header_of First) → first ≡ false →
    second ≡ starts_with nat_eq bytes (header_of Second) → IsTrue second ↔ BeginsTrace bytes
begins_second bytes first second e isnt f = (λ is. (Second, drop 13 bytes, (starts_is Decides-eqb bytes (header_of Second) second f).0 is), back)
  where
    back : BeginsTrace bytes → IsTrue second
    back (First, rest, is) =
        let clash : false ≡ true = sym isnt ∙ (starts_is Decides-eqb bytes (header_of First) first e).1 rest is in absurd (cc clash)
    back (Second, rest, is) = (starts_is Decides-eqb bytes (header_of Second) second f).1 rest is

-- the bytes from a place on
pub header_here : (bytes : List ℕ) (place : ℕ) → BeginsLine bytes place → BeginsTrace (take (length bytes - place) (drop place bytes)) → HasHeaderAt bytes place
header_here bytes place line header = record { line = line; header = subst BeginsTrace (take_rest bytes place) header }

pub header_there : (bytes : List ℕ) (place : ℕ) → HasHeaderAt bytes place → BeginsTrace (take (length bytes - place) (drop place bytes))
header_there bytes place h = subst BeginsTrace (sym (take_rest bytes place)) h.header

-- none stands behind the last byte
pub none_past : (bytes : List ℕ) (place : ℕ) → length bytes ≤ place → ¬ (HasHeaderAt bytes place)
none_past bytes place past h = nothing (subst BeginsTrace (drop_all place bytes past) h.header)
  where
    nothing : BeginsTrace [] → ⊥
    nothing (First, rest, e) = absurd (cc e)
    nothing (Second, rest, e) = absurd (cc e)
