-- Reads in a row, and what the bytes that came say of the bytes that were told.
use Rattle.std.proofs.Common.{◌≡◌, ℕ, ◌+◌, ◌-◌, min, drop, [], sym, ◌<◌, ◌≤◌, List, ◌++◌, length, take, Option, None, Some, ap, ◌∙◌, length-append, arith}
use Rattle.std.proofs.lemmas.List.{append-nil, drop_all, drop-drop, length-take-le, take-append-drop, take_at, take_rest}
use Rattle.std.proofs.KnownBytes.{Consumes-trans}
use Rattle.std.specs.Io.KnownBytes.{Consumes}
use Rattle.hc_world.specs.Reading.{IsAll, ReadsAll, ReadsPast}

-- a read of more bytes than are left up to `most`
pub reads_past : (a b c : Option (List ℕ)) (xs buffer : List ℕ) (n most : ℕ)
    → Consumes a b xs → Consumes b c (take n buffer) → n ≤ length buffer → most - length xs < n
    → ReadsPast a c most
reads_past a b c xs buffer n most first next fits past = record {
  bytes = xs ++ take n buffer;
  came = Consumes-trans a b c xs (take n buffer) first next;
  past = omega (arith, length-append xs (take n buffer), length-take-le n buffer fits);
}

-- what was read to the end is all that was told
pub all_told : (a b : Option (List ℕ)) (xs : List ℕ) → ReadsAll a b xs → IsAll a xs
all_told None b xs all = tt
all_told (Some told) None xs all = absurd all.came
all_told (Some told) (Some rest) xs all =
    all.came ∙ ap (λ bytes. xs ++ bytes) all.ended ∙ append-nil xs

-- some text is all that was told, and it is longer than `most`
pub past_told : (a b : Option (List ℕ)) (most : ℕ)
    → ReadsPast a b most → (text : List ℕ) × IsAll a text × (most < length text)
past_told None b most reads = (reads.bytes, tt, reads.past)
past_told (Some told) None most reads = absurd reads.came
past_told (Some told) (Some rest) most reads =
    (reads.bytes ++ rest, reads.came, omega (arith, reads.past, length-append reads.bytes rest))

-- a read copies the next n of the bytes that stand behind the first `at`, none only at the end
pub gives_next : (bytes buffer copied : List ℕ) (at most n : ℕ)
    → copied ≡ take n (take (length bytes - at) (drop at bytes))
    → n ≡ min most (length (take (length bytes - at) (drop at bytes)))
    → 0 < most
    → (drop at bytes ≡ take n (copied ++ drop n buffer) ++ drop (at + n) bytes)
    × (n ≡ 0 → drop (at + n) bytes ≡ [])
gives_next bytes buffer copied at most n is_copied is_least some =
    let rest = drop at bytes in
    let copy : copied ≡ take n rest = rw take_rest at is_copied in
    let least : n ≡ min most (length rest) = rw take_rest at is_least in
    let front : take n (take n rest ++ drop n buffer) ≡ take n rest =
    take_at (take n rest) (drop n buffer) n (length-take-le n rest (omega arith)) in
    let behind : drop n rest ≡ drop (at + n) bytes = drop-drop n at bytes in (
      rw (copy, front, ← behind) (sym (take-append-drop n rest)),
      λ none. rw (← behind) (drop_all n rest (omega arith)),
    )
