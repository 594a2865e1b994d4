-- Writes in a row: what stands after one write and then another.
use Rattle.std.proofs.Common.{ℕ, ◌+◌, ◌-◌, List, [], ◌++◌, length, take, drop, Option, None, Some, sym, ap, subst, ◌∙◌, append_assoc}
use Rattle.std.proofs.lemmas.List.{append-nil, take-append-drop, take_rest}
use Rattle.std.proofs.Math.Seq.{take-add}
use Rattle.hc_world.specs.Written.{Written, Adds, AddsPart}

-- all of the first bytes stand, and then all of the next
pub adds_adds : (a b c : Option Written) (xs ys : List ℕ)
    → Adds a b xs → Adds b c ys → Adds a c (xs ++ ys)
adds_adds None b c xs ys first next = tt
adds_adds (Some x) None c xs ys first next = absurd first
adds_adds (Some x) (Some y) None xs ys first next = absurd next
adds_adds (Some x) (Some y) (Some z) xs ys first next =
    (next.0 ∙ ap (λ bytes. bytes ++ ys) first.0 ∙ append_assoc x.bytes xs ys, next.1 ∙ first.1)

-- where nothing was added after them, the same bytes stand
pub adds_none : (a b c : Option Written) (xs : List ℕ)
    → Adds a b xs → Adds b c [] → Adds a c xs
adds_none a b c xs first next =
    let P : List ℕ → Type 0 = λ bytes. Adds a c bytes in
    subst P (append-nil xs) (adds_adds a b c xs [] first next)

-- all of the first bytes stand, and then a first part of the next
pub adds_part : (a b c : Option Written) (xs ys : List ℕ)
    → Adds a b xs → AddsPart b c ys → AddsPart a c (xs ++ ys)
adds_part a b c xs ys first next = record {
  first = xs ++ next.first;
  rest = next.rest;
  whole = ap (λ bytes. xs ++ bytes) next.whole ∙ sym (append_assoc xs next.first next.rest);
  adds = adds_adds a b c xs next.first first next.adds;
}

-- a first part of the first bytes is one of them and any more
pub part_more : (a b : Option Written) (xs ys : List ℕ) → AddsPart a b xs → AddsPart a b (xs ++ ys)
part_more a b xs ys part = record {
  first = part.first;
  rest = part.rest ++ ys;
  whole = ap (λ bytes. bytes ++ ys) part.whole ∙ append_assoc part.first part.rest ys;
  adds = part.adds;
}

-- all bytes stand, and what came next added nothing
pub all_adds : (a b c : Option Written) (xs : List ℕ)
    → Adds a b xs → Adds b c [] → AddsPart a c xs
all_adds a b c xs first next = record {
  first = xs;
  rest = [];
  whole = sym (append-nil xs);
  adds = adds_none a b c xs first next;
}

-- the first n bytes stand, and what came next added nothing
pub front_adds : (a b c : Option Written) (xs : List ℕ) (n : ℕ)
    → Adds a b (take n xs) → Adds b c [] → AddsPart a c xs
front_adds a b c xs n first next = record {
  first = take n xs;
  rest = drop n xs;
  whole = sym (take-append-drop n xs);
  adds = adds_none a b c (take n xs) first next;
}

-- a write of some of the bytes after the first n
pub adds_next : (a b c : Option Written) (xs : List ℕ) (n more : ℕ)
    → Adds a b (take n xs) → Adds b c (take more (take (length xs - n) (drop n xs)))
    → Adds a c (take (n + more) xs)
adds_next a b c xs n more first next =
    rw take-add
    (adds_adds a b c (take n xs) (take more (drop n xs)) first (rw take_rest at next))
