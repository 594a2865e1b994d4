-- Pieces in a row: a text is under way until its last piece, and then flushed, or it is cut.
use Rattle.std.proofs.Common.{◌≡◌, ◌≢◌, ℕ, List, [], ◌++◌, length, Option, None, Some, Result, Ok, Err, refl, sym, ap, subst, ◌∙◌, append_assoc}
use Rattle.std.proofs.lemmas.List.{append-nil}
use Rattle.hc_world.specs.Counts.{Rose}
use Rattle.hc_world.specs.States.{SinkState}
use Rattle.hc_world.specs.Written.{Written, Adds, Flushes}
use Rattle.hc_world.proofs.WrittenLemmas.{adds_adds, adds_part, part_more}
use Rattle.hc_world.specs.Sinks.{AddsFlushed, IsCut, PutsWhole}
use Rattle.hc_world.specs.Pieces.{Finishes, IsBegun, IsUnderWay}

-- nothing was appended
adds_nothing : (x : Option Written) → Adds x x []
adds_nothing None = tt
adds_nothing (Some x) = (sym (append-nil x.bytes), refl)

-- bytes that were appended and then flushed
adds_then_flushes : (a b c : Option Written) (xs : List ℕ)
    → Adds a b xs → Flushes b c → AddsFlushed a c xs
adds_then_flushes None b c xs adds flushes = tt
adds_then_flushes (Some x) None c xs adds flushes = absurd adds
adds_then_flushes (Some x) (Some y) None xs adds flushes = absurd flushes
adds_then_flushes (Some x) (Some y) (Some z) xs adds flushes =
    (flushes.0 ∙ adds.0, λ some. flushes.1 ∙ sym (ap length flushes.0))

-- some bytes stand, and then more
pub begun_more : {K : Type 0} {state : K → SinkState} {a b c : K}
    {xs ys : List ℕ}
    → IsBegun state a b xs → IsBegun state b c ys → IsBegun state a c (xs ++ ys)
begun_more {state} {a} {b} {c} {xs} {ys} first next = record {
  adds = adds_adds (state a).told (state b).told (state c).told xs ys first.adds next.adds;
  kept = next.kept ∙ first.kept;
}

-- some bytes stand, and then a first part of more, whatever was to follow
cut_after : {K : Type 0} {state : K → SinkState} {a b c : K}
    {xs ys : List ℕ} (rest : List ℕ)
    → IsBegun state a b xs → IsCut state b c ys
    → IsCut state a c ((xs ++ ys) ++ rest)
cut_after {state} {a} {b} {c} {xs} {ys} rest first next = record {
  part =
      part_more (state a).told (state c).told (xs ++ ys) rest
      (adds_part (state a).told (state b).told (state c).told xs ys first.adds next.part);
  rose = let P : ℕ → Type 0 = λ count. Rose count (state c).faults in subst P first.kept next.rose;
}

-- before the first piece all of the text is the rest
pub under_way_start : {K : Type 0} (state : K → SinkState) (sink : K)
    (text : List ℕ) → IsUnderWay state sink sink text text
under_way_start state sink text = record {
  done = [];
  split = refl;
  begun = record { adds = adds_nothing (state sink).told; kept = refl };
}

-- a piece from the front of the rest stands too
pub under_way_piece : {K : Type 0} {state : K → SinkState} {a b c : K}
    {text rest piece : List ℕ} (behind : List ℕ)
    → rest ≡ piece ++ behind → IsUnderWay state a b text rest
    → IsBegun state b c piece → IsUnderWay state a c text behind
under_way_piece {piece} behind front before next = record {
  done = before.done ++ piece;
  split =
      before.split ∙ ap (λ bytes. before.done ++ bytes) front
      ∙ sym (append_assoc before.done piece behind);
  begun = begun_more before.begun next;
}

-- the text is cut where a piece from the front of the rest is
pub cut_at_piece : {K : Type 0} {state : K → SinkState} {a b c : K}
    {text rest piece : List ℕ} (behind : List ℕ)
    → rest ≡ piece ++ behind → IsUnderWay state a b text rest
    → IsCut state b c piece → IsCut state a c text
cut_at_piece {state} {a} {c} {piece} behind front before cut =
    let P : List ℕ → Type 0 = λ bytes. IsCut state a c bytes in
    let split =
    before.split ∙ ap (λ bytes. before.done ++ bytes) front
    ∙ sym (append_assoc before.done piece behind) in
    subst P (sym split) (cut_after behind before.begun cut)

-- behind the last piece the whole text stands
pub begun_whole : {K : Type 0} {state : K → SinkState} {a b : K}
    {text : List ℕ} → IsUnderWay state a b text [] → IsBegun state a b text
begun_whole {state} {a} {b} last =
    let P : List ℕ → Type 0 = λ bytes. IsBegun state a b bytes in
    subst P (sym (last.split ∙ append-nil last.done)) last.begun

-- after the last piece the flush says whether the whole text stands or is cut
pub puts_at_end : {K T E : Type 0} {state : K → SinkState} {a b : K}
    {text : List ℕ} (c : K) (result : Result T E)
    → text ≢ [] → IsUnderWay state a b text [] → Finishes state b c result
    → PutsWhole state a c result text
puts_at_end {state} {a} {b} {text} c (Ok x) some last flushed =
    record {
      adds =
          adds_then_flushes (state a).told (state b).told (state c).told text
          (begun_whole last).adds flushed.flushes;
      kept = flushed.kept ∙ last.begun.kept;
      untouched = λ none. absurd (some none);
    }
puts_at_end c (Err e) some last cut = cut_at_piece [] refl last cut

-- a text of one piece
pub puts_at_once : {K T E : Type 0} {state : K → SinkState} {a b : K}
    {text : List ℕ} (c : K) (result : Result T E)
    → text ≢ [] → IsBegun state a b text → Finishes state b c result
    → PutsWhole state a c result text
puts_at_once {text} c result some begun finishes =
    let last = under_way_piece [] (sym (append-nil text)) (under_way_start _ _ text) begun in
    puts_at_end c result some last finishes
