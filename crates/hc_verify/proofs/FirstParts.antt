-- Where the lines of one trace, with what stands behind them, are all lines of another and its end line, they are its first lines.
use Rattle.std.proofs.Common.{◌≡◌, refl, sym, ap, ap₂, ◌∙◌, ℕ, List, [], ◌∷◌, ◌++◌, Option, Some, None, append_assoc}
use Rattle.std.specs.Prelude.{IfSome}
use Rattle.std.specs.List.{AllByRecursion, flat_map}
use Rattle.std.proofs.lemmas.List.{append-nil}
use Rattle.hc_term.specs.TraceText.{words}
use Rattle.hc_trace.specs.declared.traces.Version.{Version}
use Rattle.hc_trace.specs.declared.traces.TraceLine.{TraceLine}
use Rattle.hc_trace.specs.declared.traces.TraceEnd.{TraceEnd}
use Rattle.hc_trace.specs.Reading.{Lacks}
use Rattle.hc_trace.specs.Traces.{IsLine, IsEnd, line_words, line_text, end_words, end_text}
use Rattle.hc_trace.proofs.Cuts.{one_cut}
use Rattle.hc_trace.proofs.RowsOfText.{row_of, spells_row, spelled_lacks, line_plain, end_plain}
use Rattle.hc_trace.proofs.OneTrace.{same_line, same_end, line_no_end}

-- words with a newline behind are cut off in one way
cut_words : (a b : List (List ℕ)) (x y : List ℕ) → AllByRecursion (Lacks 10) a → AllByRecursion (Lacks 10) b →
    words a ++ x ≡ words b ++ y → (words a ≡ words b) × (x ≡ y)
cut_words a b x y h k e =
    let first = ap (λ (s : List ℕ). s ++ x) (sym (spells_row a)) in
    let second = ap (λ (s : List ℕ). s ++ y) (sym (spells_row b)) in
    let cut = one_cut 10 (row_of a) (row_of b) x y (spelled_lacks (row_of a) a h (spells_row a)) (spelled_lacks (row_of b) b k (spells_row b))
    (sym (append_assoc (row_of a) (10 ∷ []) x) ∙ sym first ∙ e ∙ second ∙ append_assoc (row_of b) (10 ∷ []) y) in
    (sym (spells_row a) ∙ ap (λ (s : List ℕ). s ++ 10 ∷ []) cut.0 ∙ spells_row b, cut.1)

-- those lines are the first of these; with an end line they are all, and the end line is this
abbrev pub AreFirst : List TraceLine → Option TraceEnd → List TraceLine → TraceEnd → Type 0
AreFirst ls None ms e = (more : List TraceLine) × (ms ≡ ls ++ more)
AreFirst ls (Some d) ms e = (ls ≡ ms) × (d ≡ e)

one_more : (l m : TraceLine) (ls ms : List TraceLine) (d : Option TraceEnd) (e : TraceEnd) → l ≡ m → AreFirst ls d ms e →
    AreFirst (l ∷ ls) d (m ∷ ms) e
one_more l m ls ms None e same h = (h.0, ap₂ (λ (x : TraceLine) (xs : List TraceLine). x ∷ xs) (sym same) h.1)
one_more l m ls ms (Some d) e same h = (ap₂ (λ (x : TraceLine) (xs : List TraceLine). x ∷ xs) same h.0, h.1)

module _ (v : Version) (e : TraceEnd) (is_end : IsEnd e) where
  pub are_first : (ls : List TraceLine) (d : Option TraceEnd) (rest : List ℕ) (ms : List TraceLine) → AllByRecursion (IsLine v) ls →
      IfSome d IsEnd → AllByRecursion (IsLine v) ms → flat_map line_text ls ++ (end_text d ++ rest) ≡ flat_map line_text ms ++ words (end_words e) →
      AreFirst ls d ms e
  are_first [] None rest ms h i k same = (ms, refl)
  are_first [] (Some d) rest [] h i k same =
      let cut = cut_words (end_words d) (end_words e) rest [] (end_plain d i) (end_plain e is_end) (same ∙ sym (append-nil (words (end_words e)))) in
      (refl, same_end d e i is_end cut.0)
  are_first [] (Some d) rest (m ∷ ms) h i k same =
      let cut = cut_words (end_words d) (line_words m) rest (flat_map line_text ms ++ words (end_words e)) (end_plain d i) (line_plain v m k.0)
      (same ∙ append_assoc (line_text m) (flat_map line_text ms) (words (end_words e))) in
      absurd (line_no_end v m d k.0 (sym cut.0))
  are_first (l ∷ ls) d rest [] h i k same =
      let cut = cut_words (line_words l) (end_words e) (flat_map line_text ls ++ (end_text d ++ rest)) [] (line_plain v l h.0) (end_plain e is_end)
      (sym (append_assoc (line_text l) (flat_map line_text ls) (end_text d ++ rest)) ∙ same ∙ sym (append-nil (words (end_words e)))) in
      absurd (line_no_end v l e h.0 cut.0)
  are_first (l ∷ ls) d rest (m ∷ ms) h i k same =
      let cut = cut_words (line_words l) (line_words m) (flat_map line_text ls ++ (end_text d ++ rest)) (flat_map line_text ms ++ words (end_words e))
      (line_plain v l h.0) (line_plain v m k.0)
      (sym (append_assoc (line_text l) (flat_map line_text ls) (end_text d ++ rest)) ∙ same
      ∙ append_assoc (line_text m) (flat_map line_text ms) (words (end_words e))) in
      one_more l m ls ms d e (same_line v l m h.0 k.0 cut.0) (are_first ls d rest ms h.1 i k.1 cut.1)
