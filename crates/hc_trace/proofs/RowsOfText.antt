-- A trace text is its rows, the lines without their newlines: a header, lines, and an end at most. Bytes have the same
-- rows however they are cut at newlines, and the first rows of a trace are a trace.
use Rattle.std.proofs.Common.{◌≡◌, ◌≢◌, ◌==◌, ℕ, Bool, true, cond, List, [], ◌∷◌, ◌++◌, Option, Some, None, ◌⊎◌, inl, inr, refl, sym, ap, ap₂, ◌∙◌, subst, arith, append_assoc}
use Rattle.std.specs.Prelude.{codes, IfSome}
use Rattle.std.specs.List.{AllByRecursion, flat_map}
use Rattle.std.proofs.lemmas.List.{append-nil, append_cancel_right}
use Rattle.hc_rational.specs.Words.{Rational, IsFrac}
use Rattle.hc_frac.specs.Text.{text_of}
use Rattle.hc_frac.specs.Word.{IsWord, word_byte}
use Rattle.hc_trace.specs.declared.traces.Version.{Version}
use Rattle.hc_trace.specs.declared.traces.Version.TheVariants.{First, Second}
use Rattle.hc_trace.specs.declared.traces.TraceLine.{TraceLine}
use Rattle.hc_trace.specs.declared.traces.TraceEvent.{TraceEvent}
use Rattle.hc_trace.specs.declared.traces.TraceEvent.TheVariants.{Delay, Comm, Log}
use Rattle.hc_trace.specs.declared.traces.TraceEnd.{TraceEnd}
use Rattle.hc_trace.specs.declared.traces.EndKind.{EndKind}
use Rattle.hc_trace.specs.declared.traces.EndKind.TheVariants.{Terminated, Deadlock, Horizon, Limit, Overflow}
use Rattle.hc_trace.specs.Traces.{IsEvent, IsLine, IsWho, IsEnd, event_word, event_parts, line_words, line_text, end_word, end_parts, end_words, end_text, header_row, header_of}
use Rattle.hc_trace.specs.Found.{Spells}
use Rattle.hc_trace.specs.Reading.{Lacks, IsText}
use Rattle.hc_trace.proofs.Cuts.{lacks_append, lacks_from, one_cut}
use Rattle.hc_trace.proofs.Spelling.{word_lacks, text_lacks, no_newline}

-- ---- words in a row

pub row_of : List (List ℕ) → List ℕ
row_of [] = []
row_of (w ∷ []) = w
row_of (w ∷ v ∷ ws) = w ++ 32 ∷ row_of (v ∷ ws)

pub spells_row : (ws : List (List ℕ)) → Spells (row_of ws) ws
unfolding row_of
spells_row [] = refl
spells_row (w ∷ []) = refl
spells_row (w ∷ v ∷ ws) = append_assoc w (32 ∷ row_of (v ∷ ws)) (10 ∷ []) ∙ ap (λ s. w ++ 32 ∷ s) (spells_row (v ∷ ws))

row_lacks : (ws : List (List ℕ)) → AllByRecursion (Lacks 10) ws → Lacks 10 (row_of ws)
unfolding row_of
row_lacks [] h = tt
row_lacks (w ∷ []) h = h.0
row_lacks (w ∷ v ∷ ws) h =
    let other : 32 ≢ 10 = λ e. omega (arith, e) in
    lacks_append 10 w (32 ∷ row_of (v ∷ ws)) h.0 (other, row_lacks (v ∷ ws) h.1)

-- what spells words without newlines has none
pub spelled_lacks : (row : List ℕ) (ws : List (List ℕ)) → AllByRecursion (Lacks 10) ws → Spells row ws → Lacks 10 row
spelled_lacks row ws h e = subst (Lacks 10) (sym (append_cancel_right row (row_of ws) (10 ∷ []) (e ∙ sym (spells_row ws)))) (row_lacks ws h)

plain : (w : List ℕ) → IsWord w → Lacks 10 w
plain w h = word_lacks 10 w refl h

plain_text : (q : Rational) → IsFrac q → Lacks 10 (text_of q)
plain_text q h = text_lacks 10 q no_newline h

event_plain : (v : Version) (e : TraceEvent) → IsEvent v e → AllByRecursion (Lacks 10) (event_word e ∷ event_parts e)
event_plain v (Delay by) h = (lacks_from word_byte 10 (codes "delay") refl refl, (plain_text by h, tt))
event_plain First (Comm channel None None value) h = (lacks_from word_byte 10 (codes "comm") refl refl, (plain channel h.0, (plain_text value h.1, tt)))
event_plain First (Comm channel None (Some receiver) value) h = absurd h
event_plain First (Comm channel (Some sender) receiver value) h = absurd h
event_plain Second (Comm channel None receiver value) h = absurd h
event_plain Second (Comm channel (Some sender) None value) h = absurd h
event_plain Second (Comm channel (Some sender) (Some receiver) value) h =
    (lacks_from word_byte 10 (codes "comm") refl refl, (plain channel h.0, (plain sender h.1, (plain receiver h.2, (plain_text value h.3, tt)))))
event_plain v (Log process value) h = (lacks_from word_byte 10 (codes "log") refl refl, (plain process h.0, (plain_text value h.1, tt)))

pub line_plain : (v : Version) (l : TraceLine) → IsLine v l → AllByRecursion (Lacks 10) (line_words l)
line_plain v l h = (plain_text l.at h.0, event_plain v l.event h.1)

end_parts_plain : (kind : EndKind) (at : Rational) (who : Option (List ℕ)) → IsFrac at → IsWho kind who → AllByRecursion (Lacks 10) (end_parts kind at who)
end_parts_plain Overflow at None h k = let star : 42 ≢ 10 = λ e. omega (arith, e) in (plain_text at h, ((star, tt), tt))
end_parts_plain Overflow at (Some process) h k = (plain_text at h, (plain process k, tt))
end_parts_plain Terminated at who h k = (plain_text at h, tt)
end_parts_plain Deadlock at who h k = (plain_text at h, tt)
end_parts_plain Horizon at who h k = (plain_text at h, tt)
end_parts_plain Limit at who h k = (plain_text at h, tt)

end_word_plain : (kind : EndKind) → Lacks 10 (end_word kind)
end_word_plain Terminated = lacks_from word_byte 10 (codes "terminated") refl refl
end_word_plain Deadlock = lacks_from word_byte 10 (codes "deadlock") refl refl
end_word_plain Horizon = lacks_from word_byte 10 (codes "horizon") refl refl
end_word_plain Limit = lacks_from word_byte 10 (codes "limit") refl refl
end_word_plain Overflow = lacks_from word_byte 10 (codes "overflow") refl refl

pub end_plain : (e : TraceEnd) → IsEnd e → AllByRecursion (Lacks 10) (end_words e)
end_plain e h = (lacks_from word_byte 10 (codes "end") refl refl, (end_word_plain e.kind, end_parts_plain e.kind e.at e.who h.0 h.1))

-- the hyphen and the blank of a header are no newlines
is_header_byte : ℕ → Bool
is_header_byte b = cond (b == 45) true (cond (b == 32) true (word_byte b))

pub header_plain : (v : Version) → Lacks 10 (header_row v)
unfolding is_header_byte
header_plain First = lacks_from is_header_byte 10 (codes "hcsp-trace 1") refl refl
header_plain Second = lacks_from is_header_byte 10 (codes "hcsp-trace 2") refl refl

-- ---- rows

abbrev pub LineRow : Version → List ℕ → Type 0
LineRow v row = (l : TraceLine) × IsLine v l × Spells row (line_words l)

abbrev pub EndRow : List ℕ → Type 0
EndRow row = (e : TraceEnd) × IsEnd e × Spells row (end_words e)

-- lines, and an end at most, as the last
abbrev pub Follow : Version → List (List ℕ) → Type 0
Follow v [] = Unit {0}
Follow v (r ∷ rs) = (LineRow v r × Follow v rs) ⊎ (EndRow r × (rs ≡ []))

-- the rows of a trace
abbrev pub AreRows : List (List ℕ) → Type 0
AreRows [] = ⊥
AreRows (r ∷ rs) = (v : Version) × (header_row v ≡ r) × Follow v rs

abbrev pub text_of_rows : List (List ℕ) → List ℕ
text_of_rows rs = flat_map (λ r. r ++ 10 ∷ []) rs

pub rows_append : (rs ss : List (List ℕ)) → text_of_rows (rs ++ ss) ≡ text_of_rows rs ++ text_of_rows ss
rows_append [] ss = refl
rows_append (r ∷ rs) ss = ap (λ s. (r ++ 10 ∷ []) ++ s) (rows_append rs ss) ∙ sym (append_assoc (r ++ 10 ∷ []) (text_of_rows rs) (text_of_rows ss))

pub line_row_lacks : (v : Version) (r : List ℕ) → LineRow v r → Lacks 10 r
line_row_lacks v r h = spelled_lacks r (line_words h.0) (line_plain v h.0 h.1) h.2

pub end_row_lacks : (r : List ℕ) → EndRow r → Lacks 10 r
end_row_lacks r h = spelled_lacks r (end_words h.0) (end_plain h.0 h.1) h.2

follow_lack : (v : Version) (rs : List (List ℕ)) → Follow v rs → AllByRecursion (Lacks 10) rs
follow_lack v [] h = tt
follow_lack v (r ∷ rs) (inl h) = (line_row_lacks v r h.0, follow_lack v rs h.1)
follow_lack v (r ∷ rs) (inr h) = (end_row_lacks r h.0, rw h.1 tt)

pub rows_lack : (rs : List (List ℕ)) → AreRows rs → AllByRecursion (Lacks 10) rs
rows_lack [] h = absurd h
rows_lack (r ∷ rs) h = (subst (Lacks 10) h.1 (header_plain h.0), follow_lack h.0 rs h.2)

-- ---- the first rows of a trace are a trace

pub not_empty : {A : Type 0} (xs : List A) (b : A) (bs : List A) → xs ++ b ∷ bs ≡ [] → ⊥
not_empty [] b bs e = absurd (cc e)
not_empty (x ∷ xs) b bs e = absurd (cc e)

follow_front : (v : Version) (rs : List (List ℕ)) (r : List ℕ) (more : List (List ℕ)) → Follow v (rs ++ r ∷ more) → Follow v (rs ++ r ∷ [])
follow_front v [] r more (inl h) = inl (h.0, tt)
follow_front v [] r more (inr h) = inr (h.0, refl)
follow_front v (q ∷ rs) r more (inl h) = inl (h.0, follow_front v rs r more h.1)
follow_front v (q ∷ rs) r more (inr h) = absurd (not_empty rs r more h.1)

pub rows_front : (rs : List (List ℕ)) (r : List ℕ) (more : List (List ℕ)) → AreRows (rs ++ r ∷ more) → AreRows (rs ++ r ∷ [])
rows_front [] r more h = (h.0, h.1, tt)
rows_front (q ∷ rs) r more h = (h.0, h.1, follow_front h.0 rs r more h.2)

-- ---- traces and their rows

follow_rows : (v : Version) (ls : List TraceLine) (e : Option TraceEnd) → AllByRecursion (IsLine v) ls → IfSome e IsEnd →
    (rs : List (List ℕ)) × Follow v rs × (flat_map line_text ls ++ end_text e ≡ text_of_rows rs)
follow_rows v [] None h k = ([], tt, refl)
follow_rows v [] (Some e) h k =
    (row_of (end_words e) ∷ [], inr ((e, k, spells_row (end_words e)), refl), sym (spells_row (end_words e)) ∙ sym (append-nil (row_of (end_words e) ++ 10 ∷ [])))
follow_rows v (l ∷ ls) e h k =
    let rest = follow_rows v ls e h.1 k in
    let row = row_of (line_words l) in (
      row ∷ rest.0,
      inl ((l, h.0, spells_row (line_words l)), rest.1),
      append_assoc (line_text l) (flat_map line_text ls) (end_text e) ∙ ap₂ ◌++◌ (sym (spells_row (line_words l))) rest.2,
    )

pub trace_rows : (bytes : List ℕ) → IsText bytes → (rs : List (List ℕ)) × AreRows rs × (bytes ≡ text_of_rows rs)
trace_rows bytes (t, h) =
    let rest = follow_rows t.version t.lines t.end h.each h.last in (
      header_row t.version ∷ rest.0,
      (t.version, refl, rest.1),
      h.spelled ∙ append_assoc (header_of t.version) (flat_map line_text t.lines) (end_text t.end) ∙ ap (λ s. header_of t.version ++ s) rest.2,
    )

record Body (v : Version) (rs : List (List ℕ)) : Type 0 where
  lines : List TraceLine
  end : Option TraceEnd
  each : AllByRecursion (IsLine v) lines
  last : IfSome end IsEnd
  spelled : text_of_rows rs ≡ flat_map line_text lines ++ end_text end

body_of : (v : Version) (rs : List (List ℕ)) → Follow v rs → Body v rs
body_of v [] h = record { lines = []; end = None; each = tt; last = tt; spelled = refl }
body_of v (r ∷ rs) (inl h) =
    let rest = body_of v rs h.1 in
    record {
      lines = h.0.0 ∷ rest.lines;
      end = rest.end;
      each = (h.0.1, rest.each);
      last = rest.last;
      spelled = ap₂ ◌++◌ h.0.2 rest.spelled ∙ sym (append_assoc (line_text h.0.0) (flat_map line_text rest.lines) (end_text rest.end));
    }
body_of v (r ∷ rs) (inr h) =
    record {
      lines = [];
      end = Some h.0.0;
      each = tt;
      last = h.0.1;
      spelled = ap (λ s. (r ++ 10 ∷ []) ++ text_of_rows s) h.1 ∙ append-nil (r ++ 10 ∷ []) ∙ h.0.2;
    }

pub rows_trace : (rs : List (List ℕ)) → AreRows rs → IsText (text_of_rows rs)
rows_trace [] h = absurd h
rows_trace (r ∷ rs) h =
    let body = body_of h.0 rs h.2 in (
      record { version = h.0; lines = body.lines; end = body.end },
      record {
        each = body.each;
        last = body.last;
        spelled = ap₂ (λ s u. (s ++ 10 ∷ []) ++ u) (sym h.1) body.spelled
            ∙ sym (append_assoc (header_of h.0) (flat_map line_text body.lines) (end_text body.end));
      },
    )

-- ---- rows side by side

row_cut : (r s : List ℕ) (rest more : List ℕ) → Lacks 10 r → Lacks 10 s → (r ++ 10 ∷ []) ++ rest ≡ (s ++ 10 ∷ []) ++ more → (r ≡ s) × (rest ≡ more)
row_cut r s rest more h k e =
    one_cut 10 r s rest more h k (sym (append_assoc r (10 ∷ []) rest) ∙ e ∙ append_assoc s (10 ∷ []) more)

-- of two ways to begin bytes with rows, one has the rows of the other and perhaps more
pub data Compared (rs : List (List ℕ)) (a : List ℕ) (ss : List (List ℕ)) (c : List ℕ) : Type 0 where
  Same : rs ≡ ss → a ≡ c → Compared rs a ss c
  Longer : (r : List ℕ) (more : List (List ℕ)) → ss ≡ rs ++ r ∷ more → a ≡ text_of_rows (r ∷ more) ++ c → Compared rs a ss c
  Shorter : (r : List ℕ) (more : List (List ℕ)) → rs ≡ ss ++ r ∷ more → c ≡ text_of_rows (r ∷ more) ++ a → Compared rs a ss c

compared_more : (r s : List ℕ) (rs ss : List (List ℕ)) (a c : List ℕ) → r ≡ s → Compared rs a ss c → Compared (r ∷ rs) a (s ∷ ss) c
compared_more r s rs ss a c e (Same f g) = Same (ap₂ ◌∷◌ e f) g
compared_more r s rs ss a c e (Longer q more f g) = Longer q more (ap₂ ◌∷◌ (sym e) f) g
compared_more r s rs ss a c e (Shorter q more f g) = Shorter q more (ap₂ ◌∷◌ e f) g

pub compared : (rs : List (List ℕ)) (a : List ℕ) (ss : List (List ℕ)) (c : List ℕ) → AllByRecursion (Lacks 10) rs → AllByRecursion (Lacks 10) ss →
    text_of_rows rs ++ a ≡ text_of_rows ss ++ c → Compared rs a ss c
compared [] a [] c h k e = Same refl e
compared [] a (s ∷ ss) c h k e = Longer s ss refl e
compared (r ∷ rs) a [] c h k e = Shorter r rs refl (sym e)
compared (r ∷ rs) a (s ∷ ss) c h k e =
    let cut = row_cut r s (text_of_rows rs ++ a) (text_of_rows ss ++ c) h.0 k.0
    (sym (append_assoc (r ++ 10 ∷ []) (text_of_rows rs) a) ∙ e ∙ append_assoc (s ++ 10 ∷ []) (text_of_rows ss) c) in
    compared_more r s rs ss a c cut.0 (compared rs a ss c h.1 k.1 cut.1)
