-- A text under way: what is read so far is a trace without its end, and the rest is behind it.
use Rattle.std.proofs.Common.{◌≡◌, ◌≢◌, ◌==◌, ℕ, ◌+◌, ◌≤◌, suc, Bool, true, false, cond, List, [], ◌∷◌, ◌++◌, length, Some, None, ◌⊎◌, inl, inr, refl, sym, ap, ap₂, ◌∙◌, subst, arith, append_assoc, length-append}
use Rattle.std.specs.Prelude.{Result, Ok, Err, IfOk, IfErr}
use Rattle.std.specs.List.{AllByRecursion, flat_map}
use Rattle.std.proofs.lemmas.Bool.{eqb-true}
use Rattle.std.proofs.lemmas.List.{append-nil}
use Rattle.std.proofs.lemmas.List.Sums.{sum_by-append, sum_by-cons}
use Rattle.hc_trace.specs.declared.traces.Version.{Version}
use Rattle.hc_trace.specs.declared.traces.Version.TheVariants.{First, Second}
use Rattle.hc_trace.specs.declared.traces.Trace.{Trace}
use Rattle.hc_trace.specs.declared.traces.TraceLine.{TraceLine}
use Rattle.hc_trace.specs.declared.traces.TraceEnd.{TraceEnd}
use Rattle.hc_trace.specs.declared.reading.TraceStop.{TraceStop}
use Rattle.hc_trace.specs.declared.reading.TraceStop.TheVariants.{Line, Memory}
use Rattle.hc_trace.specs.Traces.{IsLine, IsEnd, IsTraceText, line_words, line_text, end_words, header_row, header_of}
use Rattle.hc_trace.specs.Found.{Spells}
use Rattle.hc_trace.specs.Reading.{Lacks, IsText, IsRefusedAt, newlines}
use Rattle.hc_trace.specs.Stops.{IsStop, IsExact}
use Rattle.hc_trace.proofs.OneTrace.{own_header, line_no_end, one_trace}
use Rattle.hc_trace.proofs.Refusals.{one_refusal, texts_are_not_refused}
use Rattle.hc_trace.proofs.RowsOfText.{row_of, spells_row, LineRow, EndRow, Follow, AreRows, text_of_rows, rows_append, rows_lack, not_empty, trace_rows, rows_trace, Compared, Same, Longer, Shorter, compared, header_plain, line_row_lacks, end_row_lacks}
use Rattle.hc_trace.proofs.Cuts.{not_cut, one_cut}

pub record IsUnderWay (v : Version) (bytes : List ℕ) (lines : List TraceLine) (rest : List ℕ) (n : ℕ) : Type 0 where
  pub spelled : bytes ≡ (header_of v ++ flat_map line_text lines) ++ rest
  pub each : AllByRecursion (IsLine v) lines
  pub number : n ≡ length lines + 2
  pub small : n + length rest ≤ length bytes

-- what `is_empty` tells
pub is_left : (rest : List ℕ) (empty : Bool) → empty ≡ (length rest == 0) → empty ≡ false → rest ≢ []
is_left rest empty e some none = let clash : false ≡ true = sym some ∙ e ∙ ap (λ s. length s == 0) none in absurd (cc clash)

pub none_left : (rest : List ℕ) (empty : Bool) → empty ≡ (length rest == 0) → empty ≡ true → rest ≡ []
none_left [] empty e none = refl
none_left (b ∷ rest) empty e none = absurd (omega (arith, eqb-true (length (b ∷ rest)) 0 (sym e ∙ none)))

-- ---- one line more

header_length : (v : Version) → length (header_row v) ≡ 12
header_length First = refl
header_length Second = refl

pub started : (v : Version) (bytes header rest : List ℕ) → bytes ≡ header ++ 10 ∷ rest → header_row v ≡ header → IsUnderWay v bytes [] rest 2
started v bytes header rest e known = record {
  spelled = e ∙ ap (λ s. s ++ 10 ∷ rest) (sym known) ∙ sym (append_assoc (header_row v) (10 ∷ []) rest) ∙ ap (λ s. s ++ rest) (sym (append-nil (header_of v)));
  each = tt;
  number = refl;
  small = omega (arith, ap length e, length-append header (10 ∷ rest), ap length known, header_length v);
}

flat_append : (ls : List TraceLine) (l : TraceLine) → flat_map line_text (ls ++ l ∷ []) ≡ flat_map line_text ls ++ line_text l
flat_append [] l = append-nil (line_text l)
flat_append (m ∷ ls) l = ap (λ s. line_text m ++ s) (flat_append ls l) ∙ sym (append_assoc (line_text m) (flat_map line_text ls) (line_text l))

each_append : (v : Version) (ls : List TraceLine) (l : TraceLine) → AllByRecursion (IsLine v) ls → IsLine v l → AllByRecursion (IsLine v) (ls ++ l ∷ [])
each_append v [] l h k = (k, tt)
each_append v (m ∷ ls) l h k = (h.0, each_append v ls l h.1 k)

-- a row read, with its newline
opened : (rest row after : List ℕ) → rest ≡ row ++ 10 ∷ after → rest ≡ (row ++ 10 ∷ []) ++ after
opened rest row after e = e ∙ sym (append_assoc row (10 ∷ []) after)

pub went_on : (v : Version) (bytes : List ℕ) (lines : List TraceLine) (rest row after : List ℕ) (n : ℕ) (l : TraceLine) →
    IsUnderWay v bytes lines rest n → rest ≡ row ++ 10 ∷ after → IsLine v l → Spells row (line_words l) →
    IsUnderWay v bytes (lines ++ l ∷ []) after (n + 1)
went_on v bytes lines rest row after n l h e is spells = record {
  spelled = h.spelled ∙ ap (λ s. (header_of v ++ flat_map line_text lines) ++ s) (opened rest row after e ∙ ap (λ s. s ++ after) spells)
      ∙ sym (append_assoc (header_of v ++ flat_map line_text lines) (line_text l) after)
      ∙ ap (λ s. s ++ after) (append_assoc (header_of v) (flat_map line_text lines) (line_text l) ∙ ap (λ s. header_of v ++ s) (sym (flat_append lines l)));
  each = each_append v lines l h.each is;
  number = omega (arith, h.number, length-append lines (l ∷ []));
  small = omega (arith, h.small, ap length e, length-append row (10 ∷ after));
}

-- ---- the end of the text

pub ended_bare : (v : Version) (bytes : List ℕ) (lines : List TraceLine) (rest : List ℕ) (n : ℕ) → IsUnderWay v bytes lines rest n → rest ≡ [] →
    IsTraceText bytes (record { version = v; lines = lines; end = None })
ended_bare v bytes lines rest n h none = record {
  each = h.each;
  last = tt;
  spelled = h.spelled ∙ ap (λ s. (header_of v ++ flat_map line_text lines) ++ s) none;
}

pub ended : (v : Version) (bytes : List ℕ) (lines : List TraceLine) (rest row after : List ℕ) (n : ℕ) (e : TraceEnd) → IsUnderWay v bytes lines rest n →
    rest ≡ row ++ 10 ∷ after → after ≡ [] → IsEnd e → Spells row (end_words e) →
    IsTraceText bytes (record { version = v; lines = lines; end = Some e })
ended v bytes lines rest row after n e h is none end spells = record {
  each = h.each;
  last = end;
  spelled = h.spelled ∙ ap (λ s. (header_of v ++ flat_map line_text lines) ++ s) (is ∙ ap (λ s. row ++ 10 ∷ s) none ∙ spells);
}

-- ---- refusals, by rows

newlines_append : (xs ys : List ℕ) → newlines (xs ++ ys) ≡ newlines xs + newlines ys
newlines_append xs ys = sum_by-append (λ b. cond (b == 10) 1 0) xs ys

newlines_cons : (x : ℕ) (xs : List ℕ) → newlines (x ∷ xs) ≡ cond (x == 10) 1 0 + newlines xs
newlines_cons x xs = sum_by-cons (λ b. cond (b == 10) 1 0) x xs

no_newlines : (row : List ℕ) → Lacks 10 row → newlines row ≡ 0
no_newlines [] h = refl
no_newlines (x ∷ xs) h = newlines_cons x xs ∙ ap₂ (λ (m n : ℕ). m + n) (by_test (x == 10) refl) (no_newlines xs h.1)
  where
    by_test : (b : Bool) → (x == 10) ≡ b → ◌≡◌ {A = ℕ} (cond b 1 0) 0
    by_test true e = absurd (h.0 (eqb-true x 10 e))
    by_test false e = refl

newlines_rows : (rs : List (List ℕ)) → AllByRecursion (Lacks 10) rs → newlines (text_of_rows rs) ≡ length rs
newlines_rows [] h = refl
newlines_rows (r ∷ rs) h =
    let here : newlines (r ++ 10 ∷ []) ≡ 1 = newlines_append r (10 ∷ []) ∙ ap (λ n. n + 1) (no_newlines r h.0) in
    let all : newlines (text_of_rows (r ∷ rs)) ≡ newlines (r ++ 10 ∷ []) + newlines (text_of_rows rs) = newlines_append (r ++ 10 ∷ []) (text_of_rows rs) in
    omega (arith, here, all, newlines_rows rs h.1)

-- with one row more the text is that of rows
more_rows : (rs ss : List (List ℕ)) (r : List ℕ) → AllByRecursion (Lacks 10) (rs ++ r ∷ []) → AreRows ss → text_of_rows rs ++ (r ++ 10 ∷ []) ≡ text_of_rows ss → AreRows (rs ++ r ∷ [])
more_rows rs ss r h rows e = by_compared (compared (rs ++ r ∷ []) [] ss [] h (rows_lack ss rows)
    (append-nil (text_of_rows (rs ++ r ∷ [])) ∙ rows_append rs (r ∷ []) ∙ ap (λ s. text_of_rows rs ++ s) (append-nil (r ++ 10 ∷ [])) ∙ e ∙ sym (append-nil (text_of_rows ss))))
  where
    nothing : (q : List ℕ) (more : List (List ℕ)) → [] ≡ text_of_rows (q ∷ more) ++ [] → ⊥
    nothing q more f = not_empty q 10 (text_of_rows more ++ [])
        (sym (append_assoc q (10 ∷ []) (text_of_rows more ++ [])) ∙ sym (append_assoc (q ++ 10 ∷ []) (text_of_rows more) []) ∙ sym f)

    by_compared : Compared (rs ++ r ∷ []) [] ss [] → AreRows (rs ++ r ∷ [])
    by_compared (Same f g) = subst AreRows (sym f) rows
    by_compared (Longer q more f g) = absurd (nothing q more g)
    by_compared (Shorter q more f g) = absurd (nothing q more g)

lack_append : (rs : List (List ℕ)) (r : List ℕ) → AllByRecursion (Lacks 10) rs → Lacks 10 r → AllByRecursion (Lacks 10) (rs ++ r ∷ [])
lack_append [] r h k = (k, tt)
lack_append (q ∷ rs) r h k = (h.0, lack_append rs r h.1 k)

stands_by : (before : List ℕ) (rs : List (List ℕ)) → before ≡ text_of_rows rs → (rs ≡ []) ⊎ AreRows rs → (before ≡ []) ⊎ IsText before
stands_by before rs e (inl none) = inl (e ∙ ap text_of_rows none)
stands_by before rs e (inr rows) = inr (subst IsText (sym e) (rows_trace rs rows))

more_by : (before after : List ℕ) (rs : List (List ℕ)) → before ≡ text_of_rows rs → (rs ≡ []) ⊎ (after ≢ []) → (before ≡ []) ⊎ (after ≢ [])
more_by before after rs e (inl none) = inl (e ∙ ap text_of_rows none)
more_by before after rs e (inr some) = inr some

-- where no row goes on with these rows, the line behind them is refused
pub refused_by : (bytes before after : List ℕ) (n : ℕ) (rs : List (List ℕ)) → bytes ≡ before ++ after → before ≡ text_of_rows rs → AllByRecursion (Lacks 10) rs →
    n ≡ length rs + 1 → (rs ≡ []) ⊎ AreRows rs → (rs ≡ []) ⊎ (after ≢ []) →
    ((r rest : List ℕ) → Lacks 10 r → after ≡ r ++ 10 ∷ rest → AreRows (rs ++ r ∷ []) → ⊥) → IsRefusedAt bytes n
refused_by bytes before after n rs parts e lack number stands more next = record {
  before = before;
  after = after;
  parts = parts;
  number = number ∙ ap (λ m. m + 1) (sym (newlines_rows rs lack) ∙ ap newlines (sym e));
  stands = stands_by before rs e stands;
  more = more_by before after rs e more;
  next = λ line rest whole split text.
      let found = trace_rows (before ++ line) text in
      let open_text : text_of_rows rs ++ (whole.row ++ 10 ∷ []) ≡ text_of_rows found.0 = ap₂ ◌++◌ (sym e) (sym whole.whole) ∙ found.2 in
      let rows = more_rows rs found.0 whole.row (lack_append rs whole.row lack whole.plain) found.1 open_text in
      next whole.row rest whole.plain (split ∙ ap (λ s. s ++ rest) whole.whole ∙ append_assoc whole.row (10 ∷ []) rest) rows;
}

-- ---- refusals of a text under way

record LineRows (v : Version) (ls : List TraceLine) : Type 0 where
  rows : List (List ℕ)
  each : AllByRecursion (LineRow v) rows
  spelled : flat_map line_text ls ≡ text_of_rows rows
  count : length rows ≡ length ls

line_rows : (v : Version) (ls : List TraceLine) → AllByRecursion (IsLine v) ls → LineRows v ls
line_rows v [] h = record { rows = []; each = tt; spelled = refl; count = refl }
line_rows v (l ∷ ls) h =
    let rest = line_rows v ls h.1 in
    record {
      rows = row_of (line_words l) ∷ rest.rows;
      each = ((l, h.0, spells_row (line_words l)), rest.each);
      spelled = ap₂ ◌++◌ (sym (spells_row (line_words l))) rest.spelled;
      count = ap (λ n. suc n) rest.count;
    }

all_lack : (v : Version) (rs : List (List ℕ)) → AllByRecursion (LineRow v) rs → AllByRecursion (Lacks 10) rs
all_lack v [] h = tt
all_lack v (r ∷ rs) h = (line_row_lacks v r h.0, all_lack v rs h.1)

all_follow : (v : Version) (rs : List (List ℕ)) → AllByRecursion (LineRow v) rs → Follow v rs
all_follow v [] h = tt
all_follow v (r ∷ rs) h = inl (h.0, all_follow v rs h.1)

follow_end : (v : Version) (rs : List (List ℕ)) (q : List ℕ) → AllByRecursion (LineRow v) rs → EndRow q → Follow v (rs ++ q ∷ [])
follow_end v [] q h k = inr (k, refl)
follow_end v (r ∷ rs) q h k = inl (h.0, follow_end v rs q h.1 k)

last_row : (v : Version) (rs : List (List ℕ)) (r : List ℕ) → Follow v (rs ++ r ∷ []) → LineRow v r ⊎ EndRow r
last_row v [] r (inl h) = inl h.0
last_row v [] r (inr h) = inr h.0
last_row v (q ∷ rs) r (inl h) = last_row v rs r h.1
last_row v (q ∷ rs) r (inr h) = absurd (not_empty rs r [] h.1)

-- no row stands behind an end
none_behind : (v : Version) (rs : List (List ℕ)) (q r : List ℕ) → EndRow q → Follow v ((rs ++ q ∷ []) ++ r ∷ []) → ⊥
none_behind v [] q r end (inl h) = line_no_end v h.0.0 end.0 h.0.1 (sym h.0.2 ∙ end.2)
none_behind v [] q r end (inr h) = absurd (cc h.1)
none_behind v (p ∷ rs) q r end (inl h) = none_behind v rs q r end h.1
none_behind v (p ∷ rs) q r end (inr h) = not_empty (rs ++ q ∷ []) r [] h.1

refused_here : (v : Version) (bytes : List ℕ) (lines : List TraceLine) (rest : List ℕ) (n : ℕ) → IsUnderWay v bytes lines rest n → rest ≢ [] →
    ((r after : List ℕ) → Lacks 10 r → rest ≡ r ++ 10 ∷ after → LineRow v r ⊎ EndRow r → ⊥) → IsRefusedAt bytes n
refused_here v bytes lines rest n h some next =
    let found = line_rows v lines h.each in
    refused_by bytes (header_of v ++ flat_map line_text lines) rest n (header_row v ∷ found.rows) h.spelled
    (ap (λ s. header_of v ++ s) found.spelled) (header_plain v, all_lack v found.rows found.each)
    (omega (arith, h.number, found.count)) (inr (v, refl, all_follow v found.rows found.each)) (inr some)
    (λ r after lack e rows. next r after lack e
    (last_row v found.rows r (subst (λ (w : Version). Follow w (found.rows ++ r ∷ [])) (own_header rows.0 v rows.1) rows.2)))

pub refused_bare : (v : Version) (bytes : List ℕ) (lines : List TraceLine) (rest : List ℕ) (n : ℕ) → IsUnderWay v bytes lines rest n → rest ≢ [] →
    Lacks 10 rest → IsRefusedAt bytes n
refused_bare v bytes lines rest n h some none =
    refused_here v bytes lines rest n h some (λ r after lack e row. not_cut 10 rest r after none e)

pub refused_row : (v : Version) (bytes : List ℕ) (lines : List TraceLine) (rest row after : List ℕ) (n : ℕ) → IsUnderWay v bytes lines rest n →
    rest ≡ row ++ 10 ∷ after → Lacks 10 row → ((l : TraceLine) → ¬ (IsLine v l × Spells row (line_words l))) →
    ((e : TraceEnd) → ¬ (IsEnd e × Spells row (end_words e))) → IsRefusedAt bytes n
refused_row v bytes lines rest row after n h is lack no_line no_end =
    refused_here v bytes lines rest n h (λ none. not_empty row 10 after (sym is ∙ none))
    (λ r behind other e found. neither r (one_cut 10 row r after behind lack other (sym is ∙ e)).0 found)
  where
    neither : (r : List ℕ) → row ≡ r → LineRow v r ⊎ EndRow r → ⊥
    neither r same (inl found) = no_line found.0 (found.1, subst (λ (s : List ℕ). Spells s (line_words found.0)) (sym same) found.2)
    neither r same (inr found) = no_end found.0 (found.1, subst (λ (s : List ℕ). Spells s (end_words found.0)) (sym same) found.2)

pub refused_behind : (v : Version) (bytes : List ℕ) (lines : List TraceLine) (rest row after : List ℕ) (n : ℕ) (e : TraceEnd) → IsUnderWay v bytes lines rest n →
    rest ≡ row ++ 10 ∷ after → IsEnd e → Spells row (end_words e) → after ≢ [] → IsRefusedAt bytes (n + 1)
refused_behind v bytes lines rest row after n e h is end spells some =
    let found = line_rows v lines h.each in
    let rows = found.rows ++ row ∷ [] in
    let last : EndRow row = (e, end, spells) in
    refused_by bytes ((header_of v ++ flat_map line_text lines) ++ (row ++ 10 ∷ [])) after (n + 1) (header_row v ∷ rows)
    (h.spelled ∙ ap (λ s. (header_of v ++ flat_map line_text lines) ++ s) (opened rest row after is)
    ∙ sym (append_assoc (header_of v ++ flat_map line_text lines) (row ++ 10 ∷ []) after))
    (append_assoc (header_of v) (flat_map line_text lines) (row ++ 10 ∷ [])
    ∙ ap (λ s. header_of v ++ s) (ap₂ ◌++◌ found.spelled (sym (append-nil (row ++ 10 ∷ []))) ∙ sym (rows_append found.rows (row ∷ []))))
    (header_plain v, lack_append found.rows row (all_lack v found.rows found.each) (end_row_lacks row last))
    (omega (arith, h.number, found.count, length-append found.rows (row ∷ [])))
    (inr (v, refl, follow_end v found.rows row found.each last)) (inr some)
    (λ r behind lack f all. none_behind all.0 found.rows row r last all.2)

-- ---- refusals of the first line

pub refused_bare_header : (bytes : List ℕ) → Lacks 10 bytes → IsRefusedAt bytes 1
refused_bare_header bytes none =
    refused_by bytes [] bytes 1 [] refl refl tt refl (inl refl) (inl refl) (λ r rest lack e rows. not_cut 10 bytes r rest none e)

pub refused_header : (bytes header rest : List ℕ) → bytes ≡ header ++ 10 ∷ rest → Lacks 10 header → ((v : Version) → ¬ (header_row v ≡ header)) → IsRefusedAt bytes 1
refused_header bytes header rest is lack other =
    refused_by bytes [] bytes 1 [] refl refl tt refl (inl refl) (inl refl)
    (λ r behind plain e rows. other rows.0 (rows.1 ∙ sym (one_cut 10 header r rest behind lack plain (sym is ∙ e)).0))

-- ---- what is right is the answer

pub read_exactly : (bytes : List ℕ) (r : Result Trace TraceStop) → IfOk r (IsTraceText bytes) → IfErr r (IsStop bytes) → IsExact bytes r
read_exactly bytes (Ok u) right wrong = record {
  value_is = right;
  refusal_is = tt;
  every_value = λ t text. one_trace bytes u t right text;
  every_refusal = λ n refused. texts_are_not_refused bytes u n right refused;
}
read_exactly bytes (Err (Line m)) right wrong = record {
  value_is = tt;
  refusal_is = wrong;
  every_value = λ t text. absurd (texts_are_not_refused bytes t m text wrong);
  every_refusal = λ n refused. one_refusal bytes m n wrong refused;
}
read_exactly bytes (Err Memory) right wrong = record { value_is = tt; refusal_is = tt; every_value = λ t text. refl; every_refusal = λ n refused. tt }
