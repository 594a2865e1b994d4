-- What refuses bytes at one line: the rows before it are told from the bytes, and the row behind them would go on.
use Rattle.std.proofs.Common.{◌≡◌, ◌≢◌, ℕ, ◌+◌, List, [], ◌∷◌, ◌++◌, ◌⊎◌, inl, inr, refl, sym, ap, ap₂, ◌∙◌, subst, append_assoc}
use Rattle.std.specs.List.{AllByRecursion}
use Rattle.std.proofs.lemmas.List.{append-nil}
use Rattle.hc_trace.specs.Reading.{Lacks, IsWholeLine, IsText, IsRefusedAt, newlines}
use Rattle.hc_trace.specs.Laws.{OneRefusal, TextsAreNotRefused}
use Rattle.hc_trace.proofs.RowsOfText.{AreRows, text_of_rows, rows_append, rows_lack, rows_front, not_empty, trace_rows, rows_trace, Compared, Same, Longer, Shorter, compared}

-- ---- what stands before a refused line, by rows

record Before (before : List ℕ) : Type 0 where
  rows : List (List ℕ)
  spelled : before ≡ text_of_rows rows
  lack : AllByRecursion (Lacks 10) rows
  none_or_trace : (rows ≡ []) ⊎ AreRows rows

before_by : (before : List ℕ) → (before ≡ []) ⊎ IsText before → Before before
before_by before (inl none) = record { rows = []; spelled = none; lack = tt; none_or_trace = inl refl }
before_by before (inr text) =
    let found = trace_rows before text in
    record { rows = found.0; spelled = found.2; lack = rows_lack found.0 found.1; none_or_trace = inr found.1 }

-- no row goes on
stuck : (bytes : List ℕ) (n : ℕ) (h : IsRefusedAt bytes n) (rs : List (List ℕ)) (r : List ℕ) (more : List (List ℕ)) (rest : List ℕ) →
    h.before ≡ text_of_rows rs → h.after ≡ text_of_rows (r ∷ more) ++ rest → AreRows (rs ++ r ∷ more) → AllByRecursion (Lacks 10) (rs ++ r ∷ more) → ⊥
stuck bytes n h rs r more rest e f rows lack =
    let line : IsWholeLine (r ++ 10 ∷ []) = record { row = r; plain = row_lacks rs r more lack; whole = refl } in
    let split : h.after ≡ (r ++ 10 ∷ []) ++ (text_of_rows more ++ rest) = f ∙ append_assoc (r ++ 10 ∷ []) (text_of_rows more) rest in
    let text : IsText (text_of_rows (rs ++ r ∷ [])) = rows_trace (rs ++ r ∷ []) (rows_front rs r more rows) in
    let spelled : text_of_rows (rs ++ r ∷ []) ≡ h.before ++ (r ++ 10 ∷ []) =
    rows_append rs (r ∷ []) ∙ ap₂ ◌++◌ (sym e) (append-nil (r ++ 10 ∷ [])) in
    h.next (r ++ 10 ∷ []) (text_of_rows more ++ rest) line split (subst IsText spelled text)
  where
    row_lacks : (rs : List (List ℕ)) (r : List ℕ) (more : List (List ℕ)) → AllByRecursion (Lacks 10) (rs ++ r ∷ more) → Lacks 10 r
    row_lacks [] r more k = k.0
    row_lacks (q ∷ rs) r more k = row_lacks rs r more k.1

-- rows that go on from others are those of a trace
go_on : (rs : List (List ℕ)) (r : List ℕ) (more ss : List (List ℕ)) → ss ≡ rs ++ r ∷ more → (ss ≡ []) ⊎ AreRows ss → AreRows (rs ++ r ∷ more)
go_on rs r more ss e (inl none) = absurd (not_empty rs r more (sym e ∙ none))
go_on rs r more ss e (inr rows) = subst AreRows e rows

-- ---- refused at one line

one_by : (bytes : List ℕ) (n m : ℕ) (h : IsRefusedAt bytes n) (k : IsRefusedAt bytes m) (b : Before h.before) (d : Before k.before) →
    Compared b.rows h.after d.rows k.after → n ≡ m
one_by bytes n m h k b d (Same e f) =
    h.number ∙ ap (λ s. newlines s + 1) (b.spelled ∙ ap text_of_rows e ∙ sym d.spelled) ∙ sym k.number
one_by bytes n m h k b d (Longer r more e f) =
    absurd (stuck bytes n h b.rows r more k.after b.spelled f (go_on b.rows r more d.rows e d.none_or_trace) (subst (AllByRecursion (Lacks 10)) e d.lack))
one_by bytes n m h k b d (Shorter r more e f) =
    absurd (stuck bytes m k d.rows r more h.after d.spelled f (go_on d.rows r more b.rows e b.none_or_trace) (subst (AllByRecursion (Lacks 10)) e b.lack))

pub one_refusal : OneRefusal
one_refusal bytes n m h k =
    let b = before_by h.before h.stands in
    let d = before_by k.before k.stands in
    one_by bytes n m h k b d (compared b.rows h.after d.rows k.after b.lack d.lack
    (ap (λ s. s ++ h.after) (sym b.spelled) ∙ sym h.parts ∙ k.parts ∙ ap (λ s. s ++ k.after) d.spelled))

-- ---- a trace text isn't refused

starts : (rs : List (List ℕ)) → AreRows rs → text_of_rows rs ≡ [] → ⊥
starts [] h e = h
starts (r ∷ rs) h e = not_empty r 10 (text_of_rows rs) (sym (append_assoc r (10 ∷ []) (text_of_rows rs)) ∙ e)

ended_by : (bytes : List ℕ) (n : ℕ) (h : IsRefusedAt bytes n) (rs : List (List ℕ)) → AreRows rs → h.before ≡ text_of_rows rs → h.after ≡ [] → ⊥
ended_by bytes n h rs rows e f = ended h.more
  where
    ended : (h.before ≡ []) ⊎ (h.after ≢ []) → ⊥
    ended (inl none) = starts rs rows (sym e ∙ none)
    ended (inr some) = some f

not_refused_by : (bytes : List ℕ) (n : ℕ) (h : IsRefusedAt bytes n) (b : Before h.before) (rs : List (List ℕ)) → AreRows rs →
    Compared b.rows h.after rs [] → ⊥
not_refused_by bytes n h b rs rows (Same e f) = ended_by bytes n h rs rows (b.spelled ∙ ap text_of_rows e) f
not_refused_by bytes n h b rs rows (Longer r more e f) =
    stuck bytes n h b.rows r more [] b.spelled f (subst AreRows e rows) (subst (AllByRecursion (Lacks 10)) e (rows_lack rs rows))
not_refused_by bytes n h b rs rows (Shorter r more e f) =
    not_empty r 10 (text_of_rows more ++ h.after) (sym (append_assoc r (10 ∷ []) (text_of_rows more ++ h.after)) ∙ sym (append_assoc (r ++ 10 ∷ []) (text_of_rows more) h.after) ∙ sym f)

pub texts_are_not_refused : TextsAreNotRefused
texts_are_not_refused bytes t n text h =
    let b = before_by h.before h.stands in
    let found = trace_rows bytes (t, text) in
    not_refused_by bytes n h b found.0 found.1 (compared b.rows h.after found.0 [] b.lack (rows_lack found.0 found.1)
    (ap (λ s. s ++ h.after) (sym b.spelled) ∙ sym h.parts ∙ found.2 ∙ sym (append-nil (text_of_rows found.0))))
