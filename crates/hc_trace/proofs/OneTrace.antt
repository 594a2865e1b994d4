-- A text has one trace at most: its rows are told from the bytes, their words from the rows, and numbers from their words.
use lib.Signed.{mag}
use Rattle.std.proofs.Common.{◌≡◌, ◌==◌, ℕ, ◌<◌, ◌^◌, ℤ, pos, negsuc, Bool, true, false, cond, List, [], ◌∷◌, ◌++◌, Option, Some, None, get_or, refl, sym, ap, ap₂, ◌∙◌, subst, arith, append_assoc}
use Rattle.std.specs.Prelude.{codes, decimal, unsigned_abs, IfSome}
use Rattle.std.specs.Fmt.{signed_decimal}
use Rattle.std.specs.List.{AllByRecursion, flat_map}
use Rattle.std.proofs.lemmas.Bool.{eqb-true}
use Rattle.std.proofs.lemmas.Fmt.{decimal_injective, signed_decimal_injective}
use Rattle.std.proofs.lemmas.List.{append-nil, append_cancel_right}
use Rattle.hc_rational.specs.Words.{Rational, IsFrac}
use Rattle.hc_rational.specs.Code.{same_rational}
use Rattle.hc_rational.proofs.FitsLaws.{num_fits, den_fits}
use Rattle.hc_frac.specs.Text.{text_of}
use Rattle.hc_frac.specs.Word.{IsWord}
use Rattle.hc_term.specs.TraceText.{words}
use Rattle.hc_trace.specs.declared.traces.Version.{Version}
use Rattle.hc_trace.specs.declared.traces.Version.TheVariants.{First, Second}
use Rattle.hc_trace.specs.declared.traces.Trace.{Trace}
use Rattle.hc_trace.specs.declared.traces.TraceLine.{TraceLine}
use Rattle.hc_trace.specs.declared.traces.TraceEvent.{TraceEvent}
use Rattle.hc_trace.specs.declared.traces.TraceEvent.TheVariants.{Delay, Comm, Log}
use Rattle.hc_trace.specs.declared.traces.TraceEnd.{TraceEnd}
use Rattle.hc_trace.specs.declared.traces.EndKind.{EndKind}
use Rattle.hc_trace.specs.declared.traces.EndKind.TheVariants.{Overflow}
use Rattle.hc_trace.specs.Traces.{IsEvent, IsLine, IsWho, IsEnd, event_word, event_parts, line_words, line_text, end_word, end_parts, end_words, end_text, header_row, header_of}
use Rattle.hc_trace.specs.Reading.{Lacks, IsWholeLine}
use Rattle.hc_trace.specs.Laws.{OneTrace}
use Rattle.hc_trace.proofs.Cuts.{not_cut, one_cut}
use Rattle.hc_trace.proofs.Spelling.{word_lacks, text_lacks, signed_lacks, no_blank}
use Rattle.hc_trace.proofs.Events.{event_more, event_word_lacks, end_more, end_word_lacks, own_end_word}
use Rattle.hc_trace.proofs.RowsOfText.{row_of, spells_row, spelled_lacks, line_plain, end_plain, header_plain, not_empty}

-- ---- numbers

small_mag : (z : ℤ) → unsigned_abs z < 2 ^ 63 → mag z < 2 ^ 63
small_mag (pos n) h = h
small_mag (negsuc n) h = omega arith

same_number : (z y : ℤ) → unsigned_abs z < 2 ^ 63 → unsigned_abs y < 2 ^ 63 → signed_decimal z ≡ signed_decimal y → z ≡ y
same_number z y h k e = signed_decimal_injective z y (small_mag z h) (small_mag y k) e

no_slash : (z : ℤ) → unsigned_abs z < 2 ^ 63 → Lacks 47 (signed_decimal z)
no_slash z h = signed_lacks 47 z (λ digit. omega arith) (λ e. omega (arith, e)) h

same_parts : (whole other : Bool) (z y : ℤ) (d c : ℕ) → (d == 1) ≡ whole → (c == 1) ≡ other →
    unsigned_abs z < 2 ^ 63 → unsigned_abs y < 2 ^ 63 → d < 2 ^ 63 → c < 2 ^ 63 →
    cond whole (signed_decimal z) (signed_decimal z ++ 47 ∷ decimal d) ≡ cond other (signed_decimal y) (signed_decimal y ++ 47 ∷ decimal c) →
    (z ≡ y) × (d ≡ c)
same_parts true true z y d c is_one one h k below under e = (same_number z y h k e, eqb-true d 1 is_one ∙ sym (eqb-true c 1 one))
same_parts true false z y d c is_one one h k below under e = absurd (not_cut 47 (signed_decimal z) (signed_decimal y) (decimal c) (no_slash z h) e)
same_parts false true z y d c is_one one h k below under e = absurd (not_cut 47 (signed_decimal y) (signed_decimal z) (decimal d) (no_slash y k) (sym e))
same_parts false false z y d c is_one one h k below under e =
    let both = one_cut 47 (signed_decimal z) (signed_decimal y) (decimal d) (decimal c) (no_slash z h) (no_slash y k) e in
    (same_number z y h k both.0, decimal_injective d c (omega arith) (omega arith) both.1)

pub own_text : (q r : Rational) → IsFrac q → IsFrac r → text_of q ≡ text_of r → q ≡ r
own_text q r f g e =
    let both = same_parts (q.den == 1) (r.den == 1) q.num r.num q.den r.den refl refl (num_fits q f) (num_fits r g) (den_fits q f) (den_fits r g) e in
    same_rational q r both.0 both.1

-- a number alone
last_number : (q r : Rational) → IsFrac q → IsFrac r → words (text_of q ∷ []) ≡ words (text_of r ∷ []) → q ≡ r
last_number q r f g e = own_text q r f g (append_cancel_right (text_of q) (text_of r) (10 ∷ []) e)

-- ---- events

after_word : (w v : List ℕ) (ws vs : List ℕ) → IsWord w → IsWord v → w ++ 32 ∷ ws ≡ v ++ 32 ∷ vs → (w ≡ v) × (ws ≡ vs)
after_word w v ws vs h k e = one_cut 32 w v ws vs (word_lacks 32 w refl h) (word_lacks 32 v refl k) e

name_and_number : (w v : List ℕ) (q r : Rational) → IsWord w → IsWord v → IsFrac q → IsFrac r →
    words (w ∷ text_of q ∷ []) ≡ words (v ∷ text_of r ∷ []) → (w ≡ v) × (q ≡ r)
name_and_number w v q r h k f g e =
    let cut = after_word w v (words (text_of q ∷ [])) (words (text_of r ∷ [])) h k e in
    (cut.0, last_number q r f g cut.1)

same_comm : (v : Version) (c : List ℕ) (s r : Option (List ℕ)) (x : Rational) (d : List ℕ) (t u : Option (List ℕ)) (y : Rational) →
    IsEvent v (Comm c s r x) → IsEvent v (Comm d t u y) → words (event_parts (Comm c s r x)) ≡ words (event_parts (Comm d t u y)) →
    Comm c s r x ≡ Comm d t u y
same_comm First c None None x d None None y h k e =
    let both = name_and_number c d x y h.0 k.0 h.1 k.1 e in ap₂ (λ n q. Comm n None None q) both.0 both.1
same_comm First c None None x d None (Some u) y h k e = absurd k
same_comm First c None None x d (Some t) u y h k e = absurd k
same_comm First c None (Some r) x d t u y h k e = absurd h
same_comm First c (Some s) r x d t u y h k e = absurd h
same_comm Second c (Some s) (Some r) x d (Some t) (Some u) y h k e =
    let first = after_word c d (words (s ∷ r ∷ text_of x ∷ [])) (words (t ∷ u ∷ text_of y ∷ [])) h.0 k.0 e in
    let second = after_word s t (words (r ∷ text_of x ∷ [])) (words (u ∷ text_of y ∷ [])) h.1 k.1 first.1 in
    let third = name_and_number r u x y h.2 k.2 h.3 k.3 second.1 in
    ap₂ (λ n m. Comm n (Some m) (Some r) x) first.0 second.0 ∙ ap₂ (λ n q. Comm d (Some t) (Some n) q) third.0 third.1
same_comm Second c (Some s) (Some r) x d None u y h k e = absurd k
same_comm Second c (Some s) (Some r) x d (Some t) None y h k e = absurd k
same_comm Second c None r x d t u y h k e = absurd h
same_comm Second c (Some s) None x d t u y h k e = absurd h

first_byte : {v w : List ℕ} → v ≡ w → get_or v 0 0 ≡ get_or w 0 0
first_byte e = ap (λ w. get_or w 0 0) e

same_event : (v : Version) (e f : TraceEvent) → IsEvent v e → IsEvent v f → event_word e ≡ event_word f →
    words (event_parts e) ≡ words (event_parts f) → e ≡ f
same_event v (Delay q) (Delay r) h k word parts = ap (λ b. Delay b) (last_number q r h k parts)
same_event v (Comm c s r x) (Comm d t u y) h k word parts = same_comm v c s r x d t u y h k parts
same_event v (Log p x) (Log q y) h k word parts =
    let both = name_and_number p q x y h.0 k.0 h.1 k.1 parts in ap₂ (λ n b. Log n b) both.0 both.1
same_event v (Delay q) (Comm d t u y) h k word parts = let clash : 100 ≡ 99 = first_byte word in absurd (omega (arith, clash))
same_event v (Delay q) (Log p y) h k word parts = let clash : 100 ≡ 108 = first_byte word in absurd (omega (arith, clash))
same_event v (Comm c s r x) (Delay q) h k word parts = let clash : 99 ≡ 100 = first_byte word in absurd (omega (arith, clash))
same_event v (Comm c s r x) (Log p y) h k word parts = let clash : 99 ≡ 108 = first_byte word in absurd (omega (arith, clash))
same_event v (Log p x) (Delay q) h k word parts = let clash : 108 ≡ 100 = first_byte word in absurd (omega (arith, clash))
same_event v (Log p x) (Comm d t u y) h k word parts = let clash : 108 ≡ 99 = first_byte word in absurd (omega (arith, clash))

-- ---- lines and ends

line_by : Rational → TraceEvent → TraceLine
line_by at event = record { at = at; event = event }

pub same_line : (v : Version) (l m : TraceLine) → IsLine v l → IsLine v m → line_text l ≡ line_text m → l ≡ m
unfolding line_by
same_line v l m h k e =
    let front = one_cut 32 (text_of l.at) (text_of m.at) (words (event_word l.event ∷ event_parts l.event)) (words (event_word m.event ∷ event_parts m.event))
    (text_lacks 32 l.at no_blank h.0) (text_lacks 32 m.at no_blank k.0) e in
    let back = one_cut 32 (event_word l.event) (event_word m.event) (words (event_parts l.event)) (words (event_parts m.event))
    (event_word_lacks l.event) (event_word_lacks m.event)
    (sym (event_more (event_word l.event) l.event) ∙ front.1 ∙ event_more (event_word m.event) m.event) in
    ap₂ line_by (own_text l.at m.at h.0 k.0 front.0) (same_event v l.event m.event h.1 k.1 back.0 back.1)

-- no number is the word `end`
pub line_no_end : (v : Version) (l : TraceLine) (e : TraceEnd) → IsLine v l → words (line_words l) ≡ words (end_words e) → ⊥
line_no_end v l e h same =
    let no_e : Lacks 101 (text_of l.at) = text_lacks 101 l.at (record { digit = λ d. omega arith; sign = λ s. omega (arith, s); slash = λ s. omega (arith, s) }) h.0 in
    let front = one_cut 32 (text_of l.at) (codes "end") (words (event_word l.event ∷ event_parts l.event)) (words (end_word e.kind ∷ end_parts e.kind e.at e.who))
    (text_lacks 32 l.at no_blank h.0) end_lacks same in
    (subst (Lacks 101) front.0 no_e).0 refl
  where
    end_lacks : Lacks 32 (codes "end")
    end_lacks = (λ a. omega (arith, a), (λ a. omega (arith, a), (λ a. omega (arith, a), tt)))

no_star : (w : List ℕ) → IsWord w → w ≡ codes "*" → ⊥
no_star w h e = let clash : false ≡ true = (subst IsWord e h).letter_first in absurd (cc clash)

same_end_parts : (kind : EndKind) (q r : Rational) (who other : Option (List ℕ)) → IsFrac q → IsFrac r → IsWho kind who → IsWho kind other →
    words (end_parts kind q who) ≡ words (end_parts kind r other) → (q ≡ r) × (who ≡ other)
same_end_parts Overflow q r None None f g h k e =
    (own_text q r f g (one_cut 32 (text_of q) (text_of r) (42 ∷ 10 ∷ []) (42 ∷ 10 ∷ []) (text_lacks 32 q no_blank f) (text_lacks 32 r no_blank g) e).0, refl)
same_end_parts Overflow q r (Some p) (Some o) f g h k e =
    let cut = one_cut 32 (text_of q) (text_of r) (p ++ 10 ∷ []) (o ++ 10 ∷ []) (text_lacks 32 q no_blank f) (text_lacks 32 r no_blank g) e in
    (own_text q r f g cut.0, ap Some (append_cancel_right p o (10 ∷ []) cut.1))
same_end_parts Overflow q r None (Some o) f g h k e =
    let cut = one_cut 32 (text_of q) (text_of r) (42 ∷ 10 ∷ []) (o ++ 10 ∷ []) (text_lacks 32 q no_blank f) (text_lacks 32 r no_blank g) e in
    absurd (no_star o k (append_cancel_right o (42 ∷ []) (10 ∷ []) (sym cut.1)))
same_end_parts Overflow q r (Some p) None f g h k e =
    let cut = one_cut 32 (text_of q) (text_of r) (p ++ 10 ∷ []) (42 ∷ 10 ∷ []) (text_lacks 32 q no_blank f) (text_lacks 32 r no_blank g) e in
    absurd (no_star p h (append_cancel_right p (42 ∷ []) (10 ∷ []) cut.1))
same_end_parts kind q r None None f g h k e = (last_number q r f g e, refl)
same_end_parts kind q r (Some p) other f g h k e = absurd h
same_end_parts kind q r None (Some o) f g h k e = absurd k

end_by : EndKind → Rational → Option (List ℕ) → TraceEnd
end_by kind at who = record { kind = kind; at = at; who = who }

pub same_end : (d e : TraceEnd) → IsEnd d → IsEnd e → words (end_words d) ≡ words (end_words e) → d ≡ e
unfolding end_by
same_end d e h k same =
    let front = one_cut 32 (codes "end") (codes "end") (words (end_word d.kind ∷ end_parts d.kind d.at d.who)) (words (end_word e.kind ∷ end_parts e.kind e.at e.who))
    end_lacks end_lacks same in
    let back = one_cut 32 (end_word d.kind) (end_word e.kind) (words (end_parts d.kind d.at d.who)) (words (end_parts e.kind e.at e.who))
    (end_word_lacks d.kind) (end_word_lacks e.kind)
    (sym (end_more (end_word d.kind) d.kind d.at d.who) ∙ front.1 ∙ end_more (end_word e.kind) e.kind e.at e.who) in
    let kinds : d.kind ≡ e.kind = own_end_word d.kind e.kind back.0 in
    let parts = same_end_parts d.kind d.at e.at d.who e.who h.0 k.0 h.1 (subst (λ (n : EndKind). IsWho n e.who) (sym kinds) k.1)
    (back.1 ∙ ap (λ n. words (end_parts n e.at e.who)) (sym kinds)) in
    ap₂ (λ n q. end_by n q d.who) kinds parts.0 ∙ ap (λ w. end_by e.kind e.at w) parts.1
  where
    end_lacks : Lacks 32 (codes "end")
    end_lacks = (λ a. omega (arith, a), (λ a. omega (arith, a), (λ a. omega (arith, a), tt)))

-- ---- texts

whole_line : (ws : List (List ℕ)) → AllByRecursion (Lacks 10) ws → IsWholeLine (words ws)
whole_line ws h = record { row = row_of ws; plain = spelled_lacks (row_of ws) ws h (spells_row ws); whole = sym (spells_row ws) }

whole_cut : (a b x y : List ℕ) → IsWholeLine a → IsWholeLine b → a ++ x ≡ b ++ y → (a ≡ b) × (x ≡ y)
whole_cut a b x y h k e =
    let open_a : a ++ x ≡ h.row ++ 10 ∷ x = ap (λ s. s ++ x) h.whole ∙ append_assoc h.row (10 ∷ []) x in
    let open_b : b ++ y ≡ k.row ++ 10 ∷ y = ap (λ s. s ++ y) k.whole ∙ append_assoc k.row (10 ∷ []) y in
    let cut = one_cut 10 h.row k.row x y h.plain k.plain (sym open_a ∙ e ∙ open_b) in
    (h.whole ∙ ap (λ s. s ++ 10 ∷ []) cut.0 ∙ sym k.whole, cut.1)

not_nothing : (a x : List ℕ) → IsWholeLine a → a ++ x ≡ [] → ⊥
not_nothing a x h e = not_empty h.row 10 x (sym (append_assoc h.row (10 ∷ []) x) ∙ ap (λ s. s ++ x) (sym h.whole) ∙ e)

same_rest : (v : Version) (ls ms : List TraceLine) (d e : Option TraceEnd) → AllByRecursion (IsLine v) ls → AllByRecursion (IsLine v) ms →
    IfSome d IsEnd → IfSome e IsEnd → flat_map line_text ls ++ end_text d ≡ flat_map line_text ms ++ end_text e → (ls ≡ ms) × (d ≡ e)
same_rest v [] [] None None h k i j same = (refl, refl)
same_rest v [] [] None (Some e) h k i j same = absurd (cc same)
same_rest v [] [] (Some d) None h k i j same = absurd (cc same)
same_rest v [] [] (Some d) (Some e) h k i j same = (refl, ap Some (same_end d e i j same))
same_rest v (l ∷ ls) [] d None h k i j same =
    absurd (not_nothing (line_text l) (flat_map line_text ls ++ end_text d) (whole_line (line_words l) (line_plain v l h.0)) (sym (append_assoc (line_text l) (flat_map line_text ls) (end_text d)) ∙ same))
same_rest v (l ∷ ls) [] d (Some e) h k i j same = absurd (line_no_end v l e h.0 (end_first v l ls d e h.0 j same))
  where
    end_first : (v : Version) (l : TraceLine) (ls : List TraceLine) (d : Option TraceEnd) (e : TraceEnd) → IsLine v l → IsEnd e →
        (line_text l ++ flat_map line_text ls) ++ end_text d ≡ words (end_words e) → words (line_words l) ≡ words (end_words e)
    end_first v l ls d e h j same =
        (whole_cut (line_text l) (words (end_words e)) (flat_map line_text ls ++ end_text d) [] (whole_line (line_words l) (line_plain v l h)) (whole_line (end_words e) (end_plain e j))
        (sym (append_assoc (line_text l) (flat_map line_text ls) (end_text d)) ∙ same ∙ sym (append-nil (words (end_words e))))).0
same_rest v [] (m ∷ ms) None e h k i j same =
    absurd (not_nothing (line_text m) (flat_map line_text ms ++ end_text e) (whole_line (line_words m) (line_plain v m k.0)) (sym (append_assoc (line_text m) (flat_map line_text ms) (end_text e)) ∙ sym same))
same_rest v [] (m ∷ ms) (Some d) e h k i j same = absurd (line_no_end v m d k.0 (sym (end_first v m ms e d k.0 i same)))
  where
    end_first : (v : Version) (m : TraceLine) (ms : List TraceLine) (e : Option TraceEnd) (d : TraceEnd) → IsLine v m → IsEnd d →
        words (end_words d) ≡ (line_text m ++ flat_map line_text ms) ++ end_text e → words (end_words d) ≡ words (line_words m)
    end_first v m ms e d k i same =
        (whole_cut (words (end_words d)) (line_text m) [] (flat_map line_text ms ++ end_text e) (whole_line (end_words d) (end_plain d i)) (whole_line (line_words m) (line_plain v m k))
        (append-nil (words (end_words d)) ∙ same ∙ append_assoc (line_text m) (flat_map line_text ms) (end_text e))).0
same_rest v (l ∷ ls) (m ∷ ms) d e h k i j same =
    let cut = whole_cut (line_text l) (line_text m) (flat_map line_text ls ++ end_text d) (flat_map line_text ms ++ end_text e)
    (whole_line (line_words l) (line_plain v l h.0)) (whole_line (line_words m) (line_plain v m k.0))
    (sym (append_assoc (line_text l) (flat_map line_text ls) (end_text d)) ∙ same ∙ append_assoc (line_text m) (flat_map line_text ms) (end_text e)) in
    let rest = same_rest v ls ms d e h.1 k.1 i j cut.1 in
    (ap₂ ◌∷◌ (same_line v l m h.0 k.0 cut.0) rest.0, rest.1)

pub own_header : (v w : Version) → header_row v ≡ header_row w → v ≡ w
own_header First First e = refl
own_header Second Second e = refl
own_header First Second e = let clash : 49 ≡ 50 = ap (λ s. get_or s 11 0) e in absurd (omega (arith, clash))
own_header Second First e = let clash : 50 ≡ 49 = ap (λ s. get_or s 11 0) e in absurd (omega (arith, clash))

trace_by : Version → List TraceLine → Option TraceEnd → Trace
trace_by v ls e = record { version = v; lines = ls; end = e }

header_line : (v : Version) → IsWholeLine (header_of v)
header_line v = record { row = header_row v; plain = header_plain v; whole = refl }

pub one_trace : OneTrace
unfolding trace_by
one_trace bytes t u h k =
    let cut = whole_cut (header_of t.version) (header_of u.version) (flat_map line_text t.lines ++ end_text t.end) (flat_map line_text u.lines ++ end_text u.end)
    (header_line t.version) (header_line u.version)
    (sym (append_assoc (header_of t.version) (flat_map line_text t.lines) (end_text t.end)) ∙ sym h.spelled ∙ k.spelled
    ∙ append_assoc (header_of u.version) (flat_map line_text u.lines) (end_text u.end)) in
    let versions : t.version ≡ u.version = own_header t.version u.version (append_cancel_right (header_row t.version) (header_row u.version) (10 ∷ []) cut.0) in
    let rest = same_rest t.version t.lines u.lines t.end u.end h.each (subst (λ (v : Version). AllByRecursion (IsLine v) u.lines) (sym versions) k.each) h.last k.last cut.1 in
    ap₂ (λ v ls. trace_by v ls t.end) versions rest.0 ∙ ap (λ e. trace_by u.version u.lines e) rest.1
