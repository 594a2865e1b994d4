-- Each line that is written of a step says a line of a trace: its names are those of the system, words all.
use Rattle.std.proofs.Common.{◌≡◌, ℕ, ◌+◌, ◌<◌, zero, suc, Bool, true, false, cond, List, [], ◌∷◌, ◌++◌, length, Option, Some, None, refl, sym, ap, ap₂, ◌∙◌, arith, append_assoc}
use Rattle.std.specs.Prelude.{slice_get, is_some, codes}
use Rattle.std.specs.List.{AllByRecursion, flat_map}
use Rattle.std.proofs.lemmas.Bool.{and_parts}
use Rattle.std.proofs.lemmas.List.{append-nil}
use Rattle.hc_rational.specs.Words.{Rational, IsFrac}
use Rattle.hc_frac.specs.Text.{text_of}
use Rattle.hc_frac.specs.Word.{IsWord}
use Rattle.hc_term.specs.declared.system.Process.{Process}
use Rattle.hc_term.specs.declared.system.System.{System}
use Rattle.hc_term.specs.declared.run.Step as steps
use Rattle.hc_term.specs.declared.run.Step.TheVariants as step
use Rattle.hc_term.specs.declared.run.Item.{Item}
use Rattle.hc_term.specs.declared.run.Stop as stops
use Rattle.hc_term.specs.declared.run.Stop.TheVariants as stop
use Rattle.hc_term.specs.Rules.{is_user}
use Rattle.hc_term.specs.Ends.{user_from, ends_of}
use Rattle.hc_term.specs.TraceText as written
use Rattle.hc_trace.specs.declared.traces.Version.TheVariants.{Second}
use Rattle.hc_trace.specs.declared.traces.TraceLine.{TraceLine}
use Rattle.hc_trace.specs.declared.traces.TraceEvent.TheVariants as event
use Rattle.hc_trace.specs.declared.traces.TraceEnd.{TraceEnd}
use Rattle.hc_trace.specs.declared.traces.EndKind.TheVariants as kind
use Rattle.hc_trace.specs.InRange.{StepInRange, AreInRange, StopInRange}
use Rattle.hc_trace.specs.Traces.{IsLine, IsEnd, line_text, end_text, header_of}
use Rattle.hc_trace.specs.Written.{HasWords, HasFractions, AreFractions, WrittenIsTrace}

-- ---- names

channel_word : (names : List (List ℕ)) (c : ℕ) → AllByRecursion IsWord names → c < length names → IsWord (written.name_or_none (slice_get names c))
channel_word [] c h within = absurd (omega (arith, within))
channel_word (n ∷ ns) zero h within = h.0
channel_word (n ∷ ns) (suc c) h within = channel_word ns c h.1 (omega (arith, within))

process_word_by : (ps : List Process) (p : ℕ) → AllByRecursion (λ q. IsWord q.name) ps → p < length ps → IsWord (written.name_of (slice_get ps p))
process_word_by [] p h within = absurd (omega (arith, within))
process_word_by (q ∷ qs) zero h within = h.0
process_word_by (q ∷ qs) (suc p) h within = process_word_by qs p h.1 (omega (arith, within))

process_word : (sys : System) (p : ℕ) → HasWords sys → p < length sys.processes → IsWord (written.process_name sys p)
process_word sys p h within = process_word_by sys.processes p h.processes within

user_by : (test : Bool) (later : Option ℕ) (n p bound : ℕ) → cond test (Some n) later ≡ Some p → n < bound → (later ≡ Some p → p < bound) → p < bound
user_by true later n p bound e here rest = let same : n ≡ p = cc e in omega arith
user_by false later n p bound e here rest = rest e

pub user_within : (sending : Bool) (c n : ℕ) (ps : List Process) (p : ℕ) → user_from sending c n ps ≡ Some p → p < n + length ps
user_within sending c n [] p e = absurd (cc e)
user_within sending c n (b ∷ bs) p e =
    user_by (is_user sending c b) (user_from sending c (n + 1) bs) n p (n + length (b ∷ bs)) e (omega arith)
    (λ f. omega (arith, user_within sending c (n + 1) bs p f))

-- ---- steps

record Lines (sys : System) (bytes : List ℕ) : Type 0 where
  lines : List TraceLine
  each : AllByRecursion (IsLine Second) lines
  spelled : bytes ≡ flat_map line_text lines

one_line : (sys : System) (l : TraceLine) → IsLine Second l → Lines sys (line_text l)
one_line sys l h = record { lines = l ∷ []; each = (h, tt); spelled = sym (append-nil (line_text l)) }

comm_line : (sys : System) (at : Rational) (c : ℕ) (v : Rational) (sender receiver : Option ℕ) → HasWords sys → IsFrac at → IsFrac v → c < length sys.channels →
    user_from true c 0 sys.processes ≡ sender → user_from false c 0 sys.processes ≡ receiver → is_some sender ≡ true → is_some receiver ≡ true →
    Lines sys (written.line_of_step sys at (step.Comm c v))
comm_line sys at c v None receiver h f g within sends receives s r = absurd (cc s)
comm_line sys at c v (Some p) None h f g within sends receives s r = absurd (cc r)
comm_line sys at c v (Some p) (Some q) h f g within sends receives s r =
    let sender : p < length sys.processes = omega (arith, user_within true c 0 sys.processes p sends) in
    let receiver : q < length sys.processes = omega (arith, user_within false c 0 sys.processes q receives) in
    let l : TraceLine = record { at = at; event = event.Comm (written.channel_name sys c) (Some (written.process_name sys p)) (Some (written.process_name sys q)) v } in
    let is : IsLine Second l = (f, (channel_word sys.channels c h.channels within, process_word sys p h sender, process_word sys q h receiver, g)) in
    let same : written.line_of_step sys at (step.Comm c v) ≡ line_text l =
    ap₂ (λ (a b : Option ℕ). written.words (text_of at ∷ codes "comm" ∷ written.channel_name sys c ∷ written.end_name sys a ∷ written.end_name sys b ∷ text_of v ∷ [])) sends receives in
    let found = one_line sys l is in
    record { lines = found.lines; each = found.each; spelled = same ∙ found.spelled }

step_lines : (sys : System) (at : Rational) (s : steps.Step) → HasWords sys → IsFrac at → HasFractions s → StepInRange sys s → Lines sys (written.line_of_step sys at s)
step_lines sys at (step.Silent p None) h f g within = record { lines = []; each = tt; spelled = refl }
step_lines sys at (step.Silent p (Some v)) h f g within =
    one_line sys (record { at = at; event = event.Log (written.process_name sys p) v }) (f, (process_word sys p h within, g))
step_lines sys at (step.Comm c v) h f g within =
    let both = and_parts (is_some (ends_of sys c).sender) (is_some (ends_of sys c).receiver) within.1 in
    comm_line sys at c v (ends_of sys c).sender (ends_of sys c).receiver h f g within.0 refl refl both.0 both.1
step_lines sys at (step.Delay d) h f g within = one_line sys (record { at = at; event = event.Delay d }) (f, g)

both_lines : (sys : System) (xs ys : List ℕ) → Lines sys xs → Lines sys ys → Lines sys (xs ++ ys)
both_lines sys xs ys a b = record {
  lines = a.lines ++ b.lines;
  each = both_each a.lines b.lines a.each b.each;
  spelled = ap₂ ◌++◌ a.spelled b.spelled ∙ both_text a.lines b.lines;
}
  where
    both_each : (ls ms : List TraceLine) → AllByRecursion (IsLine Second) ls → AllByRecursion (IsLine Second) ms → AllByRecursion (IsLine Second) (ls ++ ms)
    both_each [] ms h k = k
    both_each (l ∷ ls) ms h k = (h.0, both_each ls ms h.1 k)

    both_text : (ls ms : List TraceLine) → flat_map line_text ls ++ flat_map line_text ms ≡ flat_map line_text (ls ++ ms)
    both_text [] ms = refl
    both_text (l ∷ ls) ms = append_assoc (line_text l) (flat_map line_text ls) (flat_map line_text ms) ∙ ap (λ s. line_text l ++ s) (both_text ls ms)

item_lines : (sys : System) (items : List Item) → HasWords sys → AllByRecursion AreFractions items → AreInRange sys items → Lines sys (written.lines sys items)
item_lines sys [] h f within = record { lines = []; each = tt; spelled = refl }
item_lines sys (i ∷ is) h f within =
    both_lines sys (written.line_of_step sys i.at i.step) (written.lines sys is) (step_lines sys i.at i.step h f.0.0 f.0.1 within.0) (item_lines sys is h f.1 within.1)

-- ---- the end

record End (sys : System) (bytes : List ℕ) : Type 0 where
  end : TraceEnd
  is : IsEnd end
  spelled : bytes ≡ end_text (Some end)

stop_end : (sys : System) (clock : Rational) (s : stops.Stop) → HasWords sys → IsFrac clock → StopInRange sys s → End sys (written.end_line sys clock s)
stop_end sys clock stop.Terminated h f within = record { end = record { kind = kind.Terminated; at = clock; who = None }; is = (f, tt); spelled = refl }
stop_end sys clock stop.Deadlock h f within = record { end = record { kind = kind.Deadlock; at = clock; who = None }; is = (f, tt); spelled = refl }
stop_end sys clock stop.Horizon h f within = record { end = record { kind = kind.Horizon; at = clock; who = None }; is = (f, tt); spelled = refl }
stop_end sys clock stop.Limit h f within = record { end = record { kind = kind.Limit; at = clock; who = None }; is = (f, tt); spelled = refl }
stop_end sys clock (stop.Overflow None) h f within = record { end = record { kind = kind.Overflow; at = clock; who = None }; is = (f, tt); spelled = refl }
stop_end sys clock (stop.Overflow (Some p)) h f within =
    record { end = record { kind = kind.Overflow; at = clock; who = Some (written.process_name sys p) }; is = (f, process_word sys p h within); spelled = refl }

pub written_is_trace : WrittenIsTrace
written_is_trace sys items clock s h f g within stops =
    let found = item_lines sys items h f within in
    let last = stop_end sys clock s h g stops in (
      record { version = Second; lines = found.lines; end = Some last.end },
      refl,
      record { each = found.each; last = last.is; spelled = ap₂ (λ a b. (header_of Second ++ a) ++ b) found.spelled last.spelled },
    )
