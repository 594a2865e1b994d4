-- A line that names an item spells what is written of it.
use Rattle.std.proofs.Common.{◌≡◌, refl, sym, ap, ap₂, ◌∙◌, ℕ, zero, suc, List, [], ◌∷◌, ◌++◌, map, slice_get, Option, Some, None, append_assoc, if◌then◌else◌, Bool, true, false}
use Rattle.std.specs.Prelude.{codes}
use Rattle.std.specs.List.{AllByRecursion, flat_map}
use Rattle.hc_rational.specs.Words.{Rational}
use Rattle.hc_frac.specs.Text.{text_of}
use Rattle.hc_term.specs.declared.system.Process.{Process}
use Rattle.hc_term.specs.declared.system.System.{System}
use Rattle.hc_term.specs.declared.run.Step.{Step}
use Rattle.hc_term.specs.declared.run.Step.TheVariants as step
use Rattle.hc_term.specs.declared.run.Item.{Item}
use Rattle.hc_term.specs.declared.run.Stop.{Stop}
use Rattle.hc_term.specs.declared.run.Stop.TheVariants as stop
use Rattle.hc_term.specs.Ends.{ends_of}
use Rattle.hc_term.specs.TraceText as written
use Rattle.hc_trace.specs.declared.traces.Version.{Version}
use Rattle.hc_trace.specs.declared.traces.Version.TheVariants.{First, Second}
use Rattle.hc_trace.specs.declared.traces.TraceLine.{TraceLine}
use Rattle.hc_trace.specs.declared.traces.TraceEvent.{TraceEvent}
use Rattle.hc_trace.specs.declared.traces.TraceEvent.TheVariants as event
use Rattle.hc_trace.specs.declared.traces.TraceEnd.{TraceEnd}
use Rattle.hc_trace.specs.declared.traces.EndKind.{EndKind}
use Rattle.hc_trace.specs.declared.traces.EndKind.TheVariants as kind
use Rattle.hc_trace.specs.Traces.{IsEvent, IsLine, event_word, event_parts, line_text, end_word, end_parts, end_words}
use Rattle.hc_order.specs.Shown.{is_visible, shown, End}
use Rattle.hc_verify.specs.Named.{name_of, IsEndNamed, IsStepOf, IsItemOf, IsStopOf, IsEndOf}
use Rattle.hc_verify.specs.Judging.{AreItems}
use Rattle.hc_verify.specs.Texts.{step_line, step_lines}

-- ---- names

named_so : (ps : List Process) (p : ℕ) (name : List ℕ) → slice_get (map name_of ps) p ≡ Some name → written.name_of (slice_get ps p) ≡ name
named_so [] p name h = cc
named_so (q ∷ ps) zero name h = cc
named_so (q ∷ ps) (suc p) name h = named_so ps p name h

module _ (sys : System) where
  end_so : (end : Option ℕ) (name : List ℕ) → IsEndNamed sys end (Some name) → written.end_name sys end ≡ name
  end_so end name h = ap (written.end_name sys) h.1 ∙ named_so sys.processes h.0 name h.2

  -- ---- lines

  abbrev text_by : Rational → TraceEvent → List ℕ
  text_by at e = written.words (text_of at ∷ event_word e ∷ event_parts e)

  event_text : (v : Version) (at : Rational) (e : TraceEvent) (s : Step) → IsEvent v e → IsStepOf sys e s → text_by at e ≡ step_line v sys at s
  event_text v at (event.Delay by) (step.Delay d) is h = ap (λ (x : Rational). text_by at (event.Delay x)) h
  event_text v at (event.Log process value) (step.Silent p (Some x)) is h =
      ap₂ (λ (n : List ℕ) (y : Rational). text_by at (event.Log n y)) (sym (named_so sys.processes p process h.0)) h.1
  event_text First at (event.Comm channel None None value) (step.Comm c x) is h =
      ap₂ (λ (n : List ℕ) (y : Rational). text_by at (event.Comm n None None y)) (sym (ap written.name_or_none h.0.channel_named)) h.1
  event_text Second at (event.Comm channel (Some sender) (Some receiver) value) (step.Comm c x) is h =
      ap₂ (λ (n : List ℕ) (y : Rational). text_by at (event.Comm n (Some sender) (Some receiver) y)) (sym (ap written.name_or_none h.0.channel_named)) h.1
      ∙ ap₂ (λ (a b : List ℕ). text_by at (event.Comm (written.channel_name sys c) (Some a) (Some b) x))
      (sym (end_so (ends_of sys c).sender sender h.0.sender_named)) (sym (end_so (ends_of sys c).receiver receiver h.0.receiver_named))
  event_text First at (event.Comm channel (Some sender) receiver value) (step.Comm c x) is h = absurd is
  event_text First at (event.Comm channel None (Some receiver) value) (step.Comm c x) is h = absurd is
  event_text Second at (event.Comm channel None receiver value) (step.Comm c x) is h = absurd is
  event_text Second at (event.Comm channel (Some sender) None value) (step.Comm c x) is h = absurd is
  event_text v at e s is h = absurd h

  line_so : (v : Version) (l : TraceLine) (i : Item) → IsLine v l → IsItemOf sys l i → line_text l ≡ step_line v sys i.at i.step
  line_so v l i is h = ap (λ (x : Rational). text_by x l.event) h.at ∙ event_text v i.at l.event i.step is.1 h.step

  pub lines_so : (v : Version) (ls : List TraceLine) (is : List Item) → AllByRecursion (IsLine v) ls → AreItems sys ls is →
      flat_map line_text ls ≡ step_lines v sys is
  lines_so v [] [] each h = refl
  lines_so v [] (i ∷ is) each h = absurd h
  lines_so v (l ∷ ls) [] each h = absurd h
  lines_so v (l ∷ ls) (i ∷ is) each h = ap₂ (λ (a b : List ℕ). a ++ b) (line_so v l i each.0 h.0) (lines_so v ls is each.1 h.1)

  -- ---- steps that aren't visible have no line

  none_of : (v : Version) (at : Rational) (s : Step) → is_visible s ≡ false → step_line v sys at s ≡ []
  none_of v at (step.Silent p None) h = refl
  none_of v at (step.Silent p (Some x)) h = cc
  none_of v at (step.Comm c x) h = cc
  none_of v at (step.Delay d) h = cc

  shown_by : (v : Version) (i : Item) (is : List Item) (b : Bool) → is_visible i.step ≡ b →
      step_line v sys i.at i.step ++ step_lines v sys is ≡ step_lines v sys (if b then i ∷ is else is)
  shown_by v i is true h = refl
  shown_by v i is false h = ap (λ (a : List ℕ). a ++ step_lines v sys is) (none_of v i.at i.step h)

  pub shown_lines : (v : Version) (is : List Item) → step_lines v sys is ≡ step_lines v sys (shown is)
  shown_lines v [] = refl
  shown_lines v (i ∷ is) =
      ap (λ (a : List ℕ). step_line v sys i.at i.step ++ a) (shown_lines v is) ∙ shown_by v i (shown is) (is_visible i.step) refl

  pub joined_lines : (v : Version) (is js : List Item) → step_lines v sys (is ++ js) ≡ step_lines v sys is ++ step_lines v sys js
  joined_lines v [] js = refl
  joined_lines v (i ∷ is) js =
      ap (λ (a : List ℕ). step_line v sys i.at i.step ++ a) (joined_lines v is js)
      ∙ sym (append_assoc (step_line v sys i.at i.step) (step_lines v sys is) (step_lines v sys js))

  -- ---- the end line

  abbrev end_by : EndKind → Rational → Option (List ℕ) → List ℕ
  end_by k at who = written.words (codes "end" ∷ end_word k ∷ end_parts k at who)

  stop_so : (k : EndKind) (at : Rational) (who : Option (List ℕ)) (s : Stop) → IsStopOf sys k who s → end_by k at who ≡ written.end_line sys at s
  stop_so kind.Terminated at None stop.Terminated h = refl
  stop_so kind.Deadlock at None stop.Deadlock h = refl
  stop_so kind.Horizon at None stop.Horizon h = refl
  stop_so kind.Limit at None stop.Limit h = refl
  stop_so kind.Overflow at None (stop.Overflow None) h = refl
  stop_so kind.Overflow at (Some process) (stop.Overflow (Some p)) h =
      ap (λ (n : List ℕ). end_by kind.Overflow at (Some n)) (sym (named_so sys.processes p process h))
  stop_so k at who s h = absurd h

  pub end_so_written : (d : TraceEnd) (e : End) → IsEndOf sys d e → written.words (end_words d) ≡ written.end_line sys e.at e.stop
  end_so_written d e h = ap (λ (x : Rational). end_by d.kind x d.who) h.at ∙ stop_so d.kind e.at d.who e.stop h.stop

  -- ---- version 2 is what is written

  second_lines : (is : List Item) → step_lines Second sys is ≡ written.lines sys is
  second_lines [] = refl
  second_lines (i ∷ is) = ap₂ (λ (a b : List ℕ). a ++ b) (second_line i.at i.step) (second_lines is) where
    second_line : (at : Rational) (s : Step) → step_line Second sys at s ≡ written.line_of_step sys at s
    second_line at (step.Comm c v) = refl
    second_line at (step.Silent p logged) = refl
    second_line at (step.Delay d) = refl

  pub second_is_written : (items : List Item) (clock : Rational) (s : Stop) →
      written.header ++ step_lines Second sys items ++ written.end_line sys clock s ≡ written.whole sys items clock s
  second_is_written items clock s = ap (λ (a : List ℕ). written.header ++ a ++ written.end_line sys clock s) (second_lines items)
