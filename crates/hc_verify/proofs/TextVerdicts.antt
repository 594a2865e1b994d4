-- The trace of a text is verified exactly where the text is a first part of that of a behaviour.
use Rattle.std.proofs.Common.{◌≡◌, refl, sym, ap, ap₂, ◌∙◌, subst, ℕ, List, [], ◌∷◌, ◌++◌, Option, Some, None, append_assoc}
use Rattle.std.specs.Prelude.{IsTrue}
use Rattle.std.specs.List.{flat_map}
use Rattle.std.proofs.lemmas.List.{append-nil, append_cancel_left}
use Rattle.hc_rational.specs.Words.{Rational}
use Rattle.hc_term.specs.declared.system.System.{System}
use Rattle.hc_term.specs.declared.task.Task.{Task}
use Rattle.hc_term.specs.declared.run.Item.{Item}
use Rattle.hc_term.specs.Step.{opening, Leads}
use Rattle.hc_term.specs.TraceText.{words, end_line}
use Rattle.hc_runs.specs.Fractions.{task_numbers}
use Rattle.hc_runs.proofs.RunsFit.{runs_keep_fractions, items_are_fractions}
use Rattle.hc_trace.specs.declared.traces.Version.{Version}
use Rattle.hc_trace.specs.declared.traces.Trace.{Trace}
use Rattle.hc_trace.specs.declared.traces.TraceLine.{TraceLine}
use Rattle.hc_trace.specs.declared.traces.TraceEnd.{TraceEnd}
use Rattle.hc_trace.specs.Traces as Traces
use Rattle.hc_trace.specs.Traces.{IsTraceText, IsLine, line_text, end_words, end_text, header_of}
use Rattle.hc_trace.specs.Written.{HasWords}
use Rattle.hc_trace.proofs.RangeLemmas.{behaviours_are_in_range}
use Rattle.hc_order.specs.Shown.{shown, End}
use Rattle.hc_order.specs.Verified.{IsTrace}
use Rattle.hc_verify.specs.Judging.{AreItems, IsEnd}
use Rattle.hc_verify.specs.Named.{IsEndOf}
use Rattle.hc_verify.specs.Laws.{IsOfBehaviour, YesIsFirstPart}
use Rattle.hc_verify.specs.Texts.{step_lines, IsFirstPart}
use Rattle.hc_verify.proofs.LineTexts.{lines_so, shown_lines, joined_lines, end_so_written}
use Rattle.hc_verify.proofs.FirstParts.{AreFirst, are_first}
use Rattle.hc_verify.proofs.ToldLines.{AreTold, are_told, end_told}
use Rattle.hc_verify.proofs.Verdicts.{yes_is_of_behaviour}

-- ---- lines of which one is a first part

first_items : (sys : System) (ls more : List TraceLine) (is : List Item) → AreItems sys (ls ++ more) is →
    (js : List Item) × (others : List Item) × (is ≡ js ++ others) × AreItems sys ls js
first_items sys [] more is h = ([], is, refl, tt)
first_items sys (l ∷ ls) more [] h = absurd h
first_items sys (l ∷ ls) more (i ∷ is) h =
    let r = first_items sys ls more is h.1 in
    (i ∷ r.0, r.1, ap (λ (xs : List Item). i ∷ xs) r.2, (h.0, r.3))

module _ (t : Task) (bytes : List ℕ) (trace : Trace) (text : IsTraceText bytes trace) where
  abbrev v : Version
  v = trace.version

  abbrev header : List ℕ
  header = header_of trace.version

  abbrev rows : List ℕ
  rows = flat_map line_text trace.lines

  -- ---- what is verified is a first part

  from_none : (h : IsOfBehaviour t trace) → trace.end ≡ None → h.end ≡ None → IsTrace t h.lines None → IsFirstPart t v bytes
  from_none h no_end none k =
      let items = k.0 in
      let last = k.1 in
      let stop = k.2 in
      let others = k.3 in
      let end = end_line t.system last.clock stop in
      let behind = step_lines v t.system others ++ end in
      let lines : step_lines v t.system items ≡ rows ++ step_lines v t.system others =
      shown_lines t.system v items ∙ ap (step_lines v t.system) k.5 ∙ joined_lines t.system v h.lines others
      ∙ ap (λ (a : List ℕ). a ++ step_lines v t.system others) (sym (lines_so t.system v trace.lines h.lines text.each h.named)) in
      let read : bytes ≡ header ++ rows =
      text.spelled ∙ ap (λ (e : Option TraceEnd). header ++ rows ++ end_text e) no_end ∙ append-nil (header ++ rows) in
      record {
        items = items;
        last = last;
        stop = stop;
        rest = behind;
        behaviour = k.4;
        text =
            ap (λ (a : List ℕ). header ++ a ++ end) lines
            ∙ ap (λ (a : List ℕ). a ++ end) (sym (append_assoc header rows (step_lines v t.system others)))
            ∙ append_assoc (header ++ rows) (step_lines v t.system others) end
            ∙ ap (λ (a : List ℕ). a ++ behind) (sym read);
      }

  from_some : (h : IsOfBehaviour t trace) (d : TraceEnd) (e : End) → trace.end ≡ Some d → IsEndOf t.system d e → IsTrace t h.lines (Some e) →
      IsFirstPart t v bytes
  from_some h d e is named k =
      let items = k.0 in
      let last = k.1 in
      let lines : step_lines v t.system items ≡ rows =
      shown_lines t.system v items ∙ ap (step_lines v t.system) k.3 ∙ sym (lines_so t.system v trace.lines h.lines text.each h.named) in
      let end : end_line t.system last.clock e.stop ≡ words (end_words d) =
      ap (λ (x : Rational). end_line t.system x e.stop) (sym k.4) ∙ sym (end_so_written t.system d e named) in
      record {
        items = items;
        last = last;
        stop = e.stop;
        rest = [];
        behaviour = k.2;
        text =
            ap₂ (λ (a b : List ℕ). header ++ a ++ b) lines end
            ∙ ap (λ (o : Option TraceEnd). header ++ rows ++ end_text o) (sym is) ∙ sym text.spelled ∙ sym (append-nil bytes);
      }

  by_ends : (h : IsOfBehaviour t trace) (o : Option TraceEnd) (e : Option End) → trace.end ≡ o → h.end ≡ e → IsEnd t.system o e →
      IsTrace t h.lines e → IsFirstPart t v bytes
  by_ends h None None o_is e_is named k = from_none h o_is e_is k
  by_ends h None (Some e) o_is e_is named k = absurd named
  by_ends h (Some d) None o_is e_is named k = absurd named
  by_ends h (Some d) (Some e) o_is e_is named k = from_some h d e o_is named k

  to_text : IsOfBehaviour t trace → IsFirstPart t v bytes
  to_text h = by_ends h trace.end h.end refl refl h.end_named h.is_trace

  -- ---- and what is a first part is verified

  module _ (has_words : HasWords t.system) (numbers : IsTrue (task_numbers t)) (f : IsFirstPart t v bytes) where
    leads : Leads t (opening t) f.items f.last
    leads = f.behaviour.run.leads

    told : AreTold t.system has_words v (shown f.items)
    told =
        are_told t.system has_words v f.items (items_are_fractions t f.items f.last numbers leads)
        (behaviours_are_in_range t f.items f.last f.stop f.behaviour).0

    abbrev last_end : End
    last_end = record { at = f.last.clock; stop = f.stop }

    end_line_told : (e : TraceEnd) × Traces.IsEnd e × IsEndOf t.system e last_end
    end_line_told =
        end_told t.system has_words f.last.clock f.stop (runs_keep_fractions t f.items f.last numbers leads).0
        (behaviours_are_in_range t f.items f.last f.stop f.behaviour).1

    abbrev written_end : List ℕ
    written_end = end_line t.system f.last.clock f.stop

    same_text : rows ++ (end_text trace.end ++ f.rest) ≡ flat_map line_text told.lines ++ words (end_words end_line_told.0)
    same_text =
        let here : header ++ (step_lines v t.system f.items ++ written_end) ≡ header ++ (rows ++ (end_text trace.end ++ f.rest)) =
        sym (append_assoc header (step_lines v t.system f.items) written_end) ∙ f.text
        ∙ ap (λ (a : List ℕ). a ++ f.rest) text.spelled
        ∙ append_assoc (header ++ rows) (end_text trace.end) f.rest
        ∙ append_assoc header rows (end_text trace.end ++ f.rest) in
        let lines : step_lines v t.system f.items ≡ flat_map line_text told.lines =
        shown_lines t.system v f.items ∙ sym (lines_so t.system v told.lines (shown f.items) told.each told.named) in
        sym (append_cancel_left header (step_lines v t.system f.items ++ written_end) (rows ++ (end_text trace.end ++ f.rest)) here)
        ∙ ap₂ (λ (a b : List ℕ). a ++ b) lines (sym (end_so_written t.system end_line_told.0 last_end end_line_told.2))

    by_first : (o : Option TraceEnd) → trace.end ≡ o → AreFirst trace.lines o told.lines end_line_told.0 → IsOfBehaviour t trace
    by_first None is a =
        let r = first_items t.system trace.lines a.0 (shown f.items)
        (subst (λ (l : List TraceLine). AreItems t.system l (shown f.items)) a.1 told.named) in
        record {
          lines = r.0;
          end = None;
          named = r.3;
          end_named = subst (λ (o : Option TraceEnd). IsEnd t.system o None) (sym is) tt;
          is_trace = (f.items, f.last, f.stop, r.1, f.behaviour, r.2);
        }
    by_first (Some d) is a = record {
      lines = shown f.items;
      end = Some last_end;
      named = subst (λ (l : List TraceLine). AreItems t.system l (shown f.items)) (sym a.0) told.named;
      end_named = subst (λ (o : Option TraceEnd). IsEnd t.system o (Some last_end)) (sym is)
          (subst (λ (x : TraceEnd). IsEndOf t.system x last_end) (sym a.1) end_line_told.2);
      is_trace = (f.items, f.last, f.behaviour, refl, refl);
    }

    of_text : IsOfBehaviour t trace
    of_text =
        by_first trace.end refl
        (are_first v end_line_told.0 end_line_told.1 trace.lines trace.end f.rest told.lines text.each text.last told.each same_text)

pub yes_is_first_part : YesIsFirstPart
yes_is_first_part t bytes trace has_words numbers text =
    let yes = yes_is_of_behaviour t trace in
    (λ h. to_text t bytes trace text (yes.0 h), λ f. yes.1 (of_text t bytes trace text has_words numbers f))
