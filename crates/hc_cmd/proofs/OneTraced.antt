-- What is replied to a source with a trace behind it is decided by the text; so all that is replied is, by the request and the text.
use Rattle.std.proofs.Common.{◌≡◌, ◌<◌, ◌≤◌, ℕ, List, length, take, drop, ◌⊎◌, inl, inr, sym, ap, subst, ◌∙◌, arith}
use Rattle.std.specs.Prelude.{◌↔◌, IsTrue}
use Rattle.std.proofs.lemmas.Bool.{cases_order, cases_lt}
use Rattle.std.proofs.lemmas.List.{length-take-le}
use Rattle.hc_limits.specs.Limits.{most_source_bytes}
use Rattle.hc_term.specs.declared.system.System.{System}
use Rattle.hc_term.specs.declared.task.Task.{Task}
use Rattle.hc_term.specs.Given.{HasParts}
use Rattle.hc_runs.specs.Fractions.{task_numbers}
use Rattle.hc_trace.specs.declared.reading.TraceStop.TheVariants.{Line}
use Rattle.hc_trace.specs.declared.traces.Trace.{Trace}
use Rattle.hc_trace.specs.Splitting.{IsFirstHeader}
use Rattle.hc_trace.specs.Traces.{IsTraceText}
use Rattle.hc_trace.specs.Written.{HasWords}
use Rattle.hc_trace.proofs.Headers.{none_past}
use Rattle.hc_verify.specs.declared.verdict.Verdict.{Verdict}
use Rattle.hc_verify.specs.declared.verdict.Verdict.TheVariants.{Yes, No}
use Rattle.hc_verify.specs.Judging.{JudgesTrace}
use Rattle.hc_verify.specs.Laws.{YesIsOfBehaviour, YesIsFirstPart}
use Rattle.hc_verify.specs.Texts.{IsFirstPart}
use Rattle.hc_words.specs.declared.requests.Request.{Request}
use Rattle.hc_words.specs.declared.requests.Request.TheVariants.{Check, Print, Simulate, Channels, Convert, Verify, Make, Cexec}
use Rattle.hc_words.specs.declared.settings.Settings.{Settings}
use Rattle.hc_cmd.specs.declared.refusal.Refusal.TheVariants.{Untraced}
use Rattle.hc_cmd.specs.Reply.{Reply}
use Rattle.hc_cmd.specs.Refusals.{refused}
use Rattle.hc_cmd.specs.Sources.{OfSource}
use Rattle.hc_cmd.specs.Traced.{OfTrace, refused_at_line, traced, OfTraced, no_trace, long_source, cut, Converts, judged, Judges}
use Rattle.hc_cmd.specs.Answers.{Answers}
use Rattle.hc_cmd.specs.Laws.{IsTracedSource, IsVerdict}
use Rattle.hc_cmd.proofs.CTexts.{program_decides}
use Rattle.hc_cmd.proofs.OneReply.{Decided, one_task, one_told, one_sum, text_decides, source_decides, text_accepted}

-- a text is cut at one place at most
one_place : (text : List ℕ) (p q : ℕ) → IsFirstHeader text p → IsFirstHeader text q → p ≡ q
one_place text p q a b = go (cases_order p q)
  where
    go : (p ≡ q) ⊎ ((p < q) ⊎ (q < p)) → p ≡ q
    go (inl e) = e
    go (inr (inl lt)) = absurd (b.first p lt a.here)
    go (inr (inr lt)) = absurd (a.first q lt b.here)

module _ (d : Decided) where
  trace_decides : (G : Trace → Reply → Type 0) → ((t : Trace) (r s : Reply) → G t r → G t s → r ≡ s) → (bytes : List ℕ) (r s : Reply) →
      OfTrace G bytes r → OfTrace G bytes s → r ≡ s
  trace_decides G one bytes r s (refused_at_line n is e) (refused_at_line m of h) =
      e ∙ ap (λ (k : ℕ). refused (Untraced (Line k))) (d.one_line bytes n m is of) ∙ sym h
  trace_decides G one bytes r s (refused_at_line n is e) (traced u of b) = absurd (d.trace_not_refused bytes u n of is)
  trace_decides G one bytes r s (traced t is a) (refused_at_line m of h) = absurd (d.trace_not_refused bytes t m is of)
  trace_decides G one bytes r s (traced t is a) (traced u of b) =
      one u r s (subst (λ (v : Trace). G v r) (d.one_trace bytes t u is of) a) b

  traced_decides : (G : System → Trace → Reply → Type 0) → ((system : System) (trace : Trace) (r s : Reply) → G system trace r → G system trace s → r ≡ s) →
      (text : List ℕ) (r s : Reply) → OfTraced G text r → OfTraced G text s → r ≡ s
  traced_decides G one text r s (no_trace none e) (no_trace never h) = e ∙ sym h
  traced_decides G one text r s (no_trace none e) (long_source q of far h) = absurd (none q of.here)
  traced_decides G one text r s (no_trace none e) (cut q of near b) = absurd (none q of.here)
  traced_decides G one text r s (long_source p is long e) (no_trace never h) = absurd (never p is.here)
  traced_decides G one text r s (long_source p is long e) (long_source q of far h) = e ∙ sym h
  traced_decides G one text r s (long_source p is long e) (cut q of near b) = absurd (omega (arith, one_place text p q is of, long, near))
  traced_decides G one text r s (cut p is short a) (no_trace never h) = absurd (never p is.here)
  traced_decides G one text r s (cut p is short a) (long_source q of far h) = absurd (omega (arith, one_place text p q is of, short, far))
  traced_decides G one text r s (cut p is short a) (cut q of near b) =
      let From : ℕ → Type 0 = λ place. OfSource (λ flat system. OfTrace (G system) (drop place text)) (take place text) r in
      source_decides d _ (λ flat system r s x y. trace_decides (G system) (one system) (drop q text) r s x y) (take q text) r s
      (subst From (one_place text p q is of) a) b

  one_verdict : (settings : Settings) (system : System) (trace : Trace) (r s : Reply) → Judges settings system trace r → Judges settings system trace s → r ≡ s
  one_verdict settings system trace r s a b =
      let same : a.task ≡ b.task = one_task system settings.seed settings.horizon settings.limit a.task b.task a.parts b.parts in
      let judges : JudgesTrace b.task trace a.verdict = subst (λ (t : Task). JudgesTrace t trace a.verdict) same a.judges in
      a.stands ∙ ap (judged (length trace.lines)) (d.one_verdict b.task trace a.verdict b.verdict judges b.judges) ∙ sym b.stands

  pub one_answer : (request : Request) (text : List ℕ) (r s : Reply) → Answers request text r → Answers request text s → r ≡ s
  one_answer Check text r s a b = source_decides d _ (λ flat system r s e f. e ∙ sym f) text r s a b
  one_answer Print text r s a b = text_decides d _ (λ tree r s e f. e ∙ sym f) text r s a b
  one_answer (Simulate settings) text r s a b = source_decides d _ (λ flat system r s x y. one_told _ settings system r s x y) text r s a b
  one_answer (Channels settings) text r s a b = source_decides d _ (λ flat system r s x y. one_told _ settings system r s x y) text r s a b
  one_answer Convert text r s a b = traced_decides Converts (λ system trace r s e f. e ∙ sym f) text r s a b
  one_answer (Verify settings) text r s a b = traced_decides (Judges settings) (one_verdict settings) text r s a b
  one_answer (Make made) text r s a b = source_decides d _ (λ flat system r s x y. one_sum made system r s x y) _ r s a b
  one_answer (Cexec asked) text r s a b = program_decides d _ (λ g r s e f. e ∙ sym f) text r s a b

  -- ---- accepted sources with traces

  trace_there : (G : Trace → Reply → Type 0) (bytes : List ℕ) (trace : Trace) (reply : Reply) → IsTraceText bytes trace → OfTrace G bytes reply → G trace reply
  trace_there G bytes trace reply is (refused_at_line n at e) = absurd (d.trace_not_refused bytes trace n is at)
  trace_there G bytes trace reply is (traced u of g) = subst (λ (v : Trace). G v reply) (d.one_trace bytes u trace of is) g

  -- a source that is accepted isn't too long
  near : (text : List ℕ) (place : ℕ) → IsFirstHeader text place → length (take place text) ≤ most_source_bytes → place ≤ most_source_bytes
  near text place is short = go (cases_lt place (length text))
    where
      go : (place < length text) ⊎ (length text ≤ place) → place ≤ most_source_bytes
      go (inl within) = omega (arith, short, length-take-le place text (omega (arith, within)))
      go (inr past) = absurd (none_past text place past is.here)

  pub traced_there : (G : System → Trace → Reply → Type 0) (text : List ℕ) (system : System) (trace : Trace) (reply : Reply) →
      IsTracedSource text system trace → OfTraced G text reply → G system trace reply
  traced_there G text system trace reply is (no_trace none e) = absurd (none is.place is.cut_at.here)
  traced_there G text system trace reply is (long_source p at long e) =
      absurd (omega (arith, one_place text p is.place at is.cut_at, long, near text is.place is.cut_at is.accepted.short))
  traced_there G text system trace reply is (cut p at short a) =
      let From : ℕ → Type 0 = λ place. OfSource (λ flat sys. OfTrace (G sys) (drop place text)) (take place text) reply in
      trace_there (G system) (drop is.place text) trace reply is.traced
      (text_accepted d (λ flat sys. OfTrace (G sys) (drop is.place text)) (take is.place text) system reply is.accepted
      (subst From (one_place text p is.place at is.cut_at) a))

  -- the status is 0 exactly where the verdict is yes
  zero_is_yes : (task : Task) (trace : Trace) (verdict : Verdict) → JudgesTrace task trace verdict → (reply : Reply) →
      reply ≡ judged (length trace.lines) verdict → (reply.status ≡ 0) ↔ ((n : ℕ) × JudgesTrace task trace (Yes n))
  zero_is_yes task trace (Yes n) judges reply e = (λ h. (n, judges), λ h. ap (λ (r : Reply). r.status) e)
  zero_is_yes task trace (No k) judges reply e =
      (λ h. absurd (cc (sym (ap (λ (r : Reply). r.status) e) ∙ h)), λ h. absurd (yes_or_no (d.one_verdict task trace (Yes h.0) (No k) h.1 judges)))
    where
      yes_or_no : {n m : ℕ} → Yes n ≡ No m → ⊥
      yes_or_no e = cc e

  -- and 15 exactly where it's another
  fifteen_is_no : (task : Task) (trace : Trace) (verdict : Verdict) → JudgesTrace task trace verdict → (reply : Reply) →
      reply ≡ judged (length trace.lines) verdict → (reply.status ≡ 15) ↔ ¬ ((n : ℕ) × JudgesTrace task trace (Yes n))
  fifteen_is_no task trace (Yes n) judges reply e =
      (λ h. absurd (cc (sym (ap (λ (r : Reply). r.status) e) ∙ h)), λ never. absurd (never (n, judges)))
  fifteen_is_no task trace (No k) judges reply e =
      (λ h yes. yes_or_no (d.one_verdict task trace (Yes yes.0) (No k) yes.1 judges), λ h. ap (λ (r : Reply). r.status) e)
    where
      yes_or_no : {n m : ℕ} → Yes n ≡ No m → ⊥
      yes_or_no e = cc e

  pub judged_so : YesIsOfBehaviour → (settings : Settings) (system : System) (trace : Trace) (reply : Reply) → Judges settings system trace reply →
      (task : Task) × HasParts system settings.seed settings.horizon settings.limit task × IsVerdict task trace reply
  judged_so exact settings system trace reply j =
      let zero = zero_is_yes j.task trace j.verdict j.judges reply j.stands in
      let fifteen = fifteen_is_no j.task trace j.verdict j.judges reply j.stands in
      let yes = exact j.task trace in (
        j.task,
        j.parts,
        record {
          yes = (λ h. yes.0 (zero.0 h), λ h. zero.1 (yes.1 h));
          no = (λ h of. fifteen.0 h (yes.1 of), λ never. fifteen.1 (λ h. never (yes.0 h)));
        },
      )

  pub first_part_so : YesIsFirstPart → (settings : Settings) (system : System) (trace : Trace) (reply : Reply) → Judges settings system trace reply →
      (bytes : List ℕ) → IsTraceText bytes trace → HasWords system →
      (task : Task) × HasParts system settings.seed settings.horizon settings.limit task
      × (IsTrue (task_numbers task) → ((reply.status ≡ 0) ↔ IsFirstPart task trace.version bytes))
  first_part_so exact settings system trace reply j bytes text has =
      let zero = zero_is_yes j.task trace j.verdict j.judges reply j.stands in
      let words : HasWords j.task.system = subst HasWords (sym j.parts.same_system) has in (
        j.task,
        j.parts,
        λ numbers. let yes = exact j.task bytes trace words numbers text in (λ h. yes.0 (zero.0 h), λ h. zero.1 (yes.1 h)),
      )
