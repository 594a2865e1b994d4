-- What the parts of a source with a trace behind it say of its answer.
use Rattle.std.proofs.Common.{◌≡◌, ℕ, List, take, drop, Result, Ok, Err, MatchResult, IfErr, inl, inr, refl, sym, ap, subst, ◌∙◌}
use Rattle.std.specs.Prelude.{IfSome}
use Rattle.std.specs.Result.{IsErrAnd}
use Rattle.hc_modules.specs.declared.flat.Flat.{Flat}
use Rattle.hc_term.specs.declared.system.System.{System}
use Rattle.hc_trace.specs.declared.reading.TraceStop.{TraceStop}
use Rattle.hc_trace.specs.declared.reading.TraceStop.TheVariants as reading
use Rattle.hc_trace.specs.declared.traces.Trace.{Trace}
use Rattle.hc_trace.specs.Reading.{IsRefusedAt}
use Rattle.hc_trace.specs.Stops as reads
use Rattle.hc_upgrade.specs.declared.whole.UpgradeStop.{UpgradeStop}
use Rattle.hc_upgrade.specs.declared.whole.UpgradeStop.TheVariants as making
use Rattle.hc_upgrade.specs.Stops as makes
use Rattle.hc_upgrade.specs.Upgraded.{upgraded_text}
use Rattle.hc_cmd.specs.declared.refusal.Refusal.{Refusal}
use Rattle.hc_cmd.specs.declared.refusal.Refusal.TheVariants.{Untraced, Unconverted}
use Rattle.hc_cmd.specs.Reply.{Reply}
use Rattle.hc_cmd.specs.Sources.{no_source, source, unexpanded, unchecked, accepted, OfSource}
use Rattle.hc_cmd.specs.Traced.{OfTrace, refused_at_line, traced, OfTraced, no_trace, long_source, cut, converted, Converts}
use Rattle.hc_cmd.specs.Prepared.{Accepts, AcceptsTraced, IsCutAt}
use Rattle.hc_cmd.proofs.Finding.{MemoryOr, memory_or, not_accepted, accepts}

-- ---- a text that hasn't both

-- where what systems give is among others, so is what a source gives
source_among : (G H : Flat → System → Reply → Type 0) → ((flat : Flat) (system : System) (reply : Reply) → G flat system reply → H flat system reply) →
    (text : List ℕ) (reply : Reply) → OfSource G text reply → OfSource H text reply
source_among G H among text reply (no_source flaw place is e) = no_source flaw place is e
source_among G H among text reply (source tree is (unexpanded s stops e)) = source tree is (unexpanded s stops e)
source_among G H among text reply (source tree is (unchecked flat s from stops e)) = source tree is (unchecked flat s from stops e)
source_among G H among text reply (source tree is (accepted flat system from checks g)) =
    source tree is (accepted flat system from checks (among flat system reply g))

-- what is answered to bytes that are no trace is the same whatever their trace would give
no_trace_there : (G : Trace → Reply → Type 0) (bytes : List ℕ) (reply : Reply) → OfTrace (λ _ _. ⊥) bytes reply → OfTrace G bytes reply
no_trace_there G bytes reply (refused_at_line n is e) = refused_at_line n is e
no_trace_there G bytes reply (traced t is never) = absurd never

-- and so is what is answered to a text that hasn't both
pub not_traced : (G : System → Trace → Reply → Type 0) (text : List ℕ) (reply : Reply) → OfTraced (λ _ _ _. ⊥) text reply → OfTraced G text reply
not_traced G text reply (no_trace none e) = no_trace none e
not_traced G text reply (long_source place at long e) = long_source place at long e
not_traced G text reply (cut place at short given) =
    cut place at short
    (source_among _ _ (λ flat system r h. no_trace_there (G system) (drop place text) r h) (take place text) reply given)

-- the source isn't accepted
pub source_refused : (text : List ℕ) (place : ℕ) → IsCutAt text place → (r : Refusal) → MemoryOr (OfSource (λ _ _ _. ⊥) (take place text)) r →
    MemoryOr (OfTraced (λ _ _ _. ⊥) text) r
source_refused text place at r is =
    memory_or (OfSource (λ _ _ _. ⊥) (take place text)) (OfTraced (λ _ _ _. ⊥) text)
    (λ reply given. cut place at.0 at.1 (not_accepted _ (take place text) reply given)) r is

-- the source is accepted, and what is behind it isn't a trace
untraced_gives : (text : List ℕ) (place : ℕ) → IsCutAt text place → (flat : Flat) (system : System) → Accepts (take place text) flat system →
    (s : TraceStop) → IfSome (reads.told s) (IsRefusedAt (drop place text)) → MemoryOr (OfTraced (λ _ _ _. ⊥) text) (Untraced s)
untraced_gives text place at flat system is (reading.Line n) stops =
    inr (cut place at.0 at.1 (accepts _ (take place text) flat system is _ (refused_at_line n stops refl)))
untraced_gives text place at flat system is reading.Memory stops = inl refl

pub trace_refused : (text : List ℕ) (place : ℕ) → IsCutAt text place → (flat : Flat) (system : System) → Accepts (take place text) flat system →
    (found : Result Trace TraceStop) (result : Result Trace Refusal) (r : Refusal) → IfErr found (reads.IsStop (drop place text)) →
    MatchResult found (λ t. result ≡ Ok t) (λ s. IsErrAnd result (λ q. q ≡ Untraced s)) → result ≡ Err r → MemoryOr (OfTraced (λ _ _ _. ⊥) text) r
trace_refused text place at flat system is (Ok t) result r stops e f = absurd (cc (sym e ∙ f))
trace_refused text place at flat system is (Err s) (Ok t) r stops e f = absurd e
trace_refused text place at flat system is (Err s) (Err q) r stops e f =
    subst (λ (x : Refusal). MemoryOr (OfTraced (λ _ _ _. ⊥) text) x) (sym e ∙ same_error q r f) (untraced_gives text place at flat system is s stops)
  where
    same_error : (a b : Refusal) → (let x : Result Trace Refusal = Err a in x) ≡ Err b → a ≡ b
    same_error a b e = cc e

-- ---- a text that has both

pub traced_gives : (G : System → Trace → Reply → Type 0) (text : List ℕ) (system : System) (trace : Trace) → AcceptsTraced text system trace →
    (reply : Reply) → G system trace reply → OfTraced G text reply
traced_gives G text system trace is reply given =
    cut is.place is.cut_at.0 is.cut_at.1 (accepts _ (take is.place text) is.flat system is.accepts reply (traced trace is.traced given))

-- the trace can't be made new
unconverted_gives : (text : List ℕ) (system : System) (trace : Trace) → AcceptsTraced text system trace → (s : UpgradeStop) →
    IfSome (makes.told s) (λ n. upgraded_text system trace ≡ Err n) → MemoryOr (OfTraced Converts text) (Unconverted s)
unconverted_gives text system trace is (making.Channel n) stops = inr (traced_gives Converts text system trace is _ (sym (ap converted stops)))
unconverted_gives text system trace is making.Memory stops = inl refl

pub conversion_refused : {A : Type 0} (text : List ℕ) (system : System) (trace : Trace) → AcceptsTraced text system trace →
    (found : Result A UpgradeStop) (result : Result A Refusal) (r : Refusal) →
    IfErr found (λ s. IfSome (makes.told s) (λ n. upgraded_text system trace ≡ Err n)) →
    MatchResult found (λ t. result ≡ Ok t) (λ s. IsErrAnd result (λ q. q ≡ Unconverted s)) → result ≡ Err r → MemoryOr (OfTraced Converts text) r
conversion_refused text system trace is (Ok t) result r stops e f = absurd (cc (sym e ∙ f))
conversion_refused text system trace is (Err s) (Ok t) r stops e f = absurd e
conversion_refused {A} text system trace is (Err s) (Err q) r stops e f =
    subst (λ (x : Refusal). MemoryOr (OfTraced Converts text) x) (sym e ∙ same_error q r f) (unconverted_gives text system trace is s stops)
  where
    same_error : (a b : Refusal) → (let x : Result A Refusal = Err a in x) ≡ Err b → a ≡ b
    same_error a b e = cc e
