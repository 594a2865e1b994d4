-- A trace has one verdict at most, and it is yes exactly where the trace is one of a behaviour.
use Rattle.std.proofs.Common.{◌≡◌, refl, sym, ap, ◌∙◌, subst, subst₂, ℕ, List, [], ◌∷◌, ◌++◌, Option, Some, None, arith, inl, inr}
use Rattle.hc_term.specs.declared.task.Task.{Task}
use Rattle.hc_term.specs.declared.run.Item.{Item}
use Rattle.hc_trace.specs.declared.traces.Trace.{Trace}
use Rattle.hc_trace.specs.declared.traces.TraceLine.{TraceLine}
use Rattle.hc_trace.specs.declared.traces.TraceEnd.{TraceEnd}
use Rattle.hc_order.specs.Shown.{End, Shows}
use Rattle.hc_order.specs.Verified.{IsShown}
use Rattle.hc_order.proofs.Paths.{one_more}
use Rattle.hc_order.proofs.Traces.{yes_is_trace}
use Rattle.hc_order.proofs.Verdicts.{shown-before}
use Rattle.hc_verify.specs.declared.verdict.Verdict.TheVariants.{Yes, No}
use Rattle.hc_verify.specs.Judging.{AreItems, IsEnd, FailsFrom, IsVerifiedTrace}
use Rattle.hc_verify.specs.Laws.{TraceHasOneVerdict, YesIsOfBehaviour}
use Rattle.hc_verify.proofs.OneName.{one_item, one_items, one_end}

append_none : (is : List Item) → (is ++ []) ≡ is
append_none [] = refl
append_none (i ∷ is) = ap (λ (xs : List Item). i ∷ xs) (append_none is)

module _ (t : Task) where
  -- a run shows what stands before the line that fails
  fails-shown : (before : List Item) (ls : List TraceLine) (end : Option TraceEnd) (n : ℕ) → FailsFrom t before ls end n → IsShown t before
  fails-shown before [] None n h = absurd h
  fails-shown before [] (Some e) n h = h.1.shown
  fails-shown before (l ∷ ls) end n (inl h) = h.1.shown
  fails-shown before (l ∷ ls) end n (inr h) =
      let s = fails-shown (before ++ h.0 ∷ []) ls end n h.2 in shown-before t before (h.0 ∷ []) None s.0 s.1

  -- and none shows all that the trace names
  fails-not : (before : List Item) (ls : List TraceLine) (is : List Item) (end : Option TraceEnd) (e : Option End) (n m : ℕ) →
      FailsFrom t before ls end n → AreItems t.system ls is → IsEnd t.system end e → Shows t (before ++ is) e m → ⊥
  fails-not before [] (i ∷ is) end e n m h named ends s = named
  fails-not before [] [] None e n m h named ends s = h
  fails-not before [] [] (Some l) None n m h named ends s = ends
  fails-not before [] [] (Some l) (Some e) n m h named ends s =
      h.1.refused e ends m (subst (λ (xs : List Item). Shows t xs (Some e) m) (append_none before) s)
  fails-not before (l ∷ ls) [] end e n m h named ends s = named
  fails-not before (l ∷ ls) (i ∷ is) end e n m (inl h) named ends s =
      let k = shown-before t (before ++ i ∷ []) is e m (subst (λ (xs : List Item). Shows t xs e m) (sym (one_more before i is)) s) in
      h.1.refused i named.0 k.0 k.1
  fails-not before (l ∷ ls) (i ∷ is) end e n m (inr h) named ends s =
      let same = one_item t.system l h.0 i h.1 named.0 in
      fails-not (before ++ i ∷ []) ls is end e n m (subst (λ (j : Item). FailsFrom t (before ++ j ∷ []) ls end n) same h.2)
      named.1 ends (subst (λ (xs : List Item). Shows t xs e m) (sym (one_more before i is)) s)

  fails-once : (before : List Item) (ls : List TraceLine) (end : Option TraceEnd) (n m : ℕ) → FailsFrom t before ls end n →
      FailsFrom t before ls end m → n ≡ m
  fails-once before [] None n m h k = absurd h
  fails-once before [] (Some e) n m h k = h.0 ∙ sym k.0
  fails-once before (l ∷ ls) end n m (inl h) (inl k) = h.0 ∙ sym k.0
  fails-once before (l ∷ ls) end n m (inl h) (inr k) =
      let s = fails-shown (before ++ k.0 ∷ []) ls end m k.2 in absurd (h.1.refused k.0 k.1 s.0 s.1)
  fails-once before (l ∷ ls) end n m (inr h) (inl k) =
      let s = fails-shown (before ++ h.0 ∷ []) ls end n h.2 in absurd (k.1.refused h.0 h.1 s.0 s.1)
  fails-once before (l ∷ ls) end n m (inr h) (inr k) =
      let same = one_item t.system l h.0 k.0 h.1 k.1 in
      fails-once (before ++ k.0 ∷ []) ls end n m (subst (λ (j : Item). FailsFrom t (before ++ j ∷ []) ls end n) same h.2) k.2

  verified-once : (trace : Trace) (n m : ℕ) → IsVerifiedTrace t trace n → IsVerifiedTrace t trace m → n ≡ m
  verified-once trace n m h k =
      let lines = one_items t.system trace.lines h.lines k.lines h.named k.named in
      let ends = one_end t.system trace.end h.end k.end h.end_named k.end_named in
      let there : Shows t k.lines k.end n = subst₂ (λ (xs : List Item) (e : Option End). Shows t xs e n) lines ends h.verified.shows in
      let back : Shows t h.lines h.end m = subst₂ (λ (xs : List Item) (e : Option End). Shows t xs e m) (sym lines) (sym ends) k.verified.shows in
      omega (arith, h.verified.least m back, k.verified.least n there)

pub one_verdict : TraceHasOneVerdict
one_verdict t trace (Yes n) (Yes m) h k = ap Yes (verified-once t trace n m h k)
one_verdict t trace (Yes n) (No m) h k = absurd (fails-not t [] trace.lines h.lines trace.end h.end m n k h.named h.end_named h.verified.shows)
one_verdict t trace (No n) (Yes m) h k = absurd (fails-not t [] trace.lines k.lines trace.end k.end n m h k.named k.end_named k.verified.shows)
one_verdict t trace (No n) (No m) h k = ap No (fails-once t [] trace.lines trace.end n m h k)

pub yes_is_of_behaviour : YesIsOfBehaviour
yes_is_of_behaviour t trace = (
  λ h. record {
    lines = h.1.lines;
    end = h.1.end;
    named = h.1.named;
    end_named = h.1.end_named;
    is_trace = (yes_is_trace t h.1.lines h.1.end).0 (h.0, h.1.verified);
  },
  λ h. (
      let v = (yes_is_trace t h.lines h.end).1 h.is_trace in
      (v.0, record { lines = h.lines; end = h.end; named = h.named; end_named = h.end_named; verified = v.1 })),
)
