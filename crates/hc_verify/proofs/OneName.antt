-- What a line or an end line names is one item or end at most.
use Rattle.std.proofs.Common.{◌≡◌, refl, sym, ap, ◌∙◌, ℕ, List, [], ◌∷◌, Option, Some, None}
use Rattle.hc_rational.specs.Words.{Rational}
use Rattle.hc_term.specs.declared.system.System.{System}
use Rattle.hc_term.specs.declared.run.Step.{Step}
use Rattle.hc_term.specs.declared.run.Step.TheVariants as step
use Rattle.hc_term.specs.declared.run.Item.{Item}
use Rattle.hc_term.specs.declared.run.Stop.{Stop}
use Rattle.hc_term.specs.declared.run.Stop.TheVariants as stop
use Rattle.hc_trace.specs.declared.traces.TraceLine.{TraceLine}
use Rattle.hc_trace.specs.declared.traces.TraceEvent.{TraceEvent}
use Rattle.hc_trace.specs.declared.traces.TraceEvent.TheVariants as event
use Rattle.hc_trace.specs.declared.traces.TraceEnd.{TraceEnd}
use Rattle.hc_trace.specs.declared.traces.EndKind.{EndKind}
use Rattle.hc_trace.specs.declared.traces.EndKind.TheVariants as kind
use Rattle.hc_order.specs.Shown.{End}
use Rattle.hc_verify.specs.Named.{HasName, IsChannelNamed, IsStepOf, IsItemOf, IsStopOf}
use Rattle.hc_verify.specs.Places.{process_from, name_from}
use Rattle.hc_verify.specs.Judging.{AreItems, IsEnd}
use Rattle.hc_verify.proofs.Named.{process_is, the_channel}
use Rattle.hc_verify.proofs.LineNamed.{only_delay, only_comm, only_log, some_is}

module _ (sys : System) where
  one_process : (name : List ℕ) (p q : ℕ) → HasName sys p name → HasName sys q name → p ≡ q
  one_process name p q h k =
      let first = process_is sys sys.processes name (process_from name 0 sys.processes) refl refl in
      some_is p q (sym ((first p).1 h) ∙ (first q).1 k)

  one_channel : (channel : List ℕ) (sender receiver : Option (List ℕ)) (c d : ℕ) → IsChannelNamed sys channel sender receiver c →
      IsChannelNamed sys channel sender receiver d → c ≡ d
  one_channel channel sender receiver c d h k =
      let first = the_channel sys channel sender receiver sys.channels refl (name_from channel 0 sys.channels) refl in
      some_is c d (sym ((first c).1 h.channel_named) ∙ (first d).1 k.channel_named)

  one_step : (e : TraceEvent) (s u : Step) → IsStepOf sys e s → IsStepOf sys e u → s ≡ u
  one_step (event.Delay by) s u h k = only_delay sys by s h ∙ sym (only_delay sys by u k)
  one_step (event.Comm channel sender receiver value) s u h k =
      let a = only_comm sys channel sender receiver value s h in
      let b = only_comm sys channel sender receiver value u k in
      a.2 ∙ ap (λ (c : ℕ). step.Comm c value) (one_channel channel sender receiver a.0 b.0 a.1 b.1) ∙ sym b.2
  one_step (event.Log process value) s u h k =
      let a = only_log sys process value s h in
      let b = only_log sys process value u k in
      a.2 ∙ ap (λ (p : ℕ). step.Silent p (Some value)) (one_process process a.0 b.0 a.1 b.1) ∙ sym b.2

  same_item : (at at' : Rational) (s u : Step) → at ≡ at' → s ≡ u →
      ◌≡◌ {A = Item} (record { at = at; step = s }) (record { at = at'; step = u })
  same_item at at' s u h k = cc

  pub one_item : (line : TraceLine) (i j : Item) → IsItemOf sys line i → IsItemOf sys line j → i ≡ j
  one_item line i j h k = same_item i.at j.at i.step j.step (sym h.at ∙ k.at) (one_step line.event i.step j.step h.step k.step)

  pub one_items : (ls : List TraceLine) (is js : List Item) → AreItems sys ls is → AreItems sys ls js → is ≡ js
  one_items [] [] [] h k = refl
  one_items [] (i ∷ is) js h k = absurd h
  one_items [] [] (j ∷ js) h k = absurd k
  one_items (l ∷ ls) [] js h k = absurd h
  one_items (l ∷ ls) (i ∷ is) [] h k = absurd k
  one_items (l ∷ ls) (i ∷ is) (j ∷ js) h k =
      ap (λ (x : Item). x ∷ is) (one_item l i j h.0 k.0) ∙ ap (λ (xs : List Item). j ∷ xs) (one_items ls is js h.1 k.1)

  -- ---- the end line

  abbrev plain : EndKind → Stop
  plain kind.Terminated = stop.Terminated
  plain kind.Deadlock = stop.Deadlock
  plain kind.Horizon = stop.Horizon
  plain kind.Limit = stop.Limit
  plain kind.Overflow = stop.Overflow None

  is_plain : (k : EndKind) (s : Stop) → IsStopOf sys k None s → s ≡ plain k
  is_plain kind.Terminated stop.Terminated h = refl
  is_plain kind.Deadlock stop.Deadlock h = refl
  is_plain kind.Horizon stop.Horizon h = refl
  is_plain kind.Limit stop.Limit h = refl
  is_plain kind.Overflow (stop.Overflow None) h = refl
  is_plain k s h = absurd h

  is_overflow : (k : EndKind) (process : List ℕ) (s : Stop) → IsStopOf sys k (Some process) s →
      (p : ℕ) × HasName sys p process × (s ≡ stop.Overflow (Some p))
  is_overflow kind.Overflow process (stop.Overflow (Some p)) h = (p, h, refl)
  is_overflow k process s h = absurd h

  one_stop : (k : EndKind) (who : Option (List ℕ)) (s u : Stop) → IsStopOf sys k who s → IsStopOf sys k who u → s ≡ u
  one_stop k None s u h i = is_plain k s h ∙ sym (is_plain k u i)
  one_stop k (Some process) s u h i =
      let a = is_overflow k process s h in
      let b = is_overflow k process u i in
      a.2 ∙ ap (λ (p : ℕ). stop.Overflow (Some p)) (one_process process a.0 b.0 a.1 b.1) ∙ sym b.2

  same_end : (at at' : Rational) (s u : Stop) → at ≡ at' → s ≡ u →
      ◌≡◌ {A = End} (record { at = at; stop = s }) (record { at = at'; stop = u })
  same_end at at' s u h k = cc

  pub one_end : (line : Option TraceEnd) (e f : Option End) → IsEnd sys line e → IsEnd sys line f → e ≡ f
  one_end None None None h k = refl
  one_end None None (Some f) h k = absurd k
  one_end None (Some e) f h k = absurd h
  one_end (Some l) None f h k = absurd h
  one_end (Some l) (Some e) None h k = absurd k
  one_end (Some l) (Some e) (Some f) h k =
      ap Some (same_end e.at f.at e.stop f.stop (sym h.at ∙ k.at) (one_stop l.kind l.who e.stop f.stop h.stop k.stop))
