-- A schedule that is left at its end: what one item is of it, and how its text begins.
use Rattle.std.proofs.Common.{◌≡◌, refl, sym, ap, ◌∙◌, ℕ, suc, List, [], ◌∷◌, ◌++◌, Option, Some, None, append_assoc}
use Rattle.std.proofs.lemmas.List.{append-nil}
use Rattle.hc_schedule.specs.Sections.{Item}
use Rattle.hc_cast.specs.declared.program.CProgram.{CProgram}
use Rattle.hc_cmach.specs.declared.kind.Kind.{Kind}
use Rattle.hc_cmach.specs.declared.exec_end.ExecEnd.{ExecEnd}
use Rattle.hc_cmach.specs.declared.exec_end.ExecEnd.TheVariants.{Ended, Undefined}
use Rattle.hc_cmach.specs.Line.{first_end}
use Rattle.hc_cmach.specs.Machine.{CState, stepped, printed_by}
use Rattle.hc_cmach.specs.Seeded.{Performed, ends_with, item_kind, performed_at, performed_from}
use Rattle.hc_crun.specs.Items.{item_text, end_by, item_end}
use Rattle.hc_crun.proofs.Single.{prints_more, undefined_stays, undefined_prints_nothing}

module _ (g : CProgram) where
  -- ---- where it goes on, and where it ends

  goes_on : (k : ℕ) (s : CState) (x : Option Kind) (y : Option ℕ) (t : CState) (rest : Performed) → end_by (suc k) x y ≡ None →
      performed_at g k s x y t rest ≡ rest
  goes_on k s (Some kind) y t rest h = absurd cc
  goes_on k s None (Some end) t rest h = absurd cc
  goes_on k s None None t rest h = refl

  ends : (k : ℕ) (s : CState) (x : Option Kind) (y : Option ℕ) (t : CState) (rest : Performed) (end : ExecEnd) → ((kind : Kind) → x ≡ Some kind → t ≡ s) →
      end_by (suc k) x y ≡ Some end → performed_at g k s x y t rest ≡ ends_with end t
  ends k s (Some kind) y t rest end stays h =
      let same : Undefined kind (suc k) ≡ end = cc in
      ap (λ (u : CState). ends_with (Undefined kind (suc k)) u) (sym (stays kind refl)) ∙ ap (λ (e : ExecEnd). ends_with e t) same
  ends k s None (Some n) t rest end stays h = let same : Ended n ≡ end = cc in ap (λ (e : ExecEnd). ends_with e t) same
  ends k s None None t rest end stays h = absurd cc

  pub performed_next : (s : CState) (k : ℕ) (i : Item) (w : List Item) → item_end g s i (suc k) ≡ None →
      performed_from g s k (i ∷ w) ≡ performed_from g (stepped g s i) (suc k) w
  performed_next s k i w h =
      goes_on k s (item_kind g s i) (first_end (stepped g s i).lines) (stepped g s i) (performed_from g (stepped g s i) (suc k) w) h

  pub performed_last : (s : CState) (k : ℕ) (i : Item) (w : List Item) (end : ExecEnd) → item_end g s i (suc k) ≡ Some end →
      performed_from g s k (i ∷ w) ≡ ends_with end (stepped g s i)
  performed_last s k i w end h =
      ends k s (item_kind g s i) (first_end (stepped g s i).lines) (stepped g s i) (performed_from g (stepped g s i) (suc k) w) end
      (λ kind is. undefined_stays g s i kind is) h

  -- ---- its text

  -- the text of a state begins with these bytes
  abbrev Begins : List ℕ → CState → Type 0
  Begins bytes u = (rest : List ℕ) × (printed_by g u ≡ bytes ++ rest)

  same_text : (s : CState) (more : List ℕ) → more ≡ [] → Begins (printed_by g s ++ more) s
  same_text s more none =
      ([], sym (append-nil (printed_by g s ++ more) ∙ ap (λ (bytes : List ℕ). printed_by g s ++ bytes) none ∙ append-nil (printed_by g s)))

  text_at : (k : ℕ) (s : CState) (i : Item) (x : Option Kind) (y : Option ℕ) (rest : Performed) → item_kind g s i ≡ x →
      Begins (printed_by g (stepped g s i)) rest.state →
      Begins (printed_by g s ++ item_text g s i) (performed_at g k s x y (stepped g s i) rest).state
  text_at k s i (Some kind) y rest is b = same_text s (item_text g s i) (undefined_prints_nothing g s i kind is)
  text_at k s i None (Some end) rest is b = ([], prints_more g s i ∙ sym (append-nil (printed_by g s ++ item_text g s i)))
  text_at k s i None None rest is b = (b.0, b.1 ∙ ap (λ (bytes : List ℕ). bytes ++ b.0) (prints_more g s i))

  -- it begins with what stands so far
  pub text_begins : (s : CState) (k : ℕ) (w : List Item) → Begins (printed_by g s) (performed_from g s k w).state
  text_begins s k [] = ([], sym (append-nil (printed_by g s)))
  text_begins s k (i ∷ w) =
      let b = text_at k s i (item_kind g s i) (first_end (stepped g s i).lines) (performed_from g (stepped g s i) (suc k) w) refl
      (text_begins (stepped g s i) (suc k) w) in
      (item_text g s i ++ b.0, b.1 ∙ append_assoc (printed_by g s) (item_text g s i) b.0)

  -- and with the line of the next item behind it
  pub text_goes_on : (s : CState) (k : ℕ) (i : Item) (w : List Item) →
      Begins (printed_by g s ++ item_text g s i) (performed_from g s k (i ∷ w)).state
  text_goes_on s k i w =
      text_at k s i (item_kind g s i) (first_end (stepped g s i).lines) (performed_from g (stepped g s i) (suc k) w) refl
      (text_begins (stepped g s i) (suc k) w)
