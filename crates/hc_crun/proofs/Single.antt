-- Single items: which one a word draws, what it prints, and how a schedule ends at it.
use Rattle.std.proofs.Common.{◌≡◌, ◌⊎◌, inl, inr, refl, sym, ap, subst, ◌∙◌, ℕ, ◌/◌, ◌%◌, ◌==◌, ◌&&◌, Bool, true, false, if◌then◌else◌, List, [], ◌∷◌, ◌++◌, slice_get, Option, Some, append_assoc}
use Rattle.std.proofs.lemmas.List.{append-nil}
use Rattle.hc_schedule.specs.Sections.{Item, Step, Wake}
use Rattle.hc_schedule.specs.Threads.{World, Act, Goes, Locks, Unlocks, Waits, Wakes, Works, Prints, Retakes, Blocked, Over, Undefined, Takes, answer, is_waiting}
use Rattle.hc_schedule.specs.Schedule.{after}
use Rattle.hc_cast.specs.declared.program.CProgram.{CProgram}
use Rattle.hc_cmach.specs.declared.kind.Kind.{Kind}
use Rattle.hc_cmach.specs.declared.moved.Moved.{Moved}
use Rattle.hc_cmach.specs.declared.moved.Moved.TheVariants as said
use Rattle.hc_cmach.specs.declared.exec_end.ExecEnd.{ExecEnd}
use Rattle.hc_cmach.specs.State.{Own, Shared, Fault}
use Rattle.hc_cmach.specs.Line.{Line, line_text, lines_text, header, first_end}
use Rattle.hc_cmach.specs.Turn.{c_code}
use Rattle.hc_cmach.specs.Machine.{CState, CAnswer, stepped, printed_by, said_by, kind_by}
use Rattle.hc_cmach.specs.Seeded.{drawn, item_kind}
use Rattle.hc_cexec.specs.Stands.{last_text}
use Rattle.hc_crun.specs.Items.{item_said, line_said, kind_said, item_text, end_by, item_end}

-- ---- which item a word draws

both_hold : (a b : Bool) (i j : Item) → a ≡ true → b ≡ true → (if a && b then i else j) ≡ i
both_hold true true i j h k = refl
both_hold true false i j h k = absurd cc
both_hold false b i j h k = absurd cc

one_fails : (a b : Bool) (i j : Item) → (b ≡ false) ⊎ (a ≡ false) → (if a && b then i else j) ≡ j
one_fails true true i j (inl h) = absurd cc
one_fails true true i j (inr h) = absurd cc
one_fails true false i j h = refl
one_fails false b i j h = refl

-- what is drawn of so many threads
abbrev pub drew : ℕ → ℕ → ℕ × Bool
drew w n = (w % n, (w / n) % 8 == 0)

pub draws_wake : (s : CState) (n k w : ℕ) (d : ℕ × Bool) → n ≡ k → d ≡ drew w n → d.1 ≡ true →
    is_waiting (slice_get s.world.threads d.0) ≡ true → drawn s k w ≡ Wake d.0
draws_wake s n k w d same is wakes waits =
    let at : d ≡ drew w k = is ∙ ap (drew w) same in
    let first = ap (λ (x : ℕ × Bool). x.0) at in
    both_hold (is_waiting (slice_get s.world.threads (w % k))) ((w / k) % 8 == 0) (Wake (w % k)) (Step (w % k))
    (ap (λ (t : ℕ). is_waiting (slice_get s.world.threads t)) (sym first) ∙ waits) (ap (λ (x : ℕ × Bool). x.1) (sym at) ∙ wakes)
    ∙ ap Wake (sym first)

pub draws_step : (s : CState) (n k w : ℕ) (d : ℕ × Bool) → n ≡ k → d ≡ drew w n →
    (d.1 ≡ false) ⊎ (is_waiting (slice_get s.world.threads d.0) ≡ false) → drawn s k w ≡ Step d.0
draws_step s n k w d same is fails =
    let at : d ≡ drew w k = is ∙ ap (drew w) same in
    let first = ap (λ (x : ℕ × Bool). x.0) at in
    let P : ℕ × Bool → Type 0 = λ x. (x.1 ≡ false) ⊎ (is_waiting (slice_get s.world.threads x.0) ≡ false) in
    one_fails (is_waiting (slice_get s.world.threads (w % k))) ((w / k) % 8 == 0) (Wake (w % k)) (Step (w % k)) (subst P at fails)
    ∙ ap Step (sym first)

-- ---- how a schedule ends at an item

act_kind : (w : World Own Shared) (a : Act Own Shared Line) → kind_by w (Takes a) ≡ kind_said (said_by w (Takes a))
act_kind w (Prints own l) = refl
act_kind w (Goes own) = refl
act_kind w (Locks own) = refl
act_kind w (Unlocks own) = refl
act_kind w (Waits k own) = refl
act_kind w (Wakes k own) = refl
act_kind w (Works own m) = refl
act_kind w (Retakes own) = refl

answer_kind : (w : World Own Shared) (x : CAnswer) → kind_by w x ≡ kind_said (said_by w x)
answer_kind w (Takes a) = act_kind w a
answer_kind w Blocked = refl
answer_kind w Over = refl
answer_kind w (Undefined f) = refl

said_kind : (g : CProgram) (s : CState) (i : Item) → item_kind g s i ≡ kind_said (item_said g s i)
said_kind g s (Step t) = answer_kind s.world (answer (c_code g) s.world t)
said_kind g s (Wake t) = refl

-- how a schedule ends, by what the item is said to come to and by the first end line
pub ends_by : (g : CProgram) (s : CState) (i : Item) (n : ℕ) (m : Moved) (ended : Option ℕ) (end : Option ExecEnd) → m ≡ item_said g s i →
    ended ≡ first_end (stepped g s i).lines → end ≡ end_by n (kind_said m) ended → end ≡ item_end g s i n
ends_by g s i n m ended end is line by =
    by ∙ ap (λ (y : Option ℕ). end_by n (kind_said m) y) line
    ∙ ap (λ (x : Option Kind). end_by n x (first_end (stepped g s i).lines)) (ap kind_said is ∙ sym (said_kind g s i))

-- ---- what an item prints

module _ (g : CProgram) where
  lines_both : (xs ys : List (ℕ × Line)) → lines_text g (xs ++ ys) ≡ lines_text g xs ++ lines_text g ys
  lines_both [] ys = refl
  lines_both (x ∷ xs) ys =
      ap (λ (bytes : List ℕ). line_text g x.1 ++ bytes) (lines_both xs ys) ∙ sym (append_assoc (line_text g x.1) (lines_text g xs) (lines_text g ys))

  last_is : (xs : List (ℕ × Line)) (l : ℕ × Line) → last_text g (xs ++ l ∷ []) ≡ line_text g l.1
  last_is [] l = refl
  last_is (x ∷ []) l = refl
  last_is (x ∷ y ∷ xs) l = last_is (y ∷ xs) l

  line_more : (xs : List (ℕ × Line)) (l : ℕ × Line) → lines_text g (xs ++ l ∷ []) ≡ lines_text g xs ++ last_text g (xs ++ l ∷ [])
  line_more xs l =
      lines_both xs (l ∷ [])
      ∙ ap (λ (bytes : List ℕ). lines_text g xs ++ bytes) (append-nil (line_text g l.1) ∙ sym (last_is xs l))

  abbrev Grows : CState → CState → Moved → Type 0
  Grows s u m = lines_text g u.lines ≡ lines_text g s.lines ++ line_said m (last_text g u.lines)

  same_lines : (s : CState) → lines_text g s.lines ≡ lines_text g s.lines ++ []
  same_lines s = sym (append-nil (lines_text g s.lines))

  act_grows : (s : CState) (t : ℕ) (a : Act Own Shared Line) → Grows s (after {F = Fault} s t (Takes a)) (said_by s.world (Takes a))
  act_grows s t (Prints own l) = line_more s.lines (t, l)
  act_grows s t (Goes own) = same_lines s
  act_grows s t (Locks own) = same_lines s
  act_grows s t (Unlocks own) = same_lines s
  act_grows s t (Waits k own) = same_lines s
  act_grows s t (Wakes k own) = same_lines s
  act_grows s t (Works own m) = same_lines s
  act_grows s t (Retakes own) = same_lines s

  answer_grows : (s : CState) (t : ℕ) (x : CAnswer) → Grows s (after s t x) (said_by s.world x)
  answer_grows s t (Takes a) = act_grows s t a
  answer_grows s t Blocked = same_lines s
  answer_grows s t Over = same_lines s
  answer_grows s t (Undefined f) = same_lines s

  text_grows : (s : CState) (i : Item) → lines_text g (stepped g s i).lines ≡ lines_text g s.lines ++ item_text g s i
  text_grows s (Step t) = answer_grows s t (answer (c_code g) s.world t)
  text_grows s (Wake t) = same_lines s

  -- what stands behind an item is what stood before it, and its line
  pub prints_more : (s : CState) (i : Item) → printed_by g (stepped g s i) ≡ printed_by g s ++ item_text g s i
  prints_more s i =
      ap (λ (bytes : List ℕ). header ++ bytes) (text_grows s i) ∙ sym (append_assoc header (lines_text g s.lines) (item_text g s i))

  -- ---- undefined items

  kind_stays : (s : CState) (t : ℕ) (x : CAnswer) (kind : Kind) → kind_by s.world x ≡ Some kind → after s t x ≡ s
  kind_stays s t (Takes a) kind h = absurd cc
  kind_stays s t Blocked kind h = absurd cc
  kind_stays s t Over kind h = absurd cc
  kind_stays s t (Undefined f) kind h = refl

  pub undefined_stays : (s : CState) (i : Item) (kind : Kind) → item_kind g s i ≡ Some kind → stepped g s i ≡ s
  undefined_stays s (Step t) kind h = kind_stays s t (answer (c_code g) s.world t) kind h
  undefined_stays s (Wake t) kind h = absurd cc

  said_nothing : (m : Moved) (kind : Kind) (line : List ℕ) → kind_said m ≡ Some kind → line_said m line ≡ []
  said_nothing (said.Undefined k) kind line h = refl
  said_nothing said.Moved kind line h = absurd cc
  said_nothing said.Printed kind line h = absurd cc
  said_nothing said.Blocked kind line h = absurd cc
  said_nothing said.Over kind line h = absurd cc

  pub undefined_prints_nothing : (s : CState) (i : Item) (kind : Kind) → item_kind g s i ≡ Some kind → item_text g s i ≡ []
  undefined_prints_nothing s i kind h =
      said_nothing (item_said g s i) kind (last_text g (stepped g s i).lines) (sym (said_kind g s i) ∙ h)
