-- The index of posts, of which one is replaced.
use Rattle.std.proofs.Common.{◌≡◌, ◌≢◌, ◌<◌, ◌≤◌, ℕ, suc, ◌/◌, ◌%◌, ◌^◌, Bool, true, false, not, ◌&&◌, ◌||◌, ◌==◌, if◌then◌else◌, nat_lt, List, [], ◌∷◌, length, replicate, slice_get, Some, w64, refl, sym, ap, ap₂, subst, ◌∙◌, inl, inr, arith}
use Rattle.std.specs.List.{list_any}
use Rattle.std.specs.Int.{trailing_zeros}
use Rattle.std.proofs.Math.ListN.{set, get_or}
use Rattle.std.proofs.lemmas.Bool.{both_ways, eq-eqb, ne_eqb, cases_eq, cases_lt, lt-ltb, le-ltb}
use Rattle.std.proofs.lemmas.List.{length-replicate, get_or-replicate, get_or-set_same, get_or-set_other, get_or_default, get_or_past}
use Rattle.std.proofs.lemmas.List.Folds.{list_any_at}
use Rattle.std.proofs.lemmas.Nat.Bits.{bit_at-zero}
use Rattle.std.proofs.lemmas.Option.{slice_get-get_or, slice_get_past}
use Rattle.hc_limits.specs.Limits.{most_processes, most_channels}
use Rattle.hc_term.specs.declared.post.Offer.{Offer}
use Rattle.hc_term.specs.declared.post.Post.{Post}
use Rattle.hc_term.specs.Offers.{going_post}
use Rattle.hc_term.specs.Posts.{is_timed}
use Rattle.hc_term.specs.Together.{is_offer}
use Rattle.hc_term.proofs.Places.{get-set_same, get-set_other}
use Rattle.hc_board.specs.declared.index.Index.{Index}
use Rattle.hc_board.specs.Able.{shows_step, shows_step_if, shows_able}
use Rattle.hc_board.specs.Bits.{has, IsLeast}
use Rattle.hc_board.specs.MeetingBoard.{shown}
use Rattle.hc_board.specs.Index.{offers_on, is_offered, is_waiting, row, is_marked, is_filled, IsWhole, IsMarked, IsStated, IsIndexOf}
use Rattle.hc_board.proofs.Bitwise.{lowest}

-- ---- one post is replaced

-- the marks of the state of process p are those of post q, and those of all others are as they were
pub record IsRestated (p : ℕ) (q : Post) (old new : Index) : Type 0 where
  pub waits : has new.timed p ≡ is_waiting q
  pub others_wait : (j : ℕ) → j < most_processes → j ≢ p → has new.timed j ≡ has old.timed j
  pub wants : has new.able p ≡ shows_step q
  pub others_want : (j : ℕ) → j < most_processes → j ≢ p → has new.able j ≡ has old.able j

get_set_same : (ps : List Post) (p : ℕ) (q : Post) → p < length ps → slice_get (set ps p q) p ≡ Some q
get_set_same ps p q there = get-set_same ps p (get_or ps p going_post) q (slice_get-get_or ps p going_post there)

module _ (new : Index) (ps : List Post) (p : ℕ) (q : Post) (there : p < length ps) (whole : IsWhole new) where
  -- its marks are those of the new post, and all others are as they were
  pub retold : (old : Index) → IsIndexOf old ps →
      ((sending : Bool) (c : ℕ) → c < most_channels → is_marked sending new c p ≡ offers_on sending c q) →
      ((sending : Bool) (c j : ℕ) → c < most_channels → j < most_processes → j ≢ p → is_marked sending new c j ≡ is_marked sending old c j) →
      IsRestated p q old new → IsIndexOf new (set ps p q)
  retold old t here others state = record {
    whole = whole;
    marks = λ sending c j low small. elim (cases_eq j p) [
      | inl same ↦
          subst (λ (k : ℕ). is_marked sending new c k ≡ offers_on sending c (shown (set ps p q) k)) (sym same)
          (here sending c low ∙ sym (ap (offers_on sending c) (get_or-set_same ps p q going_post there)))
      | inr apart ↦
          others sending c j low small apart ∙ t.marks sending c j low small
          ∙ sym (ap (offers_on sending c) (get_or-set_other ps p j q going_post apart))
    ];
    timed = λ j small. elim (cases_eq j p) [
      | inl same ↦
          subst (λ (k : ℕ). has new.timed k ≡ is_waiting (shown (set ps p q) k)) (sym same)
          (state.waits ∙ sym (ap is_waiting (get_or-set_same ps p q going_post there)))
      | inr apart ↦
          state.others_wait j small apart ∙ t.timed j small ∙ sym (ap is_waiting (get_or-set_other ps p j q going_post apart))
    ];
    able = λ j small. elim (cases_eq j p) [
      | inl same ↦
          subst (λ (k : ℕ). has new.able k ≡ shows_able (set ps p q) k) (sym same)
          (state.wants ∙ sym (ap shows_step_if (get_set_same ps p q there)))
      | inr apart ↦
          state.others_want j small apart ∙ t.able j small ∙ sym (ap shows_step_if (get-set_other ps p j q (λ e. apart (sym e))))
    ];
  }

-- a mark at this process, and at another
at_same : (f : Bool → ℕ → Bool) (q : ℕ) (mark : Bool) (old new : Index) → IsMarked f q mark old new → (sending : Bool) (c : ℕ) →
    c < most_channels → q < most_processes → is_marked sending new c q ≡ (if f sending c then mark else is_marked sending old c q)
at_same f q mark old new m sending c low small =
    m.marks sending c q low small
    ∙ ap (λ (b : Bool). if b && f sending c then mark else is_marked sending old c q) (eq-eqb q q refl)

at_other : (f : Bool → ℕ → Bool) (q : ℕ) (mark : Bool) (old new : Index) → IsMarked f q mark old new → (sending : Bool) (c j : ℕ) →
    c < most_channels → j < most_processes → j ≢ q → is_marked sending new c j ≡ is_marked sending old c j
at_other f q mark old new m sending c j low small apart =
    m.marks sending c j low small
    ∙ ap (λ (b : Bool). if b && f sending c then mark else is_marked sending old c j) (ne_eqb j q apart)

-- the marks of its state, and those of another
module _ (q : ℕ) (waits wants : Bool) (old new : Index) (m : IsStated q waits wants old new) where
  timed_same : q < most_processes → has new.timed q ≡ waits
  timed_same small = m.timed q small ∙ ap (λ (b : Bool). if b then waits else has old.timed q) (eq-eqb q q refl)

  timed_other : (j : ℕ) → j < most_processes → j ≢ q → has new.timed j ≡ has old.timed j
  timed_other j small apart = m.timed j small ∙ ap (λ (b : Bool). if b then waits else has old.timed j) (ne_eqb j q apart)

  able_same : q < most_processes → has new.able q ≡ wants
  able_same small = m.able q small ∙ ap (λ (b : Bool). if b then wants else has old.able q) (eq-eqb q q refl)

  able_other : (j : ℕ) → j < most_processes → j ≢ q → has new.able j ≡ has old.able j
  able_other j small apart = m.able j small ∙ ap (λ (b : Bool). if b then wants else has old.able j) (ne_eqb j q apart)

-- the state is marked, and before it only offers were
restated : (p : ℕ) (q : Post) (waits wants : Bool) (old put new : Index) → p < most_processes → put.timed ≡ old.timed → put.able ≡ old.able →
    IsStated p waits wants put new → waits ≡ is_waiting q → wants ≡ shows_step q → IsRestated p q old new
restated p q waits wants old put new small timed able m is_timed is_able = record {
  waits = timed_same p waits wants put new m small ∙ is_timed;
  others_wait = λ j less apart. timed_other p waits wants put new m j less apart ∙ ap (λ (w : ℕ). has w j) timed;
  wants = able_same p waits wants put new m small ∙ is_able;
  others_want = λ j less apart. able_other p waits wants put new m j less apart ∙ ap (λ (w : ℕ). has w j) able;
}

cleared : (b : Bool) → (if b then false else b) ≡ false
cleared true = refl
cleared false = refl

kept : (b : Bool) → (if b then true else false) ≡ b
kept true = refl
kept false = refl

module _ (ps : List Post) (p : ℕ) (there : p < length ps) (within : length ps ≤ most_processes) (old gone : Index) (t : IsIndexOf old ps)
    (away : IsMarked (λ sending c. offers_on sending c (shown ps p)) p false old gone) where
  small : p < most_processes
  small = omega (arith, there, within)

  none_left : (sending : Bool) (c : ℕ) → c < most_channels → is_marked sending gone c p ≡ false
  none_left sending c low =
      at_same (λ s k. offers_on s k (shown ps p)) p false old gone away sending c low small
      ∙ ap (λ (b : Bool). if offers_on sending c (shown ps p) then false else b) (t.marks sending c p low small)
      ∙ cleared (offers_on sending c (shown ps p))

  -- its offers are taken away, and its state is marked
  pub taken_away : (q : Post) (waits wants : Bool) (new : Index) → ((sending : Bool) (c : ℕ) → offers_on sending c q ≡ false) →
      IsStated p waits wants gone new → waits ≡ is_waiting q → wants ≡ shows_step q → IsIndexOf new (set ps p q)
  taken_away q waits wants new none m is_timed is_able =
      retold new ps p q there m.whole old t
      (λ sending c low. ap (λ (w : ℕ). has w p) (m.rows sending c) ∙ none_left sending c low ∙ sym (none sending c))
      (λ sending c j low less apart.
      ap (λ (w : ℕ). has w j) (m.rows sending c)
      ∙ at_other (λ s k. offers_on s k (shown ps p)) p false old gone away sending c j low less apart)
      (restated p q waits wants old gone new small away.timed away.able m is_timed is_able)

  -- its offers are taken away, and it is going
  pub went : (new : Index) → IsStated p false true gone new → IsIndexOf new (set ps p going_post)
  went new m = taken_away going_post false true new (λ sending c. refl) m refl refl

  -- its offers are taken away, and those of its new post put there
  pub replaced : (q : Post) (put new : Index) → IsMarked (λ sending c. offers_on sending c q) p true gone put →
      IsStated p (is_waiting q) (shows_step q) put new → IsIndexOf new (set ps p q)
  replaced q put new is_put m =
      retold new ps p q there m.whole old t
      (λ sending c low.
      ap (λ (w : ℕ). has w p) (m.rows sending c)
      ∙ at_same (λ s k. offers_on s k q) p true gone put is_put sending c low small
      ∙ ap (λ (b : Bool). if offers_on sending c q then true else b) (none_left sending c low)
      ∙ kept (offers_on sending c q))
      (λ sending c j low less apart.
      ap (λ (w : ℕ). has w j) (m.rows sending c)
      ∙ at_other (λ s k. offers_on s k q) p true gone put is_put sending c j low less apart
      ∙ at_other (λ s k. offers_on s k (shown ps p)) p false old gone away sending c j low less apart)
      (restated p q (is_waiting q) (shows_step q) old put new small (is_put.timed ∙ away.timed) (is_put.able ∙ away.able) m refl refl)

-- the same, of the parts of a call
pub replaced_by : (ps : List Post) (p : ℕ) (d q r : Post) (os qs : List Offer) (waits wants : Bool) (old gone put new : Index) → p < length ps →
    length ps ≤ most_processes → IsIndexOf old ps → os ≡ (get_or ps p d).offers → IsMarked (λ sending c. list_any (is_offer sending c) os) p false old gone →
    qs ≡ q.offers → IsMarked (λ sending c. list_any (is_offer sending c) qs) p true gone put → waits ≡ is_waiting q → wants ≡ shows_step q →
    IsStated p waits wants put new → r ≡ q → IsIndexOf new (set ps p r)
replaced_by ps p d q r os qs waits wants old gone put new there within t left away more added is_timed is_able state same =
    subst (λ (x : Post). IsIndexOf new (set ps p x)) (sym same)
    (replaced ps p there within old gone t
    (subst (λ (xs : List Offer). IsMarked (λ sending c. list_any (is_offer sending c) xs) p false old gone)
    (left ∙ ap (λ (x : Post). x.offers) (get_or_default ps p d going_post there)) away)
    q put new (subst (λ (xs : List Offer). IsMarked (λ sending c. list_any (is_offer sending c) xs) p true gone put) more added)
    (subst (λ (b : Bool). IsStated p b (shows_step q) put new) is_timed (subst (λ (b : Bool). IsStated p waits b put new) is_able state)))

pub went_by : (ps : List Post) (p : ℕ) (d r : Post) (os : List Offer) (old gone new : Index) → p < length ps → length ps ≤ most_processes →
    IsIndexOf old ps → os ≡ (get_or ps p d).offers → IsMarked (λ sending c. list_any (is_offer sending c) os) p false old gone →
    IsStated p false true gone new → r ≡ going_post → IsIndexOf new (set ps p r)
went_by ps p d r os old gone new there within t left away state same =
    subst (λ (x : Post). IsIndexOf new (set ps p x)) (sym same)
    (went ps p there within old gone t
    (subst (λ (xs : List Offer). IsMarked (λ sending c. list_any (is_offer sending c) xs) p false old gone)
    (left ∙ ap (λ (x : Post). x.offers) (get_or_default ps p d going_post there)) away)
    new state)

-- it offers what it offered, and its state is marked
pub still_told : (o new : Index) (ps : List Post) (p : ℕ) (q : Post) (waits wants : Bool) → p < length ps → length ps ≤ most_processes →
    IsIndexOf o ps → IsStated p waits wants o new → ((sending : Bool) (c : ℕ) → offers_on sending c q ≡ offers_on sending c (shown ps p)) →
    waits ≡ is_waiting q → wants ≡ shows_step q → IsIndexOf new (set ps p q)
still_told o new ps p q waits wants there within t m same is_timed is_able =
    let small : p < most_processes = omega (arith, there, within) in
    retold new ps p q there m.whole o t
    (λ sending c low. ap (λ (w : ℕ). has w p) (m.rows sending c) ∙ t.marks sending c p low small ∙ sym (same sending c))
    (λ sending c j low less apart. ap (λ (w : ℕ). has w j) (m.rows sending c))
    (restated p q waits wants o o new small refl refl m is_timed is_able)

-- ---- what a word tells of the posts

none_any : {X : Type 0} (f : X → Bool) (d : X) (xs : List X) → ((i : ℕ) → i < length xs → f (get_or xs i d) ≡ false) → list_any f xs ≡ false
none_any f d [] h = refl
none_any f d (x ∷ xs) h =
    ap₂ (λ a b. a || b) (h 0 (omega arith)) (none_any f d xs (λ i low. h (suc i) (omega (arith, low))))

-- a word with a bit for each post of which f tells, where f doesn't tell of a going process
module _ (word : ℕ) (f : Post → Bool) (quiet : f going_post ≡ false) (ps : List Post) (within : length ps ≤ most_processes)
    (bits : (p : ℕ) → p < most_processes → has word p ≡ f (shown ps p)) where
  is_there : (p : ℕ) → f (shown ps p) ≡ true → p < length ps
  is_there p e =
      elim (cases_lt p (length ps)) [
        | inl less ↦ less
        | inr past ↦ absurd (both_ways (f (shown ps p)) (ap f (get_or_past ps p going_post past) ∙ quiet) e)
      ]

  least_is : (p : ℕ) → IsLeast 64 (has word) p → f (shown ps p) ≡ true
  least_is p l = let h = l.there in sym (bits p h) ∙ l.member

  empty_none : word ≡ 0 → list_any f ps ≡ false
  empty_none e =
      none_any f going_post ps
      (λ p less. sym (bits p (omega (arith, less, within))) ∙ ap (λ (w : ℕ). has w p) e ∙ ap (λ (n : ℕ). n == 1) (bit_at-zero p))

  filled_any : word < 2 ^ 64 → word ≢ 0 → list_any f ps ≡ true
  filled_any fits some =
      let p = trailing_zeros w64 word in
      let e = least_is p (lowest word some fits) in
      list_any_at f ps p going_post (is_there p e) e

  pub word_any : word < 2 ^ 64 → is_filled word ≡ list_any f ps
  word_any fits =
      elim (cases_eq word 0) [
        | inl e ↦ ap not (eq-eqb word 0 e) ∙ sym (empty_none e)
        | inr some ↦ ap not (ne_eqb word 0 some) ∙ sym (filled_any fits some)
      ]

module _ (o : Index) (ps : List Post) (t : IsIndexOf o ps) (within : length ps ≤ most_processes) where
  -- whether some post waits for time
  pub timed_any : is_filled o.timed ≡ is_timed ps
  timed_any = word_any o.timed is_waiting refl ps within t.timed t.whole.timed

  module _ (sending : Bool) (c : ℕ) (low : c < most_channels) where
    marks : (p : ℕ) → p < most_processes → has (row sending o c) p ≡ offers_on sending c (shown ps p)
    marks p small = t.marks sending c p low small

    -- a process with an offer has a post
    pub offers_there : (p : ℕ) → offers_on sending c (shown ps p) ≡ true → p < length ps
    offers_there = is_there (row sending o c) (offers_on sending c) refl ps within marks

    -- the least process with an offer
    pub least_there : (p : ℕ) → IsLeast 64 (has (row sending o c)) p → offers_on sending c (shown ps p) ≡ true
    least_there = least_is (row sending o c) (offers_on sending c) refl ps within marks

    pub none_before : (p : ℕ) → IsLeast 64 (has (row sending o c)) p → (i : ℕ) → i < p → offers_on sending c (shown ps i) ≡ false
    none_before p l i less = let h = l.there in sym (t.marks sending c i low (omega (arith, h, less))) ∙ l.first i less

    pub row_offered : is_filled (row sending o c) ≡ is_offered sending c ps
    row_offered = word_any (row sending o c) (offers_on sending c) refl ps within marks (t.whole.bits sending c)

-- ---- an index without marks

pub always : {X : Type 0} (n i : ℕ) (d : X) → get_or (replicate n d) i d ≡ d
always n i d =
    elim (cases_lt i n) [
      | inl low ↦ get_or-replicate n i d d low
      | inr past ↦ get_or_past (replicate n d) i d (rw (length-replicate n d) past)
    ]

module _ (able : ℕ) where
  abbrev pub empty_index : Index
  empty_index = record { senders = replicate most_channels 0; receivers = replicate most_channels 0; ready = replicate 4 0; timed = 0; able = able }

  empty_word : (n i : ℕ) (p : ℕ) → has (get_or (replicate n 0) i 0) p ≡ false
  empty_word n i p = ap (λ (w : ℕ). has w p) (always n i 0) ∙ ap (λ (b : ℕ). b == 1) (bit_at-zero p)

  nothing_row : (sending : Bool) (c : ℕ) → row sending empty_index c ≡ 0
  nothing_row true c = always most_channels c 0
  nothing_row false c = always most_channels c 0

  nothing_marked_there : (sending : Bool) (c p : ℕ) → is_marked sending empty_index c p ≡ false
  nothing_marked_there sending c p = ap (λ (w : ℕ). has w p) (nothing_row sending c) ∙ ap (λ (b : ℕ). b == 1) (bit_at-zero p)

  nothing_whole : IsWhole empty_index
  nothing_whole = record {
    senders = length-replicate {A = ℕ} most_channels 0;
    receivers = length-replicate {A = ℕ} most_channels 0;
    bits = λ sending c. let e = nothing_row sending c in omega (arith, e);
    words = length-replicate {A = ℕ} 4 0;
    ready = λ c low.
        empty_word 4 (c / 64) (c % 64) ∙ sym (ap (λ (w : ℕ). is_filled w && is_filled (row false empty_index c)) (nothing_row true c));
    timed = omega arith;
  }

module _ (a b r : List ℕ) (able : ℕ) (sends : a ≡ replicate most_channels 0) (receives : b ≡ replicate most_channels 0) (ready : r ≡ replicate 4 0) where
  abbrev pub made : Index
  made = record { senders = a; receivers = b; ready = r; timed = 0; able = able }

  is_nothing : made ≡ empty_index able
  is_nothing = cc

  pub nothing_made : IsWhole made
  nothing_made = subst (λ (o : Index). IsWhole o) (sym is_nothing) (nothing_whole able)

  pub nothing_marked_in : (sending : Bool) (c p : ℕ) → is_marked sending made c p ≡ false
  nothing_marked_in sending c p = ap (λ (o : Index). is_marked sending o c p) is_nothing ∙ nothing_marked_there able sending c p

-- each of so many going processes wants a silent step
going_able : (n p : ℕ) → shows_able (replicate n going_post) p ≡ nat_lt p n
going_able n p =
    elim (cases_lt p n) [
      | inl low ↦
          let there : p < length (replicate n going_post) = omega (arith, low, length-replicate {A = Post} n going_post) in
          ap shows_step_if (slice_get-get_or (replicate n going_post) p going_post there)
          ∙ ap shows_step (always n p going_post) ∙ sym (lt-ltb p n low)
      | inr past ↦
          let long : length (replicate n going_post) ≤ p = omega (arith, past, length-replicate {A = Post} n going_post) in
          ap shows_step_if (slice_get_past (replicate n going_post) p long) ∙ sym (le-ltb p n past)
    ]

-- they are those of going processes
pub going_told : (o : Index) (n : ℕ) → IsWhole o → ((sending : Bool) (c p : ℕ) → c < most_channels → is_marked sending o c p ≡ false) →
    ((p : ℕ) → has o.timed p ≡ false) → ((p : ℕ) → p < most_processes → has o.able p ≡ nat_lt p n) → IsIndexOf o (replicate n going_post)
going_told o n whole none untimed able = record {
  whole = whole;
  marks = λ sending c p low small. none sending c p low ∙ sym (ap (offers_on sending c) (always n p going_post));
  timed = λ p small. untimed p ∙ sym (ap is_waiting (always n p going_post));
  able = λ p small. able p small ∙ sym (going_able n p);
}
