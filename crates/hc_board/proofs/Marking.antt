-- What the index is after a mark is set.
use Rattle.std.proofs.Common.{◌≡◌, ◌≢◌, ◌<◌, ℕ, ◌^◌, Bool, true, false, not, ◌&&◌, ◌||◌, ◌==◌, if◌then◌else◌, List, [], ◌∷◌, length, Some, None, is_some, refl, sym, ap, subst, ◌∙◌, inl, inr, arith}
use Rattle.std.specs.List.{list_any}
use Rattle.std.proofs.Math.ListN.{set}
use Rattle.std.proofs.lemmas.Bool.{eq-eqb, ne_eqb, cases_eq}
use Rattle.std.proofs.lemmas.List.{length-set, get_or-set_same, get_or-set_other}
use Rattle.hc_limits.specs.Limits.{most_processes, most_channels}
use Rattle.hc_rational.specs.Words.{Rational}
use Rattle.hc_term.specs.declared.post.Offer.{Offer}
use Rattle.hc_term.specs.declared.post.Offer.TheVariants.{Send, Receive}
use Rattle.hc_term.specs.Together.{is_offer}
use Rattle.hc_board.specs.declared.index.Index.{Index}
use Rattle.hc_board.specs.Bits.{has, is_in}
use Rattle.hc_board.specs.Index.{row, is_marked, is_filled, has_both, IsWhole, IsMarked, IsStated}

-- ---- a choice that is settled

pub taken : {A : Type 0} (b : Bool) (x y : A) → (if b && true then x else y) ≡ (if b then x else y)
taken true x y = refl
taken false x y = refl

pub passed : {A : Type 0} (b : Bool) (x y : A) → (if b && false then x else y) ≡ y
passed true x y = refl
passed false x y = refl

-- ---- one row

-- the tables with this word on one end of a channel
abbrev pub with_row : Bool → Index → ℕ → ℕ → List ℕ → Index
with_row true o at w ready = record o { senders = set o.senders at w; ready = ready }
with_row false o at w ready = record o { receivers = set o.receivers at w; ready = ready }

-- whether both ends are marked then
abbrev pub both_with : Bool → Index → ℕ → ℕ → Bool
both_with true o at w = is_filled w && is_filled (row false o at)
both_with false o at w = is_filled (row true o at) && is_filled w

-- whether it is this end
abbrev pub is_side : Bool → Bool → Bool
is_side true sending = sending
is_side false sending = not sending

abbrev pub is_end : Bool → ℕ → Bool → ℕ → Bool
is_end side at sending c = is_side side sending && (at == c)

row_same : (side : Bool) (o : Index) (at w : ℕ) (ready : List ℕ) → IsWhole o → at < most_channels → row side (with_row side o at w ready) at ≡ w
row_same true o at w ready h low = let n = h.senders in get_or-set_same o.senders at w 0 (omega (arith, n, low))
row_same false o at w ready h low = let n = h.receivers in get_or-set_same o.receivers at w 0 (omega (arith, n, low))

row_other : (side sending : Bool) (o : Index) (at c w : ℕ) (ready : List ℕ) → c ≢ at → row sending (with_row side o at w ready) c ≡ row sending o c
row_other true true o at c w ready d = get_or-set_other o.senders at c w 0 d
row_other true false o at c w ready d = refl
row_other false true o at c w ready d = refl
row_other false false o at c w ready d = get_or-set_other o.receivers at c w 0 d

both_same : (side : Bool) (o : Index) (at w : ℕ) (ready : List ℕ) → IsWhole o → at < most_channels →
    has_both (with_row side o at w ready) at ≡ both_with side o at w
both_same true o at w ready h low = ap (λ n. is_filled n && is_filled (row false o at)) (row_same true o at w ready h low)
both_same false o at w ready h low = ap (λ n. is_filled (row true o at) && is_filled n) (row_same false o at w ready h low)

-- the marks on this channel, of which one end has the new word
marks_same : (side sending : Bool) (o : Index) (at w q p : ℕ) (mark : Bool) (ready : List ℕ) → IsWhole o → at < most_channels →
    has w p ≡ (if p == q then mark else has (row side o at) p) →
    is_marked sending (with_row side o at w ready) at p ≡ (if (p == q) && is_side side sending then mark else is_marked sending o at p)
marks_same true true o at w q p mark ready h low e =
    ap (λ n. has n p) (row_same true o at w ready h low) ∙ e ∙ sym (taken (p == q) mark (has (row true o at) p))
marks_same true false o at w q p mark ready h low e = sym (passed (p == q) mark (has (row false o at) p))
marks_same false true o at w q p mark ready h low e = sym (passed (p == q) mark (has (row true o at) p))
marks_same false false o at w q p mark ready h low e =
    ap (λ n. has n p) (row_same false o at w ready h low) ∙ e ∙ sym (taken (p == q) mark (has (row false o at) p))

and_true : (b : Bool) → (b && true) ≡ b
and_true true = refl
and_true false = refl

and_false : (b : Bool) → (b && false) ≡ false
and_false true = refl
and_false false = refl

lengths : (side : Bool) (o : Index) (at w : ℕ) (ready : List ℕ) → IsWhole o →
    (length (with_row side o at w ready).senders ≡ most_channels) × (length (with_row side o at w ready).receivers ≡ most_channels)
lengths true o at w ready h = (length-set o.senders at w ∙ h.senders, h.receivers)
lengths false o at w ready h = (h.senders, length-set o.receivers at w ∙ h.receivers)

bits_same : (side sending : Bool) (o : Index) (at w : ℕ) (ready : List ℕ) → IsWhole o → at < most_channels → w < 2 ^ 64 →
    row sending (with_row side o at w ready) at < 2 ^ 64
bits_same true true o at w ready h low fits = subst (λ (n : ℕ). n < 2 ^ 64) (sym (row_same true o at w ready h low)) fits
bits_same true false o at w ready h low fits = h.bits false at
bits_same false true o at w ready h low fits = h.bits true at
bits_same false false o at w ready h low fits = subst (λ (n : ℕ). n < 2 ^ 64) (sym (row_same false o at w ready h low)) fits

same_timed : (side : Bool) (o : Index) (at w : ℕ) (ready : List ℕ) → (with_row side o at w ready).timed ≡ o.timed
same_timed true o at w ready = refl
same_timed false o at w ready = refl

same_able : (side : Bool) (o : Index) (at w : ℕ) (ready : List ℕ) → (with_row side o at w ready).able ≡ o.able
same_able true o at w ready = refl
same_able false o at w ready = refl

same_ready : (side : Bool) (o : Index) (at w : ℕ) (ready : List ℕ) → (with_row side o at w ready).ready ≡ ready
same_ready true o at w ready = refl
same_ready false o at w ready = refl

module _ (side : Bool) (o : Index) (at q w : ℕ) (mark : Bool) (ready : List ℕ) (h : IsWhole o) (low : at < most_channels) (fits : w < 2 ^ 64)
    (word : (i : ℕ) → i < 64 → has w i ≡ (if i == q then mark else has (row side o at) i)) (words : length ready ≡ 4)
    (members : (i : ℕ) → i < most_channels → is_in ready i ≡ (if i == at then both_with side o at w else is_in o.ready i)) where
  ready_is : (c : ℕ) → c < most_channels → is_in ready c ≡ has_both (with_row side o at w ready) c
  ready_is c within =
      elim (cases_eq c at) [
        | inl same ↦
            members c within ∙ ap (λ (b : Bool). if b then both_with side o at w else is_in o.ready c) (eq-eqb c at same)
            ∙ sym (ap (has_both (with_row side o at w ready)) same ∙ both_same side o at w ready h low)
        | inr apart ↦
            members c within ∙ ap (λ (b : Bool). if b then both_with side o at w else is_in o.ready c) (ne_eqb c at apart)
            ∙ h.ready c within
            ∙ sym (ap (λ n. is_filled n && is_filled (row false (with_row side o at w ready) c)) (row_other side true o at c w ready apart)
            ∙ ap (λ n. is_filled (row true o c) && is_filled n) (row_other side false o at c w ready apart))
      ]

  bits_are : (sending : Bool) (c : ℕ) → row sending (with_row side o at w ready) c < 2 ^ 64
  bits_are sending c =
      elim (cases_eq c at) [
        | inl same ↦ subst (λ (k : ℕ). row sending (with_row side o at w ready) k < 2 ^ 64) (sym same) (bits_same side sending o at w ready h low fits)
        | inr apart ↦ subst (λ (n : ℕ). n < 2 ^ 64) (sym (row_other side sending o at c w ready apart)) (h.bits sending c)
      ]

  marks_are : (sending : Bool) (c p : ℕ) → c < most_channels → p < most_processes →
      is_marked sending (with_row side o at w ready) c p ≡ (if (p == q) && is_end side at sending c then mark else is_marked sending o c p)
  marks_are sending c p within small =
      elim (cases_eq c at) [
        | inl same ↦
            ap (λ (k : ℕ). is_marked sending (with_row side o at w ready) k p) same
            ∙ marks_same side sending o at w q p mark ready h low (word p small)
            ∙ ap (λ (k : ℕ). if (p == q) && is_side side sending then mark else is_marked sending o k p) (sym same)
            ∙ ap (λ (b : Bool). if (p == q) && b then mark else is_marked sending o c p)
            (sym (ap (λ (b : Bool). is_side side sending && b) (eq-eqb at c (sym same)) ∙ and_true (is_side side sending)))
        | inr apart ↦
            ap (λ n. has n p) (row_other side sending o at c w ready apart)
            ∙ sym (passed (p == q) mark (is_marked sending o c p))
            ∙ ap (λ (b : Bool). if (p == q) && b then mark else is_marked sending o c p)
            (sym (ap (λ (b : Bool). is_side side sending && b) (ne_eqb at c (λ e. apart (sym e))) ∙ and_false (is_side side sending)))
      ]

  ready_field : (with_row side o at w ready).ready ≡ ready
  ready_field = same_ready side o at w ready

  pub row_marked : IsMarked (is_end side at) q mark o (with_row side o at w ready)
  row_marked = record {
    whole = record {
      senders = (lengths side o at w ready h).0;
      receivers = (lengths side o at w ready h).1;
      bits = bits_are;
      words = ap length ready_field ∙ words;
      ready = λ c within. ap (λ (r : List ℕ). is_in r c) ready_field ∙ ready_is c within;
      timed = subst (λ (n : ℕ). n < 2 ^ 64) (sym (same_timed side o at w ready)) h.timed;
    };
    marks = marks_are;
    timed = same_timed side o at w ready;
    able = same_able side o at w ready;
  }

-- past the last channel nothing is marked
past : (side sending : Bool) (at c : ℕ) → ¬ (at < most_channels) → c < most_channels → is_end side at sending c ≡ false
past side sending at c n low =
    ap (λ (b : Bool). is_side side sending && b) (ne_eqb at c (λ e. n (subst (λ (k : ℕ). k < most_channels) (sym e) low))) ∙ and_false (is_side side sending)

pub nothing_marked : (side : Bool) (o : Index) (at q : ℕ) (mark : Bool) → IsWhole o → ¬ (at < most_channels) → IsMarked (is_end side at) q mark o o
nothing_marked side o at q mark h n = record {
  whole = h;
  marks = λ sending c p low small.
      sym (ap (λ (b : Bool). if (p == q) && b then mark else is_marked sending o c p) (past side sending at c n low)
      ∙ passed (p == q) mark (is_marked sending o c p));
  timed = refl;
  able = refl;
}

-- ---- one offer

some_if : (b : Bool) (v : Rational) → b ≡ is_some (if b then Some v else None)
some_if true v = refl
some_if false v = refl

sends_there : (at : ℕ) (v slope : Rational) (sending : Bool) (c : ℕ) → is_end true at sending c ≡ is_offer sending c (Send at v slope)
sends_there at v slope true c = some_if (at == c) v
sends_there at v slope false c = refl

receives_there : (at : ℕ) (sending : Bool) (c : ℕ) → is_end false at sending c ≡ is_offer sending c (Receive at)
receives_there at true c = refl
receives_there at false c = refl

marked_as : (f g : Bool → ℕ → Bool) (q : ℕ) (mark : Bool) (old new : Index) → ((sending : Bool) (c : ℕ) → f sending c ≡ g sending c) →
    IsMarked f q mark old new → IsMarked g q mark old new
marked_as f g q mark old new same m = record {
  whole = m.whole;
  marks = λ sending c p low small.
      m.marks sending c p low small ∙ ap (λ (b : Bool). if (p == q) && b then mark else is_marked sending old c p) (same sending c);
  timed = m.timed;
  able = m.able;
}

pub send_marked : (at : ℕ) (v slope : Rational) (q : ℕ) (mark : Bool) (old new : Index) → IsMarked (is_end true at) q mark old new →
    IsMarked (λ sending c. is_offer sending c (Send at v slope)) q mark old new
send_marked at v slope q mark old new m =
    marked_as (is_end true at) (λ sending c. is_offer sending c (Send at v slope)) q mark old new (sends_there at v slope) m

pub receive_marked : (at q : ℕ) (mark : Bool) (old new : Index) → IsMarked (is_end false at) q mark old new →
    IsMarked (λ sending c. is_offer sending c (Receive at)) q mark old new
receive_marked at q mark old new m =
    marked_as (is_end false at) (λ sending c. is_offer sending c (Receive at)) q mark old new (receives_there at) m

-- ---- several offers

abbrev pub any_offer : List Offer → Bool → ℕ → Bool
any_offer os sending c = list_any (is_offer sending c) os

-- what is to be marked in all is what is to be marked behind the marks so far
pub record IsMarkedFor (all rest : List Offer) (q : ℕ) (mark : Bool) (first so_far : Index) : Type 0 where
  pub whole : IsWhole so_far
  pub marks : (sending : Bool) (c p : ℕ) → c < most_channels → p < most_processes →
      (if (p == q) && any_offer all sending c then mark else is_marked sending first c p)
      ≡ (if (p == q) && any_offer rest sending c then mark else is_marked sending so_far c p)
  pub timed : so_far.timed ≡ first.timed
  pub able : so_far.able ≡ first.able

joined : {A : Type 0} (i a b : Bool) (x y : A) → (if i && (a || b) then x else y) ≡ (if i && b then x else (if i && a then x else y))
joined false a b x y = refl
joined true true true x y = refl
joined true true false x y = refl
joined true false b x y = refl

pub none_marked : (os : List Offer) (q : ℕ) (mark : Bool) (o : Index) → IsWhole o → IsMarkedFor os os q mark o o
none_marked os q mark o h = record { whole = h; marks = λ sending c p low small. refl; timed = refl; able = refl }

pub next_marked : (all rest : List Offer) (offer : Offer) (q : ℕ) (mark : Bool) (first so_far new : Index) →
    IsMarkedFor all (offer ∷ rest) q mark first so_far → IsMarked (λ sending c. is_offer sending c offer) q mark so_far new →
    IsMarkedFor all rest q mark first new
next_marked all rest offer q mark first so_far new f m = record {
  whole = m.whole;
  marks = λ sending c p low small.
      f.marks sending c p low small
      ∙ joined (p == q) (is_offer sending c offer) (any_offer rest sending c) mark (is_marked sending so_far c p)
      ∙ ap (λ (b : Bool). if (p == q) && any_offer rest sending c then mark else b) (sym (m.marks sending c p low small));
  timed = m.timed ∙ f.timed;
  able = m.able ∙ f.able;
}

pub all_marked : (os : List Offer) (q : ℕ) (mark : Bool) (first new : Index) → IsMarkedFor os [] q mark first new →
    IsMarked (any_offer os) q mark first new
all_marked os q mark first new f = record {
  whole = f.whole;
  marks = λ sending c p low small. sym (f.marks sending c p low small ∙ passed (p == q) mark (is_marked sending new c p));
  timed = f.timed;
  able = f.able;
}

-- ---- who waits for time, and who wants a silent step

same_rows : (o : Index) (w v : ℕ) (sending : Bool) (c : ℕ) → row sending (record o { timed = w; able = v }) c ≡ row sending o c
same_rows o w v true c = refl
same_rows o w v false c = refl

pub state_marked : (o : Index) (q w v : ℕ) (waits wants : Bool) → IsWhole o → w < 2 ^ 64 →
    ((p : ℕ) → p < 64 → has w p ≡ (if p == q then waits else has o.timed p)) →
    ((p : ℕ) → p < 64 → has v p ≡ (if p == q then wants else has o.able p)) → IsStated q waits wants o (record o { timed = w; able = v })
state_marked o q w v waits wants h fits timed able = record {
  whole = record {
    senders = h.senders;
    receivers = h.receivers;
    bits = λ sending c. subst (λ (n : ℕ). n < 2 ^ 64) (sym (same_rows o w v sending c)) (h.bits sending c);
    words = h.words;
    ready = h.ready;
    timed = fits;
  };
  rows = same_rows o w v;
  timed = timed;
  able = able;
}
