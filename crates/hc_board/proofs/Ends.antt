-- The first sender and the first receiver of a channel are those that the functions find.
use Rattle.std.proofs.Common.{◌≡◌, ◌<◌, ℕ, zero, suc, ◌+◌, Bool, true, false, List, [], ◌∷◌, Option, Some, None, refl, sym, ap, subst, ◌∙◌, if◌then◌else◌, arith}
use Rattle.hc_rational.specs.Words.{Rational}
use Rattle.hc_term.specs.declared.post.Post.{Post}
use Rattle.hc_term.specs.Posts.{first_of, sent_on, receives_on, numbered, sender, receiver}
use Rattle.hc_board.specs.MeetingBoard.{shown, Sends, Receives}

number_from : (from : ℕ) → from ≡ from + 0
number_from from = omega arith

number_next : (from k : ℕ) → from + 1 + k ≡ from + suc k
number_next from k = omega arith

-- ---- who sends

abbrev number_or : ℕ → Option (ℕ × Rational) → ℕ
number_or n None = n
number_or n (Some s) = s.0

abbrev value_or : Rational → Option (ℕ × Rational) → Rational
value_or v None = v
value_or v (Some s) = s.1

-- the process is number k of these posts, of which the first has number `from`
pub record FoundSender (c from : ℕ) (ps : List Post) (s : ℕ × Rational) : Type 0 where
  pub at : ℕ
  pub number : s.0 ≡ from + at
  pub sends : Sends c ps at s.1

first_sends : (c : ℕ) (q : Post) (qs : List Post) (v : Rational) → sent_on c q.offers ≡ Some v → Sends c (q ∷ qs) 0 v
first_sends c q qs v e = record { there = omega arith; offers = e; first = λ i low. absurd (omega (arith, low)) }

later_first : (c : ℕ) (q : Post) (qs : List Post) (k : ℕ) → sent_on c q.offers ≡ None →
    ((i : ℕ) → i < k → sent_on c (shown qs i).offers ≡ None) → (i : ℕ) → i < suc k → sent_on c (shown (q ∷ qs) i).offers ≡ None
later_first c q qs k e h zero low = e
later_first c q qs k e h (suc i) low = h i (omega (arith, low))

later_sends : (c : ℕ) (q : Post) (qs : List Post) (k : ℕ) (v : Rational) → sent_on c q.offers ≡ None → Sends c qs k v → Sends c (q ∷ qs) (suc k) v
later_sends c q qs k v e s =
    record { there = omega (arith, s.there); offers = s.offers; first = later_first c q qs k e s.first }

sender_next : (c from : ℕ) (q : Post) (qs : List Post) (o : Option Rational) (s : ℕ × Rational) → sent_on c q.offers ≡ o →
    (sender c (from + 1) qs ≡ Some s → FoundSender c (from + 1) qs s) →
    first_of (numbered from o) (sender c (from + 1) qs) ≡ Some s → FoundSender c from (q ∷ qs) s
sender_next c from q qs (Some v) s eo ih e =
    let same : from ≡ s.0 = ap (λ (o : Option (ℕ × Rational)). number_or from o) e in
    let value : v ≡ s.1 = ap (λ (o : Option (ℕ × Rational)). value_or v o) e in
    record {
      at = 0;
      number = sym same ∙ number_from from;
      sends = subst (λ (w : Rational). Sends c (q ∷ qs) 0 w) value (first_sends c q qs v eo);
    }
sender_next c from q qs None s eo ih e =
    let found = ih e in
    record { at = suc found.at; number = found.number ∙ number_next from found.at; sends = later_sends c q qs found.at s.1 eo found.sends }

pub sender-sound : (c from : ℕ) (ps : List Post) (s : ℕ × Rational) → sender c from ps ≡ Some s → FoundSender c from ps s
sender-sound c from [] s e = cc
sender-sound c from (q ∷ qs) s e = sender_next c from q qs (sent_on c q.offers) s refl (sender-sound c (from + 1) qs s) e

rest_sends : (c : ℕ) (q : Post) (qs : List Post) (k : ℕ) (v : Rational) → Sends c (q ∷ qs) (suc k) v → Sends c qs k v
rest_sends c q qs k v s =
    record { there = omega (arith, s.there); offers = s.offers; first = λ i low. s.first (suc i) (omega (arith, low)) }

pub sender-is : (c from : ℕ) (ps : List Post) (k : ℕ) (v : Rational) → Sends c ps k v → sender c from ps ≡ Some (from + k, v)
sender-is c from [] k v s = let h = s.there in absurd (omega (arith, h))
sender-is c from (q ∷ qs) zero v s =
    ap (λ (o : Option Rational). first_of (numbered from o) (sender c (from + 1) qs)) s.offers
    ∙ ap (λ (n : ℕ). Some (n, v)) (number_from from)
sender-is c from (q ∷ qs) (suc k) v s =
    ap (λ (o : Option Rational). first_of (numbered from o) (sender c (from + 1) qs)) (s.first 0 (omega arith))
    ∙ (sender-is c (from + 1) qs k v (rest_sends c q qs k v s) ∙ ap (λ (n : ℕ). Some (n, v)) (number_next from k))

pub sender-none : (c from : ℕ) (ps : List Post) → sender c from ps ≡ None → (p : ℕ) (v : Rational) → ¬ Sends c ps p v
sender-none c from ps e p v s =
    let found : sender c from ps ≡ Some (from + p, v) = sender-is c from ps p v s in
    cc

-- ---- who receives

pub record FoundReceiver (c from : ℕ) (ps : List Post) (r : ℕ) : Type 0 where
  pub at : ℕ
  pub number : r ≡ from + at
  pub receives : Receives c ps at

first_receives : (c : ℕ) (q : Post) (qs : List Post) → receives_on c q.offers ≡ true → Receives c (q ∷ qs) 0
first_receives c q qs e = record { there = omega arith; offers = e; first = λ i low. absurd (omega (arith, low)) }

later_quiet : (c : ℕ) (q : Post) (qs : List Post) (k : ℕ) → receives_on c q.offers ≡ false →
    ((i : ℕ) → i < k → receives_on c (shown qs i).offers ≡ false) → (i : ℕ) → i < suc k → receives_on c (shown (q ∷ qs) i).offers ≡ false
later_quiet c q qs k e h zero low = e
later_quiet c q qs k e h (suc i) low = h i (omega (arith, low))

later_receives : (c : ℕ) (q : Post) (qs : List Post) (k : ℕ) → receives_on c q.offers ≡ false → Receives c qs k → Receives c (q ∷ qs) (suc k)
later_receives c q qs k e r =
    record { there = omega (arith, r.there); offers = r.offers; first = later_quiet c q qs k e r.first }

receiver_next : (c from : ℕ) (q : Post) (qs : List Post) (b : Bool) (r : ℕ) → receives_on c q.offers ≡ b →
    (receiver c (from + 1) qs ≡ Some r → FoundReceiver c (from + 1) qs r) →
    (if b then Some from else receiver c (from + 1) qs) ≡ Some r → FoundReceiver c from (q ∷ qs) r
receiver_next c from q qs true r eb ih e =
    let same : from ≡ r = cc in
    record { at = 0; number = sym same ∙ number_from from; receives = first_receives c q qs eb }
receiver_next c from q qs false r eb ih e =
    let found = ih e in
    record { at = suc found.at; number = found.number ∙ number_next from found.at; receives = later_receives c q qs found.at eb found.receives }

pub receiver-sound : (c from : ℕ) (ps : List Post) (r : ℕ) → receiver c from ps ≡ Some r → FoundReceiver c from ps r
receiver-sound c from [] r e = cc
receiver-sound c from (q ∷ qs) r e = receiver_next c from q qs (receives_on c q.offers) r refl (receiver-sound c (from + 1) qs r) e

rest_receives : (c : ℕ) (q : Post) (qs : List Post) (k : ℕ) → Receives c (q ∷ qs) (suc k) → Receives c qs k
rest_receives c q qs k r =
    record { there = omega (arith, r.there); offers = r.offers; first = λ i low. r.first (suc i) (omega (arith, low)) }

pub receiver-is : (c from : ℕ) (ps : List Post) (k : ℕ) → Receives c ps k → receiver c from ps ≡ Some (from + k)
receiver-is c from [] k r = let h = r.there in absurd (omega (arith, h))
receiver-is c from (q ∷ qs) zero r =
    ap (λ (b : Bool). if b then Some from else receiver c (from + 1) qs) r.offers ∙ ap (λ (n : ℕ). Some n) (number_from from)
receiver-is c from (q ∷ qs) (suc k) r =
    ap (λ (b : Bool). if b then Some from else receiver c (from + 1) qs) (r.first 0 (omega arith))
    ∙ (receiver-is c (from + 1) qs k (rest_receives c q qs k r) ∙ ap (λ (n : ℕ). Some n) (number_next from k))

pub receiver-none : (c from : ℕ) (ps : List Post) → receiver c from ps ≡ None → (p : ℕ) → ¬ Receives c ps p
receiver-none c from ps e p r =
    let found : receiver c from ps ≡ Some (from + p) = receiver-is c from ps p r in
    cc
