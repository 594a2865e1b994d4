-- What one process offers that keeps the rules: channels in range, none twice in one direction.
use Rattle.std.proofs.Common.{◌≡◌, refl, sym, ap, ap₂, ◌∙◌, ℕ, ◌+◌, ◌≤◌, Bool, true, false, cond, not, ◌&&◌, ◌||◌, ◌==◌, if◌then◌else◌, nat_lt, nat_le, List, [], ◌∷◌, length, count_by, is_some, Option, Some, None, arith}
use Rattle.std.specs.List.{list_all, list_any}
use Rattle.std.proofs.lemmas.Bool.{false≢true, and_parts, not-true, eqb-true, eq-eqb}
use Rattle.std.proofs.lemmas.List.Sums.{sum_by-cons}
use Rattle.hc_limits.specs.Limits.{most_guards}
use Rattle.hc_rational.specs.Words.{Rational}
use Rattle.hc_term.specs.declared.stmt.Io.{Io}
use Rattle.hc_term.specs.declared.stmt.Io.TheVariants.{Send, Receive}
use Rattle.hc_term.specs.declared.stmt.Stmt.{Stmt, out-Stmt}
use Rattle.hc_term.specs.declared.stmt.Stmt.TheOpen.{Stmt-F}
use Rattle.hc_term.specs.declared.stmt.Branch.{Branch, out-Branch}
use Rattle.hc_term.specs.declared.post.Offer.{Offer}
use Rattle.hc_term.specs.declared.model.Mark.{Mark}
use Rattle.hc_term.specs.declared.model.Mark.TheVariants.{Going, Arrived}
use Rattle.hc_term.specs.declared.model.ProcessState.{ProcessState}
use Rattle.hc_term.specs.Value.{Store}
use Rattle.hc_term.specs.Motion.{Rates, rates_in}
use Rattle.hc_term.specs.Process.{Layer, bound, is_due}
use Rattle.hc_term.specs.Offers.{offer_of, offers_of, offers_here, post_at, post}
use Rattle.hc_term.specs.Profile.{is_io, is_same_io, is_expr, is_evolution, all_apart, are_guards, ios_in}
use Rattle.hc_term.specs.Rules.{is_stmt, is_on}
use Rattle.hc_term.proofs.Ruled.{all_keep, branches_keep}
use Rattle.hc_term.specs.Together.{is_offer, channel_of}
use Rattle.hc_runs.proofs.Basics.{neither_of}
use Rattle.hc_runs.proofs.Ruled.{ruled_here, ruled_is, Ruled}

-- ---- counts

count-pass : {A : Type 0} (p : A → Bool) (x : A) (xs : List A) (b : Bool) → p x ≡ b → count_by p (x ∷ xs) ≡ cond b 1 0 + count_by p xs
count-pass p x xs b h = sum_by-cons (λ y. cond (p y) 1 0) x xs ∙ ap (λ (c : Bool). cond c 1 0 + count_by p xs) h

count-none_by : {A : Type 0} (p : A → Bool) (x : A) (xs : List A) (b : Bool) → p x ≡ b → (list_any p xs ≡ false → count_by p xs ≡ 0) → (b || list_any p xs) ≡ false →
    count_by p (x ∷ xs) ≡ 0
count-none_by p x xs true e ih k = absurd (false≢true (sym k))
count-none_by p x xs false e ih k = omega (arith, count-pass p x xs false e, ih k)

pub count-none : {A : Type 0} (p : A → Bool) (xs : List A) → list_any p xs ≡ false → count_by p xs ≡ 0
count-none p [] h = refl
count-none p (x ∷ xs) h = count-none_by p x xs (p x) refl (count-none p xs) h

-- ---- communications that are apart

-- two communications on one channel in one direction are the same
same_on : (sending : Bool) (c : ℕ) (i j : Io) → is_on sending c i ≡ true → is_on sending c j ≡ true → is_same_io i j ≡ true
same_on true c (Send d v) (Send e w) h k = eq-eqb d e (eqb-true d c h ∙ sym (eqb-true e c k))
same_on true c (Send d v) (Receive e y) h k = absurd (false≢true k)
same_on true c (Receive d x) j h k = absurd (false≢true h)
same_on false c (Receive d x) (Receive e y) h k = eq-eqb d e (eqb-true d c h ∙ sym (eqb-true e c k))
same_on false c (Receive d x) (Send e w) h k = absurd (false≢true k)
same_on false c (Send d v) j h k = absurd (false≢true h)

module _ (sending : Bool) (c : ℕ) where
  no_other_by : (i j : Io) (others : Bool) (b : Bool) → is_on sending c i ≡ true → is_same_io i j ≡ false → is_on sending c j ≡ b → others ≡ false →
      (b || others) ≡ false
  no_other_by i j others true h apart e k = absurd (false≢true (sym apart ∙ same_on sending c i j h e))
  no_other_by i j others false h apart e k = k

  no_other : (i : Io) (ios : List Io) → is_on sending c i ≡ true → list_any (is_same_io i) ios ≡ false → list_any (is_on sending c) ios ≡ false
  no_other i [] h k = refl
  no_other i (j ∷ ios) h k =
      let parts = neither_of (is_same_io i j) (list_any (is_same_io i) ios) k in
      no_other_by i j (list_any (is_on sending c) ios) (is_on sending c j) h parts.0 refl (no_other i ios h parts.1)

  once_by : (i : Io) (ios : List Io) (b : Bool) → is_on sending c i ≡ b → list_any (is_same_io i) ios ≡ false → count_by (is_on sending c) ios ≤ 1 →
      count_by (is_on sending c) (i ∷ ios) ≤ 1
  once_by i ios true e apart ih =
      let none = count-none (is_on sending c) ios (no_other i ios e apart) in
      omega (arith, count-pass (is_on sending c) i ios true e, none)
  once_by i ios false e apart ih = omega (arith, count-pass (is_on sending c) i ios false e, ih)

  -- communications that are apart are on a channel once at most in one direction
  pub once_on : (ios : List Io) → all_apart is_same_io ios ≡ true → count_by (is_on sending c) ios ≤ 1
  once_on [] h = omega arith
  once_on (i ∷ ios) h =
      let parts = and_parts (not (list_any (is_same_io i) ios)) (all_apart is_same_io ios) h in
      once_by i ios (is_on sending c i) refl (not-true (list_any (is_same_io i) ios) parts.0) (once_on ios parts.1)

  some_if : (b : Bool) (v : Rational) → is_some (if b then Some v else None) ≡ b
  some_if true v = refl
  some_if false v = refl

  offer-on : (s : Store) (r : Rates) (io : Io) → is_offer sending c (offer_of s r io) ≡ is_on sending c io
  offer-on s r io = by_kind sending io where
    by_kind : (sending : Bool) (io : Io) → is_offer sending c (offer_of s r io) ≡ is_on sending c io
    by_kind true (Send channel value) = some_if (channel == c) _
    by_kind true (Receive channel variable) = refl
    by_kind false (Send channel value) = refl
    by_kind false (Receive channel variable) = refl

  count-offers : (s : Store) (r : Rates) (bs : List Branch) → count_by (is_offer sending c) (offers_of s r bs) ≡ count_by (is_on sending c) (ios_in bs)
  count-offers s r [] = refl
  count-offers s r (b ∷ bs) =
      let io = (out-Branch b).io in
      count-pass (is_offer sending c) (offer_of s r io) (offers_of s r bs) (is_on sending c io) (offer-on s r io)
      ∙ ap (λ (m : ℕ). cond (is_on sending c io) 1 0 + m) (count-offers s r bs)
      ∙ sym (count-pass (is_on sending c) io (ios_in bs) (is_on sending c io) refl)

-- ---- the offers of one process

abbrev pub is_in_range : ℕ → Offer → Bool
is_in_range channels o = nat_lt (channel_of o) channels

pub record Guarded (channels : ℕ) (os : List Offer) : Type 0 where
  pub in_range : list_all (is_in_range channels) os ≡ true
  pub once : (sending : Bool) (c : ℕ) → count_by (is_offer sending c) os ≤ 1

module _ (channels n : ℕ) where
  no_offers : Guarded channels []
  no_offers = record { in_range = refl; once = λ sending c. omega arith }

  io_in_range : (s : Store) (r : Rates) (io : Io) → is_io channels n io ≡ true → is_in_range channels (offer_of s r io) ≡ true
  io_in_range s r (Send c e) h = (and_parts (nat_lt c channels) (is_expr n e) h).0
  io_in_range s r (Receive c x) h = (and_parts (nat_lt c channels) (nat_lt x n) h).0

  ios_in_range : (s : Store) (r : Rates) (bs : List Branch) → list_all (is_io channels n) (ios_in bs) ≡ true → list_all (is_in_range channels) (offers_of s r bs) ≡ true
  ios_in_range s r [] h = refl
  ios_in_range s r (b ∷ bs) h =
      let parts = and_parts (is_io channels n (out-Branch b).io) (list_all (is_io channels n) (ios_in bs)) h in
      ap₂ (λ (x y : Bool). x && y) (io_in_range s r (out-Branch b).io parts.0) (ios_in_range s r bs parts.1)

  guards : (s : Store) (r : Rates) (bs : List Branch) → are_guards channels n (ios_in bs) ≡ true → Guarded channels (offers_of s r bs)
  guards s r bs h =
      let ios = ios_in bs in
      let parts = and_parts (nat_le (length ios) most_guards && list_all (is_io channels n) ios) (all_apart is_same_io ios) h in
      record {
        in_range = ios_in_range s r bs (and_parts (nat_le (length ios) most_guards) (list_all (is_io channels n) ios) parts.0).1;
        once = λ sending c. omega (arith, count-offers sending c s r bs, once_on sending c ios parts.1);
      }

  unless_due : (b : Bool) (os : List Offer) → Guarded channels os → Guarded channels (if b then [] else os)
  unless_due true os h = no_offers
  unless_due false os h = h

  at_most : (b : Bool) → cond b 1 0 ≤ 1
  at_most true = omega arith
  at_most false = omega arith

  guarded_here : (s : Store) (b : Option Rational) (l : Layer) → ruled_here channels n l ≡ true → Guarded channels (offers_here s b l)
  guarded_here s b (Stmt-F.Io io) h = record {
    in_range = ap (λ (x : Bool). x && true) (io_in_range s [] io h);
    once = λ sending c.
        let o = offer_of s [] io in
        omega (arith, count-pass (is_offer sending c) o [] (is_offer sending c o) refl, at_most (is_offer sending c o), count-none (is_offer sending c) [] refl);
  }
  guarded_here s b (Stmt-F.Choice bs) h =
      guards s [] bs (and_parts (nat_le 1 (length bs)) (are_guards channels n (ios_in bs)) (and_parts (nat_le 1 (length bs) && are_guards channels n (ios_in bs)) (branches_keep channels n bs) h).0).1
  guarded_here s b (Stmt-F.Evolve rs d bs) h =
      let kept = and_parts (is_evolution n rs d (ios_in bs) && are_guards channels n (ios_in bs)) (branches_keep channels n bs) h in
      unless_due (is_due b) (offers_of s (rates_in rs s) bs)
      (guards s (rates_in rs s) bs (and_parts (is_evolution n rs d (ios_in bs)) (are_guards channels n (ios_in bs)) kept.0).1)
  guarded_here s b _ h = no_offers

  guarded_at : (clock : Rational) (s : Store) (b : Option Rational) (mark : Mark) (todo : List Stmt) → all_keep channels n todo ≡ true →
      Guarded channels (post_at clock s b mark todo).offers
  guarded_at clock s b mark [] h = no_offers
  guarded_at clock s b Going (head ∷ rest) h = no_offers
  guarded_at clock s b (Arrived left) (head ∷ rest) h =
      guarded_here s b (out-Stmt head) (ruled_is channels n head (and_parts (is_stmt channels n head) (all_keep channels n rest) h).0)

  pub guarded : (clock : Rational) (q : ProcessState) → Ruled channels n q → Guarded channels (post clock q).offers
  guarded clock q h = guarded_at clock q.store (bound q) q.mark q.todo h.ruled
