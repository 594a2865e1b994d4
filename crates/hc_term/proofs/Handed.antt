-- Statements use what they offer, and a communication or a delay leaves statements that use no other channels.
use Rattle.std.proofs.Common.{◌≡◌, refl, sym, ◌∙◌, ℕ, Bool, true, false, ◌||◌, ◌==◌, if◌then◌else◌, List, [], ◌∷◌, Option, Some, None, is_some, ◌⊎◌, inl, inr, ⊎_elim}
use Rattle.std.specs.List.{list_any}
use Rattle.std.proofs.lemmas.Bool.{false≢true, or_cases, or_left, or_right}
use Rattle.hc_rational.specs.Words.{Rational}
use Rattle.hc_term.specs.declared.stmt.Io.{Io}
use Rattle.hc_term.specs.declared.stmt.Io.TheVariants.{Send, Receive}
use Rattle.hc_term.specs.declared.stmt.Stmt.{Stmt, out-Stmt}
use Rattle.hc_term.specs.declared.stmt.Stmt.TheOpen.{Stmt-F}
use Rattle.hc_term.specs.declared.stmt.Branch.{Branch, out-Branch}
use Rattle.hc_term.specs.declared.post.Offer.{Offer}
use Rattle.hc_term.specs.declared.model.Mark.{Mark}
use Rattle.hc_term.specs.declared.model.Mark.TheVariants.{Going, Arrived}
use Rattle.hc_term.specs.declared.model.ProcessState.{ProcessState}
use Rattle.hc_term.specs.Value.{Store}
use Rattle.hc_term.specs.Motion.{Rates, rates_in}
use Rattle.hc_term.specs.Process.{Layer, bound, is_due}
use Rattle.hc_term.specs.Offers.{offer_of, offers_of, offers_here, post_at, post}
use Rattle.hc_term.specs.Communication.{if_sends, sent_branch, sent_here, sent_at, sent, Taken, if_receives, received_branch, received_here, received_at, received, moved_at, moved}
use Rattle.hc_term.specs.Posts.{offer_sent_on, sent_on, first_of}
use Rattle.hc_term.specs.Together.{is_offer}
use Rattle.hc_term.specs.Rules.{is_on, uses}
use Rattle.hc_term.proofs.Used.{any_use, any_branch_uses}
use Rattle.hc_term.proofs.Bodies.{uses_here, uses_is, UsesNoMore, no_more-same, no_more-rest, Inside, no_more-front}

-- ---- a communication and a delay

inside_none : (l : Layer) → Inside l []
inside_none l = record { used = λ sending c e. absurd (false≢true e) }

module _ (sending : Bool) (k c : ℕ) where
  sends-either : (io : Io) (front other : List Stmt) → any_use sending k (if_sends c io front other) ≡ true →
      (any_use sending k front ≡ true) ⊎ (any_use sending k other ≡ true)
  sends-either (Send channel value) front other e = by_test (channel == c) e where
    by_test : (b : Bool) → any_use sending k (if b then front else other) ≡ true →
        (any_use sending k front ≡ true) ⊎ (any_use sending k other ≡ true)
    by_test true e = inl e
    by_test false e = inr e
  sends-either (Receive channel variable) front other e = inr e

  receives-either : (io : Io) (front : List Stmt) (other : Taken) →
      any_use sending k (if_receives c io front other).1 ≡ true →
      (any_use sending k front ≡ true) ⊎ (any_use sending k other.1 ≡ true)
  receives-either (Send channel value) front other e = inr e
  receives-either (Receive channel variable) front other e = by_test (channel == c) e where
    by_test : (b : Bool) → any_use sending k (if b then (variable, front) else other).1 ≡ true →
        (any_use sending k front ≡ true) ⊎ (any_use sending k other.1 ≡ true)
    by_test true e = inl e
    by_test false e = inr e

  -- a use in the body of the first branch, or in the others
  branch_used : (b : Branch) (bs : List Branch) →
      (any_use sending k (out-Branch b).body ≡ true) ⊎ (any_branch_uses sending k bs ≡ true) →
      any_branch_uses sending k (b ∷ bs) ≡ true
  branch_used b bs e =
      let io = is_on sending k (out-Branch b).io in
      let body = any_use sending k (out-Branch b).body in
      let others = any_branch_uses sending k bs in
      ⊎_elim (λ h. or_left (io || body) others (or_right io body h)) (λ h. or_right (io || body) others h) e

  sent_branch-used : (bs : List Branch) → any_use sending k (sent_branch c bs) ≡ true →
      any_branch_uses sending k bs ≡ true
  sent_branch-used [] e = e
  sent_branch-used (b ∷ bs) e =
      let either = sends-either (out-Branch b).io (out-Branch b).body (sent_branch c bs) e in
      branch_used b bs (⊎_elim inl (λ h. inr (sent_branch-used bs h)) either)

  received_branch-used : (bs : List Branch) → any_use sending k (received_branch c bs).1 ≡ true →
      any_branch_uses sending k bs ≡ true
  received_branch-used [] e = e
  received_branch-used (b ∷ bs) e =
      let either = receives-either (out-Branch b).io (out-Branch b).body (received_branch c bs) e in
      branch_used b bs (⊎_elim inl (λ h. inr (received_branch-used bs h)) either)

inside_sent : (c : ℕ) (l : Layer) → Inside l (sent_here c l)
inside_sent c (Stmt-F.Choice branches) = record { used = λ sending k e. sent_branch-used sending k c branches e }
inside_sent c (Stmt-F.Evolve rates domain branches) =
    record { used = λ sending k e. sent_branch-used sending k c branches e }
inside_sent c _ = inside_none _

sent_at-no_more : (c : ℕ) (todo : List Stmt) → UsesNoMore todo (sent_at c todo)
sent_at-no_more c [] = no_more-same []
sent_at-no_more c (head ∷ rest) =
    no_more-front head rest (sent_here c (out-Stmt head)) rest (out-Stmt head) refl
    (inside_sent c (out-Stmt head)) (no_more-rest head rest)

pub sent-no_more : (c : ℕ) (p : ProcessState) → UsesNoMore p.todo (sent c p).todo
sent-no_more c p = sent_at-no_more c p.todo

inside_received : (c : ℕ) (l : Layer) → Inside l (received_here c l).1
inside_received c (Stmt-F.Io io) = record {
  used = λ sending k e. absurd (⊎_elim false≢true false≢true (receives-either sending k c io [] (0, []) e));
}
inside_received c (Stmt-F.Choice branches) =
    record { used = λ sending k e. received_branch-used sending k c branches e }
inside_received c (Stmt-F.Evolve rates domain branches) =
    record { used = λ sending k e. received_branch-used sending k c branches e }
inside_received c _ = inside_none _

received_at-no_more : (c : ℕ) (v : Rational) (p : ProcessState) (todo : List Stmt) → UsesNoMore todo p.todo →
    UsesNoMore todo (received_at c v p todo).todo
received_at-no_more c v p [] h = h
received_at-no_more c v p (head ∷ rest) h =
    no_more-front head rest (received_here c (out-Stmt head)).1 rest (out-Stmt head) refl
    (inside_received c (out-Stmt head))
    (no_more-rest head rest)

pub received-no_more : (c : ℕ) (v : Rational) (p : ProcessState) → UsesNoMore p.todo (received c v p).todo
received-no_more c v p = received_at-no_more c v p p.todo (no_more-same p.todo)

moved_at-no_more : (d : Rational) (p : ProcessState) (mark : Mark) (todo : List Stmt) →
    UsesNoMore p.todo (moved_at d p mark todo).todo
moved_at-no_more d p Going todo = no_more-same p.todo
moved_at-no_more d p (Arrived left) [] = no_more-same p.todo
moved_at-no_more d p (Arrived left) (head ∷ rest) = no_more-same p.todo

pub moved-no_more : (d : Rational) (p : ProcessState) → UsesNoMore p.todo (moved d p).todo
moved-no_more d p = moved_at-no_more d p p.mark p.todo

-- ---- offers

abbrev pub offers_on : Bool → ℕ → List Offer → Bool
offers_on sending c os = list_any (is_offer sending c) os

sent_on-next : (c : ℕ) (v : Rational) (os : List Offer) (g : Option Rational) →
    (sent_on c os ≡ Some v → offers_on true c os ≡ true) → first_of g (sent_on c os) ≡ Some v →
    (is_some g || offers_on true c os) ≡ true
sent_on-next c v os (Some w) ih e = refl
sent_on-next c v os None ih e = ih e

pub sent_on-offered : (c : ℕ) (v : Rational) (os : List Offer) → sent_on c os ≡ Some v → offers_on true c os ≡ true
sent_on-offered c v [] e = cc
sent_on-offered c v (o ∷ os) e = sent_on-next c v os (offer_sent_on c o) (sent_on-offered c v os) e

some_if : (b : Bool) (v : Rational) → is_some (if b then Some v else None) ≡ b
some_if true v = refl
some_if false v = refl

module _ (sending : Bool) (c : ℕ) where
  is_offer-on : (s : Store) (r : Rates) (io : Io) → is_offer sending c (offer_of s r io) ≡ is_on sending c io
  is_offer-on s r io = by_kind sending io where
    by_kind : (sending : Bool) (io : Io) → is_offer sending c (offer_of s r io) ≡ is_on sending c io
    by_kind true (Send channel value) = some_if (channel == c) _
    by_kind true (Receive channel variable) = refl
    by_kind false (Send channel value) = refl
    by_kind false (Receive channel variable) = refl

  offered_branch : (s : Store) (r : Rates) (bs : List Branch) → offers_on sending c (offers_of s r bs) ≡ true →
      any_branch_uses sending c bs ≡ true
  offered_branch s r [] e = e
  offered_branch s r (b ∷ bs) e =
      let io = (out-Branch b).io in
      let on = is_on sending c io in
      let body = any_use sending c (out-Branch b).body in
      let others = any_branch_uses sending c bs in
      ⊎_elim
      (λ h. or_left (on || body) others (or_left on body (sym (is_offer-on s r io) ∙ h)))
      (λ h. or_right (on || body) others (offered_branch s r bs h))
      (or_cases (is_offer sending c (offer_of s r io)) (offers_on sending c (offers_of s r bs)) e)

  offered_unless : (b : Bool) (os : List Offer) → offers_on sending c (if b then [] else os) ≡ true →
      offers_on sending c os ≡ true
  offered_unless true os e = absurd (false≢true e)
  offered_unless false os e = e

  offered_here : (s : Store) (b : Option Rational) (l : Layer) → offers_on sending c (offers_here s b l) ≡ true →
      uses_here sending c l ≡ true
  offered_here s b (Stmt-F.Io io) e =
      ⊎_elim (λ h. sym (is_offer-on s [] io) ∙ h) (λ h. absurd (false≢true h))
      (or_cases (is_offer sending c (offer_of s [] io)) false e)
  offered_here s b (Stmt-F.Choice branches) e = offered_branch s [] branches e
  offered_here s b (Stmt-F.Evolve rates domain branches) e =
      offered_branch s (rates_in rates s) branches (offered_unless (is_due b) _ e)
  offered_here s b _ e = absurd (false≢true e)

  offered_at : (clock : Rational) (s : Store) (b : Option Rational) (mark : Mark) (todo : List Stmt) →
      offers_on sending c (post_at clock s b mark todo).offers ≡ true → any_use sending c todo ≡ true
  offered_at clock s b mark [] e = e
  offered_at clock s b Going (head ∷ rest) e = absurd (false≢true e)
  offered_at clock s b (Arrived left) (head ∷ rest) e =
      or_left (uses sending c head) (any_use sending c rest)
      (uses_is sending c head ∙ offered_here s b (out-Stmt head) e)

  -- what is offered is used by what is left to do
  pub offered-used : (clock : Rational) (q : ProcessState) → offers_on sending c (post clock q).offers ≡ true →
      any_use sending c q.todo ≡ true
  offered-used clock q e = offered_at clock q.store (bound q) q.mark q.todo e
