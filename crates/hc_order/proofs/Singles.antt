-- In a determinate system each process keeps to statements of single branches, so it offers one communication at most.
use Rattle.std.proofs.Common.{rules, ◌≡◌, refl, sym, ap, ◌∙◌, ℕ, suc, ◌≤◌, Bool, true, false, ◌&&◌, ◌||◌, ◌==◌, nat_le, if◌then◌else◌, List, [], ◌∷◌, ◌++◌, length, map, Option, Some, None, arith}
use Rattle.std.specs.List.{list_all}
use Rattle.std.proofs.lemmas.Bool.{and_parts, and_from, leb-true}
use Rattle.std.proofs.lemmas.Bool.Decides.{nat_tests}
use Rattle.hc_rational.specs.Words.{Rational}
use Rattle.hc_term.specs.declared.stmt.Io.{Io}
use Rattle.hc_term.specs.declared.stmt.Io.TheVariants.{Send, Receive}
use Rattle.hc_term.specs.declared.stmt.Stmt.{Stmt, out-Stmt, the_lemmas}
use Rattle.hc_term.specs.declared.stmt.Stmt.TheOpen.{Stmt-F}
use Rattle.hc_term.specs.declared.stmt.Branch.{Branch, out-Branch}
use Rattle.hc_term.specs.declared.post.Offer.{Offer}
use Rattle.hc_term.specs.declared.post.Offer.TheVariants as offer
use Rattle.hc_term.specs.declared.model.Mark.{Mark}
use Rattle.hc_term.specs.declared.model.Mark.TheVariants.{Going, Arrived}
use Rattle.hc_term.specs.declared.model.ProcessState.{ProcessState}
use Rattle.hc_term.specs.Value.{Store, holds}
use Rattle.hc_term.specs.Motion.{Rates, rates_in}
use Rattle.hc_term.specs.Process.{Layer, bound, is_due}
use Rattle.hc_term.specs.Silent.{Outcome, Idle, Unfit, Did, if_fit, goes_on, picks_left, going_step, silent}
use Rattle.hc_term.specs.Offers.{offer_of, offers_of, offers_here, post_at, post}
use Rattle.hc_term.specs.Communication.{if_sends, sent_branch, sent_here, sent_at, sent, Taken, if_receives, received_branch, received_here, received_at, received, moved_at, moved}
use Rattle.hc_term.specs.Posts.{first_of, offer_sent_on, offer_receives_on, sent_on, receives_on}
use Rattle.hc_order.specs.Determinate.{is_single}

list_all-map : {X Y : Type 0} (p : X → Bool) (h : Y → X) (ys : List Y) → list_all p (map h ys) ≡ list_all (λ y. p (h y)) ys
list_all-map p h [] = refl
list_all-map p h (y ∷ ys) = ap (λ b. p (h y) && b) (list_all-map p h ys)

length-map : {X Y : Type 0} (f : X → Y) (xs : List X) → length (map f xs) ≡ length xs
length-map f [] = refl
length-map f (x ∷ xs) = ap suc (length-map f xs)

abbrev pub all_single : List Stmt → Bool
all_single ss = list_all is_single ss

abbrev branches_single : List Branch → Bool
branches_single bs = list_all (λ b. all_single (out-Branch b).body) bs

-- whether a statement of this layer has single branches
abbrev single_here : Layer → Bool
single_here (Stmt-F.If test first second) = all_single first && all_single second
single_here (Stmt-F.Pick left right) = all_single left && all_single right
single_here (Stmt-F.Forever body) = all_single body
single_here (Stmt-F.Loop test body) = all_single body
single_here (Stmt-F.Choice branches) = nat_le (length branches) 1 && branches_single branches
single_here (Stmt-F.Evolve rates domain branches) = nat_le (length branches) 1 && branches_single branches
single_here _ = true

module _ (s : Stmt) where
  layer_single : (l : Layer) → out-Stmt s ≡ l → is_single s ≡ single_here l
  layer_single Stmt-F.Skip e = search (rules, the_lemmas)
  layer_single (Stmt-F.Assign x a) e = search (rules, the_lemmas)
  layer_single (Stmt-F.Log a) e = search (rules, the_lemmas)
  layer_single (Stmt-F.Wait a) e = search (rules, the_lemmas)
  layer_single (Stmt-F.Io io) e = search (rules, the_lemmas)
  layer_single (Stmt-F.If test first second) e = search (rules, the_lemmas, list_all-map)
  layer_single (Stmt-F.Pick left right) e = search (rules, the_lemmas, list_all-map)
  layer_single (Stmt-F.Forever body) e = search (rules, the_lemmas, list_all-map)
  layer_single (Stmt-F.Loop test body) e = search (rules, the_lemmas, list_all-map)
  layer_single (Stmt-F.Choice branches) e = search (rules, the_lemmas, list_all-map, length-map)
  layer_single (Stmt-F.Evolve rates domain branches) e = search (rules, the_lemmas, list_all-map, length-map)

  pub single_is : is_single s ≡ single_here (out-Stmt s)
  single_is = layer_single (out-Stmt s) refl

-- ---- what is left to do

abbrev pub Singles : List Stmt → Type 0
Singles ss = all_single ss ≡ true

singles-append : (ss rs : List Stmt) → Singles ss → Singles rs → Singles (ss ++ rs)
singles-append [] rs h k = k
singles-append (s ∷ ss) rs h k =
    let parts = and_parts (is_single s) (all_single ss) h in
    and_from (is_single s) (all_single (ss ++ rs)) parts.0 (singles-append ss rs parts.1 k)

singles_either : (b : Bool) (ss rs : List Stmt) → Singles ss → Singles rs → Singles (if b then ss else rs)
singles_either true ss rs h k = h
singles_either false ss rs h k = k

abbrev pub SingleNext : Outcome → Type 0
SingleNext Idle = Unit {0}
SingleNext Unfit = Unit {0}
SingleNext (Did logged q) = Singles q.todo

single_if_fit : (b : Bool) (logged : Option Rational) (q : ProcessState) → Singles q.todo → SingleNext (if_fit b (Did logged q))
single_if_fit true logged q h = h
single_if_fit false logged q h = tt

module _ (head : Stmt) (rest : List Stmt) (all : Singles (head ∷ rest)) where
  left : Singles rest
  left = (and_parts (is_single head) (all_single rest) all).1

  here : (l : Layer) → out-Stmt head ≡ l → single_here l ≡ true
  here l e = sym (single_is head ∙ ap single_here e) ∙ (and_parts (is_single head) (all_single rest) all).0

  either : (b : Bool) (ss rs : List Stmt) → (all_single ss && all_single rs) ≡ true → Singles ((if b then ss else rs) ++ rest)
  either b ss rs h =
      let parts = and_parts (all_single ss) (all_single rs) h in
      singles-append (if b then ss else rs) rest (singles_either b ss rs parts.0 parts.1) left

  again : (body : List Stmt) → Singles body → Singles (body ++ head ∷ rest)
  again body h = singles-append body (head ∷ rest) h all

  loop : (b : Bool) (body : List Stmt) → Singles body → Singles (if b then body ++ head ∷ rest else rest)
  loop b body h = singles_either b (body ++ head ∷ rest) rest (again body h) left

  going-single : (seed p : ℕ) (clock : Rational) (c : ProcessState) (l : Layer) → out-Stmt head ≡ l → Singles c.todo →
      SingleNext (going_step seed p clock c head rest l)
  going-single seed p clock c Stmt-F.Skip e h = left
  going-single seed p clock c (Stmt-F.Assign x a) e h = single_if_fit _ _ _ left
  going-single seed p clock c (Stmt-F.Log a) e h = single_if_fit _ _ _ left
  going-single seed p clock c (Stmt-F.If test first second) e h =
      single_if_fit _ _ _ (either (holds c.store test) first second (here _ e))
  going-single seed p clock c (Stmt-F.Pick l r) e h = either (picks_left seed p c.choices) l r (here _ e)
  going-single seed p clock c (Stmt-F.Forever body) e h = again body (here _ e)
  going-single seed p clock c (Stmt-F.Loop test body) e h = single_if_fit _ _ _ (loop (holds c.store test) body (here _ e))
  going-single seed p clock c (Stmt-F.Wait time) e h = single_if_fit _ _ _ h
  going-single seed p clock c (Stmt-F.Io io) e h = single_if_fit _ _ _ h
  going-single seed p clock c (Stmt-F.Choice branches) e h = single_if_fit _ _ _ h
  going-single seed p clock c (Stmt-F.Evolve rates domain branches) e h = single_if_fit _ _ _ h

  due-single : (c : ProcessState) (b : Bool) → SingleNext (if b then goes_on c rest else Idle)
  due-single c true = left
  due-single c false = tt

silent_at-single : (seed p : ℕ) (clock : Rational) (todo : List Stmt) (store : Store) (choices : ℕ) (mark : Mark) → Singles todo →
    SingleNext (silent seed p clock (record { todo = todo; store = store; choices = choices; mark = mark }))
silent_at-single seed p clock [] store choices mark h = tt
silent_at-single seed p clock (head ∷ rest) store choices Going h =
    let c : ProcessState = record { todo = head ∷ rest; store = store; choices = choices; mark = Going } in
    going-single head rest h seed p clock c (out-Stmt head) refl h
silent_at-single seed p clock (head ∷ rest) store choices (Arrived k) h =
    let c : ProcessState = record { todo = head ∷ rest; store = store; choices = choices; mark = Arrived k } in
    due-single head rest h c (is_due (bound c))

pub silent-single : (seed p : ℕ) (clock : Rational) (c : ProcessState) → Singles c.todo → SingleNext (silent seed p clock c)
silent-single seed p clock c h = silent_at-single seed p clock c.todo c.store c.choices c.mark h

-- ---- a communication and a delay

module _ (c : ℕ) where
  if_sends-single : (io : Io) (front other : List Stmt) → Singles front → Singles other → Singles (if_sends c io front other)
  if_sends-single (Send channel value) front other h k = singles_either (channel == c) front other h k
  if_sends-single (Receive channel variable) front other h k = k

  sent_branch-single : (bs : List Branch) → branches_single bs ≡ true → Singles (sent_branch c bs)
  sent_branch-single [] h = refl
  sent_branch-single (b ∷ bs) h =
      let parts = and_parts (all_single (out-Branch b).body) (branches_single bs) h in
      if_sends-single (out-Branch b).io (out-Branch b).body (sent_branch c bs) parts.0 (sent_branch-single bs parts.1)

  taken_either : (b : Bool) (x : ℕ) (front : List Stmt) (other : Taken) → Singles front → Singles other.1 →
      Singles (if b then (x, front) else other).1
  taken_either true x front other h k = h
  taken_either false x front other h k = k

  if_receives-single : (io : Io) (front : List Stmt) (other : Taken) → Singles front → Singles other.1 →
      Singles (if_receives c io front other).1
  if_receives-single (Send channel value) front other h k = k
  if_receives-single (Receive channel variable) front other h k = taken_either (channel == c) variable front other h k

  received_branch-single : (bs : List Branch) → branches_single bs ≡ true → Singles (received_branch c bs).1
  received_branch-single [] h = refl
  received_branch-single (b ∷ bs) h =
      let parts = and_parts (all_single (out-Branch b).body) (branches_single bs) h in
      if_receives-single (out-Branch b).io (out-Branch b).body (received_branch c bs) parts.0 (received_branch-single bs parts.1)

  sent_here-single : (l : Layer) → single_here l ≡ true → Singles (sent_here c l)
  sent_here-single (Stmt-F.Choice branches) h = sent_branch-single branches (and_parts _ _ h).1
  sent_here-single (Stmt-F.Evolve rates domain branches) h = sent_branch-single branches (and_parts _ _ h).1
  sent_here-single _ h = refl

  received_here-single : (l : Layer) → single_here l ≡ true → Singles (received_here c l).1
  received_here-single (Stmt-F.Io io) h = if_receives-single io [] (0, []) refl refl
  received_here-single (Stmt-F.Choice branches) h = received_branch-single branches (and_parts _ _ h).1
  received_here-single (Stmt-F.Evolve rates domain branches) h = received_branch-single branches (and_parts _ _ h).1
  received_here-single _ h = refl

  sent_at-single : (todo : List Stmt) → Singles todo → Singles (sent_at c todo)
  sent_at-single [] h = refl
  sent_at-single (head ∷ rest) h =
      singles-append (sent_here c (out-Stmt head)) rest (sent_here-single (out-Stmt head) (here head rest h (out-Stmt head) refl))
      (left head rest h)

  pub sent-single : (q : ProcessState) → Singles q.todo → Singles (sent c q).todo
  sent-single q h = sent_at-single q.todo h

  received_at-single : (v : Rational) (q : ProcessState) (todo : List Stmt) → Singles q.todo → Singles todo →
      Singles (received_at c v q todo).todo
  received_at-single v q [] k h = k
  received_at-single v q (head ∷ rest) k h =
      singles-append (received_here c (out-Stmt head)).1 rest
      (received_here-single (out-Stmt head) (here head rest h (out-Stmt head) refl)) (left head rest h)

  pub received-single : (v : Rational) (q : ProcessState) → Singles q.todo → Singles (received c v q).todo
  received-single v q h = received_at-single v q q.todo h h

moved_at-single : (d : Rational) (q : ProcessState) (mark : Mark) (todo : List Stmt) → Singles q.todo → Singles (moved_at d q mark todo).todo
moved_at-single d q Going todo h = h
moved_at-single d q (Arrived k) [] h = h
moved_at-single d q (Arrived k) (head ∷ rest) h = h

pub moved-single : (d : Rational) (q : ProcessState) → Singles q.todo → Singles (moved d q).todo
moved-single d q h = moved_at-single d q q.mark q.todo h

-- ---- offers

few-unless : (b : Bool) (os : List Offer) → length os ≤ 1 → length (if b then [] else os) ≤ 1
few-unless true os h = omega arith
few-unless false os h = h

few_of : (s : Store) (r : Rates) (bs : List Branch) → nat_le (length bs) 1 ≡ true → length (offers_of s r bs) ≤ 1
few_of s r bs h = omega (arith, leb-true (length bs) 1 h, length-map (λ b. offer_of s r (out-Branch b).io) bs)

few_here : (s : Store) (b : Option Rational) (l : Layer) → single_here l ≡ true → length (offers_here s b l) ≤ 1
few_here s b (Stmt-F.Io io) h = omega arith
few_here s b (Stmt-F.Choice branches) h = few_of s [] branches (and_parts _ _ h).0
few_here s b (Stmt-F.Evolve rates domain branches) h =
    few-unless (is_due b) _ (few_of s (rates_in rates s) branches (and_parts _ _ h).0)
few_here s b _ h = omega arith

few_at : (clock : Rational) (s : Store) (b : Option Rational) (mark : Mark) (todo : List Stmt) → Singles todo →
    length (post_at clock s b mark todo).offers ≤ 1
few_at clock s b mark [] h = omega arith
few_at clock s b Going (head ∷ rest) h = omega arith
few_at clock s b (Arrived k) (head ∷ rest) h = few_here s b (out-Stmt head) (here head rest h (out-Stmt head) refl)

pub few_offers : (clock : Rational) (q : ProcessState) → Singles q.todo → length (post clock q).offers ≤ 1
few_offers clock q h = few_at clock q.store (bound q) q.mark q.todo h

-- ---- one offer is on one channel

gift_if : (b : Bool) (v w : Rational) → (if b then Some v else None) ≡ Some w → b ≡ true
gift_if true v w e = refl
gift_if false v w e = cc

equal_from : (a b : ℕ) → (a == b) ≡ true → a ≡ b
equal_from a b e = grind (arith, nat_tests, e)

first_none : (o : Option Rational) (v : Rational) → first_of o None ≡ Some v → o ≡ Some v
first_none None v e = e
first_none (Some w) v e = e

or_none : (b : Bool) → (b || false) ≡ true → b ≡ true
or_none true e = refl
or_none false e = e

module _ (a b : ℕ) where
  gifts_of : (o : Offer) (v w : Rational) → offer_sent_on a o ≡ Some v → offer_sent_on b o ≡ Some w → a ≡ b
  gifts_of (offer.Send channel at slope) v w h k =
      sym (equal_from channel a (gift_if _ _ _ h)) ∙ equal_from channel b (gift_if _ _ _ k)
  gifts_of (offer.Receive channel) v w h k = cc

  wishes_of : (o : Offer) → offer_receives_on a o ≡ true → offer_receives_on b o ≡ true → a ≡ b
  wishes_of (offer.Send channel at slope) h k = cc
  wishes_of (offer.Receive channel) h k = sym (equal_from channel a h) ∙ equal_from channel b k

  mixed_of : (o : Offer) (v : Rational) → offer_sent_on a o ≡ Some v → offer_receives_on b o ≡ true → ⊥
  mixed_of (offer.Send channel at slope) v h k = cc
  mixed_of (offer.Receive channel) v h k = cc

  pub one_gift_channel : (os : List Offer) (v w : Rational) → length os ≤ 1 → sent_on a os ≡ Some v → sent_on b os ≡ Some w → a ≡ b
  one_gift_channel [] v w few h k = cc
  one_gift_channel (o ∷ []) v w few h k = gifts_of o v w (first_none _ v h) (first_none _ w k)
  one_gift_channel (o ∷ q ∷ os) v w few h k = absurd (omega (arith, few))

  pub one_wish_channel : (os : List Offer) → length os ≤ 1 → receives_on a os ≡ true → receives_on b os ≡ true → a ≡ b
  one_wish_channel [] few h k = cc
  one_wish_channel (o ∷ []) few h k = wishes_of o (or_none _ h) (or_none _ k)
  one_wish_channel (o ∷ q ∷ os) few h k = absurd (omega (arith, few))

  pub no_gift_and_wish : (os : List Offer) (v : Rational) → length os ≤ 1 → sent_on a os ≡ Some v → receives_on b os ≡ true → ⊥
  no_gift_and_wish [] v few h k = cc
  no_gift_and_wish (o ∷ []) v few h k = mixed_of o v (first_none _ v h) (or_none _ k)
  no_gift_and_wish (o ∷ q ∷ os) v few h k = absurd (omega (arith, few))
