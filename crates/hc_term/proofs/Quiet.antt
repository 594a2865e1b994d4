-- A delay makes no channel ready.
use Rattle.std.proofs.Common.{◌≡◌, refl, sym, ap, ap₂, ◌∙◌, subst, ℕ, zero, suc, ◌+◌, Bool, true, false, not, ◌&&◌, ◌||◌, if◌then◌else◌, List, [], ◌∷◌, map, length, slice_set, Option, Some, None, ◌⊎◌, inl, inr, ⊎_elim, true≢false, ◌==◌}
use Rattle.hc_rational.specs.Words.{Rational, ◌+ℚ◌}
use Rattle.hc_term.specs.declared.stmt.Io.{Io}
use Rattle.hc_term.specs.declared.stmt.Io.TheVariants.{Send, Receive}
use Rattle.hc_term.specs.declared.stmt.Stmt.{Stmt, out-Stmt}
use Rattle.hc_term.specs.declared.stmt.Stmt.TheOpen.{Stmt-F}
use Rattle.hc_term.specs.declared.stmt.Branch.{Branch, out-Branch}
use Rattle.hc_term.specs.declared.post.Post.{Post}
use Rattle.hc_term.specs.declared.post.Offer.{Offer}
use Rattle.hc_term.specs.declared.task.Task.{Task}
use Rattle.hc_term.specs.declared.model.Configuration.{Configuration}
use Rattle.hc_term.specs.declared.model.Mark.{Mark}
use Rattle.hc_term.specs.declared.model.Mark.TheVariants.{Going, Arrived}
use Rattle.hc_term.specs.declared.model.ProcessState.{ProcessState}
use Rattle.hc_term.specs.Value.{Store}
use Rattle.hc_term.specs.Motion.{Rates, rates_in, after}
use Rattle.hc_term.specs.Process.{Layer, bound_here, is_due, wants}
use Rattle.hc_term.specs.Offers.{offer_of, offers_of, offers_here, post}
use Rattle.hc_term.specs.Communication.{moved_store, left_after, moved}
use Rattle.hc_term.specs.Posts.{Took, first_of, offer_sent_on, offer_receives_on, sent_on, receives_on, numbered, sender, receiver, meeting_by, meeting_on, meeting_from}
use Rattle.hc_term.specs.Step.{posts, ready, rests, replaced, delayed}
use Rattle.hc_term.specs.Laws.{DelaysKeepQuiet}
use Rattle.hc_term.proofs.Turns.{passing-quiet}

-- ---- offers

-- the offers ns are on no other channels than the offers os
pub record NoMore (os ns : List Offer) : Type 0 where
  pub sends_nothing : (c : ℕ) → sent_on c os ≡ None → sent_on c ns ≡ None
  pub receives_nothing : (c : ℕ) → receives_on c os ≡ false → receives_on c ns ≡ false

pub no_more_same : (os : List Offer) → NoMore os os
no_more_same os = record { sends_nothing = λ c e. e; receives_nothing = λ c e. e }

pub no_more_none : (os : List Offer) → NoMore os []
no_more_none os = record { sends_nothing = λ c e. refl; receives_nothing = λ c e. refl }

first_of-none : {A : Type 0} (o p : Option A) → first_of o p ≡ None → (o ≡ None) × (p ≡ None)
first_of-none (Some a) p e = cc
first_of-none None p e = (refl, e)

pub none_first_of : {A : Type 0} (o p : Option A) → o ≡ None → p ≡ None → first_of o p ≡ None
none_first_of o p e f = ap (λ x. first_of x p) e ∙ f

-- whether there is a sent_on doesn't turn on its value
sends_nothing_by : (b : Bool) (v w : Rational) → (if b then Some v else None) ≡ None → (if b then Some w else None) ≡ None
sends_nothing_by true v w e = cc
sends_nothing_by false v w e = refl

module _ (s₀ s₁ : Store) (r₀ r₁ : Rates) where
  offer_sent_on-moves : (c : ℕ) (io : Io) → offer_sent_on c (offer_of s₀ r₀ io) ≡ None → offer_sent_on c (offer_of s₁ r₁ io) ≡ None
  offer_sent_on-moves c (Send channel value) e = sends_nothing_by (channel == c) _ _ e
  offer_sent_on-moves c (Receive channel variable) e = refl

  offer_receives_on-moves : (c : ℕ) (io : Io) → offer_receives_on c (offer_of s₀ r₀ io) ≡ offer_receives_on c (offer_of s₁ r₁ io)
  offer_receives_on-moves c (Send channel value) = refl
  offer_receives_on-moves c (Receive channel variable) = refl

  sent_on-moves : (c : ℕ) (bs : List Branch) → sent_on c (offers_of s₀ r₀ bs) ≡ None → sent_on c (offers_of s₁ r₁ bs) ≡ None
  sent_on-moves c [] e = refl
  sent_on-moves c (b ∷ bs) e =
      let parts = first_of-none (offer_sent_on c (offer_of s₀ r₀ (out-Branch b).io)) (sent_on c (offers_of s₀ r₀ bs)) e in
      none_first_of _ _ (offer_sent_on-moves c (out-Branch b).io parts.0) (sent_on-moves c bs parts.1)

  receives_on-moves : (c : ℕ) (bs : List Branch) → receives_on c (offers_of s₀ r₀ bs) ≡ receives_on c (offers_of s₁ r₁ bs)
  receives_on-moves c [] = refl
  receives_on-moves c (b ∷ bs) = ap₂ (λ x y. x || y) (offer_receives_on-moves c (out-Branch b).io) (receives_on-moves c bs)

  offers_of-moves : (bs : List Branch) → NoMore (offers_of s₀ r₀ bs) (offers_of s₁ r₁ bs)
  offers_of-moves bs = record { sends_nothing = λ c e. sent_on-moves c bs e; receives_nothing = λ c e. sym (receives_on-moves c bs) ∙ e }

-- ---- one process

at_end : (b₀ b₁ : Bool) (os ns : List Offer) → b₀ ≡ false → NoMore os ns →
    NoMore (if b₀ then [] else os) (if b₁ then [] else ns)
at_end true b₁ os ns e h = absurd (true≢false e)
at_end false true os ns e h = no_more_none os
at_end false false os ns e h = h

here-moves : (s : Store) (left d : Rational) (l : Layer) → is_due (bound_here s left l) ≡ false →
    let s₁ = moved_store s d l in
    NoMore (offers_here s (bound_here s left l) l) (offers_here s₁ (bound_here s₁ (left_after left d l) l) l)
here-moves s left d Stmt-F.Skip e = no_more_none []
here-moves s left d (Stmt-F.Assign x a) e = no_more_none []
here-moves s left d (Stmt-F.Log a) e = no_more_none []
here-moves s left d (Stmt-F.If test first second) e = no_more_none []
here-moves s left d (Stmt-F.Pick one other) e = no_more_none []
here-moves s left d (Stmt-F.Forever body) e = no_more_none []
here-moves s left d (Stmt-F.Loop test body) e = no_more_none []
here-moves s left d (Stmt-F.Wait time) e = no_more_none []
here-moves s left d (Stmt-F.Io io) e = no_more_same _
here-moves s left d (Stmt-F.Choice branches) e = no_more_same _
here-moves s left d (Stmt-F.Evolve rates domain branches) e =
    let s₁ = after s (rates_in rates s) d in
    at_end _ _ _ _ e (offers_of-moves s s₁ (rates_in rates s) (rates_in rates s₁) branches)

module _ (k₀ k₁ d : Rational) where
  moved_by_parts : (todo : List Stmt) (store : Store) (choices : ℕ) (mark : Mark) →
      let q : ProcessState = record { todo = todo; store = store; choices = choices; mark = mark } in
      wants q ≡ false → NoMore (post k₀ q).offers (post k₁ (moved d q)).offers
  moved_by_parts [] store choices Going e = no_more_none []
  moved_by_parts [] store choices (Arrived left) e = no_more_none []
  moved_by_parts (head ∷ rest) store choices Going e = no_more_none []
  moved_by_parts (head ∷ rest) store choices (Arrived left) e = here-moves store left d (out-Stmt head) e

  moved-no_more : (q : ProcessState) → wants q ≡ false → NoMore (post k₀ q).offers (post k₁ (moved d q)).offers
  moved-no_more q = moved_by_parts q.todo q.store q.choices q.mark

-- ---- all processes

-- no post offers on more channels than the post in its place
abbrev pub NoneMore : List Post → List Post → Type 0
NoneMore ps [] = Unit {0}
NoneMore [] (q ∷ qs) = ⊥
NoneMore (p ∷ ps) (q ∷ qs) = NoMore p.offers q.offers × NoneMore ps qs

numbered-none : (p : ℕ) (o : Option Rational) → numbered p o ≡ None → o ≡ None
numbered-none p None e = refl
numbered-none p (Some v) e = cc

sender-none : (c p : ℕ) (ps qs : List Post) → NoneMore ps qs → sender c p ps ≡ None → sender c p qs ≡ None
sender-none c p ps [] h e = refl
sender-none c p [] (q ∷ qs) h e = absurd h
sender-none c p (o ∷ ps) (q ∷ qs) h e =
    let parts = first_of-none (numbered p (sent_on c o.offers)) (sender c (p + 1) ps) e in
    let g = h.0.sends_nothing c (numbered-none p (sent_on c o.offers) parts.0) in
    none_first_of (numbered p (sent_on c q.offers)) (sender c (p + 1) qs) (ap (numbered p) g)
    (sender-none c (p + 1) ps qs h.1 parts.1)

receiving-none : (b : Bool) (p : ℕ) (o : Option ℕ) → (if b then Some p else o) ≡ None → (b ≡ false) × (o ≡ None)
receiving-none true p o e = cc
receiving-none false p o e = (refl, e)

receiver-none : (c p : ℕ) (ps qs : List Post) → NoneMore ps qs → receiver c p ps ≡ None → receiver c p qs ≡ None
receiver-none c p ps [] h e = refl
receiver-none c p [] (q ∷ qs) h e = absurd h
receiver-none c p (o ∷ ps) (q ∷ qs) h e =
    let parts = receiving-none (receives_on c o.offers) p (receiver c (p + 1) ps) e in
    ap (λ (b : Bool). if b then Some p else receiver c (p + 1) qs) (h.0.receives_nothing c parts.0)
    ∙ receiver-none c (p + 1) ps qs h.1 parts.1

meeting_by-none : (c : ℕ) (s : Option (ℕ × Rational)) (r : Option ℕ) → meeting_by c s r ≡ None →
    (s ≡ None) ⊎ (r ≡ None)
meeting_by-none c (Some s) (Some r) e = cc
meeting_by-none c (Some s) None e = inr refl
meeting_by-none c None r e = inl refl

pub none_meeting_by : (c : ℕ) (s : Option (ℕ × Rational)) (r : Option ℕ) → (s ≡ None) ⊎ (r ≡ None) →
    meeting_by c s r ≡ None
none_meeting_by c s r (inl e) = ap (λ x. meeting_by c x r) e
none_meeting_by c (Some s) r (inr e) = ap (λ x. meeting_by c (Some s) x) e
none_meeting_by c None r (inr e) = refl

meeting_on-none : (c : ℕ) (ps qs : List Post) → NoneMore ps qs → meeting_on c ps ≡ None → meeting_on c qs ≡ None
meeting_on-none c ps qs h e =
    none_meeting_by c (sender c 0 qs) (receiver c 0 qs)
    (⊎_elim (λ s. inl (sender-none c 0 ps qs h s)) (λ r. inr (receiver-none c 0 ps qs h r))
    (meeting_by-none c (sender c 0 ps) (receiver c 0 ps) e))

pub meeting_from-none : (c n : ℕ) (ps qs : List Post) → NoneMore ps qs → meeting_from c n ps ≡ None →
    meeting_from c n qs ≡ None
meeting_from-none c zero ps qs h e = refl
meeting_from-none c (suc n) ps qs h e =
    let parts = first_of-none (meeting_on c ps) (meeting_from (c + 1) n ps) e in
    none_first_of (meeting_on c qs) (meeting_from (c + 1) n qs) (meeting_on-none c ps qs h parts.0)
    (meeting_from-none (c + 1) n ps qs h parts.1)

-- ---- the law

resting : (b c : Bool) → (not b && c) ≡ true → (b ≡ false) × (c ≡ true)
resting true c e = cc
resting false c e = (refl, e)

posts-move : (k₀ k₁ d : Rational) (qs : List ProcessState) → rests qs ≡ true →
    NoneMore (map (post k₀) qs) (map (post k₁) (map (moved d) qs))
posts-move k₀ k₁ d [] h = tt
posts-move k₀ k₁ d (q ∷ qs) h =
    let r = resting (wants q) (rests qs) h in
    (moved-no_more k₀ k₁ d q r.0, posts-move k₀ k₁ d qs r.1)

pub delays_keep_quiet : DelaysKeepQuiet
delays_keep_quiet t c d e =
    let h = passing-quiet t c (Took d) e in
    meeting_from-none 0 (length t.system.channels) (posts c) (posts (delayed d c))
    (posts-move c.clock (c.clock +ℚ d) d c.processes h.resting)
    h.quiet

-- ---- a silent step

none_more_same : (ps : List Post) → NoneMore ps ps
none_more_same [] = tt
none_more_same (p ∷ ps) = (no_more_same p.offers, none_more_same ps)

posts-set : (clock : Rational) (qs : List ProcessState) (p : ℕ) (x : ProcessState) → (post clock x).offers ≡ [] →
    NoneMore (map (post clock) qs) (map (post clock) (slice_set qs p x))
posts-set clock [] p x e = tt
posts-set clock (q ∷ qs) zero x e =
    let os = (post clock q).offers in
    (subst (λ (ns : List Offer). NoMore os ns) (sym e) (no_more_none os), none_more_same (map (post clock) qs))
posts-set clock (q ∷ qs) (suc p) x e = (no_more_same (post clock q).offers, posts-set clock qs p x e)

-- a process that offers nothing makes no channel ready
pub quiet-set : (t : Task) (c : Configuration) (p : ℕ) (x : ProcessState) → (post c.clock x).offers ≡ [] →
    ready t c ≡ None → ready t (replaced c p x) ≡ None
quiet-set t c p x e h =
    meeting_from-none 0 (length t.system.channels) (posts c) (posts (replaced c p x))
    (posts-set c.clock c.processes p x e) h
