-- The first way on a channel leads where the definition of a communication does.
use Rattle.std.proofs.Common.{◌≡◌, ◌≢◌, refl, sym, subst, ℕ, ◌<◌, Bool, true, false, ◌||◌, if◌then◌else◌, ◌==◌, IsTrue, List, [], ◌∷◌, ◌++◌, length, Option, Some, None}
use Rattle.std.specs.Prelude.{slice_get, slice_set, nat_lt}
use Rattle.std.specs.List.{list_all}
use Rattle.std.proofs.lemmas.Bool.{ltb-true, false≢true}
use Rattle.hc_rational.specs.Words.{Rational}
use Rattle.hc_term.specs.declared.stmt.Io.{Io}
use Rattle.hc_term.specs.declared.stmt.Io.TheVariants.{Send, Receive}
use Rattle.hc_term.specs.declared.post.Offer.{Offer}
use Rattle.hc_term.specs.declared.stmt.Stmt.{Stmt, out-Stmt}
use Rattle.hc_term.specs.declared.stmt.Stmt.TheOpen.{Stmt-F}
use Rattle.hc_term.specs.declared.stmt.Branch.{Branch, out-Branch}
use Rattle.hc_term.specs.declared.model.Mark.{Mark}
use Rattle.hc_term.specs.declared.model.Mark.TheVariants.{Going, Arrived}
use Rattle.hc_term.specs.declared.model.ProcessState.{ProcessState}
use Rattle.hc_term.specs.Value.{Store}
use Rattle.hc_term.specs.Motion.{Rates, rates_in}
use Rattle.hc_term.specs.Process.{Layer, bound_here, bound_at, is_due}
use Rattle.hc_term.specs.Profile.{is_io, is_evolution, are_guards}
use Rattle.hc_term.specs.Offers.{offer_of, offers_of, offers_here, post_at}
use Rattle.hc_term.specs.Posts.{first_of, offer_sent_on, sent_on, offer_receives_on, receives_on}
use Rattle.hc_term.specs.Communication as comm
use Rattle.hc_code.specs.declared.code.Way.{Way}
use Rattle.hc_code.specs.declared.code.Instr.{Instr}
use Rattle.hc_code.specs.declared.code.Instr.TheVariants as instr
use Rattle.hc_code.specs.Kept.{ios_of, is_instr}
use Rattle.hc_code.specs.Stands.{Table, At, AgreesHere, WaysAgree, Agrees}
use Rattle.hc_code.proofs.Growing as bool
use Rattle.hc_step.specs.declared.meeting.Taken.{Taken}
use Rattle.hc_step.specs.Usable.{has_places, is_usable_code}
use Rattle.hc_step.specs.Ways.{ways_of, place_sent_by, sent_way, taken_behind, received_way}
use Rattle.hc_step.proofs.Sees.{rules_at, places_at}
use Rattle.hc_step.proofs.Guards.{guards}

-- ---- places and variables are in range

either : {A : Type 0} (P : Type 0) (o r : Option A) (a : A) → first_of o r ≡ Some a → (o ≡ Some a → P) → (r ≡ Some a → P) → P
either P (Some b) r a e f g = f e
either P None r a e f g = g e

place_by : (b : Bool) (next n : ℕ) → (if b then Some next else None) ≡ Some n → next ≡ n
place_by true next n e = cc
place_by false next n e = cc

place_of : (c next n : ℕ) (io : Io) → place_sent_by c next io ≡ Some n → next ≡ n
place_of c next n (Send channel value) e = place_by (channel == c) next n e
place_of c next n (Receive channel variable) e = cc

pub sent_within : (len c n : ℕ) (ways : List Way) → IsTrue (list_all (λ w. nat_lt w.next len) ways) → sent_way c ways ≡ Some n → n < len
sent_within len c n [] h e = cc
sent_within len c n (w ∷ ws) h e =
    either (n < len) (place_sent_by c w.next w.io) (sent_way c ws) n e
    (λ f. subst (λ (p : ℕ). p < len) (place_of c w.next n w.io f) (ltb-true w.next len (bool.first_of (nat_lt w.next len) (list_all (λ w. nat_lt w.next len) ws) h)))
    (λ f. sent_within len c n ws (bool.second_of (nat_lt w.next len) (list_all (λ w. nat_lt w.next len) ws) h) f)

-- what is set and where the code goes on
pub record AreInRange (n len : ℕ) (k : Taken) : Type 0 where
  pub variable : k.variable < n
  pub place : k.next < len

taken_by : (n len : ℕ) (b : Bool) (j k : Taken) → AreInRange n len j → (if b then Some j else None) ≡ Some k → AreInRange n len k
taken_by n len true j k h e =
    let same : j ≡ k = cc in
    subst (λ (x : Taken). AreInRange n len x) same h
taken_by n len false j k h e = cc

taken_of : (channels n len c next : ℕ) (k : Taken) (io : Io) → IsTrue (is_io channels n io) → next < len → taken_behind c next io ≡ Some k → AreInRange n len k
taken_of channels n len c next k (Send channel value) h l e = cc
taken_of channels n len c next k (Receive channel variable) h l e =
    taken_by n len (channel == c) (record { variable = variable; next = next }) k
    (record { variable = ltb-true variable n (bool.second_of (nat_lt channel channels) (nat_lt variable n) h); place = l }) e

pub received_within : (channels n len c : ℕ) (k : Taken) (ways : List Way) → IsTrue (list_all (λ w. is_io channels n w.io) ways) →
    IsTrue (list_all (λ w. nat_lt w.next len) ways) → received_way c ways ≡ Some k → AreInRange n len k
received_within channels n len c k [] v h e = cc
received_within channels n len c k (w ∷ ws) v h e =
    either (AreInRange n len k) (taken_behind c w.next w.io) (received_way c ws) k e
    (λ f. taken_of channels n len c w.next k w.io (bool.first_of (is_io channels n w.io) (list_all (λ w. is_io channels n w.io) ws) v)
    (ltb-true w.next len (bool.first_of (nat_lt w.next len) (list_all (λ w. nat_lt w.next len) ws) h)) f)
    (λ f. received_within channels n len c k ws (bool.second_of (is_io channels n w.io) (list_all (λ w. is_io channels n w.io) ws) v)
    (bool.second_of (nat_lt w.next len) (list_all (λ w. nat_lt w.next len) ws) h) f)

pub sent_in_range : (len c m : ℕ) (i : Instr) → IsTrue (has_places len i) → sent_way c (ways_of i) ≡ Some m → m < len
sent_in_range len c m (instr.Meet ways) p e = sent_within len c m ways p e
sent_in_range len c m (instr.Evolve rates test ways next) p e =
    sent_within len c m ways (bool.first_of (list_all (λ w. nat_lt w.next len) ways) (nat_lt next len) p) e
sent_in_range len c m (instr.Skip next) p e = cc
sent_in_range len c m (instr.Again next) p e = cc
sent_in_range len c m (instr.Assign x value next) p e = cc
sent_in_range len c m (instr.Log value next) p e = cc
sent_in_range len c m (instr.Test test first second) p e = cc
sent_in_range len c m (instr.Pick left right) p e = cc
sent_in_range len c m (instr.Wait value next) p e = cc
sent_in_range len c m instr.End p e = cc

pub received_in_range : (channels n len c : ℕ) (k : Taken) (i : Instr) → IsTrue (is_instr channels n i) → IsTrue (has_places len i) →
    received_way c (ways_of i) ≡ Some k → AreInRange n len k
received_in_range channels n len c k (instr.Meet ways) v p e = received_within channels n len c k ways (guards channels n ways v).ruled p e
received_in_range channels n len c k (instr.Evolve rates test ways next) v p e =
    received_within channels n len c k ways
    (guards channels n ways (bool.second_of (is_evolution n rates test (ios_of ways)) (are_guards channels n (ios_of ways)) v)).ruled
    (bool.first_of (list_all (λ w. nat_lt w.next len) ways) (nat_lt next len) p) e
received_in_range channels n len c k (instr.Skip next) v p e = cc
received_in_range channels n len c k (instr.Again next) v p e = cc
received_in_range channels n len c k (instr.Assign x value next) v p e = cc
received_in_range channels n len c k (instr.Log value next) v p e = cc
received_in_range channels n len c k (instr.Test test first second) v p e = cc
received_in_range channels n len c k (instr.Pick left right) v p e = cc
received_in_range channels n len c k (instr.Wait value next) v p e = cc
received_in_range channels n len c k instr.End v p e = cc

-- ---- sending

-- a place that is found and stands for these statements
pub record LeadsBehind (t : Table) (found : Option ℕ) (todo : List Stmt) : Type 0 where
  pub next : ℕ
  pub is : found ≡ Some next
  pub at : At t next todo

module _ (t : Table) (c : ℕ) (s : Store) (r : Rates) (rest : List Stmt) where
  sent_if : (b : Bool) (v : Rational) (next : ℕ) (front other : List Stmt) (others : Option Rational) (later : Option ℕ) → At t next (front ++ rest) →
      (others ≢ None → LeadsBehind t later (other ++ rest)) → first_of (if b then Some v else None) others ≢ None →
      LeadsBehind t (first_of (if b then Some next else None) later) ((if b then front else other) ++ rest)
  sent_if true v next front other others later at ih h = record { next = next; is = refl; at = at }
  sent_if false v next front other others later at ih h = ih h

  sent_step : (io : Io) (next : ℕ) (front other : List Stmt) (others : Option Rational) (later : Option ℕ) → At t next (front ++ rest) →
      (others ≢ None → LeadsBehind t later (other ++ rest)) → first_of (offer_sent_on c (offer_of s r io)) others ≢ None →
      LeadsBehind t (first_of (place_sent_by c next io) later) (comm.if_sends c io front other ++ rest)
  sent_step (Send channel value) next front other others later at ih h = sent_if (channel == c) _ next front other others later at ih h
  sent_step (Receive channel variable) next front other others later at ih h = ih h

  ways_sent : (ws : List Way) (bs : List Branch) → WaysAgree t rest ws bs → sent_on c (offers_of s r bs) ≢ None →
      LeadsBehind t (sent_way c ws) (comm.sent_branch c bs ++ rest)
  ways_sent [] [] w h = absurd (h refl)
  ways_sent [] (b ∷ bs) w h = absurd w
  ways_sent (x ∷ ws) [] w h = absurd w
  ways_sent (x ∷ ws) (b ∷ bs) w h =
      subst (λ (io : Io). LeadsBehind t (first_of (place_sent_by c x.next io) (sent_way c ws)) (comm.sent_branch c (b ∷ bs) ++ rest)) (sym w.0)
      (sent_step (out-Branch b).io x.next (out-Branch b).body (comm.sent_branch c bs) (sent_on c (offers_of s r bs)) (sent_way c ws) w.1
      (ways_sent ws bs w.2) h)

  abbrev nothing : List Stmt
  nothing = []

  nothing_by : (b : Bool) → (if b then nothing else nothing) ≡ nothing
  nothing_by true = refl
  nothing_by false = refl

  nothing_in_front : (io : Io) → comm.if_sends c io nothing nothing ≡ nothing
  nothing_in_front (Send channel value) = nothing_by (channel == c)
  nothing_in_front (Receive channel variable) = refl

  one_sent : (io : Io) (next : ℕ) → At t next rest → sent_on c (offer_of s r io ∷ []) ≢ None →
      LeadsBehind t (sent_way c (record { io = io; next = next } ∷ [])) rest
  one_sent io next at h =
      subst (λ (front : List Stmt). LeadsBehind t (sent_way c (record { io = io; next = next } ∷ [])) (front ++ rest)) (nothing_in_front io)
      (sent_step io next [] [] None None at (λ n. absurd (n refl)) h)

unless_due : (c : ℕ) (due : Bool) (os : List Offer) → sent_on c (if due then [] else os) ≢ None → sent_on c os ≢ None
unless_due c true os h = absurd (h refl)
unless_due c false os h = h

sent_here : (t : Table) (c : ℕ) (s : Store) (b : Option Rational) (i : Instr) (head : Stmt) (rest : List Stmt) (l : Layer) →
    AgreesHere t i head rest l → sent_on c (offers_here s b l) ≢ None → LeadsBehind t (sent_way c (ways_of i)) (comm.sent_here c l ++ rest)
sent_here t c s b i head rest (Stmt-F.Io io) h g =
    subst (λ (j : Instr). LeadsBehind t (sent_way c (ways_of j)) rest) (sym h.1) (one_sent t c s [] rest io h.0 h.2 g)
sent_here t c s b i head rest (Stmt-F.Choice bs) h g =
    subst (λ (j : Instr). LeadsBehind t (sent_way c (ways_of j)) (comm.sent_branch c bs ++ rest)) (sym h.1) (ways_sent t c s [] rest h.0 bs h.2 g)
sent_here t c s b i head rest (Stmt-F.Evolve rates test bs) h g =
    let r = rates_in rates s in
    subst (λ (j : Instr). LeadsBehind t (sent_way c (ways_of j)) (comm.sent_branch c bs ++ rest)) (sym h.2)
    (ways_sent t c s r rest h.0 bs h.3 (unless_due c (is_due b) (offers_of s r bs) g))
sent_here t c s b i head rest Stmt-F.Skip h g = absurd (g refl)
sent_here t c s b i head rest (Stmt-F.Assign x e) h g = absurd (g refl)
sent_here t c s b i head rest (Stmt-F.Log e) h g = absurd (g refl)
sent_here t c s b i head rest (Stmt-F.Wait e) h g = absurd (g refl)
sent_here t c s b i head rest (Stmt-F.If test first second) h g = absurd (g refl)
sent_here t c s b i head rest (Stmt-F.Loop test body) h g = absurd (g refl)
sent_here t c s b i head rest (Stmt-F.Pick left right) h g = absurd (g refl)
sent_here t c s b i head rest (Stmt-F.Forever body) h g = absurd (g refl)

-- where a process sends that offers to send on the channel
pub sent_leads : (t : Table) (c : ℕ) (clock : Rational) (s : Store) (m : Mark) (todo : List Stmt) (i : Instr) → Agrees t i todo →
    sent_on c (post_at clock s (bound_at s m todo) m todo).offers ≢ None → LeadsBehind t (sent_way c (ways_of i)) (comm.sent_at c todo)
sent_leads t c clock s m [] i h g = absurd (g refl)
sent_leads t c clock s Going (head ∷ rest) i h g = absurd (g refl)
sent_leads t c clock s (Arrived left) (head ∷ rest) i h g = sent_here t c s (bound_here s left (out-Stmt head)) i head rest (out-Stmt head) h g

-- ---- receiving

-- a way that is found, sets this variable and goes on at these statements
pub record TakesBehind (t : Table) (found : Option Taken) (variable : ℕ) (todo : List Stmt) : Type 0 where
  pub taken : Taken
  pub is : found ≡ Some taken
  pub sets : taken.variable ≡ variable
  pub at : At t taken.next todo

abbrev Behind : Table → Option Taken → comm.Taken → List Stmt → Type 0
Behind t found k rest = TakesBehind t found k.0 (k.1 ++ rest)

module _ (t : Table) (c : ℕ) (s : Store) (r : Rates) (rest : List Stmt) where
  received_if : (b : Bool) (variable next : ℕ) (front : List Stmt) (other : comm.Taken) (others : Bool) (later : Option Taken) → At t next (front ++ rest) →
      (others ≡ true → Behind t later other rest) → (b || others) ≡ true →
      Behind t (first_of (if b then Some (record { variable = variable; next = next }) else None) later) (if b then (variable, front) else other) rest
  received_if true variable next front other others later at ih h =
      record { taken = record { variable = variable; next = next }; is = refl; sets = refl; at = at }
  received_if false variable next front other others later at ih h = ih h

  received_step : (io : Io) (next : ℕ) (front : List Stmt) (other : comm.Taken) (others : Bool) (later : Option Taken) → At t next (front ++ rest) →
      (others ≡ true → Behind t later other rest) → (offer_receives_on c (offer_of s r io) || others) ≡ true →
      Behind t (first_of (taken_behind c next io) later) (comm.if_receives c io front other) rest
  received_step (Send channel value) next front other others later at ih h = ih h
  received_step (Receive channel variable) next front other others later at ih h = received_if (channel == c) variable next front other others later at ih h

  ways_received : (ws : List Way) (bs : List Branch) → WaysAgree t rest ws bs → receives_on c (offers_of s r bs) ≡ true →
      Behind t (received_way c ws) (comm.received_branch c bs) rest
  ways_received [] [] w h = absurd (false≢true h)
  ways_received [] (b ∷ bs) w h = absurd w
  ways_received (x ∷ ws) [] w h = absurd w
  ways_received (x ∷ ws) (b ∷ bs) w h =
      subst (λ (io : Io). Behind t (first_of (taken_behind c x.next io) (received_way c ws)) (comm.received_branch c (b ∷ bs)) rest) (sym w.0)
      (received_step (out-Branch b).io x.next (out-Branch b).body (comm.received_branch c bs) (receives_on c (offers_of s r bs)) (received_way c ws) w.1
      (ways_received ws bs w.2) h)

receives_unless_due : (c : ℕ) (due : Bool) (os : List Offer) → receives_on c (if due then [] else os) ≡ true → receives_on c os ≡ true
receives_unless_due c true os h = absurd (false≢true h)
receives_unless_due c false os h = h

received_here : (t : Table) (c : ℕ) (s : Store) (b : Option Rational) (i : Instr) (head : Stmt) (rest : List Stmt) (l : Layer) →
    AgreesHere t i head rest l → receives_on c (offers_here s b l) ≡ true → Behind t (received_way c (ways_of i)) (comm.received_here c l) rest
received_here t c s b i head rest (Stmt-F.Io io) h g =
    subst (λ (j : Instr). Behind t (received_way c (ways_of j)) (comm.if_receives c io [] (0, [])) rest) (sym h.1)
    (received_step t c s [] rest io h.0 [] (0, []) false None h.2 (λ e. absurd (false≢true e)) g)
received_here t c s b i head rest (Stmt-F.Choice bs) h g =
    subst (λ (j : Instr). Behind t (received_way c (ways_of j)) (comm.received_branch c bs) rest) (sym h.1) (ways_received t c s [] rest h.0 bs h.2 g)
received_here t c s b i head rest (Stmt-F.Evolve rates test bs) h g =
    let r = rates_in rates s in
    subst (λ (j : Instr). Behind t (received_way c (ways_of j)) (comm.received_branch c bs) rest) (sym h.2)
    (ways_received t c s r rest h.0 bs h.3 (receives_unless_due c (is_due b) (offers_of s r bs) g))
received_here t c s b i head rest Stmt-F.Skip h g = absurd (false≢true g)
received_here t c s b i head rest (Stmt-F.Assign x e) h g = absurd (false≢true g)
received_here t c s b i head rest (Stmt-F.Log e) h g = absurd (false≢true g)
received_here t c s b i head rest (Stmt-F.Wait e) h g = absurd (false≢true g)
received_here t c s b i head rest (Stmt-F.If test first second) h g = absurd (false≢true g)
received_here t c s b i head rest (Stmt-F.Loop test body) h g = absurd (false≢true g)
received_here t c s b i head rest (Stmt-F.Pick left right) h g = absurd (false≢true g)
received_here t c s b i head rest (Stmt-F.Forever body) h g = absurd (false≢true g)

-- what a process receives that offers to receive on the channel: the definition sets this variable and goes on at these statements
pub record Receives (t : Table) (c : ℕ) (v : Rational) (p : ProcessState) (todo : List Stmt) (found : Option Taken) : Type 0 where
  pub variable : ℕ
  pub rest : List Stmt
  pub same : comm.received_at c v p todo ≡ record p { todo = rest; store = slice_set p.store variable v; mark = Going }
  pub takes : TakesBehind t found variable rest

pub received_leads : (t : Table) (c : ℕ) (clock v : Rational) (p : ProcessState) (s : Store) (m : Mark) (todo : List Stmt) (i : Instr) →
    Agrees t i todo → receives_on c (post_at clock s (bound_at s m todo) m todo).offers ≡ true → Receives t c v p todo (received_way c (ways_of i))
received_leads t c clock v p s m [] i h g = absurd (false≢true g)
received_leads t c clock v p s Going (head ∷ rest) i h g = absurd (false≢true g)
received_leads t c clock v p s (Arrived left) (head ∷ rest) i h g = record {
  variable = (comm.received_here c (out-Stmt head)).0;
  rest = (comm.received_here c (out-Stmt head)).1 ++ rest;
  same = refl;
  takes = received_here t c s (bound_here s left (out-Stmt head)) i head rest (out-Stmt head) h g;
}

-- ---- what a usable code keeps

pub sent_place : (n place c m : ℕ) (code : List Instr) (i : Instr) → IsTrue (is_usable_code n code) → slice_get code place ≡ Some i →
    sent_way c (ways_of i) ≡ Some m → m < length code
sent_place n place c m code i u at e = sent_in_range (length code) c m i (places_at n code place i u at) e

pub received_place : (n place c : ℕ) (k : Taken) (code : List Instr) (i : Instr) → IsTrue (is_usable_code n code) → slice_get code place ≡ Some i →
    received_way c (ways_of i) ≡ Some k → AreInRange n (length code) k
received_place n place c k code i u at e =
    let ruled = rules_at n n code place i u at refl in
    received_in_range ruled.0 n (length code) c k i ruled.1 (places_at n code place i u at) e
