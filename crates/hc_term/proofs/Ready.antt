-- The meeting that is found on a list of posts is one that may happen.
use Rattle.std.proofs.Common.{◌≡◌, refl, ap, ◌∙◌, subst, ℕ, zero, suc, ◌+◌, ◌<◌, Bool, true, false, if◌then◌else◌, List, [], ◌∷◌, length, slice_get, Option, Some, None, arith}
use Rattle.hc_rational.specs.Words.{Rational}
use Rattle.hc_term.specs.declared.task.Task.{Task}
use Rattle.hc_term.specs.declared.run.Step.TheVariants.{Comm}
use Rattle.hc_term.specs.declared.post.Post.{Post}
use Rattle.hc_term.specs.declared.model.Meeting.{Meeting}
use Rattle.hc_term.specs.declared.model.Configuration.{Configuration}
use Rattle.hc_term.specs.Posts.{first_of, sent_on, receives_on, numbered, sender, receiver, meeting_by, meeting_on, meeting_from}
use Rattle.hc_term.specs.Step.{posts, ready, met, SendsAt, ReceivesAt, Meets, StepTo}
use Rattle.hc_term.proofs.Places.{StandsAt, stands_here, stands_later, stands_at}

-- ---- the ends

-- the process with this number sends this value on channel c
abbrev Sends : ℕ → ℕ → List Post → ℕ × Rational → Type 0
Sends c from ps s = StandsAt (SendsAt c s.1) from ps s.0

sends_next : (c from : ℕ) (q : Post) (qs : List Post) (s : ℕ × Rational) (g : Option Rational) →
    sent_on c q.offers ≡ g → (sender c (from + 1) qs ≡ Some s → Sends c (from + 1) qs s) →
    first_of (numbered from g) (sender c (from + 1) qs) ≡ Some s → Sends c from (q ∷ qs) s
sends_next c from q qs s (Some v) h ih e =
    let same : (from, v) ≡ s = cc in
    subst (λ x. Sends c from (q ∷ qs) x) same (stands_here (SendsAt c v) from q qs h)
sends_next c from q qs s None h ih e = stands_later (SendsAt c s.1) from s.0 q qs (ih e)

sender-sends : (c from : ℕ) (ps : List Post) (s : ℕ × Rational) → sender c from ps ≡ Some s → Sends c from ps s
sender-sends c from [] s e = cc
sender-sends c from (q ∷ qs) s e =
    sends_next c from q qs s (sent_on c q.offers) refl (sender-sends c (from + 1) qs s) e

receives_next : (c from : ℕ) (q : Post) (qs : List Post) (r : ℕ) (b : Bool) → receives_on c q.offers ≡ b →
    (receiver c (from + 1) qs ≡ Some r → StandsAt (ReceivesAt c) (from + 1) qs r) →
    (if b then Some from else receiver c (from + 1) qs) ≡ Some r → StandsAt (ReceivesAt c) from (q ∷ qs) r
receives_next c from q qs r true h ih e =
    let same : from ≡ r = cc in
    subst (λ k. StandsAt (ReceivesAt c) from (q ∷ qs) k) same (stands_here (ReceivesAt c) from q qs h)
receives_next c from q qs r false h ih e = stands_later (ReceivesAt c) from r q qs (ih e)

receiver-receives : (c from : ℕ) (ps : List Post) (r : ℕ) → receiver c from ps ≡ Some r →
    StandsAt (ReceivesAt c) from ps r
receiver-receives c from [] r e = cc
receiver-receives c from (q ∷ qs) r e =
    receives_next c from q qs r (receives_on c q.offers) refl (receiver-receives c (from + 1) qs r) e

-- ---- the meeting

-- both ends of the meeting's channel are offered
record Joins (ps : List Post) (m : Meeting) : Type 0 where
  gives : SendsAt m.channel m.value (slice_get ps m.sender)
  takes : ReceivesAt m.channel (slice_get ps m.receiver)

meeting_by-joins : (c : ℕ) (ps : List Post) (m : Meeting) (s : Option (ℕ × Rational)) (r : Option ℕ) →
    sender c 0 ps ≡ s → receiver c 0 ps ≡ r → meeting_by c s r ≡ Some m → (m.channel ≡ c) × Joins ps m
meeting_by-joins c ps m (Some s) (Some r) e f h =
    let made : Meeting = record { channel = c; sender = s.0; receiver = r; value = s.1 } in
    let same : made ≡ m = cc in
    let gives = stands_at (SendsAt c s.1) ps s.0 (sender-sends c 0 ps s e) in
    let takes = stands_at (ReceivesAt c) ps r (receiver-receives c 0 ps r f) in
    subst (λ (x : Meeting). (x.channel ≡ c) × Joins ps x) same (refl, record { gives = gives; takes = takes })
meeting_by-joins c ps m (Some s) None e f h = cc
meeting_by-joins c ps m None r e f h = cc

meeting_on-joins : (c : ℕ) (ps : List Post) (m : Meeting) → meeting_on c ps ≡ Some m → (m.channel ≡ c) × Joins ps m
meeting_on-joins c ps m = meeting_by-joins c ps m (sender c 0 ps) (receiver c 0 ps) refl refl

meeting_next : (c n : ℕ) (ps : List Post) (m : Meeting) (o : Option Meeting) → meeting_on c ps ≡ o →
    (meeting_from (c + 1) n ps ≡ Some m → (m.channel < c + 1 + n) × Joins ps m) →
    first_of o (meeting_from (c + 1) n ps) ≡ Some m → (m.channel < c + suc n) × Joins ps m
meeting_next c n ps m (Some f) h ih e =
    let same : f ≡ m = cc in
    let j = meeting_on-joins c ps m (h ∙ ap Some same) in
    (omega (arith, j.0), j.1)
meeting_next c n ps m None h ih e = let j = ih e in (omega (arith, j.0), j.1)

meeting_from-joins : (c n : ℕ) (ps : List Post) (m : Meeting) → meeting_from c n ps ≡ Some m →
    (m.channel < c + n) × Joins ps m
meeting_from-joins c zero ps m e = cc
meeting_from-joins c (suc n) ps m e =
    meeting_next c n ps m (meeting_on c ps) refl (meeting_from-joins (c + 1) n ps m) e

-- the meeting on the ready channel: its channel is in range, and both its ends are offered
pub ready_meets : (t : Task) (c : Configuration) (m : Meeting) → ready t c ≡ Some m →
    (m.channel < length t.system.channels) × Meets m c
ready_meets t c m e =
    let j = meeting_from-joins 0 (length t.system.channels) (posts c) m e in
    (omega (arith, j.0), record { gives = j.1.gives; takes = j.1.takes })

-- the ready channel may be communicated on
pub ready-steps : (t : Task) (c : Configuration) (m : Meeting) → ready t c ≡ Some m →
    StepTo t c (Comm m.channel m.value) (met m c)
ready-steps t c m e =
    let j = ready_meets t c m e in (m, refl, refl, j.0, j.1, refl)
