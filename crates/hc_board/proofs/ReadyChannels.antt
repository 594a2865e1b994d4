-- A channel has a meeting exactly where both of its ends are offered.
use Rattle.std.proofs.Common.{◌≡◌, ◌<◌, ◌+◌, ◌-◌, ℕ, suc, Bool, true, false, ◌&&◌, ◌||◌, List, [], ◌∷◌, Option, Some, None, is_some, if◌then◌else◌, refl, ap, ap₂, ◌∙◌, arith}
use Rattle.std.specs.List.{list_any}
use Rattle.hc_rational.specs.Words.{Rational}
use Rattle.hc_term.specs.declared.post.Post.{Post}
use Rattle.hc_term.specs.declared.post.Offer.{Offer}
use Rattle.hc_term.specs.Posts.{first_of, offer_sent_on, offer_receives_on, sent_on, receives_on, numbered, sender, receiver, meeting_by, meeting_on, meeting_from}
use Rattle.hc_term.specs.Together.{is_offer}
use Rattle.hc_board.specs.Index.{is_offered}

first-some : {A : Type 0} (a b : Option A) → is_some (first_of a b) ≡ (is_some a || is_some b)
first-some None b = refl
first-some (Some a) b = refl

numbered-some : (p : ℕ) (o : Option Rational) → is_some (numbered p o) ≡ is_some o
numbered-some p None = refl
numbered-some p (Some v) = refl

chosen-some : {A : Type 0} (b : Bool) (a : A) (o : Option A) → is_some (if b then Some a else o) ≡ (b || is_some o)
chosen-some true a o = refl
chosen-some false a o = refl

pub sends : (c : ℕ) (os : List Offer) → is_some (sent_on c os) ≡ list_any (is_offer true c) os
sends c [] = refl
sends c (o ∷ os) =
    first-some (offer_sent_on c o) (sent_on c os) ∙ ap (λ b. is_some (offer_sent_on c o) || b) (sends c os)

pub receives : (c : ℕ) (os : List Offer) → receives_on c os ≡ list_any (is_offer false c) os
receives c [] = refl
receives c (o ∷ os) = ap (λ b. offer_receives_on c o || b) (receives c os)

sender-offered : (c p : ℕ) (ps : List Post) → is_some (sender c p ps) ≡ is_offered true c ps
sender-offered c p [] = refl
sender-offered c p (q ∷ qs) =
    first-some (numbered p (sent_on c q.offers)) (sender c (p + 1) qs)
    ∙ ap₂ (λ a b. a || b) (numbered-some p (sent_on c q.offers) ∙ sends c q.offers) (sender-offered c (p + 1) qs)

receiver-offered : (c p : ℕ) (ps : List Post) → is_some (receiver c p ps) ≡ is_offered false c ps
receiver-offered c p [] = refl
receiver-offered c p (q ∷ qs) =
    chosen-some (receives_on c q.offers) p (receiver c (p + 1) qs)
    ∙ ap₂ (λ a b. a || b) (receives c q.offers) (receiver-offered c (p + 1) qs)

both-some : (c : ℕ) (s : Option (ℕ × Rational)) (r : Option ℕ) → is_some (meeting_by c s r) ≡ (is_some s && is_some r)
both-some c None r = refl
both-some c (Some s) None = refl
both-some c (Some s) (Some r) = refl

pub meeting-offered : (c : ℕ) (ps : List Post) → is_some (meeting_on c ps) ≡ (is_offered true c ps && is_offered false c ps)
meeting-offered c ps =
    both-some c (sender c 0 ps) (receiver c 0 ps) ∙ ap₂ (λ a b. a && b) (sender-offered c 0 ps) (receiver-offered c 0 ps)

-- ---- the search along the channels

pub is_none : {A : Type 0} (o : Option A) → is_some o ≡ false → o ≡ None
is_none None h = refl
is_none (Some a) h = cc

first-is : {A : Type 0} (o rest : Option A) → is_some o ≡ true → first_of o rest ≡ o
first-is None rest h = cc
first-is (Some a) rest h = refl

here : (c n : ℕ) (ps : List Post) → c < n → meeting_from c (n - c) ps ≡ first_of (meeting_on c ps) (meeting_from (c + 1) (n - (c + 1)) ps)
here c n ps below =
    let more : n - c ≡ suc (n - (c + 1)) = omega arith in
    ap (λ (m : ℕ). meeting_from c m ps) more

-- behind a channel that isn't ready the search goes on
pub meeting_from-next : (c n : ℕ) (ps : List Post) → c < n → (is_offered true c ps && is_offered false c ps) ≡ false →
    meeting_from c (n - c) ps ≡ meeting_from (c + 1) (n - (c + 1)) ps
meeting_from-next c n ps below none =
    here c n ps below
    ∙ ap (λ o. first_of o (meeting_from (c + 1) (n - (c + 1)) ps)) (is_none (meeting_on c ps) (meeting-offered c ps ∙ none))

-- at a ready channel it ends
pub meeting_from-found : (c n : ℕ) (ps : List Post) → c < n → (is_offered true c ps && is_offered false c ps) ≡ true →
    meeting_from c (n - c) ps ≡ meeting_on c ps
meeting_from-found c n ps below ready =
    here c n ps below ∙ first-is (meeting_on c ps) (meeting_from (c + 1) (n - (c + 1)) ps) (meeting-offered c ps ∙ ready)
