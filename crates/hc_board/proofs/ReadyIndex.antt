-- What the index tells of meetings.
use Rattle.std.proofs.Common.{◌≡◌, ◌↔◌, ◌<◌, ◌≤◌, ◌+◌, ◌-◌, ℕ, zero, suc, Bool, true, false, ◌&&◌, List, length, Option, Some, None, is_some, IsTrue, refl, sym, ap, ap₂, ◌∙◌, inl, inr, arith}
use Rattle.std.proofs.Math.ListN.{get_or}
use Rattle.std.proofs.lemmas.Bool.{cases_Bool}
use Rattle.std.proofs.lemmas.List.{get_or_default}
use Rattle.hc_limits.specs.Limits.{most_processes, most_channels}
use Rattle.hc_rational.specs.Words.{Rational}
use Rattle.hc_term.specs.declared.post.Offer.{Offer}
use Rattle.hc_term.specs.declared.post.Post.{Post}
use Rattle.hc_term.specs.Offers.{going_post}
use Rattle.hc_term.specs.Posts.{sent_on, meeting_on, meeting_from, first_meeting}
use Rattle.hc_board.specs.declared.index.Index.{Index}
use Rattle.hc_board.specs.Bits.{has, is_in, IsLeast}
use Rattle.hc_board.specs.MeetingBoard.{shown, Sends, Receives, IsReady}
use Rattle.hc_board.specs.Index.{is_offered, row, is_filled, IsIndexOf}
use Rattle.hc_board.proofs.ReadyChannels.{is_none, sends, receives, meeting-offered, meeting_from-next, meeting_from-found}
use Rattle.hc_board.proofs.BoardLaw.{on_found, on_ready, not_ready, is_none_ready}
use Rattle.hc_board.proofs.IndexOf.{offers_there, least_there, none_before, row_offered}

-- what a post that is there sends
pub sent_shown : (c : ℕ) (ps : List Post) (p : ℕ) (d : Post) (os : List Offer) (r : Option Rational) → p < length ps →
    os ≡ (get_or ps p d).offers → r ≡ sent_on c os → sent_on c (shown ps p).offers ≡ r
sent_shown c ps p d os r there e told =
    ap (λ (q : Post). sent_on c q.offers) (get_or_default ps p going_post d there) ∙ ap (sent_on c) (sym e) ∙ sym told

module _ (o : Index) (ps : List Post) (t : IsIndexOf o ps) (within : length ps ≤ most_processes) where
  -- ---- one channel

  module _ (c : ℕ) (low : c < most_channels) where
    ready_is : is_in o.ready c ≡ (is_offered true c ps && is_offered false c ps)
    ready_is = t.whole.ready c low ∙ ap₂ (λ a b. a && b) (row_offered o ps t within true c low) (row_offered o ps t within false c low)

    is_meeting : is_some (meeting_on c ps) ≡ is_in o.ready c
    is_meeting = meeting-offered c ps ∙ sym ready_is

    pub nobody : is_in o.ready c ≡ false → meeting_on c ps ≡ None
    nobody e = is_none (meeting_on c ps) (is_meeting ∙ e)

    -- a channel is marked exactly where it is ready
    pub ready_exactly : IsTrue (is_in o.ready c) ↔ IsReady c ps
    ready_exactly = (
      λ e. on_ready c ps (meeting_on c ps) refl (is_meeting ∙ e),
      λ r. elim (cases_Bool (is_in o.ready c)) [
        | inl e ↦ e
        | inr e ↦ absurd (not_ready c ps (nobody e) r)
      ],
    )

    empty_sends : row true o c ≡ 0 → meeting_on c ps ≡ None
    empty_sends e =
        is_none (meeting_on c ps)
        (meeting-offered c ps
        ∙ ap (λ (b : Bool). b && is_offered false c ps) (sym (row_offered o ps t within true c low) ∙ ap is_filled e))

    and_false : (b : Bool) → (b && false) ≡ false
    and_false true = refl
    and_false false = refl

    empty_receives : row false o c ≡ 0 → meeting_on c ps ≡ None
    empty_receives e =
        is_none (meeting_on c ps)
        (meeting-offered c ps
        ∙ ap (λ (b : Bool). is_offered true c ps && b) (sym (row_offered o ps t within false c low) ∙ ap is_filled e)
        ∙ and_false (is_offered true c ps))

    -- an empty row at one end
    pub empty_end : (sending : Bool) → row sending o c ≡ 0 → meeting_on c ps ≡ None
    empty_end true e = empty_sends e
    empty_end false e = empty_receives e

    pub least_sends : (p : ℕ) → IsLeast 64 (has (row true o c)) p → is_some (sent_on c (shown ps p).offers) ≡ true
    least_sends p l = sends c (shown ps p).offers ∙ least_there o ps t within true c low p l

    -- the least process of a row has a post
    pub has_post : (sending : Bool) (p : ℕ) → IsLeast 64 (has (row sending o c)) p → p < length ps
    has_post sending p l = offers_there o ps t within sending c low p (least_there o ps t within sending c low p l)

    sends_first : (p : ℕ) (v : Rational) → IsLeast 64 (has (row true o c)) p → sent_on c (shown ps p).offers ≡ Some v → Sends c ps p v
    sends_first p v l e = record {
      there = has_post true p l;
      offers = e;
      first = λ i less. is_none (sent_on c (shown ps i).offers) (sends c (shown ps i).offers ∙ none_before o ps t within true c low p l i less);
    }

    receives_first : (p : ℕ) → IsLeast 64 (has (row false o c)) p → Receives c ps p
    receives_first p l = record {
      there = has_post false p l;
      offers = receives c (shown ps p).offers ∙ least_there o ps t within false c low p l;
      first = λ i less. receives c (shown ps i).offers ∙ none_before o ps t within false c low p l i less;
    }

    -- the least processes of both rows meet
    pub they_meet : (p r : ℕ) (v : Rational) → IsLeast 64 (has (row true o c)) p → IsLeast 64 (has (row false o c)) r →
        sent_on c (shown ps p).offers ≡ Some v → meeting_on c ps ≡ Some (record { channel = c; sender = p; receiver = r; value = v })
    they_meet p r v s k e = on_found c ps p r v (sends_first p v s e) (receives_first r k)

  -- ---- the least channel

  module _ (n : ℕ) (most : n ≤ most_channels) where
    -- none of so many channels is marked
    pub none_of : ((c : ℕ) → c < n → is_in o.ready c ≡ false) → first_meeting n ps ≡ None
    none_of h = is_none_ready n ps (λ c low. not_ready c ps (nobody c (omega (arith, most, low)) (h c low)))

    next : (k : ℕ) → k + 1 ≡ suc k
    next k = omega arith

    walked : (k c : ℕ) → k ≤ c → c < n → ((i : ℕ) → i < c → is_in o.ready i ≡ false) → first_meeting n ps ≡ meeting_from k (n - k) ps
    walked zero c up low h = let same : n ≡ n - 0 = omega arith in ap (λ (m : ℕ). meeting_from 0 m ps) same
    walked (suc k) c up low h =
        let within_n : k < n = omega (arith, up, low) in
        walked k c (omega (arith, up)) low h
        ∙ meeting_from-next k n ps within_n (sym (ready_is k (omega (arith, most, within_n))) ∙ h k (omega (arith, up)))
        ∙ ap (λ (m : ℕ). meeting_from m (n - m) ps) (next k)

    -- on the least that is marked they meet
    pub first_of_least : (c : ℕ) → c < n → is_in o.ready c ≡ true → ((i : ℕ) → i < c → is_in o.ready i ≡ false) →
        first_meeting n ps ≡ meeting_on c ps
    first_of_least c low e h =
        walked c c (omega arith) low h ∙ meeting_from-found c n ps low (sym (ready_is c (omega (arith, most, low))) ∙ e)
