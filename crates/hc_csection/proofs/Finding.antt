-- What a thread will take over stands for its process behind a pass too.
use Rattle.std.specs.Prelude.{◌≡◌, ◌≢◌, ◌<◌, ◌+◌, ◌*◌, ◌==◌, ◌%◌, ℕ, zero, suc, Bool, true, false, ◌||◌, if◌then◌else◌, List, [], ◌∷◌, slice_get, ℤ, pos, Option, Some, None, is_some}
use Rattle.std.specs.List.{list_any}
use Rattle.std.proofs.Common.{refl, sym, ap, ◌∙◌, subst, arith, true≢false, inl, inr}
use Rattle.std.proofs.lemmas.Option.{same_Some, slice_get_within}
use Rattle.hc_rational.specs.Words.{Rational}
use Rattle.hc_term.specs.declared.task.Task.{Task}
use Rattle.hc_term.specs.declared.stmt.Stmt.{Stmt}
use Rattle.hc_term.specs.declared.post.Post.{Post}
use Rattle.hc_term.specs.declared.post.Offer.{Offer}
use Rattle.hc_term.specs.declared.post.Offer.TheVariants as offer
use Rattle.hc_term.specs.declared.post.Phase.{Phase}
use Rattle.hc_term.specs.declared.post.Phase.TheVariants as phase
use Rattle.hc_term.specs.declared.model.Mark.{Mark}
use Rattle.hc_term.specs.declared.model.Mark.TheVariants.{Going}
use Rattle.hc_term.specs.declared.model.ProcessState.{ProcessState}
use Rattle.hc_term.specs.declared.model.Configuration.{Configuration}
use Rattle.hc_term.specs.Process.{bound, is_done}
use Rattle.hc_term.specs.Offers.{post, post_at, going_post}
use Rattle.hc_term.specs.Communication.{sent, received, received_at, moved}
use Rattle.hc_term.specs.Posts.{first_of, sent_on, receives_on}
use Rattle.hc_term.specs.Together.{is_offer}
use Rattle.hc_term.specs.Moved.{moved_post}
use Rattle.hc_code.specs.Stands.{Table, At, AllAgree}
use Rattle.hc_code.specs.declared.code.Instr.{Instr}
use Rattle.hc_cmach.specs.State.{Shared}
use Rattle.hc_cthreads.specs.Scenes.{called_by, HasShown}
use Rattle.hc_cthreads.specs.Outcomes.{Outcome}
use Rattle.hc_cthreads.proofs.Showing.{called_some, shown_at}
use Rattle.hc_core_c.specs.Twin.{Board64, nth}
use Rattle.hc_cstep.specs.Locals.{Mine}
use Rattle.hc_core_c.proofs.Base.{element_is}
use Rattle.hc_core_c.specs.Owner.{shared_of}
use Rattle.hc_core_facts.specs.Standing.{offer_code, code_from}
use Rattle.hc_core_facts.specs.OnePass.{Passed, is_in, IsPass}
use Rattle.hc_csection.specs.Fates.{Fate, Stays, Moves, Sends, Receives, Fated}
use Rattle.hc_csection.specs.Words.{Codes, processes, channels, IsShared, IsMet, IsUnmet, Finds, element, the_met}
use Rattle.hc_csection.proofs.Keeping.{met_again}
use Rattle.hc_csection.proofs.PostCodes.{code_of_process}
use Rattle.hc_csection.proofs.Drifting.{moved_todo, moved_choices, moved_mark, less_some, rates_after}
use Rattle.hc_csection.proofs.Branches.{Followed, sent_follows, received_follows}
use Rattle.hc_csection.proofs.Passing.{receives_undone}

-- ---- offers

sends_bool : (c : ℕ) (v at : Rational) (os : List Offer) (b : Bool) → (sent_on c os ≡ Some v → list_any (is_offer true c) os ≡ true) →
    first_of (if b then Some at else None) (sent_on c os) ≡ Some v → (is_some (if b then Some at else None) || list_any (is_offer true c) os) ≡ true
sends_bool c v at os true later h = refl
sends_bool c v at os false later h = later h

sends_it : (c : ℕ) (v : Rational) (os : List Offer) → sent_on c os ≡ Some v → list_any (is_offer true c) os ≡ true
sends_it c v [] h = absurd cc
sends_it c v (offer.Send channel at slope ∷ os) h = sends_bool c v at os (channel == c) (sends_it c v os) h
sends_it c v (offer.Receive channel ∷ os) h = sends_it c v os h

receives_it : (c : ℕ) (os : List Offer) → list_any (is_offer false c) os ≡ receives_on c os
receives_it c [] = refl
receives_it c (offer.Send channel at slope ∷ os) = receives_it c os
receives_it c (offer.Receive channel ∷ os) = ap (λ (b : Bool). (channel == c) || b) (receives_it c os)

-- ---- processes

ended_phase : (clock : Rational) (s : List Rational) (b : Option Rational) (mark : Mark) (todo : List Stmt) → is_done todo ≡ true → (post_at clock s b mark todo).phase ≡ phase.Ended
ended_phase clock s b mark [] h = refl
ended_phase clock s b mark (head ∷ rest) h = absurd (true≢false (sym h))

mark_by : (ch : ℕ) (v : Rational) (q : ProcessState) (todo : List Stmt) → is_done todo ≡ false → (received_at ch v q todo).mark ≡ Going
mark_by ch v q [] h = absurd (true≢false h)
mark_by ch v q (head ∷ rest) h = refl

choices_by : (ch : ℕ) (v : Rational) (q : ProcessState) (todo : List Stmt) → (received_at ch v q todo).choices ≡ q.choices
choices_by ch v q [] = refl
choices_by ch v q (head ∷ rest) = refl

-- behind a delay
moved_shown : (clock later d : Rational) (q : ProcessState) (x : Post) → x ≡ post clock q → HasShown later (moved d q) (moved_post d x) → moved_post d x ≡ post later (moved d q)
moved_shown clock later d q x e (inl same) = same
moved_shown clock later d q x e (inr both) =
    let done : is_done q.todo ≡ true = ap is_done (sym (moved_todo d q)) ∙ both.0 in
    let ended : x.phase ≡ phase.Ended = ap (λ (y : Post). y.phase) e ∙ ended_phase clock q.store (bound q) q.mark q.todo done in
    let going : x.phase ≡ phase.Going = ap (λ (y : Post). y.phase) both.1 in
    absurd (apart (sym ended ∙ going))
  where
    apart : ◌≡◌ {A = Phase} phase.Ended phase.Going → ⊥
    apart e = cc

finds_moved : (t : Table) (code : List Instr) (clock later d : Rational) (mine : Mine) (row : List Rational) (number : ℕ) (q : ProcessState) (x : Post) → (x ≢ going_post) →
    HasShown later (moved d q) (moved_post d x) → Finds t code clock mine row number q x → Finds t code later mine row number (moved d q) (moved_post d x)
finds_moved t code clock later d mine row zero q x apart shown h = record {
  at_place = subst (At t mine.place) (sym (moved_todo d q)) h.at_place;
  same_mark = h.same_mark ∙ sym (moved_mark d q);
  bounded = h.bounded ∙ sym (less_some d x.bound);
  rates = rates_after d row x.moving h.rates;
  shown = moved_shown clock later d q x h.shown shown;
}
finds_moved t code clock later d mine row (suc g) q x apart shown h = absurd (apart h.shown)

module _ (k : Codes) (t : Task) (agree : (r : ℕ) → r < processes t → AllAgree (k.table r) (k.code r) (k.table r)) (p : ℕ) (c : Configuration) (ps : List Post) (n : ℕ) (m : Shared)
    (s : IsShared t c ps n m) (o : Outcome) (u : Passed) (fated : Fated t c ps o u.meetings) (e : Board64) where
  abbrev P : ℕ
  P = processes t

  abbrev b : Board64
  b = record s.board { lines = []; wakes = [] }

  module _ (done : IsPass P (channels t) p b e ps c.clock t.horizon n t.limit u) (r : ℕ) (row : List Rational) (values : List ℤ) (h : IsMet k t r c ps m row values) where
    low : r < P
    low = let within = slice_get_within ps r h.shows h.at_post in let size = s.stands.processes in omega (arith, within, size)

    -- numbers in `a_met`
    element_e : element (shared_of e) the_met r ≡ pos (nth e.met r)
    element_e = element_is e.met r

    element_m : element m the_met r ≡ pos (nth s.board.met r)
    element_m = ap (λ (z : Shared). element z the_met r) s.is ∙ element_is s.board.met r

    same_number : list_any (is_in r) u.meetings ≡ false → element (shared_of e) the_met r ≡ element m the_met r
    same_number none = element_e ∙ ap pos (done.met r low none) ∙ sym element_m

    abbrev Met : Type 0
    Met = IsMet k t r o.at o.posts (shared_of e) row values

    -- where it met by this branch
    met_by : (q : ProcessState) → slice_get o.at.processes r ≡ Some q → slice_get o.posts r ≡ Some going_post → q.mark ≡ Going → q.choices ≡ h.q.choices →
        (f : Followed (k.table r) (k.code r) h.mine.place (r * 32 + 1) (r * 32 + nth e.met r) q.todo) → Met
    met_by q at there goes choices f =
        let is = f.on.is in
        let number : nth e.met r ≡ suc f.on.branch = omega (arith, is) in
        record {
          mine = h.mine;
          done = h.done;
          x = h.x;
          more = h.more;
          locals = h.locals;
          spare = h.spare;
          wide = h.wide;
          q = q;
          shows = going_post;
          number = suc f.on.branch;
          at_process = at;
          at_post = there;
          met = element_e ∙ ap pos number;
          choices = h.choices ∙ ap (λ (i : ℕ). i % 64) (sym choices);
          finds =
              record {
                goes = goes;
                shown = refl;
                what = f.what;
                way = f.on.way;
                at_place = f.at_place;
                at_way = f.on.at_way;
                follows = f.on.follows;
              };
        }

    -- a process that offers hasn't met yet
    unmet : (number : ℕ) → h.shows ≢ going_post → Finds (k.table r) (k.code r) c.clock h.mine row number h.q h.shows → IsUnmet (k.table r) c.clock h.mine row h.q h.shows
    unmet zero apart f = f
    unmet (suc g) apart f = absurd (apart f.shown)

    sends_apart : (ch : ℕ) (v : Rational) (x : Post) → sent_on ch x.offers ≡ Some v → x ≢ going_post
    sends_apart ch v x offers same = absurd (no (sym (ap (λ (y : Post). sent_on ch y.offers) same) ∙ offers))
      where
        no : ◌≡◌ {A = Option Rational} None (Some v) → ⊥
        no e = cc

    receives_apart : (ch : ℕ) (x : Post) → receives_on ch x.offers ≡ true → x ≢ going_post
    receives_apart ch x offers same = true≢false (sym offers ∙ ap (λ (y : Post). receives_on ch y.offers) same)

    code_is : (sending : Bool) (ch : ℕ) → ch < channels t → (if sending then nth b.send ch else nth b.receive ch) ≡ code_from sending ch 0 ps
    code_is true ch less = s.stands.send ch less
    code_is false ch less = s.stands.receive ch less

    by_fate : Fate c ps o u.meetings r h.q h.shows → Met
    by_fate (Stays a d clock none) =
        met_again k t r c o.at ps o.posts m (shared_of e) row values clock (a ∙ sym h.at_process) (d ∙ sym h.at_post) (same_number none) h
    by_fate (Moves d a there clock none rest) =
        let number : element (shared_of e) the_met r ≡ element m the_met r = same_number (ap (list_any (is_in r)) none) in
        let y = shown_at o.at.clock o.at.processes o.posts r (moved d h.q) fated.shown a in
        let shown : HasShown o.at.clock (moved d h.q) (moved_post d h.shows) =
        subst (HasShown o.at.clock (moved d h.q)) (same_Some y.0 (moved_post d h.shows) (sym y.1 ∙ there)) y.2 in
        let apart : h.shows ≢ going_post =
        λ same. true≢false (sym (called_some ps r (ap called_by (h.at_post ∙ ap Some same))) ∙ rest) in
        record {
          mine = h.mine;
          done = h.done;
          x = h.x;
          more = h.more;
          locals = h.locals;
          spare = h.spare;
          wide = h.wide;
          q = moved d h.q;
          shows = moved_post d h.shows;
          number = h.number;
          at_process = a;
          at_post = there;
          met = number ∙ h.met;
          choices = h.choices ∙ ap (λ (i : ℕ). i % 64) (sym (moved_choices d h.q));
          finds = finds_moved (k.table r) (k.code r) c.clock o.at.clock d h.mine row h.number h.q h.shows apart shown h.finds;
        }
    by_fate (Sends z j is who a there clock offers only) =
        let f = unmet h.number (sends_apart z.channel z.value h.shows offers) h.finds in
        let less = fated.channels z j is in
        let code : nth b.send z.channel ≡ offer_code true z.channel (r * 32 + 1) h.shows.offers =
        code_is true z.channel less
        ∙ code_of_process true z.channel ps r h.shows h.at_post (s.stands.paired.once true z.channel less) (sends_it z.channel z.value h.shows.offers offers) in
        let number : nth b.send z.channel ≡ r * 32 + nth e.met r =
        subst (λ (i : ℕ). nth b.send z.channel ≡ i * 32 + nth e.met i) who (done.sent z j is) in
        let same : offer_code true z.channel (r * 32 + 1) (post c.clock h.q).offers ≡ r * 32 + nth e.met r =
        ap (λ (y : Post). offer_code true z.channel (r * 32 + 1) y.offers) (sym f.shown) ∙ sym code ∙ number in
        let followed = sent_follows (k.table r) (k.code r) (agree r low) h.mine.place z.channel (r * 32 + 1) c.clock z.value h.q f.at_place
        (ap (λ (y : Post). sent_on z.channel y.offers) (sym f.shown) ∙ offers) in
        met_by (sent z.channel h.q) a there refl refl
        (subst (λ (i : ℕ). Followed (k.table r) (k.code r) h.mine.place (r * 32 + 1) i (sent z.channel h.q).todo) same followed)
    by_fate (Receives z j is who a there clock offers only) =
        let f = unmet h.number (receives_apart z.channel h.shows offers) h.finds in
        let less = fated.channels z j is in
        let undone = receives_undone c.clock h.q h.shows z.channel (inl f.shown) offers in
        let code : nth b.receive z.channel ≡ offer_code false z.channel (r * 32 + 1) h.shows.offers =
        code_is false z.channel less
        ∙ code_of_process false z.channel ps r h.shows h.at_post (s.stands.paired.once false z.channel less) (receives_it z.channel h.shows.offers ∙ offers) in
        let number : nth b.receive z.channel ≡ r * 32 + nth e.met r =
        subst (λ (i : ℕ). nth b.receive z.channel ≡ i * 32 + nth e.met i) who (done.received z j is) in
        let same : offer_code false z.channel (r * 32 + 1) (post c.clock h.q).offers ≡ r * 32 + nth e.met r =
        ap (λ (y : Post). offer_code false z.channel (r * 32 + 1) y.offers) (sym f.shown) ∙ sym code ∙ number in
        let followed = received_follows (k.table r) (k.code r) (agree r low) h.mine.place z.channel (r * 32 + 1) c.clock z.value h.q f.at_place
        (ap (λ (y : Post). receives_on z.channel y.offers) (sym f.shown) ∙ offers) in
        met_by (received z.channel z.value h.q) a there (mark_by z.channel z.value h.q h.q.todo undone) (choices_by z.channel z.value h.q h.q.todo)
        (subst (λ (i : ℕ). Followed (k.table r) (k.code r) h.mine.place (r * 32 + 1) i (received z.channel z.value h.q).todo) same followed)

    pub met_behind : Met
    met_behind = by_fate (fated.one r h.q h.shows h.at_process h.at_post)
