-- What else the words say of the shared part, where a new post is put up: variables, where what is received goes, codes within their range, and
-- what processes have shown.
use Rattle.std.proofs.Common.{◌≡◌, ◌≢◌, refl, sym, ap, ap₂, ◌∙◌, subst, ℕ, zero, suc, ◌+◌, ◌*◌, ◌≤◌, ◌<◌, ◌^◌, Bool, true, false, ◌&&◌, ◌||◌, ◌==◌, nat_lt, nat_le, List, [], ◌∷◌, length, slice_get, slice_set, slice_index_or, Option, Some, None, arith, inl, inr}
use Rattle.std.specs.List.{list_all, list_any}
use Rattle.std.proofs.lemmas.Bool.{true≢false, and_parts, eqb-true, ltb-true, leb-true}
use Rattle.std.proofs.lemmas.Option.{same_Some}
use Rattle.std.proofs.lemmas.List.{length-set}
use Rattle.hc_limits.specs.Limits.{most_variables}
use Rattle.hc_rational.specs.Words.{Rational, zero_ℚ}
use Rattle.hc_term.specs.declared.stmt.Io.{Io}
use Rattle.hc_term.specs.declared.stmt.Rate.{Rate}
use Rattle.hc_term.specs.declared.system.Process.{Process}
use Rattle.hc_term.specs.declared.task.Task.{Task}
use Rattle.hc_term.specs.declared.post.Post.{Post}
use Rattle.hc_term.specs.declared.post.Offer.{Offer}
use Rattle.hc_term.specs.declared.post.Offer.TheVariants.{Send, Receive}
use Rattle.hc_term.specs.declared.model.ProcessState.{ProcessState}
use Rattle.hc_term.specs.Value.{Store}
use Rattle.hc_term.specs.Motion.{Rates}
use Rattle.hc_term.specs.Offers.{post}
use Rattle.hc_term.specs.Posts.{offer_receives_on, receives_on}
use Rattle.hc_term.specs.Rules.{is_stmt, is_process, is_on}
use Rattle.hc_term.specs.Together.{is_offer, channel_of, ArePaired}
use Rattle.hc_term.proofs.Places.{get-set_same, get-set_other}
use Rattle.hc_runs.proofs.Parts.{all_processes}
use Rattle.hc_cthreads.specs.Scenes.{AllHaveShown}
use Rattle.hc_core_c.specs.Twin.{Board64, nth, register, variable, start}
use Rattle.hc_core_c.specs.Owner.{Sane}
use Rattle.hc_csection.specs.Words.{VariablesAre, IntosAre, received_in, variables_by, variables}
use Rattle.hc_cpost.specs.Parts.{coded, directed}
use Rattle.hc_cpost.specs.Posting.{put_up}
use Rattle.hc_cpost.proofs.Coded.{offered_by, directed_low}
use Rattle.hc_cpost.proofs.Shares.{elsewhere}
use Rattle.hc_cpost.proofs.Gone.{Gone}
use Rattle.hc_cpost.proofs.Putting.{Puts}
use Rattle.hc_cpost.proofs.Showing.{register_kept, variable_up}
use Rattle.hc_cpost.proofs.Posted.{offers_on, same_or_not}
use Rattle.hc_cpost.proofs.Staying.{coded_most, muted_most}
use Rattle.hc_cpost.proofs.Directed.{variable_in, directed_none, directed_some, two_offer}

-- ---- elements of lists

pub all_at : {A : Type 0} (f : A → Bool) (xs : List A) (k : ℕ) (x : A) → list_all f xs ≡ true → slice_get xs k ≡ Some x → f x ≡ true
all_at f [] k x h e = cc
all_at f (y ∷ ys) zero x h e = ap f (sym (same_Some y x e)) ∙ (and_parts (f y) (list_all f ys) h).0
all_at f (y ∷ ys) (suc k) x h e = all_at f ys k x (and_parts (f y) (list_all f ys) h).1 e

-- ---- a process has few variables

few_by : (channels : ℕ) (bodies : List Process) (p : ℕ) → list_all (is_process channels) bodies ≡ true → variables_by (slice_get bodies p) ≤ 64
few_by channels [] p h = omega arith
few_by channels (b ∷ bodies) zero h =
    let n = length b.variables in
    leb-true n most_variables (and_parts (nat_le n most_variables) (nat_le 1 (length b.body))
    (and_parts (nat_le n most_variables && nat_le 1 (length b.body)) (list_all (is_stmt channels n) b.body) (and_parts (is_process channels b) (list_all (is_process channels) bodies) h).0).0).0
few_by channels (b ∷ bodies) (suc p) h = few_by channels bodies p (and_parts (is_process channels b) (list_all (is_process channels) bodies) h).1

pub few_variables : (t : Task) (p : ℕ) → variables t p ≤ 64
few_variables t p = few_by (length t.system.channels) t.system.processes p (all_processes t)

-- ---- what processes have shown

pub shown_again : (clock : Rational) (qs : List ProcessState) (ps : List Post) (p : ℕ) (q : ProcessState) → AllHaveShown clock qs ps → AllHaveShown clock (slice_set qs p q) (slice_set ps p (post clock q))
shown_again clock [] [] p q h = h
shown_again clock [] (x ∷ xs) p q h = absurd h
shown_again clock (y ∷ ys) [] p q h = absurd h
shown_again clock (y ∷ ys) (x ∷ xs) zero q h = (inl refl, h.1)
shown_again clock (y ∷ ys) (x ∷ xs) (suc p) q h = (h.0, shown_again clock ys xs p q h.1)

-- as many as there are posts
pub post_there : (clock : Rational) (qs : List ProcessState) (ps : List Post) (p : ℕ) (q : ProcessState) → AllHaveShown clock qs ps → slice_get qs p ≡ Some q →
    (x : Post) × (slice_get ps p ≡ Some x)
post_there clock [] xs p q h e = absurd (none p e)
  where
    none : (p : ℕ) → slice_get [] p ≡ Some q → ⊥
    none p f = cc
post_there clock (y ∷ ys) [] p q h e = absurd h
post_there clock (y ∷ ys) (x ∷ xs) zero q h e = (x, refl)
post_there clock (y ∷ ys) (x ∷ xs) (suc p) q h e = post_there clock ys xs p q h.1 e

-- ---- a received channel is in range

received_in_range : (C c : ℕ) (os : List Offer) → list_all (λ (o : Offer). nat_lt (channel_of o) C) os ≡ true → list_any (is_offer false c) os ≡ true → c < C
received_in_range C c [] h k = absurd (true≢false (sym k))
received_in_range C c (Send channel at slope ∷ os) h k =
    received_in_range C c os (and_parts (nat_lt channel C) (list_all (λ (o : Offer). nat_lt (channel_of o) C) os) h).1 k
received_in_range C c (Receive channel ∷ os) h k = by_here (channel == c) refl (λ j. received_in_range C c os parts.1 j) where
  parts : (nat_lt channel C ≡ true) × (list_all (λ (o : Offer). nat_lt (channel_of o) C) os ≡ true)
  parts = (let two = and_parts (nat_lt channel C) (list_all (λ (o : Offer). nat_lt (channel_of o) C) os) h in (two.0, two.1))

  by_here : (b : Bool) → (channel == c) ≡ b → (list_any (is_offer false c) os ≡ true → c < C) → c < C
  by_here true e ih = subst (λ (d : ℕ). d < C) (eqb-true channel c e) (ltb-true channel C parts.0)
  by_here false e ih = ih (sym (ap (λ (z : Bool). z || list_any (is_offer false c) os) e) ∙ k)

module _ (P C p n : ℕ) (own : List Rational) (bounded : Bool) (phase : ℕ) (rates : List Rate) (ios : List Io) (s : Store) (r : Rates) (x : Post)
    (puts : Puts C n own bounded phase rates ios s r x) (b g : Board64) (gone : Gone C p b g) where
  abbrev up : Board64
  up = put_up p n own bounded phase rates ios g

  -- ---- codes

  pub sane_up : p < P → Sane P b → Sane P up
  sane_up there h =
      let short = puts.short in record {
        sends = coded_most true (P * 32) p 0 ios g.send (omega (arith, short, there)) (muted_most C p (P * 32) b.send g.send gone.send h.sends);
        receives = coded_most false (P * 32) p 0 ios g.receive (omega (arith, short, there)) (muted_most C p (P * 32) b.receive g.receive gone.receive h.receives);
        into = directed_low C n puts.few ios g.into puts.ruled (λ c. subst (λ (y : List ℕ). nth y c < 64) (sym (ap (λ (y : Board64). y.into) gone.is)) (h.into c));
        limit = subst (λ (l : ℕ). l < 2 ^ 31) (sym (ap (λ (y : Board64). y.limit) gone.is)) h.limit;
      }

  -- ---- variables

  module _ (qs : List ProcessState) (q old : ProcessState) (at_old : slice_get qs p ≡ Some old) where
    pub variables_up : p < 64 → length b.row ≡ 20480 → p < length b.phase → p < length b.bounded → p * 64 + 64 ≤ length b.moves → q.store ≡ s →
        ((k : ℕ) (y : ProcessState) → slice_get qs k ≡ Some y → length y.store ≤ 64) → VariablesAre b qs → VariablesAre up (slice_set qs p q)
    variables_up low wide there there' room same short h k i y e less =
        same_or_not k p
        (
        λ here.
        let is : q ≡ y = same_Some q y (sym (get-set_same qs p old q at_old) ∙ subst (λ (j : ℕ). slice_get (slice_set qs p q) j ≡ Some y) here e) in
        let stored : s ≡ y.store = sym same ∙ ap (λ (z : ProcessState). z.store) is in
        let few : i < n = subst (λ (l : ℕ). i < l) (sym (ap (λ (z : Store). length z) stored) ∙ puts.sized) less in
        subst (λ (j : ℕ). register up (variable j i) ≡ slice_index_or y.store i zero_ℚ) (sym here)
        (
        variable_up C p n own bounded phase rates ios s r x puts b g gone low wide there there' room i few
        ∙ ap (λ (z : Store). slice_index_or z i zero_ℚ) stored
        )
        )
        (
        λ apart.
        let was : slice_get qs k ≡ Some y = sym (get-set_other qs p k q (λ h. apart (sym h))) ∙ e in
        let few = short k y was in
        register_kept C p n own bounded phase rates ios s r x puts b g gone (k * 320 + i) (λ d shared. elsewhere p k d i shared (omega (arith, less, few)) apart)
        ∙ h k i y was less
        )

    -- ---- where what is received goes

    module _ (ps : List Post) (old_post : Post) (at_post : slice_get ps p ≡ Some old_post) (paired : ArePaired C (slice_set ps p x)) (room : C ≤ length b.into)
        (own_variables : (c : ℕ) → list_any (is_on false c) ios ≡ true → variable_in c ios ≡ received_in c q.todo) where
      same_into : g.into ≡ b.into
      same_into = ap (λ (y : Board64). y.into) gone.is

      into_kept : (c : ℕ) → list_any (is_on false c) ios ≡ false → nth up.into c ≡ nth b.into c
      into_kept c h = directed_none c ios g.into h ∙ ap (λ (y : List ℕ). nth y c) same_into

      as_communication : (c : ℕ) → receives_on c x.offers ≡ true → list_any (is_on false c) ios ≡ true
      as_communication c h = sym (ap (λ (os : List Offer). list_any (is_offer false c) os) puts.offers ∙ offers_on false c s r ios) ∙ h

      in_range : (k : ℕ) (c : ℕ) (y : Post) → slice_get (slice_set ps p x) k ≡ Some y → receives_on c y.offers ≡ true → c < C
      in_range k c y e h =
          received_in_range C c y.offers (all_at (λ (z : Post). list_all (λ (o : Offer). nat_lt (channel_of o) C) z.offers) (slice_set ps p x) k y paired.in_range e) h

      pub intos_up : IntosAre b qs ps → IntosAre up (slice_set qs p q) (slice_set ps p x)
      intos_up h k c y z e f receives =
          same_or_not k p
          (
          λ here.
          let is : q ≡ y = same_Some q y (sym (get-set_same qs p old q at_old) ∙ subst (λ (j : ℕ). slice_get (slice_set qs p q) j ≡ Some y) here e) in
          let shown : x ≡ z = same_Some x z (sym (get-set_same ps p old_post x at_post) ∙ subst (λ (j : ℕ). slice_get (slice_set ps p x) j ≡ Some z) here f) in
          let on = as_communication c (ap (λ (w : Post). receives_on c w.offers) shown ∙ receives) in
          let less = in_range k c z f receives in
          directed_some c ios g.into (puts.once false c) on (subst (λ (w : List ℕ). c < length w) (sym same_into) (omega (arith, less, room)))
          ∙ own_variables c on ∙ ap (λ (w : ProcessState). received_in c w.todo) is
          )
          (
          λ apart.
          let was : slice_get qs k ≡ Some y = sym (get-set_other qs p k q (λ h. apart (sym h))) ∙ e in
          let was_post : slice_get ps k ≡ Some z = sym (get-set_other ps p k x (λ h. apart (sym h))) ∙ f in
          into_kept c (off k c z apart f receives (list_any (is_on false c) ios) refl) ∙ h k c y z was was_post receives
          )
        where
          off : (k c : ℕ) (z : Post) → k ≢ p → slice_get (slice_set ps p x) k ≡ Some z → receives_on c z.offers ≡ true → (w : Bool) → list_any (is_on false c) ios ≡ w →
              list_any (is_on false c) ios ≡ false
          off k c z apart f receives false e = e
          off k c z apart f receives true e =
              let mine = ap (λ (os : List Offer). list_any (is_offer false c) os) puts.offers ∙ offers_on false c s r ios ∙ e in
              let two = two_offer false c (slice_set ps p x) k p z x f (get-set_same ps p old_post x at_post) apart receives mine in
              let one = paired.once false c (in_range k c z f receives) in
              absurd (omega (arith, two, one))
