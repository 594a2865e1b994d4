-- What going again, meeting and firing keep of a board.
use Rattle.std.specs.Prelude.{◌≡◌, ◌<◌, ◌≤◌, ◌+◌, ◌*◌, ◌-◌, ◌^◌, ℕ, zero, suc, Bool, true, false, if◌then◌else◌, nat_lt, List, [], ◌∷◌, slice_set, None}
use Rattle.std.proofs.Common.{refl, sym, ap, ◌∙◌, subst, arith}
use Rattle.std.proofs.lemmas.Bool.{ltb-true}
use Rattle.hc_core_c.specs.Twin.{Board64, nth, is_offer_of, mute, mute_step, start, rest_step, go, handed, counted, stopped, sender, receiver, meet, is_ready, fire_step, fire}
use Rattle.hc_core_c.proofs.Base.{kept_fits}

-- what code needs of a board to run without an undefined step
pub record Sound (P C : ℕ) (b : Board64) : Type 0 where
  pub sends : (c : ℕ) → c < C → nth b.send c ≤ P * 32
  pub receives : (c : ℕ) → c < C → nth b.receive c ≤ P * 32
  pub into : (c : ℕ) → nth b.into c < 64
  pub limit : b.limit < 2 ^ 31
  pub few : nat_lt b.stop 1 ≡ true → b.steps < b.limit

-- c is b with fewer offers
pub record Fewer (b c : Board64) : Type 0 where
  pub sends : (P k : ℕ) → nth b.send k ≤ P → nth c.send k ≤ P
  pub receives : (P k : ℕ) → nth b.receive k ≤ P → nth c.receive k ≤ P
  pub into : c.into ≡ b.into
  pub limit : c.limit ≡ b.limit
  pub steps : c.steps ≡ b.steps
  pub stop : c.stop ≡ b.stop

pub fewer_none : (b : Board64) → Fewer b b
fewer_none b = record { sends = λ P k h. h; receives = λ P k h. h; into = refl; limit = refl; steps = refl; stop = refl }

pub fewer_on : (b c d : Board64) → Fewer b c → Fewer c d → Fewer b d
fewer_on b c d h k = record {
  sends = λ P i l. k.sends P i (h.sends P i l);
  receives = λ P i l. k.receives P i (h.receives P i l);
  into = k.into ∙ h.into;
  limit = k.limit ∙ h.limit;
  steps = k.steps ∙ h.steps;
  stop = k.stop ∙ h.stop;
}

set_below : (xs : List ℕ) (i j P : ℕ) → nth xs j ≤ P → nth (slice_set xs i 0) j ≤ P
set_below [] i j P h = omega arith
set_below (x ∷ xs) zero zero P h = omega arith
set_below (x ∷ xs) zero (suc j) P h = h
set_below (x ∷ xs) (suc i) zero P h = h
set_below (x ∷ xs) (suc i) (suc j) P h = set_below xs i j P h

cleared_by : (is : Bool) (xs : List ℕ) (c P k : ℕ) → nth xs k ≤ P → nth (if is then slice_set xs c 0 else xs) k ≤ P
cleared_by true xs c P k h = set_below xs c k P h
cleared_by false xs c P k h = h

mute_step_fewer : (p c : ℕ) (b : Board64) → Fewer b (mute_step p c b)
mute_step_fewer p c b = record {
  sends = λ P k h. cleared_by (is_offer_of p (nth b.send c)) b.send c P k h;
  receives = λ P k h. cleared_by (is_offer_of p (nth b.receive c)) b.receive c P k h;
  into = refl;
  limit = refl;
  steps = refl;
  stop = refl;
}

pub mute_fewer : (C p : ℕ) (b : Board64) → Fewer b (mute C p b)
mute_fewer C p b =
    kept_fits (mute_step p) (λ i (c : Board64). Fewer b c) C b (fewer_none b) (λ i c low h. fewer_on b c (mute_step p i c) h (mute_step_fewer p i c)) C (omega arith)

pub go_fewer : (C p : ℕ) (b : Board64) → Fewer b (go C p b)
go_fewer C p b =
    let rest =
    kept_fits (rest_step p) (λ i (c : Board64). Fewer b c) 64 (start p b) (record { sends = λ P k h. h; receives = λ P k h. h; into = refl; limit = refl; steps = refl; stop = refl })
    (λ i c low h. fewer_on b c (rest_step p i c) h (record { sends = λ P k h. h; receives = λ P k h. h; into = refl; limit = refl; steps = refl; stop = refl })) 64 (omega arith) in
    fewer_on b _ (go C p b) rest (mute_fewer C p _)

pub fewer_sound : (P C : ℕ) (b c : Board64) → Fewer b c → Sound P C b → Sound P C c
fewer_sound P C b c h s = record {
  sends = λ i low. h.sends (P * 32) i (s.sends i low);
  receives = λ i low. h.receives (P * 32) i (s.receives i low);
  into = λ k. subst (λ xs. nth xs k < 64) (sym h.into) (s.into k);
  limit = subst (λ n. n < 2 ^ 31) (sym h.limit) s.limit;
  few =
      λ going.
      (
      let few = s.few (ap (λ n. nat_lt n 1) (sym h.stop) ∙ going) in
      subst (λ n. n < c.limit) (sym h.steps) (subst (λ n. b.steps < n) (sym h.limit) few)
      );
}

-- ---- a counted step

stopped_sound : (P C k : ℕ) (b : Board64) → Sound P C b → Sound P C (stopped k None b)
stopped_sound P C k b s = record {
  sends = s.sends;
  receives = s.receives;
  into = s.into;
  limit = s.limit;
  few = λ going. (let low = ltb-true (k + 1) 1 going in absurd (omega (arith, low)));
}

counted_by : (P C : ℕ) (b : Board64) (is : Bool) → nat_lt (b.steps + 1) b.limit ≡ is → Sound P C b →
    Sound P C (if is then record b { steps = b.steps + 1 } else stopped 3 None (record b { steps = b.steps + 1 }))
counted_by P C b true e s = record { sends = s.sends; receives = s.receives; into = s.into; limit = s.limit; few = λ going. ltb-true (b.steps + 1) b.limit e }
counted_by P C b false e s = record {
  sends = s.sends;
  receives = s.receives;
  into = s.into;
  limit = s.limit;
  few = λ going. (let low = ltb-true 4 1 going in absurd (omega (arith, low)));
}

pub counted_sound : (P C : ℕ) (b : Board64) → Sound P C b → Sound P C (counted b)
counted_sound P C b s = counted_by P C b (nat_lt (b.steps + 1) b.limit) refl s

-- ---- a meeting

handed_fewer : (c s x r y : ℕ) (b : Board64) → Fewer b (handed c s x r y b)
handed_fewer c s x r y b = record { sends = λ P k h. h; receives = λ P k h. h; into = refl; limit = refl; steps = refl; stop = refl }

pub met_fewer : (C c s x r y : ℕ) (b : Board64) → Fewer b (go C r (go C s (handed c s x r y b)))
met_fewer C c s x r y b =
    fewer_on b (handed c s x r y b) _ (handed_fewer c s x r y b)
    (fewer_on (handed c s x r y b) (go C s (handed c s x r y b)) _ (go_fewer C s (handed c s x r y b)) (go_fewer C r (go C s (handed c s x r y b))))

pub meet_sound : (P C c : ℕ) (b : Board64) → Sound P C b → Sound P C (meet P C c b)
meet_sound P C c b s =
    counted_sound P C _
    (fewer_sound P C b _ (met_fewer C c (sender P c b) (nth b.send c - sender P c b * 32) (receiver P c b) (nth b.receive c - receiver P c b * 32) b) s)

fire_by : (P C c : ℕ) (b : Board64) (is : Bool) → Sound P C b → Sound P C (if is then meet P C c b else b)
fire_by P C c b true s = meet_sound P C c b s
fire_by P C c b false s = s

pub fire_step_sound : (P C c : ℕ) (b : Board64) → Sound P C b → Sound P C (fire_step P C c b)
fire_step_sound P C c b s = fire_by P C c b (is_ready c b) s

pub fire_sound : (P C : ℕ) (b : Board64) → Sound P C b → Sound P C (fire P C b)
fire_sound P C b s = kept_fits (fire_step P C) (λ i (d : Board64). Sound P C d) C b s (λ c d low h. fire_step_sound P C c d h) C (omega arith)
