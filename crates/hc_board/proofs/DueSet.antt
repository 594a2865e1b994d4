-- The deadlines when that of one process is set: where it belongs, and what stands in the list then.
use Rattle.std.proofs.Common.{◌≡◌, ◌≢◌, ◌<◌, ◌≤◌, ◌⊎◌, ◌↔◌, ℕ, Bool, true, false, is_some, IsTrue, List, length, get_or, insert, remove, AllPairs, Contains, Option, Some, None, refl, sym, ap, subst, ◌∙◌, inl, inr, arith}
use Rattle.std.specs.List.{AllWithin}
use Rattle.std.specs.declared.cmp.Ordering.{Ordering}
use Rattle.std.specs.declared.cmp.Ordering.TheVariants.{Less, Equal, Greater}
use Rattle.std.specs.Ordering.{MatchOrdering}
use Rattle.std.proofs.lemmas.Bool.{cases_lt}
use Rattle.std.proofs.lemmas.Grind.{in_insert, in_remove}
use Rattle.std.proofs.lemmas.List.{get_or_default}
use Rattle.std.proofs.lemmas.List.Elements.{Contains-get_or}
use Rattle.std.proofs.lemmas.List.Quantifiers.{all_pairs_remove}
use Rattle.hc_limits.specs.Limits.{most_processes}
use Rattle.hc_rational.specs.Words.{Rational, ◌<ℚ◌, rank, zero_ℚ}
use Rattle.hc_rational.proofs.OrderLaws.{<ℚ_irrefl, <ℚ_trans}
use Rattle.hc_rational.proofs.RankLaws.{rank_matches, rank_is}
use Rattle.hc_board.specs.declared.deadlines.Deadline.{Deadline}
use Rattle.hc_board.specs.Deadlines.{IsBefore, AreApart, AreInOrder, IsPlaceOf, HasNone, HasDue, IsPlaceFor, IsSet}
use Rattle.hc_board.proofs.Edited.{stood, all_remove, all_insert, pairs_insert, contains_insert, contains_inserted, differ, room}

-- ---- the order

-- what a comparison of the moments tells
pub less_told : (d e : Deadline) → rank d.due e.due ≡ Less → IsTrue true ↔ IsBefore d e
less_told d e h = (λ t. inl ((rank_is d.due e.due).less.0 h), λ b. refl)

equal_before : (d e : Deadline) → d.due ≡ e.due → IsBefore d e → d.process < e.process
equal_before d e same (inl less) = absurd (<ℚ_irrefl e.due (subst (λ (q : Rational). q <ℚ e.due) same less))
equal_before d e same (inr b) = b.1

pub equal_told : (d e : Deadline) (t : Bool) → rank d.due e.due ≡ Equal → IsTrue t ↔ (d.process < e.process) → IsTrue t ↔ IsBefore d e
equal_told d e t h told =
    let same = (rank_is d.due e.due).equal.0 h in
    (λ is. inr (same, told.0 is), λ b. told.1 (equal_before d e same b))

greater_before : (d e : Deadline) → e.due <ℚ d.due → ¬ IsBefore d e
greater_before d e more (inl less) = <ℚ_irrefl d.due (<ℚ_trans d.due e.due d.due less more)
greater_before d e more (inr b) = <ℚ_irrefl d.due (subst (λ (q : Rational). q <ℚ d.due) (sym b.0) more)

pub greater_told : (d e : Deadline) → rank d.due e.due ≡ Greater → IsTrue false ↔ IsBefore d e
greater_told d e h = (λ t. absurd (cc), λ b. absurd (greater_before d e ((rank_is d.due e.due).greater.0 h) b))

behind_by : (d e : Deadline) (o : Ordering) → MatchOrdering o (d.due <ℚ e.due) (d.due ≡ e.due) (e.due <ℚ d.due) → d.process ≢ e.process →
    ¬ IsBefore d e → IsBefore e d
behind_by d e Less h apart n = absurd (n (inl h))
behind_by d e Equal h apart n =
    elim (cases_lt d.process e.process) [
      | inl less ↦ absurd (n (inr (h, less)))
      | inr past ↦ inr (sym h, omega (arith, past, apart))
    ]
behind_by d e Greater h apart n = inl h

behind : (d e : Deadline) → d.process ≢ e.process → ¬ IsBefore d e → IsBefore e d
behind d e apart n = behind_by d e (rank d.due e.due) (rank_matches d.due e.due) apart n

before_trans : (a b c : Deadline) → IsBefore a b → IsBefore b c → IsBefore a c
before_trans a b c (inl h) (inl k) = inl (<ℚ_trans a.due b.due c.due h k)
before_trans a b c (inl h) (inr k) = inl (subst (λ (q : Rational). a.due <ℚ q) k.0 h)
before_trans a b c (inr h) (inl k) = inl (subst (λ (q : Rational). q <ℚ c.due) (sym h.0) k)
before_trans a b c (inr h) (inr k) = let first = h.1 in let second = k.1 in inr (h.0 ∙ k.0, omega (arith, first, second))

-- ---- where it belongs

pub is_place : (p : ℕ) (ds : List Deadline) (at : ℕ) (e : Deadline) → at < length ds → (get_or ds at e).process ≡ p → IsPlaceOf p ds at
is_place p ds at e low is =
    record { there = low; is = λ d. ap (λ (x : Deadline). x.process) (get_or_default ds at d e low) ∙ is }

-- before the first that doesn't stand before it
pub place_here : (ds : List Deadline) (one : Deadline) (at : ℕ) (e : Deadline) → AllPairs IsBefore ds → HasNone one.process ds → at < length ds →
    AllWithin (λ x. IsBefore x one) ds 0 at → ¬ IsBefore (get_or ds at e) one → IsPlaceFor one ds at
place_here ds one at e ordered none low h n =
    let here : (d : Deadline) → IsBefore one (get_or ds at d) =
    λ d. subst (λ (x : Deadline). IsBefore one x) (get_or_default ds at e d low) (behind (get_or ds at e) one (none at e low) n) in
    record {
      within = omega (arith, low);
      before = h;
      behind = λ k d from less. elim (cases_lt at k) [
        | inl after ↦ before_trans one (get_or ds at d) (get_or ds k d) (here d) (ordered at k d after less)
        | inr same ↦ let is : at ≡ k = omega (arith, from, same) in subst (λ (i : ℕ). IsBefore one (get_or ds i d)) is (here d)
      ];
    }

-- behind all
pub place_end : (ds : List Deadline) (one : Deadline) (at : ℕ) → length ds ≤ at → AllWithin (λ x. IsBefore x one) ds 0 at → IsPlaceFor one ds (length ds)
place_end ds one at long h = record {
  within = omega arith;
  before = λ k d from less. h k d from (omega (arith, less, long));
  behind = λ k d from less. absurd (omega (arith, from, less));
}

-- ---- what stands in the list then

module _ (ds : List Deadline) (kept : AreInOrder ds) where
  pub has_room : (p : ℕ) → p < most_processes → HasNone p ds → length ds < most_processes
  has_room p low none =
      room (λ (d : Deadline). d.process) most_processes (record { process = p; due = zero_ℚ }) ds kept.single kept.within low none

  module _ (p i : ℕ) (place : IsPlaceOf p ds i) where
    gone : (d : Deadline) → d.process ≡ p → ¬ Contains (remove ds i) d
    gone d is c =
        let s = stood ds i c.0 d place.there c.1 in
        differ (λ (x : Deadline). x.process) ds kept.single s.at i d s.there place.there s.apart
        (ap (λ (x : Deadline). x.process) (sym s.same ∙ c.2) ∙ is ∙ sym (place.is d))

    stays : (d : Deadline) → d.process ≢ p → Contains (remove ds i) d ↔ Contains ds d
    stays d other = (
      λ c. let s = stood ds i c.0 d place.there c.1 in (s.at, s.there, sym s.same ∙ c.2),
      λ c.
          (in_remove ds i c.0 d place.there c.1 (sym c.2)
          (λ e. other (ap (λ (x : Deadline). x.process) (sym c.2) ∙ ap (λ (k : ℕ). (get_or ds k d).process) e ∙ place.is d))).1,
    )

    pub removed : IsSet p None ds (remove ds i)
    removed = record {
      kept = record {
        ordered = all_pairs_remove IsBefore ds i place.there kept.ordered;
        single = all_pairs_remove AreApart ds i place.there kept.single;
        within = all_remove (λ (d : Deadline). d.process < most_processes) ds i place.there kept.within;
      };
      here = λ q. (λ c. absurd (gone (record { process = p; due = q }) refl c), λ e. absurd (cc));
      others = stays;
    }

  not_among : (p : ℕ) → HasNone p ds → (q : Rational) → ¬ Contains ds (record { process = p; due = q })
  not_among p none q c = none c.0 (record { process = p; due = q }) c.1 (ap (λ (x : Deadline). x.process) c.2)

  pub none_removed : (p : ℕ) → HasNone p ds → IsSet p None ds ds
  none_removed p none = record {
    kept = kept;
    here = λ q. (λ c. absurd (not_among p none q c), λ e. absurd (cc));
    others = λ d other. (λ c. c, λ c. c);
  }

  module _ (new : Deadline) (i : ℕ) (low : new.process < most_processes) (none : HasNone new.process ds) (place : IsPlaceFor new ds i) where
    within : i ≤ length ds
    within = place.within

    is_new : (q : Rational) → (new ≡ record { process = new.process; due = q }) ⊎ Contains ds (record { process = new.process; due = q }) → Some new.due ≡ Some q
    is_new q (inl same) = ap (λ (d : Deadline). Some d.due) same
    is_new q (inr c) = absurd (not_among new.process none q c)

    is_old : (d : Deadline) → d.process ≢ new.process → (new ≡ d) ⊎ Contains ds d → Contains ds d
    is_old d other (inl same) = absurd (other (sym (ap (λ (x : Deadline). x.process) same)))
    is_old d other (inr c) = c

    pub inserted : IsSet new.process (Some new.due) ds (insert ds i new)
    inserted = record {
      kept = record {
        ordered = pairs_insert IsBefore ds i new kept.ordered within (λ k d less. place.before k d (omega arith) less) place.behind;
        single =
            pairs_insert AreApart ds i new kept.single within (λ k d less. none k d (omega (arith, less, within)))
            (λ k d from less. λ e. none k d less (sym e));
        within = all_insert (λ (d : Deadline). d.process < most_processes) ds i new within kept.within low;
      };
      here = λ q. (
        λ c. is_new q (contains_insert ds i new (record { process = new.process; due = q }) within c),
        λ e.
            let same : new.due ≡ q = cc in
            subst (λ (r : Rational). Contains (insert ds i new) (record { process = new.process; due = r })) same (contains_inserted ds i new within),
      );
      others = λ d other. (
        λ c. is_old d other (contains_insert ds i new d within c),
        λ c. (in_insert ds i c.0 new d within c.1 (sym c.2)).1,
      );
    }

-- ---- one after the other

pub none_there : (p : ℕ) (ds : List Deadline) → HasDue p None ds → HasNone p ds
none_there p ds h k d within is =
    let found : None ≡ Some (get_or ds k d).due =
    (h (get_or ds k d).due).0
    (subst (λ (n : ℕ). Contains ds (record { process = n; due = (get_or ds k d).due })) is (Contains-get_or ds k d within)) in
    cc

pub none_left : (p : ℕ) (old new : List Deadline) → IsSet p None old new → HasNone p new
none_left p old new s = none_there p new s.here

no_due : (o : Option Rational) → is_some o ≡ false → o ≡ None
no_due None e = refl
no_due (Some q) e = cc

-- a process without a deadline is left as it is
pub none_taken : (p : ℕ) (o : Option Rational) (ds : List Deadline) → AreInOrder ds → HasDue p o ds → is_some o ≡ false → IsSet p None ds ds
none_taken p o ds kept h none =
    none_removed ds kept p (none_there p ds (subst (λ (x : Option Rational). HasDue p x ds) (no_due o none) h))

pub set_again : (p : ℕ) (due : Option Rational) (first middle last : List Deadline) → IsSet p None first middle → IsSet p due middle last →
    IsSet p due first last
set_again p due first middle last a b = record {
  kept = b.kept;
  here = b.here;
  others = λ d other. (λ c. (a.others d other).0 ((b.others d other).0 c), λ c. (b.others d other).1 ((a.others d other).1 c));
}
