-- Names, found in lists of different names.
use Rattle.std.proofs.Common.{◌≡◌, refl, sym, ap, subst, ◌∙◌, ℕ, zero, suc, ◌+◌, Bool, true, false, not, ◌&&◌, ◌||◌, nat_eq, List, [], ◌∷◌, map, slice_get, Option, Some, None, arith}
use Rattle.std.specs.Prelude.{◌↔◌, if◌then◌else◌, IsTrue}
use Rattle.std.specs.List.{list_any}
use Rattle.std.specs.Cmp.Lexicographic.{pointwise, bytes_decides}
use Rattle.std.proofs.lemmas.Bool.{and_parts, false≢true}
use Rattle.std.proofs.lemmas.Bool.Decides.{nat_tests}
use Rattle.hc_term.specs.declared.system.Process.{Process}
use Rattle.hc_term.specs.declared.system.System.{System}
use Rattle.hc_term.specs.declared.ends.Ends.{Ends}
use Rattle.hc_term.specs.Profile.{all_apart}
use Rattle.hc_term.specs.Rules.{same_name}
use Rattle.hc_term.specs.Ends.{ends_of}
use Rattle.hc_verify.specs.Named.{name_of, HasName, IsEndNamed, IsChannelNamed, IsThe}
use Rattle.hc_verify.specs.Places.{process_from, name_from, is_both}

abbrev Word : Type 0
Word = List ℕ

abbrev same : Word → Word → Bool
same = pointwise nat_eq

-- ---- tests

or_true : (a b : Bool) → b ≡ true → (a || b) ≡ true
or_true true b h = refl
or_true false b h = h

any_at : (f : Word → Bool) (xs : List Word) (i : ℕ) (y : Word) → slice_get xs i ≡ Some y → f y ≡ true → list_any f xs ≡ true
any_at f [] i y h t = cc
any_at f (x ∷ xs) zero y h t = let here : x ≡ y = cc in ap (λ b. b || list_any f xs) (ap f here ∙ t)
any_at f (x ∷ xs) (suc i) y h t = or_true (f x) (list_any f xs) (any_at f xs i y h t)

-- the names of processes that are apart are apart
any_same : (p : Process) (ps : List Process) → list_any (same_name p) ps ≡ list_any (same p.name) (map name_of ps)
any_same p [] = refl
any_same p (q ∷ qs) = ap (λ b. same p.name q.name || b) (any_same p qs)

apart_names : (ps : List Process) → all_apart same_name ps ≡ all_apart same (map name_of ps)
apart_names [] = refl
apart_names (p ∷ ps) =
    ap (λ b. not b && all_apart same_name ps) (any_same p ps)
    ∙ ap (λ b. not (list_any (same p.name) (map name_of ps)) && b) (apart_names ps)

-- ---- searches

abbrev Found : Word → ℕ → ℕ → List Word → Type 0
Found name n k xs = (i : ℕ) × (k ≡ n + i) × (slice_get xs i ≡ Some name)

found_by : (name x : Word) (n k : ℕ) (xs : List Word) (b : Bool) → same x name ≡ b →
    (name_from name (n + 1) xs ≡ Some k → Found name (n + 1) k xs) →
    (if b then Some n else name_from name (n + 1) xs) ≡ Some k → Found name n k (x ∷ xs)
found_by name x n k xs true e later h =
    let here : n ≡ k = cc in
    (0, omega (arith, here), ap Some ((bytes_decides x name).0 e))
found_by name x n k xs false e later h = let r = later h in (suc r.0, omega (arith, r.1), r.2)

found : (name : Word) (n k : ℕ) (xs : List Word) → name_from name n xs ≡ Some k → Found name n k xs
found name n k [] h = cc
found name n k (x ∷ xs) h = found_by name x n k xs (same x name) refl (found name (n + 1) k xs) h

differs : (x y : Word) (xs : List Word) (i : ℕ) → not (list_any (same x) xs) ≡ true → slice_get xs i ≡ Some y → same x y ≡ false
differs x y xs i apart h = by (same x y) refl where
  by : (b : Bool) → same x y ≡ b → b ≡ false
  by false e = refl
  by true e = absurd (false≢true (sym (ap not (any_at (same x) xs i y h e)) ∙ apart))

is_found : (name : Word) (n i : ℕ) (xs : List Word) → all_apart same xs ≡ true → slice_get xs i ≡ Some name →
    name_from name n xs ≡ Some (n + i)
is_found name n i [] apart h = cc
is_found name n zero (x ∷ xs) apart h =
    let here : x ≡ name = cc in
    let count : n ≡ n + zero = omega arith in
    ap (λ b. if b then Some n else name_from name (n + 1) xs) ((bytes_decides x name).1 here) ∙ ap Some count
is_found name n (suc i) (x ∷ xs) apart h =
    let parts = and_parts (not (list_any (same x) xs)) (all_apart same xs) apart in
    let count : (n + 1) + i ≡ n + suc i = omega arith in
    ap (λ b. if b then Some n else name_from name (n + 1) xs) (differs x name xs i parts.0 h)
    ∙ is_found name (n + 1) i xs parts.1 h ∙ ap Some count

-- of different names, the one that is found is the one
the_name : (name : Word) (xs : List Word) → all_apart same xs ≡ true → (k : ℕ) →
    (name_from name 0 xs ≡ Some k) ↔ (slice_get xs k ≡ Some name)
the_name name xs apart k = (
  λ h. (
      let r = found name 0 k xs h in
      let here : r.0 ≡ k = omega (arith, r.1) in
      subst (λ (j : ℕ). slice_get xs j ≡ Some name) here r.2),
  λ h. (
      let count : 0 + k ≡ k = omega arith in
      is_found name 0 k xs apart h ∙ ap Some count),
)

-- ---- in a system

apart_in : (sys : System) → (all_apart same_name sys.processes ≡ true) × (all_apart same sys.channels ≡ true)
apart_in sys = and_parts _ _ (and_parts _ _ (and_parts _ _ (and_parts _ _ sys.kept).0).0).1

same_from : (name : Word) (n : ℕ) (ps : List Process) → process_from name n ps ≡ name_from name n (map name_of ps)
same_from name n [] = refl
same_from name n (p ∷ ps) = ap (λ (o : Option ℕ). if same p.name name then Some n else o) (same_from name (n + 1) ps)

pub process_is : (sys : System) (ps : List Process) (name : Word) (o : Option ℕ) → ps ≡ sys.processes → o ≡ process_from name 0 ps →
    IsThe (λ p. HasName sys p name) o
process_is sys ps name o same_list first k =
    let all = sym (apart_names sys.processes) ∙ (apart_in sys).0 in
    let t = the_name name (map name_of sys.processes) all k in
    let e : o ≡ name_from name 0 (map name_of sys.processes) =
    first ∙ ap (process_from name 0) same_list ∙ same_from name 0 sys.processes in
    (λ h. t.0 (sym e ∙ h), λ h. e ∙ t.1 h)

-- ---- ends

both_are : (a b : Option ℕ) → is_both a b ≡ true → (p : ℕ) × (a ≡ Some p) × (b ≡ Some p)
both_are None b h = absurd (false≢true h)
both_are (Some p) None h = absurd (false≢true h)
both_are (Some p) (Some q) h = let e : p ≡ q = grind (arith, nat_tests, h) in (p, refl, ap Some (sym e))

are_both : (a b : Option ℕ) (p : ℕ) → a ≡ Some p → b ≡ Some p → is_both a b ≡ true
are_both None b p h k = cc
are_both (Some q) None p h k = cc
are_both (Some q) (Some r) p h k = let e : q ≡ p = cc in let f : r ≡ p = cc in grind (arith, nat_tests, e, f)

pub end_is : (sys : System) (found end : Option ℕ) (name : Option Word) (n : Word) (r : Bool) → name ≡ Some n →
    IsThe (λ p. HasName sys p n) found → r ≡ is_both found end → IsTrue r ↔ IsEndNamed sys end name
end_is sys found end name n r e the is =
    let here : (IsTrue r → IsEndNamed sys end (Some n)) × (IsEndNamed sys end (Some n) → IsTrue r) = (
      λ h. (let b = both_are found end (sym is ∙ h) in (b.0, b.2, (the b.0).0 b.1)),
      λ h. is ∙ are_both found end h.0 ((the h.0).1 h.2) h.1,
    ) in
    subst (λ (x : Option Word). (IsTrue r → IsEndNamed sys end x) × (IsEndNamed sys end x → IsTrue r)) (sym e) here

-- ---- channels

module _ (sys : System) (channel : Word) (sender receiver : Option Word) (cs : List Word) (listed : cs ≡ sys.channels) where
  pub the_channel : (o : Option ℕ) → o ≡ name_from channel 0 cs → (k : ℕ) → (o ≡ Some k) ↔ (slice_get sys.channels k ≡ Some channel)
  the_channel o first k =
      let t = the_name channel sys.channels (apart_in sys).1 k in
      let e : o ≡ name_from channel 0 sys.channels = first ∙ ap (name_from channel 0) listed in
      (λ h. t.0 (sym e ∙ h), λ h. e ∙ t.1 h)

  pub no_channel : (o : Option ℕ) → None ≡ name_from channel 0 cs → o ≡ None → IsThe (IsChannelNamed sys channel sender receiver) o
  no_channel o first none k = (λ h. cc, λ h. (let e = (the_channel None first k).1 h.channel_named in cc))

  module _ (n : ℕ) (first : Some n ≡ name_from channel 0 cs) (ends : Ends) (are_ends : ends ≡ ends_of sys n) (sent received : Bool)
      (sends : IsTrue sent ↔ IsEndNamed sys ends.sender sender) (receives : IsTrue received ↔ IsEndNamed sys ends.receiver receiver) where
    pub a_channel : (sent && received) ≡ true → IsThe (IsChannelNamed sys channel sender receiver) (Some n)
    a_channel both k = (
      λ h. (let e : n ≡ k = cc in subst (IsChannelNamed sys channel sender receiver) e here),
      λ h. (the_channel (Some n) first k).1 h.channel_named,
    ) where
      here : IsChannelNamed sys channel sender receiver n
      here =
          let parts = and_parts sent received both in
          record {
            channel_named = (the_channel (Some n) first n).0 refl;
            sender_named = subst (λ (x : Ends). IsEndNamed sys x.sender sender) are_ends (sends.0 parts.0);
            receiver_named = subst (λ (x : Ends). IsEndNamed sys x.receiver receiver) are_ends (receives.0 parts.1);
          }

    pub other_ends : (sent && received) ≡ false → IsThe (IsChannelNamed sys channel sender receiver) None
    other_ends neither k = (λ h. cc, λ h. absurd (wrong h)) where
      wrong : IsChannelNamed sys channel sender receiver k → ⊥
      wrong h =
          let to : Some n ≡ Some k = (the_channel (Some n) first k).1 h.channel_named in
          let e : n ≡ k = cc in
          let g = subst (IsChannelNamed sys channel sender receiver) (sym e) h in
          let one = sends.1 (subst (λ (x : Ends). IsEndNamed sys x.sender sender) (sym are_ends) g.sender_named) in
          let two = receives.1 (subst (λ (x : Ends). IsEndNamed sys x.receiver receiver) (sym are_ends) g.receiver_named) in
          false≢true (sym neither ∙ ap (λ b. b && received) one ∙ two)
