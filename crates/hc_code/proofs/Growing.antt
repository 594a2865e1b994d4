-- How pieces of code are put together.
use Rattle.std.proofs.Common.{◌≡◌, refl, sym, ap, ◌∙◌, subst, ℕ, ◌+◌, ◌≤◌, ◌<◌, zero, suc, Bool, true, false, ◌&&◌, IsTrue, List, [], ◌∷◌, ◌++◌, length, drop, arith, append_assoc, length-append, sum_by}
use Rattle.std.specs.List.{list_all}
use Rattle.std.proofs.lemmas.List.{append-nil}
use Rattle.std.proofs.lemmas.List.Folds.{list_all-append}
use Rattle.std.proofs.lemmas.List.Sums.{sum_by-append, sum_by-cons}
use Rattle.hc_term.specs.declared.stmt.Stmt.{Stmt, out-Stmt}
use Rattle.hc_term.specs.Process.{Layer}
use Rattle.hc_term.specs.Rules.{is_stmt}
use Rattle.hc_code.specs.declared.code.Instr.{Instr}
use Rattle.hc_code.specs.Stands.{Table, At, AgreesHere, AllAgree, is_step}
use Rattle.hc_code.specs.Kept.{is_instr}
use Rattle.hc_code.specs.Measure.{measure_of, measure_all, weight}
use Rattle.hc_code.specs.Pieces.{entry, HasAt, EachAt, Adds}

-- ---- tests

pub both : (a b : Bool) → IsTrue a → IsTrue b → IsTrue (a && b)
both true true h k = refl
both true false h k = k
both false b h k = h

pub first_of : (a b : Bool) → IsTrue (a && b) → IsTrue a
first_of true b h = refl
first_of false b h = h

pub second_of : (a b : Bool) → IsTrue (a && b) → IsTrue b
second_of true b h = h
second_of false b h = cc

module _ {X : Type 0} (p : X → Bool) (xs ys : List X) where
  pub all_join : IsTrue (list_all p xs) → IsTrue (list_all p ys) → IsTrue (list_all p (xs ++ ys))
  all_join h k = list_all-append p xs ys ∙ both (list_all p xs) (list_all p ys) h k

  pub all_front : IsTrue (list_all p (xs ++ ys)) → IsTrue (list_all p xs)
  all_front h = first_of (list_all p xs) (list_all p ys) (sym (list_all-append p xs ys) ∙ h)

  pub all_back : IsTrue (list_all p (xs ++ ys)) → IsTrue (list_all p ys)
  all_back h = second_of (list_all p xs) (list_all p ys) (sym (list_all-append p xs ys) ∙ h)

-- ---- places

pub has_split : (t : Table) (here : ℕ) (ls ms : Table) → HasAt t here (ls ++ ms) → HasAt t here ls × HasAt t (here + length ls) ms
has_split t here [] ms h = let e : here ≡ here + 0 = omega arith in (tt, subst (λ n. HasAt t n ms) e h)
has_split t here (l ∷ ls) ms h =
    let later = has_split t (here + 1) ls ms h.1 in
    let e : here + 1 + length ls ≡ here + length (l ∷ ls) = omega arith in
    ((h.0, later.0), subst (λ n. HasAt t n ms) e later.1)

pub agree_join : (t : Table) (is js : List Instr) (ls ms : Table) → AllAgree t is ls → AllAgree t js ms → AllAgree t (is ++ js) (ls ++ ms)
agree_join t [] js [] ms h k = k
agree_join t [] js (l ∷ ls) ms h k = absurd h
agree_join t (i ∷ is) js [] ms h k = absurd h
agree_join t (i ∷ is) js (l ∷ ls) ms h k = (h.0, agree_join t is js ls ms h.1 k)

each_join : (t : Table) (rest : List Stmt) (ps qs : List ℕ) (xs ys : List (List Stmt)) → EachAt t ps xs rest → EachAt t qs ys rest →
    EachAt t (ps ++ qs) (xs ++ ys) rest
each_join t rest [] qs [] ys h k = k
each_join t rest [] qs (x ∷ xs) ys h k = absurd h
each_join t rest (p ∷ ps) qs [] ys h k = absurd h
each_join t rest (p ∷ ps) qs (x ∷ xs) ys h k = (h.0, each_join t rest ps qs xs ys h.1 k)

-- ---- pieces

pub nothing : (code : List Instr) (next : ℕ) → Adds code code next [] []
nothing code next = record {
  piece = [];
  is = sym (append-nil code);
  steps = refl;
  lists = λ rest. [];
  even = λ rest. refl;
  stands = λ rest t has h. (tt, tt);
  ruled = λ channels n h. refl;
  light = omega arith;
}

-- before the first of some statements
pub not_yet : (code : List Instr) (next : ℕ) → Adds code code next (next ∷ []) ([] ∷ [])
not_yet code next = record {
  piece = [];
  is = sym (append-nil code);
  steps = refl;
  lists = λ rest. [];
  even = λ rest. refl;
  stands = λ rest t has h. (tt, (h, tt));
  ruled = λ channels n h. refl;
  light = omega arith;
}

-- where a piece begins that is put behind another
length_behind : {a b : List Instr} {next : ℕ} {ps : List ℕ} {xs : List (List Stmt)} (p : Adds a b next ps xs) (rest : List Stmt) →
    length a + length (p.lists rest) ≡ length b
length_behind {a = a} p rest = omega (arith, p.even rest, ap length p.is, length-append a p.piece)

-- two pieces that go on at the same place
pub beside : {a b c : List Instr} {next : ℕ} {ps qs : List ℕ} {xs ys : List (List Stmt)} →
    Adds a b next ps xs → Adds b c next qs ys → Adds a c next (ps ++ qs) (xs ++ ys)
beside {a = a} {b = b} {c = c} {ps = ps} {qs = qs} {xs = xs} {ys = ys} p q = record {
  piece = p.piece ++ q.piece;
  is = q.is ∙ ap (λ ls. ls ++ q.piece) p.is ∙ append_assoc a p.piece q.piece;
  steps = all_join is_step p.piece q.piece p.steps q.steps;
  lists = λ rest. p.lists rest ++ q.lists rest;
  even = λ rest. omega (arith, p.even rest, q.even rest, length-append (p.lists rest) (q.lists rest), length-append p.piece q.piece);
  stands = λ rest t has h.
      let parts = has_split t (length a) (p.lists rest) (q.lists rest) has in
      let first = p.stands rest t parts.0 h in
      let second = q.stands rest t (subst (λ n. HasAt t n (q.lists rest)) (length_behind p rest) parts.1) h in
      (agree_join t p.piece q.piece (p.lists rest) (q.lists rest) first.0 second.0, each_join t rest ps qs xs ys first.1 second.1);
  ruled = λ channels n h.
      all_join (is_instr channels n) p.piece q.piece
      (p.ruled channels n (all_front (list_all (is_stmt channels n)) xs ys h))
      (q.ruled channels n (all_back (list_all (is_stmt channels n)) xs ys h));
  light = omega (arith, p.light, q.light, sum_by-append weight p.piece q.piece, sum_by-append measure_all xs ys);
}

alone : (ss : List Stmt) → sum_by measure_all (ss ∷ []) ≡ measure_all ss
alone ss = omega (arith, sum_by-cons measure_all ss [])

one_part : (channels n : ℕ) (ss : List Stmt) → IsTrue (list_all (is_stmt channels n) ss) → IsTrue (list_all (list_all (is_stmt channels n)) (ss ∷ []))
one_part channels n ss h = both (list_all (is_stmt channels n) ss) true h refl

of_one_part : (channels n : ℕ) (ss : List Stmt) → IsTrue (list_all (list_all (is_stmt channels n)) (ss ∷ [])) → IsTrue (list_all (is_stmt channels n) ss)
of_one_part channels n ss h = first_of (list_all (is_stmt channels n) ss) true h

-- a piece that goes on at the beginning of the next
pub one_then : {a b c : List Instr} {p q next : ℕ} {xs ys : List Stmt} →
    Adds a b q (p ∷ []) (xs ∷ []) → Adds b c next (q ∷ []) (ys ∷ []) → Adds a c next (p ∷ []) ((xs ++ ys) ∷ [])
one_then {a = a} {p = p} {xs = xs} {ys = ys} f g = record {
  piece = f.piece ++ g.piece;
  is = g.is ∙ ap (λ ls. ls ++ g.piece) f.is ∙ append_assoc a f.piece g.piece;
  steps = all_join is_step f.piece g.piece f.steps g.steps;
  lists = λ rest. f.lists (ys ++ rest) ++ g.lists rest;
  even = λ rest. omega (arith, f.even (ys ++ rest), g.even rest, length-append (f.lists (ys ++ rest)) (g.lists rest), length-append f.piece g.piece);
  stands = λ rest t has h.
      let parts = has_split t (length a) (f.lists (ys ++ rest)) (g.lists rest) has in
      let second = g.stands rest t (subst (λ n. HasAt t n (g.lists rest)) (length_behind f (ys ++ rest)) parts.1) h in
      let first = f.stands (ys ++ rest) t parts.0 second.1.0 in (
        agree_join t f.piece g.piece (f.lists (ys ++ rest)) (g.lists rest) first.0 second.0,
        (subst (λ ss. At t p ss) (sym (append_assoc xs ys rest)) first.1.0, tt),
      );
  ruled = λ channels n h.
      let whole = of_one_part channels n (xs ++ ys) h in
      all_join (is_instr channels n) f.piece g.piece
      (f.ruled channels n (one_part channels n xs (all_front (is_stmt channels n) xs ys whole)))
      (g.ruled channels n (one_part channels n ys (all_back (is_stmt channels n) xs ys whole)));
  light =
      omega (
        arith,
        f.light,
        g.light,
        alone xs,
        alone ys,
        alone (xs ++ ys),
        sum_by-append measure_of xs ys,
        sum_by-append weight f.piece g.piece,
      );
}

-- an instruction before a piece: what must hold of the instruction of a statement whose parts are in the piece
pub record Heads (here next inner : ℕ) (inside : List Stmt → List Stmt) (begins : List ℕ) (parts : List (List Stmt)) (i : Instr) (s : Stmt) (layer : Layer) : Type 0 where
  pub opened : out-Stmt s ≡ layer
  pub is_step : IsTrue (is_step i)
  pub goes_in : (rest : List Stmt) (t : Table) → At t here (s ∷ rest) → At t next rest → At t inner (inside rest)
  pub agrees : (rest : List Stmt) (t : Table) → At t here (s ∷ rest) → At t next rest → EachAt t begins parts (inside rest) → AgreesHere t i s rest layer
  pub is_ruled : (channels n : ℕ) → IsTrue (is_stmt channels n s) → IsTrue (is_instr channels n i)
  pub are_ruled : (channels n : ℕ) → IsTrue (is_stmt channels n s) → IsTrue (list_all (list_all (is_stmt channels n)) parts)
  pub weighs : weight i + sum_by measure_all parts ≤ measure_of s

pub headed : {old mid new : List Instr} {next inner : ℕ} {inside : List Stmt → List Stmt} {begins : List ℕ} {parts : List (List Stmt)} {i : Instr} {s : Stmt} {layer : Layer} →
    mid ≡ old ++ i ∷ [] → Adds mid new inner begins parts → Heads (length old) next inner inside begins parts i s layer →
    Adds old new next (length old ∷ []) ((s ∷ []) ∷ [])
headed {old = old} {mid = mid} {inside = inside} {i = i} {s = s} e p h = record {
  piece = i ∷ p.piece;
  is = p.is ∙ ap (λ ls. ls ++ p.piece) e ∙ append_assoc old (i ∷ []) p.piece;
  steps = both (is_step i) (list_all is_step p.piece) h.is_step p.steps;
  lists = λ rest. (s ∷ rest) ∷ p.lists (inside rest);
  even = λ rest. ap suc (p.even (inside rest));
  stands = λ rest t has k.
      let behind : length old + 1 ≡ length mid = omega (arith, ap length e, length-append old (i ∷ [])) in
      let inner = p.stands (inside rest) t (subst (λ n. HasAt t n (p.lists (inside rest))) behind has.1) (h.goes_in rest t has.0 k) in
      ((subst (λ l. AgreesHere t i s rest l) (sym h.opened) (h.agrees rest t has.0 k inner.1), inner.0), (has.0, tt));
  ruled = λ channels n k.
      let own = first_of (is_stmt channels n s) true (of_one_part channels n (s ∷ []) k) in
      both (is_instr channels n i) (list_all (is_instr channels n) p.piece) (h.is_ruled channels n own) (p.ruled channels n (h.are_ruled channels n own));
  light = omega (arith, p.light, h.weighs, sum_by-cons weight i p.piece, alone (s ∷ []), sum_by-cons measure_of s []);
}

-- ---- where statements begin

pub entry-drop : (here next : ℕ) (ss : List Stmt) (i : ℕ) → i < length ss → entry here next (drop i ss) ≡ here
entry-drop here next [] i h = absurd (omega arith)
entry-drop here next (s ∷ ss) zero h = refl
entry-drop here next (s ∷ ss) (suc i) h = entry-drop here next ss i (omega arith)
