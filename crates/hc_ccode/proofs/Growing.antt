-- How pieces of code are put together.
use Rattle.std.proofs.Common.{◌≡◌, refl, sym, ap, ◌∙◌, subst, ℕ, ◌+◌, suc, List, [], ◌∷◌, ◌++◌, length, arith, append_assoc, length-append}
use Rattle.std.specs.Prelude.{slice_get, slice_set, Some}
use Rattle.std.proofs.lemmas.List.{append-nil}
use Rattle.hc_cast.specs.declared.stmt.CStmt.{CStmt, out-CStmt}
use Rattle.hc_cast.specs.declared.program.CProgram.{CProgram}
use Rattle.hc_cmach.specs.State.{Word}
use Rattle.hc_ccode.specs.declared.code.Node.{Node}
use Rattle.hc_ccode.specs.Stages.{Stage, stage, Stages, At, Layer, AgreesHere, AllAgree}
use Rattle.hc_ccode.specs.Pieces.{HasAt, EachAt, Adds}

-- ---- places

pub has_split : (t : Stages) (here : ℕ) (ls ms : Stages) → HasAt t here (ls ++ ms) → HasAt t here ls × HasAt t (here + length ls) ms
has_split t here [] ms h = let e : here ≡ here + 0 = omega arith in (tt, subst (λ n. HasAt t n ms) e h)
has_split t here (l ∷ ls) ms h =
    let later = has_split t (here + 1) ls ms h.1 in
    let e : here + 1 + length ls ≡ here + length (l ∷ ls) = omega arith in
    ((h.0, later.0), subst (λ n. HasAt t n ms) e later.1)

at_seam : (before : Stages) (s : Stage) (more : Stages) → slice_get (before ++ s ∷ more) (length before) ≡ Some s
at_seam [] s more = refl
at_seam (l ∷ ls) s more = at_seam ls s more

pub has_at : (t before ls more : Stages) → t ≡ before ++ (ls ++ more) → HasAt t (length before) ls
has_at t before [] more e = tt
has_at t before (l ∷ ls) more e =
    let here : slice_get t (length before) ≡ Some l = ap (λ (u : Stages). slice_get u (length before)) e ∙ at_seam before l (ls ++ more) in
    let more_before : t ≡ (before ++ l ∷ []) ++ (ls ++ more) = e ∙ sym (append_assoc before (l ∷ []) (ls ++ more)) in
    let behind : length (before ++ l ∷ []) ≡ length before + 1 = length-append before (l ∷ []) in
    (here, subst (λ n. HasAt t n ls) behind (has_at t (before ++ l ∷ []) ls more more_before))

pub set_seam : (before : List Node) (i j : Node) (more : List Node) → slice_set (before ++ i ∷ more) (length before) j ≡ before ++ j ∷ more
set_seam [] i j more = refl
set_seam (b ∷ bs) i j more = ap (λ (ls : List Node). b ∷ ls) (set_seam bs i j more)

module _ (g : CProgram) where
  pub agree_join : (t : Stages) (is js : List Node) (ls ms : Stages) → AllAgree g t is ls → AllAgree g t js ms → AllAgree g t (is ++ js) (ls ++ ms)
  agree_join t [] js [] ms h k = k
  agree_join t [] js (l ∷ ls) ms h k = absurd h
  agree_join t (i ∷ is) js [] ms h k = absurd h
  agree_join t (i ∷ is) js (l ∷ ls) ms h k = (h.0, agree_join t is js ls ms h.1 k)

module _ (g : CProgram) (names : List Word) (known : ℕ) where
  each_join : (t : Stages) (rest : List CStmt) (ps qs : List ℕ) (xs ys : List (List CStmt)) → EachAt t names known ps xs rest →
      EachAt t names known qs ys rest → EachAt t names known (ps ++ qs) (xs ++ ys) rest
  each_join t rest [] qs [] ys h k = k
  each_join t rest [] qs (x ∷ xs) ys h k = absurd h
  each_join t rest (p ∷ ps) qs [] ys h k = absurd h
  each_join t rest (p ∷ ps) qs (x ∷ xs) ys h k = (h.0, each_join t rest ps qs xs ys h.1 k)

  -- ---- pieces

  pub nothing : (code : List Node) (next : ℕ) → Adds g names known code code next [] []
  nothing code next = record {
    piece = [];
    is = sym (append-nil code);
    stages = λ rest. [];
    even = λ rest. refl;
    stands = λ rest t has h. (tt, tt);
  }

  -- before the last of some statements
  pub not_yet : (code : List Node) (next : ℕ) → Adds g names known code code next (next ∷ []) ([] ∷ [])
  not_yet code next = record {
    piece = [];
    is = sym (append-nil code);
    stages = λ rest. [];
    even = λ rest. refl;
    stands = λ rest t has h. (tt, (h, tt));
  }

  module _ {a b : List Node} {next : ℕ} {ps : List ℕ} {xs : List (List CStmt)} where
    -- where a piece begins that is put behind another
    length_behind : (p : Adds g names known a b next ps xs) (rest : List CStmt) → length a + length (p.stages rest) ≡ length b
    length_behind p rest = omega (arith, p.even rest, ap length p.is, length-append a p.piece)

    -- two pieces that go on at the same place
    pub beside : {c : List Node} {qs : List ℕ} {ys : List (List CStmt)} →
        Adds g names known a b next ps xs → Adds g names known b c next qs ys → Adds g names known a c next (ps ++ qs) (xs ++ ys)
    beside {c = c} {qs = qs} {ys = ys} p q = record {
      piece = p.piece ++ q.piece;
      is = q.is ∙ ap (λ ls. ls ++ q.piece) p.is ∙ append_assoc a p.piece q.piece;
      stages = λ rest. p.stages rest ++ q.stages rest;
      even = λ rest. omega (arith, p.even rest, q.even rest, length-append (p.stages rest) (q.stages rest), length-append p.piece q.piece);
      stands = λ rest t has h.
          let parts = has_split t (length a) (p.stages rest) (q.stages rest) has in
          let first = p.stands rest t parts.0 h in
          let second = q.stands rest t (subst (λ n. HasAt t n (q.stages rest)) (length_behind p rest) parts.1) h in
          (agree_join g t p.piece q.piece (p.stages rest) (q.stages rest) first.0 second.0, each_join t rest ps qs xs ys first.1 second.1);
    }

  -- a piece before which there is what goes on at its beginning
  pub before_it : {a b c : List Node} {p q next : ℕ} {xs ys : List CStmt} →
      Adds g names known a b next (q ∷ []) (ys ∷ []) → Adds g names known b c q (p ∷ []) (xs ∷ []) → Adds g names known a c next (p ∷ []) ((xs ++ ys) ∷ [])
  before_it {a = a} {p = p} {xs = xs} {ys = ys} f h = record {
    piece = f.piece ++ h.piece;
    is = h.is ∙ ap (λ ls. ls ++ h.piece) f.is ∙ append_assoc a f.piece h.piece;
    stages = λ rest. f.stages rest ++ h.stages (ys ++ rest);
    even = λ rest. omega (arith, f.even rest, h.even (ys ++ rest), length-append (f.stages rest) (h.stages (ys ++ rest)), length-append f.piece h.piece);
    stands = λ rest t has k.
        let parts = has_split t (length a) (f.stages rest) (h.stages (ys ++ rest)) has in
        let last = f.stands rest t parts.0 k in
        let first = h.stands (ys ++ rest) t (subst (λ n. HasAt t n (h.stages (ys ++ rest))) (length_behind f rest) parts.1) last.1.0 in (
          agree_join g t f.piece h.piece (f.stages rest) (h.stages (ys ++ rest)) last.0 first.0,
          (subst (λ ss. At t names known p ss) (sym (append_assoc xs ys rest)) first.1.0, tt),
        );
  }

  -- a node behind a piece that holds the parts of its statement
  pub behind_it : {old mid new : List Node} {next : ℕ} {begins : List ℕ} {parts : List (List CStmt)} (i : Node) (s : CStmt) (layer : Layer) →
      Adds g names known old mid next begins parts → new ≡ mid ++ i ∷ [] → out-CStmt s ≡ layer →
      ((rest : List CStmt) (t : Stages) → At t names known next rest → EachAt t names known begins parts rest → AgreesHere g t names known i s rest layer) →
      Adds g names known old new next (length mid ∷ []) ((s ∷ []) ∷ [])
  behind_it {old = old} {mid = mid} i s layer p e opened agrees = record {
    piece = p.piece ++ i ∷ [];
    is = e ∙ ap (λ ls. ls ++ i ∷ []) p.is ∙ append_assoc old p.piece (i ∷ []);
    stages = λ rest. p.stages rest ++ stage names known (s ∷ rest) ∷ [];
    even = λ rest. omega (arith, p.even rest, length-append (p.stages rest) (stage names known (s ∷ rest) ∷ []), length-append p.piece (i ∷ []));
    stands = λ rest t has k.
        let split = has_split t (length old) (p.stages rest) (stage names known (s ∷ rest) ∷ []) has in
        let inner = p.stands rest t split.0 k in
        let here : At t names known (length mid) (s ∷ rest) = subst (λ n. At t names known n (s ∷ rest)) (length_behind p rest) split.1.0 in
        let own = subst (λ (l : Layer). AgreesHere g t names known i s rest l) (sym opened) (agrees rest t k inner.1) in
        (agree_join g t p.piece (i ∷ []) (p.stages rest) (stage names known (s ∷ rest) ∷ []) inner.0 (own, tt), (here, tt));
  }

  -- a loop's node before the piece of its body, which goes on at the loop
  pub around_it : {old mid last new : List Node} {next : ℕ} {begins : List ℕ} {parts : List (List CStmt)} (i j : Node) (s : CStmt) (layer : Layer) →
      mid ≡ old ++ j ∷ [] → Adds g names known mid last (length old) begins parts → new ≡ slice_set last (length old) i → out-CStmt s ≡ layer →
      ((rest : List CStmt) (t : Stages) → At t names known next rest → EachAt t names known begins parts (s ∷ rest) → AgreesHere g t names known i s rest layer) →
      Adds g names known old new next (length old ∷ []) ((s ∷ []) ∷ [])
  around_it {old = old} {mid = mid} {last = last} i j s layer m p e opened agrees =
      let last_is : last ≡ old ++ j ∷ p.piece = p.is ∙ ap (λ ls. ls ++ p.piece) m ∙ append_assoc old (j ∷ []) p.piece in
      record {
        piece = i ∷ p.piece;
        is = e ∙ ap (λ ls. slice_set ls (length old) i) last_is ∙ set_seam old j i p.piece;
        stages = λ rest. stage names known (s ∷ rest) ∷ p.stages (s ∷ rest);
        even = λ rest. ap suc (p.even (s ∷ rest));
        stands = λ rest t has k.
            let behind : length old + 1 ≡ length mid = omega (arith, ap length m, length-append old (j ∷ [])) in
            let inner = p.stands (s ∷ rest) t (subst (λ n. HasAt t n (p.stages (s ∷ rest))) behind has.1) has.0 in
            let own = subst (λ (l : Layer). AgreesHere g t names known i s rest l) (sym opened) (agrees rest t k inner.1) in
            ((own, inner.0), (has.0, tt));
      }
