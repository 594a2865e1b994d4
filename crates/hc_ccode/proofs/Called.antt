-- A function that is called is one of the first.
use Rattle.std.proofs.Common.{◌≡◌, refl, sym, ap, ◌∙◌, subst, ℕ, ◌<◌, ◌≤◌, zero, suc, Bool, true, false, IsTrue, List, [], ◌∷◌, length, take, drop, get_or, arith, Option, Some, None}
use Rattle.std.specs.Prelude.{slice_get, if◌then◌else◌}
use Rattle.std.specs.Str.{bytes_eq}
use Rattle.std.proofs.lemmas.Bool.{eqb-true}
use Rattle.hc_cast.specs.declared.expr.CExpr.{CExpr}
use Rattle.hc_cast.specs.declared.program.CFunction.{CFunction}
use Rattle.hc_cast.specs.declared.program.CProgram.{CProgram}
use Rattle.hc_cmach.specs.State.{Word, function_among}
use Rattle.hc_ccode.specs.declared.code.Node.{Node}
use Rattle.hc_ccode.specs.declared.code.Node.TheVariants as node
use Rattle.hc_cmach.specs.Calls.{is_call_of}
use Rattle.hc_ccode.specs.Placed.{placed_all, placed_target}
use Rattle.hc_ccode.specs.Stages.{CallsFunction}

first_named : (x : Word) (f : CFunction) (fs : List CFunction) (b : Bool) → b ≡ true → Some f ≡ (if b then Some f else function_among x fs)
first_named x f fs true e = refl
first_named x f fs false e = cc

pub found_here : (x : Word) (fs : List CFunction) (i : ℕ) (f : CFunction) → i < length fs → f ≡ get_or fs i f → bytes_eq x f.name ≡ true →
    slice_get fs i ≡ function_among x (drop i fs)
found_here x [] i f h e b = absurd (omega arith)
found_here x (g ∷ gs) zero f h e b = first_named x g gs (bytes_eq x g.name) (ap (λ (k : CFunction). bytes_eq x k.name) (sym e) ∙ b)
found_here x (g ∷ gs) (suc i) f h e b = found_here x gs i f (omega arith) e b

got_of_first : (fs : List CFunction) (k i : ℕ) (f : CFunction) → slice_get (take k fs) i ≡ Some f → slice_get fs i ≡ Some f
got_of_first fs zero i f e = cc
got_of_first [] (suc k) i f e = e
got_of_first (g ∷ gs) (suc k) zero f e = e
got_of_first (g ∷ gs) (suc k) (suc i) f e = got_of_first gs k i f e

among_more : (x : Word) (g f : CFunction) (a b : Option CFunction) (t : Bool) → (a ≡ Some f → b ≡ Some f) →
    (if t then Some g else a) ≡ Some f → (if t then Some g else b) ≡ Some f
among_more x g f a b true h e = e
among_more x g f a b false h e = h e

among_first : (x : Word) (fs : List CFunction) (k : ℕ) (f : CFunction) → function_among x (take k fs) ≡ Some f → function_among x fs ≡ Some f
among_first x fs zero f e = cc
among_first x [] (suc k) f e = e
among_first x (g ∷ gs) (suc k) f e =
    among_more x g f (function_among x (take k gs)) (function_among x gs) (bytes_eq x g.name) (among_first x gs k f) e

within_first : (fs : List CFunction) (k : ℕ) → length (take k fs) ≤ k
within_first fs zero = omega arith
within_first [] (suc k) = omega arith
within_first (g ∷ gs) (suc k) = let h = within_first gs k in omega arith

module _ (g : CProgram) (names : List Word) (known next : ℕ) (i : Node) (target : Option Word) (what : Word) (es : List CExpr) (place : ℕ) where
  by_name : (o : Option CFunction) → slice_get (take known g.functions) place ≡ o → function_among what (take known g.functions) ≡ o →
      place < length (take known g.functions) → IsTrue (is_call_of o es) → i ≡ node.Call place (placed_all g names es) (placed_target names target) next →
      CallsFunction g names known next i target what es
  by_name None s n h called is = absurd (cc)
  by_name (Some f) s n h called is = record {
    place = place;
    callee = f;
    named = among_first what g.functions known f n;
    stands = got_of_first g.functions known place f s;
    before = omega (arith, within_first g.functions known);
    even = eqb-true (length f.params) (length es) called;
    is = is;
  }

  -- the same where the functions came out of a call
  pub called : (fs : List CFunction) → fs ≡ g.functions → slice_get (take known fs) place ≡ function_among what (take known fs) →
      place < length (take known fs) → IsTrue (is_call_of (function_among what (take known g.functions)) es) →
      i ≡ node.Call place (placed_all g names es) (placed_target names target) next → CallsFunction g names known next i target what es
  called fs same e h c is =
      let s = subst (λ (fs : List CFunction). slice_get (take known fs) place ≡ function_among what (take known fs)) same e in
      let k = subst (λ (fs : List CFunction). place < length (take known fs)) same h in
      by_name (function_among what (take known g.functions)) s refl k c is
