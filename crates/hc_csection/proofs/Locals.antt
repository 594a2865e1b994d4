-- The values of a thread's locals, written out.
use Rattle.std.specs.Prelude.{◌≡◌, ℕ, zero, suc, List, ◌∷◌, ℤ, Some}
use Rattle.std.proofs.Common.{refl, ap, ◌∙◌}
use Rattle.hc_rational.specs.Words.{Rational}
use Rattle.hc_term.specs.declared.post.Post.{Post}
use Rattle.hc_term.specs.declared.model.ProcessState.{ProcessState}
use Rattle.hc_code.specs.declared.code.Instr.{Instr}
use Rattle.hc_code.specs.Stands.{Table}
use Rattle.hc_clogic.specs.Runs.{View, kept}
use Rattle.hc_cthreads.specs.Bodies.{v_done, v_x}
use Rattle.hc_cthreads.specs.Views.{local_value}
use Rattle.hc_cstep.specs.Locals.{Mine}
use Rattle.hc_csection.specs.Values.{values_of}
use Rattle.hc_csection.specs.Words.{Codes, thread_names, LocalsAre, Finds}

abbrev pub with_others : Mine → List ℤ → Mine
with_others m zs = record m { others = zs }

abbrev pub local_values : Mine → ℤ → ℤ → List ℤ → List ℤ
local_values m done x more = values_of (with_others m (done ∷ x ∷ more))

pub values_are : (m : Mine) (done x : ℤ) (more values : List ℤ) → LocalsAre m done x more values → values ≡ local_values m done x more
values_are m done x more values h = h.is ∙ ap (λ (zs : List ℤ). values_of (with_others m zs)) h.others

pub locals_are : (m : Mine) (done x : ℤ) (more : List ℤ) → LocalsAre (with_others m (done ∷ x ∷ more)) done x more (local_values m done x more)
locals_are m done x more = record { is = refl; others = refl }

-- v_x takes another value
pub sets_x : (k : Codes) (p : ℕ) (m : Mine) (done x z : ℤ) (more : List ℤ) (v : View) → v.names ≡ thread_names k p → v.values ≡ local_values m done x more →
    kept v (Some v_x) z ≡ local_values m done z more
sets_x k p m done x z more v names values = rw (names, values) refl

pub x_is : (k : Codes) (p : ℕ) (m : Mine) (done x : ℤ) (more : List ℤ) → local_value (thread_names k p) (local_values m done x more) v_x ≡ x
x_is k p m done x more = refl

pub done_is : (k : Codes) (p : ℕ) (m : Mine) (done x : ℤ) (more : List ℤ) → local_value (thread_names k p) (local_values m done x more) v_done ≡ done
done_is k p m done x more = refl

-- what a thread finds doesn't hang on those behind the named ones
pub finds_others : (t : Table) (code : List Instr) (clock : Rational) (m : Mine) (zs : List ℤ) (row : List Rational) (n : ℕ) (q : ProcessState) (x : Post) →
    Finds t code clock m row n q x → Finds t code clock (with_others m zs) row n q x
finds_others t code clock m zs row zero q x h =
    record { at_place = h.at_place; same_mark = h.same_mark; bounded = h.bounded; rates = h.rates; shown = h.shown }
finds_others t code clock m zs row (suc g) q x h = record {
  goes = h.goes;
  shown = h.shown;
  what = h.what;
  way = h.way;
  at_place = h.at_place;
  at_way = h.at_way;
  follows = h.follows;
}
