-- What a code has at a place, and what its entries are.
use Rattle.std.proofs.Common.{◌≡◌, refl, subst, ℕ, zero, suc, ◌+◌, List, [], ◌∷◌, slice_get, Some, arith}
use Rattle.hc_cast.specs.declared.program.CFunction.{CFunction}
use Rattle.hc_cast.specs.declared.program.CProgram.{CProgram}
use Rattle.hc_ccode.specs.declared.code.Entry.{Entry}
use Rattle.hc_ccode.specs.declared.code.Node.{Node}
use Rattle.hc_ccode.specs.Stages.{Stage, Stages, Agrees, AllAgree, Begins, FunctionsBegin}

-- a node stands for its stage
pub record HasNode (g : CProgram) (t : Stages) (nodes : List Node) (place : ℕ) (s : Stage) : Type 0 where
  pub node : Node
  pub stands : slice_get nodes place ≡ Some node
  pub agrees : Agrees g t node s.names s.known s.todo

pub node_at : (g : CProgram) (t : Stages) (nodes : List Node) (stages : Stages) (place : ℕ) (s : Stage) → AllAgree g t nodes stages →
    slice_get stages place ≡ Some s → HasNode g t nodes place s
node_at g t [] [] place s all e = absurd (cc)
node_at g t [] (x ∷ xs) place s all e = absurd all
node_at g t (i ∷ is) [] place s all e = absurd all
node_at g t (i ∷ is) (x ∷ xs) zero s all e =
    let same : x ≡ s = cc in
    record { node = i; stands = refl; agrees = subst (λ (y : Stage). Agrees g t i y.names y.known y.todo) same all.0 }
node_at g t (i ∷ is) (x ∷ xs) (suc place) s all e =
    let rest = node_at g t is xs place s all.1 e in record { node = rest.node; stands = rest.stands; agrees = rest.agrees }

-- a function has an entry
pub record HasEntry (t : Stages) (entries : List Entry) (known place : ℕ) (f : CFunction) : Type 0 where
  pub entry : Entry
  pub stands : slice_get entries place ≡ Some entry
  pub begins : Begins t (known + place) f.params f.body f.gives entry

pub entry_at : (t : Stages) (known : ℕ) (entries : List Entry) (fs : List CFunction) (place : ℕ) (f : CFunction) → FunctionsBegin t known entries fs →
    slice_get fs place ≡ Some f → HasEntry t entries known place f
entry_at t known [] [] place f all e = absurd (cc)
entry_at t known [] (x ∷ xs) place f all e = absurd all
entry_at t known (i ∷ is) [] place f all e = absurd all
entry_at t known (i ∷ is) (x ∷ xs) zero f all e =
    let same : x ≡ f = cc in
    let here : known ≡ known + 0 = omega arith in
    record {
      entry = i;
      stands = refl;
      begins = subst (λ (n : ℕ). Begins t n f.params f.body f.gives i) here (subst (λ (y : CFunction). Begins t known y.params y.body y.gives i) same all.0);
    }
entry_at t known (i ∷ is) (x ∷ xs) (suc place) f all e =
    let rest = entry_at t (known + 1) is xs place f all.1 e in
    let further : (known + 1) + place ≡ known + suc place = omega arith in
    record { entry = rest.entry; stands = rest.stands; begins = subst (λ (n : ℕ). Begins t n f.params f.body f.gives rest.entry) further rest.begins }
