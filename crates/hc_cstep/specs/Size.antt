-- How many statements a text of C has, those inside others counted.
use Rattle.std.specs.Prelude.{ℕ, ◌+◌, List, [], ◌∷◌, map, Option, Some, None}
use Rattle.hc_term.specs.declared.expr.Expr.{Expr}
use Rattle.hc_term.specs.declared.stmt.Io.{Io}
use Rattle.hc_term.specs.declared.stmt.Io.TheVariants.{Send, Receive}
use Rattle.hc_term.specs.declared.stmt.Rate.{Rate}
use Rattle.hc_code.specs.declared.code.Instr.{Instr}
use Rattle.hc_code.specs.declared.code.Instr.TheVariants as instr
use Rattle.hc_code.specs.Kept.{ios_of}
use Rattle.hc_cast.specs.declared.stmt.CStmt.{CStmt, fold-CStmt}
use Rattle.hc_cast.specs.declared.stmt.CStmt.TheOpen.{CStmt-F, CCase-F}
use Rattle.hc_cast.specs.declared.stmt.CCase.{CCase, fold-CCase}
use Rattle.hc_cstep.specs.Parts.{Parts}

abbrev pub total : List ℕ → ℕ
total [] = 0
total (n ∷ ns) = n + total ns

abbrev pub or_none : Option (List ℕ) → ℕ
or_none None = 0
or_none (Some ns) = total ns

abbrev pub size_layer : CStmt-F ℕ ℕ → ℕ
size_layer (CStmt-F.If test first other) = 1 + total first + or_none other
size_layer (CStmt-F.While test body) = 1 + total body
size_layer (CStmt-F.Switch on cases otherwise) = 1 + total cases + total otherwise
size_layer _ = 1

abbrev pub case_layer : CCase-F ℕ ℕ → ℕ
case_layer c = total c.body

abbrev pub size : CStmt → ℕ
size s = fold-CStmt ℕ ℕ size_layer case_layer s

abbrev pub case_size : CCase → ℕ
case_size c = fold-CCase ℕ ℕ size_layer case_layer c

abbrev pub sizes : List CStmt → ℕ
sizes ss = total (map size ss)

-- ---- what the parts of an instruction come to

-- of what is sent
abbrev pub sent_size : (Expr → List CStmt) → Io → ℕ
sent_size f (Send channel value) = 3 + sizes (f value)
sent_size f (Receive channel variable) = 0

abbrev pub rate_size : Parts → Rate → ℕ
rate_size c r = 2 + sizes (c.value r.value)

abbrev pub parts_size : Parts → Instr → ℕ
parts_size c (instr.Assign x e next) = sizes (c.value e)
parts_size c (instr.Log e next) = sizes (c.value e)
parts_size c (instr.Wait e next) = sizes (c.value e)
parts_size c (instr.Test e yes' no') = sizes (c.test e)
parts_size c (instr.Meet ways) = total (map (sent_size c.value) (ios_of ways))
parts_size c (instr.Evolve rates domain ways next) =
    total (map (rate_size c) rates) + total (map (sent_size (c.line rates)) (ios_of ways)) + sizes (c.ends rates domain)
parts_size c _ = 0
