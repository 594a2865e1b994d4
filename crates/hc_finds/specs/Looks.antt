-- What is found in the parts of a process: divisors, rates, domains and guards.
use Rattle.std.specs.Prelude.{Bool, false, List, [], ◌∷◌, map, flat_map}
use Rattle.std.specs.List.{list_any}
use Rattle.hc_frac.specs.declared.place.Place.{Place}
use Rattle.hc_ast.specs.Bare.{Word}
use Rattle.hc_ast.specs.declared.expr.ExprTree.{ExprTree}
use Rattle.hc_ast.specs.declared.stmt.IoTree.{IoTree}
use Rattle.hc_ast.specs.declared.stmt.IoTree.TheVariants as io_of
use Rattle.hc_ast.specs.declared.stmt.RateTree.{RateTree}
use Rattle.hc_modules.specs.Bindings.{same_word}
use Rattle.hc_modules.specs.Finds.{only_if}
use Rattle.hc_finds.specs.Exprs.{names_in, sides, divisors_not_literal, zero_divisors, is_among, moves_of}
use Rattle.hc_finds.specs.Parts.{Part, assign, compute, test, communicate, rate, domain, guard}

-- the value that a communication sends
abbrev pub sent_in : IoTree → List ExprTree
sent_in (io_of.Send channel value) = value ∷ []
sent_in (io_of.Receive channel target) = []

-- the expressions of a part, and the sides of its comparisons
abbrev pub exprs_in : Part → List ExprTree
exprs_in (assign p x e) = e ∷ []
exprs_in (compute p e) = e ∷ []
exprs_in (test p c) = sides c
exprs_in (communicate p i) = sent_in i
exprs_in (rate all earlier r) = r.value ∷ []
exprs_in (domain rs p c) = sides c
exprs_in (guard rs earlier p i) = sent_in i

-- a divisor that is no number; a divisor that is 0
abbrev pub divisor_not_literal : Part → List Place
divisor_not_literal x = flat_map (divisors_not_literal false) (exprs_in x)

abbrev pub zero_divisor : Part → List Place
zero_divisor x = flat_map (zero_divisors false) (exprs_in x)

-- the variables that evolve at these rates
abbrev pub evolving : List RateTree → List Word
evolving rs = map (λ r. r.variable) rs

-- a rate of a variable that has one before
abbrev pub repeated_rate : Part → List Place
repeated_rate (rate all earlier r) = only_if (is_among (evolving earlier) r.variable) r.place
repeated_rate x = []

-- an evolving variable in a rate of its evolution
abbrev pub rate_evolves : Part → List Place
rate_evolves (rate all earlier r) = flat_map (λ n. only_if (is_among (evolving all) n.word) n.place) (names_in r.value)
rate_evolves x = []

-- the products of these expressions with evolving variables on both sides
abbrev pub products_in : List RateTree → List ExprTree → List Place
products_in rs es = flat_map (λ e. (moves_of (evolving rs) e).products) es

-- a product with evolving variables on both sides, in a domain or in a value that a guard sends
abbrev pub not_affine : Part → List Place
not_affine (domain rs p c) = products_in rs (sides c)
not_affine (guard rs earlier p i) = products_in rs (sent_in i)
not_affine x = []

-- whether two communications go in one direction of one channel
abbrev pub same_way : IoTree → IoTree → Bool
same_way (io_of.Send c e) (io_of.Send d f) = same_word c d
same_way (io_of.Receive c x) (io_of.Receive d y) = same_word c d
same_way _ _ = false

-- a branch on a channel that an earlier branch has in the same direction
abbrev pub repeated_guard : Part → List Place
repeated_guard (guard rs earlier p i) = only_if (list_any (λ j. same_way j i) earlier) p
repeated_guard x = []
