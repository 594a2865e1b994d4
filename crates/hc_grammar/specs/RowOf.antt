-- What a row of a program's table says.
use Rattle.std.specs.Prelude.{◌++◌}
use Rattle.hc_grammar.specs.Table as table
use Rattle.hc_grammar.specs.declared.language.Row as program
use Rattle.hc_grammar.specs.declared.language.Row.TheVariants.{Takes, Skips, Refuses}

abbrev pub row_of : {K H A B : Type 0} → program.Row K H A B → table.Entry K H A B
row_of (Takes role p q) = table.Takes role (p.now ++ q.now)
row_of Skips = table.Skips
row_of Refuses = table.Refuses
