use Rattle.std.proofs.Common.{ap, sym, ◌∙◌, ◌||◌, ◌&&◌}
use Rattle.std.specs.List.{list_any}
use Rattle.std.specs.Cmp.Lexicographic.{nat_list_eq_equiv}
use Rattle.hc_modules.specs.Bindings.{same_word, is_value}
use Rattle.hc_modules.proofs.Bound.{inserted}
use Rattle.hc_modules.proofs.written.add_value.Goals as goal

pub returns-in_ok-note-in-Value : goal.returns-in_ok-note-in-Value
returns-in_ok-note-in-Value c =
    λ x. ap (list_any (same_word x)) (c.in_ok-note-in-Value.ensures {u = tt}).noted
    ∙ inserted c.args.names.now.keys c.args.param.now.name x
    ∙ ap (λ b. list_any (same_word x) c.args.names.now.keys || b)
    (nat_list_eq_equiv.symm x c.args.param.now.name
    ∙ ap (λ k. is_value k && same_word c.args.param.now.name x) (sym c.in-Value.is))
