-- A whole unit is built again.
use Rattle.std.proofs.Common.{◌≡◌, ◌+◌, List, [], ◌∷◌, length, sym, arith}
use Rattle.hc_grammar.specs.Texts as texts
use Rattle.hc_grammar.specs.Texts.{Read}
use Rattle.hc_grammar.specs.Reader.{Within}
use Rattle.hc_cast.specs.declared.program.CProgram.{CProgram}
use Rattle.hc_ctoken.specs.declared.token.Lexeme.TheVariants as lex
use Rattle.hc_ctoken.specs.declared.token.Token.{Token}
use Rattle.hc_cgrammar.specs.declared.role.Role.TheVariants as r
use Rattle.hc_cgrammar.specs.Leaves.{Spelled}
use Rattle.hc_cgrammar.specs.State.{no_strings, opening}
use Rattle.hc_cgrammar.specs.Rules.{reader}
use Rattle.hc_cgrammar.specs.Units as g
use Rattle.hc_cgrammar.specs.UnitRoles.{arrays, channel_names, process_names, functions, thread, more_threads, table, main, whole}
use Rattle.hc_cgrammar.specs.UnitTrees.{arrays_tree, channels_tree, processes_tree, functions_tree, thread_tree, more_threads_tree, whole_tree}
use Rattle.hc_cgrammar.specs.Unit.{IsProgramOf}
use Rattle.hc_cspell.specs.Tokens.{Lexemes}
use Rattle.hc_cspell.specs.Units as canon
use Rattle.hc_cspell.specs.Units.{unit}
use Rattle.hc_cwrite.proofs.Saying.{Says}
use Rattle.hc_cwrite.proofs.Follows.{Frame, Follows, free_token}
use Rattle.hc_cwrite.proofs.Fine.{AreFine, AllSound}
use Rattle.hc_cwrite.proofs.Parts.{arrays_again, functions_again}
use Rattle.hc_cwrite.proofs.Stages.{IsThere, Stage, from_piece, next}
use Rattle.hc_cwrite.proofs.Threads.{frame, thread_again, count_behind, count_is, more_threads_again, table_again, main_again}
use Rattle.hc_cwrite.proofs.Names.{channels_again, processes_again}

-- the parts of a unit
abbrev Parts : Type 0
Parts =
    g.Arrays × (g.ChannelNames × (g.ProcessNames × (g.Functions × (g.Thread × (g.MoreThreads × (g.Table × g.Main))))))

-- before its end
abbrev before_end : Parts → Spelled → Spelled
before_end q v =
    arrays q.0
    (channel_names q.1.0
    (process_names q.1.1.0
    (functions q.1.1.1.0
    (thread q.1.1.1.1.0 (more_threads q.1.1.1.1.1.0 (table q.1.1.1.1.1.1.0 (main q.1.1.1.1.1.1.1 v)))))))

abbrev parts_of : g.Whole → Parts
parts_of x = (x.arrays, (x.channels, (x.processes, (x.functions, (x.first, (x.others, (x.table, x.main)))))))

-- the program of the parts
abbrev tree_of : Parts → CProgram
tree_of q = record {
  arrays = arrays_tree q.0;
  channels = channels_tree q.1.0;
  processes = processes_tree q.1.1.0;
  functions = functions_tree q.1.1.1.0;
  threads = thread_tree q.1.1.1.1.0 ∷ more_threads_tree q.1.1.1.1.1.0;
}

-- parts that say the same
abbrev AreLike : g.Whole → Parts → Type 0
AreLike x q =
    (arrays_tree q.0 ≡ arrays_tree x.arrays)
    × ((channels_tree q.1.0 ≡ channels_tree x.channels)
    × ((processes_tree q.1.1.0 ≡ processes_tree x.processes)
    × ((functions_tree q.1.1.1.0 ≡ functions_tree x.functions)
    × ((thread_tree q.1.1.1.1.0 ≡ thread_tree x.first)
    × ((more_threads_tree q.1.1.1.1.1.0 ≡ more_threads_tree x.others) × (Unit {0} × Unit {0}))))))

like_tree : (x : g.Whole) (q : Parts) → AreLike x q → tree_of q ≡ whole_tree x
like_tree x q i = rw (i.0, i.1.0, i.1.1.0, i.1.1.1.0, i.1.1.1.1.0, i.1.1.1.1.1.0)

-- the tokens of a program before the end
abbrev spelled_before : CProgram → Lexemes → Lexemes
spelled_before p w =
    canon.arrays p.arrays
    (canon.channels p.channels
    (canon.processes p.processes
    (canon.functions p.functions (canon.threads_from 0 p.threads (canon.table p.threads (canon.main (length p.threads) w))))))

whole_again : (x : g.Whole)
    → (B : Frame) × Stage {T = Parts} (frame no_strings 0 0) B (before_end (parts_of x)) (spelled_before (whole_tree x)) before_end (AreLike x)
whole_again x =
    let ch = channels_again no_strings 0 0 x.channels in
    let pr = processes_again ch.0 0 0 x.processes in
    let st = pr.0 in
    let k = count_behind (0 + 1) x.others in
    let n = length (thread_tree x.first ∷ more_threads_tree x.others) in
    let e : n ≡ k = omega (arith, count_is (0 + 1) x.others) in (
      frame st k k,
      next (from_piece (frame no_strings 0 0) (arrays_again x.arrays)) (next ch.1 (next pr.1
          (next (from_piece (frame st 0 0) (functions_again x.functions)) (next (thread_again st 0 x.first)
          (next (more_threads_again st (0 + 1) x.others)
          (next (table_again st k (thread_tree x.first) (more_threads_tree x.others) e x.table) (main_again st k n e x.main))))))),
    )

abbrev the_end : Token → Spelled
the_end t = Read t r.Plain ∷ []

-- the end of a text breaks nothing
end_follows : (B : Frame) (t t' : Token) → t.lexeme ≡ lex.End → t'.lexeme ≡ lex.End → Follows 0 0 B (the_end t) (the_end t')
end_follows B t t' i i' = free_token r.Plain t t' lex.End B [] [] i i' (record { run = λ s d e h j w. tt })

is_there : (x : g.Whole) → Within reader (whole x) opening → IsThere (frame no_strings 0 0) (before_end (parts_of x) (the_end x.last.0))
is_there x h = (opening, 0, h)

-- what a unit is spelled as can be written
pub unit_fine : (x : g.Whole) → AllSound (texts.tokens_of (whole x)) → Within reader (whole x) opening → AreFine (unit (whole_tree x))
unit_fine x sound h = (whole_again x).1.fine (the_end x.last.0) sound (is_there x h) [] tt

-- and tokens that say it are a unit of the same program
pub unit_built : (x : g.Whole) → AllSound (texts.tokens_of (whole x)) → Within reader (whole x) opening → (ts : List Token)
    → Says (unit (whole_tree x)) ts → IsProgramOf ts (whole_tree x)
unit_built x sound h ts says =
    let again = whole_again x in
    let p = again.1.reads (the_end x.last.0) sound (is_there x h) [] ts says in
    let y : g.Whole = record {
      arrays = p.part.0;
      channels = p.part.1.0;
      processes = p.part.1.1.0;
      functions = p.part.1.1.1.0;
      first = p.part.1.1.1.1.0;
      others = p.part.1.1.1.1.1.0;
      table = p.part.1.1.1.1.1.1.0;
      main = p.part.1.1.1.1.1.1.1;
      last = (p.rest.last, p.rest.is_end);
    } in
    record {
      written = y;
      tokens = p.tokens (the_end p.rest.last) (sym p.rest.alone);
      within = (p.goes (the_end x.last.0) (the_end p.rest.last) (end_follows again.0 x.last.0 p.rest.last x.last.1 p.rest.is_end)).run
          opening 0 0 (omega arith) (omega arith) h;
      program = like_tree x p.part p.good;
    }
