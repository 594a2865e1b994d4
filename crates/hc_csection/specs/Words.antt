-- What the locals and the row of a thread and the shared part stand for, in front of a section, inside it and behind it.
use Rattle.std.specs.Prelude.{◌≡◌, ◌<◌, ◌%◌, true, ℕ, zero, suc, List, [], ◌∷◌, length, slice_get, slice_set, slice_index_or, ℤ, pos, Option, Some, None, is_some}
use Rattle.hc_rational.specs.Words.{Rational, zero_ℚ}
use Rattle.hc_term.specs.declared.stmt.Stmt.{Stmt, out-Stmt}
use Rattle.hc_term.specs.declared.system.Process.{Process}
use Rattle.hc_term.specs.declared.task.Task.{Task}
use Rattle.hc_term.specs.declared.run.Item.{Item}
use Rattle.hc_term.specs.declared.post.Post.{Post}
use Rattle.hc_term.specs.declared.model.Mark.TheVariants.{Going}
use Rattle.hc_term.specs.declared.model.ProcessState.{ProcessState}
use Rattle.hc_term.specs.declared.model.Configuration.{Configuration}
use Rattle.hc_term.specs.Posts.{receives_on}
use Rattle.hc_term.specs.Offers.{post, going_post}
use Rattle.hc_term.specs.Communication.{received_here}
use Rattle.hc_term.specs.Step.{opening, Leads}
use Rattle.hc_term.specs.Event.{Progress}
use Rattle.hc_code.specs.declared.code.Way.{Way}
use Rattle.hc_code.specs.declared.code.Instr.{Instr}
use Rattle.hc_code.specs.declared.code.Instr.TheVariants as instr
use Rattle.hc_code.specs.Stands.{Table, At}
use Rattle.hc_cmach.specs.State.{Word, Shared, width}
use Rattle.hc_cthreads.specs.Bodies.{v_done, v_x}
use Rattle.hc_cthreads.specs.Scenes.{AllHaveShown}
use Rattle.hc_cthreads.specs.Reports.{CoreWords}
use Rattle.hc_core_c.specs.Twin.{Board64, nth, register, variable}
use Rattle.hc_core_c.specs.Owner.{shared_of, Sane}
use Rattle.hc_core_facts.specs.Standing as posts
use Rattle.hc_cstep.specs.Locals.{Mine, names}
use Rattle.hc_csection.specs.Values.{values_of}
use Rattle.hc_cstep.specs.Stands.{StandsFor, RatesAre, has_arrived}
use Rattle.hc_cstep.specs.Law.{end_number, LogIs}

-- ---- the threads' codes and locals

-- of each process: its code, for what its places stand, and the locals that its private code has beside those that are named here
pub record Codes : Type 0 where
  pub table : ℕ → Table
  pub code : ℕ → List Instr
  pub scratch : ℕ → List Word

-- the locals of thread p, in the order in which its body declares them
abbrev pub thread_names : Codes → ℕ → List Word
thread_names k p = names (v_done ∷ v_x ∷ k.scratch p)

-- how many locals stand behind those of the private code that have names
abbrev pub room : Codes → ℕ → ℕ
room k p = suc (suc (length (k.scratch p)))

abbrev pub variables_by : Option Process → ℕ
variables_by None = 0
variables_by (Some x) = length x.variables

abbrev pub processes : Task → ℕ
processes t = length t.system.processes

abbrev pub channels : Task → ℕ
channels t = length t.system.channels

-- how many variables process p has
abbrev pub variables : Task → ℕ → ℕ
variables t p = variables_by (slice_get t.system.processes p)

-- ---- the locals of a thread

-- These are the values of thread p's locals: those of the private code, v_done, v_x and the scratch.
pub record LocalsAre (mine : Mine) (done x : ℤ) (more : List ℤ) (values : List ℤ) : Type 0 where
  pub is : values ≡ values_of mine
  pub others : mine.others ≡ done ∷ x ∷ more

-- at the head of the loop: row and locals stand for process p's configuration q
pub record IsHead (k : Codes) (t : Task) (p : ℕ) (clock : Rational) (q : ProcessState) (row : List Rational) (values : List ℤ) : Type 0 where
  pub mine : Mine
  pub x : ℤ
  pub more : List ℤ
  pub locals : LocalsAre mine (pos 0) x more values
  pub stands : StandsFor (k.table p) (variables t p) (room k p) clock (record mine { row = row }) q

-- in front of the lock: they stand for the configuration to which these steps lead, and v_steps and v_end say how many they are and why there are no more
pub record IsLocked (k : Codes) (t : Task) (p : ℕ) (clock : Rational) (h : Progress) (row : List Rational) (values : List ℤ) : Type 0 where
  pub mine : Mine
  pub done : ℤ
  pub x : ℤ
  pub more : List ℤ
  pub locals : LocalsAre mine done x more values
  pub stands : StandsFor (k.table p) (variables t p) (room k p) clock (record mine { row = row }) h.next
  pub counted : mine.steps ≡ length h.logs
  pub ended : mine.end ≡ end_number h.end
  pub logged : LogIs (record mine { row = row }) h.end

-- behind the report: there are locals of a thread
pub record IsKept (row : List Rational) (values : List ℤ) : Type 0 where
  pub mine : Mine
  pub done : ℤ
  pub x : ℤ
  pub more : List ℤ
  pub locals : LocalsAre mine done x more values

-- ---- the shared part

-- element i of array number a
abbrev pub element : Shared → ℕ → ℕ → ℤ
element m a i = slice_index_or (slice_index_or m.arrays a []) i (pos 0)

-- by the order of the core's arrays
abbrev pub the_met : ℕ
the_met = 6

abbrev pub the_limit : ℕ
the_limit = 8

abbrev pub the_self : ℕ
the_self = 10

-- the register of row 64 that holds the horizon
abbrev pub the_horizon : ℕ
the_horizon = 67

-- steps lead to this configuration
pub record IsReached (t : Task) (c : Configuration) : Type 0 where
  pub items : List Item
  pub leads : Leads t (opening t) items c

-- the board once horizon and limit are set, as each section does first
abbrev pub set_board : Task → Board64 → Board64
set_board t b = record b { row = slice_set b.row the_horizon t.horizon; limit = t.limit }

-- row 64 has the variables of each process
abbrev pub VariablesAre : Board64 → List ProcessState → Type 0
VariablesAre b qs = (p i : ℕ) (q : ProcessState) → slice_get qs p ≡ Some q → i < length q.store → register b (variable p i) ≡ slice_index_or q.store i zero_ℚ

-- the variable that a process with these statements to do sets when it receives on channel c
abbrev pub received_in : ℕ → List Stmt → ℕ
received_in c [] = 0
received_in c (head ∷ rest) = (received_here c (out-Stmt head)).0

-- and for each offer to receive, the variable that it sets
abbrev pub IntosAre : Board64 → List ProcessState → List Post → Type 0
IntosAre b qs ps =
    (p c : ℕ) (q : ProcessState) (x : Post) → slice_get qs p ≡ Some q → slice_get ps p ≡ Some x → receives_on c x.offers ≡ true →
    nth b.into c ≡ received_in c q.todo

-- The shared part stands, without a stop, for these posts of configuration c, its clock and its variables, and for so many steps.
pub record IsShared (t : Task) (c : Configuration) (ps : List Post) (n : ℕ) (m : Shared) : Type 0 where
  pub board : Board64
  pub is : m ≡ shared_of board
  pub goes_on : board.stop ≡ 0
  pub stands : posts.StandsFor (processes t) (channels t) (set_board t board) ps c.clock t.horizon n t.limit
  pub sane : Sane (processes t) board
  pub variables_are : VariablesAre board c.processes
  pub intos : IntosAre board c.processes ps
  pub shown : AllHaveShown c.clock c.processes ps
  pub reached : IsReached t c

-- a stop stands
pub record IsHalted (m : Shared) : Type 0 where
  pub board : Board64
  pub is : m ≡ shared_of board
  pub stopped : 0 < board.stop

-- horizon, limit and runner are set
pub record IsSet (t : Task) (p : ℕ) (m : Shared) : Type 0 where
  pub horizon : slice_index_or m.row the_horizon zero_ℚ ≡ t.horizon
  pub limit : element m the_limit 0 ≡ pos t.limit
  pub self : element m the_self 0 ≡ pos p

-- ---- what a thread will take over

abbrev pub ways_of : Instr → List Way
ways_of (instr.Meet ways) = ways
ways_of (instr.Evolve rates domain ways next) = ways
ways_of i = []

-- Process r hasn't met since it showed itself: its locals stand for it, and what may have changed is in row 64.
pub record IsUnmet (t : Table) (clock : Rational) (mine : Mine) (row : List Rational) (q : ProcessState) (x : Post) : Type 0 where
  pub at_place : At t mine.place q.todo
  pub same_mark : mine.arrived ≡ has_arrived q.mark
  pub bounded : mine.bounded ≡ is_some x.bound
  pub rates : RatesAre row x.moving
  pub shown : x ≡ post clock q

-- It has met by branch g of its place.
pub record HasMet (t : Table) (code : List Instr) (mine : Mine) (g : ℕ) (q : ProcessState) (x : Post) : Type 0 where
  pub goes : q.mark ≡ Going
  pub shown : x ≡ going_post
  pub what : Instr
  pub way : Way
  pub at_place : slice_get code mine.place ≡ Some what
  pub at_way : slice_get (ways_of what) g ≡ Some way
  pub follows : At t way.next q.todo

-- by the number in `a_met`, which is 0 or that of the branch and 1
abbrev pub Finds : Table → List Instr → Rational → Mine → List Rational → ℕ → ProcessState → Post → Type 0
Finds t code clock mine row zero q x = IsUnmet t clock mine row q x
Finds t code clock mine row (suc g) q x = HasMet t code mine g q x

-- behind its report row and locals of thread r, with what is shared, stand for its process
pub record IsMet (k : Codes) (t : Task) (r : ℕ) (c : Configuration) (ps : List Post) (m : Shared) (row : List Rational) (values : List ℤ) : Type 0 where
  pub mine : Mine
  pub done : ℤ
  pub x : ℤ
  pub more : List ℤ
  pub locals : LocalsAre mine done x more values
  pub spare : length more ≡ length (k.scratch r)
  pub wide : length row ≡ width
  pub q : ProcessState
  pub shows : Post
  pub number : ℕ
  pub at_process : slice_get c.processes r ≡ Some q
  pub at_post : slice_get ps r ≡ Some shows
  pub met : element m the_met r ≡ pos number
  pub choices : mine.choices ≡ q.choices % 64
  pub finds : Finds (k.table r) (k.code r) c.clock mine row number q shows

-- ---- all of them

abbrev pub section_words : Codes → Task → CoreWords
section_words k t = record {
  stands = IsShared t;
  set = IsSet t;
  halted = IsHalted;
  head = IsHead k t;
  locked = IsLocked k t;
  met = IsMet k t;
  kept = λ p row values. IsKept row values;
}
