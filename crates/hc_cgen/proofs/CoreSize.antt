-- The functions of the core and of the sections have few statements, whatever the numbers of processes and channels are.
use Rattle.std.specs.Prelude.{◌≤◌, ℕ, ◌*◌, List, [], ◌∷◌, ◌++◌, length}
use Rattle.std.proofs.Common.{arith}
use Rattle.hc_cast.specs.declared.program.CFunction.{CFunction}
use Rattle.hc_core_c.specs.Code.{f_owner, f_stop, f_count, f_mute, f_go, f_meet, f_fire, f_able, f_any, f_least, f_shift, f_drift, f_lower, f_move, f_due, f_stand, f_length, f_delay, f_elapse, f_wakes, f_pass, core_functions}
use Rattle.hc_cstep.specs.Size.{sizes}
use Rattle.hc_csection.specs.Code.{f_enter, f_idle, section_functions}
use Rattle.hc_cgen.specs.Size.{function_sizes}
use Rattle.hc_cgen.proofs.Forms.{all_forms}

abbrev of : CFunction → ℕ
of f = sizes f.body.statements

owner_size : (P : ℕ) → of (f_owner P) ≤ 30
owner_size P = simp all_forms (omega arith)

stop_size : of (f_stop) ≤ 30
stop_size = simp all_forms (omega arith)

count_size : of (f_count) ≤ 30
count_size = simp all_forms (omega arith)

mute_size : (C : ℕ) → of (f_mute C) ≤ 30
mute_size C = simp all_forms (omega arith)

go_size : of (f_go) ≤ 30
go_size = simp all_forms (omega arith)

meet_size : of (f_meet) ≤ 30
meet_size = simp all_forms (omega arith)

fire_size : (C : ℕ) → of (f_fire C) ≤ 30
fire_size C = simp all_forms (omega arith)

able_size : of (f_able) ≤ 30
able_size = simp all_forms (omega arith)

any_size : (P : ℕ) → of (f_any P) ≤ 30
any_size P = simp all_forms (omega arith)

least_size : (P : ℕ) → of (f_least P) ≤ 30
least_size P = simp all_forms (omega arith)

shift_size : of (f_shift) ≤ 30
shift_size = simp all_forms (omega arith)

drift_size : of (f_drift) ≤ 30
drift_size = simp all_forms (omega arith)

lower_size : of (f_lower) ≤ 30
lower_size = simp all_forms (omega arith)

move_size : (P C : ℕ) → of (f_move P C) ≤ 30
move_size P C = simp all_forms (omega arith)

due_size : (P : ℕ) → of (f_due P) ≤ 30
due_size P = simp all_forms (omega arith)

stand_size : (P : ℕ) → of (f_stand P) ≤ 30
stand_size P = simp all_forms (omega arith)

length_size : of (f_length) ≤ 30
length_size = simp all_forms (omega arith)

delay_size : of (f_delay) ≤ 30
delay_size = simp all_forms (omega arith)

elapse_size : of (f_elapse) ≤ 30
elapse_size = simp all_forms (omega arith)

wakes_size : (P : ℕ) → of (f_wakes P) ≤ 30
wakes_size P = simp all_forms (omega arith)

pass_size : (P : ℕ) → of (f_pass P) ≤ 30
pass_size P = simp all_forms (omega arith)

enter_size : of (f_enter) ≤ 30
enter_size = simp all_forms (omega arith)

idle_size : of (f_idle) ≤ 30
idle_size = simp all_forms (omega arith)

-- ---- all of them

abbrev AllFew : List CFunction → Type 0
AllFew [] = Unit {0}
AllFew (f ∷ fs) = (of f ≤ 30) × AllFew fs

few_in_all : (fs : List CFunction) → AllFew fs → function_sizes fs ≤ 30 * length fs
few_in_all [] h = omega arith
few_in_all (f ∷ fs) h = let rest = few_in_all fs h.1 in let one = h.0 in omega (arith, rest, one)

each_few : (P C : ℕ) → AllFew (core_functions P C ++ section_functions)
each_few P C = (
  owner_size P,
  (
    stop_size,
    (
      count_size,
      (
        mute_size C,
        (
          go_size,
          (
            meet_size,
            (
              fire_size C,
              (
                able_size,
                (
                  any_size P,
                  (
                    least_size P,
                    (
                      shift_size,
                      (
                        drift_size,
                        (
                          lower_size,
                          (
                            move_size P C,
                            (due_size P, (stand_size P, (length_size, (delay_size, (elapse_size, (wakes_size P, (pass_size P, (enter_size, (idle_size, tt))))))))),
                          ),
                        ),
                      ),
                    ),
                  ),
                ),
              ),
            ),
          ),
        ),
      ),
    ),
  ),
)

pub functions_few : (P C : ℕ) → function_sizes (core_functions P C ++ section_functions) ≤ 690
functions_few P C = few_in_all (core_functions P C ++ section_functions) (each_few P C)
