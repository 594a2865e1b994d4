-- The arrays and the functions of the core, for P processes and C channels.
use Rattle.std.specs.Prelude.{ℕ, ◌*◌, max, List, [], ◌∷◌, codes}
use Rattle.hc_cast.specs.declared.expr.CExpr.{CExpr}
use Rattle.hc_cast.specs.declared.stmt.CStmt.{CStmt}
use Rattle.hc_cast.specs.declared.stmt.CStmt.TheVariants.{Set, Store}
use Rattle.hc_cast.specs.declared.program.CArray.{CArray}
use Rattle.hc_cast.specs.declared.program.CFunction.{CFunction}
use Rattle.hc_cmach.specs.State.{Word}
use Rattle.hc_cbuild.specs.Written.{number, minus_one, local, element, first_of, sum, difference, times, less, equals, both, either, denies, above_zero, below_one, call, take_call, if_then, if_else, count_to, return_value, procedure, function}

-- ---- arrays

abbrev pub array : Word → ℕ → CArray
array name length = record { name = name; length = length }

abbrev pub core_arrays : ℕ → ℕ → List CArray
core_arrays P C =
    array (codes "a_phase") P
    ∷ array (codes "a_bounded") P
    ∷ array (codes "a_moves") (P * 64)
    ∷ array (codes "a_send") (max C 1)
    ∷ array (codes "a_receive") (max C 1)
    ∷ array (codes "a_into") (max C 1)
    ∷ array (codes "a_met") P
    ∷ array (codes "a_steps") 1
    ∷ array (codes "a_limit") 1
    ∷ array (codes "a_stop") 1
    ∷ array (codes "a_self") 1
    ∷ array (codes "a_woke") P
    ∷ []

-- ---- names of locals

abbrev pub p : Word
p = codes "v_p"

abbrev pub q : Word
q = codes "v_q"

abbrev pub c : Word
c = codes "v_c"

abbrev pub i : Word
i = codes "v_i"

abbrev pub x : Word
x = codes "v_x"

abbrev pub k : Word
k = codes "v_k"

abbrev pub w : Word
w = codes "v_w"

abbrev pub s : Word
s = codes "v_s"

abbrev pub r : Word
r = codes "v_r"

abbrev pub at : Word
at = codes "v_at"

abbrev pub rate : Word
rate = codes "v_rate"

abbrev pub store : Word
store = codes "v_store"

abbrev pub ok : Word
ok = codes "v_ok"

-- ---- places

-- register n of process e, and of channel c the codes of its offers
abbrev pub its : Word → ℕ → CExpr
its e n = sum (times (local e) 320) (number n)

abbrev pub send_of : CExpr
send_of = element (codes "a_send") (local c)

abbrev pub receive_of : CExpr
receive_of = element (codes "a_receive") (local c)

-- ---- functions

-- the last process p with 32 p below the code
abbrev pub f_owner : ℕ → CFunction
f_owner P =
    function (codes "f_owner") (x ∷ []) (p ∷ q ∷ [])
    (count_to p P (if_then (less (times (local p) 32) (local x)) (Set q (local p) ∷ []) ∷ []) ∷ return_value (local q) ∷ [])

abbrev pub f_stop : CFunction
f_stop =
    procedure (codes "f_stop") (k ∷ w ∷ []) []
    (
    call (codes "out_end") (local k ∷ number 64 ∷ number 64 ∷ local w ∷ [])
    ∷ Store (codes "a_stop") (number 0) (sum (local k) (number 1))
    ∷ []
    )

abbrev pub stops : ℕ → CStmt
stops n = call (codes "f_stop") (number n ∷ minus_one ∷ [])

abbrev pub f_count : CFunction
f_count =
    procedure (codes "f_count") [] []
    (
    Store (codes "a_steps") (number 0) (sum (first_of (codes "a_steps")) (number 1))
    ∷ if_else (less (first_of (codes "a_steps")) (first_of (codes "a_limit"))) [] (stops 3 ∷ [])
    ∷ []
    )

-- where the code of channel c in the array is of process p, it becomes 0
abbrev pub clears : Word → CStmt
clears name =
    if_then
    (
    both (less (times (local p) 32) (element name (local c))) (less (element name (local c)) (sum (times (local p) 32) (number 33)))
    )
    (Store name (local c) (number 0) ∷ [])

abbrev pub f_mute : ℕ → CFunction
f_mute C = procedure (codes "f_mute") (p ∷ []) (c ∷ []) (count_to c C (clears (codes "a_send") ∷ clears (codes "a_receive") ∷ []) ∷ [])

abbrev pub mutes : Word → CStmt
mutes e = call (codes "f_mute") (local e ∷ [])

abbrev pub f_go : CFunction
f_go =
    procedure (codes "f_go") (p ∷ []) (i ∷ [])
    (
    Store (codes "a_phase") (local p) (number 0)
    ∷ Store (codes "a_bounded") (local p) (number 0)
    ∷ Store (codes "a_woke") (local p) (number 1)
    ∷ count_to i 64 (Store (codes "a_moves") (sum (times (local p) 64) (local i)) (number 0) ∷ [])
    ∷ mutes p
    ∷ []
    )

-- the code of an offer without its process, and the register of the value sent
abbrev pub branch_of : CExpr → Word → CExpr
branch_of code e = difference code (times (local e) 32)

abbrev pub f_meet : CFunction
f_meet =
    procedure (codes "f_meet") (c ∷ []) (s ∷ r ∷ at ∷ [])
    (
    take_call s (codes "f_owner") (send_of ∷ [])
    ∷ take_call r (codes "f_owner") (receive_of ∷ [])
    ∷ Set at (branch_of send_of s)
    ∷ Store (codes "a_met") (local s) (local at)
    ∷ Store (codes "a_met") (local r) (branch_of receive_of r)
    ∷ Set at (sum (its s 191) (local at))
    ∷ call (codes "out_comm") (number 64 ∷ number 64 ∷ local c ∷ local s ∷ local r ∷ local at ∷ [])
    ∷ call (codes "fr_move") (number 64 ∷ sum (times (local r) 320) (element (codes "a_into") (local c)) ∷ number 64 ∷ local at ∷ [])
    ∷ call (codes "f_go") (local s ∷ [])
    ∷ call (codes "f_go") (local r ∷ [])
    ∷ call (codes "f_count") []
    ∷ []
    )

abbrev pub f_fire : ℕ → CFunction
f_fire C =
    procedure (codes "f_fire") [] (c ∷ [])
    (
    count_to c C
    (
    if_then (both (both (below_one (first_of (codes "a_stop"))) (above_zero send_of)) (above_zero receive_of)) (call (codes "f_meet") (local c ∷ []) ∷ [])
    ∷ []
    )
    ∷ []
    )

abbrev pub f_able : CFunction
f_able =
    function (codes "f_able") (p ∷ []) (x ∷ [])
    (
    take_call x (codes "fr_sign") (number 64 ∷ its p 66 ∷ [])
    ∷ return_value
    (
    denies
    (
    both (denies (below_one (element (codes "a_phase") (local p))))
    (denies (both (above_zero (element (codes "a_bounded") (local p))) (equals (local x) (number 0))))
    )
    )
    ∷ []
    )

abbrev pub asks_able : CStmt
asks_able = take_call x (codes "f_able") (local p ∷ [])

abbrev pub f_any : ℕ → CFunction
f_any P =
    function (codes "f_any") [] (p ∷ x ∷ q ∷ [])
    (count_to p P (asks_able ∷ if_then (above_zero (local x)) (Set q (number 1) ∷ []) ∷ Set x (number 0) ∷ []) ∷ return_value (local q) ∷ [])

abbrev pub f_least : ℕ → CFunction
f_least P =
    function (codes "f_least") [] (i ∷ p ∷ x ∷ k ∷ [])
    (
    count_to i (P * 64) (if_then (above_zero (element (codes "a_moves") (local i))) (Set k (number 1) ∷ []) ∷ [])
    ∷ count_to p P
    (
    if_then (above_zero (element (codes "a_bounded") (local p)))
    (
    take_call x (codes "fr_cmp") (number 64 ∷ its p 66 ∷ number 68 ∷ [])
    ∷ if_then (either (less (local k) (number 2)) (less (local x) (number 0))) (call (codes "fr_move") (number 64 ∷ number 68 ∷ number 64 ∷ its p 66 ∷ []) ∷ [])
    ∷ Set k (number 2)
    ∷ Set x (number 0)
    ∷ []
    )
    ∷ []
    )
    ∷ return_value (local k)
    ∷ []
    )

-- register 72 goes to the register e where it is to be stored
abbrev pub keeps : CExpr → CStmt
keeps e = if_then (both (above_zero (local ok)) (above_zero (local store))) (call (codes "fr_move") (number 64 ∷ e ∷ number 64 ∷ number 72 ∷ []) ∷ [])

abbrev pub f_shift : CFunction
f_shift =
    function (codes "f_shift") (at ∷ rate ∷ store ∷ []) (ok ∷ [])
    (
    take_call ok (codes "fr_mul") (number 64 ∷ number 72 ∷ local rate ∷ number 70 ∷ [])
    ∷ if_then (above_zero (local ok)) (take_call ok (codes "fr_add") (number 64 ∷ number 72 ∷ local at ∷ number 72 ∷ []) ∷ [])
    ∷ keeps (local at)
    ∷ return_value (local ok)
    ∷ []
    )

abbrev pub f_drift : CFunction
f_drift =
    function (codes "f_drift") (p ∷ store ∷ []) (i ∷ ok ∷ [])
    (
    Set ok (number 1)
    ∷ count_to i 64
    (
    if_then (both (above_zero (local ok)) (above_zero (element (codes "a_moves") (sum (times (local p) 64) (local i)))))
    (take_call ok (codes "f_shift") (sum (times (local p) 320) (local i) ∷ sum (its p 128) (local i) ∷ local store ∷ []) ∷ [])
    ∷ []
    )
    ∷ return_value (local ok)
    ∷ []
    )

abbrev pub f_lower : CFunction
f_lower =
    function (codes "f_lower") (p ∷ store ∷ []) (ok ∷ [])
    (
    take_call ok (codes "fr_sub") (number 64 ∷ number 72 ∷ its p 66 ∷ number 70 ∷ [])
    ∷ keeps (its p 66)
    ∷ return_value (local ok)
    ∷ []
    )

abbrev pub f_move : ℕ → ℕ → CFunction
f_move P C =
    function (codes "f_move") (store ∷ []) (p ∷ c ∷ q ∷ at ∷ ok ∷ [])
    (
    Set ok (number 1)
    ∷ count_to p P
    (
    if_then (above_zero (local ok)) (take_call ok (codes "f_drift") (local p ∷ local store ∷ []) ∷ [])
    ∷ if_then (both (above_zero (local ok)) (above_zero (element (codes "a_bounded") (local p)))) (take_call ok (codes "f_lower") (local p ∷ local store ∷ []) ∷ [])
    ∷ []
    )
    ∷ count_to c C
    (
    if_then (both (above_zero (local ok)) (above_zero send_of))
    (
    take_call q (codes "f_owner") (send_of ∷ [])
    ∷ Set at (sum (its q 191) (branch_of send_of q))
    ∷ take_call ok (codes "f_shift") (local at ∷ sum (local at) (number 64) ∷ local store ∷ [])
    ∷ Set at (number 0)
    ∷ Set q (number 0)
    ∷ []
    )
    ∷ []
    )
    ∷ return_value (local ok)
    ∷ []
    )

abbrev pub f_due : ℕ → CFunction
f_due P =
    function (codes "f_due") [] (p ∷ x ∷ q ∷ [])
    (
    count_to p P
    (
    asks_able
    ∷ if_then (above_zero (local x)) (Store (codes "a_woke") (local p) (number 1) ∷ mutes p ∷ Set q (number 1) ∷ [])
    ∷ Set x (number 0)
    ∷ []
    )
    ∷ return_value (local q)
    ∷ []
    )

abbrev pub f_stand : ℕ → CFunction
f_stand P =
    procedure (codes "f_stand") [] (p ∷ k ∷ [])
    (
    count_to p P (if_then (less (element (codes "a_phase") (local p)) (number 2)) (Set k (number 1) ∷ []) ∷ [])
    ∷ call (codes "f_stop") (local k ∷ minus_one ∷ [])
    ∷ []
    )

-- register 70 becomes what is left to the horizon
abbrev pub rests : CStmt
rests = take_call ok (codes "fr_sub") (number 64 ∷ number 70 ∷ number 67 ∷ number 64 ∷ [])

abbrev pub f_length : CFunction
f_length =
    function (codes "f_length") (k ∷ []) (ok ∷ x ∷ [])
    (
    if_else (less (local k) (number 2)) (rests ∷ [])
    (
    take_call ok (codes "fr_add") (number 64 ∷ number 69 ∷ number 64 ∷ number 68 ∷ [])
    ∷ if_then (above_zero (local ok))
    (
    take_call x (codes "fr_cmp") (number 64 ∷ number 69 ∷ number 67 ∷ [])
    ∷ call (codes "fr_move") (number 64 ∷ number 70 ∷ number 64 ∷ number 68 ∷ [])
    ∷ if_then (above_zero (local x)) (rests ∷ [])
    ∷ Set x (number 0)
    ∷ []
    )
    ∷ []
    )
    ∷ if_then (above_zero (local ok))
    (
    take_call ok (codes "fr_add") (number 64 ∷ number 71 ∷ number 64 ∷ number 70 ∷ [])
    ∷ if_then (above_zero (local ok)) (take_call ok (codes "f_move") (number 0 ∷ []) ∷ [])
    ∷ []
    )
    ∷ return_value (local ok)
    ∷ []
    )

abbrev pub f_delay : CFunction
f_delay =
    procedure (codes "f_delay") [] (x ∷ [])
    (
    call (codes "out_delay") (number 64 ∷ number 64 ∷ number 70 ∷ [])
    ∷ take_call x (codes "f_move") (number 1 ∷ [])
    ∷ call (codes "fr_move") (number 64 ∷ number 64 ∷ number 64 ∷ number 71 ∷ [])
    ∷ call (codes "f_count") []
    ∷ take_call x (codes "f_due") []
    ∷ if_then (both (below_one (first_of (codes "a_stop"))) (below_one (local x))) (stops 2 ∷ [])
    ∷ []
    )

abbrev pub f_elapse : CFunction
f_elapse =
    procedure (codes "f_elapse") [] (k ∷ x ∷ [])
    (
    take_call k (codes "f_least") []
    ∷ if_else (below_one (local k)) (call (codes "f_stand") [] ∷ [])
    (
    take_call x (codes "fr_cmp") (number 64 ∷ number 64 ∷ number 67 ∷ [])
    ∷ if_else (equals (local x) (number 0)) (stops 2 ∷ Set x (number 0) ∷ [])
    (
    take_call x (codes "f_length") (local k ∷ [])
    ∷ if_else (above_zero (local x)) (call (codes "f_delay") [] ∷ []) (stops 4 ∷ [])
    ∷ Set x (number 0)
    ∷ []
    )
    ∷ []
    )
    ∷ []
    )

abbrev pub f_wakes : ℕ → CFunction
f_wakes P =
    procedure (codes "f_wakes") [] (k ∷ [])
    (
    count_to k P
    (
    if_then
    (
    both (either (less (local k) (first_of (codes "a_self"))) (less (first_of (codes "a_self")) (local k)))
    (either (above_zero (first_of (codes "a_stop"))) (above_zero (element (codes "a_woke") (local k))))
    )
    (call (codes "c_wake") (local k ∷ []) ∷ [])
    ∷ []
    )
    ∷ []
    )

abbrev pub f_pass : ℕ → CFunction
f_pass P =
    procedure (codes "f_pass") [] (p ∷ x ∷ [])
    (
    count_to p P (Store (codes "a_woke") (local p) (number 0) ∷ [])
    ∷ if_else (less (first_of (codes "a_steps")) (first_of (codes "a_limit"))) [] (stops 3 ∷ [])
    ∷ call (codes "f_fire") []
    ∷ take_call x (codes "f_any") []
    ∷ if_then (both (below_one (first_of (codes "a_stop"))) (below_one (local x))) (call (codes "f_elapse") [] ∷ [])
    ∷ call (codes "f_wakes") []
    ∷ []
    )

abbrev pub core_functions : ℕ → ℕ → List CFunction
core_functions P C =
    f_owner P
    ∷ f_stop
    ∷ f_count
    ∷ f_mute C
    ∷ f_go
    ∷ f_meet
    ∷ f_fire C
    ∷ f_able
    ∷ f_any P
    ∷ f_least P
    ∷ f_shift
    ∷ f_drift
    ∷ f_lower
    ∷ f_move P C
    ∷ f_due P
    ∷ f_stand P
    ∷ f_length
    ∷ f_delay
    ∷ f_elapse
    ∷ f_wakes P
    ∷ f_pass P
    ∷ []
