-- A machine that is opened stands at the opening of its program.
use Rattle.std.proofs.Common.{◌≡◌, refl, sym, ap, ◌∙◌, subst, ℕ, zero, suc, ◌+◌, ◌≤◌, max, false, List, [], ◌∷◌, ◌++◌, length, map, replicate, slice_get, Some, None, arith}
use Rattle.std.specs.Prelude.{pos}
use Rattle.std.proofs.lemmas.List.{length-replicate}
use Rattle.hc_cast.specs.declared.program.CBody.{CBody}
use Rattle.hc_cast.specs.declared.program.CFunction.{CFunction}
use Rattle.hc_cast.specs.declared.program.CProgram.{CProgram}
use Rattle.hc_ccode.specs.declared.code.Entry.{Entry}
use Rattle.hc_ccode.specs.Stages.{Stages, Begins, FunctionsBegin, ThreadsBegin, IsCodeBy}
use Rattle.hc_schedule.specs.declared.status.Status.TheVariants.{Ready}
use Rattle.hc_cmach.specs.State.{opening_own}
use Rattle.hc_cmach.specs.Machine.{opening}
use Rattle.hc_cexec.specs.declared.activation.Activation.{Activation}
use Rattle.hc_cexec.specs.declared.thread.Thread.{Thread}
use Rattle.hc_cexec.specs.declared.machine.Machine.{Machine}
use Rattle.hc_cexec.specs.Opening.{most_of, idle, opened, IsOpened}
use Rattle.hc_cexec.specs.Stands.{ThreadIs, ThreadsAre, IsAtBy}

-- ---- places

last_one : (es : List Entry) (a : Activation) → slice_get (map idle es ++ a ∷ []) (length es) ≡ Some a
last_one [] a = refl
last_one (e ∷ es) a = last_one es a

each_one : (es : List Entry) (a : Activation) (i : ℕ) (e : Entry) → slice_get es i ≡ Some e → slice_get (map idle es ++ a ∷ []) i ≡ Some (idle e)
each_one [] a i e h = absurd (cc)
each_one (x ∷ xs) a zero e h = let same : x ≡ e = cc in ap (λ (y : Entry). Some (idle y)) same
each_one (x ∷ xs) a (suc i) e h = each_one xs a i e h

as_many : (t : Stages) (known : ℕ) (es : List Entry) (fs : List CFunction) → FunctionsBegin t known es fs → length es ≡ length fs
as_many t known [] [] all = refl
as_many t known [] (f ∷ fs) all = absurd all
as_many t known (e ∷ es) [] all = absurd all
as_many t known (e ∷ es) (f ∷ fs) all = ap suc (as_many t (known + 1) es fs all.1)

-- ---- threads

module _ (es : List Entry) (t : Stages) where
  thread_is : (e : Entry) (body : CBody) → Begins t (length es) [] body false e →
      ThreadIs es t (opened es e) (record { own = opening_own body; status = Ready })
  thread_is e body begins =
      let count : e.params + e.locals ≡ length body.locals = (let p = begins.params in let l = begins.locals in omega (arith, p, l)) in
      record {
        own =
            record {
              row = refl;
              stack = (
                record {
                  place = length es;
                  activation = idle e;
                  is = refl;
                  stands = last_one es (idle e);
                  frame =
                      record {
                        todo = begins.start;
                        values = ap (λ (n : ℕ). replicate n (pos 0)) count;
                        gives = begins.gives;
                      };
                  target = tt;
                  before = tt;
                },
                refl,
              );
              rooms = λ i f there.
                  record { activation = idle f; stands = each_one es (idle e) i f there; even = length-replicate (f.params + f.locals) (pos 0) };
            };
        status = refl;
      }

  threads_are : (known : ℕ) (hs : List Entry) (bs : List CBody) → known ≡ length es → ThreadsBegin t known hs bs →
      ThreadsAre es t (map (opened es) hs) (map (λ body. record { own = opening_own body; status = Ready }) bs)
  threads_are known [] [] e all = tt
  threads_are known [] (b ∷ bs) e all = absurd all
  threads_are known (h ∷ hs) [] e all = absurd all
  threads_are known (h ∷ hs) (b ∷ bs) e all =
      (thread_is h b (subst (λ (n : ℕ). Begins t n [] b false h) e all.0), threads_are known hs bs e all.1)

-- ---- room for arguments

most_least : (n : ℕ) (es : List Entry) → n ≤ most_of n es
most_least n [] = omega arith
most_least n (e ∷ es) = let rest = most_least (max n e.params) es in omega (arith, rest)

most_each : (n : ℕ) (es : List Entry) (i : ℕ) (e : Entry) → slice_get es i ≡ Some e → e.params ≤ most_of n es
most_each n [] i e h = absurd (cc)
most_each n (x ∷ xs) zero e h =
    let same : x ≡ e = cc in
    let rest = most_least (max n x.params) xs in
    let equal : x.params ≡ e.params = ap (λ (y : Entry). y.params) same in
    omega (arith, rest, equal)
most_each n (x ∷ xs) (suc i) e h = most_each (max n x.params) xs i e h

-- ---- machines

-- nothing was printed, and no step moved
pub record IsNew (g : CProgram) (m : Machine) : Type 0 where
  pub channels : m.channels ≡ length g.channels
  pub processes : m.processes ≡ length g.processes
  pub line : m.told.line.bytes ≡ []
  pub ended : m.told.ended ≡ None
  pub moved : m.moved ≡ 0

pub opened_at : (g : CProgram) (m : Machine) (t : Stages) → IsCodeBy g m.code t → IsOpened g m.code m.world → IsNew g m → IsAtBy g m t (opening g)
opened_at g m t code o new =
    let es = m.code.functions in
    let known : length g.functions ≡ length es = sym (as_many t 0 es g.functions code.functions) in
    let room : length m.world.arguments ≡ most_of 6 es = ap length o.arguments ∙ length-replicate (most_of 6 es) (pos 0) in
    record {
      code = code;
      owner = o.owner;
      row = o.row;
      arrays = o.arrays;
      threads = subst (λ (ths : List Thread). ThreadsAre m.code.functions t ths (opening g).world.threads) (sym o.threads)
          (threads_are m.code.functions t (length g.functions) m.code.threads g.threads known code.threads);
      space = λ i e there. (let most = most_each 6 m.code.functions i e there in omega (arith, most, room));
      six = let least = most_least 6 m.code.functions in omega (arith, least, room);
      channels = new.channels;
      processes = new.processes;
      line = new.line;
      ended = new.ended;
      moved = new.moved;
    }
