-- The prelude, which each C text begins with.
use Rattle.std.specs.Prelude.{ℕ, List, [], ◌∷◌, ◌++◌, codes}
use Rattle.hc_frac.specs.declared.place.Place.{Place}
use Rattle.hc_scan.specs.Places.{after, first_place}

-- lines, each ended by a newline
abbrev lines_ended : List (List ℕ) → List ℕ
lines_ended [] = []
lines_ended (line ∷ more) = line ++ 10 ∷ lines_ended more

unfoldable pub prelude : List ℕ
prelude = lines_ended (
    codes "#include <pthread.h>" ∷
    codes "#include <stdio.h>" ∷
    codes "typedef __int128 wide;" ∷
    codes "static long long hn[65][20480], hd[65][20480];" ∷
    codes "static pthread_mutex_t hm = PTHREAD_MUTEX_INITIALIZER;" ∷
    codes "static pthread_cond_t hq[64];" ∷
    codes "extern const char *const chan_name[];" ∷
    codes "extern const char *const proc_name[];" ∷
    codes "static wide up(int r, int a) { return (wide)hn[r][a]; }" ∷
    codes "static wide dn(int r, int a) { return (wide)hd[r][a] + 1; }" ∷
    codes "static int fr_put(int r, int d, wide n, wide m) {" ∷
    codes "  wide a = n < 0 ? -n : n, b = m, t;" ∷
    codes "  while (b != 0) { t = a % b; a = b; b = t; }" ∷
    codes "  n /= a; m /= a;" ∷
    codes "  if (n > 9223372036854775807LL || -n > 9223372036854775807LL) return 0;" ∷
    codes "  if (m > 9223372036854775807LL) return 0;" ∷
    codes "  hn[r][d] = (long long)n; hd[r][d] = (long long)(m - 1);" ∷
    codes "  return 1;" ∷
    codes "}" ∷
    codes "static void fr_set(int r, int d, long long n, long long m) { hn[r][d] = n; hd[r][d] = m - 1; }" ∷
    codes "static void fr_move(int q, int d, int r, int a) { hn[q][d] = hn[r][a]; hd[q][d] = hd[r][a]; }" ∷
    codes "static int fr_add(int r, int d, int a, int b) {" ∷
    codes "  return fr_put(r, d, up(r, a) * dn(r, b) + up(r, b) * dn(r, a), dn(r, a) * dn(r, b)); }" ∷
    codes "static int fr_sub(int r, int d, int a, int b) {" ∷
    codes "  return fr_put(r, d, up(r, a) * dn(r, b) - up(r, b) * dn(r, a), dn(r, a) * dn(r, b)); }" ∷
    codes "static int fr_mul(int r, int d, int a, int b) {" ∷
    codes "  return fr_put(r, d, up(r, a) * up(r, b), dn(r, a) * dn(r, b)); }" ∷
    codes "static int fr_div(int r, int d, int a, int b) {" ∷
    codes "  wide n = up(r, a) * dn(r, b), m = dn(r, a) * up(r, b);" ∷
    codes "  return m < 0 ? fr_put(r, d, -n, -m) : fr_put(r, d, n, m); }" ∷
    codes "static void fr_neg(int r, int d, int a) { hn[r][d] = -hn[r][a]; hd[r][d] = hd[r][a]; }" ∷
    codes "static int fr_cmp(int r, int a, int b) {" ∷
    codes "  wide x = up(r, a) * dn(r, b), y = up(r, b) * dn(r, a);" ∷
    codes "  return x < y ? -1 : x > y; }" ∷
    codes "static int fr_sign(int r, int a) { return hn[r][a] < 0 ? -1 : hn[r][a] > 0; }" ∷
    codes "static void out_frac(int r, int a) {" ∷
    codes "  if (hd[r][a] == 0) printf(\"%lld\", hn[r][a]);" ∷
    codes "  else printf(\"%lld/%lld\", hn[r][a], hd[r][a] + 1); }" ∷
    codes "static void out_delay(int r, int a, int b) {" ∷
    codes "  out_frac(r, a); printf(\" delay \"); out_frac(r, b); printf(\"\\n\"); }" ∷
    codes "static void out_comm(int r, int a, int c, int p, int q, int b) {" ∷
    codes "  out_frac(r, a); printf(\" comm %s %s %s \", chan_name[c], proc_name[p], proc_name[q]);" ∷
    codes "  out_frac(r, b); printf(\"\\n\"); }" ∷
    codes "static void out_log(int r, int a, int p, int b) {" ∷
    codes "  out_frac(r, a); printf(\" log %s \", proc_name[p]); out_frac(r, b); printf(\"\\n\"); }" ∷
    codes "static void out_end(int k, int r, int a, int w) {" ∷
    codes "  static const char *const kind[5] = { \"terminated\", \"deadlock\", \"horizon\", \"limit\", \"overflow\" };" ∷
    codes "  printf(\"end %s \", kind[k]); out_frac(r, a);" ∷
    codes "  if (k == 4) printf(\" %s\", w < 0 ? \"*\" : proc_name[w]);" ∷
    codes "  printf(\"\\n\"); }" ∷
    codes "static void m_lock(void) { pthread_mutex_lock(&hm); }" ∷
    codes "static void m_unlock(void) { pthread_mutex_unlock(&hm); }" ∷
    codes "static void c_wait(int k) { pthread_cond_wait(&hq[k], &hm); }" ∷
    codes "static void c_wake(int k) { pthread_cond_broadcast(&hq[k]); }" ∷
    codes "static int hc_main(int n, void *(*const f[])(void *)) {" ∷
    codes "  pthread_t t[64];" ∷
    codes "  int i;" ∷
    codes "  for (i = 0; i < 64; i++) pthread_cond_init(&hq[i], 0);" ∷
    codes "  printf(\"hcsp-trace 2\\n\");" ∷
    codes "  for (i = 0; i < n; i++) if (pthread_create(&t[i], 0, f[i], 0) != 0) return 5;" ∷
    codes "  for (i = 0; i < n; i++) pthread_join(t[i], 0);" ∷
    codes "  return 0;" ∷
    codes "}" ∷
    [])

-- the place behind the bytes of a text that begins here
abbrev place_behind : Place → List ℕ → Place
place_behind p [] = p
place_behind p (b ∷ z) = place_behind (after p b) z

unfoldable pub behind_prelude : Place
behind_prelude = place_behind first_place prelude
