-- Marks in words: a word that changes changes its own options alone; which option is the greatest; the list as it is read from its end.
use Rattle.std.specs.Prelude.{None, Some}
use Prim.Native.Nat.{ℕ, zero, suc, ◌+◌, ◌-◌, ◌*◌, ◌/◌, ◌%◌, ◌^◌, ◌≤◌, ◌<◌}
use mathlib.Core.Path.{◌≡◌, refl, sym, ap, ap₂, ◌∙◌}
use mathlib.Core.Bool.{Bool, true, false, not, ◌&&◌, ◌||◌, or-false, false≢true}
use mathlib.Core.Logic.{◌⊎◌, inl, inr, ⊎_elim}
use mathlib.Core.List.{List, [], ◌∷◌, ◌++◌}
use native.Mathlib.Omega.{arith}
use lib.ListN.{length, get_or, set, take}
use lib.Seq.{get_or-set_same, get_or-set_other}
use Rattle.std.specs.List.{list_any}
use Rattle.std.proofs.lemmas.List.{take_more}
use lib.Dec.{eqb, leb}
use lib.Pow.{shl_exact}
use borrow.Author.Tests.{eqb-true, eqb-false, eq-eqb, ne_eqb, leb-false, lt-leb}
use Rattle.bdd.specs.Jobs.{listed}
use Rattle.bdd.proofs.Logic.{le_or_lt}
use Rattle.chains.proofs.Zeros.{getD_zeros}
use Rattle.relation_ops.specs.Picking.{greatest_first, some_beyond, repeats}
use Rattle.counting.proofs.Among.{or_left as true-left, or_right as true-right}
use Rattle.relation_ops.proofs.Steps.{or_left, or_right}
use Rattle.marks.specs.Marking.{words, is_on, marked_in, those_below, without, first_of, marked_options, Holds, SameOptions}
use Rattle.marks.specs.declared.Marks.{Marks}
use Rattle.marks.proofs.Digits.{added, taken, top_on, above_off}
use Rattle.marks.proofs.Those.{same_below, none_above, greatest_is, one_less, one_more}

-- ---- words

-- bit j alone
pub alone : (j : ℕ) → j < 64 → (1 * 2 ^ j) % 2 ^ 64 ≡ 2 ^ j
alone j l = shl_exact {a = 1} 1 j 64 (omega arith) (omega arith) ∙ (let e : 1 * 2 ^ j ≡ 2 ^ j = omega arith in e)

zero_off : (j : ℕ) → is_on j 0 ≡ false
zero_off j = above_off 0 j 0 (omega arith) (omega arith)

pub word_past : (ws : List ℕ) (i : ℕ) → length ws ≤ i → get_or ws i 0 ≡ 0
word_past [] i l = refl
word_past (w ∷ ws) zero l = absurd (omega arith)
word_past (w ∷ ws) (suc i) l = word_past ws i (omega arith)

-- the options of a word that is 0
pub empty_word : (ws : List ℕ) (i u : ℕ) → get_or ws i 0 ≡ 0 → u / 64 ≡ i → marked_in ws u ≡ false
unfolding marked_in
empty_word ws i u e s = ap (λ (k : ℕ). is_on (u % 64) (get_or ws k 0)) s ∙ ap (is_on (u % 64)) e ∙ zero_off (u % 64)

pub has_word : (ws : List ℕ) (v : ℕ) → marked_in ws v ≡ true → v / 64 < length ws
has_word ws v h = at (le_or_lt (length ws) (v / 64))
  where
    at : (length ws ≤ v / 64) ⊎ (v / 64 < length ws) → v / 64 < length ws
    at (inl l) =
        let n : marked_in ws v ≡ false = empty_word ws (v / 64) v (word_past ws (v / 64) l) refl in
        absurd (let z : true ≡ false = sym h ∙ n in let o : ◌≡◌ {A = ℕ} 0 1 = cc in omega arith)
    at (inr l) = l

-- where word v / 64 becomes x, and bit by bit that is f of being option v and of what was
changed : (ws : List ℕ) (v x : ℕ) (f : Bool → Bool → Bool) → v / 64 < length ws → ((b : Bool) → f false b ≡ b)
    → ((i : ℕ) → is_on i x ≡ f (eqb (v % 64) i) (is_on i (get_or ws (v / 64) 0))) → (u : ℕ)
    → marked_in (set ws (v / 64) x) u ≡ f (eqb v u) (marked_in ws u)
unfolding marked_in
changed ws v x f l idle h u = at (eqb (v / 64) (u / 64)) refl
  where
    same : (b : Bool) → eqb (v % 64) (u % 64) ≡ b → v / 64 ≡ u / 64 → eqb v u ≡ b
    same true e s = let r : v % 64 ≡ u % 64 = eqb-true (v % 64) (u % 64) e in eq-eqb v u (omega arith)
    same false e s = let r : v % 64 ≡ u % 64 → ⊥ = eqb-false (v % 64) (u % 64) e in ne_eqb v u (λ q. r (ap (λ (k : ℕ). k % 64) q))

    at : (b : Bool) → eqb (v / 64) (u / 64) ≡ b
        → is_on (u % 64) (get_or (set ws (v / 64) x) (u / 64) 0) ≡ f (eqb v u) (is_on (u % 64) (get_or ws (u / 64) 0))
    at true e =
        let s : v / 64 ≡ u / 64 = eqb-true (v / 64) (u / 64) e in
        ap (λ (k : ℕ). is_on (u % 64) (get_or (set ws (v / 64) x) k 0)) (sym s)
        ∙ ap (is_on (u % 64)) (get_or-set_same ws (v / 64) x 0 l) ∙ h (u % 64)
        ∙ ap₂ f (sym (same (eqb (v % 64) (u % 64)) refl s)) (ap (λ (k : ℕ). is_on (u % 64) (get_or ws k 0)) s)
    at false e =
        let r : v / 64 ≡ u / 64 → ⊥ = eqb-false (v / 64) (u / 64) e in
        ap (is_on (u % 64)) (get_or-set_other ws (v / 64) (u / 64) x 0 (λ q. r (sym q)))
        ∙ sym (ap (λ (b : Bool). f b (is_on (u % 64) (get_or ws (u / 64) 0))) (ne_eqb v u (λ q. r (ap (λ (k : ℕ). k / 64) q))) ∙ idle _)

-- option v is marked
pub also_marked : (ws : List ℕ) (v x : ℕ) → v / 64 < length ws → marked_in ws v ≡ false → x ≡ get_or ws (v / 64) 0 + 2 ^ (v % 64) → (u : ℕ)
    → marked_in (set ws (v / 64) x) u ≡ (eqb v u || marked_in ws u)
unfolding marked_in
also_marked ws v x l h e =
    changed ws v x (λ t b. t || b) l (λ b. refl) (λ i. ap (is_on i) e ∙ added (v % 64) i (get_or ws (v / 64) 0) h)

-- option v is marked no more
pub unmarked : (ws : List ℕ) (v x : ℕ) → marked_in ws v ≡ true → x ≡ get_or ws (v / 64) 0 - 2 ^ (v % 64)
    → those_below 256 (marked_in (set ws (v / 64) x)) ≡ without v (those_below 256 (marked_in ws))
unfolding marked_in
unmarked ws v x h e =
    same_below 256 _ _ (λ u l. changed ws v x (λ t b. not t && b) (has_word ws v h) (λ b. refl) (λ i. ap (is_on i) e ∙ taken (v % 64) i (get_or ws (v / 64) 0) h) u)
    ∙ one_less 256 v (marked_in ws)

-- it was not marked
pub was_unmarked : (ws : List ℕ) (v : ℕ) → marked_in ws v ≡ false → those_below 256 (marked_in ws) ≡ without v (those_below 256 (marked_in ws))
was_unmarked ws v h = same_below 256 _ _ (λ u l. at u (eqb v u) refl) ∙ one_less 256 v (marked_in ws)
  where
    at : (u : ℕ) (b : Bool) → eqb v u ≡ b → marked_in ws u ≡ (not (eqb v u) && marked_in ws u)
    at u true e = rw e (ap (marked_in ws) (sym (eqb-true v u e)) ∙ h)
    at u false e = rw e

-- ---- the greatest

-- no option from word i on is marked
abbrev pub NoneFrom : List ℕ → ℕ → Type 0
NoneFrom ws i = (u : ℕ) → i * 64 ≤ u → u < 256 → marked_in ws u ≡ false

module _ (ws : List ℕ) (i : ℕ) (some : 0 < i) (h : NoneFrom ws i) where
  pub word_more : get_or ws (i - 1) 0 ≡ 0 → NoneFrom ws (i - 1)
  word_more e u l m = at (le_or_lt (i * 64) u)
    where
      at : (i * 64 ≤ u) ⊎ (u < i * 64) → marked_in ws u ≡ false
      at (inl k) = h u k m
      at (inr k) = empty_word ws (i - 1) u e (omega arith)

  pub greatest_found : (t x : ℕ) → i ≤ 4 → x ≡ get_or ws (i - 1) 0 → t < 64 → 2 ^ t ≤ x → x < 2 ^ (t + 1)
      → Some ((i - 1) * 64 + t) ≡ first_of (those_below 256 (marked_in ws))
  unfolding marked_in
  greatest_found t x l e tl a b =
      sym (ap first_of (greatest_is 256 v (marked_in ws) (omega arith) on (λ u k m. at u k m (le_or_lt (i * 64) u))))
    where
      v : ℕ
      v = (i - 1) * 64 + t

      place : (u : ℕ) → u / 64 ≡ i - 1 → is_on (u % 64) (get_or ws (u / 64) 0) ≡ is_on (u % 64) x
      place u s = ap (λ (k : ℕ). is_on (u % 64) (get_or ws k 0)) s ∙ ap (is_on (u % 64)) (sym e)

      on : is_on (v % 64) (get_or ws (v / 64) 0) ≡ true
      on = place v (omega arith) ∙ ap (λ (k : ℕ). is_on k x) (let r : v % 64 ≡ t = omega arith in r) ∙ top_on t x a b

      at : (u : ℕ) → suc v ≤ u → u < 256 → (i * 64 ≤ u) ⊎ (u < i * 64) → is_on (u % 64) (get_or ws (u / 64) 0) ≡ false
      at u k m (inl j) = h u j m
      at u k m (inr j) = place u (omega arith) ∙ above_off (t + 1) (u % 64) x b (omega arith)

pub none_found : (ws : List ℕ) → NoneFrom ws 0 → None ≡ first_of (those_below 256 (marked_in ws))
unfolding those_below
none_found ws h = sym (ap first_of (none_above 256 0 256 (marked_in ws) refl (λ u l m. h u (omega arith) m)))

-- ---- a list from its start

or_none : (a b : Bool) → a ≡ false → b ≡ false → (a || b) ≡ false
or_none a b e f = rw (e, f)

either : (a b : Bool) → (a || b) ≡ true → (a ≡ true) ⊎ (b ≡ true)
either true b e = inl refl
either false b e = inr e

eqb_turned : (a b : ℕ) → eqb a b ≡ eqb b a
eqb_turned a b = at (eqb a b) refl
  where
    at : (t : Bool) → eqb a b ≡ t → eqb a b ≡ eqb b a
    at true e = e ∙ sym (eq-eqb b a (sym (eqb-true a b e)))
    at false e = e ∙ sym (ne_eqb b a (λ q. eqb-false a b e (sym q)))

-- one option more at the end
listed_more : (vs : List ℕ) (x u : ℕ) → listed (vs ++ x ∷ []) u ≡ (eqb x u || listed vs u)
unfolding listed
listed_more [] x u = refl
listed_more (v ∷ vs) x u = ap (λ (b : Bool). eqb v u || b) (listed_more vs x u) ∙ swap (eqb v u) (eqb x u) (listed vs u)
  where
    swap : (a b c : Bool) → (a || (b || c)) ≡ (b || (a || c))
    swap true true c = refl
    swap true false c = refl
    swap false b c = refl

repeats_more : (vs : List ℕ) (x : ℕ) → repeats vs ≡ false → repeats (vs ++ x ∷ []) ≡ listed vs x
unfolding listed repeats
repeats_more [] x e = refl
repeats_more (v ∷ vs) x e =
    ap₂ ◌||◌
    (listed_more vs x v ∙ ap₂ ◌||◌ (eqb_turned x v) (or_left (listed vs v) (repeats vs) e) ∙ or-false (eqb v x))
    (repeats_more vs x (or_right (listed vs v) (repeats vs) e))

-- what the first options are stays
listed_stays : (k : ℕ) (s : List ℕ) (u : ℕ) → listed (take k s) u ≡ true → listed s u ≡ true
unfolding listed
listed_stays zero s u e = absurd (false≢true e)
listed_stays (suc k) [] u e = e
listed_stays (suc k) (v ∷ s) u e = ⊎_elim (λ l. true-left _ _ l) (λ r. true-right _ _ (listed_stays k s u r)) (either (eqb v u) _ e)

repeats_stays : (k : ℕ) (s : List ℕ) → repeats (take k s) ≡ true → repeats s ≡ true
unfolding repeats
repeats_stays zero s e = absurd (false≢true e)
repeats_stays (suc k) [] e = e
repeats_stays (suc k) (v ∷ s) e =
    ⊎_elim (λ l. true-left _ _ (listed_stays k s v l)) (λ r. true-right _ _ (repeats_stays k s r)) (either (listed (take k s) v) _ e)

pub none_marked : (v : ℕ) → marked_in (0 ∷ 0 ∷ 0 ∷ 0 ∷ []) v ≡ false
none_marked v = empty_word (0 ∷ 0 ∷ 0 ∷ 0 ∷ []) (v / 64) v (getD_zeros 4 (v / 64)) refl

module _ (s : List ℕ) (i : ℕ) (l : i < length s) (m : Marks) (r : SameOptions (take i s) m) where
  abbrev x : ℕ
  x = get_or s i 0

  pub again_here : marked_in (words m) x ≡ true → repeats s ≡ true
  again_here h =
      repeats_stays (i + 1) s (ap repeats (take_more s i 0 l) ∙ repeats_more (take i s) x r.once ∙ sym (r.same x) ∙ h)

  pub read_more : (out : Marks) → marked_in (words m) x ≡ false → ((u : ℕ) → marked_in (words out) u ≡ (eqb x u || marked_in (words m) u))
      → SameOptions (take (i + 1) s) out
  read_more out h g =
      rw (take_more s i 0 l)
      record {
        once = repeats_more (take i s) x r.once ∙ sym (r.same x) ∙ h;
        same = λ u. g u ∙ ap (λ (b : Bool). eqb x u || b) (r.same u) ∙ sym (listed_more (take i s) x u);
      }

-- a test of each
pub beyond_any : (n : ℕ) (vs : List ℕ) → list_any (λ v. leb n v) vs ≡ some_beyond n vs
unfolding some_beyond
beyond_any n [] = refl
beyond_any n (v ∷ vs) = ap (λ (b : Bool). leb n v || b) (beyond_any n vs)

pub beyond_at : (n : ℕ) (s : List ℕ) (j : ℕ) → some_beyond n s ≡ false → j < length s → get_or s j 0 < n
unfolding some_beyond
beyond_at n [] j e l = absurd (omega arith)
beyond_at n (v ∷ vs) zero e l = leb-false n v (or_left (leb n v) (some_beyond n vs) e)
beyond_at n (v ∷ vs) (suc j) e l = beyond_at n vs j (or_right (leb n v) (some_beyond n vs) e) (omega arith)

pub beyond_least : (n m : ℕ) (s : List ℕ) → n ≤ m → some_beyond n s ≡ false → some_beyond m s ≡ false
unfolding some_beyond
beyond_least n m [] l e = refl
beyond_least n m (v ∷ vs) l e =
    let k : v < n = leb-false n v (or_left (leb n v) (some_beyond n vs) e) in
    or_none _ _ (lt-leb m v (omega arith)) (beyond_least n m vs l (or_right (leb n v) (some_beyond n vs) e))

-- an option of n or more is not in the list
not_listed : (n : ℕ) (s : List ℕ) (u : ℕ) → some_beyond n s ≡ false → n ≤ u → listed s u ≡ false
unfolding some_beyond listed
not_listed n [] u e l = refl
not_listed n (v ∷ vs) u e l =
    let k : v < n = leb-false n v (or_left (leb n v) (some_beyond n vs) e) in
    or_none _ _ (ne_eqb v u (λ q. omega arith)) (not_listed n vs u (or_right (leb n v) (some_beyond n vs) e) l)

by_those : (vs : List ℕ) (n : ℕ) → greatest_first vs n ≡ those_below n (listed vs)
unfolding greatest_first those_below
by_those vs zero = refl
by_those vs (suc n) = rw (by_those vs n)

counted : (n : ℕ) (vs : List ℕ) → some_beyond n vs ≡ false → repeats vs ≡ false → length (those_below n (listed vs)) ≡ length vs
unfolding some_beyond repeats listed those_below
counted n [] b r = ap length (none_above n 0 n (λ u. false) (omega arith) (λ u l m. refl))
counted n (v ∷ vs) b r =
    one_more n v (listed vs) (leb-false n v (or_left (leb n v) (some_beyond n vs) b)) (or_left (listed vs v) (repeats vs) r)
    ∙ ap suc (counted n vs (or_right (leb n v) (some_beyond n vs) b) (or_right (listed vs v) (repeats vs) r))

-- what was read is the list, the greatest first
pub holds : (vs : List ℕ) (n : ℕ) (m : Marks) → n ≤ 256 → some_beyond n vs ≡ false → SameOptions vs m → Holds vs n m
holds vs n m l b r =
    let e : marked_options m ≡ those_below n (listed vs) =
    same_below 256 (marked_in (words m)) (listed vs) (λ u k. r.same u)
    ∙ none_above (256 - n) n 256 (listed vs) (omega arith) (λ u k j. not_listed n vs u b k) in
    record { within = b; once = r.once; options = e ∙ sym (by_those vs n); count = ap length e ∙ counted n vs b r.once }
