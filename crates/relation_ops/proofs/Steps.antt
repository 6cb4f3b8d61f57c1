-- The steps of picking: each array that they come to has the value that the recursion over the options gives it, so that the last one is
-- the array of `picked`; and a refused step is refused with 7 or 9.
use Rattle.std.specs.Prelude.{None, Some}
use Prim.Native.Nat.{ℕ, zero, suc, ◌+◌, ◌*◌, ◌≤◌, ◌<◌}
use mathlib.Core.Path.{◌≡◌, refl, sym, ap, ap₂, ◌∙◌, fun_ext}
use mathlib.Core.Bool.{Bool, true, false, cond, not, ◌&&◌, ◌||◌, or-true}
use mathlib.Core.Logic.{◌⊎◌, inl, inr}
use mathlib.Core.List.{List, [], ◌∷◌}
use mathlib.Core.Option.{Option, none, some}
use native.Mathlib.Omega.{arith}
use lib.ListN.{length}
use lib.Dec.{leb, ltb}
use borrow.Author.Tests.{ltb-false, leb-false, not-false, eqb-true, eq-eqb, ne_eqb, lt-ltb, le-ltb, le-leb, lt-leb}
use Rattle.bdd.specs.Bounds.{most_options, most_entries}
use Rattle.bdd.specs.Array.{Entry, Runs, laid, entries_of, options, ordered}
use Rattle.bdd.specs.Value.{Setting, Function, Of, value, put}
use Rattle.bdd.specs.Signed.{signed, high_first}
use Rattle.bdd.specs.Jobs.{exists, for_all, selected, switched, listed, picked}
use Rattle.bdd.specs.Pairs.{Job, job, Checked, result, tasks, pair_room}
use Rattle.bdd.specs.Answers.{Checks, first_refusal, no_room, over_limit, comes_first, row_in, paper_order}
use Rattle.bdd.specs.Operations.{Operation, Working, operation, operation_checks, meant, made, beyond}
use Rattle.bdd.specs.declared.Refusal.{Refusal}
use Rattle.bdd.specs.declared.Refusal.TheVariants.{PairRoom, NoRoom}
use Rattle.bdd.specs.Lent.{Flip, Limit}
use Rattle.bdd.proofs.Logic.{le_or_lt}
use Rattle.bdd.proofs.Settings.{put_itself}
use Rattle.bdd.proofs.Ordered.{ordered_open, even_of}
use Rattle.bdd.proofs.Meaning.{signed_options, signed_ordered, signed_value}
use Rattle.bdd.proofs.Negation.{laid_entries}
use Rattle.bdd.proofs.Refusing.{ascending, first_in_list, one_by_one, clear}
use Rattle.pairs.proofs.Pairs as pairs
use Rattle.operators.specs.Numbered.{numbered}
use Rattle.relation_ops.specs.Relations.{Relation, relation, set_of, array_of, relation_checks, existential, universal, selection}
use Rattle.relation_ops.specs.Picking.{Outcome, wrote, stopped, ended, followed_by, step, copy_checks, relation_step, operator_step, var_pick_steps, pick_steps, greatest_first, some_beyond}
use Rattle.relation_ops.proofs.Picked.{var_picked, picked_listed, picked_other, picked_none}
use Rattle.relation_ops.proofs.Values.{both_value, without_value, literal_ordered, good_table}
use Rattle.relation_ops.proofs.Relating.{does_exists, does_for_all, does_select, exists_refusal}

-- ---- the recursion over the options, the greatest first

unfoldable pub picked_by : List ℕ → Function → Function
picked_by [] f σ = f σ
picked_by (v ∷ vs) f σ = picked_by vs (exists v f) σ && var_picked v f σ

pub by_greatest : (vs : List ℕ) (n : ℕ) (f : Function) → picked_by (greatest_first vs n) f ≡ picked n vs f
unfolding picked_by greatest_first
by_greatest vs zero f = sym (picked_none vs f)
by_greatest vs (suc m) f = at (listed vs m) refl (by_greatest vs m)
  where
    at : (b : Bool) → listed vs m ≡ b → ((g : Function) → picked_by (greatest_first vs m) g ≡ picked m vs g)
        → picked_by (cond b (m ∷ greatest_first vs m) (greatest_first vs m)) f ≡ picked (suc m) vs f
    at true e h = ap (λ (g : Function). λ σ. g σ && var_picked m f σ) (h (exists m f)) ∙ sym (picked_listed m vs f e)
    at false e h = h f ∙ sym (picked_other m vs f e)

-- an option of the list that is one of the n stands there
pub not_none : (vs : List ℕ) (n v : ℕ) → v < n → listed vs v ≡ true → greatest_first vs n ≡ [] → ⊥
unfolding greatest_first
not_none vs zero v l h e = omega arith
not_none vs (suc m) v l h e = at (listed vs m) refl e (not_none vs m v)
  where
    at : (b : Bool) → listed vs m ≡ b → cond b (m ∷ greatest_first vs m) (greatest_first vs m) ≡ []
        → (v < m → listed vs v ≡ true → greatest_first vs m ≡ [] → ⊥) → ⊥
    at true p q g = let z : ◌≡◌ {A = ℕ} 0 1 = cc in omega arith
    at false p q g = below (le_or_lt m v)
      where
        below : (m ≤ v) ⊎ (v < m) → ⊥
        below (inl k) =
            let same : v ≡ m = omega arith in
            let z : true ≡ false = sym h ∙ ap (listed vs) same ∙ p in
            let y : ◌≡◌ {A = ℕ} 0 1 = cc in
            omega arith
        below (inr k) = g k h q

pub nothing_first : (n : ℕ) → greatest_first [] n ≡ []
unfolding greatest_first listed
nothing_first zero = refl
nothing_first (suc m) = nothing_first m

-- one option alone
alone_none : (v m : ℕ) → m ≤ v → greatest_first (v ∷ []) m ≡ []
unfolding greatest_first listed
alone_none v zero l = refl
alone_none v (suc m) l = rw (ne_eqb v m (λ e. omega arith)) (alone_none v m (omega arith))

alone : (v n : ℕ) → v < n → greatest_first (v ∷ []) n ≡ v ∷ []
unfolding greatest_first listed
alone v zero l = absurd (omega arith)
alone v (suc m) l = at (le_or_lt m v) (alone v m)
  where
    at : (m ≤ v) ⊎ (v < m) → (v < m → greatest_first (v ∷ []) m ≡ v ∷ []) → greatest_first (v ∷ []) (suc m) ≡ v ∷ []
    at (inl k) g =
        let same : v ≡ m = omega arith in
        rw (eq-eqb v m same) (ap₂ (λ (x : ℕ) (xs : List ℕ). x ∷ xs) (sym same) (alone_none v m k))
    at (inr k) g = rw (ne_eqb v m (λ e. omega arith)) (g k)

-- what is on is on with the option off or with it on
pub on_exists : (v : ℕ) (f : Function) (σ : Setting) → f σ ≡ true → exists v f σ ≡ true
unfolding exists
on_exists v f σ e = at (σ v) (ap f (put_itself v σ) ∙ e)
  where
    at : (b : Bool) → f (put v b σ) ≡ true → (f (put v false σ) || f (put v true σ)) ≡ true
    at true h = rw h (or-true (f (put v false σ)))
    at false h = rw h

pub picked_one : (n v : ℕ) (f : Function) → v < n → picked n (v ∷ []) f ≡ var_picked v f
unfolding picked_by var_picked
picked_one n v f l =
    sym (by_greatest (v ∷ []) n f) ∙ ap (λ (vs : List ℕ). picked_by vs f) (alone v n l)
    ∙ fun_ext (λ σ. at (f σ) (exists v f σ) (not (selected v false f (switched (Some v) σ))) (on_exists v f σ))
  where
    at : (x y z : Bool) → (x ≡ true → y ≡ true) → (y && (x && z)) ≡ (x && z)
    at true y z h = rw (h refl)
    at false true z h = refl
    at false false z h = refl

-- ---- what stands where a step has written

-- the array of a set of this value, over n options
pub record Stands (n : ℕ) (f : Function) (es : List Entry) : Type 0 where
  pub is_ordered : ordered (laid es) ≡ true
  pub over : options (laid es) ≡ n
  pub means : value (laid es) ≡ f

-- and that in signing order
pub record Made (n : ℕ) (f : Function) (es : List Entry) : Type 0 where
  pub array : es ≡ signed high_first n f
  pub stands : Stands n f es

as_value : {n : ℕ} {f g : Function} {es : List Entry} → f ≡ g → Made n f es → Made n g es
as_value e m = rw e at m

-- a step that wrote passed its checks
record Passed (checks : Checks) (es out : List Entry) : Type 0 where
  clean : first_in_list checks ≡ none
  same : out ≡ es

passed : (checks : Checks) (es out : List Entry) → ascending checks ≡ true → ended (first_refusal checks) es ≡ wrote out → Passed checks es out
passed checks es out a e = at (first_refusal checks) refl e
  where
    at : (o : Option Refusal) → first_refusal checks ≡ o → ended o es ≡ wrote out → Passed checks es out
    at none p q = record { clean = sym (one_by_one checks a) ∙ p; same = cc }
    at (some why) p q = absurd (let z : ◌≡◌ {A = ℕ} 0 1 = cc in omega arith)

-- and so did the one before it
record Through (o : Outcome) (next : List Entry → Outcome) (out : List Entry) : Type 0 where
  middle : List Entry
  before : o ≡ wrote middle
  after : next middle ≡ wrote out

through : (o : Outcome) (next : List Entry → Outcome) (out : List Entry) → followed_by o next ≡ wrote out → Through o next out
through (wrote es) next out e = record { middle = es; before = refl; after = e }
through (stopped why) next out e = absurd (let z : ◌≡◌ {A = ℕ} 0 1 = cc in omega arith)

-- the array of a function of n options, whichever side is written first
pub stands_so : (first : Bool) (n : ℕ) (f : Function) → n ≤ most_options → length (signed first n f) ≤ most_entries → Of n f → Stands n f (signed first n f)
stands_so first n f few fits of =
    record {
      is_ordered = signed_ordered first n f few fits;
      over = signed_options first n f;
      means = fun_ext (signed_value first n f of);
    }

-- an array that neither 8 nor 9 refuses fits into the room
pub fits_room : (limit : Limit) (W s : ℕ) → over_limit limit W s ≡ false → no_room limit W s ≡ false → s ≤ W
unfolding over_limit no_room
fits_room None W s l r = ltb-false W s r
fits_room (Some k) W s l r = at (le_or_lt s W)
  where
    and_first : (x y : Bool) → y ≡ true → (x && y) ≡ false → x ≡ false
    and_first true y e h = sym e ∙ h
    and_first false y e h = refl

    at : (s ≤ W) ⊎ (W < s) → s ≤ W
    at (inl h) = h
    at (inr h) =
        let limit : k ≤ W = ltb-false W k (rw (lt-ltb W s h) at r) in
        let below : s ≤ k = ltb-false k s (and_first (ltb k s) (leb k W) (le-leb k W limit) l) in
        omega arith

module _ (w : Working) (W : ℕ) (bound : W ≤ most_entries) where
  made_so : (j : Job) (out : Flip) (f : Function) → Checked j → result j out ≡ f → length (signed high_first (options j.left) f) ≤ W
      → Made (options j.left) f (signed high_first (options j.left) f)
  made_so j out f checked e l =
      let n = options j.left in
      record { array = refl; stands = stands_so high_first n f (ordered_open j.left checked.left).options_most (omega arith) (rw e at (pairs.result_of checked out)) }

  -- an operator that no check refuses
  pub operation_made : (o : Operation) → first_in_list (operation_checks o w W (length (made o))) ≡ none → Made (options o.job.left) (meant o) (made o)
  operation_made o clean =
      let table = clear _ _ clean in
      let left = clear _ _ table.rest in
      let right = clear _ _ left.rest in
      let counts = clear _ _ right.rest in
      let option = clear _ _ counts.rest in
      let stack = clear _ _ option.rest in
      let index = clear _ _ stack.rest in
      let pairs = clear _ _ index.rest in
      let limit = clear _ _ (pairs).rest in
      let full = clear _ _ limit.rest in
      let checked : Checked o.job = record {
        left = not-false _ left.here;
        right = not-false _ right.here;
        same_options = eqb-true _ _ (not-false _ counts.here);
        table = not-false _ table.here;
      } in
      made_so o.job o.output (meant o) checked refl (fits_room o.limit W (length (made o)) limit.here full.here)

  -- a step that wrote passed its checks, which stand in the paper's order
  pub operation_wrote : (o : Operation) (out : List Entry) → step W (operation_checks o w) (made o) ≡ wrote out → Made (options o.job.left) (meant o) out
  unfolding ascending comes_first row_in paper_order
  operation_wrote o out e =
      let p = passed (operation_checks o w W (length (made o))) (made o) out refl e in
      rw p.same (operation_made o p.clean)

  -- the checks that a written relation passed
  record Related (x : Relation) (out : List Entry) : Type 0 where
    is_set : ordered (set_of x) ≡ true
    is_option : x.option < options (set_of x)
    fits : length (array_of x) ≤ W
    same : out ≡ array_of x

  relation_wrote : (x : Relation) (out : List Entry) → relation_step w W x ≡ wrote out → Related x out
  unfolding ascending comes_first row_in paper_order no_room
  relation_wrote x out e =
      let p = passed (relation_checks x w W (length (array_of x))) (array_of x) out refl e in
      let left = clear _ _ p.clean in
      let option = clear _ _ left.rest in
      let stack = clear _ _ option.rest in
      let index = clear _ _ stack.rest in
      let pairs = clear _ _ index.rest in
      let full = clear _ _ (pairs).rest in
      record { is_set = not-false _ left.here; is_option = leb-false _ _ option.here; fits = ltb-false _ _ full.here; same = p.same }

  -- a quantifier that wrote: one law for both
  quantified_wrote : (p v : ℕ) (a : Runs) (f : Function) (out : List Entry) → p < 16 → result (job a a (numbered p) None (Some v)) None ≡ f
      → relation_step w W (relation (job a a (numbered p) None (Some v)) v f) ≡ wrote out → Made (options a) f out
  quantified_wrote p v a f out few meant e =
      let r = relation_wrote (relation (job a a (numbered p) None (Some v)) v f) out e in
      rw r.same
      (made_so (job a a (numbered p) None (Some v)) None f (record { left = r.is_set; right = r.is_set; same_options = refl; table = good_table p few }) meant r.fits)

  pub exists_wrote : (a : Runs) (v : ℕ) (out : List Entry) → relation_step w W (existential a v) ≡ wrote out → Made (options a) (exists v (value a)) out
  exists_wrote a v out e = quantified_wrote 14 v a (exists v (value a)) out (omega arith) (does_exists a v).meant e

  pub for_all_wrote : (a : Runs) (v : ℕ) (out : List Entry) → relation_step w W (universal a v) ≡ wrote out → Made (options a) (for_all v (value a)) out
  for_all_wrote a v out e = quantified_wrote 8 v a (for_all v (value a)) out (omega arith) (does_for_all a v).meant e

  pub select_wrote : (a : Runs) (v : ℕ) (b : Bool) (out : List Entry) → relation_step w W (selection a v b) ≡ wrote out → Made (options a) (selected v b (value a)) out
  select_wrote a v b out e =
      let r = relation_wrote (selection a v b) out e in
      let literal = literal_ordered (options a) v b (ordered_open a r.is_set).options_most ∙ lt-ltb v (options a) r.is_option in
      rw r.same
      (made_so (selection a v b).job None (selected v b (value a)) (record { left = r.is_set; right = literal; same_options = refl; table = good_table 8 (omega arith) }) (does_select a v b).meant r.fits)

  pub var_pick_wrote : (a : Runs) (v : ℕ) (out : List Entry) → var_pick_steps w W a v ≡ wrote out → Made (options a) (var_picked v (value a)) out
  unfolding var_picked
  var_pick_wrote a v out e =
      let t = through (relation_step w W (selection a v false)) _ out e in
      let off = select_wrote a v false t.middle t.before in
      let f = value a in
      as_value
      (without_value v f (value (laid t.middle)) ∙ ap (λ (g : Function). λ σ. f σ && not (g (switched (Some v) σ))) off.stands.means)
      (operation_wrote (operation (job a (laid t.middle) (numbered 4) None (Some v)) None None) out t.after)

  -- the greatest option, where the rest is picked so
  joined_wrote : (v : ℕ) (vs : List ℕ) (a : Runs) (out : List Entry)
      → ((b : Runs) (es : List Entry) → ordered b ≡ true → pick_steps w W vs b ≡ wrote es → Stands (options b) (picked_by vs (value b)) es)
      → pick_steps w W (v ∷ vs) a ≡ wrote out → Made (options a) (picked_by (v ∷ vs) (value a)) out
  unfolding pick_steps picked_by
  joined_wrote v vs a out picks e =
      let t = through (relation_step w W (existential a v)) _ out e in
      let without = (exists_wrote a v t.middle t.before).stands in
      let u = through (pick_steps w W vs (laid t.middle)) _ out t.after in
      let rest = picks (laid t.middle) u.middle without.is_ordered u.before in
      let s = through (var_pick_steps w W a v) _ out u.after in
      let one = (var_pick_wrote a v s.middle s.before).stands in
      let whole = operation_wrote (operation (job (laid u.middle) (laid s.middle) (numbered 8) None None) None None) out s.after in
      let rest-means : value (laid u.middle) ≡ picked_by vs (exists v (value a)) = rest.means ∙ ap (picked_by vs) without.means in
      let over : options (laid u.middle) ≡ options a = rest.over ∙ without.over in
      rw (← over)
      (as_value
      (both_value (value (laid u.middle)) (value (laid s.middle))
      ∙ ap₂ (λ (f g : Function). λ σ. f σ && g σ) rest-means one.means)
      whole)

  pub copy_wrote : (a : Runs) (out : List Entry) → pick_steps w W [] a ≡ wrote out → out ≡ entries_of a
  unfolding pick_steps ascending
  copy_wrote a out e = (passed (copy_checks W (length (entries_of a))) (entries_of a) out refl e).same

  pub pick_stands : (vs : List ℕ) (a : Runs) (out : List Entry) → ordered a ≡ true → pick_steps w W vs a ≡ wrote out → Stands (options a) (picked_by vs (value a)) out
  unfolding pick_steps picked_by ascending
  pick_stands [] a out h e =
      let l = (ordered_open a h).layered in
      let same : laid out ≡ a = ap laid (copy_wrote a out e) ∙ laid_entries a (even_of a l.low_length l.high_length) in
      record { is_ordered = ap ordered same ∙ h; over = ap options same; means = ap value same }
  pick_stands (v ∷ vs) a out h e = (joined_wrote v vs a out (pick_stands vs) e).stands

  -- "the one array, in signing order, of `picked`"
  pub pick_wrote : (vs : List ℕ) (a : Runs) (out : List Entry) → (greatest_first vs (options a) ≡ [] → ⊥)
      → pick_steps w W (greatest_first vs (options a)) a ≡ wrote out → Made (options a) (picked (options a) vs (value a)) out
  pick_wrote vs a out not_none e = as_value (by_greatest vs (options a) (value a)) (at (greatest_first vs (options a)) not_none e)
    where
      at : (gs : List ℕ) → (gs ≡ [] → ⊥) → pick_steps w W gs a ≡ wrote out → Made (options a) (picked_by gs (value a)) out
      at [] n k = absurd (n refl)
      at (g ∷ gs) n k = joined_wrote g gs a out (pick_stands gs) k

  -- `var_pick` is picking of the one option
  pub var_pick_picked : (a : Runs) (v : ℕ) (out : List Entry) → var_pick_steps w W a v ≡ wrote out → Made (options a) (picked (options a) (v ∷ []) (value a)) out
  var_pick_picked a v out e =
      let t = through (relation_step w W (selection a v false)) _ out e in
      let r = relation_wrote (selection a v false) t.middle t.before in
      as_value (sym (picked_one (options a) v (value a) r.is_option)) (var_pick_wrote a v out e)

-- ---- a refused step

-- 7 or 9
pub data Late : Refusal → Type 0 where
  no_pairs : Late PairRoom
  no_room_left : Late NoRoom

two_rows : (pairs full : Bool) (why : Refusal) → cond pairs (some PairRoom) (cond full (some NoRoom) none) ≡ some why → Late why
two_rows true full why e = let p : PairRoom ≡ why = cc in rw (← p) no_pairs
two_rows false true why e = let p : NoRoom ≡ why = cc in rw (← p) no_room_left
two_rows false false why e = absurd (let z : ◌≡◌ {A = ℕ} 0 1 = cc in omega arith)

refused_with : (checks : Checks) (es : List Entry) (why : Refusal) → ascending checks ≡ true → ended (first_refusal checks) es ≡ stopped why → first_in_list checks ≡ some why
refused_with checks es why a e = at (first_refusal checks) refl e
  where
    at : (o : Option Refusal) → first_refusal checks ≡ o → ended o es ≡ stopped why → first_in_list checks ≡ some why
    at none p q = absurd (let z : ◌≡◌ {A = ℕ} 0 1 = cc in omega arith)
    at (some why') p q = let r : why' ≡ why = cc in sym (one_by_one checks a) ∙ p ∙ ap some r

-- either the first step is refused, or it wrote and what follows is
data Halts (o : Outcome) (next : List Entry → Outcome) (why : Refusal) : Type 0 where
  at_once : o ≡ stopped why → Halts o next why
  later : (es : List Entry) → o ≡ wrote es → next es ≡ stopped why → Halts o next why

halts : (o : Outcome) (next : List Entry → Outcome) (why : Refusal) → followed_by o next ≡ stopped why → Halts o next why
halts (wrote es) next why e = later es refl e
halts (stopped other) next why e = at_once e

pub or_left : (a b : Bool) → (a || b) ≡ false → a ≡ false
or_left true b e = e
or_left false b e = refl

pub or_right : (a b : Bool) → (a || b) ≡ false → b ≡ false
or_right true b e = absurd (let z : ◌≡◌ {A = ℕ} 0 1 = cc in omega arith)
or_right false b e = e

-- the options that are walked are among the n
pub none_beyond : (vs : List ℕ) (n m : ℕ) → m ≤ n → some_beyond n (greatest_first vs m) ≡ false
unfolding some_beyond greatest_first
none_beyond vs n zero l = refl
none_beyond vs n (suc m) l = at (listed vs m) (none_beyond vs n m (omega arith))
  where
    at : (b : Bool) → some_beyond n (greatest_first vs m) ≡ false → some_beyond n (cond b (m ∷ greatest_first vs m) (greatest_first vs m)) ≡ false
    at true h = rw (lt-leb n m l) h
    at false h = h

-- what 6 asks of the stack and of the index
pub record Roomy (w : Working) (W n : ℕ) : Type 0 where
  pub stack : 2 * n + 1 ≤ length w.stack
  pub index : W ≤ length w.index

module _ (w : Working) (W : ℕ) where
  relation_late : (x : Relation) (why : Refusal) → ordered (set_of x) ≡ true → x.option < options (set_of x) → Roomy w W (options (set_of x)) → relation_step w W x ≡ stopped why → Late why
  unfolding ascending first_in_list comes_first row_in paper_order
  relation_late x why h o roomy e =
      two_rows (ltb (pair_room w.pairs) (tasks x.job)) (no_room None W (length (array_of x))) why
      (rw (h, lt-leb (options (set_of x)) x.option o, le-ltb (length w.stack) (2 * options (set_of x) + 1) roomy.stack, le-ltb (length w.index) W roomy.index) at
      (refused_with (relation_checks x w W (length (array_of x))) (array_of x) why refl e))

  operator_late : (j : Job) (why : Refusal) → Checked j
      → (beyond (options j.left) j.flip_left || beyond (options j.left) j.flip_right || false) ≡ false
      → Roomy w W (options j.left) → operator_step w W j ≡ stopped why → Late why
  unfolding ascending first_in_list comes_first row_in paper_order over_limit
  operator_late j why checked flips roomy e =
      let n = options j.left in
      let o = operation j None None in
      two_rows (ltb (pair_room w.pairs) (tasks j)) (no_room None W (length (made o))) why
      (rw (checked.table, checked.left, checked.right, eq-eqb n (options j.right) checked.same_options, flips, le-ltb (length w.stack) (2 * n + 1) roomy.stack, le-ltb (length w.index) W roomy.index) at
      (refused_with (operation_checks o w W (length (made o))) (made o) why refl e))

  module _ (bound : W ≤ most_entries) where
    pub var_pick_late : (a : Runs) (v : ℕ) (why : Refusal) → ordered a ≡ true → v < options a → Roomy w W (options a) → var_pick_steps w W a v ≡ stopped why → Late why
    var_pick_late a v why h o roomy e = at (halts (relation_step w W (selection a v false)) _ why e)
      where
        at : Halts (relation_step w W (selection a v false)) (λ off. operator_step w W (job a (laid off) (numbered 4) None (Some v))) why → Late why
        at (at_once p) = relation_late (selection a v false) why h o roomy p
        at (later off p q) =
            let s = (select_wrote w W bound a v false off p).stands in
            operator_late (job a (laid off) (numbered 4) None (Some v)) why
            (record { left = h; right = s.is_ordered; same_options = sym s.over; table = good_table 4 (omega arith) }) (rw (lt-leb (options a) v o)) roomy q

    -- the greatest option, where the rest is refused so
    joined_late : (v : ℕ) (vs : List ℕ) (a : Runs) (why : Refusal) → ordered a ≡ true → v < options a → Roomy w W (options a)
        → ((b : Runs) → ordered b ≡ true → options b ≡ options a → pick_steps w W vs b ≡ stopped why → Late why)
        → pick_steps w W (v ∷ vs) a ≡ stopped why → Late why
    unfolding pick_steps
    joined_late v vs a why h o roomy picks e = first (halts (relation_step w W (existential a v)) _ why e)
      where
        fourth : (rest one : List Entry) → Stands (options a) (picked_by vs (exists v (value a))) rest → Stands (options a) (var_picked v (value a)) one
            → operator_step w W (job (laid rest) (laid one) (numbered 8) None None) ≡ stopped why → Late why
        fourth rest one r s q =
            operator_late (job (laid rest) (laid one) (numbered 8) None None) why
            (record { left = r.is_ordered; right = s.is_ordered; same_options = r.over ∙ sym s.over; table = good_table 8 (omega arith) }) refl
            (rw r.over roomy) q

        third : (rest : List Entry) → Stands (options a) (picked_by vs (exists v (value a))) rest
            → Halts (var_pick_steps w W a v) (λ one. operator_step w W (job (laid rest) (laid one) (numbered 8) None None)) why → Late why
        third rest r (at_once p) = var_pick_late a v why h o roomy p
        third rest r (later one p q) = fourth rest one r (var_pick_wrote w W bound a v one p).stands q

        second : (without : List Entry) → Stands (options a) (exists v (value a)) without
            → Halts (pick_steps w W vs (laid without))
            (λ rest. followed_by (var_pick_steps w W a v) (λ one. operator_step w W (job (laid rest) (laid one) (numbered 8) None None))) why → Late why
        second without s (at_once p) = picks (laid without) s.is_ordered s.over p
        second without s (later rest p q) =
            let r = pick_stands w W bound vs (laid without) rest s.is_ordered p in
            third rest (record { is_ordered = r.is_ordered; over = r.over ∙ s.over; means = r.means ∙ ap (picked_by vs) s.means })
            (halts (var_pick_steps w W a v) _ why q)

        first : Halts (relation_step w W (existential a v))
            (λ without.
            followed_by (pick_steps w W vs (laid without))
            (λ rest. followed_by (var_pick_steps w W a v) (λ one. operator_step w W (job (laid rest) (laid one) (numbered 8) None None)))) why → Late why
        first (at_once p) = relation_late (existential a v) why h o roomy p
        first (later without p q) = second without (exists_wrote w W bound a v without p).stands (halts (pick_steps w W vs (laid without)) _ why q)

    -- after the checks of the whole a step is refused with 7 or 9 alone
    pub pick_late : (vs : List ℕ) (a : Runs) (why : Refusal) → ordered a ≡ true → some_beyond (options a) vs ≡ false → Roomy w W (options a)
        → pick_steps w W vs a ≡ stopped why → Late why
    unfolding pick_steps some_beyond ascending first_in_list
    pick_late [] a why h b roomy e =
        two_rows false (no_room None W (length (entries_of a))) why
        (refused_with (copy_checks W (length (entries_of a))) (entries_of a) why refl e)
    pick_late (v ∷ vs) a why h b roomy e =
        joined_late v vs a why h (leb-false _ _ (or_left _ _ b)) roomy
        (λ c k q. pick_late vs c why k (rw q (or_right (leb (options a) v) _ b)) (rw q roomy)) e

-- ---- what an earlier step left in the working runs changes nothing: only their lengths count

pub record Alike (w u : Working) : Type 0 where
  pub pairs : length w.pairs ≡ length u.pairs
  pub stack : length w.stack ≡ length u.stack
  pub index : length w.index ≡ length u.index

module _ (w u : Working) (alike : Alike w u) (W : ℕ) where
  pub relation_alike : (x : Relation) → relation_step w W x ≡ relation_step u W x
  unfolding pair_room
  relation_alike x = rw (alike.pairs, alike.stack, alike.index)

  pub operator_alike : (j : Job) → operator_step w W j ≡ operator_step u W j
  unfolding pair_room
  operator_alike j = rw (alike.pairs, alike.stack, alike.index)

  pub var_pick_alike : (a : Runs) (v : ℕ) → var_pick_steps w W a v ≡ var_pick_steps u W a v
  var_pick_alike a v =
      λ i. followed_by (relation_alike (selection a v false) i) (λ off. operator_alike (job a (laid off) (numbered 4) None (Some v)) i)

  pub pick_alike : (vs : List ℕ) (a : Runs) → pick_steps w W vs a ≡ pick_steps u W vs a
  unfolding pick_steps
  pick_alike [] a = refl
  pick_alike (v ∷ vs) a =
      λ i.
      followed_by (relation_alike (existential a v) i)
      (λ without.
      followed_by (pick_alike vs (laid without) i)
      (λ rest. followed_by (var_pick_alike a v i) (λ one. operator_alike (job (laid rest) (laid one) (numbered 8) None None) i)))

-- ---- a quantifier is its operator

pub exists_step : (w : Working) (W : ℕ) (a : Runs) (v : ℕ) → operator_step w W (existential a v).job ≡ relation_step w W (existential a v)
exists_step w W a v =
    let x = existential a v in
    ap (λ (es : List Entry). step W (operation_checks (operation x.job None None) w) es) (ap (signed high_first (options a)) (does_exists a v).meant)
    ∙ ap (λ (f : Option Refusal). ended f (array_of x)) (sym (exists_refusal a v w W (length (array_of x))))
