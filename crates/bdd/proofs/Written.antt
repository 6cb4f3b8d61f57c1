-- Laws of writing: what is written stands, and stands while more is written behind it; an option that a function ignores is
-- passed over; and `at_option`, after which nothing has to speak of how many options are left.
use Prim.Native.Nat.{ℕ, zero, suc, ◌+◌, ◌<◌, ◌≤◌}
use mathlib.Core.Path.{◌≡◌, refl, sym, ap, ◌∙◌}
use mathlib.Core.Logic.{◌≢◌, ⊎_elim}
use mathlib.Core.Bool.{Bool, true, false, cond, not, false≢true}
use mathlib.Core.List.{List, [], ◌∷◌, ◌++◌, append_assoc, append-nil}
use mathlib.Core.Option.{Option, none, some}
use native.Mathlib.Omega.{arith}
use native.Mathlib.Nat.{add-zero, eq-or-lt_of_le}
use lib.ListN.{length, get_or}
use lib.Dec.{eqb}
use borrow.Author.Tests.{eq-eqb, ne_eqb}
use Rattle.bdd.specs.Array.{Entry, entry, same_entry}
use Rattle.bdd.specs.Value.{Function, with_option}
use Rattle.bdd.specs.Signed.{Written, written, find, found_or_added, add, decide, write}
use Rattle.bdd.proofs.Logic.{is_false, same_entry_path, same_entry_of}
use Rattle.bdd.proofs.Settings.{Ignores, ignores_put, ignores_with}

-- ---- one entry

-- es' is es with more behind it
pub record Grown (es es' : List Entry) : Type 0 where
  pub more : List Entry
  pub path : es' ≡ es ++ more

pub grown_same : (es : List Entry) → Grown es es
grown_same es = record { more = []; path = sym (append-nil es) }

pub grown_trans : {es es' es'' : List Entry} → Grown es es' → Grown es' es'' → Grown es es''
grown_trans {es} g h =
    record {
      more = g.more ++ h.more;
      path = h.path ∙ ap (λ (l : List Entry). l ++ h.more) g.path ∙ append_assoc es g.more h.more;
    }

find_grown : (e : Entry) (p q : ℕ) (es rest : List Entry) → find e p es ≡ some q → find e p (es ++ rest) ≡ some q
unfolding find
find_grown e p q [] rest h = let z : ◌≡◌ {A = ℕ} 0 1 = cc in absurd (omega arith)
find_grown e p q (d ∷ ds) rest h = at (same_entry d e) h (λ t. find_grown e (suc p) q ds rest t)
  where
    at : (t : Bool) → cond t (some p) (find e (suc p) ds) ≡ some q → (find e (suc p) ds ≡ some q → find e (suc p) (ds ++ rest) ≡ some q)
        → cond t (some p) (find e (suc p) (ds ++ rest)) ≡ some q
    at true h ih = h
    at false h ih = ih h

find_added : (e : Entry) (p : ℕ) (es : List Entry) → find e p es ≡ none → find e p (es ++ (e ∷ [])) ≡ some (p + length es)
unfolding find
find_added e p [] h = rw (same_entry_of e e refl, add-zero p)
find_added e p (d ∷ ds) h = at (same_entry d e) h (λ t. find_added e (suc p) ds t)
  where
    at : (t : Bool) → cond t (some p) (find e (suc p) ds) ≡ none → (find e (suc p) ds ≡ none → find e (suc p) (ds ++ (e ∷ [])) ≡ some (suc p + length ds))
        → cond t (some p) (find e (suc p) (ds ++ (e ∷ []))) ≡ some (p + suc (length ds))
    at true h ih = let z : ◌≡◌ {A = ℕ} 0 1 = cc in absurd (omega arith)
    at false h ih = ih h ∙ ap some (omega arith)

-- what is found stands under its number
pub find_some : (e : Entry) (p q : ℕ) (es : List Entry) → find e p es ≡ some q
    → (j : ℕ) × (q ≡ p + j) × (j < length es) × (get_or es j (entry 0 0 0) ≡ e)
unfolding find
find_some e p q [] h = let z : ◌≡◌ {A = ℕ} 0 1 = cc in absurd (omega arith)
find_some e p q (d ∷ ds) h = at (same_entry d e) refl h (λ t. find_some e (suc p) q ds t)
  where
    at : (t : Bool) → same_entry d e ≡ t → cond t (some p) (find e (suc p) ds) ≡ some q
        → (find e (suc p) ds ≡ some q → (j : ℕ) × (q ≡ suc p + j) × (j < length ds) × (get_or ds j (entry 0 0 0) ≡ e))
        → (j : ℕ) × (q ≡ p + j) × (j < suc (length ds)) × (get_or (d ∷ ds) j (entry 0 0 0) ≡ e)
    at true s h ih = let r : q ≡ p = cc in (0, omega arith, omega arith, same_entry_path d e s)
    at false s h ih = let r = ih h in (suc r.0, omega (arith, r.1), omega (arith, r.2), r.3)

-- what is not found is none of them
pub find_none : (e : Entry) (p : ℕ) (es : List Entry) → find e p es ≡ none → (j : ℕ) → j < length es → get_or es j (entry 0 0 0) ≢ e
unfolding find
find_none e p [] h j l = absurd (omega arith)
find_none e p (d ∷ ds) h j l = at (same_entry d e) refl h j l (λ t i m. find_none e (suc p) ds t i m)
  where
    at : (t : Bool) → same_entry d e ≡ t → cond t (some p) (find e (suc p) ds) ≡ none → (j : ℕ) → j < suc (length ds)
        → (find e (suc p) ds ≡ none → (i : ℕ) → i < length ds → get_or ds i (entry 0 0 0) ≢ e)
        → get_or (d ∷ ds) j (entry 0 0 0) ≢ e
    at true s h j l ih = let z : ◌≡◌ {A = ℕ} 0 1 = cc in absurd (omega arith)
    at false s h zero l ih = λ r. false≢true (sym s ∙ same_entry_of d e r)
    at false s h (suc j) l ih = ih h j (omega arith)

-- what is none of them is not found
pub find_absent : (e : Entry) (p : ℕ) (es : List Entry) → ((j : ℕ) → j < length es → get_or es j (entry 0 0 0) ≢ e) → find e p es ≡ none
unfolding find
find_absent e p [] h = refl
find_absent e p (d ∷ ds) h =
    rw (sym (is_false (same_entry d e) (λ s. h 0 (omega arith) (same_entry_path d e s))))
    (find_absent e (suc p) ds (λ j l. h (suc j) (omega arith)))

-- what `add` and `decide` answer, they answer again with more behind it
add_grown : (e : Entry) (es : List Entry) (w : Written) → add e es ≡ w → (rest : List Entry)
    → add e (w.entries ++ rest) ≡ written (w.entries ++ rest) w.at
unfolding add
add_grown e es w h rest = at (find e 2 es) refl h
  where
    at : (o : Option ℕ) → find e 2 es ≡ o → found_or_added e es o ≡ w → add e (w.entries ++ rest) ≡ written (w.entries ++ rest) w.at
    at none o h =
        rw (← h, find_grown e 2 (2 + length es) (es ++ (e ∷ [])) rest (find_added e 2 es o))
    at (some p) o h = rw (← h, find_grown e 2 p es rest o)

add_grows : (e : Entry) (es : List Entry) → Grown es (add e es).entries
unfolding add
add_grows e es = at (find e 2 es)
  where
    at : (o : Option ℕ) → Grown es (found_or_added e es o).entries
    at none = record { more = e ∷ []; path = refl }
    at (some p) = grown_same es

pub decide_grown : (first : Bool) (k x y : ℕ) (es : List Entry) (w : Written) → decide first k x y es ≡ w → (rest : List Entry)
    → decide first k x y (w.entries ++ rest) ≡ written (w.entries ++ rest) w.at
unfolding decide
decide_grown first k x y es w h rest = at (eqb x y) h
  where
    e : Entry
    e = entry k (cond first y x) (cond first x y)

    at : (t : Bool) → cond t (written es x) (add e es) ≡ w
        → cond t (written (w.entries ++ rest) x) (add e (w.entries ++ rest)) ≡ written (w.entries ++ rest) w.at
    at true h = rw (← h)
    at false h = add_grown e es w h rest

pub decide_grows : (first : Bool) (k x y : ℕ) (es : List Entry) → Grown es (decide first k x y es).entries
unfolding decide
decide_grows first k x y es = at (eqb x y)
  where
    e : Entry
    e = entry k (cond first y x) (cond first x y)

    at : (t : Bool) → Grown es (cond t (written es x) (add e es)).entries
    at true = grown_same es
    at false = add_grows e es

pub decide_same : (first : Bool) (k x : ℕ) (es : List Entry) → decide first k x x es ≡ written es x
unfolding decide
decide_same first k x es = rw (eq-eqb x x refl)

-- an entry that does not stand yet is put behind the last
pub decide_new : (first : Bool) (k x y : ℕ) (es : List Entry) → x ≢ y → find (entry k (cond first y x) (cond first x y)) 2 es ≡ none
    → decide first k x y es ≡ written (es ++ (entry k (cond first y x) (cond first x y) ∷ [])) (2 + length es)
unfolding decide add
decide_new first k x y es ne h = rw (ne_eqb x y ne, h)

-- ---- writing

-- f, a function of the m options from k on, stands in es as entry p: to write it changes nothing and ends there
abbrev pub Stands : Bool → ℕ → ℕ → Function → List Entry → ℕ → Type 0
Stands first m k f es p = write first m k f es ≡ written es p

pub write_grows : (first : Bool) (m k : ℕ) (f : Function) (es : List Entry) → Grown es (write first m k f es).entries
unfolding write
write_grows first zero k f es = grown_same es
write_grows first (suc m) k f es =
    let x = write first m (suc k) (with_option k first f) es in
    let y = write first m (suc k) (with_option k (not first) f) x.entries in
    grown_trans (write_grows first m (suc k) (with_option k first f) es)
    (grown_trans (write_grows first m (suc k) (with_option k (not first) f) x.entries)
    (decide_grows first k x.at y.at y.entries))

-- what is written stands, with more behind it
pub write_again : (first : Bool) (m k : ℕ) (f : Function) (es es' : List Entry) → Grown (write first m k f es).entries es'
    → Stands first m k f es' (write first m k f es).at
unfolding write
write_again first zero k f es es' g = refl
write_again first (suc m) k f es es' g =
    let f₁ = with_option k first f in
    let f₂ = with_option k (not first) f in
    let x = write first m (suc k) f₁ es in
    let y = write first m (suc k) f₂ x.entries in
    let w = decide first k x.at y.at y.entries in
    let gy : Grown y.entries es' = grown_trans (decide_grows first k x.at y.at y.entries) g in
    let gx : Grown x.entries es' = grown_trans (write_grows first m (suc k) f₂ x.entries) gy in
    let ex : Stands first m (suc k) f₁ es' x.at = write_again first m (suc k) f₁ es es' gx in
    let ey : Stands first m (suc k) f₂ es' y.at = write_again first m (suc k) f₂ x.entries es' gy in
    let ed : decide first k x.at y.at es' ≡ written es' w.at =
    rw g.path (decide_grown first k x.at y.at y.entries w refl g.more) in
    rw (ex, ey) ed

pub written_stands : (first : Bool) (m k : ℕ) (f : Function) (es : List Entry)
    → Stands first m k f (write first m k f es).entries (write first m k f es).at
written_stands first m k f es = write_again first m k f es (write first m k f es).entries (grown_same _)

pub stands_grown : (first : Bool) (m k : ℕ) (f : Function) (es es' : List Entry) (p : ℕ) → Stands first m k f es p → Grown es es'
    → Stands first m k f es' p
stands_grown first m k f es es' p h g =
    write_again first m k f es es' (rw h g) ∙ ap (λ (w : Written). written es' w.at) h

pub skip : (first : Bool) (m k : ℕ) (f : Function) (es : List Entry) → Ignores k f → write first (suc m) k f es ≡ write first m (suc k) f es
unfolding write
skip first m k f es h =
    let x = write first m (suc k) f es in
    rw (h first, h (not first), written_stands first m (suc k) f es) (decide_same first k x.at x.entries)

-- a function that does not look at the options ends in entry 0 or 1
pub constant : (first b : Bool) (m k : ℕ) (es : List Entry) → Stands first m k (λ σ. b) es (cond b 1 0)
unfolding write
constant first b zero k es = refl
constant first b (suc m) k es = skip first m k (λ σ. b) es (λ c. refl) ∙ constant first b m (suc k) es

at_its_option : (first : Bool) (m k : ℕ) (f : Function) (es : List Entry) (x y : Written)
    → write first (suc m) k (with_option k first f) es ≡ x → write first (suc m) k (with_option k (not first) f) x.entries ≡ y
    → write first (suc m) k f es ≡ decide first k x.at y.at y.entries
unfolding write
at_its_option first m k f es x y hx hy =
    let ex : write first m (suc k) (with_option k first f) es ≡ x = sym (skip first m k _ es (ignores_put k first f)) ∙ hx in
    let ey : write first m (suc k) (with_option k (not first) f) x.entries ≡ y =
    sym (skip first m k _ x.entries (ignores_put k (not first) f)) ∙ hy in
    rw (ex, ey)

at_option_from : (first : Bool) (m k v : ℕ) (f : Function) (es : List Entry) (x y : Written)
    → k ≤ v → v < k + m → ((j : ℕ) → k ≤ j → j < v → Ignores j f)
    → write first m k (with_option v first f) es ≡ x → write first m k (with_option v (not first) f) x.entries ≡ y
    → write first m k f es ≡ decide first v x.at y.at y.entries
at_option_from first zero k v f es x y l u ig hx hy = absurd (omega arith)
at_option_from first (suc m) k v f es x y l u ig hx hy =
    ⊎_elim
    (λ (e : k ≡ v). rw (← e) (at_its_option first m k f es x y (rw (← e) at hx) (rw (← e) at hy)))
    (λ (e : k < v).
    let pass : (b : Bool) → Ignores k (with_option v b f) = λ b. ignores_with k v b f (omega arith) (ig k (omega arith) e) in
    skip first m k f es (ig k (omega arith) e)
    ∙ at_option_from first m (suc k) v f es x y e (omega arith) (λ j p q. ig j (omega arith) q)
    (sym (skip first m k _ es (pass first)) ∙ hx) (sym (skip first m k _ x.entries (pass (not first))) ∙ hy))
    (eq-or-lt_of_le l)

-- a function of n options whose first option is v: its two sides are written, then its entry
pub at_option : (first : Bool) (n v : ℕ) (f : Function) (es : List Entry) (x y : Written)
    → v < n → ((j : ℕ) → j < v → Ignores j f)
    → write first n 0 (with_option v first f) es ≡ x → write first n 0 (with_option v (not first) f) x.entries ≡ y
    → write first n 0 f es ≡ decide first v x.at y.at y.entries
at_option first n v f es x y l ig hx hy =
    at_option_from first n 0 v f es x y (omega arith) (omega arith) (λ j p q. ig j q) hx hy
