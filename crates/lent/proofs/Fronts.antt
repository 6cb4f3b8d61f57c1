-- A loop that writes a run from the front, one store a turn: after i turns the first i elements are those of what is
-- made, and the others are as they were. Every maker of runs cites it.
use Prim.Native.Nat.{ℕ, suc, ◌+◌, ◌≤◌, ◌<◌}
use mathlib.Core.Path.{◌≡◌, refl, sym, ap, ◌∙◌}
use mathlib.Core.List.{List, ◌++◌, append-nil}
use native.Mathlib.Omega.{arith}
use native.Mathlib.Numerals.{add-one}
use native.Mathlib.Nat.{zero-add}
use lib.ListN.{length, get_or, take, drop, set, length-append, length-take, length-drop, length-replicate, replicate, drop_of_length-le}
use lib.Seq.{paste, paste-suc, take_all}
use Rattle.std.proofs.lemmas.List.Edits.{paste_all, fill_from_more}

pub record Fronted (was made run : List ℕ) (i : ℕ) : Type 0 where
  pub within : i ≤ length was
  pub made_within : i ≤ length made
  pub held : run ≡ take i made ++ drop i was

pub fronted_none : (was made : List ℕ) → Fronted was made was 0
fronted_none was made = record { within = omega arith; made_within = omega arith; held = refl }

pub fronted_length : {was made run : List ℕ} {i : ℕ} → Fronted was made run i → length run ≡ length was
fronted_length {was} {made} {run} {i} f =
    let w = f.within in
    let m = f.made_within in
    ap length f.held ∙ simp (length-append, length-take, length-drop) (omega arith)

pub fronted_more : {was made run : List ℕ} {i x : ℕ} → Fronted was made run i → i < length was → i < length made → get_or made i 0 ≡ x → Fronted was made (set run i x) (i + 1)
fronted_more {was} {made} {run} {i} {x} f l m e =
    let h : 0 + i < length was = omega arith in
    let turn : set (take i made ++ drop i was) i (get_or made i 0) ≡ take (suc i) made ++ drop (suc i) was =
    simp zero-add at (paste-suc was 0 made i 0 h m) in
    record {
      within = omega arith;
      made_within = omega arith;
      held = rw (f.held, add-one, ← e) turn;
    }

-- the whole run is written
pub fronted_all : {was made run : List ℕ} {i : ℕ} → Fronted was made run i → length made ≡ length was → length was ≤ i → run ≡ made
fronted_all {was} {made} {run} {i} f e l =
    f.held
    ∙ ap (λ (r : List ℕ). r ++ drop i was) (take_all i made (omega arith))
    ∙ ap (λ (r : List ℕ). made ++ r) (drop_of_length-le was l)
    ∙ append-nil made

-- all that is made is written
pub fronted_made : {was made run : List ℕ} {i : ℕ} (k : ℕ) → Fronted was made run i → i ≡ k → length made ≤ k → run ≡ made ++ drop k was
fronted_made {was} {made} k f e l =
    f.held
    ∙ ap (λ (j : ℕ). take j made ++ drop j was) e
    ∙ ap (λ (r : List ℕ). r ++ drop k was) (take_all k made l)

-- clearing: the places that are done hold the zero
pub zeros_more : {A : Type 0} (d : List A) (i : ℕ) (y : A) → i < length d → set (replicate i y ++ drop i d) i y ≡ replicate (i + 1) y ++ drop (i + 1) d
zeros_more d i y h =
    ap (λ r. set r i y) (sym (done i))
    ∙ ap (λ (k : ℕ). set (paste d 0 (replicate i y) i) k y) (sym (zero-add i))
    ∙ fill_from_more d 0 i y (rw zero-add h)
    ∙ done (i + 1)
  where
    done : (n : ℕ) → paste d 0 (replicate n y) n ≡ replicate n y ++ drop n d
    done n =
        paste_all d 0 (replicate n y) n (sym (length-replicate n y))
        ∙ ap (λ (k : ℕ). replicate n y ++ drop k d) (zero-add n)

-- copying: one place more is the other run's
pub front_more : {A : Type 0} (d made : List A) (i : ℕ) (x : A) → i < length d → i < length made → get_or made i x ≡ x → set (take i made ++ drop i d) i x ≡ take (i + 1) made ++ drop (i + 1) d
front_more d made i x h m e =
    ap (λ z. set (take i made ++ drop i d) i z) (sym e)
    ∙ ap (λ r. set r i (get_or made i x)) (sym (done i))
    ∙ ap (λ (k : ℕ). set (paste d 0 made i) k (get_or made i x)) (sym (zero-add i))
    ∙ paste-suc d 0 made i x (rw zero-add h) m
    ∙ ap (paste d 0 made) (sym (add-one i))
    ∙ done (i + 1)
  where
    done : (n : ℕ) → paste d 0 made n ≡ take n made ++ drop n d
    done n = ap (λ (k : ℕ). take n made ++ drop k d) (zero-add n)
