-- A call that is done: no check refused it, and the first S entries of its output are the array that it must write.
use Rattle.std.specs.Prelude.{Err, Ok}
use Prim.Native.Nat.{ℕ, ◌+◌, ◌<◌, ◌≤◌}
use mathlib.Core.Path.{◌≡◌, refl, sym, ap, ap₂, ◌∙◌}
use mathlib.Core.Bool.{Bool, true, false, cond}
use mathlib.Core.List.{List, [], ◌∷◌, ◌++◌, map}
use mathlib.Core.Option.{Option, none, some}
use native.Mathlib.Omega.{arith}
use lib.ListN.{length, get_or, drop, length-map, get_or-append, get_or-map}
use lib.Seq.{ext_get_or}
use Rattle.bdd.specs.Array.{Entry, Runs, entry, runs, laid, entries_from, entry_of}
use Rattle.bdd.specs.Pairs.{room}
use Rattle.bdd.specs.Answers.{Check, Checks, Makes, number_of, told_answer, comes_first, first_of_two, first_refusal, outputs_after, output_after}
use Rattle.bdd.specs.Lent.{Answer}
use Rattle.bdd.specs.declared.Refusal.{Refusal}
use Rattle.bdd.proofs.Negation.{entries_length, entries_at}
use Rattle.bdd.proofs.Refusing.{no_refusal}
use Rattle.relation_ops.specs.Picking.{wrote, ended, step, answer_of}
use Rattle.relation_ops.proofs.Whole.{told_step}

-- the array stands first in the runs
front_entries : (es : List Entry) (vs ls hs : List ℕ)
    → entries_from (runs ((laid es).variable ++ vs) ((laid es).low ++ ls) ((laid es).high ++ hs)) 0 (length es) ≡ es
front_entries es vs ls hs =
    let z : Entry = entry 0 0 0 in
    let a = runs ((laid es).variable ++ vs) ((laid es).low ++ ls) ((laid es).high ++ hs) in
    ext_get_or z (entries_from a 0 (length es)) es (entries_length a 0 (length es))
    (λ i l.
    let m : i < length es = omega (arith, entries_length a 0 (length es)) in
    let column : (f : Entry → ℕ) (rest : List ℕ) → get_or (map f es ++ rest) i (f z) ≡ f (get_or es i z) =
    λ f rest. get_or-append (map f es) rest (f z) i (omega (arith, length-map es f)) ∙ get_or-map f es i z in
    entries_at a 0 (length es) i z m ∙ ap (entry_of a) (omega arith)
    ∙ (λ j. record {
      variable = column (λ (d : Entry). d.variable) vs j;
      low = column (λ (d : Entry). d.low) ls j;
      high = column (λ (d : Entry). d.high) hs j;
    }))

-- a done maker's output
pub held : (made : List Entry) (was : Runs) {now : Runs} {s : ℕ} → s ≡ length made → now ≡ outputs_after 0 (laid made) was → entries_from now 0 s ≡ made
unfolding output_after
held made was {now} {s} size outputs =
    ap₂ (λ (a : Runs) (k : ℕ). entries_from a 0 k) outputs size
    ∙ front_entries made (drop (length (laid made).variable) was.variable) (drop (length (laid made).low) was.low)
    (drop (length (laid made).high) was.high)

pub record Did (checks : ℕ → ℕ → Checks) (made : List Entry) (was now : Runs) (s : ℕ) : Type 0 where
  pub clean : first_refusal (checks (room was) (length made)) ≡ none
  pub array : entries_from now 0 s ≡ made

pub did : {checks : ℕ → ℕ → Checks} {made : List Entry} {was now : Runs} {s : ℕ} → Makes checks made was now (Ok s) → Did checks made was now s
did {checks} {made} {was} {now} {s} m =
    at (first_refusal (checks (room was) (length made))) refl (told_step m)
  where
    at : (o : Option Refusal) → first_refusal (checks (room was) (length made)) ≡ o → Ok s ≡ answer_of (ended o made) → Did checks made was now s
    at none p e = record { clean = p; array = held made was (ap (λ (r : Answer). get_or (told_answer r).values 0 0) e) m.outputs }
    at (some why) p e = absurd (no_refusal why (ap number_of e))

-- as the step that it is
pub wrote_it : {checks : ℕ → ℕ → Checks} {made : List Entry} {was now : Runs} {s : ℕ} → Did checks made was now s → step (room was) checks made ≡ wrote made
wrote_it {checks} {made} d = ap (λ (o : Option Refusal). ended o made) d.clean

-- where no check holds, none of the last ones does
some_first : (why : Refusal) (o : Option Refusal) → first_of_two why o ≡ none → ⊥
unfolding first_of_two
some_first why none e = let z : ◌≡◌ {A = ℕ} 0 1 = cc in omega arith
some_first why (some other) e = at (comes_first why other) e
  where
    at : (b : Bool) → cond b (some why) (some other) ≡ none → ⊥
    at true k = let z : ◌≡◌ {A = ℕ} 0 1 = cc in omega arith
    at false k = let z : ◌≡◌ {A = ℕ} 0 1 = cc in omega arith

pub last_clear : (cs rest : Checks) → first_refusal (cs ++ rest) ≡ none → first_refusal rest ≡ none
unfolding first_refusal
last_clear [] rest e = e
last_clear (c ∷ cs) rest e = last_clear cs rest (at c.holds e)
  where
    at : (b : Bool) → cond b (first_of_two c.refusal (first_refusal (cs ++ rest))) (first_refusal (cs ++ rest)) ≡ none → first_refusal (cs ++ rest) ≡ none
    at true k = absurd (some_first c.refusal (first_refusal (cs ++ rest)) k)
    at false k = k

pub one_clear : (c : Check) → first_refusal (c ∷ []) ≡ none → c.holds ≡ false
unfolding first_refusal
one_clear c e = at c.holds e
  where
    at : (b : Bool) → cond b (first_of_two c.refusal none) none ≡ none → b ≡ false
    at true k = absurd (some_first c.refusal none k)
    at false k = refl
