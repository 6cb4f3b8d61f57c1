-- What a maker of arrays promises in each of its ends: refused with the runs left, refused for the room, and done. The laws
-- are over any checks of which only the room test is left, so that every maker cites them.
use Rattle.std.specs.Prelude.{Err, None, Ok}
use Prim.Native.Nat.{ℕ, zero, suc, ◌≤◌, ◌<◌}
use mathlib.Core.Path.{◌≡◌, refl, sym, ap, ◌∙◌, subst}
use mathlib.Core.Bool.{Bool, true, false, cond}
use mathlib.Core.Option.{none, some}
use mathlib.Core.List.{List, [], ◌∷◌, map}
use lib.ListN.{length, take}
use borrow.Author.Tests.{lt-ltb, le-ltb}
use Rattle.bdd.specs.Array.{Entry, Runs, runs, laid}
use Rattle.bdd.specs.Pairs.{room}
use Rattle.bdd.specs.Answers.{Checks, gives, Makes, told, told_answer, told_first, number, paper_order, row_in, comes_first, maker_checks, set_checks, answered, no_room, clears, all_zero, refused_after, output_after, outputs_after}
use Rattle.bdd.specs.Lent.{Answer}
use Rattle.bdd.specs.declared.Refusal.{Refusal}
use Rattle.bdd.specs.declared.Refusal.TheVariants.{LeftNotOrdered, NoSuchOption, NoRoom}
use Rattle.bdd.proofs.Refusing.{ascending, first_in_list, answered_in_order, outputs_kept}

pub map_take : {A : Type 0} (f : A → ℕ) (k : ℕ) (xs : List A) → map f (take k xs) ≡ take k (map f xs)
map_take f zero xs = refl
map_take f (suc k) [] = refl
map_take f (suc k) (x ∷ xs) = ap (λ (ys : List ℕ). f x ∷ ys) (map_take f k xs)

-- the answers of some checks, whatever the room and the size
abbrev pub Answers : (ℕ → ℕ → Checks) → (ℕ → ℕ → Answer) → Type 0
Answers checks answers = (W s : ℕ) → answered (checks W s) (s ∷ []) ≡ told_answer (answers W s)

-- the room alone decides
abbrev pub by_room : ℕ → ℕ → Answer
by_room W s = cond (no_room None W s) (Err NoRoom) (Ok s)

-- one check before the room: it holds, or the room alone decides
abbrev then_room : Refusal → Bool → ℕ → ℕ → Checks
then_room why bad W s = gives why bad ∷ gives NoRoom (no_room None W s) ∷ []

module _ (why : Refusal) (before : comes_first why NoRoom ≡ true) where
  in_turn : (bad : Bool) → Answers (then_room why bad) (λ W s. cond bad (Err why) (by_room W s))
  unfolding first_in_list ascending
  in_turn bad W s = answered_in_order (then_room why bad W s) (s ∷ []) (rw before) ∙ at bad (no_room None W s)
    where
      at : (b c : Bool) → told_first (cond b (some why) (cond c (some NoRoom) none)) (s ∷ []) ≡ told_answer (cond b (Err why) (cond c (Err NoRoom) (Ok s)))
      at true c = refl
      at false true = refl
      at false false = refl

  held : {bad : Bool} → bad ≡ true → Answers (then_room why bad) (λ W s. Err why)
  held {bad} e W s = in_turn bad W s ∙ rw e

  not_held : {bad : Bool} → bad ≡ false → Answers (then_room why bad) by_room
  not_held {bad} e W s = in_turn bad W s ∙ rw e

pub maker_room : {bad : Bool} → bad ≡ false → Answers (maker_checks bad) by_room
unfolding comes_first row_in paper_order
maker_room = not_held NoSuchOption refl

pub maker_no_option : {bad : Bool} → bad ≡ true → Answers (maker_checks bad) (λ W s. Err NoSuchOption)
unfolding comes_first row_in paper_order
maker_no_option = held NoSuchOption refl

pub set_room : {bad : Bool} → bad ≡ false → Answers (set_checks bad) by_room
unfolding comes_first row_in paper_order
set_room = not_held LeftNotOrdered refl

pub set_not_ordered : {bad : Bool} → bad ≡ true → Answers (set_checks bad) (λ W s. Err LeftNotOrdered)
unfolding comes_first row_in paper_order
set_not_ordered = held LeftNotOrdered refl

module _ {checks : ℕ → ℕ → Checks} (made : List Entry) (was : Runs) where
  pub makes_refused : (why : Refusal) → clears (number why) ≡ false → Answers checks (λ W s. Err why) → Makes checks made was was (Err why)
  makes_refused why keeps h = record { answer = sym (h (room was) (length made)); outputs = outputs_kept why keeps (laid made) was }

  pub makes_no_room : {now : Runs} → Answers checks by_room → room was < length made → now ≡ runs (all_zero was.variable) (all_zero was.low) (all_zero was.high) → Makes checks made was now (Err NoRoom)
  unfolding output_after refused_after no_room
  makes_no_room h l n =
      record {
        answer = sym (h (room was) (length made) ∙ ap (λ (b : Bool). told_answer (cond b (Err NoRoom) (Ok (length made)))) (lt-ltb _ _ l));
        outputs = n;
      }

  pub makes_done : {now : Runs} {s : ℕ} → Answers checks by_room → s ≡ length made → s ≤ room was → now ≡ outputs_after 0 (laid made) was → Makes checks made was now (Ok s)
  unfolding no_room
  makes_done {now} {s} h k l n =
      let m : length made ≤ room was = subst (λ (x : ℕ). x ≤ room was) k l in
      record {
        answer = sym (h (room was) (length made) ∙ ap (λ (b : Bool). told_answer (cond b (Err NoRoom) (Ok (length made)))) (le-ltb _ _ m) ∙ ap (λ (x : ℕ). told 0 (x ∷ [])) (sym k));
        outputs = n;
      }

-- makers of one array with the same answers promise the same
pub makes_same : {checks checks' : ℕ → ℕ → Checks} (answers : ℕ → ℕ → Answer) {made made' : List Entry} {was now : Runs} {r : Answer} → Answers checks answers → Answers checks' answers → made ≡ made' → Makes checks made was now r → Makes checks' made' was now r
makes_same answers {made = made} {was = was} h h' e m =
    rw (← e)
    record { answer = m.answer ∙ h (room was) (length made) ∙ sym (h' (room was) (length made)); outputs = m.outputs }
