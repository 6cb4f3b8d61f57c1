-- What the proofs of the exported functions share: a promise for flips and a limit that are made from numbers is the promise for what
-- the numbers say.
use Prim.Native.Nat.{ℕ}
use mathlib.Core.Path.{◌≡◌}
use mathlib.Core.List.{List, ◌∷◌, []}
use Rattle.bdd.specs.Answers.{told_answer}
use Rattle.bdd.specs.Array.{Runs}
use Rattle.bdd.specs.Operations.{Working, operation, Operates}
use Rattle.bdd.specs.Lent.{Answer, Limit}
use Rattle.bdd.specs.declared.Flips.{Flips}
use Rattle.bdd.specs.Pairs.{job}
use Rattle.exports.specs.Numbered.{Hands}

pub operates_from :
    {left right : Runs} {table : List ℕ} {limit said : Limit} {flips given : Flips} {was now : Runs} {lent back : Working} {answer : Answer} {r size : ℕ} →
    limit ≡ said →
    flips ≡ given →
    Operates (operation (job left right table flips.left flips.right) flips.output limit) was now lent back answer →
    r ≡ (told_answer answer).number →
    size ∷ [] ≡ (told_answer answer).values →
    Hands told_answer
    (Operates (operation (job left right table given.left given.right) given.output said) was now lent back) r (size ∷ [])
operates_from {was} {now} {lent} {back} {answer} of-limit of-flips kept is are =
    record { answer = answer; promise = rw (← of-limit, ← of-flips) kept; number_is = is; values_are = are }
