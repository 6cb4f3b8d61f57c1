-- `complexity::known` meets its contract: the look-up finds the pair, or it is one too many.
use mathlib.Core.Path.{refl}
use Rattle.pair_run.proofs.Laws.{on_at, on_missing}
use Rattle.complexity.proofs.known.Goals as goal

pub returns-in-Some : goal.returns-in-Some
returns-in-Some c =
    record { same = refl; stands = (_, on_at (c.find.ensures c.requires.sound) c.in-Some.is) }

pub returns-in-None : goal.returns-in-None
returns-in-None c =
    record { same = refl; absent = on_missing (c.find.ensures c.requires.sound) c.in-None.is; full = refl }
