-- `marks::is_beyond` meets its contract.
use Rattle.std.proofs.Common.{rules, tests, ◌∙◌}
use Rattle.std.specs.Prelude.{leb}
use Rattle.std.proofs.lemmas.Iterator.{YieldsList-from_slice}
use Rattle.std.proofs.lemmas.Iterator.Search.{any_from_yields_List}
use Rattle.marks.proofs.Marking.{beyond_any}
use Rattle.marks.proofs.is_beyond.Goals as goal

pub returns : goal.returns
returns c =
    any_from_yields_List (λ v. leb c.args.n v) _ _ _ c.any.ensures.ran (YieldsList-from_slice c.args.picks.now cc) (λ x b q k. search (rules, tests))
    ∙ beyond_any c.args.n c.args.picks.now
