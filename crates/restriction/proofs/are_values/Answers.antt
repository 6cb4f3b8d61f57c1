-- `restriction::are_values` meets its contract: of as many values as options, each is 0, 1 or 2.
use Rattle.std.proofs.Common.{rules, tests, ◌≡◌, eq-eqb}
use Rattle.std.specs.Prelude.{nat_le}
use Rattle.std.specs.List.{list_all}
use Rattle.std.proofs.lemmas.Iterator.{YieldsList-from_slice}
use Rattle.std.proofs.lemmas.Iterator.Search.{all_from_yields_List}
use Rattle.restriction.specs.Restricts.{are_values}
use Rattle.restriction.proofs.are_values.Goals as goal

pub returns-then-values-n : goal.returns-then-values-n
unfolding are_values
returns-then-values-n c =
    let all : c.all.result ≡ list_all (λ x. nat_le x 2) c.args.values.now =
    all_from_yields_List (λ x. nat_le x 2) _ _ _ c.all.ensures.ran (YieldsList-from_slice c.args.values.now cc) (λ x b q k. search (rules, tests)) in
    rw (eq-eqb _ _ c.if-values-n.true) all
