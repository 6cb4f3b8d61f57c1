-- `set_checks::is_reduced` meets its contract: equal links refuse, and else each answer of the index settles the tests.
use Rattle.bdd.specs.Lent.{set_of}
use Rattle.set_checks.proofs.Entries.{equal_links, taken, found_before}
use Rattle.set_checks.proofs.is_reduced.Goals as goal

pub returns-then-e : goal.returns-then-e
returns-then-e c = equal_links c.args.index.now (set_of c.args.set.now) _ c.requires c.if-e.true

pub returns-in-New : goal.returns-in-New
returns-in-New c = taken c.args.index.now (set_of c.args.set.now) _ c.requires _ _ c.insert.ensures c.if-e.false c.in-New.is

pub returns-in-Known : goal.returns-in-Known
returns-in-Known c = found_before c.args.index.now (set_of c.args.set.now) _ c.requires _ _ c.insert.ensures c.in-Known.is
