-- `compare::link_at` meets its contract.
use Rattle.std.proofs.Common.{eq-eqb, ne_eqb}
use Rattle.bdd.specs.Value.{chosen}
use Rattle.compare.specs.Told.{setting_of}
use Rattle.compare.proofs.link_at.Goals as goal

pub returns-then-setting-set-eq1 : goal.returns-then-setting-set-eq1
unfolding chosen setting_of
returns-then-setting-set-eq1 c = rw (eq-eqb _ _ c.if-setting-set-eq1.true) c.wide.ensures

pub returns : goal.returns
unfolding chosen setting_of
returns c = rw (ne_eqb _ _ c.if-setting-set-eq1.false) c.wide-2.ensures
