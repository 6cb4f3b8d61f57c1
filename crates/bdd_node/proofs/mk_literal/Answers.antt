-- `bdd_node::mk_literal` meets its contract: the option is tested, the rest is `make`'s promise.
use mathlib.Core.Path.{refl}
use mathlib.Core.Bool.{or-true}
use borrow.Author.Tests.{le-leb}
use Rattle.bdd.specs.declared.Refusal.TheVariants.{NoSuchOption}
use Rattle.bdd.proofs.Makers.{maker_no_option, makes_refused}
use Rattle.bdd_node.proofs.mk_literal.Goals as goal

pub returns-then-n-v-clause-made : goal.returns-then-n-v-clause-made
returns-then-n-v-clause-made c = makes_refused _ _ NoSuchOption refl (maker_no_option (rw (le-leb _ _ c.if-n-v.true, or-true)))
