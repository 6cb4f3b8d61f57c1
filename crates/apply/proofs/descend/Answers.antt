-- `apply::descend` meets its contract: a pair is awaited until one has ended, and each pair that is opened leaves less of the way.
use native.Mathlib.Omega.{arith}
use Rattle.apply.proofs.Down.{descends_full, descends_end, descends_less, descends_fits, descends_on}
use Rattle.apply.proofs.descend.Goals as goal

pub returns-in-Full : goal.returns-in-Full
returns-in-Full c es a =
    let did = c.meet in
    descends_full c.loop-number.invariant c.requires did.new.pairs did.new.stack did.result did.ensures c.in-Full.is

pub returns-in-Known : goal.returns-in-Known
returns-in-Known c =
    let did = c.meet in
    descends_end c.loop-number.invariant c.requires did.new.pairs did.new.stack did.result did.ensures c.in-Known.is

pub overflow_add-depth : goal.overflow_add-depth
overflow_add-depth c =
    let did = c.meet in
    omega (arith, descends_fits c.loop-number.invariant c.requires did.new.pairs did.new.stack did.result did.ensures c.in-Open.is)

pub overflow_add-count : goal.overflow_add-count
overflow_add-count c =
    let did = c.meet in
    omega (arith, descends_fits c.loop-number.invariant c.requires did.new.pairs did.new.stack did.result did.ensures c.in-Open.is)

pub loop-number-smaller : goal.loop-number-smaller
loop-number-smaller c =
    let did = c.meet in
    descends_less c.loop-number.invariant c.requires did.new.pairs did.new.stack did.result did.ensures c.in-Open.is

pub loop-number-preserved : goal.loop-number-preserved
loop-number-preserved c =
    let did = c.meet in
    rw c.apart-p.ensures (descends_on c.loop-number.invariant c.requires did.new.pairs did.new.stack did.result did.ensures c.in-Open.is did.auto.pairs did.auto.stack)
