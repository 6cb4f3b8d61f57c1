use Rattle.std.proofs.Common.{◌-◌, ◌≤◌}
use Rattle.replay_list.proofs.list.read.Given as goal

abbrev pub invariant-loop-done : goal.invariant-loop-done
invariant-loop-done l = l.done ≤ 131072

abbrev pub decreases-loop-done : goal.decreases-loop-done
decreases-loop-done l = 131072 - l.done
