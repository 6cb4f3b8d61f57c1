use Rattle.std.proofs.Common.{◌-◌, ◌≤◌}
use Rattle.desk_jobs.proofs.files.read_open.Given as goal

abbrev pub invariant-loop-done : goal.invariant-loop-done
invariant-loop-done g l = l.done ≤ 65537

abbrev pub decreases-loop-done : goal.decreases-loop-done
decreases-loop-done g l = 65537 - l.done
