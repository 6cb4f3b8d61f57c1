-- `reader::nth` meets its contract. The loop's invariant: after so many turns the reader holds the file, at the place that is reached then.
use Rattle.std.proofs.Common.{◌≡◌}
use Rattle.reader.proofs.Turns.{reached}
use Rattle.reader.proofs.nth.Given as goal

abbrev pub invariant-loop : goal.invariant-loop
invariant-loop l = record { file : l.r.file.now ≡ l.file; place : l.r.at ≡ reached l.file l.counter }
