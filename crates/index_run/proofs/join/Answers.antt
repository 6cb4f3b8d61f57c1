-- `index_run::join` meets its contract: the halves that change are the node's follower and the place's head.
use Prim.Native.Nat.{ℕ, ◌+◌}
use mathlib.Core.Path.{ap, ◌∙◌}
use mathlib.Core.List.{List}
use Rattle.index_run.specs.Index.{with_head, linked}
use Rattle.index_run.proofs.join.Goals as goal

pub returns : goal.returns
unfolding linked
returns c =
    c.set_head.ensures ∙ ap (λ (x : List ℕ). with_head x c.args.place (c.args.node + 1)) c.set_behind.ensures
