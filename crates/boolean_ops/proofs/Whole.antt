-- An operator after its checks: what its exploration is handed, and what the exploration came to and how it ended give the promise.
use Prim.Native.Nat.{ℕ, ◌≤◌}
use mathlib.Core.Path.{◌≡◌, ◌∙◌}
use mathlib.Core.List.{List}
use mathlib.Core.Option.{none}
use native.Mathlib.Omega.{arith}
use lib.ListN.{length}
use Rattle.bdd.specs.Array.{Runs, options}
use Rattle.bdd.specs.Signed.{high_first}
use Rattle.bdd.specs.Pairs.{Job, room}
use Rattle.bdd.specs.Operations.{Operation, Working, meant, job_checks, Operates}
use Rattle.bdd.specs.Lent.{Answer}
use Rattle.bdd.proofs.Refusing.{first_in_list}
use Rattle.ending.specs.Ends.{Bounds, ended, ended_runs}
use Rattle.ending.specs.declared.Bound.{Bound}
use Rattle.ending.specs.declared.Explored.{Explored}
use Rattle.ending.specs.declared.Explored.TheVariants as explored
use Rattle.ending.proofs.Whole.{Kept, same_zeros, ends}
use Rattle.apply.specs.Apply.{Admissible, Explores}
use Rattle.boolean_ops.specs.Pieces.{Zeros}
use Rattle.boolean_ops.proofs.Operating.{Left, no_pair_room, ran}

pub admissible : (j : Job) (most : ℕ) (out : Runs) (stack index : List ℕ) → Left j (length stack) → most ≤ room out → room out ≤ length index → Admissible j most out stack index
admissible j most out stack index h l m =
    record {
      checked = h.checked;
      few = omega arith;
      output_fits = record { variable = omega arith; low = omega arith; high = omega arith };
      stack_fits = h.stack_fits;
      index_fits = omega arith;
    }

-- runs of the same lengths were cleared
pub zeros_kept : (lent later back : Working) → length later.pairs ≡ length lent.pairs → length later.stack ≡ length lent.stack → length later.index ≡ length lent.index → Zeros later back → Zeros lent back
zeros_kept lent later back p s i z =
    record {
      pairs = z.pairs ∙ same_zeros lent.pairs later.pairs p;
      stack = z.stack ∙ same_zeros lent.stack later.stack s;
      index = z.index ∙ same_zeros lent.index later.index i;
    }

module _
    (o : Operation) (was mid now : Runs) (lent back : Working) (b : Bound) (n : ℕ)
    (clean : first_in_list (job_checks o.job o.output (length lent.stack)) ≡ none) (fits : room was ≤ length lent.index)
    (zeros : Zeros lent back) (kept : Kept was mid) (bounds : Bounds o.limit (room was) b) (n_is : n ≡ options o.job.left) where
  at : (x : Explored) → Explores o.job o.output b.most was mid lent.pairs x → now ≡ ended_runs (ended x b) n mid → Operates o was now lent back (ended x b)
  at explored.NoPairRoom h e = no_pair_room o was lent clean fits now back zeros mid kept h e
  at explored.Long h e =
      ran o was lent clean fits now back zeros h.fits
      (ends high_first (options o.job.left) (meant o) o.limit was mid now b bounds kept n n_is explored.Long h.comes e)
  at (explored.Array v next) h e =
      ran o was lent clean fits now back zeros h.fits
      (ends high_first (options o.job.left) (meant o) o.limit was mid now b bounds kept n n_is (explored.Array v next) h.comes e)

  pub operates : (x : Explored) {r : Answer} → Explores o.job o.output b.most was mid lent.pairs x → r ≡ ended x b → now ≡ ended_runs r n mid → Operates o was now lent back r
  operates x h e f = rw e (at x h (rw e at f))
