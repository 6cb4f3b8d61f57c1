-- Laws for the callers of the index run: what follows from its definitions alone.
use Prim.Native.Nat.{ℕ, ◌+◌, ◌-◌, ◌<◌}
use mathlib.Core.Path.{◌≡◌, refl, sym, ap, subst, ◌∙◌}
use mathlib.Core.List.{List}
use native.Mathlib.Omega.{arith}
use lib.ListN.{length}
use lib.Seq.{get_or-set_same, get_or-set_other}
use Rattle.bdd.specs.Answers.{all_zero}
use Rattle.bdd.specs.Array.{Entry, Runs, entry, entry_of}
use Rattle.chains.specs.Chains.{Unchanged}
use Rattle.chains.proofs.Zeros.{getD_zeros}
use Rattle.chains.proofs.Growing.{none_chained}
use Rattle.index_run.specs.Index.{places, chains_of, Numbered, Fresh, Indexed, Agree, Added, NoPlace, Inserted, Insertion}
use Rattle.index_run.specs.Placing.{Fit, appended}
use Rattle.chains.specs.declared.Stored.{Stored}
use Rattle.chains.specs.declared.Stored.TheVariants.{New, Known, Full}

-- the entry under a number is the node's
pub key_of : {out : Runs} {k i : ℕ} {e : Entry} → Numbered out k e i → entry_of out (i - 2 + 2) ≡ e
key_of {out} {k} {i} a = let two : i - 2 + 2 ≡ i = omega (arith, a.least) in ap (entry_of out) two ∙ a.equal

-- an all-zero index is right for an output with no entries after the terminals
pub empty : (was : List ℕ) (out : Runs) → Indexed (all_zero was) out 2
empty was out =
    record {
      least = omega arith;
      chained =
          none_chained (chains_of (places (all_zero was)) 0 (all_zero was) out) (λ b. omega (arith, getD_zeros (length was) b));
    }

-- an entry stands under one number
pub one_number : {index : List ℕ} {out : Runs} {k i j : ℕ} {e : Entry} → Indexed index out k → Numbered out k e i → Numbered out k e j → i ≡ j
one_number {index} {out} {k} {i} {j} x a b =
    let same =
    x.chained.linked.single (i - 2) (j - 2) (omega (arith, a.least, a.below)) (omega (arith, b.least, b.below)) (key_of a ∙ sym (key_of b)) in
    omega (arith, a.least, b.least)

-- what each answer of an insertion says
module _ {was now : List ℕ} {out : Runs} {k : ℕ} {e : Entry} {a : Stored} (i : Insertion was now out k e a) where
  pub on_new : a ≡ New → Indexed was out k → Added now out k e
  on_new z x = subst (Inserted was now out k e) z (i.inserted x)

  pub on_known : {p : ℕ} → a ≡ Known p → Indexed was out k → Numbered out k e p
  on_known z x = subst (Inserted was now out k e) z (i.inserted x)

  pub on_full : a ≡ Full → Indexed was out k → NoPlace was out k e
  on_full z x = subst (Inserted was now out k e) z (i.inserted x)

  pub same_known : {p : ℕ} → a ≡ Known p → now ≡ was
  same_known z = subst (Unchanged was now) z i.unchanged

  pub same_full : a ≡ Full → now ≡ was
  same_full z = subst (Unchanged was now) z i.unchanged

-- no other answer fits
module _ {was now : List ℕ} {out : Runs} {k : ℕ} {e : Entry} (x : Indexed was out k) where
  pub only_known : (a : Stored) {p : ℕ} → Insertion was now out k e a → Numbered out k e p → a ≡ Known p
  only_known New i t = absurd ((i.inserted x).fresh _ t)
  only_known (Known q) i t = ap Known (one_number x (i.inserted x) t)
  only_known Full i t = absurd ((i.inserted x).fresh _ t)

  pub only_new : (a : Stored) → Insertion was now out k e a → Fresh out k e → k < places was + 2 → a ≡ New
  only_new New i t f = refl
  only_new (Known q) i t f = absurd (t q (i.inserted x))
  only_new Full i t f = absurd (omega (arith, (i.inserted x).full))

-- an entry that is written under k disturbs no entry below k
module _ (out : Runs) (k v l h : ℕ) where
  agrees : Agree out (appended out k v l h) k
  agrees i two b j =
      entry (get_or-set_other out.variable k i v 0 (omega arith) j) (get_or-set_other out.low k i l 0 (omega arith) j) (get_or-set_other out.high k i h 0 (omega arith) j)

  -- an entry that was added to the index and then written under k is indexed
  pub grown : {now : List ℕ} → Added now out k (entry v l h) → Fit out (k + 1) → Indexed now (appended out k v l h) (k + 1)
  grown added fit =
      added.indexed (appended out k v l h) agrees
      (λ j. entry (get_or-set_same out.variable k v 0 (omega (arith, fit.variable)) j) (get_or-set_same out.low k l 0 (omega (arith, fit.low)) j) (get_or-set_same out.high k h 0 (omega (arith, fit.high)) j))
