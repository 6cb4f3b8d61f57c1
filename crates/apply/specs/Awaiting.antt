-- What the exploration keeps on its way down and up, and what each way comes to.
use Rattle.std.specs.Prelude.{ℕ, ◌+◌, ◌-◌, ◌*◌, ◌^◌, ◌<◌, ◌≤◌, ◌≡◌, true, false, List, [], ◌∷◌, length, Option, Some, None}
use Rattle.bdd.specs.Array.{Entry, Runs, options}
use Rattle.bdd.specs.Signed.{signed, high_first}
use Rattle.bdd.specs.Pairs.{Job, Checked, Pair, pairs_of, result, roots, asked, undecided, count, pair_room}
use Rattle.bdd.specs.Lent.{Flip}
use Rattle.counting.proofs.Among.{In, Keeps}
use Rattle.counting.proofs.Noting.{Noting}
use Rattle.tasks.proofs.Tasks.{Waits, Settled}
use Rattle.tasks.proofs.Open.{Writes}
use Rattle.pairs.proofs.Pairs.{pair_tasks}
use Rattle.pair_run.specs.Held as held
use Rattle.index_run.specs.Placing.{Output, Placement}
use Rattle.step.specs.Step.{decoded, side}
use Rattle.complexity.specs.Exploring.{InRun}
use Rattle.apply.specs.Frames.{Frame, frame, frames, returns}
use Rattle.apply.specs.declared.Met.{Met}
use Rattle.apply.specs.declared.Met.TheVariants as met
use Rattle.apply.specs.declared.Descent.{Descent}
use Rattle.apply.specs.declared.Ascent.{Ascent}
use Rattle.apply.specs.declared.Ascent.TheVariants as up

module _ {j : Job} (c : Checked j) (out : Flip) (run : List ℕ) (es : List Entry) where
  -- the frames, from the root down to the pair that is awaited: the open pairs, the other children that wait, and that pair. An open
  -- pair stands at its node with the option that it asks; the first child of one whose other child is awaited has ended
  pub data Path : List Frame → List Pair → List Pair → Pair → Type 0 where
    at_root : Path [] [] [] (roots j)
    to_near : {fs : List Frame} {ps ws : List Pair} {p : Pair} {i w : ℕ} → Path fs ps ws p → Waits (pair_tasks c out) p
        → held.Noted run i p.left p.right (asked j p) → decoded w ≡ side j out false p
        → Path (frame i false w ∷ fs) (p ∷ ps) (side j out false p ∷ ws) (side j out true p)
    to_other : {fs : List Frame} {ps ws : List Pair} {p : Pair} {i v : ℕ} → Path fs ps ws p → Waits (pair_tasks c out) p
        → held.Noted run i p.left p.right (asked j p) → Settled (pair_tasks c out) es (side j out true p) v → v < 2 ^ 16
        → Path (frame i true v ∷ fs) (p ∷ ps) ws (side j out false p)

-- the pair has ended with this number: it stands at a node that no frame has
pub record Known (run : List ℕ) (fs : List Frame) (p : Pair) (v : ℕ) : Type 0 where
  pub node : ℕ
  pub noted : held.Noted run node p.left p.right v
  pub closed : (f : Frame) → In f fs → f.node ≡ node → ⊥

-- the pair q is awaited, with so many pairs open and so many entered, and es is written
pub record Awaits (j : Job) (out : Flip) (pairs stack : List ℕ) (depth entered : ℕ) (q : Pair) (es : List Entry) : Type 0 where
  pub checked : Checked j
  pub memo : held.Searchable pairs
  pub number : held.count pairs ≡ entered
  pub opens : List Pair
  pub waiting : List Pair
  pub path : Path checked out pairs es (frames stack depth) opens waiting q
  pub writes : Writes (pair_tasks checked out) (q ∷ opens) es
  pub settled : (p : Pair) (v : ℕ) → Known pairs (frames stack depth) p v → Settled (pair_tasks checked out) es p v
  pub noted : List Pair
  pub seen : List Pair
  pub noting : Noting (pairs_of j) noted seen (q ∷ waiting)
  pub keeps : Keeps (InRun pairs) noted
  pub counted : entered ≡ length noted

-- the pair that was awaited has ended with the number v
pub record Ended (j : Job) (out : Flip) (pairs stack : List ℕ) (depth entered v : ℕ) (es : List Entry) : Type 0 where
  pub awaited : Pair
  pub state : Awaits j out pairs stack depth entered awaited es
  pub met : undecided j awaited ≡ true → InRun pairs awaited
  pub stands : Settled (pair_tasks state.checked out) es awaited v
  pub small : v < 2 ^ 16

-- how much is left of the way, at most: three for each pair that may still be entered
abbrev pub left : List ℕ → List ℕ → ℕ → ℕ → ℕ
left pairs stack depth entered = 3 * (held.nodes pairs - entered) + returns (frames stack depth)

-- a pair is awaited, and the stack has room
pub record Due (j : Job) (out : Flip) (pairs stack : List ℕ) (depth entered : ℕ) (q : Pair) : Type 0 where
  pub entries : List Entry
  pub state : Awaits j out pairs stack depth entered q entries
  pub places : 2 * options j.left + 1 ≤ length stack

-- the pair is open now, and this child is awaited
pub record Opened (j : Job) (out : Flip) (was pairs stack : List ℕ) (depth entered : ℕ) (left-before : ℕ) (near : Pair) (es : List Entry) : Type 0 where
  pub state : Awaits j out pairs stack (depth + 1) (entered + 1) near es
  pub fits : entered < held.nodes pairs
  pub less : left pairs stack (depth + 1) (entered + 1) < left-before

-- what a look at the pair that is awaited comes to
abbrev pub Meets : Job → Flip → List ℕ → List ℕ → List ℕ → ℕ → ℕ → ℕ → List Entry → Met → Type 0
Meets j out was pairs stack depth entered before es (met.Known v) = Ended j out pairs stack depth entered v es × (left pairs stack depth entered ≤ before)
Meets j out was pairs stack depth entered before es (met.Open near) = Opened j out was pairs stack depth entered before near es
Meets j out was pairs stack depth entered before es met.Full = pair_room was < count j

-- what the way down comes to
abbrev pub Descends : Job → Flip → List ℕ → List ℕ → List ℕ → ℕ → List Entry → Option Descent → Type 0
Descends j out was pairs stack before es (Some d) = Ended j out pairs stack d.depth d.count d.number es × (left pairs stack d.depth d.count ≤ before)
Descends j out was pairs stack before es None = pair_room was < count j

-- the entries are placed, and the pair at the node has the number, if half a number holds it
abbrev pub Settling : List ℕ → List ℕ → ℕ → Placement → Type 0
Settling was now node (Some p) = p.number < 2 ^ 16 → held.Changed was now node p.number
Settling was now node None = now ≡ was

-- a pair has ended, and its way up is to be gone: with the room for `most` entries
pub record Upward (most : ℕ) (pairs stack index : List ℕ) (now : Runs) (depth v next : ℕ) : Type 0 where
  pub j : Job
  pub out : Flip
  pub entered : ℕ
  pub was : Runs
  pub entries : List Entry
  pub ended : Ended j out pairs stack depth entered v entries
  pub output : Output most was index now next entries
  pub places : 2 * options j.left + 1 ≤ length stack

-- on the way up: what has ended, what is written, and that the way gets shorter
pub record Rising (j : Job) (out : Flip) (most : ℕ) (was : Runs) (entered before : ℕ) (pairs stack index : List ℕ) (now : Runs) (depth v next : ℕ) : Type 0 where
  pub entries : List Entry
  pub ended : Ended j out pairs stack depth entered v entries
  pub output : Output most was index now next entries
  pub less : left pairs stack depth entered ≤ before

-- another pair is awaited
pub record Turned (j : Job) (out : Flip) (most : ℕ) (was : Runs) (entered before : ℕ) (pairs stack index : List ℕ) (now : Runs) (q : Pair) (depth next : ℕ) : Type 0 where
  pub entries : List Entry
  pub state : Awaits j out pairs stack depth entered q entries
  pub output : Output most was index now next entries
  pub less : left pairs stack depth entered < before

-- an entry more would be one too many
pub record Overlong (j : Job) (out : Flip) (most entered : ℕ) (pairs stack : List ℕ) : Type 0 where
  pub long : most < length (signed high_first (options j.left) (result j out))
  pub depth : ℕ
  pub value : ℕ
  pub entries : List Entry
  pub some : 0 < depth
  pub ended : Ended j out pairs stack depth entered value entries

-- what the way up comes to
abbrev pub Rises : Job → Flip → ℕ → Runs → ℕ → ℕ → List ℕ → List ℕ → List ℕ → Runs → Ascent → Type 0
Rises j out most was entered before pairs stack index now (up.Await w depth next) = Turned j out most was entered before pairs stack index now (decoded w) depth next
Rises j out most was entered before pairs stack index now (up.Root v next) = Rising j out most was entered before pairs stack index now 0 v next
Rises j out most was entered before pairs stack index now up.Long = Overlong j out most entered pairs stack
