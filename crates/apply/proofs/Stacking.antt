-- Frames in the stack: another frame on top, or the top one turned, leaves those below as they were.
use Prim.Native.Nat.{ℕ, zero, suc, ◌+◌, ◌*◌, ◌<◌, ◌≤◌}
use mathlib.Core.Path.{◌≡◌, refl, ap, ap₂, ◌∙◌}
use mathlib.Core.List.{List, ◌∷◌}
use native.Mathlib.Omega.{arith}
use lib.ListN.{length, set, length-set}
use lib.Seq.{get_or-set_same, get_or-set_other}
use Rattle.apply.specs.Frames.{Frame, frame_of, frames, framed}

pub frames_length : (stack : List ℕ) (k : ℕ) → length (frames stack k) ≡ k
frames_length stack zero = refl
frames_length stack (suc k) = ap suc (frames_length stack k)

-- the frames below one that is written
frames_below : (stack : List ℕ) (k i a w : ℕ) → k ≤ i → frames (framed stack i a w) k ≡ frames stack k
frames_below stack zero i a w l = refl
frames_below stack (suc k) i a w l =
    ap₂ (λ (f : Frame) (fs : List Frame). f ∷ fs)
    (ap₂ frame_of
    (get_or-set_other (set stack (2 * i) a) (2 * i + 1) (2 * k) w 0 (omega arith) ∙ get_or-set_other stack (2 * i) (2 * k) a 0 (omega arith))
    (get_or-set_other (set stack (2 * i) a) (2 * i + 1) (2 * k + 1) w 0 (omega arith) ∙ get_or-set_other stack (2 * i) (2 * k + 1) a 0 (omega arith)))
    (frames_below stack k i a w (omega arith))

-- with one that is written on top
pub frames_top : (stack : List ℕ) (k a w : ℕ) → 2 * k + 1 < length stack → frames (framed stack k a w) (suc k) ≡ frame_of a w ∷ frames stack k
frames_top stack k a w l =
    ap₂ (λ (f : Frame) (fs : List Frame). f ∷ fs)
    (ap₂ frame_of
    (get_or-set_other (set stack (2 * k) a) (2 * k + 1) (2 * k) w 0 (omega arith) ∙ get_or-set_same stack (2 * k) a 0 (omega arith))
    (get_or-set_same (set stack (2 * k) a) (2 * k + 1) w 0 (simp length-set (omega arith))))
    (frames_below stack k k a w (omega arith))
