-- Bytes least first, once over the width: a number and its bytes give each other back; and what the standard library
-- reads and writes of them.
use Prim.Native.Nat.{ℕ, zero, suc, ◌+◌, ◌*◌, ◌/◌, ◌%◌, ◌^◌, ◌<◌}
use mathlib.Core.Path.{◌≡◌, refl, ap, sym, ◌∙◌}
use mathlib.Core.List.{List, [], ◌∷◌, ◌++◌, append_assoc}
use native.Mathlib.Omega.{arith}
use native.Mathlib.Numerals.{add-one}
use lib.ListN.{length, take, drop, get_or}
use lib.Seq.{drop-cons, drop-drop}
use lib.Pow.{pow-add}
use borrow.Rule.Slice.PartMut.{put_mid}
use Rattle.std.specs.Int.{Width, to_le_bytes, byte_len, byte_at, bytes_low_first}
use Rattle.std.proofs.Math.Nat.{div-one, div-div-eq-div-mul}
use Rattle.serialisation.specs.Bytes.{little, number, put_at}

-- w bytes are 8w bits
pub eight_more : (m : ℕ) → 2 ^ (8 * suc m) ≡ 256 * 2 ^ (8 * m)
eight_more m =
    let e : 8 * suc m ≡ 8 + 8 * m = omega arith in
    ap (λ (n : ℕ). 2 ^ n) e ∙ pow-add 2 8 (8 * m)

pub length_little : (w x : ℕ) → length (little w x) ≡ w
unfolding little
length_little zero x = refl
length_little (suc w) x = ap suc (length_little w (x / 256))

pub number_little : (w x : ℕ) → x < 2 ^ (8 * w) → number (little w x) ≡ x
unfolding little number
number_little zero x l = omega arith
number_little (suc w) x l =
    let e = eight_more w in
    let rest : number (little w (x / 256)) ≡ x / 256 = number_little w (x / 256) (omega arith) in
    omega arith

-- the number at a place: its first byte, and those behind
pub number_more : (s : List ℕ) (at next w : ℕ) → at < length s → next ≡ at + 1 → number (take (suc w) (drop at s)) ≡ get_or s at 0 + 256 * number (take w (drop next s))
unfolding number
number_more s at next w h e =
    ap (λ (l : List ℕ). number (take (suc w) l)) (drop-cons s at 0 h)
    ∙ ap (λ (k : ℕ). get_or s at 0 + 256 * number (take w (drop k s))) (sym (e ∙ add-one at))

pub number_none : (s : List ℕ) (at : ℕ) → number (take 0 (drop at s)) ≡ 0
unfolding number
number_none s at = refl

-- the bytes of a number from the least on, and those above byte i
bytes_at : (i x : ℕ) → byte_at i x ≡ x / 256 ^ i % 256
bytes_at zero x = ap (λ (n : ℕ). n % 256) (sym (div-one x))
bytes_at (suc i) x = refl

bytes_low : (w i x : ℕ) → bytes_low_first i w x ≡ little w (x / 256 ^ i)
unfolding little
bytes_low zero i x = refl
bytes_low (suc w) i x =
    let e : 256 ^ i * 256 ≡ 256 ^ suc i = omega arith in
    let above : little w (x / 256 ^ suc i) ≡ little w (x / 256 ^ i / 256) =
    ap (λ (n : ℕ). little w n) (sym (div-div-eq-div-mul x (256 ^ i) 256 ∙ ap (λ (n : ℕ). x / n) e)) in
    λ k. bytes_at i x k ∷ (bytes_low w (suc i) x ∙ above) k

-- what the standard library writes of a number, whatever its width
pub le_bytes : (w : Width) (x : ℕ) → to_le_bytes w x ≡ little (byte_len w) x
le_bytes w x = bytes_low (byte_len w) 0 x ∙ ap (λ (n : ℕ). little (byte_len w) n) (div-one x)

-- a part that is overwritten
pub mid_put : (a k : ℕ) (was now these : List ℕ) → now ≡ these → k ≡ length these → put_mid a k was now ≡ put_at was a these
unfolding put_at
mid_put a k was now these e h =
    ap (λ (l : List ℕ). take a was ++ (l ++ drop k (drop a was))) e
    ∙ ap (λ (l : List ℕ). take a was ++ (these ++ l)) (drop-drop k a was ∙ ap (λ (n : ℕ). drop (a + n) was) h)
    ∙ sym (append_assoc (take a was) these (drop (a + length these) was))
