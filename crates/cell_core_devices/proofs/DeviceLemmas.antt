-- Bytes that a sink takes piece by piece.
use Rattle.std.proofs.Common.{◌≡◌, ℕ, ◌+◌, List, ◌++◌, length, take, drop, Option, Some, None, refl, ap, sym, take_all, arith, length-drop, ◌-◌, ◌∙◌, append_assoc}
use Rattle.std.proofs.Math.Seq.{take-add}
use Rattle.cell_core_devices.specs.Device.{append_if_known}

pub append_if_known-append : (o : Option (List ℕ)) (xs ys : List ℕ) → append_if_known (append_if_known o xs) ys ≡ append_if_known o (xs ++ ys)
append_if_known-append None xs ys = refl
append_if_known-append (Some zs) xs ys = ap Some (append_assoc zs xs ys)

-- taking two adjacent pieces one after another is taking the joined piece
pub took_more : (o : Option (List ℕ)) (bs : List ℕ) (i n : ℕ) → append_if_known (append_if_known o (take i bs)) (take n (drop i bs)) ≡ append_if_known o (take (i + n) bs)
took_more o bs i n = append_if_known-append o (take i bs) (take n (drop i bs)) ∙ ap (append_if_known o) (sym (take-add i n bs))

-- cutting the rest of a list at its own length leaves the rest unchanged
pub whole_rest : (bs : List ℕ) (i : ℕ) → take (length bs - i) (drop i bs) ≡ drop i bs
whole_rest bs i = take_all (length bs - i) (drop i bs) (omega (arith, length-drop i bs))

-- taking two adjacent pieces is taking the joined piece, even if the second is cut from the rest of a slice
pub put_more : (o : Option (List ℕ)) (bs : List ℕ) (i n : ℕ) → append_if_known (append_if_known o (take i bs)) (take n (take (length bs - i) (drop i bs))) ≡ append_if_known o (take (i + n) bs)
put_more o bs i n = ap (λ (xs : List ℕ). append_if_known (append_if_known o (take i bs)) (take n xs)) (whole_rest bs i) ∙ took_more o bs i n
