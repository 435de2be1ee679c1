-- A kind's row lies within the entries.
use Rattle.std.proofs.Common.{◌≡◌, ℕ, ◌+◌, ◌-◌, ◌*◌, ◌<◌, ◌≤◌, List, length, take, drop, arith}
use Rattle.std.proofs.lemmas.Nat.{mul-add-lt}
use Rattle.std.proofs.lemmas.List.{length-take, length-drop}

pub row_within : (k K M n : ℕ) → 1 ≤ M → k < K → K * M ≤ n → k * M + M ≤ n
row_within k K M n m h w = omega (arith, mul-add-lt k M (M - 1) K h (omega arith))

pub in_row : (xs : List ℕ) (first end m : ℕ) → end ≤ length xs → first + m < end → m < length (take (end - first) (drop first xs))
in_row xs first end m e h = simp (length-take, length-drop) (omega arith)

-- the same of a row that is lent on
pub in_kind : (xs : List ℕ) (k K M m first n : ℕ) → m < M → k < K → K * M ≤ length xs → first ≡ k * M → n ≡ M → m < length (take ((first + n) - first) (drop first xs))
in_kind xs k K M m first n h l w e f = in_row xs first (first + n) m (omega (arith, row_within k K M (length xs) (omega arith) l w)) (omega arith)
