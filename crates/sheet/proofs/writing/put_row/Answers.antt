use Rattle.std.proofs.Common.{◌≡◌, ℕ, ◌+◌, ◌*◌, ◌<◌, ◌≤◌, List, length, get_or, take, sym, refl, arith}
use Rattle.std.proofs.lemmas.List.{take_more, length-take}
use Rattle.ranking.specs.declared.ranked.Ranked.{Ranked}
use Rattle.sheet.specs.Words.{bytes2, bytes4}
use Rattle.sheet.specs.Sheets.{row_bytes}
use Rattle.sheet.specs.Writing.{written_at}
use Rattle.sheet.proofs.Written.{Wrote, wrote_then, wrote2, wrote4, wrote_row, written_none, length_bytes2, length_row, row_more}
use Rattle.sheet.proofs.writing.put_row.Goals as goal

pub loop-one-init : goal.loop-one-init
loop-one-init c = (omega arith, refl, sym (written_none c.args.at c.args.sheet.now))

-- one more member of the row
more : {at e₀ e₁ e₂ : ℕ} {old s₀ s₁ s₂ : List ℕ} (row : List Ranked) (i : ℕ) (d : Ranked) → i < length row →
    at + 6 * length row ≤ length old → length s₀ ≡ length old →
    e₀ ≡ at + 6 * i → s₀ ≡ written_at at (row_bytes (take i row)) old →
    Wrote e₀ (bytes2 (get_or row i d).member) s₀ e₁ s₁ → Wrote e₁ (bytes4 (get_or row i d).cents.0) s₁ e₂ s₂ →
    Wrote at (row_bytes (take (i + 1) row)) old e₂ s₂
more {at = at} {e₀ = e₀} {old = old} {s₀ = s₀} row i d h room l e s a b =
    let n = length-take i row in
    let before = wrote_row {at = at} {end = e₀} {old = old} {new = s₀} (take i row) (omega arith) s in
    let both =
    wrote_then before (wrote_then a b (omega (arith, length_bytes2 (get_or row i d).member))) (omega (arith, length_row (take i row))) in
    rw (take_more row i d h, row_more (take i row) (get_or row i d)) both

pub loop-one-preserved : goal.loop-one-preserved
loop-one-preserved c =
    let a = wrote2 _ c.to_le_bytes.ensures c.put-end.ensures.end c.put-end.ensures.bytes in
    let b = wrote4 _ c.to_le_bytes-in-loop-one.ensures c.put-end-in-loop-one.ensures.end c.put-end-in-loop-one.ensures.bytes in
    let w = more c.args.row.now c.loop-one.one-index _ (omega arith) c.requires c.loop-one.invariant.1 c.loop-one.invariant.0 c.loop-one.invariant.2 a b in (
      omega (arith, w.ends, length_row (take (c.loop-one.one-index + 1) c.args.row.now), length-take (c.loop-one.one-index + 1) c.args.row.now),
      omega arith,
      w.leaves,
    )
