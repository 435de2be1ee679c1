use Rattle.std.proofs.Common.{◌≡◌, ◌+◌, ◌-◌, ◌^◌, ◌<◌, Some, drop, length, get_or, sym, ap, ◌∙◌, arith}
use Rattle.std.specs.List.{slice_get}
use Rattle.ranking_wide.specs.Leaves.{laid}
use Rattle.ranking_wide.specs.Trees.{keys_of, leaves_of}
use Rattle.ranking_wide.proofs.Counting.{key_here, key_next}
use Rattle.ranking_wide.proofs.Ordering.{nth_below}
use Rattle.ranking_wide.proofs.Sounds.{grown_from}
use Rattle.ranking_wide.proofs.Spans.{spans_below}
use Rattle.ranking_wide.proofs.tree.Tree.key_at.Goals as goal
use Rattle.ranking_wide.proofs.tree.Tree.key_at.Goals.{After-get, In-Some}

-- the leaf that is read
there : (c : After-get) → (c.loop-leaf.leaf-index < length (leaves_of c.args.self.now))
    × (c.leaf-item.result ≡ get_or (leaves_of c.args.self.now) c.loop-leaf.leaf-index c.leaf-item.result)
there c = (omega (arith, c.loop-leaf-test.true, c.deref-leaf-items.ensures.len, ap length c.deref-leaf-items.ensures.value), c.leaf-item.is ∙ ap (λ ls. get_or ls c.loop-leaf.leaf-index c.leaf-item.result) c.deref-leaf-items.ensures.value)

-- the key that is found
found : (c : In-Some) → Some c.in-Some.key.now ≡ slice_get (keys_of c.args.self.now) c.args.place
found c =
    let h = c.in-Some.ensures.lookup in
    let t = there c.before in
    key_here (leaves_of c.args.self.now) c.loop-leaf.leaf-index t.0 c.leaf-item.result t.1 c.loop-leaf.left c.in-Some.key.now
    (omega (arith, h.3.0, ap length c.deref.ensures.0)) (h.1 ∙ ap (λ ks. get_or ks c.loop-leaf.left c.in-Some.key.now) c.deref.ensures.0)
    ∙ c.loop-leaf.invariant

pub invariant_of-result : goal.invariant_of-result
invariant_of-result c =
    record {
      below = nth_below (keys_of c.args.self.now) c.args.place c.in-Some.key.now
          (spans_below (leaves_of c.args.self.now) (2 ^ 48) (grown_from c.args.self.now.grown).spans)
          (sym (found (goal.at.invariant_of-result c).In-Some));
    }

pub returns-in-Some : goal.returns-in-Some
returns-in-Some c = found (goal.at.returns-in-Some c).In-Some

pub loop-leaf-preserved : goal.loop-leaf-preserved
loop-leaf-preserved c =
    let t = there (goal.at.loop-leaf-preserved c).After-get in
    let n = c.len-left.ensures.value in
    ap (λ m. slice_get (laid (drop (c.loop-leaf.leaf-index + 1) (leaves_of c.args.self.now))) (c.loop-leaf.left - m)) n
    ∙ key_next (leaves_of c.args.self.now) c.loop-leaf.leaf-index t.0 c.leaf-item.result t.1 c.loop-leaf.left
    (omega (arith, c.in-None.ensures.lookup.3, ap length c.deref.ensures.0)) ∙ c.loop-leaf.invariant
