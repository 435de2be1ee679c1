use Rattle.std.proofs.Common.{◌≡◌, ◌+◌, cond, ltb, [], ◌∷◌, vec_items, sym, ap, ◌∙◌, subst, arith}
use Rattle.std.specs.List.{AllByRecursion}
use Rattle.std.proofs.ByRecursion.{All-append}
use Rattle.ranking.specs.Kinds.{book_of}
use Rattle.ranking.proofs.AllKinds.{New, new_lists, new_members}
use Rattle.ranking.proofs.index.Index.new.Goals as goal

pub loop-kind-preserved : goal.loop-kind-preserved
loop-kind-preserved g c =
    let b = g.B.OrderBook in (
      c.in_ok-push.ensures.len ∙ ap (λ n. n + 1) c.loop-kind.invariant.0,
      subst (AllByRecursion (New b.members b.listed c.args.extent.members)) (sym c.in_ok-push.ensures.items)
          (All-append (New b.members b.listed c.args.extent.members) (vec_items c.loop-kind.books) (c.in_ok-new.field-0 ∷ [])
          c.loop-kind.invariant.1 (c.in_ok-new.ensures, tt)),
    )

pub returns : goal.returns
unfolding book_of
returns g c =
    let b = g.B.OrderBook in
    let whole : c.loop-kind._kind ≡ c.args.extent.kinds = omega (arith, c.loop-kind-test.false, c.loop-kind.auto._kind-end) in (
      λ k. new_members b.members b.listed c.args.extent.members (vec_items c.loop-kind.books) c.loop-kind.invariant.1 k
          ∙ ap (λ n. cond (ltb k n) c.args.extent.members 0)
          (sym c.loop-kind.books.ok.0 ∙ c.loop-kind.invariant.0 ∙ whole),
      new_lists b.members b.listed c.args.extent.members (vec_items c.loop-kind.books) c.loop-kind.invariant.1,
    )
