use Rattle.std.proofs.Common.{Some, vec_items, ap, ◌∙◌, arith}
use Rattle.std.proofs.lemmas.List.{get_or_read}
use Rattle.ranking.specs.Books.{listed, tree, ranked_as}
use Rattle.ranking.specs.Tree.{blank}
use Rattle.ranking.proofs.Bookings.{stands_at, picks_member, picked_within}
use Rattle.ranking.proofs.Sounds.{sound_from}
use Rattle.ranking.proofs.book.methods.BookOrderBook.member_at.Goals as goal

pub member_at-requires : goal.member_at-requires
member_at-requires c =
    record {
      tree = _;
      stands = stands_at (sound_from c.args.self.now.sound) c.args.side c.deref.ensures.value c.of.ensures;
    }

pub returns-in_err-member : goal.returns-in_err-member
unfolding listed tree
returns-in_err-member c =
    c.from_residual.ensures
    ∙ picks_member c.args.side (vec_items c.args.self.now.nodes) c.args.self.now.roots c.args.rank
    (c.in_err-member.ensures _
    (stands_at (sound_from c.args.self.now.sound) c.args.side c.deref.ensures.value c.of.ensures))

pub index-requires : goal.index-requires
index-requires c =
    let h = sound_from c.args.self.now.sound in
    omega (
      arith,
      c.args.self.now.nodes.ok.0,
      picked_within h c.args.side c.args.rank c.in_ok-member.member
          (c.in_ok-member.ensures _ (stands_at h c.args.side c.deref.ensures.value c.of.ensures)),
    )

pub returns : goal.returns
unfolding listed tree
returns c =
    let h = sound_from c.args.self.now.sound in
    let e = c.in_ok-member.ensures _ (stands_at h c.args.side c.deref.ensures.value c.of.ensures) in
    ap (λ n. Some (ranked_as c.in_ok-member.member n.cents))
    (get_or_read (vec_items c.args.self.now.nodes) c.in_ok-member.member c.index.result.now
    (picked_within h c.args.side c.args.rank c.in_ok-member.member e) c.index.ensures blank)
    ∙ picks_member c.args.side (vec_items c.args.self.now.nodes) c.args.self.now.roots c.args.rank e
