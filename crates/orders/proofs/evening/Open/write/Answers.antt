use Rattle.std.proofs.Common.{◌+◌, ◌-◌, set, unwrap_or, ap, ◌∙◌}
use borrow.Rule.Slice.PartMut.{put_mid, set_mid_at}
use Rattle.orders.specs.Entries.{encoded}
use Rattle.orders.proofs.Rows.{in_kind}
use Rattle.orders.proofs.evening.Open.write.Goals as goal

pub returns-clause-entries : goal.returns-clause-entries
returns-clause-entries c =
    let a = c.row-first.result in
    let e = c.row-first.result + c.from.result in
    let xs = c.args.books.now.entries.now in
    let o = c.args.order in
    let v = unwrap_or (encoded o.entry) 0 in
    ap (put_mid a (e - a) xs) c.place.ensures
    ∙ set_mid_at a (e - a) o.member.0 xs v
    (in_kind xs o.kind.0 c.args.self.now.extent.kinds c.args.self.now.extent.members o.member.0 a c.from.result
    c.requires.member c.requires.kind c.requires.fits.entries c.row-first.ensures c.from.ensures)
    ∙ ap (λ i. set xs (i + o.member.0) v) c.row-first.ensures
