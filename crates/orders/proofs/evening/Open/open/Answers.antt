use Rattle.std.proofs.Common.{◌-◌, rules}
use borrow.Rule.Slice.PartMut.{put_mid}
use Rattle.orders.proofs.Openings.{opened_sound}
use Rattle.orders.proofs.evening.Open.open.Goals as goal

pub returns-clause-sound : goal.returns-clause-sound
returns-clause-sound c =
    let before = c.args.books.now in
    let n = c.slots-slots.result in
    let m = c.from-members.result in
    opened_sound c.args.extent.kinds c.args.extent.members
    (record {
      entries = put_mid 0 (n - 0) before.entries.now c.fill.new.self;
      numbers = put_mid 0 (m - 0) before.numbers.now c.fill-2.new.self;
      committed = put_mid 0 (m - 0) before.committed.now c.fill-3.new.self;
      accounts = before.accounts.now;
      berths = before.berths.now;
    })
    before.entries.now before.committed.now (search rules) (search rules)
