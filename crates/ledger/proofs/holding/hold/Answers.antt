use Rattle.std.proofs.Common.{◌≡◌, ◌*◌, false, length, None, take, ap, ◌∙◌, ap₂, arith}
use Rattle.orders.specs.declared.evening.Open.{Open}
use Rattle.orders.specs.declared.extent.Extent.{Extent}
use Rattle.orders.specs.declared.money.HalfCents.{HalfCents}
use Rattle.orders.specs.Lent.{Held, held}
use Rattle.orders.specs.Running.{messages, written_over}
use Rattle.orders.proofs.Runs.{same_loans}
use Rattle.ledger.specs.Closing.{ClosedAs}
use Rattle.ledger.specs.Publishing.{OnSheet}
use Rattle.ledger.specs.Refusing.{no_room}
use Rattle.ledger.specs.Whole.{opened}
use Rattle.ledger.proofs.Accepted.{accepted}
use Rattle.ledger.proofs.Ended.{none_short, not_refused_is}
use Rattle.ledger.proofs.Evenings.{room_in_run, run_is, answers_are, carried, still_underway, still_closes, nothing_refused, fair_from_messages}
use Rattle.ledger.proofs.holding.hold.Goals as goal

pub copy_entries-requires : goal.copy_entries-requires
copy_entries-requires c =
    let o = c.in_ok-session.ensures in
    let k₀ : c.in_ok-session.session.open.extent.kinds ≡ c.args.input.now.extent.kinds = ap (λ (x : Extent). x.kinds) o.opened.0 in
    let m₀ : c.in_ok-session.session.open.extent.members ≡ c.args.input.now.extent.members = ap (λ (x : Extent). x.members) o.opened.0 in (
      omega (
        arith,
        c.slots-slots.ensures,
        room_in_run c.args.input.now.extent.kinds c.args.input.now.extent.members c.in_ok-session.session.open.extent.kinds
            c.in_ok-session.session.open.extent.members (held c.open.new.books) (held c.take_all-session.new.books)
            (messages (length c.args.answers.now) c.args.input.now.messages.now) k₀ m₀ o.fits
            c.take_all-session.ensures.after,
      ),
      c.if-standing-slots.false,
    )

pub returns : goal.returns
returns c =
    let K = c.args.input.now.extent.kinds in
    let M = c.args.input.now.extent.members in
    let F = c.args.input.now.fund.0 in
    let h = held c.args.books.now in
    let space = c.args.space.now in
    let ms = messages (length c.args.answers.now) c.args.input.now.messages.now in
    let o = c.in_ok-session.ensures in
    let t = c.take_all-session.ensures in
    let e = c.in_ok-check.ensures in
    let h₁ = held c.open.new.books in
    let h₂ = held c.take_all-session.new.books in
    let s₀ = c.in_ok-session.session in
    let s₁ = c.take_all-session.result in
    let k₀ : s₀.open.extent.kinds ≡ K = ap (λ (x : Extent). x.kinds) o.opened.0 in
    let m₀ : s₀.open.extent.members ≡ M = ap (λ (x : Extent). x.members) o.opened.0 in
    let ek : s₁.open.extent.kinds ≡ K = ap (λ (x : Open). x.extent.kinds) t.«open» ∙ k₀ in
    let em : s₁.open.extent.members ≡ M = ap (λ (x : Open). x.extent.members) t.«open» ∙ m₀ in
    let ef : s₁.open.fund.0 ≡ F = ap (λ (x : Open). x.fund.0) t.«open» ∙ ap (λ (x : HalfCents). x.0) o.opened.1 in
    let oh : h₁ ≡ opened K M h =
    λ x. record { entries = o.entries x; numbers = o.numbers x; committed = o.committed x; accounts = o.accounts x; berths = o.berths x } in
    let room : no_room K M (length space.sheet.now) (length space.buyers.now) (length space.sellers.now) ≡ false =
    (none_short None _ c.in_ok-check-2.ensures).1 in
    let slots : c.slots-slots.result ≡ K * M = c.slots-slots.ensures in
    let u =
    still_underway K M F h e s₀.open.extent.kinds s₀.open.extent.members s₁.open.extent.kinds s₁.open.extent.members s₁.open.fund.0 k₀ m₀ ek em ef
    ms h₁ h₂ oh t.after s₀.index s₁.index o.indexed t.indexed in
    let closes =
    still_closes K M F h e s₀.open.extent.kinds s₀.open.extent.members s₁.open.extent.kinds s₁.open.extent.members s₁.open.fund.0 k₀ m₀ ek em ef
    ms h₁ h₂ oh t.after (length space.sheet.now) (length space.buyers.now) (length space.sellers.now) room in
    let x = not_refused_is _ c.settle.result c.map_err.result (c.settle.ensures.refusal ∙ closes) c.map_err.ensures.cases in
    let z = rw x.1 at (c.settle.ensures.closed u) in
    let sheet =
    carried K M F h e s₀.open.extent.kinds s₀.open.extent.members s₁.open.extent.kinds s₁.open.extent.members s₁.open.fund.0 k₀ m₀ ek em ef
    ms h₁ h₂ oh t.after (λ k m f y. OnSheet m y.entries space.sheet.now k x.0.sheet c.settle.new.space.sheet.now) z.1 in
    rw x.2
    (record {
      refusal = nothing_refused K M F h e (length c.args.standing.now) (length space.sheet.now) (length space.buyers.now)
          (length space.sellers.now) (omega (arith, slots, c.if-standing-slots.false)) room;
      unchanged = tt;
      same_answers = tt;
      same_standing = tt;
      same_sheet = tt;
      answers =
          t.answers
          ∙ ap (λ as'. written_over as' c.args.answers.now)
          (answers_are K M F h e s₀.open.extent.kinds s₀.open.extent.members s₁.open.extent.kinds s₁.open.extent.members s₁.open.fund.0 k₀ m₀ ek em ef
          ms h₁ h₂ oh t.after);
      standing =
          c.copy_entries.ensures
          ∙ ap₂ (λ n (y : Held). written_over (take n y.entries) c.args.standing.now) slots
          (run_is K M F h e s₀.open.extent.kinds s₀.open.extent.members s₁.open.extent.kinds s₁.open.extent.members s₁.open.fund.0 k₀ m₀ ek em ef
          ms h₁ h₂ oh t.after);
      closed =
          carried K M F h e s₀.open.extent.kinds s₀.open.extent.members s₁.open.extent.kinds s₁.open.extent.members s₁.open.fund.0 k₀ m₀ ek em ef
          ms h₁ h₂ oh t.after (λ k m f y. ClosedAs k m f y (held c.settle.new.books) x.0.evening.fund.0) z.0;
      sheet = sheet;
      accepted = accepted K M F h e ms space.sheet.now c.settle.new.space.sheet.now x.0.sheet sheet;
      fair = fair_from_messages K M F h e ms;
      lent =
          same_loans c.args.books.now c.take_all-session.new.books c.settle.new.books
          (same_loans c.args.books.now c.open.new.books c.take_all-session.new.books o.lent t.lent) c.settle.ensures.lent;
      same_space = c.settle.ensures.same_space;
    })
