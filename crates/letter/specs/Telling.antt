-- What a sheet tells a member, whatever bytes it is: its letter as it is written from its entries and the sheet. From a kind's
-- part the writer takes the pairs, the trades and the price of the member's side, and of the listed ranks those beside the
-- last pair. Whether the member traded, and where it stands in a tie, is seen by comparison with one listed member, and not
-- by its rank. What is not listed is not there.
use Rattle.std.specs.Prelude.{ℕ, zero, suc, ◌+◌, ◌*◌, Bool, true, cond, ◌&&◌, List, [], ◌∷◌, ◌++◌, length, Some, None, Ok, Err, Option, Result, ◌==◌, nat_le, nat_lt, slice_index}
use Rattle.orders.specs.declared.money.HalfCents.{HalfCents}
use Rattle.orders.specs.declared.entry.Entry.{Entry}
use Rattle.orders.specs.declared.entry.Entry.TheVariants.{Nothing, Bid, Ask}
use Rattle.orders.specs.declared.refusal.Part.TheVariants.{Entries, Sheet}
use Rattle.orders.specs.declared.refusal.Refusal.{Refusal}
use Rattle.orders.specs.declared.refusal.Refusal.TheVariants.{Kinds, Members, NoMember, Short, Ends}
use Rattle.orders.specs.Entries.{entry_of}
use Rattle.orders.specs.Words.{word2, word4}
use Rattle.ranking.specs.declared.ranked.Side.{Side}
use Rattle.ranking.specs.declared.ranked.Side.TheVariants.{Buyers, Sellers}
use Rattle.ranking.specs.declared.ranked.Ranked.{Ranked}
use Rattle.ranking.specs.Ranks.{own, before}
use Rattle.clearing.specs.Kind.{standing}
use Rattle.sheet.specs.declared.section.Section.{Section}
use Rattle.sheet.specs.Sections.{has_kind, buyers_in, sellers_in, past_kind, listed}
use Rattle.sheet.specs.Writing.{written_at}
use Rattle.letter.specs.declared.line.Line.{Line}
use Rattle.letter.specs.declared.tie.Tie.{Tie}
use Rattle.letter.specs.declared.writing.Published.{Published}
use Rattle.letter.specs.declared.tie.Tie.TheVariants.{NoTie, Before, At, After}
use Rattle.letter.specs.Letters.{pair_of}
use Rattle.letter.specs.Lines.{letter_bytes}

-- the member listed at the rank before, if there is one
abbrev pub listed_before : List ℕ → ℕ → Option Ranked
listed_before row zero = None
listed_before row (suc rank) = listed row rank

abbrev pub cents_or_0 : Option Ranked → ℕ
cents_or_0 None = 0
cents_or_0 (Some x) = x.cents.0

-- of a member beside the one listed in the last pair: the word on a tie
abbrev pub tie_beside : Ranked → Option Ranked → Tie
tie_beside x None = NoTie
tie_beside x (Some y) =
    cond (x.cents.0 == y.cents.0) (cond (nat_lt x.member y.member) Before (cond (x.member == y.member) At After)) NoTie

-- of a member beside the last one listed that trades: the price, unless it comes after that one
abbrev pub price_beside : Side → Ranked → HalfCents → Option Ranked → Option HalfCents
price_beside s x price None = None
price_beside s x price (Some y) = cond (before s own y x) None (Some price)

abbrev pub by_side : {A : Type 0} → Side → A → A → A
by_side Buyers x y = x
by_side Sellers x y = y

-- a kind's line: from the pairs, the trades, both prices, and the rows of buyers and of sellers in bytes
abbrev pub line_told : ℕ → Side → Ranked → ℕ → ℕ → HalfCents → HalfCents → List ℕ → List ℕ → Line
line_told k s x p t pay get buyers sellers =
    record {
      kind = k;
      side = s;
      cents = x.cents;
      price = price_beside s x (by_side s pay get) (listed_before (by_side s buyers sellers) t);
      last = pair_of (cents_or_0 (listed_before buyers p)) (cents_or_0 (listed_before sellers p));
      next = pair_of (cents_or_0 (listed buyers p)) (cents_or_0 (listed sellers p));
      tie = tie_beside x (listed_before (by_side s buyers sellers) p);
    }

-- the line of an entry, where it is one
abbrev pub entry_told : ℕ → ℕ → Entry → ℕ → ℕ → HalfCents → HalfCents → List ℕ → List ℕ → List Line
entry_told k i Nothing p t pay get buyers sellers = []
entry_told k i (Bid c) p t pay get buyers sellers = line_told k Buyers (standing i c) p t pay get buyers sellers ∷ []
entry_told k i (Ask c) p t pay get buyers sellers = line_told k Sellers (standing i c) p t pay get buyers sellers ∷ []

-- both of what a sheet says of a kind
abbrev pub line_in_section : ℕ → Side → Ranked → Section → Line
line_in_section k s x c =
    line_told k s x c.pairs c.trades c.buyers_price c.sellers_price c.buyers.bytes.now c.sellers.bytes.now

abbrev pub entry_in_section : ℕ → ℕ → Entry → Section → List Line
entry_in_section k i e c =
    entry_told k i e c.pairs c.trades c.buyers_price c.sellers_price c.buyers.bytes.now c.sellers.bytes.now

-- the same from bytes that begin with the kind
unfoldable pub kind_told : ℕ → ℕ → Entry → List ℕ → List Line
kind_told k i e bs =
    entry_told k i e (word2 bs 0) (word2 bs 2) (record { 0 = word4 bs 4 }) (record { 0 = word4 bs 8 }) (buyers_in bs) (sellers_in bs)

-- the lines of n kinds from kind k on, from bytes that begin with that kind, as far as they go
unfoldable pub lines_told : ℕ → List ℕ → ℕ → ℕ → ℕ → List ℕ → List Line
lines_told M codes i zero k bs = []
lines_told M codes i (suc n) k bs =
    cond (has_kind bs) (kind_told k i (entry_of (slice_index codes (k * M + i))) bs ++ lines_told M codes i n (suc k) (past_kind bs)) []

-- whether there are n kinds
unfoldable pub kinds_there : ℕ → List ℕ → Bool
kinds_there zero bs = true
kinds_there (suc n) bs = has_kind bs && kinds_there n (past_kind bs)

-- THE LETTER TOLD to member i by a sheet
abbrev pub letter_told : ℕ → ℕ → List ℕ → List ℕ → ℕ → List ℕ
letter_told K M codes sheet i = letter_bytes i (lines_told M codes i K 0 sheet)

-- What is asked first: kinds and members in range, a member of the evening, its entries, and room for a line of each kind.
abbrev pub allowed : ℕ → ℕ → ℕ → ℕ → ℕ → Result Unit Refusal
allowed K M entries i room =
    cond (nat_le 1 K && nat_le K 64)
    (cond (nat_le 1 M && nat_le M 2000)
    (cond (nat_lt i M)
    (cond (nat_le (K * M) entries)
    (cond (nat_le (3 + 28 * K) room) (Ok tt) (Err (Short Sheet)))
    (Err (Short Entries)))
    (Err NoMember))
    (Err Members))
    (Err Kinds)

abbrev pub if_allowed : Result Unit Refusal → Result ℕ Refusal → Result ℕ Refusal
if_allowed (Ok u) answer = answer
if_allowed (Err why) answer = Err why

-- a sheet is refused if it ends before its last kind
abbrev pub sheet_checked : ℕ → List ℕ → Result Unit Refusal
sheet_checked K sheet = cond (kinds_there K sheet) (Ok tt) (Err (Ends (length sheet)))

-- THE ANSWER: how long the letter is; or why it is not written
abbrev pub write_answer : ℕ → ℕ → List ℕ → List ℕ → ℕ → ℕ → Result ℕ Refusal
write_answer K M codes sheet i room =
    if_allowed (allowed K M (length codes) i room)
    (cond (kinds_there K sheet) (Ok (length (letter_told K M codes sheet i))) (Err (Ends (length sheet))))

-- what stands then in the lent bytes: the letter from their beginning on, or what was there
abbrev pub letter_written : Result ℕ Refusal → List ℕ → List ℕ → List ℕ
letter_written (Ok n) letter old = written_at 0 letter old
letter_written (Err why) letter old = old

-- the same of what is published of an evening
abbrev pub lines_by : Published → ℕ → List Line
lines_by p i = lines_told p.extent.members p.entries.now i p.extent.kinds 0 p.sheet.now

abbrev pub letter_by : Published → ℕ → List ℕ
letter_by p i = letter_told p.extent.kinds p.extent.members p.entries.now p.sheet.now i

abbrev pub answer_by : Published → ℕ → ℕ → Result ℕ Refusal
answer_by p i room = write_answer p.extent.kinds p.extent.members p.entries.now p.sheet.now i room
