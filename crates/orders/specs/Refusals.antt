-- Each refusal is made known by a number, which says what is wrong, and a place, which says where: in a message the byte
-- at which the wrong field begins (or the length, if that is wrong), in an opening the member or the part of memory,
-- on a sheet the kind and its field, or the byte at which it ends or goes on, in a letter the entry.
use Rattle.std.specs.Prelude.{ℕ, ◌+◌, ◌*◌, List, ◌++◌, codes, decimal}
use Rattle.orders.specs.declared.refusal.Field.{Field}
use Rattle.orders.specs.declared.refusal.Field.TheVariants.{Pairs, Trades, BuyersPrice, SellersPrice, BuyersCount, BuyersRow, SellersCount, SellersRow}
use Rattle.orders.specs.declared.refusal.Part.{Part}
use Rattle.orders.specs.declared.refusal.Part.TheVariants.{Entries, Accounts, Berths, Sheet}
use Rattle.orders.specs.declared.refusal.Refusal.{Refusal}
use Rattle.orders.specs.declared.refusal.Refusal.TheVariants.{Closed, Length, NoMember, OldNumber, NoKind, NoSort, OutOfRange, Uncovered, Full, Unbacked, Kinds, Members, Account, Fund, Short, NoEntry, Differs, Ends, GoesOn, NotByRule, Memory}

abbrev pub number : Refusal → ℕ
number Closed = 1
number (Length n) = 2
number NoMember = 3
number OldNumber = 4
number NoKind = 5
number NoSort = 6
number OutOfRange = 7
number Uncovered = 8
number Full = 8
number Unbacked = 8
number Kinds = 9
number Members = 9
number (Account m) = 10
number Fund = 10
number (Short p) = 11
number (NoEntry i) = 7
number (Differs k f) = 12
number (Ends i) = 13
number (GoesOn i) = 13
number (NotByRule i) = 14
number Memory = 255

abbrev pub part_place : Part → ℕ
part_place Entries = 0
part_place Accounts = 1
part_place Berths = 2
part_place Sheet = 3

abbrev pub field_place : Field → ℕ
field_place Pairs = 0
field_place Trades = 1
field_place BuyersPrice = 2
field_place SellersPrice = 3
field_place BuyersCount = 4
field_place BuyersRow = 5
field_place SellersCount = 6
field_place SellersRow = 7

abbrev pub place : Refusal → ℕ
place Closed = 0
place (Length n) = n
place NoMember = 0
place OldNumber = 2
place NoKind = 6
place NoSort = 7
place OutOfRange = 8
place Uncovered = 8
place Full = 8
place Unbacked = 8
place Kinds = 0
place Members = 1
place (Account m) = m
place Fund = 2000
place (Short p) = part_place p
place (NoEntry i) = i
place (Differs k f) = k * 8 + field_place f
place (Ends i) = i
place (GoesOn i) = i
place (NotByRule i) = i
place Memory = 0

-- how a refusal is printed
abbrev pub refusal_text : Refusal → List ℕ
refusal_text r = codes "refused " ++ decimal (number r) ++ codes " at " ++ decimal (place r)
