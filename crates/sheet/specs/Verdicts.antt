-- What a checker says of a sheet. It goes through the fields of the entries' own sheet, byte by byte, beside the bytes that it
-- was given: at the first that differs it names the field, where the given bytes end before that it says so, and so it does
-- where they go on after the last field. Kinds, members and entries have to be in range.
use Rattle.std.specs.Prelude.{ℕ, zero, suc, ◌*◌, cond, ◌&&◌, List, [], ◌∷◌, length, take, drop, is_some, Some, None, Ok, Err, Option, Result, ◌==◌, nat_le}
use Rattle.orders.specs.declared.refusal.Part.TheVariants.{Entries}
use Rattle.orders.specs.declared.refusal.Refusal.{Refusal}
use Rattle.orders.specs.declared.refusal.Refusal.TheVariants.{Kinds, Members, Short, NoEntry, Differs, Ends, GoesOn}
use Rattle.orders.specs.Entries.{decoded, kind_row}
use Rattle.sheet.specs.Sheets.{Printed, row_fields}

-- an answer is the place up to which all is as it should be, or a refusal
abbrev pub and_then : Result ℕ Refusal → (ℕ → Result ℕ Refusal) → Result ℕ Refusal
and_then (Ok at) next = next at
and_then (Err why) next = Err why

-- the bytes that should be there, beside those that are there from a place on
unfoldable pub compared : Refusal → List ℕ → List ℕ → ℕ → Result ℕ Refusal
compared why [] there at = Ok at
compared why (b ∷ bytes) [] at = Err (Ends at)
compared why (b ∷ bytes) (x ∷ there) at = cond (x == b) (compared why bytes there (suc at)) (Err why)

abbrev pub step : List ℕ → Refusal → List ℕ → ℕ → Result ℕ Refusal
step sheet why bytes at = compared why bytes (drop at sheet) at

-- through the fields of kind k
abbrev pub through : List ℕ → ℕ → List Printed → ℕ → Result ℕ Refusal
through sheet k [] at = Ok at
through sheet k (f ∷ fields) at = and_then (step sheet (Differs k f.field) f.bytes at) (through sheet k fields)

-- through n kinds from kind k on
unfoldable pub through_kinds : ℕ → List ℕ → List ℕ → ℕ → ℕ → ℕ → Result ℕ Refusal
through_kinds M codes sheet zero k at = Ok at
through_kinds M codes sheet (suc n) k at =
    and_then (through sheet k (row_fields (kind_row M codes k)) at) (through_kinds M codes sheet n (suc k))

-- nothing may follow the last field
abbrev pub ended : List ℕ → Result ℕ Refusal → Result (Unit {0}) Refusal
ended sheet (Ok at) = cond (at == length sheet) (Ok tt) (Err (GoesOn at))
ended sheet (Err why) = Err why

abbrev pub verdict : ℕ → ℕ → List ℕ → List ℕ → Result (Unit {0}) Refusal
verdict K M codes sheet = ended sheet (through_kinds M codes sheet K 0 0)

-- the first number among the entries, from place i on, that stands for no entry
unfoldable pub first_unknown : ℕ → List ℕ → Option ℕ
first_unknown i [] = None
first_unknown i (n ∷ codes) = cond (is_some (decoded n)) (first_unknown (suc i) codes) (Some i)

abbrev pub unless_unknown : Option ℕ → Result (Unit {0}) Refusal → Result (Unit {0}) Refusal
unless_unknown None answer = answer
unless_unknown (Some i) answer = Err (NoEntry i)

-- THE ANSWER to K kinds of M members, the codes of their entries, and a sheet
abbrev pub check_answer : ℕ → ℕ → List ℕ → List ℕ → Result (Unit {0}) Refusal
check_answer K M codes sheet =
    cond (nat_le 1 K && nat_le K 64)
    (cond (nat_le 1 M && nat_le M 2000)
    (cond (nat_le (K * M) (length codes)) (unless_unknown (first_unknown 0 (take (K * M) codes)) (verdict K M codes sheet)) (Err (Short Entries)))
    (Err Members))
    (Err Kinds)
