-- What is promised of sheets: the statements, and nothing else.
use Rattle.std.specs.Prelude.{◌≡◌, ℕ, zero, suc, ◌+◌, ◌*◌, ◌/◌, ◌<◌, ◌≤◌, true, false, ◌⊎◌, List, ◌∷◌, ◌++◌, length, take, drop, is_some, None, Ok, Err, Result, slice_index}
use Rattle.std.specs.List.{AllByRecursion, slice_get}
use Rattle.orders.specs.declared.refusal.Field.{Field}
use Rattle.orders.specs.declared.refusal.Part.TheVariants.{Entries}
use Rattle.orders.specs.declared.refusal.Refusal.{Refusal}
use Rattle.orders.specs.declared.refusal.Refusal.TheVariants.{Closed, Length, NoMember, OldNumber, NoKind, NoSort, OutOfRange, Uncovered, Full, Unbacked, Kinds, Members, Account, Fund, Short, NoEntry, Differs, Ends, GoesOn, NotByRule, Memory}
use Rattle.orders.specs.Entries.{decoded, kind_row}
use Rattle.orders.specs.Inputs.{kinds_in, members_in}
use Rattle.orders.specs.Refusals.{field_place}
use Rattle.orders.specs.Words.{word2, word4}
use Rattle.ranking.specs.declared.ranked.Side.{Side}
use Rattle.ranking.specs.declared.ranked.Side.TheVariants.{Buyers, Sellers}
use Rattle.ranking.specs.declared.ranked.Ranked.{Ranked}
use Rattle.ranking.specs.Ranks.{own}
use Rattle.clearing.specs.declared.outcome.Outcome.{Outcome}
use Rattle.clearing.specs.Rule.{cents_of, pairs, cleared, trades_in, buyers_pay, sellers_get}
use Rattle.clearing.specs.Kind.{pairs_in, outcome}
use Rattle.sheet.specs.EntryFiles.{file_of, file_refusal, codes_in}
use Rattle.sheet.specs.Sheets.{row_bytes, printed, row_fields, kind_sheet, first_ranks, sheet_of}
use Rattle.sheet.specs.Writing.{fits, writable}
use Rattle.sheet.specs.Sections.{has_kind, buyers_in, sellers_in, past_kind, listed}

-- 1. SIZE. A sheet has at most 16 bytes for each kind, and six for each kind and member; a kind can be written wherever there
-- is room for so many.
abbrev pub Size : Type 0
Size = (K M : ℕ) (codes : List ℕ) → length (sheet_of K M codes) ≤ K * (16 + 6 * M)

abbrev pub AlwaysWritable : Type 0
AlwaysWritable =
    (M : ℕ) (codes : List ℕ) (k size at : ℕ) → M ≤ 2000 → at + (16 + 6 * M) ≤ size →
    writable size at (pairs_in own (kind_row M codes k)) (outcome own (kind_row M codes k))
    (length (first_ranks Buyers (kind_row M codes k))) (length (first_ranks Sellers (kind_row M codes k))) ≡ true

-- 2. WHAT WAS WRITTEN OF A KIND IS READ AGAIN, whatever comes after it, and that is left.
pub record ReadBack (p : ℕ) (o : Outcome) (buyers sellers : List Ranked) (rest bs : List ℕ) : Type 0 where
  pub there : has_kind bs ≡ true
  pub pairs : word2 bs 0 ≡ p
  pub trades : word2 bs 2 ≡ trades_in o
  pub pay : word4 bs 4 ≡ buyers_pay o
  pub get : word4 bs 8 ≡ sellers_get o
  pub buying : buyers_in bs ≡ row_bytes buyers
  pub selling : sellers_in bs ≡ row_bytes sellers
  pub after : past_kind bs ≡ rest

abbrev pub KindReadAgain : Type 0
KindReadAgain =
    (p : ℕ) (o : Outcome) (buyers sellers : List Ranked) (rest : List ℕ) → fits p o (length buyers) (length sellers) ≡ true →
    ReadBack p o buyers sellers rest (kind_sheet p o buyers sellers ++ rest)

-- And its members, rank by rank. A member's number and its cents have to fit two and four bytes.
abbrev pub Listable : Ranked → Type 0
Listable x = (x.member < 65536) × (x.cents.0 < 4294967296)

abbrev pub RowReadAgain : Type 0
RowReadAgain = (xs : List Ranked) (rank : ℕ) → AllByRecursion Listable xs → listed (row_bytes xs) rank ≡ slice_get xs rank

-- Those that are listed of a kind's entries do.
abbrev pub FirstListable : Type 0
FirstListable =
    (s : Side) (M : ℕ) (codes : List ℕ) (k : ℕ) → M ≤ 2000 → AllByRecursion Listable (first_ranks s (kind_row M codes k))

-- 3. WHAT IS ACCEPTED. Kinds, members and entries that are in range:
pub record Proper (K M : ℕ) (codes : List ℕ) : Type 0 where
  pub kinds_least : 1 ≤ K
  pub kinds_most : K ≤ 64
  pub members_least : 1 ≤ M
  pub members_most : M ≤ 2000
  pub there : K * M ≤ length codes
  pub known : (i : ℕ) → i < K * M → is_some (decoded (slice_index codes i)) ≡ true

-- a sheet is accepted if and only if the entries are in range and it is their sheet.
pub record AcceptsExactly (K M : ℕ) (codes sheet : List ℕ) (r : Result (Unit {0}) Refusal) : Type 0 where
  pub sound : r ≡ Ok tt → Proper K M codes × (sheet ≡ sheet_of K M codes)
  pub complete : Proper K M codes → sheet ≡ sheet_of K M codes → r ≡ Ok tt

-- 4. WHAT IS NAMED. Bytes that begin as they should, and then have another byte:
pub record TurnsOff (should there : List ℕ) : Type 0 where
  pub same : List ℕ
  pub byte : ℕ
  pub other : ℕ
  pub missed : List ℕ
  pub after : List ℕ
  pub should_be : should ≡ same ++ byte ∷ missed
  pub is : there ≡ same ++ other ∷ after
  pub differ : other ≡ byte → ⊥

-- and bytes that begin as others do, which go on.
pub record GoesFurther (part whole : List ℕ) : Type 0 where
  pub byte : ℕ
  pub after : List ℕ
  pub is : whole ≡ part ++ byte ∷ after

-- the bytes of a field of kind k, and all bytes before them
abbrev pub field_bytes : ℕ → List ℕ → ℕ → Field → List ℕ
field_bytes M codes k f = printed (take 1 (drop (field_place f) (row_fields (kind_row M codes k))))

abbrev pub before_field : ℕ → List ℕ → ℕ → Field → List ℕ
before_field M codes k f = sheet_of k M codes ++ printed (take (field_place f) (row_fields (kind_row M codes k)))

-- all before the field is as it should be, and in the field a byte is not
pub record WrongField (K M : ℕ) (codes sheet : List ℕ) (k : ℕ) (f : Field) : Type 0 where
  pub within : k < K
  pub there : List ℕ
  pub begins : sheet ≡ before_field M codes k f ++ there
  pub turns : TurnsOff (field_bytes M codes k f) there

-- what a refusal of the checker means
abbrev pub NamedRight : ℕ → ℕ → List ℕ → List ℕ → Result (Unit {0}) Refusal → Type 0
NamedRight K M codes sheet (Ok u) = Unit {0}
NamedRight K M codes sheet (Err Kinds) = (K < 1) ⊎ (64 < K)
NamedRight K M codes sheet (Err Members) = (M < 1) ⊎ (2000 < M)
NamedRight K M codes sheet (Err (Short p)) = (p ≡ Entries) × (length codes < K * M)
NamedRight K M codes sheet (Err (NoEntry i)) =
    (i < K * M) × (is_some (decoded (slice_index codes i)) ≡ false) × ((j : ℕ) → j < i → is_some (decoded (slice_index codes j)) ≡ true)
NamedRight K M codes sheet (Err (Differs k f)) = WrongField K M codes sheet k f
NamedRight K M codes sheet (Err (Ends n)) = (n ≡ length sheet) × GoesFurther sheet (sheet_of K M codes)
NamedRight K M codes sheet (Err (GoesOn n)) = (n ≡ length (sheet_of K M codes)) × GoesFurther (sheet_of K M codes) sheet
NamedRight K M codes sheet (Err Closed) = ⊥
NamedRight K M codes sheet (Err (Length n)) = ⊥
NamedRight K M codes sheet (Err NoMember) = ⊥
NamedRight K M codes sheet (Err OldNumber) = ⊥
NamedRight K M codes sheet (Err NoKind) = ⊥
NamedRight K M codes sheet (Err NoSort) = ⊥
NamedRight K M codes sheet (Err OutOfRange) = ⊥
NamedRight K M codes sheet (Err Uncovered) = ⊥
NamedRight K M codes sheet (Err Full) = ⊥
NamedRight K M codes sheet (Err Unbacked) = ⊥
NamedRight K M codes sheet (Err (Account m)) = ⊥
NamedRight K M codes sheet (Err Fund) = ⊥
NamedRight K M codes sheet (Err (NotByRule i)) = ⊥
NamedRight K M codes sheet (Err Memory) = ⊥

-- 5. THE RULE FROM THE SHEET ALONE. Whoever has an accepted sheet reads from it, kind by kind, the pairs, the trades, the prices
-- and the first ranks that the rule gives, and may apply the rule to those ranks again.
abbrev pub from_kind : ℕ → List ℕ → List ℕ
from_kind zero sheet = sheet
from_kind (suc k) sheet = past_kind (from_kind k sheet)

pub record Tells (M : ℕ) (codes : List ℕ) (k : ℕ) (bs : List ℕ) : Type 0 where
  pub reads : ReadBack (pairs_in own (kind_row M codes k)) (outcome own (kind_row M codes k)) (first_ranks Buyers (kind_row M codes k))
      (first_ranks Sellers (kind_row M codes k)) (past_kind bs) bs
  pub pairs_again : pairs (cents_of (first_ranks Buyers (kind_row M codes k))) (cents_of (first_ranks Sellers (kind_row M codes k)))
      ≡ pairs_in own (kind_row M codes k)
  pub outcome_again : cleared (cents_of (first_ranks Buyers (kind_row M codes k))) (cents_of (first_ranks Sellers (kind_row M codes k)))
      ≡ outcome own (kind_row M codes k)

abbrev pub TellsRule : ℕ → ℕ → List ℕ → List ℕ → Result (Unit {0}) Refusal → Type 0
TellsRule K M codes sheet r = r ≡ Ok tt → (k : ℕ) → k < K → Tells M codes k (from_kind k sheet)

-- 6. A FILE OF ENTRIES IS READ AGAIN as it was written.
pub record FileBack (K M : ℕ) (codes bs : List ℕ) : Type 0 where
  pub taken : file_refusal bs ≡ None
  pub kinds : kinds_in bs ≡ K
  pub members : members_in bs ≡ M
  pub entries : codes_in (drop 3 bs) (length (drop 3 bs) / 4) ≡ codes

abbrev pub FileReadAgain : Type 0
FileReadAgain =
    (K M : ℕ) (codes : List ℕ) → Proper K M codes → length codes ≡ K * M → AllByRecursion (λ n. n < 4294967296) codes →
    FileBack K M codes (file_of K M codes)
