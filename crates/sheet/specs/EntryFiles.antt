-- A file of entries: kinds (1 byte), members (2), and each kind's row, four bytes for each member. Where it ends before the
-- members, they are read as 0, which is out of range.
use Rattle.std.specs.Prelude.{◌≡◌, ℕ, zero, suc, ◌+◌, ◌*◌, ◌/◌, cond, ◌&&◌, ◌⊎◌, List, [], ◌∷◌, ◌++◌, length, drop, Some, None, Err, Option, Result, nat_le}
use Rattle.std.specs.List.{flat_map}
use Rattle.orders.specs.declared.refusal.Part.TheVariants.{Entries}
use Rattle.orders.specs.declared.refusal.Refusal.{Refusal}
use Rattle.orders.specs.declared.refusal.Refusal.TheVariants.{Kinds, Members, Short, GoesOn, Memory}
use Rattle.orders.specs.Inputs.{kinds_in, members_in}
use Rattle.orders.specs.Words.{word4}
use Rattle.sheet.specs.Verdicts.{check_answer}
use Rattle.sheet.specs.Words.{bytes2, bytes4}

-- the file of K kinds of M members and the codes of their entries
abbrev pub file_of : ℕ → ℕ → List ℕ → List ℕ
file_of K M codes = K ∷ (bytes2 M ++ flat_map bytes4 codes)

-- how long it is
abbrev pub file_length : ℕ → ℕ → ℕ
file_length K M = 3 + 4 * (K * M)

-- why a file is not taken, by the kinds and members that it says, and its length
abbrev pub refused_file : ℕ → ℕ → ℕ → Option Refusal
refused_file K M size =
    cond (nat_le 1 K && nat_le K 64)
    (cond (nat_le 1 M && nat_le M 2000)
    (cond (nat_le (file_length K M) size) (cond (nat_le size (file_length K M)) None (Some (GoesOn (file_length K M)))) (Some (Short Entries)))
    (Some Members))
    (Some Kinds)

abbrev pub file_refusal : List ℕ → Option Refusal
file_refusal bs = refused_file (kinds_in bs) (members_in bs) (length bs)

-- the first n codes in bytes
abbrev pub codes_in : List ℕ → ℕ → List ℕ
codes_in bs zero = []
codes_in bs (suc n) = codes_in bs n ++ word4 bs (4 * n) ∷ []

-- WHAT IS SAID of a file of entries and a sheet
abbrev pub unless_refused : Option Refusal → Result (Unit {0}) Refusal → Result (Unit {0}) Refusal
unless_refused None answer = answer
unless_refused (Some e) answer = Err e

abbrev pub file_answer : List ℕ → List ℕ → Result (Unit {0}) Refusal
file_answer bs sheet =
    unless_refused (file_refusal bs)
    (check_answer (kinds_in bs) (members_in bs) (codes_in (drop 3 bs) (length (drop 3 bs) / 4)) sheet)

-- or that there is no memory for the codes
abbrev pub UnlessMemory : Result (Unit {0}) Refusal → Result (Unit {0}) Refusal → Type 0
UnlessMemory answer r = (r ≡ answer) ⊎ (r ≡ Err Memory)
