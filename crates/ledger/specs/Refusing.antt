-- When an evening is not closed: lent memory is too short. The entries and what is kept beside them, the accounts and the
-- berths are looked at in this order, and last the sheet, for which as many bytes must be there as it could take, with the
-- lists of buyers and sellers, of which there may be as many as members.
use Rattle.std.specs.Prelude.{◌≡◌, ℕ, ◌+◌, ◌*◌, Bool, cond, ◌||◌, Some, None, Ok, Err, Option, Result, nat_lt}
use Rattle.orders.specs.declared.refusal.Part.{Part}
use Rattle.orders.specs.declared.refusal.Part.TheVariants.{Entries, Sheet}
use Rattle.orders.specs.declared.refusal.Refusal.{Refusal}
use Rattle.orders.specs.declared.refusal.Refusal.TheVariants.{Short}
use Rattle.orders.specs.Lent.{Held, lacking}
use Rattle.orders.specs.Opening.{opening}

-- of so many bytes and places in the lists
abbrev pub no_room : ℕ → ℕ → ℕ → ℕ → ℕ → Bool
no_room K M sheet buyers sellers = nat_lt sheet (K * (16 + 6 * M)) || (nat_lt buyers M || nat_lt sellers M)

abbrev pub short_or : Option Part → Bool → Option Refusal
short_or (Some p) t = Some (Short p)
short_or None t = cond t (Some (Short Sheet)) None

abbrev pub closing : ℕ → ℕ → Held → ℕ → ℕ → ℕ → Option Refusal
closing K M h sheet buyers sellers = short_or (lacking K M h) (no_room K M sheet buyers sellers)

-- why a whole evening is not held; a copy of the entries is lent too, and is looked at before the sheet
abbrev pub or_no_room : Option Refusal → Bool → Bool → Option Refusal
or_no_room (Some e) copy room = Some e
or_no_room None copy room = cond copy (Some (Short Entries)) (cond room (Some (Short Sheet)) None)

abbrev pub holding : ℕ → ℕ → ℕ → Held → ℕ → ℕ → ℕ → ℕ → Option Refusal
holding K M fund h copy sheet buyers sellers = or_no_room (opening K M fund h) (nat_lt copy (K * M)) (no_room K M sheet buyers sellers)

-- a refusal that hands something back
abbrev pub refused_with : {A B : Type 0} → Result A (B × Refusal) → Option Refusal
refused_with (Ok x) = None
refused_with (Err e) = Some e.1

abbrev pub HandedBack : {A B : Type 0} → Result A (B × Refusal) → B → Type 0
HandedBack (Ok x) b = Unit {0}
HandedBack (Err e) b = e.0 ≡ b

-- what was as it is, if it was refused
abbrev pub UnlessRefused : {A : Type 0} → Option Refusal → A → A → Type 0
UnlessRefused (Some e) before after = after ≡ before
UnlessRefused None before after = Unit {0}
