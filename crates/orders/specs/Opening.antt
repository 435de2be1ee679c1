-- An evening opens with 1 to 64 kinds, 1 to 2,000 members, accounts of at most 10^9 cents and a fund of at most 10^15 half
-- cents, in memory that is long enough for them. Then there is no entry, nothing is bid, and no message has been taken.
use Rattle.std.specs.Prelude.{ℕ, suc, cond, ◌&&◌, List, [], ◌∷◌, ◌++◌, take, drop, replicate, Some, None, Option, nat_le, nat_lt}
use Rattle.orders.specs.declared.refusal.Part.{Part}
use Rattle.orders.specs.declared.refusal.Refusal.{Refusal}
use Rattle.orders.specs.declared.refusal.Refusal.TheVariants.{Kinds, Members, Account, Fund, Short}
use Rattle.orders.specs.Lent.{Held, lacking}

-- the first member from m on whose account, in half cents, is more than an account may hold
abbrev pub first_over : ℕ → List ℕ → Option ℕ
first_over m [] = None
first_over m (a ∷ as') = cond (nat_lt 2000000000 a) (Some m) (first_over (suc m) as')

abbrev pub short_part : Option Part → Option Refusal
short_part None = None
short_part (Some p) = Some (Short p)

abbrev pub account_or : Option ℕ → Option Refusal → Option Refusal
account_or None r = r
account_or (Some m) r = Some (Account m)

-- why an evening may not have K kinds and M members
abbrev pub extent_refused : ℕ → ℕ → Option Refusal
extent_refused K M = cond (nat_le 1 K && nat_le K 64) (cond (nat_le 1 M && nat_le M 2000) None (Some Members)) (Some Kinds)

-- why an evening of K kinds and M members does not open
abbrev pub opening : ℕ → ℕ → ℕ → Held → Option Refusal
opening K M fund h =
    cond (nat_le 1 K && nat_le K 64)
    (cond (nat_le 1 M && nat_le M 2000)
    (account_or (first_over 0 (take M h.accounts))
    (cond (nat_le fund 1000000000000000) (short_part (lacking K M h)) (Some Fund)))
    (Some Members)) (Some Kinds)

-- the first n are zero, unless there was a refusal
abbrev pub emptied : Option Refusal → ℕ → List ℕ → List ℕ
emptied None n xs = replicate n 0 ++ drop n xs
emptied (Some e) n xs = xs
