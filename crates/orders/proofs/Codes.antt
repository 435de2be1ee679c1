-- An entry is read again as it was written.
use Rattle.std.proofs.Common.{◌≡◌, ℕ, ◌+◌, Bool, true, false, cond, ◌⊎◌, Some, None, sym, refl, inl, inr, arith}
use Rattle.std.proofs.lemmas.Bool.Decides.{nat_tests}
use Rattle.orders.specs.declared.entry.Entry.{Entry}
use Rattle.orders.specs.declared.entry.Entry.TheVariants.{Nothing, Bid, Ask}
use Rattle.orders.specs.declared.money.Cents.{Cents}
use Rattle.orders.specs.Entries.{encoded, decoded}
use Rattle.orders.specs.Range.{in_range}

decoded_bid : (c : Cents) → in_range c.0 ≡ true → decoded (16777216 + c.0) ≡ Some (Bid c)
decoded_bid c h = grind (arith, nat_tests)

decoded_ask : (c : Cents) → in_range c.0 ≡ true → decoded (33554432 + c.0) ≡ Some (Ask c)
decoded_ask c h = grind (arith, nat_tests)

pub some_cond : {A : Type 0} (t : Bool) (x y : A) → cond t (Some x) None ≡ Some y → (t ≡ true) × (x ≡ y)
some_cond true x y h = (refl, cc)
some_cond false x y h = let z : ◌≡◌ {A = ℕ} 0 1 = cc in absurd (omega arith)

pub encode_decode : (e : Entry) (n : ℕ) → encoded e ≡ Some n → decoded n ≡ Some e
encode_decode Nothing n h = let z : n ≡ 0 = cc in rw z
encode_decode (Bid c) n h = let p = some_cond (in_range c.0) (16777216 + c.0) n h in rw (sym p.1) (decoded_bid c p.0)
encode_decode (Ask c) n h = let p = some_cond (in_range c.0) (33554432 + c.0) n h in rw (sym p.1) (decoded_ask c p.0)

-- either way of a test
pub either_cond : {A : Type 0} (t : Bool) (x y z : A) → cond t x y ≡ z → ((t ≡ true) × (x ≡ z)) ⊎ ((t ≡ false) × (y ≡ z))
either_cond true x y z h = inl (refl, h)
either_cond false x y z h = inr (refl, h)
