-- What an order that a message is judged to be says of the message.
use Rattle.std.proofs.Common.{◌≡◌, ℕ, ◌+◌, ◌<◌, Bool, true, false, cond, eqb, ltb, leb, Ok, Err, Option, Result, unwrap_or, refl, ap, ◌∙◌, ⊎_elim, arith}
use Rattle.std.proofs.lemmas.Bool.{ltb-true, eqb-true}
use Rattle.orders.specs.Range.{in_range}
use Rattle.orders.specs.Entries.{encoded, entry_of}
use Rattle.orders.proofs.Codes.{either_cond, encode_decode}
use Rattle.orders.specs.declared.entry.Entry.{Entry}
use Rattle.orders.specs.declared.entry.Entry.TheVariants.{Nothing, Bid, Ask}
use Rattle.orders.specs.declared.message.Message.{Message}
use Rattle.orders.specs.declared.order.Order.{Order}
use Rattle.orders.specs.declared.refusal.Refusal.{Refusal}
use Rattle.orders.specs.declared.refusal.Refusal.TheVariants.{NoMember, OldNumber, NoKind, NoSort, OutOfRange, Uncovered, Full, Unbacked}
use Rattle.orders.specs.Taking.{Position, committed_with, asked, allowed, and_then, order_of, entering, ruling_at, ruling}

pub err_is_not_ok : {A : Type 0} (e : Refusal) (x : A) → ◌≡◌ {A = Result A Refusal} (Err e) (Ok x) → ⊥
err_is_not_ok e x h = let z : ◌≡◌ {A = ℕ} 0 1 = cc in omega arith

pub ok_cond : {A : Type 0} (t : Bool) (r : Result A Refusal) (e : Refusal) (x : A) → cond t r (Err e) ≡ Ok x → (t ≡ true) × (r ≡ Ok x)
ok_cond true r e x h = (refl, h)
ok_cond false r e x h = absurd (err_is_not_ok e x h)

pub ok_and_then : {A B : Type 0} (r : Result A Refusal) (f : A → Result B Refusal) (y : B) → and_then r f ≡ Ok y → (x : A) × (r ≡ Ok x) × (f x ≡ Ok y)
ok_and_then (Ok x) f y h = (x, refl, h)
ok_and_then (Err e) f y h = absurd (err_is_not_ok e y h)

-- what a sort and cents ask for
pub data Asks (sort cents : ℕ) (e : Entry) : Type 0 where
  for_nothing : sort ≡ 0 → cents ≡ 0 → e ≡ Nothing → Asks sort cents e
  for_bid : sort ≡ 1 → in_range cents ≡ true → e ≡ Bid (record { 0 = cents }) → Asks sort cents e
  for_ask : sort ≡ 2 → in_range cents ≡ true → e ≡ Ask (record { 0 = cents }) → Asks sort cents e

ok_same : {A : Type 0} (x y : A) → ◌≡◌ {A = Result A Refusal} (Ok x) (Ok y) → y ≡ x
ok_same x y h = cc

pub asks_for : (sort cents : ℕ) (e : Entry) → asked sort cents ≡ Ok e → Asks sort cents e
asks_for sort cents e h = ⊎_elim zeroth (λ p. ⊎_elim first (λ q. second q.1) (either_cond (eqb sort 1) bid ask (Ok e) p.1)) (either_cond (eqb sort 0) nothing bid_or_ask (Ok e) h)
  where
    nothing : Result Entry Refusal
    nothing = cond (eqb cents 0) (Ok Nothing) (Err OutOfRange)

    bid : Result Entry Refusal
    bid = cond (in_range cents) (Ok (Bid (record { 0 = cents }))) (Err OutOfRange)

    ask_entry : Result Entry Refusal
    ask_entry = cond (in_range cents) (Ok (Ask (record { 0 = cents }))) (Err OutOfRange)

    ask : Result Entry Refusal
    ask = cond (eqb sort 2) ask_entry (Err NoSort)

    bid_or_ask : Result Entry Refusal
    bid_or_ask = cond (eqb sort 1) bid ask

    zeroth : (eqb sort 0 ≡ true) × (nothing ≡ Ok e) → Asks sort cents e
    zeroth p = let q = ok_cond (eqb cents 0) (Ok Nothing) OutOfRange e p.1 in for_nothing (eqb-true sort 0 p.0) (eqb-true cents 0 q.0) (ok_same Nothing e q.1)

    first : (eqb sort 1 ≡ true) × (bid ≡ Ok e) → Asks sort cents e
    first p = let q = ok_cond (in_range cents) (Ok (Bid (record { 0 = cents }))) OutOfRange e p.1 in for_bid (eqb-true sort 1 p.0) q.0 (ok_same (Bid (record { 0 = cents })) e q.1)

    second : ask ≡ Ok e → Asks sort cents e
    second p =
        let q = ok_cond (eqb sort 2) ask_entry NoSort e p in
        let r = ok_cond (in_range cents) (Ok (Ask (record { 0 = cents }))) OutOfRange e q.1 in
        for_ask (eqb-true sort 2 q.0) r.0 (ok_same (Ask (record { 0 = cents })) e r.1)

-- an entry that is asked for is read again as it was written
pub coded : (sort cents : ℕ) (e : Entry) → Asks sort cents e → entry_of (unwrap_or (encoded e) 0) ≡ e
coded sort cents e (for_nothing s c p) = rw p
coded sort cents e (for_bid s c p) = rw (p, c) (ap (λ (o : Option Entry). unwrap_or o Nothing) (encode_decode (Bid (record { 0 = cents })) (16777216 + cents) (rw c)))
coded sort cents e (for_ask s c p) = rw (p, c) (ap (λ (o : Option Entry). unwrap_or o Nothing) (encode_decode (Ask (record { 0 = cents })) (33554432 + cents) (rw c)))

-- what is allowed is what is bid with the entry
allowed_sum : (p : Position) (k : ℕ) (e : Entry) (c : ℕ) → allowed p k e ≡ Ok c → c ≡ committed_with p k e
allowed_sum p k Nothing c h = cc
allowed_sum p k (Bid b) c h =
    let x = committed_with p k (Bid b) in
    let d = ok_cond (leb x p.account) (cond (ltb (p.berths k) 255) (Ok x) (Err Full)) Uncovered c h in
    let f = ok_cond (ltb (p.berths k) 255) (Ok x) Full c d.1 in
    let q = f.1 in
    cc
allowed_sum p k (Ask b) c h =
    let d = ok_cond (ltb 0 (p.berths k)) (Ok (committed_with p k (Ask b))) Unbacked c h in
    let q = d.1 in
    cc

-- an order stands behind each test of the rule
pub record Ordered (K M : ℕ) (P : ℕ → Position) (m : Message) (o : Order) : Type 0 where
  pub member : m.member < M
  pub newer : (P m.member).last < m.number
  pub kind : m.kind < K
  pub entry : Entry
  pub asks : asked m.sort m.cents ≡ Ok entry
  pub allows : allowed (P m.member) m.kind entry ≡ Ok (committed_with (P m.member) m.kind entry)
  pub same : o ≡ order_of (P m.member) m entry (committed_with (P m.member) m.kind entry)

pub ordered : (K M : ℕ) (P : ℕ → Position) (m : Message) (o : Order) → ruling K M P m ≡ Ok o → Ordered K M P m o
ordered K M P m o h =
    let p = P m.member in
    let a = ok_cond (ltb m.member M) (ruling_at K p m) NoMember o h in
    let b = ok_cond (ltb p.last m.number) (cond (ltb m.kind K) (entering p m) (Err NoKind)) OldNumber o a.1 in
    let d = ok_cond (ltb m.kind K) (entering p m) NoKind o b.1 in
    let e = ok_and_then (asked m.sort m.cents) (λ e. and_then (allowed p m.kind e) (λ c. Ok (order_of p m e c))) o d.1 in
    let g = ok_and_then (allowed p m.kind e.0) (λ c. Ok (order_of p m e.0 c)) o e.2 in
    let is : g.0 ≡ committed_with p m.kind e.0 = allowed_sum p m.kind e.0 g.0 g.1 in
    let last = g.2 in
    record {
      member = ltb-true m.member M a.0;
      newer = ltb-true p.last m.number b.0;
      kind = ltb-true m.kind K d.0;
      entry = e.0;
      asks = e.1;
      allows = g.1 ∙ ap (λ (x : ℕ). Ok x) is;
      same = cc;
    }

pub order_within : (K M : ℕ) (P : ℕ → Position) (m : Message) (o : Order) → ruling K M P m ≡ Ok o → (o.member.0 < M) × (o.kind.0 < K)
order_within K M P m o h =
    let r = ordered K M P m o h in (
      omega (arith, r.member, ap (λ (q : Order). q.member.0) r.same),
      omega (arith, r.kind, ap (λ (q : Order). q.kind.0) r.same),
    )
