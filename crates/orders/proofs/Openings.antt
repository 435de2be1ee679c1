-- When an evening opens, its memory is long enough, and with no entry in it every position is sound.
use Rattle.std.proofs.Common.{◌≡◌, ℕ, zero, suc, ◌+◌, ◌*◌, ◌<◌, ◌≤◌, Bool, true, false, cond, ◌&&◌, ltb, leb, List, [], ◌∷◌, ◌++◌, length, get_or, take, drop, replicate, Some, None, Option, sym, refl, ap, ◌∙◌, subst, arith}
use Rattle.std.proofs.lemmas.Nat.{mul-add-lt}
use Rattle.std.proofs.lemmas.List.{get_or_append_left, get_or-replicate, length-replicate, length-append, length-drop, length-take, get_or-take}
use Rattle.std.proofs.lemmas.Bool.{leb-true, ltb-false, le-ltb, and_parts}
use Rattle.orders.specs.declared.entry.Entry.{Entry}
use Rattle.orders.specs.declared.entry.Entry.TheVariants.{Nothing}
use Rattle.orders.specs.declared.refusal.Part.{Part}
use Rattle.orders.specs.declared.refusal.Refusal.{Refusal}
use Rattle.orders.specs.declared.refusal.Refusal.TheVariants.{Kinds, Members, Account, Fund, Short}
use Rattle.orders.specs.Entries.{bid_in, entry_of}
use Rattle.orders.specs.Lent.{Held, Fits, lacking, position}
use Rattle.orders.specs.Members.{bids, Backed}
use Rattle.orders.specs.Opening.{first_over, short_part, account_or, opening}
use Rattle.orders.specs.Statements.{AllSound}
use Rattle.orders.proofs.Positions.{fits_from}

some_is_not_none : {A : Type 0} (x : A) → ◌≡◌ {A = Option A} (Some x) None → ⊥
some_is_not_none x h = let z : ◌≡◌ {A = ℕ} 0 1 = cc in omega arith

none_else : {A : Type 0} (t : Bool) (r : Option A) (x : A) → cond t r (Some x) ≡ None → (t ≡ true) × (r ≡ None)
none_else true r x h = (refl, h)
none_else false r x h = absurd (some_is_not_none x h)

none_account : (o : Option ℕ) (r : Option Refusal) → account_or o r ≡ None → (o ≡ None) × (r ≡ None)
none_account None r h = (refl, h)
none_account (Some m) r h = absurd (some_is_not_none (Account m) h)

none_short : (o : Option Part) → short_part o ≡ None → o ≡ None
none_short None h = refl
none_short (Some p) h = absurd (some_is_not_none (Short p) h)

none_over : (m : ℕ) (as' : List ℕ) → first_over m as' ≡ None → (i : ℕ) → i < length as' → get_or as' i 0 ≤ 2000000000
none_over m [] h i l = absurd (omega arith)
none_over m (a ∷ as') h i l = go (ltb 2000000000 a) i refl h l (none_over (suc m) as')
  where
    go : (t : Bool) (i : ℕ) → ltb 2000000000 a ≡ t → cond t (Some m) (first_over (suc m) as') ≡ None → i < length (a ∷ as') →
        (first_over (suc m) as' ≡ None → (i : ℕ) → i < length as' → get_or as' i 0 ≤ 2000000000) → get_or (a ∷ as') i 0 ≤ 2000000000
    go true i e f k rest = absurd (some_is_not_none m f)
    go false zero e f k rest = ltb-false 2000000000 a e
    go false (suc i) e f k rest = rest f i (omega arith)

-- what there is where nothing keeps an evening from opening
pub record Opens (K M fund : ℕ) (h : Held) : Type 0 where
  pub some_kinds : 1 ≤ K
  pub few_kinds : K ≤ 64
  pub some_members : 1 ≤ M
  pub few_members : M ≤ 2000
  pub low_accounts : (i : ℕ) → i < M → get_or h.accounts i 0 ≤ 2000000000
  pub low_fund : fund ≤ 1000000000000000
  pub fits : Fits K M h

pub opens : (K M fund : ℕ) (h : Held) → None ≡ opening K M fund h → Opens K M fund h
opens K M fund h e =
    let last = cond (leb fund 1000000000000000) (short_part (lacking K M h)) (Some Fund) in
    let accounts = account_or (first_over 0 (take M h.accounts)) last in
    let a = none_else (leb 1 K && leb K 64) (cond (leb 1 M && leb M 2000) accounts (Some Members)) Kinds (sym e) in
    let b = none_else (leb 1 M && leb M 2000) accounts Members a.1 in
    let c = none_account (first_over 0 (take M h.accounts)) last b.1 in
    let d = none_else (leb fund 1000000000000000) (short_part (lacking K M h)) Fund c.1 in
    let fits = fits_from K M h (none_short (lacking K M h) d.1) in
    record {
      some_kinds = leb-true 1 K (and_parts (leb 1 K) (leb K 64) a.0).0;
      few_kinds = leb-true K 64 (and_parts (leb 1 K) (leb K 64) a.0).1;
      some_members = leb-true 1 M (and_parts (leb 1 M) (leb M 2000) b.0).0;
      few_members = leb-true M 2000 (and_parts (leb 1 M) (leb M 2000) b.0).1;
      low_accounts = λ i l.
          omega (
            arith,
            get_or-take M h.accounts i 0 l,
            none_over 0 (take M h.accounts) c.0 i (simp length-take (omega (arith, fits.accounts))),
          );
      low_fund = leb-true fund 1000000000000000 d.0;
      fits = fits;
    }

pub opening_fits : (K M fund : ℕ) (h : Held) → None ≡ opening K M fund h → Fits K M h
opening_fits K M fund h e = (opens K M fund h e).fits

-- memory that is long enough lacks nothing
pub lacks_nothing : (K M : ℕ) (h : Held) → Fits K M h → lacking K M h ≡ None
lacks_nothing K M h f =
    rw (
      le-ltb (length h.entries) (K * M) f.entries,
      le-ltb (length h.numbers) M f.numbers,
      le-ltb (length h.committed) M f.committed,
      le-ltb (length h.accounts) M f.accounts,
      le-ltb (length h.berths) (K * M) f.berths,
    )

pub length_emptied : (n : ℕ) (xs : List ℕ) → n ≤ length xs → length (replicate n 0 ++ drop n xs) ≡ length xs
length_emptied n xs h = simp (length-append, length-replicate, length-drop) (omega arith)

bids_none : (f : ℕ → Entry) (n : ℕ) → ((k : ℕ) → k < n → f k ≡ Nothing) → bids f n ≡ 0
bids_none f zero h = refl
bids_none f (suc n) h = omega (arith, bids_none f n (λ k l. h k (omega arith)), ap bid_in (h n (omega arith)))

pub get_or_emptied : (n i : ℕ) (xs : List ℕ) → i < n → get_or (replicate n 0 ++ drop n xs) i 0 ≡ 0
get_or_emptied n i xs l =
    get_or_append_left (replicate n 0) (drop n xs) 0 i (simp length-replicate l) ∙ get_or-replicate n i 0 0 l

pub opened_sound : (K M : ℕ) (h : Held) (xs ys : List ℕ) → h.entries ≡ replicate (K * M) 0 ++ drop (K * M) xs → h.committed ≡ replicate M 0 ++ drop M ys → AllSound K M h
opened_sound K M h xs ys e c i l =
    record {
      kept = omega (arith, bids_none (position K M h i).entry K nothing, ap (λ (z : List ℕ). get_or z i 0) c ∙ get_or_emptied M i ys l);
      covered = omega (arith, bids_none (position K M h i).entry K nothing);
      backed = λ k q. subst (λ (x : Entry). Backed x ((position K M h i).berths k)) (sym (nothing k q)) tt;
    }
  where
    nothing : (k : ℕ) → k < K → (position K M h i).entry k ≡ Nothing
    nothing k q =
        let slot : k * M + i < K * M = omega (arith, mul-add-lt k M i K q l) in
        ap entry_of (ap (λ (z : List ℕ). get_or z (k * M + i) 0) e ∙ get_or_emptied (K * M) (k * M + i) xs slot)
