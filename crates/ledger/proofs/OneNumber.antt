-- Two evenings that differ in the cents of one message: if its member gets the same answers, then at closing its entries
-- differ in that kind's cents at most.
use Rattle.std.proofs.Common.{◌≡◌, ℕ, ◌<◌, Bool, true, false, cond, ◌&&◌, eqb, List, [], ◌∷◌, ◌++◌, length, get_or, Ok, Err, Result, sym, refl, ap, ◌∙◌, subst, ap₂, ⊎_elim, arith}
use mathlib.Core.Bool.{and-false}
use Rattle.std.proofs.lemmas.List.{get_or-take}
use Rattle.std.proofs.lemmas.Bool.{cases_eq, eq-eqb, ne_eqb, and_from, cond-true, cond-false}
use Rattle.orders.specs.declared.entry.Entry.{Entry}
use Rattle.orders.specs.declared.order.Order.{Order}
use Rattle.orders.specs.declared.refusal.Refusal.{Refusal}
use Rattle.orders.specs.Lent.{Held, position, judged, answer, held_after}
use Rattle.orders.specs.Messages.{fields}
use Rattle.orders.specs.Taking.{Position, asked}
use Rattle.orders.specs.Members.{is_of, own, own_answers, with_entry, moved}
use Rattle.orders.specs.Running.{run, answers_to}
use Rattle.orders.specs.Words.{byte_at, word2}
use Rattle.orders.proofs.Positions.{judged_ok, other_stays, own_moves}
use Rattle.orders.proofs.Rulings.{err_is_not_ok, Asks, for_nothing, for_bid, for_ask, asks_for}
use Rattle.orders.proofs.Sums.{with_entry_at, with_entry_off}
use Rattle.ledger.specs.Worth.{sort_of}
use Rattle.ledger.specs.Statements.{ButItsCents}

-- entries that differ in kind k's cents at most
pub record Alike (k : ℕ) (f g : ℕ → Entry) : Type 0 where
  pub elsewhere : (j : ℕ) → (j ≡ k → ⊥) → g j ≡ f j
  pub sort : sort_of (f k) ≡ sort_of (g k)

alike_with : (k l : ℕ) (f g : ℕ → Entry) (e d : Entry) → Alike k f g → ((l ≡ k → ⊥) → d ≡ e) → sort_of e ≡ sort_of d →
    Alike k (with_entry f l e) (with_entry g l d)
alike_with k l f g e d a same sort =
    record {
      elsewhere = λ j n.
          ⊎_elim
          (λ h. with_entry_at g l d j h ∙ same (λ z. n (h ∙ z)) ∙ sym (with_entry_at f l e j h))
          (λ h. with_entry_off g l d j h ∙ a.elsewhere j n ∙ sym (with_entry_off f l e j h))
          (cases_eq j l);
      sort =
          ⊎_elim
          (λ h. ap sort_of (with_entry_at f l e k h) ∙ sort ∙ sym (ap sort_of (with_entry_at g l d k h)))
          (λ h. ap sort_of (with_entry_off f l e k h) ∙ a.sort ∙ sym (ap sort_of (with_entry_off g l d k h)))
          (cases_eq k l);
    }

sort_asked : (sort cents : ℕ) (e : Entry) → Asks sort cents e → sort_of e ≡ sort
sort_asked sort cents e (for_nothing s c p) = ap sort_of p ∙ sym s
sort_asked sort cents e (for_bid s c p) = ap sort_of p ∙ sym s
sort_asked sort cents e (for_ask s c p) = ap sort_of p ∙ sym s

ok_same : {A : Type 0} (x y : A) → ◌≡◌ {A = Result A Refusal} (Ok x) (Ok y) → x ≡ y
ok_same x y h = cc

module _ (K M i k : ℕ) (l : i < M) where
  abbrev Both : Held → Held → Type 0
  Both h g = Alike k (position K M h i).entry (position K M g i).entry

  -- member i's next message, m in the one evening and n in the other
  both_own : (h g : Held) (m n : List ℕ) → is_of i m ≡ true → is_of i n ≡ true → (fields n).kind ≡ (fields m).kind →
      (fields n).sort ≡ (fields m).sort → (((fields m).kind ≡ k → ⊥) → (fields n).cents ≡ (fields m).cents) →
      answer (judged K M g n) ≡ answer (judged K M h m) → Both h g → Both (held_after K M h m) (held_after K M g n)
  both_own h g m n im in' ek es ec same a =
      subst (λ (p : Position). Alike k p.entry (position K M (held_after K M g n) i).entry) (sym (own_moves K M h m i l im))
      (subst (λ (p : Position). Alike k (moved (position K M h i) (judged K M h m)).entry p.entry) (sym (own_moves K M g n i l in'))
      (go (judged K M h m) (judged K M g n) refl refl same))
    where
      go : (r q : Result Order Refusal) → judged K M h m ≡ r → judged K M g n ≡ q → answer q ≡ answer r →
          Alike k (moved (position K M h i) r).entry (moved (position K M g i) q).entry
      go (Err e) (Err d) jr jq s = a
      go (Err e) (Ok d) jr jq s = absurd (err_is_not_ok e tt (sym s))
      go (Ok o) (Err d) jr jq s = absurd (err_is_not_ok d tt s)
      go (Ok o) (Ok d) jr jq s =
          let b = judged_ok K M h m o jr in
          let c = judged_ok K M g n d jq in
          let ko : o.kind.0 ≡ (fields m).kind = ap (λ (x : Order). x.kind.0) b.rule.same in
          let kd : d.kind.0 ≡ (fields m).kind = ap (λ (x : Order). x.kind.0) c.rule.same ∙ ek in
          let eo : o.entry ≡ b.rule.entry = ap (λ (x : Order). x.entry) b.rule.same in
          let ed : d.entry ≡ c.rule.entry = ap (λ (x : Order). x.entry) c.rule.same in
          let so : sort_of o.entry ≡ (fields m).sort = ap sort_of eo ∙ sort_asked _ _ _ (asks_for _ _ _ b.rule.asks) in
          let sd : sort_of d.entry ≡ (fields m).sort = ap sort_of ed ∙ sort_asked _ _ _ (asks_for _ _ _ c.rule.asks) ∙ es in
          let entries : (o.kind.0 ≡ k → ⊥) → d.entry ≡ o.entry =
          λ z. ed ∙ ok_same c.rule.entry b.rule.entry
          (sym c.rule.asks ∙ ap₂ asked es (ec (λ y. z (ko ∙ y))) ∙ b.rule.asks) ∙ sym eo in
          subst (λ t. Alike k (with_entry (position K M h i).entry o.kind.0 o.entry) (with_entry (position K M g i).entry t d.entry))
          (ko ∙ sym kd)
          (alike_with k o.kind.0 (position K M h i).entry (position K M g i).entry o.entry d.entry a entries (so ∙ sym sd))

  both_other : (h g : Held) (m : List ℕ) → is_of i m ≡ false → Both h g → Both (held_after K M h m) (held_after K M g m)
  both_other h g m no_own a =
      subst (λ (p : Position). Alike k p.entry (position K M (held_after K M g m) i).entry) (sym (other_stays K M h m i l no_own))
      (subst (λ (p : Position). Alike k (position K M h i).entry p.entry) (sym (other_stays K M g m i l no_own)) a)

  abbrev Answers : Held → List (List ℕ) → List (Result (Unit {0}) Refusal)
  Answers h ms = own_answers i ms (answers_to K M h ms)

  cons_head : {A : Type 0} (x y : A) (xs ys : List A) → x ∷ xs ≡ y ∷ ys → x ≡ y
  cons_head x y xs ys h = cc

  cons_tail : {A : Type 0} (x y : A) (xs ys : List A) → x ∷ xs ≡ y ∷ ys → xs ≡ ys
  cons_tail x y xs ys h = cc

  -- the answers to a row of messages whose first is y, by whether y is member i's
  answers_own : (h : Held) (y : List ℕ) (ys : List (List ℕ)) → is_of i y ≡ true →
      Answers h (y ∷ ys) ≡ answer (judged K M h y) ∷ Answers (held_after K M h y) ys
  unfolding answers_to own_answers
  answers_own h y ys e = cond-true (is_of i y) (answer (judged K M h y) ∷ Answers (held_after K M h y) ys) (Answers (held_after K M h y) ys) e

  answers_other : (h : Held) (y : List ℕ) (ys : List (List ℕ)) → is_of i y ≡ false → Answers h (y ∷ ys) ≡ Answers (held_after K M h y) ys
  unfolding answers_to own_answers
  answers_other h y ys e = cond-false (is_of i y) (answer (judged K M h y) ∷ Answers (held_after K M h y) ys) (Answers (held_after K M h y) ys) e

  -- the messages after it are the same in both
  abbrev Rest : List (List ℕ) → Type 0
  Rest ys = (h g : Held) → Both h g → Answers g ys ≡ Answers h ys → Both (run K M h ys) (run K M g ys)

  rest_next : (y : List ℕ) (ys : List (List ℕ)) → Rest ys → Rest (y ∷ ys)
  unfolding run
  rest_next y ys rest h g a same = go (is_of i y) refl
    where
      go : (t : Bool) → is_of i y ≡ t → Both (run K M h (y ∷ ys)) (run K M g (y ∷ ys))
      go true e =
          let s = sym (answers_own g y ys e) ∙ same ∙ answers_own h y ys e in
          rest (held_after K M h y) (held_after K M g y)
          (both_own h g y y e e refl refl (λ _. refl) (cons_head _ _ _ _ s) a) (cons_tail _ _ _ _ s)
      go false e =
          rest (held_after K M h y) (held_after K M g y) (both_other h g y e a)
          (sym (answers_other g y ys e) ∙ same ∙ answers_other h y ys e)

  both_rest : (ys : List (List ℕ)) → Rest ys
  unfolding run
  both_rest [] h g a same = a
  both_rest (y ∷ ys) h g a same = rest_next y ys (both_rest ys) h g a same

  module _ (m n : List ℕ) (c : ButItsCents m n) (from : word2 m 0 ≡ i) (kind : byte_at m 6 ≡ k) where
    pub same_byte : (j : ℕ) → j < 8 → byte_at n j ≡ byte_at m j
    same_byte j q = sym (get_or-take 8 n j 0 q) ∙ ap (λ xs. get_or xs j 0) c.all_else ∙ get_or-take 8 m j 0 q

    pub same_sender : word2 n 0 ≡ i
    same_sender = omega (arith, same_byte 0 (omega arith), same_byte 1 (omega arith), from)

    own_m : is_of i m ≡ true
    own_m = and_from (eqb (length m) 12) (eqb (word2 m 0) i) (eq-eqb (length m) 12 c.of_twelve) (eq-eqb (word2 m 0) i from)

    own_n : is_of i n ≡ true
    own_n = and_from (eqb (length n) 12) (eqb (word2 n 0) i) (eq-eqb (length n) 12 c.as_many) (eq-eqb (word2 n 0) i same_sender)

    pub both_runs : (xs ys : List (List ℕ)) (h : Held) → Answers h (xs ++ n ∷ ys) ≡ Answers h (xs ++ m ∷ ys) →
        Both (run K M h (xs ++ m ∷ ys)) (run K M h (xs ++ n ∷ ys))
    unfolding run
    both_runs [] ys h same =
        let s = sym (answers_own h n ys own_n) ∙ same ∙ answers_own h m ys own_m in
        both_rest ys (held_after K M h m) (held_after K M h n)
        (both_own h h m n own_m own_n (same_byte 6 (omega arith)) (same_byte 7 (omega arith)) (λ z. absurd (z kind)) (cons_head _ _ _ _ s)
        (record { elsewhere = λ j d. refl; sort = refl })) (cons_tail _ _ _ _ s)
    both_runs (x ∷ xs) ys h same = both_runs xs ys (held_after K M h x) (go (is_of i x) refl)
      where
        go : (t : Bool) → is_of i x ≡ t → Answers (held_after K M h x) (xs ++ n ∷ ys) ≡ Answers (held_after K M h x) (xs ++ m ∷ ys)
        go true e = cons_tail _ _ _ _ (sym (answers_own h x (xs ++ n ∷ ys) e) ∙ same ∙ answers_own h x (xs ++ m ∷ ys) e)
        go false e = sym (answers_other h x (xs ++ n ∷ ys) e) ∙ same ∙ answers_other h x (xs ++ m ∷ ys) e

    -- nobody else's messages differ
    pub others_write : (xs ys : List (List ℕ)) (j : ℕ) → (j ≡ i → ⊥) → own j (xs ++ n ∷ ys) ≡ own j (xs ++ m ∷ ys)
    unfolding own
    others_write [] ys j d = not_own n same_sender ∙ sym (not_own m from)
      where
        not_own : (x : List ℕ) → word2 x 0 ≡ i → own j (x ∷ ys) ≡ own j ys
        not_own x e =
            cond-false (is_of j x) (x ∷ own j ys) (own j ys)
            (ap (λ t. eqb (length x) 12 && t) (ne_eqb (word2 x 0) j (λ z. d (sym z ∙ e))) ∙ and-false (eqb (length x) 12))
    others_write (x ∷ xs) ys j d = ap (λ zs. cond (is_of j x) (x ∷ zs) zs) (others_write xs ys j d)
