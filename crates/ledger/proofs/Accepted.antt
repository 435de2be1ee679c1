-- Every entry that messages leave is one that a checker knows, so the sheet of every evening is accepted.
use Rattle.std.proofs.Common.{◌≡◌, ℕ, ◌+◌, ◌*◌, ◌<◌, ◌≤◌, true, List, [], ◌∷◌, length, get_or, take, drop, set, is_some, None, Ok, Err, Result, unwrap_or, sym, refl, ap, ◌∙◌, subst, ⊎_elim, arith}
use Rattle.std.proofs.lemmas.List.{length-set, get_or-set_same, get_or-set_other, take_at}
use Rattle.std.proofs.lemmas.Bool.{cases_eq}
use Rattle.orders.specs.declared.entry.Entry.{Entry}
use Rattle.orders.specs.declared.entry.Entry.TheVariants.{Bid, Ask}
use Rattle.orders.specs.declared.order.Order.{Order}
use Rattle.orders.specs.declared.refusal.Refusal.{Refusal}
use Rattle.orders.specs.Entries.{encoded, decoded}
use Rattle.orders.specs.Lent.{Held, judged, entries_after, held_after}
use Rattle.orders.specs.Messages.{fields}
use Rattle.orders.specs.Opening.{opening}
use Rattle.orders.specs.Running.{run}
use Rattle.orders.proofs.Codes.{encode_decode}
use Rattle.orders.proofs.Openings.{opens, length_emptied, get_or_emptied}
use Rattle.orders.proofs.Positions.{judged_ok}
use Rattle.orders.proofs.Rulings.{Asks, for_nothing, for_bid, for_ask, asks_for}
use Rattle.sheet.specs.Sheets.{sheet_of}
use Rattle.sheet.specs.Statements.{Proper}
use Rattle.sheet.specs.Verdicts.{check_answer}
use Rattle.sheet.specs.Writing.{written_at}
use Rattle.sheet.proofs.Acceptance.{accepts_exactly}
use Rattle.ledger.specs.Publishing.{OnSheet}
use Rattle.ledger.specs.Whole.{opened, at_closing}
use Rattle.ledger.proofs.Evenings.{bounds}

abbrev Known : ℕ → Type 0
Known code = is_some (decoded code) ≡ true

abbrev AllKnown : ℕ → List ℕ → Type 0
AllKnown n codes = (i : ℕ) → i < n → Known (get_or codes i 0)

known_code : (sort cents : ℕ) (e : Entry) → Asks sort cents e → Known (unwrap_or (encoded e) 0)
known_code sort cents e (for_nothing s c p) = rw p
known_code sort cents e (for_bid s c p) =
    rw (p, c) (ap is_some (encode_decode (Bid (record { 0 = cents })) (16777216 + cents) (rw c)))
known_code sort cents e (for_ask s c p) =
    rw (p, c) (ap is_some (encode_decode (Ask (record { 0 = cents })) (33554432 + cents) (rw c)))

module _ (K M : ℕ) where
  known_after : (h : Held) (m : List ℕ) (n : ℕ) → n ≤ length h.entries → AllKnown n h.entries → AllKnown n (held_after K M h m).entries
  known_after h m n long known = go (judged K M h m) refl
    where
      go : (r : Result Order Refusal) → judged K M h m ≡ r → AllKnown n (entries_after M h.entries r)
      go (Err e) j = known
      go (Ok o) j = λ i l.
          let b = judged_ok K M h m o j in
          let slot = o.kind.0 * M + o.member.0 in
          let code = unwrap_or (encoded o.entry) 0 in
          let e : o.entry ≡ b.rule.entry = ap (λ (q : Order). q.entry) b.rule.same in
          ⊎_elim
          (λ z.
          subst (λ j. Known (get_or (set h.entries j code) i 0)) z
          (subst Known (sym (get_or-set_same h.entries i code 0 (omega arith)))
          (subst (λ x. Known (unwrap_or (encoded x) 0)) (sym e)
          (known_code (fields m).sort (fields m).cents b.rule.entry (asks_for (fields m).sort (fields m).cents b.rule.entry b.rule.asks)))))
          (λ d. subst Known (sym (get_or-set_other h.entries slot i code 0 d)) (known i l))
          (cases_eq i slot)

  known_run : (h : Held) (ms : List (List ℕ)) (n : ℕ) → n ≤ length h.entries → AllKnown n h.entries → AllKnown n (run K M h ms).entries
  unfolding run
  known_run h [] n long known = known
  known_run h (m ∷ ms) n long known = known_run (held_after K M h m) ms n (omega (arith, length_after h m, long)) (known_after h m n long known)
    where
      length_after : (h : Held) (m : List ℕ) → length (held_after K M h m).entries ≡ length h.entries
      length_after h m = go (judged K M h m)
        where
          go : (r : Result Order Refusal) → length (entries_after M h.entries r) ≡ length h.entries
          go (Err e) = refl
          go (Ok o) = length-set h.entries (o.kind.0 * M + o.member.0) (unwrap_or (encoded o.entry) 0)

  module _ (fund : ℕ) (h : Held) (e : None ≡ opening K M fund h) (ms : List (List ℕ)) where
    proper : Proper K M (at_closing K M h ms).entries
    proper =
        let b = bounds K M fund h e ms in
        let o = opens K M fund h e in
        record {
          kinds_least = o.some_kinds;
          kinds_most = b.few_kinds;
          members_least = b.some_members;
          members_most = b.few_members;
          there = b.fits.entries;
          known =
              known_run (opened K M h) ms (K * M) (omega (arith, o.fits.entries, length_emptied (K * M) h.entries o.fits.entries))
              (λ i l. subst Known (sym (get_or_emptied (K * M) i h.entries l)) refl);
        }

    -- what was written is accepted
    pub accepted : (old sheet : List ℕ) (end : ℕ) → OnSheet M (at_closing K M h ms).entries old K end sheet →
        check_answer K M (at_closing K M h ms).entries (take end sheet) ≡ Ok tt
    unfolding written_at
    accepted old sheet end on =
        let codes = (at_closing K M h ms).entries in
        (accepts_exactly K M codes (take end sheet)).complete proper
        (ap (take end) on.bytes ∙ take_at (sheet_of K M codes) (drop (0 + length (sheet_of K M codes)) old) end (sym on.ends))
