-- Each member's position and answers after a row of messages are those after its own messages alone.
use Rattle.std.proofs.Common.{◌≡◌, ℕ, ◌+◌, ◌*◌, ◌<◌, Bool, true, false, cond, eqb, ltb, List, [], ◌∷◌, ◌++◌, length, Ok, Err, Option, Result, unwrap_or, sym, refl, ap, ◌∙◌, ap₂}
use Rattle.std.proofs.lemmas.List.{length-set}
use Rattle.std.proofs.lemmas.Bool.{eqb-true, and_parts}
use Rattle.orders.specs.declared.order.Order.{Order}
use Rattle.orders.specs.declared.refusal.Part.{Part}
use Rattle.orders.specs.declared.refusal.Refusal.{Refusal}
use Rattle.orders.specs.declared.refusal.Refusal.TheVariants.{NoMember}
use Rattle.orders.specs.Entries.{encoded}
use Rattle.orders.specs.Words.{word2}
use Rattle.orders.specs.Messages.{fields}
use Rattle.orders.specs.Taking.{Position, ruling_at}
use Rattle.orders.specs.Lent.{Held, lacking, position, unless_short, judged, entries_after, numbers_after, committed_after, answer, held_after}
use Rattle.orders.specs.Members.{is_of, own, own_answers, moved}
use Rattle.orders.specs.Running.{run, answers_to, written_over}
use Rattle.orders.specs.Statements.{Alone}
use Rattle.orders.proofs.Positions.{other_stays, own_moves}

-- a message changes no length
lacking_after : (K M : ℕ) (h : Held) (m : List ℕ) → lacking K M (held_after K M h m) ≡ lacking K M h
lacking_after K M h m = go (judged K M h m)
  where
    go : (r : Result Order Refusal) → lacking K M (record { entries = entries_after M h.entries r; numbers = numbers_after h.numbers r; committed = committed_after h.committed r; accounts = h.accounts; berths = h.berths }) ≡ lacking K M h
    go (Err e) = refl
    go (Ok o) = rw (length-set h.entries (o.kind.0 * M + o.member.0) (unwrap_or (encoded o.entry) 0), length-set h.numbers o.member.0 o.number, length-set h.committed o.member.0 o.committed.0)

module _ (K M i : ℕ) (within : i < M) where
  -- for member i the two memories are alike
  record Alike (h g : Held) : Type 0 where
    positions : position K M h i ≡ position K M g i
    lengths : lacking K M h ≡ lacking K M g

  judged_alike : (h g : Held) (m : List ℕ) → Alike h g → is_of i m ≡ true → judged K M h m ≡ judged K M g m
  judged_alike h g m a is-own =
      let p = and_parts (eqb (length m) 12) (eqb (word2 m 0) i) is-own in
      let s : word2 m 0 ≡ i = eqb-true (word2 m 0) i p.1 in
      let q : position K M h (word2 m 0) ≡ position K M g (word2 m 0) = ap (position K M h) s ∙ a.positions ∙ sym (ap (position K M g) s) in
      let rule : Position → Result Order Refusal = λ x. cond (ltb (word2 m 0) M) (ruling_at K x (fields m)) (Err NoMember) in
      rw p.0 (ap (λ (x : Position). unless_short (lacking K M h) (rule x)) q ∙ ap (λ (l : Option Part). unless_short l (rule (position K M g (word2 m 0)))) a.lengths)

  alike_own : (h g : Held) (m : List ℕ) → Alike h g → is_of i m ≡ true → Alike (held_after K M h m) (held_after K M g m)
  alike_own h g m a is-own =
      record {
        positions =
            own_moves K M h m i within is-own ∙ ap₂ moved a.positions (judged_alike h g m a is-own)
            ∙ sym (own_moves K M g m i within is-own);
        lengths = lacking_after K M h m ∙ a.lengths ∙ sym (lacking_after K M g m);
      }

  alike_other : (h g : Held) (m : List ℕ) → Alike h g → is_of i m ≡ false → Alike (held_after K M h m) g
  alike_other h g m a not_own =
      record { positions = other_stays K M h m i within not_own ∙ a.positions; lengths = lacking_after K M h m ∙ a.lengths }

  abbrev Same : List (List ℕ) → Type 0
  Same ms =
      (h g : Held) → Alike h g
      → (position K M (run K M h ms) i ≡ position K M (run K M g (own i ms)) i)
      × (own_answers i ms (answers_to K M h ms) ≡ answers_to K M g (own i ms))

  same_next : (m : List ℕ) (ms : List (List ℕ)) → Same ms → Same (m ∷ ms)
  unfolding run answers_to own own_answers
  same_next m ms rest h g a = go (is_of i m) refl
    where
      go : (t : Bool) → is_of i m ≡ t → (position K M (run K M h (m ∷ ms)) i ≡ position K M (run K M g (own i (m ∷ ms))) i) × (own_answers i (m ∷ ms) (answers_to K M h (m ∷ ms)) ≡ answers_to K M g (own i (m ∷ ms)))
      go true e =
          let r = rest (held_after K M h m) (held_after K M g m) (alike_own h g m a e) in
          (rw e r.0, rw e (ap₂ ◌∷◌ (ap answer (judged_alike h g m a e)) r.1))
      go false e =
          let r = rest (held_after K M h m) g (alike_other h g m a e) in
          (rw e r.0, rw e r.1)

  same : (ms : List (List ℕ)) → Same ms
  unfolding run answers_to own own_answers
  same [] h g a = (a.positions, refl)
  same (m ∷ ms) h g a = same_next m ms (same ms) h g a

pub alone_for : (K M i : ℕ) → i < M → (h : Held) (ms : List (List ℕ)) → (position K M (run K M h ms) i ≡ position K M (run K M h (own i ms)) i) × (own_answers i ms (answers_to K M h ms) ≡ answers_to K M h (own i ms))
alone_for K M i within h ms = same K M i within ms h h (record { positions = refl; lengths = refl })

-- answers beyond the messages are nobody's
own_over : (K M i : ℕ) (h : Held) (ms : List (List ℕ)) (more : List (Result (Unit {0}) Refusal)) → own_answers i ms (answers_to K M h ms ++ more) ≡ own_answers i ms (answers_to K M h ms)
unfolding own_answers answers_to
own_over K M i h [] more = refl
own_over K M i h (m ∷ ms) more = ap (λ (z : List (Result (Unit {0}) Refusal)). cond (is_of i m) (answer (judged K M h m) ∷ z) z) (own_over K M i (held_after K M h m) ms more)

pub alone : (K M : ℕ) (before after : Held) (ms : List (List ℕ)) (answers places : List (Result (Unit {0}) Refusal)) → after ≡ run K M before ms → answers ≡ written_over (answers_to K M before ms) places → Alone K M before after ms answers
alone K M before after ms answers places e f = record { positions = positions; answered = answered; any_order = any_order }
  where
    positions : (i : ℕ) → i < M → position K M after i ≡ position K M (run K M before (own i ms)) i
    positions i l = ap (λ (x : Held). position K M x i) e ∙ (alone_for K M i l before ms).0

    answered : (i : ℕ) → i < M → own_answers i ms answers ≡ answers_to K M before (own i ms)
    answered i l = ap (own_answers i ms) f ∙ own_over K M i before ms _ ∙ (alone_for K M i l before ms).1

    any_order : (ns : List (List ℕ)) (i : ℕ) → i < M → own i ns ≡ own i ms → (position K M (run K M before ns) i ≡ position K M after i) × (own_answers i ns (answers_to K M before ns) ≡ own_answers i ms answers)
    any_order ns i l q =
        let b = alone_for K M i l before ns in (
          b.0 ∙ ap (λ (x : List (List ℕ)). position K M (run K M before x) i) q ∙ sym (positions i l),
          b.1 ∙ ap (answers_to K M before) q ∙ sym (answered i l),
        )
