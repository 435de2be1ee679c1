-- With no entry in memory an empty index is the index of the entries.
use Rattle.std.proofs.Common.{◌≡◌, ℕ, zero, suc, ◌+◌, ◌-◌, ◌*◌, ◌<◌, ◌≤◌, cond, ltb, List, [], ◌++◌, length, take, replicate, sym, refl, ap, ◌∙◌, arith}
use Rattle.std.proofs.lemmas.List.{drop-append-le, drop-replicate, take-append-le, take-replicate, length-replicate, length-map}
use Rattle.std.proofs.lemmas.Bool.{lt-ltb}
use Rattle.orders.specs.Entries.{entry_of, row_of, kind_row}
use Rattle.orders.proofs.Rows.{row_within}
use Rattle.ranking.specs.Indexes.{Index}
use Rattle.ranking.specs.declared.ranked.Side.{Side}
use Rattle.ranking.specs.declared.ranked.Side.TheVariants.{Buyers, Sellers}
use Rattle.ranking.specs.Indexes.{kind_list, kind_members}
use Rattle.ranking.specs.Ranks.{own, ranked, ranked_from}
use Rattle.ledger.specs.Indexed.{Indexed}

ranked_none : (s : Side) (m n : ℕ) → ranked_from s own m (row_of (replicate n 0)) ≡ []
unfolding ranked_from
ranked_none s m zero = refl
ranked_none Buyers m (suc n) = ranked_none Buyers (suc m) n
ranked_none Sellers m (suc n) = ranked_none Sellers (suc m) n

row_none : (K M k : ℕ) (ys : List ℕ) → 1 ≤ M → k < K → kind_row M (replicate (K * M) 0 ++ ys) k ≡ row_of (replicate M 0)
row_none K M k ys one l =
    let w : k * M + M ≤ K * M = row_within k K M (K * M) one l (omega arith) in
    ap row_of
    (ap (take M)
    (drop-append-le (k * M) (replicate (K * M) 0) ys (simp length-replicate (omega arith))
    ∙ ap (λ (xs : List ℕ). xs ++ ys) (drop-replicate (k * M) (K * M) 0))
    ∙ take-append-le M (replicate (K * M - k * M) 0) ys (simp length-replicate (omega arith))
    ∙ take-replicate M (K * M - k * M) 0 (omega arith))

pub indexed_empty : (K M : ℕ) (codes ys : List ℕ) (ix : Index) → 1 ≤ M → codes ≡ replicate (K * M) 0 ++ ys → ((k : ℕ) → kind_members k ix ≡ cond (ltb k K) M 0) → ((k : ℕ) (s : Side) → kind_list k s ix ≡ []) → Indexed K M codes ix
unfolding ranked
indexed_empty K M codes ys ix one e size none k l =
    let row : kind_row M codes k ≡ row_of (replicate M 0) = ap (λ (c : List ℕ). kind_row M c k) e ∙ row_none K M k ys one l in
    record {
      sides = λ s. none k s ∙ sym (ap (ranked s own) row ∙ ranked_none s 0 M);
      members = size k ∙ rw (lt-ltb k K l) (sym (ap length row ∙ length-map (replicate M 0) entry_of ∙ length-replicate M 0));
    }
