use Rattle.std.proofs.Common.{◌≡◌, ◌*◌, ◌/◌, length, map, refl, ◌∙◌, rules, tests}
use Rattle.std.specs.Simd.{first_chunks}
use Rattle.std.proofs.lemmas.Iterator.{YieldsList-from_slice, YieldsList-from_map, items_from_collect}
use Rattle.std.proofs.lemmas.Iterator.Consumers.{YieldsList-at}
use Rattle.std.proofs.lemmas.Result.{IfOk-weaker}
use Rattle.orders.specs.Inputs.{half_cents}
use Rattle.orders.proofs.Chunks.{word_of, made_of_words}
use Rattle.orders.proofs.input.Input.half_cents.Goals as goal

pub returns : goal.returns
returns c =
    let bytes = c.args.self.now.accounts.now in
    let chunks = first_chunks 4 (length bytes / 4) bytes in
    let all : map (λ chunk. 2 * word_of chunk) chunks ≡ half_cents bytes (length bytes / 4) =
    made_of_words (λ n. 2 * n) bytes (half_cents bytes) (λ _. refl) refl (length bytes / 4) in
    IfOk-weaker c.collect.result _ _ (λ v h. h ∙ all)
    (items_from_collect c.collect.result c.collect.ensures.ran
    (YieldsList-from_map _ (λ chunk. 2 * word_of chunk) (YieldsList-at c.map.ensures.source (YieldsList-from_slice chunks (c.iter.ensures.rest ∙ c.as_chunks.ensures.front)))
    c.map.ensures.closure (λ x r q k. search (rules, tests))))
