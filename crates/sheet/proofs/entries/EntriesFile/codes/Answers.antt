use Rattle.std.proofs.Common.{◌≡◌, ◌/◌, length, map, refl, ◌∙◌, rules, tests}
use Rattle.std.specs.Simd.{first_chunks}
use Rattle.std.proofs.lemmas.Iterator.{YieldsList-from_slice, YieldsList-from_map, items_from_collect}
use Rattle.std.proofs.lemmas.Iterator.Consumers.{YieldsList-at}
use Rattle.std.proofs.lemmas.Result.{IfOk-weaker}
use Rattle.orders.proofs.Chunks.{word_of, made_of_words}
use Rattle.sheet.specs.EntryFiles.{codes_in}
use Rattle.sheet.proofs.entries.EntriesFile.codes.Goals as goal

pub returns : goal.returns
returns c =
    let bytes = c.args.self.now.bytes.now in
    let chunks = first_chunks 4 (length bytes / 4) bytes in
    let codes : map word_of chunks ≡ codes_in bytes (length bytes / 4) = made_of_words (λ n. n) bytes (codes_in bytes) (λ _. refl) refl (length bytes / 4) in
    IfOk-weaker c.collect.result _ _ (λ v h. h ∙ codes)
    (items_from_collect c.collect.result c.collect.ensures.ran
    (YieldsList-from_map _ word_of (YieldsList-at c.map.ensures.source (YieldsList-from_slice chunks (c.iter.ensures.rest ∙ c.as_chunks.ensures.front)))
    c.map.ensures.closure (λ x r q k. search (rules, tests))))
