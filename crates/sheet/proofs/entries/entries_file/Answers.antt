use Rattle.std.proofs.Common.{[], ◌∷◌, ◌++◌, get_or, take, sym, ap, ◌∙◌}
use Rattle.std.proofs.lemmas.List.{take_more, flat_map_more}
use Rattle.std.proofs.lemmas.Slice.{pushed}
use Rattle.sheet.specs.Words.{bytes2, bytes4}
use Rattle.sheet.specs.EntryFiles.{file_of}
use Rattle.sheet.proofs.entries.entries_file.Goals as goal

pub loop-code-init : goal.loop-code-init
unfolding bytes2
loop-code-init c =
    let first = pushed (c.args.extent.kinds ∷ []) c.new-bytes.ensures.items c.in_ok-push.was c.push.ensures.items in
    pushed c.to_le_bytes.result first c.in_ok-extend_from_slice.was c.extend_from_slice.ensures.items
    ∙ ap (λ bs. c.args.extent.kinds ∷ bs) c.to_le_bytes.ensures

pub loop-code-preserved : goal.loop-code-preserved
unfolding bytes4
loop-code-preserved c =
    let done = take c.loop-code.code-index c.args.codes.now in
    let code = get_or c.args.codes.now c.loop-code.code-index 0 in
    pushed c.to_le_bytes-in-loop-code.result c.loop-code.invariant c.in_ok-extend_from_slice-2.was c.extend_from_slice-in-loop-code.ensures.items
    ∙ ap (λ bs. file_of c.args.extent.kinds c.args.extent.members done ++ bs) c.to_le_bytes-in-loop-code.ensures
    ∙ ap (λ bs. c.args.extent.kinds ∷ bs) (flat_map_more bytes4 (bytes2 c.args.extent.members) done code)
    ∙ ap (file_of c.args.extent.kinds c.args.extent.members) (sym (take_more c.args.codes.now c.loop-code.code-index 0 c.loop-code-test.true))
