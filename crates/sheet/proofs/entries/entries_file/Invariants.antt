use Rattle.std.proofs.Common.{◌≡◌, take, vec_items}
use Rattle.sheet.specs.EntryFiles.{file_of}
use Rattle.sheet.proofs.entries.entries_file.Given as goal

abbrev pub invariant-loop-code : goal.invariant-loop-code
invariant-loop-code l = vec_items l.bytes ≡ file_of l.fn.extent.kinds l.fn.extent.members (take l.code-index l.codes)
