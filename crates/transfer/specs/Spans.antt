-- The span of a transaction's next segment.
use Rattle.std.specs.Prelude.{List, Option}
use Rattle.store.specs.Blocks.{Block}
use Rattle.host.specs.Progress.{segment_of}
use Rattle.transfer.specs.declared.blocks.Span.{Span}
use Rattle.transfer.specs.Segments.{span}

-- Its blocks, in a store of these.
abbrev pub in_span : Span → List Block → List (Option Block)
in_span s bs = span bs s.first (segment_of s.transaction)
