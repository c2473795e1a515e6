-- `version`: fewer than five bytes have no version.
use Rattle.taking.specs.RowLaws.{version_none}
use Rattle.taking.proofs.version.Goals as goal

pub returns-then-bytes-le-VERSION_OFFSET : goal.returns-then-bytes-le-VERSION_OFFSET
returns-then-bytes-le-VERSION_OFFSET c = version_none c.args.bytes.now c.if-bytes-le-VERSION_OFFSET.true
