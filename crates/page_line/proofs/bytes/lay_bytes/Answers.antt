-- `lay_bytes`: what `put_bytes` puts into the part from the place on.
use Rattle.page_line.specs.LaidLaws.{laid-put}
use Rattle.page_line.proofs.bytes.lay_bytes.Goals as goal

pub returns : goal.returns
returns c =
    laid-put _ _ _ _ _ c.requires c.put_bytes.ensures
