use Rattle.keys.proofs.Images.{images_of-equal, images_told}
use Rattle.keys.proofs.same_by_runs.Goals as goal

pub returns-then-same_bytes : goal.returns-then-same_bytes
returns-then-same_bytes c = search images_of-equal

pub returns : goal.returns
returns c = search images_told
