use Rattle.writer_parts.proofs.Leaves.{tag_flag, code_flag}
use Rattle.writer_parts.proofs.leaf_flags.Goals as goal

pub returns-in-5 : goal.returns-in-5
returns-in-5 c = λ h. tag_flag _ _ _ _ h c.in-5.is _ c.ok.ensures.value c.try_from.ensures

pub returns-in_default : goal.returns-in_default
returns-in_default c = λ h. search code_flag
