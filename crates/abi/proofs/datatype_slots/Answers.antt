use Rattle.slots.specs.Slots.{slots_values}
use Rattle.abi.proofs.Answers.{tells}
use Rattle.abi.proofs.datatype_slots.Goals as goal

pub returns-clause-told : goal.returns-clause-told
unfolding slots_values
returns-clause-told c = tells c.embedded_reference_slots.ensures.answers c.tell.ensures.number c.tell.ensures.first c.tell.ensures.second
