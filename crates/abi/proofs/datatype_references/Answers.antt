use Rattle.references.specs.References.{references_values}
use Rattle.abi.proofs.Answers.{tells}
use Rattle.abi.proofs.datatype_references.Goals as goal

pub returns-clause-told : goal.returns-clause-told
unfolding references_values
returns-clause-told c = tells c.stored_object_references.ensures.answers c.tell.ensures.number c.tell.ensures.first c.tell.ensures.second
