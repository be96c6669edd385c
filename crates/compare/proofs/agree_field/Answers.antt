use Rattle.compare.proofs.Ranges.{field_past, field-same, field-differs}
use Rattle.compare.proofs.agree_field.Goals as goal

pub returns-then-a-at : goal.returns-then-a-at
returns-then-a-at c = search field_past

pub returns-then-equal_range : goal.returns-then-equal_range
returns-then-equal_range c = search field-same

pub returns-else-equal_range : goal.returns-else-equal_range
returns-else-equal_range c = search field-differs
