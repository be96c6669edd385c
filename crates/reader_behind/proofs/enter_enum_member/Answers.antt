use borrow.Author.Rules.{rules}
use Rattle.reading.proofs.Contracts.{passed_on}
use Rattle.reader_behind.proofs.Naming.{whole-one, whole-next, whole-padded, whole_pooled, whole_word, enum_stops, enum_named}
use Rattle.reader_behind.proofs.enter_enum_member.Goals as goal

pub returns-in_err-name : goal.returns-in_err-name
returns-in_err-name c = rw (passed_on c.from_residual.result c.from_residual.ensures) (search (enum_stops, c.in_err-name.ensures))

pub overflow_add-n : goal.overflow_add-n
overflow_add-n c = search (whole-one, c.in_ok-name.ensures)

pub put_member_row-requires : goal.put_member_row-requires
put_member_row-requires c = (search rules, (search rules, search (whole_word, c.in_ok-name.ensures)))

pub overflow_add-result : goal.overflow_add-result
overflow_add-result c = search (whole-next, c.in_ok-name.ensures)

pub overflow_add-result-2 : goal.overflow_add-result-2
overflow_add-result-2 c = search (whole-padded, c.in_ok-name.ensures)

pub overflow_add-result-4 : goal.overflow_add-result-4
overflow_add-result-4 c = search (whole_pooled, c.in_ok-name.ensures, rules)

pub returns : goal.returns
returns c = search (enum_named, c.in_ok-name.ensures)
