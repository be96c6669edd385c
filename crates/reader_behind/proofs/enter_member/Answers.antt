use borrow.Author.Rules.{rules}
use Rattle.reading.proofs.Contracts.{passed_on}
use Rattle.reader_behind.proofs.Naming.{whole-one, whole-next, whole-padded, whole-offset, whole_pooled, whole_word}
use Rattle.reader_behind.proofs.Entering.{enter_stops, enter_narrow, enter_cut, enter_inner}
use Rattle.reader_behind.proofs.enter_member.Goals as goal

pub returns-in_err-name : goal.returns-in_err-name
returns-in_err-name c = rw (passed_on c.from_residual.result c.from_residual.ensures) (search (enter_stops, c.in_err-name.ensures))

pub overflow_add-n : goal.overflow_add-n
overflow_add-n c = search (whole-one, c.in_ok-name.ensures)

pub overflow_add-from : goal.overflow_add-from
overflow_add-from c = search (whole-next, c.in_ok-name.ensures)

pub overflow_add-from-2 : goal.overflow_add-from-2
overflow_add-from-2 c = search (whole-padded, c.in_ok-name.ensures)

pub overflow_add-from-3 : goal.overflow_add-from-3
overflow_add-from-3 c = search (whole-offset, c.in_ok-name.ensures)

pub overflow_add-result : goal.overflow_add-result
overflow_add-result c = search (whole-offset, c.in_ok-name.ensures)

pub returns-then-data-from : goal.returns-then-data-from
returns-then-data-from c = search (enter_narrow, c.in_ok-name.ensures)

pub returns-then-data-inner : goal.returns-then-data-inner
returns-then-data-inner c = search (enter_cut, c.in_ok-name.ensures)

pub put_member_row-requires : goal.put_member_row-requires
put_member_row-requires c = (search rules, (search rules, search (whole_word, c.in_ok-name.ensures)))

pub overflow_add-result-3 : goal.overflow_add-result-3
overflow_add-result-3 c = search (whole_pooled, c.in_ok-name.ensures, rules)

pub returns : goal.returns
returns c = search (enter_inner, c.in_ok-name.ensures)
