use native.Mathlib.Omega.{arith}
use Rattle.table.proofs.Passing.{passes_none, passes_unknown, passes-leaf, passes-compound, passes-enumeration, passes-variable_length, passes-array, passes_end, passes-is_none, passes-is_some}
use Rattle.table.proofs.+passing.Goals as goal

pub next_member_row-returns-then-is_none : goal.next_member_row-returns-then-is_none
next_member_row-returns-then-is_none t c = search (passes-is_none, arith)

pub next_member_row-loop-preserved : goal.next_member_row-loop-preserved
next_member_row-loop-preserved t c = search (passes-is_some, arith)

pub next_member_row-returns : goal.next_member_row-returns
next_member_row-returns t c = search (passes_end, arith)

pub next_row-returns-then-levels-eq0 : goal.next_row-returns-then-levels-eq0
next_row-returns-then-levels-eq0 t c = search passes_none

pub next_row-returns-in_default : goal.next_row-returns-in_default
next_row-returns-in_default t c = search passes_unknown

pub next_row-returns-in-Leaf : goal.next_row-returns-in-Leaf
next_row-returns-in-Leaf t c = search passes-leaf

pub next_row-returns-in-Compound : goal.next_row-returns-in-Compound
next_row-returns-in-Compound t c = search passes-compound

pub next_row-returns-in-Enumeration : goal.next_row-returns-in-Enumeration
next_row-returns-in-Enumeration t c = search passes-enumeration

pub next_row-returns-in-VariableLength : goal.next_row-returns-in-VariableLength
next_row-returns-in-VariableLength t c = search passes-variable_length

pub next_row-returns-in-Array : goal.next_row-returns-in-Array
next_row-returns-in-Array t c = search passes-array
