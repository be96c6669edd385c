use Rattle.reader_before.proofs.Opening.{opens_compound, opens_old, opens_new, opens_leaf, opens_enumeration, opens_packed, opens_unknown}
use Rattle.reader_before.proofs.Classes.{class_of, kind_variable, kind-array}
use borrow.Author.Rules.{rules}
use Rattle.reader_before.proofs.open_headed.Goals as goal

pub open_variable-requires : goal.open_variable-requires
open_variable-requires c = (search rules, kind_variable _ (search rules))

pub open_array-requires : goal.open_array-requires
open_array-requires c = (search rules, kind-array _ (search rules))

pub returns-in-1-to-4 : goal.returns-in-1-to-4
returns-in-1-to-4 c = search opens_compound

pub returns-in_default-version : goal.returns-in_default-version
returns-in_default-version c = search opens_old

pub returns-in_default-version-2 : goal.returns-in_default-version-2
returns-in_default-version-2 c = search opens_new

pub returns-in-0 : goal.returns-in-0
unfolding class_of
returns-in-0 c = search opens_leaf

pub returns-in-1 : goal.returns-in-1
unfolding class_of
returns-in-1 c = search opens_leaf

pub returns-in-2 : goal.returns-in-2
unfolding class_of
returns-in-2 c = search opens_leaf

pub returns-in-3 : goal.returns-in-3
unfolding class_of
returns-in-3 c = search opens_leaf

pub returns-in-4 : goal.returns-in-4
unfolding class_of
returns-in-4 c = search opens_leaf

pub returns-in-5 : goal.returns-in-5
unfolding class_of
returns-in-5 c = search opens_leaf

pub returns-in-7 : goal.returns-in-7
unfolding class_of
returns-in-7 c = search opens_leaf

pub returns-in-8 : goal.returns-in-8
returns-in-8 c = search opens_enumeration

pub returns-in-11 : goal.returns-in-11
returns-in-11 c = search opens_packed

pub returns-in_default : goal.returns-in_default
returns-in_default c = search opens_unknown
