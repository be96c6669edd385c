use Rattle.rows.proofs.Known.{says-fixed_point, says-floating_point, says-time, says-string, says-bit_field, says-opaque, says-compound, says-reference, says-enumeration, says-variable_length, says-array, says_none}
use borrow.Author.Rules.{rules}
use Rattle.rows.proofs.words_entry.Goals as goal

pub returns-in-1 : goal.returns-in-1
returns-in-1 c = says-fixed_point _ _ (search rules) c.in-1.is

pub returns-in-2 : goal.returns-in-2
returns-in-2 c = says-floating_point _ _ (search rules) c.in-2.is

pub returns-in-3 : goal.returns-in-3
returns-in-3 c = says-time _ _ (search rules) c.in-3.is

pub returns-in-4 : goal.returns-in-4
returns-in-4 c = says-string _ _ (search rules) c.in-4.is

pub returns-in-5 : goal.returns-in-5
returns-in-5 c = says-bit_field _ _ (search rules) c.in-5.is

pub returns-in-6 : goal.returns-in-6
returns-in-6 c = says-opaque _ _ (search rules) c.in-6.is

pub returns-in-7 : goal.returns-in-7
returns-in-7 c = says-compound _ _ (search rules) c.in-7.is

pub returns-in-8 : goal.returns-in-8
returns-in-8 c = says-reference _ _ (search rules) c.in-8.is

pub returns-in-9 : goal.returns-in-9
returns-in-9 c = says-enumeration _ _ (search rules) c.in-9.is

pub returns-in-10 : goal.returns-in-10
returns-in-10 c = says-variable_length _ _ (search rules) c.in-10.is

pub returns-in-11 : goal.returns-in-11
returns-in-11 c = says-array _ _ (search rules) c.in-11.is

pub returns-in_default : goal.returns-in_default
returns-in_default c = says_none _ _ (search rules) c.in_default.in_default-own.rest
