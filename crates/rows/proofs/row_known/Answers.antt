use Rattle.std.specs.Prelude.{Bool, ◌&&◌, ltb, eqb}
use Rattle.format.specs.Table.{word_at}
use mathlib.Core.Path.{ap}
use Rattle.rows.proofs.Columns.{fixed_point-entry, floating_point-entry, time-entry, string-entry, bit_field-entry, opaque-entry, compound-entry, reference-entry, enumeration-entry, variable_length-entry, array-entry}
use Rattle.rows.proofs.Known.{known_is, none-known}
use borrow.Author.Rules.{rules}
use Rattle.rows.proofs.row_known.Goals as goal

pub returns-in-1 : goal.returns-in-1
returns-in-1 c = known_is _ _ _ _ _ (fixed_point-entry _ _ _ _ (search rules) c.in-1.is) (ap (λ (b : Bool). b && ltb (word_at c.args.words.now 0 6) 2) c.leaf_columns.ensures)

pub returns-in-2 : goal.returns-in-2
returns-in-2 c = known_is _ _ _ _ _ (floating_point-entry _ _ _ _ (search rules) c.in-2.is) c.leaf_columns-in-2.ensures

pub returns-in-3 : goal.returns-in-3
returns-in-3 c = known_is _ _ _ _ _ (time-entry _ _ _ _ (search rules) c.in-3.is) c.leaf_columns-in-3.ensures

pub returns-in-4 : goal.returns-in-4
returns-in-4 c = known_is _ _ _ _ _ (string-entry _ _ _ _ (search rules) c.in-4.is) (ap (λ (b : Bool). b && ltb (word_at c.args.words.now 0 6) 2) c.leaf_columns-in-4.ensures)

pub returns-in-5 : goal.returns-in-5
returns-in-5 c = known_is _ _ _ _ _ (bit_field-entry _ _ _ _ (search rules) c.in-5.is) c.leaf_columns-in-5.ensures

pub returns-in-6 : goal.returns-in-6
returns-in-6 c = known_is _ _ _ _ _ (opaque-entry _ _ _ _ (search rules) c.in-6.is) c.piece_columns.ensures

pub returns-in-7 : goal.returns-in-7
returns-in-7 c = known_is _ _ _ _ _ (compound-entry _ _ _ _ (search rules) c.in-7.is) c.group_columns.ensures

pub returns-in-8 : goal.returns-in-8
returns-in-8 c = known_is _ _ _ _ _ (reference-entry _ _ _ _ (search rules) c.in-8.is) c.leaf_columns-in-8.ensures

pub returns-in-9 : goal.returns-in-9
returns-in-9 c = known_is _ _ _ _ _ (enumeration-entry _ _ _ _ (search rules) c.in-9.is) c.group_columns-in-9.ensures

pub returns-in-10 : goal.returns-in-10
returns-in-10 c = known_is _ _ _ _ _ (variable_length-entry _ _ _ _ (search rules) c.in-10.is) c.variable_length_columns.ensures

pub returns-in-11 : goal.returns-in-11
returns-in-11 c = known_is _ _ _ _ _ (array-entry _ _ _ _ (search rules) c.in-11.is) (ap (λ (b : Bool). eqb (word_at c.args.words.now 0 1) 0 && b) c.piece_columns-in-11.ensures)

pub returns-in_default : goal.returns-in_default
returns-in_default c = none-known _ _ _ _ c.in_default.in_default-own.rest
