-- The columns of a row, which has 16 words, by number. A column that a row's kind has no use for is 0.
use Rattle.std.specs.Prelude.{ℕ}

-- what the row is: class + 1 (1 to 11) for a type, 12 for a compound's member, 13 for an enumeration's member
abbrev pub kind_column : ℕ
kind_column = 0

-- a type's size, in classes 0 to 8; where a compound's member begins
abbrev pub size_column : ℕ
size_column = 1

abbrev pub member_offset_column : ℕ
member_offset_column = 1

-- the row's piece of the pool, in classes 5 and 10 and for members: its place; its length, of a tag or a name in bytes, of dimensions as the rank
abbrev pub place_column : ℕ
place_column = 2

abbrev pub length_column : ℕ
length_column = 3

-- how many members, in classes 6 and 8; how long an enumeration member's value is
abbrev pub count_column : ℕ
count_column = 4

abbrev pub value_length_column : ℕ
value_length_column = 4

-- a leaf's code and its second, whatever its class makes of them
abbrev pub code_column : ℕ
code_column = 5

abbrev pub second_code_column : ℕ
second_code_column = 6

-- classes 0, 1, 2 and 4: order, the sign of class 0, where the bits are
abbrev pub order_column : ℕ
order_column = 5

abbrev pub signed_column : ℕ
signed_column = 6

abbrev pub offset_column : ℕ
offset_column = 7

abbrev pub precision_column : ℕ
precision_column = 8

-- class 1: where exponent and mantissa are, and the exponent's bias
abbrev pub exponent_location_column : ℕ
exponent_location_column = 9

abbrev pub exponent_size_column : ℕ
exponent_size_column = 10

abbrev pub mantissa_location_column : ℕ
mantissa_location_column = 11

abbrev pub mantissa_size_column : ℕ
mantissa_size_column = 12

abbrev pub bias_column : ℕ
bias_column = 13

-- class 3
abbrev pub padding_column : ℕ
padding_column = 5

abbrev pub charset_column : ℕ
charset_column = 6

-- class 7: the kind of reference
abbrev pub reference_column : ℕ
reference_column = 5

-- class 9: 1 is a string; padding and charset, 0 where absent, else the code + 1
abbrev pub is_string_column : ℕ
is_string_column = 5

abbrev pub variable_padding_column : ℕ
variable_padding_column = 6

abbrev pub variable_charset_column : ℕ
variable_charset_column = 7
