-- Document 01's example of program `fields`, and a refusal, byte for byte.
use mathlib.Core.Path.{◌≡◌, refl}
use mathlib.Core.List.{[], ◌∷◌}
use Rattle.refusal.specs.declared.Refusal.TheVariants.{Short}
use Rattle.format.specs.Datatype.{type_size_of, class_number, leaf_class}
use Rattle.format.proofs.Cases.{type_p}
use Rattle.listing.specs.Text.{decimal_in, decimal, spaced, hex_digit_of, hexadecimal, name_text, line, inner_lines, member_lines, lines, heading, fields_text, refusal_text}

-- level class offset size name · 1 6 0 4 - · 2 0 0 1 61 · 2 0 2 2 62
pub fields-of-P :
    fields_text type_p
    ≡ 108 ∷ 101 ∷ 118 ∷ 101 ∷ 108 ∷ 32 ∷ 99 ∷ 108 ∷ 97 ∷ 115 ∷ 115 ∷ 32 ∷ 111 ∷ 102 ∷ 102 ∷ 115 ∷ 101 ∷ 116 ∷ 32 ∷ 115 ∷ 105 ∷ 122 ∷ 101 ∷ 32 ∷ 110 ∷ 97 ∷ 109 ∷ 101 ∷ 10
    ∷ 49 ∷ 32 ∷ 54 ∷ 32 ∷ 48 ∷ 32 ∷ 52 ∷ 32 ∷ 45 ∷ 10
    ∷ 50 ∷ 32 ∷ 48 ∷ 32 ∷ 48 ∷ 32 ∷ 49 ∷ 32 ∷ 54 ∷ 49 ∷ 10
    ∷ 50 ∷ 32 ∷ 48 ∷ 32 ∷ 50 ∷ 32 ∷ 50 ∷ 32 ∷ 54 ∷ 50 ∷ 10
    ∷ []
unfolding decimal_in decimal spaced hex_digit_of hexadecimal name_text line inner_lines member_lines lines heading fields_text type_size_of class_number leaf_class
fields-of-P = refl

-- refused 4 8 0
pub refusal_of-nothing : refusal_text (Short 8 0) ≡ 114 ∷ 101 ∷ 102 ∷ 117 ∷ 115 ∷ 101 ∷ 100 ∷ 32 ∷ 52 ∷ 32 ∷ 56 ∷ 32 ∷ 48 ∷ 10 ∷ []
unfolding decimal_in decimal spaced refusal_text
refusal_of-nothing = refl

-- the greatest number of 64 bits, and the bytes of AB 09 in hexadecimal
pub greatest_decimal : decimal 18446744073709551615 ≡ 49 ∷ 56 ∷ 52 ∷ 52 ∷ 54 ∷ 55 ∷ 52 ∷ 52 ∷ 48 ∷ 55 ∷ 51 ∷ 55 ∷ 48 ∷ 57 ∷ 53 ∷ 53 ∷ 49 ∷ 54 ∷ 49 ∷ 53 ∷ []
unfolding decimal_in decimal
greatest_decimal = refl

pub hexadecimal_digits : hexadecimal (171 ∷ 9 ∷ []) ≡ 65 ∷ 66 ∷ 48 ∷ 57 ∷ []
unfolding hexadecimal hex_digit_of
hexadecimal_digits = refl
