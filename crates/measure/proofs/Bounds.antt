-- A message's length is bounded by the rows and the pool bytes of its type: within the limits it is measured exactly.
use Prim.Native.Nat.{ℕ, ◌+◌, ◌*◌, ◌≤◌}
use mathlib.Core.Path.{◌≡◌, sym}
use mathlib.Core.Bool.{Bool, true, false, cond}
use mathlib.Core.List.{List, [], ◌∷◌, ◌++◌}
use native.Mathlib.Omega.{arith}
use lib.ListN.{length, length-append}
use lib.Dec.{leb, ltb}
use Rattle.format.specs.Bytes.{padding_to8, dimension_bytes}
use Rattle.format.specs.Datatype.{Leaf, fixed_point, floating_point, time, string, bit_field, opaque, reference, leaf_pool, Datatype, leaf, compound, enumeration, variable_length, array, Members, no_members, member, EnumMember, row_count, member_row_count, enum_names, enum_values, pool_bytes, member_pool}
use Rattle.format.specs.Message.{leaf_message_length, name_padding_of, offset_width, skipped_bytes_of, reserved_bytes_of, permutation_bytes_of, name_length_of, enum_name_length, message_length, members_length}
use Rattle.format.specs.Table.{WithinLimits}
use Rattle.format.proofs.Bytes.{length_dimensions}
use Rattle.measure.specs.Measure.{most_length}
use Rattle.measure.proofs.Lengths.{most-same}

either-below : (c : Bool) (a b m : ℕ) → a ≤ m → b ≤ m → cond c a b ≤ m
either-below true a b m h g = h
either-below false a b m h g = g

padding_below : (n : ℕ) → padding_to8 n ≤ 7
unfolding padding_to8
padding_below n = omega arith

module _ (e : ℕ) where
  name_below : (b : List ℕ) → name_length_of e b ≤ length b + 8
  unfolding name_length_of name_padding_of
  name_below b = omega (arith, either-below (ltb e 3) (padding_to8 (length b + 1)) 0 7 (padding_below (length b + 1)) (omega arith))

  width_below : (n : ℕ) → offset_width e n ≤ 4
  unfolding offset_width
  width_below n = either-below (ltb e 3) 4 _ 4 (omega arith) (either-below (leb n 255) 1 _ 4 (omega arith) (either-below (leb n 65535) 2 4 4 (omega arith) (omega arith)))

  skipped-below : skipped_bytes_of e ≤ 28
  unfolding skipped_bytes_of
  skipped-below = either-below (leb e 1) 28 0 28 (omega arith) (omega arith)

  reserved_below : reserved_bytes_of e ≤ 3
  unfolding reserved_bytes_of
  reserved_below = either-below (ltb e 3) 3 0 3 (omega arith) (omega arith)

  permutation_below : (k : ℕ) → permutation_bytes_of e k ≤ 4 * k
  unfolding permutation_bytes_of
  permutation_below k = either-below (ltb e 3) (4 * k) 0 (4 * k) (omega arith) (omega arith)

  names-below : (ms : List EnumMember) → enum_name_length e ms ≤ length (enum_names ms) + 8 * length ms
  unfolding enum_name_length enum_names
  names-below [] = omega arith
  names-below (m ∷ ms) = omega (arith, names-below ms, name_below m.name, length-append m.name (enum_names ms))

leaf-below : (x : Leaf) → leaf_message_length x ≤ 40 + 2 * length (leaf_pool x)
unfolding leaf_message_length leaf_pool
leaf-below (fixed_point o s f q) = omega arith
leaf-below (floating_point o y) = omega arith
leaf-below (time o q) = omega arith
leaf-below (string a c) = omega arith
leaf-below (bit_field o f q) = omega arith
leaf-below (opaque g) = omega (arith, padding_below (length g))
leaf-below (reference k) = omega arith

mutual
  unfolding message_length row_count pool_bytes

  pub message-below : (e : ℕ) (t : Datatype) → message_length e t ≤ 40 * row_count t + 2 * length (pool_bytes t)
  message-below e (leaf n x) = omega (arith, leaf-below x)
  message-below e (compound n ms) = omega (arith, members-below e n ms)
  message-below e (enumeration n t ms) =
      omega (arith, message-below e t, names-below e ms, length-append (pool_bytes t) (enum_names ms ++ enum_values ms), length-append (enum_names ms) (enum_values ms))
  message-below e (variable_length i a c t) = omega (arith, message-below e t)
  message-below e (array ds t) =
      omega (arith, message-below e t, reserved_below e, permutation_below e (length ds), length-append (dimension_bytes ds) (pool_bytes t), length_dimensions ds)

  pub members-below : (e n : ℕ) (ms : Members) → members_length e n ms ≤ 40 * member_row_count ms + 2 * length (member_pool ms)
  members-below e n no_members = omega arith
  members-below e n (member b o t ms) =
      omega (arith, name_below e b, width_below e n, skipped-below e, message-below e t, members-below e n ms, length-append b (pool_bytes t ++ member_pool ms), length-append (pool_bytes t) (member_pool ms))

-- within the limits a length is far from the number where it stops
pub length-exact : (e : ℕ) (t : Datatype) → WithinLimits t → most_length (message_length e t) ≡ message_length e t
length-exact e t w = sym (most-same (message_length e t) (omega (arith, message-below e t, w.rows_fit, w.pool-fits)))
