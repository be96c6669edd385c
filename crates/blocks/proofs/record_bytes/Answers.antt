use Prim.Native.Nat.{◌≤◌}
use native.Mathlib.Omega.{arith}
use Rattle.blocks.proofs.Records.{record_past, record_inside, record_found}
use Rattle.blocks.proofs.record_bytes.Goals as goal

pub returns-then-count-number : goal.returns-then-count-number
returns-then-count-number c = let k = c.record_count-count in
    let past : k.result ≤ c.args.number = omega arith in
    let both = record_past _ _ _ k.result k.ensures _ past in
    record { is = both.0; begins = both.1 }

pub overflow_mul-from : goal.overflow_mul-from
overflow_mul-from c = let k = c.record_count-count in
    let z = c.at_least_one-size in
    omega (arith, record_inside _ _ _ k.result k.ensures c.if-count-number.false z.result z.ensures.0)

pub overflow_add-to : goal.overflow_add-to
overflow_add-to c = let k = c.record_count-count in
    let z = c.at_least_one-size in
    omega (arith, record_inside _ _ _ k.result k.ensures c.if-count-number.false z.result z.ensures.0)

pub slice_bounds-result-end-2 : goal.slice_bounds-result-end-2
slice_bounds-result-end-2 c = let k = c.record_count-count in
    let z = c.at_least_one-size in
    record_inside _ _ _ k.result k.ensures c.if-count-number.false z.result z.ensures.0

pub returns : goal.returns
returns c = let k = c.record_count-count in
    let z = c.at_least_one-size in
    let both = record_found _ _ _ k.result k.ensures c.if-count-number.false z.result z.ensures.0 _ in
    record { is = both.0; begins = both.1 }
