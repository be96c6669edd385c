use mathlib.Core.Path.{◌≡◌, refl}
use Prim.Native.Nat.{◌+◌, ◌-◌}
use native.Mathlib.Omega.{arith}
use Rattle.format.specs.Bytes.{number_from}
use Rattle.primitives.proofs.Laws.{number_before, byte_room, byte_before}
use Rattle.primitives.proofs.read_uint.Goals as goal

pub loop-i-init : goal.loop-i-init
unfolding number_from
loop-i-init c =
    let e : c.args.width - c.args.width ≡ 0 = omega arith in
    rw e (omega arith, refl)

pub overflow_mul-value : goal.overflow_mul-value
overflow_mul-value c = omega (arith, byte_room (c.args.width - c.loop-i.i) (omega arith))

pub overflow_add-value : goal.overflow_add-value
overflow_add-value c = omega (arith, byte_room (c.args.width - c.loop-i.i) (omega arith), c.type_inv.data (c.args.offset + (c.loop-i.i - 1)))

pub loop-i-preserved : goal.loop-i-preserved
loop-i-preserved c = let a = c.args in
    let l = c.loop-i in
    let small = c.type_inv.data (a.offset + (l.i - 1)) in (
      byte_before a.width l.i l.value c.from.result (omega arith) (omega arith) (omega (arith, small.fits)) l.invariant.0,
      number_before a.«data».now a.offset a.width l.i l.value c.from.ensures (omega arith) (omega arith) (omega arith) l.invariant.1,
    )

pub returns : goal.returns
returns c = let a = c.args in
    let l = c.loop-i in
    let none : l.i ≡ 0 = omega arith in
    let k : a.width - l.i ≡ a.width = omega arith in
    let j : a.offset + l.i ≡ a.offset = omega arith in
    rw (k, j) at l.invariant.1
