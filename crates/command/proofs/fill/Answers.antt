use Rattle.std.proofs.Common.{◌≡◌, ℕ, ◌+◌, ◌-◌, ◌≤◌, List, ◌++◌, rules, length, take, drop, sym, ap, ◌∙◌, subst, le_refl, drop_at, length-take-le}
use Rattle.std.proofs.lemmas.Slice.{take-put_mid_below}
use Rattle.std.specs.Io.KnownBytes.{Consumes}
use Rattle.std.proofs.KnownBytes.{Consumes-trans}
use borrow.Rule.Slice.PartMut.{put_mid, post_of}
use lib.Seq.{take-add, take-append-le}
use Rattle.command.proofs.fill.Goals as goal

-- after a write to the part from a on, the first a + n bytes are the first a and the first n of the part
take-put_mid-part : (a k n : ℕ) (xs ys : List ℕ) → a ≤ length xs → n ≤ length ys → take a xs ++ take n ys ≡ take (a + n) (put_mid a k xs ys)
take-put_mid-part a k n xs ys within fits =
    let after = post_of a k xs in
    let part = ap (take n) (drop_at (take a xs) (ys ++ after) a (length-take-le a xs within)) ∙ take-append-le n ys after fits in
    let front = take-put_mid_below a k xs ys a (le_refl a) within in
    sym (take-add a n (put_mid a k xs ys) ∙ ap (λ l. l ++ take n (drop a (put_mid a k xs ys))) front ∙ ap (λ l. take a xs ++ l) part)

pub loop-done-preserved : goal.loop-done-preserved
loop-done-preserved g c =
    let from = c.loop-done.done in
    let step = take-put_mid-part from (length c.loop-done.buffer - from) c.in-Ok.n c.loop-done.buffer c.read.new.buf c.loop-done.invariant.0 c.in-Ok.ensures.bound.0 in
    (search rules, subst (Consumes _ _) step (Consumes-trans _ _ _ _ _ c.loop-done.invariant.1 c.in-Ok.ensures.bytes.0))
