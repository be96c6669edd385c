use native.Mathlib.Omega.{arith}
use Prim.Native.Nat.{◌<◌}
use lib.ListN.{length}
use borrow.Author.Rules.{rules}
use Rattle.rows.proofs.Words.{indexed}
use Rattle.writer_parts.proofs.Leaves.{leaf_headless, leaf_cut, leaf-put}
use Rattle.writer_parts.proofs.put_leaf.Goals as goal

pub returns-then-class-gt7 : goal.returns-then-class-gt7
returns-then-class-gt7 c = λ h. absurd (omega arith)

pub bounds-as_chunks-row : goal.bounds-as_chunks-row
bounds-as_chunks-row c = omega (arith, c.requires.0, c.as_chunks.ensures.front_len)

pub offset_bounds-as_chunks-row : goal.offset_bounds-as_chunks-row
offset_bounds-as_chunks-row c =
    let b : c.args.row < length c.as_chunks.result.0.now = omega (arith, c.requires.0, c.as_chunks.ensures.front_len) in
    search rules

pub returns-in_err-behind : goal.returns-in_err-behind
returns-in_err-behind c = λ h.
    let s = indexed _ _ c.as_chunks.ensures.front c.requires.0 in
    rw c.from_residual.ensures (leaf_headless _ _ _ _ _ _ _ _ _ (s _) c.leaf_flags.ensures c.unwrap_or-flags.ensures c.leaf_bits.ensures c.put_header.ensures c.in_err-behind.was)

pub returns-in_err-end : goal.returns-in_err-end
returns-in_err-end c = λ h.
    let s = indexed _ _ c.as_chunks.ensures.front c.requires.0 in
    rw c.from_residual-in_err-end.ensures (leaf_cut _ _ _ _ _ _ _ _ _ (s _) c.leaf_flags.ensures c.unwrap_or-flags.ensures c.leaf_bits.ensures c.put_header.ensures c.in_ok-behind.was c.requires.1 c.put_leaf_rest.ensures c.in_err-end.was)

pub returns : goal.returns
returns c = λ h.
    let s = indexed _ _ c.as_chunks.ensures.front c.requires.0 in
    leaf-put _ _ _ _ _ _ _ _ _ (s _) c.leaf_flags.ensures c.unwrap_or-flags.ensures c.leaf_bits.ensures c.put_header.ensures c.in_ok-behind.was c.requires.1 c.put_leaf_rest.ensures c.in_ok-end.was
