-- What a caller of `join` may rely on, in document 02's words, from its contract alone.
use Prim.Native.Nat.{ℕ}
use mathlib.Core.Path.{◌≡◌, sym, ap, ◌∙◌}
use mathlib.Core.List.{List, ◌++◌}
use lib.ListN.{length, drop}
use Rattle.refusal.specs.declared.Refusal.{Refusal}
use Rattle.format.specs.Outcome.{Outcome, gives, refuses, when_given, output_after}
use Rattle.groups.specs.Join.{Joint as JointBlock, joining}
use Rattle.groups.proofs.Joining.{JoinedExactly, joined-exactly}
use Rattle.join.specs.Answers.{joint_told, bytes_given, JoiningIs}
use Rattle.join.specs.declared.Joint.{Joint}
use Rattle.std.specs.Prelude.{Result, Ok, Err}
use Rattle.format.proofs.Outcomes.{answer-gives, answer-refuses}

-- a result: the joined block as document 02 has it, at the front of what is lent, and nothing past it
pub record BlockExactly (table pool a b : List ℕ) (bytes records : ℕ) (out out' : List ℕ) : Type 0 where
  pub joint : JointBlock
  pub exactly : JoinedExactly table pool a b joint
  pub bytes-are : bytes ≡ length joint.bytes
  pub records-are : records ≡ joint.records
  pub out-is : out' ≡ joint.bytes ++ drop bytes out

told-lengths : (j : JointBlock) (n d : ℕ) → record { bytes = n; records = d } ≡ joint_told j → (n ≡ length j.bytes) × (d ≡ j.records)
unfolding joint_told
told-lengths j n d e = (ap (λ (x : Joint). x.bytes) e, ap (λ (x : Joint). x.records) e)

bytes-given : (o : Outcome JointBlock) (j : JointBlock) (old : List ℕ) → o ≡ gives j → output_after old (bytes_given o) ≡ j.bytes ++ drop (length j.bytes) old
unfolding output_after bytes_given when_given
bytes-given o j old h = rw h

bytes-kept : (o : Outcome JointBlock) (e : Refusal) (old : List ℕ) → o ≡ refuses e → output_after old (bytes_given o) ≡ old
unfolding output_after bytes_given when_given
bytes-kept o e old h = rw h

module _ (table pool a b out out' w w' : List ℕ) (r : Result Joint Refusal) (c : JoiningIs (joining table pool a b (length out)) r out out' w w') where
  pub block-exactly : (n d : ℕ) → r ≡ Ok (record { bytes = n; records = d }) → BlockExactly table pool a b n d out out'
  block-exactly n d e =
      let g = answer-gives joint_told (joining table pool a b (length out)) (record { bytes = n; records = d }) (sym e ∙ c.answers.answer) in
      let h = told-lengths g.0 n d g.2 in
      record {
        joint = g.0;
        exactly = joined-exactly table pool a b (length out) g.0 g.1;
        bytes-are = h.0;
        records-are = h.1;
        out-is = c.out-is ∙ bytes-given _ g.0 out g.1 ∙ ap (λ (k : ℕ). g.0.bytes ++ drop k out) (sym h.0);
      }

  -- a refusal leaves what is lent as it was
  pub refused_untouched : (e : Refusal) → r ≡ Err e → out' ≡ out
  refused_untouched e h = c.out-is ∙ bytes-kept _ e out (answer-refuses joint_told (joining table pool a b (length out)) e (sym h ∙ c.answers.answer))

  -- the result does not depend on the workspace
  pub no_workspace_matters : (out'' v v' : List ℕ) (q : Result Joint Refusal) → JoiningIs (joining table pool a b (length out)) q out out'' v v' → (r ≡ q) × (out' ≡ out'')
  no_workspace_matters out'' v v' q k = (c.answers.answer ∙ sym k.answers.answer, c.out-is ∙ sym k.out-is)
