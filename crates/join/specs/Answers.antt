-- What `join` promises.
use Rattle.firsts.specs.declared.records.Records.{Records}
use Rattle.groups.specs.Duplicates.{fields_in_of}
use Rattle.std.specs.Prelude.{ℕ, ◌≡◌, List, [], ◌∷◌, length, Result}
use Rattle.refusal.specs.declared.Refusal.{Refusal}
use Rattle.format.specs.Bytes.{zeros}
use Rattle.format.specs.Outcome.{Outcome, gives, when_given, output_after, answer_of, Answers}
use Rattle.groups.specs.Join.{Joint as JointBlock, joint_of}
use Rattle.join.specs.declared.Joint.{Joint}

-- the joined block of two blocks' records
abbrev pub joint_in : (table pool : List ℕ) → Records → JointBlock
joint_in table pool rs = joint_of (fields_in_of table pool) rs.a.now rs.b.now rs.size

-- how many bytes and records
unfoldable pub joint_told : JointBlock → Joint
joint_told j = record { bytes = length j.bytes; records = j.records }

-- Document 01's values of a result
unfoldable pub joint_values : Joint → List ℕ
joint_values j = j.bytes ∷ j.records ∷ []

unfoldable pub bytes_given : Outcome JointBlock → Outcome (List ℕ)
bytes_given o = when_given o (λ j. gives j.bytes)

-- the call without its workspace: the answer by the definition's outcome, and each byte of what is lent afterwards
pub record JoinAnswered (o : Outcome JointBlock) (r : Result Joint Refusal) (out out' : List ℕ) : Type 0 where
  pub answer : r ≡ answer_of joint_told o
  pub out-is : out' ≡ output_after out (bytes_given o)

-- `join`: number and values, what is lent and the workspace afterwards
pub record JoiningIs (o : Outcome JointBlock) (r : Result Joint Refusal) (out out' work work' : List ℕ) : Type 0 where
  pub answers : Answers joint_told joint_values o r
  pub out-is : out' ≡ output_after out (bytes_given o)
  pub work_is : work' ≡ zeros (length work)
