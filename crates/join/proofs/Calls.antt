-- `join`: one law for each way out.
use Rattle.firsts.specs.declared.records.Records.{Records}
use Prim.Native.Nat.{ℕ, ◌+◌, ◌*◌, ◌/◌, ◌%◌, ◌<◌, ◌≤◌, min}
use mathlib.Core.Path.{◌≡◌, refl, sym, ap, ◌∙◌}
use mathlib.Core.List.{List}
use native.Mathlib.Omega.{arith}
use lib.ListN.{length, replicate}
use lib.Seq.{sets}
use mir.Val.{Fits}
use mir.Syntax.{w64}
use Rattle.refusal.specs.declared.Refusal.{Refusal}
use Rattle.refusal.specs.declared.Refusal.TheVariants.{WrongLength, NoRoom}
use Rattle.format.specs.Outcome.{Outcome, gives, refuses, when_given, needed, output_after, answer_of}
use Rattle.format.specs.Ownership.{admission}
use Rattle.format.proofs.Lists.{sets-front}
use Rattle.compare.specs.Agreeing.{Admits}
use Rattle.compare.proofs.Comparing.{refused-admission}
use Rattle.groups.specs.Groups.{distinct_of}
use Rattle.groups.specs.Duplicates.{fields_in_of}
use Rattle.groups.specs.Join.{Joint as JointBlock, joint_of, fitting_joint, joining}
use Rattle.groups.proofs.JoinOutcomes.{length-joint, joint_le, joint-short, joint-given, joining-refused, joining-first-length, joining-second-length, joining-whole}
use Rattle.firsts.specs.Found.{Standing}
use Rattle.firsts.specs.Records.{both, keys_in, Comparable}
use Rattle.firsts.specs.declared.found.Found.{Found}
use Rattle.join.specs.Copying.{copied}
use Rattle.join.proofs.Copying.{copied_all}
use Rattle.firsts.proofs.Compiling.{all_cleared}
use Rattle.firsts.proofs.KeyLaws.{admits-some, admits-admission, length_in}
use Rattle.join.specs.Answers.{joint_in, joint_told, joint_values, bytes_given, JoinAnswered, JoiningIs}
use Rattle.join.specs.declared.Joint.{Joint}
use Rattle.std.specs.Prelude.{Result, Ok, Err}
use Rattle.format.proofs.Outcomes.{answers}

-- a record's number is that of a whole one
pub number-inside : (f : Found) (k : ℕ) → Standing f → k < f.n → k < length (both f.records) / f.records.size
number-inside f k g h = omega (arith, length_in f.table.now f.pool.now f.records g.comparable, g.count)

-- a refusal leaves what is lent as it is
refused_by : (o : Outcome JointBlock) (e : Refusal) (out : List ℕ) → o ≡ refuses e → JoinAnswered o (Err e) out out
unfolding answer_of joint_told bytes_given when_given output_after
refused_by o e out h = rw h (record { answer = refl; out-is = refl })

joined_by : (o : Outcome JointBlock) (j : JointBlock) (bytes records : ℕ) (out out' : List ℕ) → o ≡ gives j → bytes ≡ length j.bytes → records ≡ j.records → length j.bytes ≤ length out
    → out' ≡ sets out 0 j.bytes → JoinAnswered o (Ok (record { bytes = bytes; records = records })) out out'
unfolding answer_of joint_told bytes_given when_given output_after
joined_by o j bytes records out out' h l r f q = rw h (record { answer = rw (l, r); out-is = q ∙ sets-front j.bytes out f })

-- ---- whole records

module _ (f : Found) (g : Standing f) (d : ℕ) (e : d ≡ distinct_of (keys_in f.table.now f.pool.now f.records)) where
  abbrev whole : JointBlock
  whole = joint_in f.table.now f.pool.now f.records

  bytes-are : d * f.records.size ≡ length whole.bytes
  unfolding keys_in
  bytes-are = rw e (sym (length-joint (fields_in_of f.table.now f.pool.now) f.records.a.now f.records.b.now f.records.size))

  bytes_low : d * f.records.size ≤ length f.records.a.now + length f.records.b.now
  unfolding keys_in
  bytes_low = rw e (joint_le (fields_in_of f.table.now f.pool.now) f.records.a.now f.records.b.now f.records.size)

  copied-whole : copied f f.n ≡ whole.bytes
  unfolding keys_in joint_of
  copied-whole = copied_all f g

  pub bytes_fit : length f.records.a.now * 1 < 9223372036854775808 → length f.records.b.now * 1 < 9223372036854775808 → Fits w64 (d * f.records.size)
  bytes_fit la lb = record { fits = omega (arith, bytes_low) }

  pub joint-room : (room : ℕ) → d * f.records.size ≤ room → length (copied f f.n) ≤ room
  joint-room room h = omega (arith, bytes-are, ap length copied-whole)

  module _ (out : List ℕ) where
    pub joint-refused : length out < d * f.records.size → length f.records.a.now * 1 < 9223372036854775808 → length f.records.b.now * 1 < 9223372036854775808
        → JoinAnswered (fitting_joint (length out) whole) (Err (NoRoom (d * f.records.size))) out out
    unfolding needed
    joint-refused h la lb =
        let c : min (length whole.bytes) 18446744073709551615 ≡ d * f.records.size = omega (arith, bytes-are, bytes_low) in
        refused_by _ (NoRoom (d * f.records.size)) out (joint-short (length out) whole (omega (arith, bytes-are)) ∙ rw c)

    pub joint-joined : (out' : List ℕ) → d * f.records.size ≤ length out → out' ≡ sets out 0 (copied f f.n)
        → JoinAnswered (fitting_joint (length out) whole) (Ok (record { bytes = d * f.records.size; records = d })) out out'
    joint-joined out' h q =
        let l : length whole.bytes ≤ length out = omega (arith, bytes-are) in
        joined_by _ whole (d * f.records.size) d out out' (joint-given (length out) whole l) bytes-are (unfold keys_in joint_of in e) l (rw copied-whole at q)

-- ---- an admitted type

module _ (table pool a b : List ℕ) (size : ℕ) (g : Admits table pool size) where
  module _ (out : List ℕ) where
    pub sized-first : (length a % size ≡ 0 → ⊥) → JoinAnswered (joining table pool a b (length out)) (Err WrongLength) out out
    sized-first d = refused_by _ WrongLength out (joining-first-length table pool a b (length out) size (admits-admission table pool size g) d)

    pub sized-second : length a % size ≡ 0 → (length b % size ≡ 0 → ⊥) → JoinAnswered (joining table pool a b (length out)) (Err WrongLength) out out
    sized-second w d = refused_by _ WrongLength out (joining-second-length table pool a b (length out) size (admits-admission table pool size g) w d)

module _ (table pool : List ℕ) (rs : Records) (g : Admits table pool rs.size) (w : length rs.a.now % rs.size ≡ 0) (v : length rs.b.now % rs.size ≡ 0) where
  pub both_comparable : Comparable table pool rs
  both_comparable = record { admits = g; whole = record { some = admits-some table pool rs.size g; first = w; second = v } }

  pub both_answered : (r : Result Joint Refusal) (out out' : List ℕ) → JoinAnswered (fitting_joint (length out) (joint_in table pool rs)) r out out'
      → JoinAnswered (joining table pool rs.a.now rs.b.now (length out)) r out out'
  both_answered r out out' h = rw (joining-whole table pool rs.a.now rs.b.now (length out) rs.size (admits-admission table pool rs.size g) w v) h

-- ---- the whole call

pub answer-refused : (table pool a b out : List ℕ) {x : Result ℕ Refusal} → x ≡ answer_of (λ (n : ℕ). n) (admission table pool) → (e : Refusal) → x ≡ Err e
    → JoinAnswered (joining table pool a b (length out)) (Err e) out out
answer-refused table pool a b out h e q = refused_by _ e out (joining-refused table pool e (refused-admission table pool h e q) a b (length out))

pub all_told : (o : Outcome JointBlock) (r : Result Joint Refusal) (out out' w w' w'' : List ℕ) → JoinAnswered o r out out' → length w' ≡ length w → w'' ≡ replicate (length w') 0
    → JoiningIs o r out out' w w''
all_told o r out out' w w' w'' a l z = record { answers = answers joint_told joint_values o r a.answer; out-is = a.out-is; work_is = all_cleared w w' w'' l z }
