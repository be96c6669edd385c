-- The walk over a compound's members, and over an array's entries: one law for each way out of them.
use Rattle.std.specs.Prelude.{Option, Some, None, Ok, Err}
use Prim.Native.Nat.{ℕ, suc, ◌+◌, ◌-◌, ◌*◌, ◌<◌, ◌≤◌}
use mathlib.Core.Path.{◌≡◌, refl}
use mathlib.Core.Bool.{◌||◌}
use mathlib.Core.List.{List}
use native.Mathlib.Omega.{arith}
use native.Mathlib.Numerals.{add-one}
use native.Mathlib.Nat.{suc-mul, mul-le-mul_right}
use lib.ListN.{length, take, drop}
use lib.Dec.{ltb}
use borrow.Author.Tests.{ltb-false}
use Rattle.format.specs.Datatype.{Datatype, Members, member, type_size_of}
use Rattle.format.specs.Image.{move_fields, field_entries, fields_of, member_fields, FieldsAgree, FieldsDiffer}
use Rattle.format.specs.Ownership.{outside, member_outside, heap_held, member_heap_held}
use Rattle.format.specs.Slots.{first_zero, member_first_zero}
use Rattle.format.specs.Table.{Found, found, bad, Walk, and_then, type_at, members_at}
use Rattle.format.proofs.Booleans.{or_neither}
use Rattle.format.proofs.Walking.{agree-none, agree_both, differ_first, differ_second, member_walked, entry_walked, entry-differs}
use Rattle.format.proofs.Slots.{or_else_none}
use Rattle.rows.specs.Entries.{member_at_of, from_member, RowNames}
use Rattle.rows.specs.declared.Member.{Member}
use Rattle.rows.proofs.Decode.{members_at-entry}
use Rattle.rows.proofs.Known.{claim_of-members}
use Rattle.compare.specs.Agreeing.{Agreed, Admitted, AdmittedIn, AnswersFields, Agrees, AgreesIn, AgreesEach, AgreesAt, AgreesMembers, AgreesEntries}
use Rattle.compare.specs.declared.Disagreement.{Disagreement}
use Rattle.compare.specs.declared.Disagreement.TheVariants.{Apart, Lost}
use Rattle.compare.proofs.Ranges.{answers-together, answers-apart}

-- ---- one member more

-- what is known of an admitted compound's first member, and of the others
pub record First (size offset : ℕ) (t : Datatype) (ms : Members) : Type 0 where
  pub type : Admitted t
  pub ends : offset + type_size_of t ≤ size
  pub others : AdmittedIn size ms

pub first_of_lem : (size : ℕ) (name : List ℕ) (offset : ℕ) (t : Datatype) (ms : Members) → AdmittedIn size (member name offset t ms) → First size offset t ms
unfolding first_zero outside heap_held
first_of_lem size name offset t ms d =
    let z = or_else_none (first_zero t) (member_first_zero ms) d.sized in
    let o = or_neither (ltb size (offset + type_size_of t)) (outside t || member_outside size ms) d.inside in
    let i = or_neither (outside t) (member_outside size ms) o.1 in
    let p = or_neither (heap_held t) (member_heap_held ms) d.plain in
    record {
      type = record { sized = z.0; inside = i.0; plain = p.0 };
      ends = ltb-false size (offset + type_size_of t) o.0;
      others = record { sized = z.1; inside = i.1; plain = p.1 };
    }

module _ (name : List ℕ) (o : ℕ) (t : Datatype) (ms : Members) (a b : List ℕ) (at : ℕ) where
  join : {next : ℕ} {x : Agreed} → FieldsAgree (move_fields (at + o) (fields_of t)) a b → AnswersFields (move_fields at (member_fields ms)) a b next x
      → AnswersFields (move_fields at (member_fields (member name o t ms))) a b next x
  join h w =
      rw (member_walked at name o t ms)
      (record {
        together = λ s e. let u = w.together s e in (agree_both (move_fields (at + o) (fields_of t)) (move_fields at (member_fields ms)) h u.0, u.1);
        apart = λ e. differ_second (move_fields (at + o) (fields_of t)) (move_fields at (member_fields ms)) (w.apart e);
        kept = w.kept;
      })

  first-apart : {next : ℕ} → FieldsDiffer (move_fields (at + o) (fields_of t)) a b → AnswersFields (move_fields at (member_fields (member name o t ms))) a b next (Err Apart)
  first-apart d = rw (member_walked at name o t ms) (answers-apart (differ_first _ _ d))

others-answer : (a b : List ℕ) (at : ℕ) (z : Agreed) (y : Found Members) (ms : Members) (r p n : ℕ) → y ≡ found ms r p → AgreesIn y a b at z → AdmittedIn n ms → at + n ≤ length a
    → AnswersFields (move_fields at (member_fields ms)) a b r z
unfolding AgreesIn
others-answer a b at z y ms r p n u v d l = rw u at v n d l

module _ (name : List ℕ) (o : ℕ) (rest : Walk Members) (a b : List ℕ) (at : ℕ) where
  -- the walk from the member on, by the walk to its type
  abbrev Behind : Found Datatype → Found Members
  Behind x = and_then x (λ t r₁ p₁. and_then (rest r₁ p₁) (λ ms r₂ p₂. found (member name o t ms) r₂ p₂))

  -- what is to be shown where a first member and others are found
  behind : (z : Agreed) (x : Found Datatype)
      → ((t : Datatype) (r p : ℕ) (ms : Members) (r' p' n : ℕ) → x ≡ found t r p → rest r p ≡ found ms r' p' → First n o t ms → at + n ≤ length a
      → AnswersFields (move_fields at (member_fields (member name o t ms))) a b r' z)
      → AgreesIn (Behind x) a b at z
  unfolding and_then
  behind z (found t r p) h = go (rest r p) refl
    where
      go : (w : Found Members) → rest r p ≡ w → AgreesIn (and_then w (λ ms r₂ p₂. found (member name o t ms) r₂ p₂)) a b at z
      go (found ms r' p') e = unfold and_then AgreesIn in λ n d l. h t r p ms r' p' n refl e (first_of_lem n name o t ms d) l
      go bad e = unfold and_then AgreesIn in tt
  behind z bad h = unfold AgreesIn in tt

  past : (z : Agreed) (x : Found Datatype) → length a - at < o → AgreesIn (Behind x) a b at z
  past z x h = behind z x (λ t r p ms r' p' n e g f l. absurd (omega (arith, f.ends)))

  module _ (x : Found Datatype) (got : Agreed) (h : Agrees x a b (at + o) got) where
    -- the first member's answer
    answer : (t : Datatype) (r p : ℕ) (ms : Members) (n : ℕ) → x ≡ found t r p → First n o t ms → at + n ≤ length a → AnswersFields (move_fields (at + o) (fields_of t)) a b r got
    unfolding Agrees
    answer t r p ms n e f l = rw e at h f.type (omega (arith, f.ends))

    lost : (z : Agreed) → got ≡ Err Lost → AgreesIn (Behind x) a b at z
    lost z q = behind z x (λ t r p ms r' p' n e g f l. absurd ((answer t r p ms n e f l).kept q))

    apart : got ≡ Err Apart → AgreesIn (Behind x) a b at (Err Apart)
    apart q = behind (Err Apart) x (λ t r p ms r' p' n e g f l. first-apart name o t ms a b at ((answer t r p ms n e f l).apart q))

    next : (z : Agreed) (s : ℕ) → got ≡ Ok s → ((p : ℕ) → AgreesIn (rest s p) a b at z) → AgreesIn (Behind x) a b at z
    next z s q v =
        behind z x (λ t r p ms r' p' n e g f l.
        let w = (answer t r p ms n e f l).together s q in
        let u : rest s p ≡ found ms r' p' = rw w.1 g in
        join name o t ms a b at w.0 (others-answer a b at z (rest s p) ms r' p' n u (v p) f.others l))

-- ---- members

-- what is answered of the members behind the first k is answered of all
pub record Leads (levels : ℕ) (table pool : List ℕ) (k r count row : ℕ) (a b : List ℕ) (at : ℕ) : Type 0 where
  pub leads : (z : Agreed) → AgreesMembers levels table pool (count - k) r a b at z → AgreesMembers levels table pool count row a b at z

pub leads-same : (levels : ℕ) (table pool : List ℕ) (count row : ℕ) (a b : List ℕ) (at : ℕ) → Leads levels table pool 0 row count row a b at
leads-same levels table pool count row a b at = let e : count - 0 ≡ count = omega arith in record { leads = λ z h. rw e at h }

module _ (table pool : List ℕ) (depth k r count row : ℕ) (a b : List ℕ) (at : ℕ) (inv : Leads (32 - depth) table pool k r count row a b at) where
  pub members_end : count ≤ k → AgreesMembers (32 - depth) table pool count row a b at (Ok r)
  members_end e =
      let k : count - k ≡ 0 = omega arith in
      inv.leads _ (record { agrees = λ p. rw k (unfold members_at AgreesIn in λ n d l. answers-together (unfold fields_of move_fields in agree-none)) })

  module _ (some_left : k < count) where
    -- how many are left behind the member at hand
    abbrev left : ℕ
    left = count - (k + 1)

    abbrev rd : Walk Datatype
    rd = type_at (32 - depth) table pool

    members_as : (z : Agreed) → ((p : ℕ) → AgreesIn (members_at rd table pool (suc left) r p) a b at z) → AgreesMembers (32 - depth) table pool count row a b at z
    members_as z h =
        let j : count - k ≡ suc left = omega arith in
        inv.leads z (record { agrees = λ p. rw j (h p) })

    pub members-deep : (z : Agreed) → 32 ≤ depth → AgreesMembers (32 - depth) table pool count row a b at z
    members-deep z h = members_as z (λ p. rw (members_at-entry table pool left r p rd) (go p (member_at_of table pool r p)))
      where
        go : (p : ℕ) (m : Option Member) → AgreesIn (from_member (type_at (32 - depth) table pool) (members_at (type_at (32 - depth) table pool) table pool left) pool r p m) a b at z
        go p (Some m) = let k : 32 - depth ≡ 0 = omega arith in rw k (unfold from_member type_at and_then AgreesIn in tt)
        go p None = unfold from_member AgreesIn in tt

    module _ {m : Option Member} (names : RowNames table r m) where
      by_member : (z : Agreed) {f : Option Member} → m ≡ f → ((p : ℕ) → AgreesIn (from_member rd (members_at rd table pool left) pool r p f) a b at z) → AgreesMembers (32 - depth) table pool count row a b at z
      by_member z e h =
          members_as z (λ p. claim_of-members table pool r p (λ (w : Found Members). AgreesIn w a b at z) (unfold AgreesIn in tt) rd left m (names.is pool p) (λ q. rw e (h p)))

      pub members_unnamed : (z : Agreed) → m ≡ None → AgreesMembers (32 - depth) table pool count row a b at z
      members_unnamed z e = by_member z e (λ p. unfold from_member AgreesIn in tt)

      module _ {v : Member} (e : m ≡ Some v) where
        members-named : (z : Agreed) → ((p : ℕ) → AgreesIn (Behind (take v.name (drop p pool)) v.number (members_at rd table pool left) a b at (rd (r + 1) (p + v.name))) a b at z)
            → AgreesMembers (32 - depth) table pool count row a b at z
        members-named z h = by_member z e (λ p. unfold from_member in (rw (add-one r) at (h p)))

        pub members-past : (z : Agreed) → length a - at < v.number → AgreesMembers (32 - depth) table pool count row a b at z
        members-past z h = members-named z (λ p. past _ v.number _ a b at z _ h)

        module _ (got : Agreed) (g : AgreesAt (32 - depth) table pool (r + 1) a b (at + v.number) got) where
          pub members-stop : (e : Disagreement) → got ≡ Err e → AgreesMembers (32 - depth) table pool count row a b at (Err e)
          members-stop Lost f = members-named (Err Lost) (λ p. lost _ v.number _ a b at _ got (g.agrees (p + v.name)) (Err Lost) f)
          members-stop Apart f = members-named (Err Apart) (λ p. apart _ v.number _ a b at _ got (g.agrees (p + v.name)) f)

          pub members-next : {s : ℕ} → got ≡ Ok s → Leads (32 - depth) table pool (k + 1) s count row a b at
          members-next {s = s} f = record { leads = λ z h. members-named z (λ p. next _ v.number _ a b at _ got (g.agrees (p + v.name)) z s f h.agrees) }

-- ---- entries

-- the first k entries agree, and behind the last of them the next row is known
unfoldable pub Done : Found Datatype → (stride k next : ℕ) (a b : List ℕ) (at : ℕ) → Type 0
Done (found t r p) stride k next a b at = Admitted t → stride ≡ type_size_of t → FieldsAgree (move_fields at (field_entries stride (fields_of t) 0 k)) a b × (0 < k → next ≡ r)
Done bad stride k next a b at = Unit {0}

-- k of so many entries are done, and the next begins at `start`
pub record Going (levels : ℕ) (table pool : List ℕ) (row stride count k start next : ℕ) (a b : List ℕ) (at : ℕ) : Type 0 where
  pub within : k ≤ count
  pub here : start ≡ at + k * stride
  pub begins : start ≤ length a
  pub done : (p : ℕ) → Done (type_at levels table pool row p) stride k next a b at

module _ (levels : ℕ) (table pool : List ℕ) (row stride count : ℕ) (a b : List ℕ) (at : ℕ) where
  pub entries-start : at ≤ length a → Going levels table pool row stride count 0 at 0 a b at
  entries-start h = record { within = omega arith; here = omega arith; begins = h; done = λ p. go (type_at levels table pool row p) }
    where
      go : (x : Found Datatype) → Done x stride 0 0 a b at
      go (found t r p) = unfold Done field_entries move_fields in λ d e. (agree-none, λ z. absurd (omega arith))
      go bad = unfold Done in tt

  module _ (k start next : ℕ) (g : Going levels table pool row stride count k start next a b at) where
    pub entries_end : count ≤ k → AgreesEntries levels table pool row stride count a b at (Ok next)
    entries_end l =
        let e : k ≡ count = omega (arith, g.within) in
        record { agrees = λ p. go (type_at levels table pool row p) (rw e at (g.done p)) }
      where
        go : (x : Found Datatype) → Done x stride count next a b at → AgreesEach x stride count a b at (Ok next)
        go (found t r p) h = unfold Done AgreesEach in λ d e n l. rw ((h d e).1 n) (answers-together (h d e).0)
        go bad h = unfold AgreesEach in tt

    module _ (some_left : k < count) where
      -- the entry at hand ends before the last does
      ends : at + count * stride ≤ length a → start + stride ≤ length a
      ends l = omega (arith, g.here, mul-le-mul_right stride some_left, suc-mul k stride)

      pub entries-past : (z : Agreed) → length a - start < stride → AgreesEntries levels table pool row stride count a b at z
      entries-past z h = record { agrees = λ p. go (type_at levels table pool row p) }
        where
          go : (x : Found Datatype) → AgreesEach x stride count a b at z
          go (found t r p) = unfold AgreesEach in λ d e n l. absurd (omega (arith, ends l))
          go bad = unfold AgreesEach in tt

      module _ (got : Agreed) (v : AgreesAt levels table pool row a b start got) where
        pub entries_stop : (e : Disagreement) → got ≡ Err e → AgreesEntries levels table pool row stride count a b at (Err e)
        entries_stop e f = record { agrees = λ p. go (type_at levels table pool row p) (v.agrees p) }
          where
            apart-here : (t : Datatype) (r : ℕ) → FieldsDiffer (move_fields start (fields_of t)) a b → AnswersFields (move_fields at (field_entries stride (fields_of t) 0 count)) a b r (Err Apart)
            apart-here t r w = answers-apart (entry-differs a b at stride (fields_of t) k count some_left (rw g.here at w))

            by_why : (t : Datatype) (r : ℕ) (q : Disagreement) → got ≡ Err q → AnswersFields (move_fields start (fields_of t)) a b r got
                → AnswersFields (move_fields at (field_entries stride (fields_of t) 0 count)) a b r (Err q)
            by_why t r Apart h w = apart-here t r (w.apart h)
            by_why t r Lost h w = absurd (w.kept h)

            go : (x : Found Datatype) → Agrees x a b start got → AgreesEach x stride count a b at (Err e)
            go (found t r p) u = unfold Agrees AgreesEach in λ d i n l. by_why t r e f (u d (omega (arith, ends l)))
            go bad u = unfold AgreesEach in tt

        pub entries_next : {s : ℕ} (k' start' : ℕ) → k' ≡ k + 1 → start' ≡ start + stride → stride ≤ length a - start → got ≡ Ok s
            → Going levels table pool row stride count k' start' s a b at
        entries_next {s = s} k' start' i j l f =
            rw (i, j)
            (record {
              within = omega arith;
              here = rw (add-one k) (omega (arith, g.here, suc-mul k stride));
              begins = omega (arith, g.begins);
              done = λ p. go (type_at levels table pool row p) (g.done p) (v.agrees p);
            })
          where
            go : (x : Found Datatype) → Done x stride k next a b at → Agrees x a b start got → Done x stride (k + 1) s a b at
            go (found t r p) h u = unfold Done Agrees in λ d e.
                let w = (u d (omega (arith, g.begins))).together s f in
                (rw (add-one k, entry_walked at stride (fields_of t) k) (agree_both _ _ (h d e).0 (rw g.here at w.0)), λ z. w.1)
            go bad h u = unfold Done in tt
