-- An enumeration's names, one a turn: the names read so far, and the laws of the loop of `read_names`.
use Rattle.std.specs.Prelude.{Err, Ok, Result}
use mathlib.Core.Path.{◌≡◌, refl, sym, ap, ◌∙◌}
use mathlib.Core.List.{List, [], ◌∷◌, ◌++◌, append_assoc, append-nil}
use Prim.Native.Nat.{ℕ, zero, suc, ◌+◌, ◌-◌, ◌*◌, ◌<◌, ◌≤◌}
use native.Mathlib.Omega.{arith}
use lib.ListN.{length, drop, length-append}
use lib.Seq.{sets, length-sets}
use Rattle.refusal.specs.declared.Refusal.{Refusal}
use Rattle.format.specs.Reading.{Answer, got, refused, then, read_name_of, read_names_of}
use Rattle.format.specs.Table.{enum_member_row}
use Rattle.format.proofs.Rows.{length-enum_member_row}
use Rattle.format.proofs.Lists.{sets_append}
use Rattle.reading.specs.declared.Cursor.{Cursor}
use Rattle.reading.specs.declared.Limits.{Limits}
use Rattle.reading.specs.Contract.{run, here, Ready, Names, name_rows, joined_names, AfterNames}
use Rattle.reading.proofs.Contracts.{lands, refuses, ready_at}

-- ---- one name more

rows_snoc : (w place : ℕ) (bs : List (List ℕ)) (b : List ℕ) → name_rows w place (bs ++ (b ∷ [])) ≡ name_rows w place bs ++ enum_member_row (place + length (joined_names bs)) (length b) w
unfolding name_rows joined_names
rows_snoc w place [] b =
    let z : place ≡ place + 0 = omega arith in
    append-nil (enum_member_row place (length b) w) ∙ ap (λ (k : ℕ). enum_member_row k (length b) w) z
rows_snoc w place (a ∷ bs) b =
    let z : place + length a + length (joined_names bs) ≡ place + length (a ++ joined_names bs) = omega (arith, length-append a (joined_names bs)) in
    ap (λ (l : List ℕ). enum_member_row place (length a) w ++ l) (rows_snoc w (place + length a) bs b ∙ ap (λ (k : ℕ). name_rows w (place + length a) bs ++ enum_member_row k (length b) w) z)
    ∙ sym (append_assoc (enum_member_row place (length a) w) (name_rows w (place + length a) bs) (enum_member_row (place + length (a ++ joined_names bs)) (length b) w))

joined_snoc : (bs : List (List ℕ)) (b : List ℕ) → joined_names (bs ++ (b ∷ [])) ≡ joined_names bs ++ b
unfolding joined_names
joined_snoc [] b = append-nil b
joined_snoc (a ∷ bs) b = ap (λ (l : List ℕ). a ++ l) (joined_snoc bs b) ∙ sym (append_assoc a (joined_names bs) b)

pub length-name_rows : (w place : ℕ) (bs : List (List ℕ)) → length (name_rows w place bs) ≡ 16 * length bs
unfolding name_rows
length-name_rows w place [] = refl
length-name_rows w place (b ∷ bs) = rw (length-append, length-enum_member_row) (omega (arith, length-name_rows w (place + length b) bs))

then-front : (x : Answer (List (List ℕ))) (front : List (List ℕ)) (b : List ℕ)
    → then (then x (λ bs at s r p. got (b ∷ bs) at s r p)) (λ bs at s r p. got (front ++ bs) at s r p) ≡ then x (λ bs at s r p. got ((front ++ (b ∷ [])) ++ bs) at s r p)
unfolding then
then-front (got bs at s r p) front b = ap (λ (l : List (List ℕ)). got l at s r p) (sym (append_assoc front (b ∷ []) bs))
then-front (refused e) front b = refl

then-none : (x : Answer (List (List ℕ))) → x ≡ then x (λ bs at s r p. got ([] ++ bs) at s r p)
unfolding then
then-none (got bs at s r p) = refl
then-none (refused e) = refl

module _ (d : List ℕ) (lim : Limits) (v at used pooled : ℕ) where
  names-none : (k : ℕ) → k ≡ 0 → run (read_names_of v k) d lim at used pooled ≡ got [] at (drop at d) (lim.rows - used) (lim.pool - pooled)
  unfolding read_names_of
  names-none zero h = refl
  names-none (suc k) h = absurd (omega arith)

  module _ (k j : ℕ) (more : k ≡ suc j) where
    names_no : (e : Refusal) → run (read_name_of v) d lim at used pooled ≡ refused e → run (read_names_of v k) d lim at used pooled ≡ refused e
    unfolding read_names_of then
    names_no e q = rw (more, q)

    names-go : (b : List ℕ) (s : Cursor) → run (read_name_of v) d lim at used pooled ≡ here b d lim s
        → run (read_names_of v k) d lim at used pooled ≡ then (run (read_names_of v j) d lim s.at s.rows s.pooled) (λ bs at s r p. got (b ∷ bs) at s r p)
    unfolding read_names_of then
    names-go b s q = rw (more, q)

-- ---- the loop

-- i names of count are read: they stand in the table and the pool, and the whole answer is that of the rest behind them
pub record NamesRead (d : List ℕ) (lim : Limits) (v count width : ℕ) (start : Cursor) (t p : List ℕ) (i : ℕ) (c : Cursor) (t' p' : List ℕ) : Type 0 where
  pub front : List (List ℕ)
  pub many : length front ≡ i
  pub left : i ≤ count
  pub is : run (read_names_of v count) d lim start.at start.rows start.pooled ≡ then (run (read_names_of v (count - i)) d lim c.at c.rows c.pooled) (λ bs at s r p. got (front ++ bs) at s r p)
  pub rows_are : c.rows ≡ start.rows + i
  pub pooled_are : c.pooled ≡ start.pooled + length (joined_names front)
  pub table : t' ≡ sets t (start.rows * 16) (name_rows width start.pooled front)
  pub pool : p' ≡ sets p start.pooled (joined_names front)
  pub same-table : length t' ≡ length t
  pub same-pool : length p' ≡ length p
  pub ready : Ready lim c.rows c.pooled t' p'
  pub near : c.at ≤ length d + 7

module _ {d : List ℕ} {lim : Limits} {v count width : ℕ} {start : Cursor} {t p : List ℕ} where
  pub names-begun : Ready lim start.rows start.pooled t p → start.at ≤ length d + 7 → NamesRead d lim v count width start t p 0 start t p
  unfolding name_rows joined_names
  names-begun r h =
      let z : count ≡ count - 0 = omega arith in
      record {
        front = [];
        many = refl;
        left = omega arith;
        is = then-none (run (read_names_of v count) d lim start.at start.rows start.pooled) ∙ ap (λ (k : ℕ). then (run (read_names_of v k) d lim start.at start.rows start.pooled) (λ bs at s r p. got ([] ++ bs) at s r p)) z;
        rows_are = omega arith;
        pooled_are = omega arith;
        table = refl;
        pool = refl;
        same-table = refl;
        same-pool = refl;
        ready = r;
        near = h;
      }

  module _ {i : ℕ} {c : Cursor} {t₁ p₁ : List ℕ} (w : NamesRead d lim v count width start t p i c t₁ p₁) where
    pub names-ended : count ≤ i → AfterNames count width (run (read_names_of v count) d lim start.at start.rows start.pooled) d lim start.rows start.pooled (Ok c) t t₁ p p₁
    unfolding then
    names-ended h =
        let m = w.many in
        let l = w.left in
        let z : count - i ≡ 0 = omega arith in
        lands (record {
          tree = w.front;
          such = omega arith;
          is = w.is ∙ rw (names-none d lim v c.at c.rows c.pooled (count - i) z, append-nil w.front);
          rows_are = w.rows_are ∙ ap (λ (k : ℕ). start.rows + k) (sym m);
          pooled_are = w.pooled_are;
          table = w.table;
          pool = w.pool;
          ready = w.ready;
          near = w.near;
        })

    module _ {x : Result Cursor Refusal} {t₂ p₂ : List ℕ} (more : i < count) (y : Names d lim v width c x t₁ t₂ p₁ p₂) where
      pub names-stopped : {e : Refusal} → x ≡ Err e → AfterNames count width (run (read_names_of v count) d lim start.at start.rows start.pooled) d lim start.rows start.pooled (Err e) t t₂ p p₂
      unfolding then
      names-stopped {e} q = refuses (w.is ∙ rw (names_no d lim v c.at c.rows c.pooled (count - i) (count - (i + 1)) (omega arith) e (y.stopped e q)))

      pub names-turned : {s : Cursor} → x ≡ Ok s → NamesRead d lim v count width start t p (i + 1) s t₂ p₂
      names-turned {s} q =
          let n = y.named s q in
          let b = n.name in
          let f = w.front in
          let m = w.many in
          let ru = w.rows_are in
          let rs = n.rows_are in
          let pu = w.pooled_are in
          let ps = n.pooled_are in
          let ej : joined_names (f ++ (b ∷ [])) ≡ joined_names f ++ b = joined_snoc f b in
          let er : name_rows width start.pooled (f ++ (b ∷ [])) ≡ name_rows width start.pooled f ++ enum_member_row c.pooled (length b) width
          = rows_snoc width start.pooled f b ∙ ap (λ (k : ℕ). name_rows width start.pooled f ++ enum_member_row k (length b) width) (sym pu) in
          let lt : length t₂ ≡ length t₁ = ap length n.table ∙ length-sets t₁ (c.rows * 16) (enum_member_row c.pooled (length b) width) in
          let lp : length p₂ ≡ length p₁ = ap length n.pool ∙ length-sets p₁ c.pooled b in
          let place : c.rows * 16 ≡ start.rows * 16 + length (name_rows width start.pooled f) = omega (arith, length-name_rows width start.pooled f) in
          record {
            front = f ++ (b ∷ []);
            many = omega (arith, length-append f (b ∷ []));
            left = omega arith;
            is = w.is
                ∙ ap (λ (o : Answer (List (List ℕ))). then o (λ bs at s r p. got (f ++ bs) at s r p)) (names-go d lim v c.at c.rows c.pooled (count - i) (count - (i + 1)) (omega arith) b s n.is)
                ∙ then-front (run (read_names_of v (count - (i + 1))) d lim s.at s.rows s.pooled) f b;
            rows_are = omega arith;
            pooled_are = omega (arith, ap length ej, length-append (joined_names f) b);
            table = n.table
                ∙ ap (λ (l : List ℕ). sets l (c.rows * 16) (enum_member_row c.pooled (length b) width)) w.table
                ∙ ap (λ (k : ℕ). sets (sets t (start.rows * 16) (name_rows width start.pooled f)) k (enum_member_row c.pooled (length b) width)) place
                ∙ sym (sets_append (name_rows width start.pooled f) (enum_member_row c.pooled (length b) width) t (start.rows * 16))
                ∙ ap (sets t (start.rows * 16)) (sym er);
            pool = n.pool
                ∙ ap (λ (l : List ℕ). sets l c.pooled b) w.pool
                ∙ ap (λ (k : ℕ). sets (sets p start.pooled (joined_names f)) k b) pu
                ∙ sym (sets_append (joined_names f) b p start.pooled)
                ∙ ap (sets p start.pooled) (sym ej);
            same-table = lt ∙ w.same-table;
            same-pool = lp ∙ w.same-pool;
            ready = ready_at s.rows s.pooled w.ready n.filled n.room lt lp;
            near = n.near;
          }
