-- Laws of the answer, one for each way out.
use Prim.Native.Nat.{ℕ, suc, ◌+◌, ◌<◌, ◌≤◌}
use mathlib.Core.Path.{◌≡◌, refl, sym, ap, ◌∙◌}
use mathlib.Core.Bool.{Bool, true, false, cond}
use mathlib.Core.List.{List, [], ◌∷◌, append-nil}
use native.Mathlib.Omega.{arith}
use lib.ListN.{length, get_or, take, drop_of_length-le}
use lib.Seq.{sets, take_all}
use lib.Dec.{ltb, eqb}
use borrow.Author.Tests.{lt-ltb, le-ltb}
use Rattle.refusal.specs.declared.Refusal.TheVariants.{NoRoom}
use Rattle.format.proofs.Lists.{sets-front}
use Rattle.std.proofs.lemmas.List.Recursion.{is_count_by}
use Rattle.groups.specs.Groups.{count, firsts_to, sizes_to, firsts_of, distinct_of}
use Rattle.groups.proofs.Firsts.{length-numbers}
use Rattle.groups.proofs.Counts.{length-sizes}
use Rattle.groups.proofs.Ways.{numbers-all}
use Rattle.firsts.specs.Found.{Standing, numbers_in}
use Rattle.firsts.specs.Records.{keys_in}
use Rattle.firsts.specs.declared.found.Found.{Found}
use Rattle.duplicates.specs.Answers.{fitting_answer, written, Listed}
use Rattle.duplicates.specs.Numbering.{Numbered}
use Rattle.duplicates.specs.declared.Groups.{Groups}
use Rattle.refusal.specs.declared.Refusal.{Refusal}
use Rattle.std.specs.Prelude.{Result, Ok, Err, Some, count_by}

-- ---- the records listed

-- a list stored over one as long
sets-whole : (vs l : List ℕ) → length vs ≡ length l → sets l 0 vs ≡ vs
sets-whole vs l e = sets-front vs l (omega arith) ∙ rw (drop_of_length-le l {i = length vs} (omega arith)) (append-nil vs)

module _ (ns : List ℕ) (n d : ℕ) (m s : List ℕ) (e : length ns ≡ n) (g : d ≡ length (firsts_to ns n)) where
  groups : d ≡ length (firsts_to ns (length ns))
  groups = g ∙ ap (λ (k : ℕ). length (firsts_to ns k)) (sym e)

  pub listed-full : length s < d → Listed ns (Err (NoRoom d)) m m s s
  unfolding fitting_answer written
  listed-full h =
      let q : ltb (length s) (length (firsts_to ns (length ns))) ≡ true = rw (← groups) (lt-ltb (length s) d h) in
      record { answer = rw q (ap (λ (k : ℕ). Err (NoRoom k)) groups); numbers-are = refl; sizes-are = refl }

  pub listed_found : (m' s' : List ℕ) → d ≤ length s → n ≤ length m → m' ≡ sets m 0 ns → s' ≡ sets s 0 (sizes_to ns n) → Listed ns (Ok (record { records = n; distinct = d })) m m' s s'
  unfolding fitting_answer written
  listed_found m' s' h r a b =
      let q : ltb (length s) (length (firsts_to ns (length ns))) ≡ false = rw (← groups) (le-ltb (length s) d h) in
      let t : ◌≡◌ {A = Result Groups Refusal} (Ok (record { records = n; distinct = d })) (Ok (record { records = length ns; distinct = length (firsts_to ns (length ns)) })) = rw (e, g) in
      record {
        answer = rw q t;
        numbers-are = a ∙ sets-front ns m (omega arith);
        sizes-are = b ∙ rw (← e) (sets-front (sizes_to ns (length ns)) s (omega (arith, groups, length-sizes ns (length ns))));
      }

-- by the firsts found
module _ (f : Found) (g : Standing f) (d : ℕ) (e : d ≡ distinct_of (keys_in f.table.now f.pool.now f.records)) where
  long : length (numbers_in f) ≡ f.n
  long = length-numbers (keys_in f.table.now f.pool.now f.records) ∙ sym g.count

  found-groups : d ≡ length (firsts_to (numbers_in f) f.n)
  unfolding distinct_of firsts_of
  found-groups = e ∙ rw g.count

  pub groups-full : (m s : List ℕ) → length s < d → Listed (numbers_in f) (Err (NoRoom d)) m m s s
  groups-full m s h = listed-full (numbers_in f) f.n d m s long found-groups h

  module _ (ns : List ℕ) (q : Numbered f ns) where
    pub groups-room : (room : ℕ) → d ≤ room → length (firsts_to ns f.n) ≤ room
    groups-room room h = rw q.numbers (omega (arith, found-groups))

    pub groups-listed : (m s s' : List ℕ) → length m ≡ f.n → d ≤ length s → s' ≡ sets s 0 (sizes_to ns f.n) → Listed (numbers_in f) (Ok (record { records = f.n; distinct = d })) m ns s s'
    groups-listed m s s' l h b =
        let a : ns ≡ sets m 0 (numbers_in f) = q.numbers ∙ sym (sets-whole (numbers_in f) m (long ∙ sym l)) in
        listed_found (numbers_in f) f.n d m s long found-groups ns s' h (omega arith) a (b ∙ ap (λ (x : List ℕ). sets s 0 (sizes_to x f.n)) q.numbers)

-- every number stored
pub all-numbered : (f : Found) (k : ℕ) (m ns : List ℕ) → Standing f → length m ≡ f.n → f.n ≤ k → ns ≡ sets m 0 (take k (numbers_in f)) → Numbered f ns
all-numbered f k m ns g l h e =
    let keys = keys_in f.table.now f.pool.now f.records in
    record { standing = g; numbers = numbers-all keys m ns f.n k e g.count h ∙ sets-whole (numbers_in f) m (length-numbers keys ∙ sym g.count ∙ sym l) }

-- ---- the sizes, by the numbers stored

-- counted by a test of each entry
one_more : (b : Bool) (n : ℕ) → cond b (suc n) n ≡ cond b (1 + n) n
one_more true n = omega arith
one_more false n = refl

count-none : (x : ℕ) → count x [] ≡ 0
unfolding count
count-none x = refl

count-next : (x y : ℕ) (l : List ℕ) → count x (y ∷ l) ≡ cond (eqb y x) (1 + count x l) (count x l)
unfolding count
count-next x y l = one_more (eqb y x) (count x l)

pub size-counted : (x c : ℕ) (l : List ℕ) → c ≡ count_by (λ y. eqb y x) l → c ≡ count x l
size-counted x c l e = e ∙ sym (is_count_by (count x) (λ y. eqb y x) (count-none x) (count-next x) l)

-- or as it stands in the workspace
module _ (f : Found) (ns : List ℕ) (q : Numbered f ns) (heads : ℕ) (r : f.buckets ≡ Some heads) where
  numbers-long : length ns ≡ f.n
  numbers-long = rw q.numbers (length-numbers (keys_in f.table.now f.pool.now f.records) ∙ sym q.standing.count)

  pub size-room : heads + f.n + f.n ≤ length f.work.now
  size-room = (q.standing.known.tallied heads r).room

  pub size-known : (k : ℕ) → k < f.n → get_or f.work.now (heads + k) 0 ≡ count k ns
  size-known k h = (q.standing.known.tallied heads r).counts k h ∙ ap (count k) (rw (← q.numbers) (take_all f.n ns (omega (arith, numbers-long))))

-- a number stands for each record
pub number-there : (f : Found) (ns : List ℕ) → Numbered f ns → length ns ≡ f.n
number-there f ns q = rw q.numbers (length-numbers (keys_in f.table.now f.pool.now f.records) ∙ sym q.standing.count)
