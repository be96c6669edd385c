-- What a caller of `duplicates` may rely on, in document 02's words, from its contract alone.
use Prim.Native.Nat.{ℕ}
use mathlib.Core.Path.{◌≡◌, sym, ap, ◌∙◌}
use mathlib.Core.List.{List, ◌++◌}
use lib.ListN.{length, drop}
use Rattle.refusal.specs.declared.Refusal.{Refusal}
use Rattle.format.specs.Outcome.{Outcome, gives, refuses, when_given, output_after}
use Rattle.groups.specs.Duplicates.{Groups as GroupLists, duplicating}
use Rattle.groups.proofs.Duplicates.{DuplicatesExactly, duplicates_exactly}
use Rattle.duplicates.specs.Answers.{groups_told, numbers_given, sizes_given, DuplicatesAre}
use Rattle.duplicates.specs.declared.Groups.{Groups}
use Rattle.format.proofs.Outcomes.{answer-gives, answer-refuses}
use Rattle.std.specs.Prelude.{Result, Ok, Err}

-- a result: the groups as document 02 has them, at the front of both lists, and nothing past them
pub record FoundExactly (table pool block : List ℕ) (n d : ℕ) (numbers numbers' sizes sizes' : List ℕ) : Type 0 where
  pub groups : GroupLists
  pub exactly : DuplicatesExactly table pool block groups
  pub records : n ≡ length groups.numbers
  pub distinct : d ≡ length groups.sizes
  pub numbers-are : numbers' ≡ groups.numbers ++ drop n numbers
  pub sizes-are : sizes' ≡ groups.sizes ++ drop d sizes

told-lengths : (g : GroupLists) (n d : ℕ) → record { records = n; distinct = d } ≡ groups_told g → (n ≡ length g.numbers) × (d ≡ length g.sizes)
unfolding groups_told
told-lengths g n d e = (ap (λ (x : Groups). x.records) e, ap (λ (x : Groups). x.distinct) e)

numbers-given : (o : Outcome GroupLists) (g : GroupLists) (old : List ℕ) → o ≡ gives g → output_after old (numbers_given o) ≡ g.numbers ++ drop (length g.numbers) old
unfolding output_after numbers_given when_given
numbers-given o g old h = rw h

sizes-given : (o : Outcome GroupLists) (g : GroupLists) (old : List ℕ) → o ≡ gives g → output_after old (sizes_given o) ≡ g.sizes ++ drop (length g.sizes) old
unfolding output_after sizes_given when_given
sizes-given o g old h = rw h

numbers-kept : (o : Outcome GroupLists) (e : Refusal) (old : List ℕ) → o ≡ refuses e → output_after old (numbers_given o) ≡ old
unfolding output_after numbers_given when_given
numbers-kept o e old h = rw h

sizes-kept : (o : Outcome GroupLists) (e : Refusal) (old : List ℕ) → o ≡ refuses e → output_after old (sizes_given o) ≡ old
unfolding output_after sizes_given when_given
sizes-kept o e old h = rw h

module _ (table pool block m m' s s' w w' : List ℕ) (r : Result Groups Refusal) (c : DuplicatesAre (duplicating table pool block (length m) (length s)) r m m' s s' w w') where
  pub found-exactly : (n d : ℕ) → r ≡ Ok (record { records = n; distinct = d }) → FoundExactly table pool block n d m m' s s'
  found-exactly n d e =
      let g = answer-gives groups_told (duplicating table pool block (length m) (length s)) (record { records = n; distinct = d }) (sym e ∙ c.answers.answer) in
      let h = told-lengths g.0 n d g.2 in
      record {
        groups = g.0;
        exactly = duplicates_exactly table pool block (length m) (length s) g.0 g.1;
        records = h.0;
        distinct = h.1;
        numbers-are = c.numbers-are ∙ numbers-given _ g.0 m g.1 ∙ ap (λ (k : ℕ). g.0.numbers ++ drop k m) (sym h.0);
        sizes-are = c.sizes-are ∙ sizes-given _ g.0 s g.1 ∙ ap (λ (k : ℕ). g.0.sizes ++ drop k s) (sym h.1);
      }

  -- a refusal leaves both lists as they were
  pub refused_untouched : (e : Refusal) → r ≡ Err e → (m' ≡ m) × (s' ≡ s)
  refused_untouched e h =
      let k = answer-refuses groups_told (duplicating table pool block (length m) (length s)) e (sym h ∙ c.answers.answer) in
      (c.numbers-are ∙ numbers-kept _ e m k, c.sizes-are ∙ sizes-kept _ e s k)

  -- the result does not depend on the workspace
  pub no_workspace_matters : (m'' s'' v v' : List ℕ) (q : Result Groups Refusal) → DuplicatesAre (duplicating table pool block (length m) (length s)) q m m'' s s'' v v' → (r ≡ q) × (m' ≡ m'') × (s' ≡ s'')
  no_workspace_matters m'' s'' v v' q k = (c.answers.answer ∙ sym k.answers.answer, c.numbers-are ∙ sym k.numbers-are, c.sizes-are ∙ sym k.sizes-are)
