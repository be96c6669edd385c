-- What `write_and_read` promises, from what `write` and `read` promise.
use Rattle.std.specs.Prelude.{Result, Ok, Err}
use Prim.Native.Nat.{ℕ, ◌*◌, ◌<◌, ◌≤◌}
use mathlib.Core.Path.{◌≡◌, refl, sym, ap, ◌∙◌}
use mathlib.Core.Bool.{true}
use mathlib.Core.List.{List, [], ◌∷◌, ◌++◌}
use native.Mathlib.Omega.{arith}
use lib.ListN.{length, take, drop, get_or}
use lib.Seq.{take_at}
use Rattle.refusal.specs.Refusal.{number_of, values_of, answer_number, answer_values}
use Rattle.refusal.specs.declared.Refusal.{Refusal}
use Rattle.refusal.specs.declared.Refusal.TheVariants.{TooNew}
use Rattle.format.specs.Bytes.{padded}
use Rattle.format.specs.Datatype.{Datatype, row_count, pool_bytes}
use Rattle.format.specs.Message.{message, storable, carried, writing}
use Rattle.format.specs.Outcome.{Outcome, gives, refuses, output_after, answer_of}
use Rattle.format.specs.Table.{SetsOut, type_of, rows, table_of, pool_of}
use Rattle.format.proofs.Bytes.{all-bytes}
use Rattle.format.proofs.Rows.{length-rows}
use Rattle.format.proofs.Table.{type_of_sound}
use Rattle.format.proofs.Written.{length-message, writing_type-given, writing-found}
use Rattle.reading.specs.Reads.{Reads}
use Rattle.reading.proofs.Promises.{Refuses, GivesBack, Written as Supposed, written_too_new, written-reads-back}
use Rattle.writer.specs.Writes.{Writes}
use Rattle.round_trip.specs.Back.{NotWritten, TooNewBack, SameBack, Back}

no_gives : {m : List ℕ} {e : Refusal} → ◌≡◌ {A = Outcome (List ℕ)} (gives m) (refuses e) → ⊥
no_gives h = let z : ◌≡◌ {A = ℕ} 0 1 = cc in omega arith

same_refusal : {e f : Refusal} → ◌≡◌ {A = Outcome (List ℕ)} (refuses e) (refuses f) → e ≡ f
same_refusal h = cc

-- a storable type that the edition carries is written where the buffer holds it
is-written : (table pool : List ℕ) (e room : ℕ) (t : Datatype) → type_of table pool ≡ gives t → (1 ≤ e) × (e ≤ 3) → storable t ≡ true → carried e t ≡ true
    → length (message e t) ≤ room → writing table pool e room ≡ gives (message e t)
is-written table pool e room t h b s c l =
    writing-found table pool e room t h ∙ writing_type-given e room t b.0 b.1 s c (omega (arith, length-message e t))

-- the words of a type at the front of the table that sets it out, and its bytes at the front of the pool
front-rows : {t : Datatype} {table pool : List ℕ} → SetsOut t table pool → take (16 * row_count t) table ≡ rows 0 t
unfolding padded
front-rows {t = t} {table = table} h = ap (take (16 * row_count t)) h.table_is ∙ take_at (rows 0 t) _ (16 * row_count t) (length-rows t 0)

front-pool : {t : Datatype} {table pool : List ℕ} → SetsOut t table pool → take (length (pool_bytes t)) pool ≡ pool_bytes t
unfolding padded
front-pool {t = t} {pool = pool} h = ap (take (length (pool_bytes t))) h.pool-is ∙ take_at (pool_bytes t) _ (length (pool_bytes t)) refl

-- ---- the two ways out

is-refused : {e f : Refusal} {buffer buffer' t p : List ℕ} → e ≡ f → buffer' ≡ buffer → NotWritten f (Err e) buffer buffer' t t p p
unfolding answer_number answer_values
is-refused i b = record { answer = ap Err i; number = ap number_of i; values = ap values_of i; buffer_is = b; table_is = refl; pool-is = refl }

module _ (table pool : List ℕ) (edition limit : ℕ) (buffer t p : List ℕ) where
  -- writing is refused
  pub not_written : {w : Result ℕ Refusal} {e : Refusal} {buffer' : List ℕ} → Writes table pool edition w buffer buffer' → w ≡ Err e
      → Back table pool edition limit (Err e) buffer buffer' t t p p
  unfolding answer_of output_after
  not_written {w = w} {e = e} {buffer' = buffer'} a x = go (writing table pool edition (length buffer)) refl
    where
      go : (o : Outcome (List ℕ)) → writing table pool edition (length buffer) ≡ o → Back table pool edition limit (Err e) buffer buffer' t t p p
      go (gives m) k =
          let q : ◌≡◌ {A = Result ℕ Refusal} (Err e) (Ok (length m)) = sym x ∙ (rw k at a.answers.answer) in
          cc
      go (refuses f) k =
          let q : ◌≡◌ {A = Result ℕ Refusal} (Err e) (Err f) = sym x ∙ (rw k at a.answers.answer) in
          let i : e ≡ f = cc in
          let b : buffer' ≡ buffer = rw k at a.out-is in
          record {
            refused = λ g h. is-refused (i ∙ same_refusal (sym k ∙ h)) b;
            written = λ m h. absurd (no_gives (sym h ∙ k));
            too_new = λ type v h e' s c l n m q. absurd (no_gives (sym (is-written table pool edition (length buffer) type h e' s c l) ∙ k));
            back = λ type h e' s c l n m q. absurd (no_gives (sym (is-written table pool edition (length buffer) type h e' s c l) ∙ k));
          }

  module _ {w r : Result ℕ Refusal} {n : ℕ} {buffer' t' p' : List ℕ} (small : (i : ℕ) → get_or pool i 0 < 256)
      (a : Writes table pool edition w buffer buffer') (j : w ≡ Ok n) (h : Reads limit buffer' t p r t' p') where
    supposed : (type : Datatype) → type_of table pool ≡ gives type → (1 ≤ edition) × (edition ≤ 3) → storable type ≡ true → carried edition type ≡ true
        → length (message edition type) ≤ length buffer → 16 * row_count type ≤ length t → length (pool_bytes type) ≤ length p
        → Supposed edition type buffer' (drop (length (message edition type)) buffer) t p
    unfolding output_after
    supposed type g b s c l n m =
        record {
          is = rw (is-written table pool edition (length buffer) type g b s c l) at a.out-is;
          edition = (omega (arith, b.0), b.1);
          may_be_stored = s;
          may_be_carried = c;
          within = (type_of_sound table pool type (all-bytes pool small) g).within;
          rows_fit = n;
          pool-fits = m;
        }

    -- what was written is read, or refused
    pub answered : Back table pool edition limit r buffer buffer' t t' p p'
    unfolding answer_of output_after table_of pool_of answer_number answer_values
    answered =
        record {
          refused = λ e g. absurd (went e g);
          written = λ m g.
              record {
                buffer_is = put m g;
                answers = record { answer = h.answer; number = h.number; values = h.values };
                table_is = h.table_is;
                pool-is = h.pool-is;
              };
          too_new = λ type v g b s c l n m q. new (written_too_new h (supposed type g b s c l n m) v q);
          back = λ type g b s c l n m q. old type (type_of_sound table pool type (all-bytes pool small) g) (written-reads-back h (supposed type g b s c l n m) q);
        }
      where
        went : (e : Refusal) → writing table pool edition (length buffer) ≡ refuses e → ⊥
        went e g =
            let q : ◌≡◌ {A = Result ℕ Refusal} (Ok n) (Err e) = sym j ∙ (rw g at a.answers.answer) in
            cc

        put : (m : List ℕ) → writing table pool edition (length buffer) ≡ gives m → buffer' ≡ m ++ drop (length m) buffer
        put m g = rw g at a.out-is

        new : {v : ℕ} → Refuses (TooNew v) t p r t' p' → TooNewBack v r t t' p p'
        new x =
            record { answer = x.answer; number = ap answer_number x.answer; values = ap (answer_values (λ n. n ∷ [])) x.answer; table_is = x.table_is; pool-is = x.pool-is }

        old : (type : Datatype) → SetsOut type table pool → GivesBack type (length (message edition type)) t p r t' p' → SameBack type edition table pool r t t' p p'
        old type o x =
            record {
              answer = x.answer;
              number = ap answer_number x.answer;
              values = ap (answer_values (λ n. n ∷ [])) x.answer;
              table_is = x.table_is ∙ ap (padded (length t)) (sym (front-rows o));
              pool-is = x.pool-is ∙ ap (padded (length p)) (sym (front-pool o));
            }

    -- the same, by the length or the refusal
    pub answered_length : {k : ℕ} → r ≡ Ok k → Back table pool edition limit (Ok k) buffer buffer' t t' p p'
    answered_length e = rw (← e) answered

    pub answered_refusal : {e : Refusal} → r ≡ Err e → Back table pool edition limit (Err e) buffer buffer' t t' p p'
    answered_refusal e = rw (← e) answered
