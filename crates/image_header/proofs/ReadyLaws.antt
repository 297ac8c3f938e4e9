-- The exponents of a header stay some that are permitted, and the row of the next field is there.
use Rattle.std.specs.Prelude.{Ok, Err}
use Rattle.numbers.proofs.Kit.{◌≡◌, refl, sym, ap, ◌∙◌, subst, Bool, true, false, cond, List, ℕ, zero, suc, ◌-◌, ◌^◌, ◌≤◌, ◌<◌, min, arith, eqb}
use Rattle.numbers.proofs.Kit.{ltb, ltb-true, eqb-true}
use Rattle.numbers_coded.specs.declared.Coded.{Coded}
use Rattle.numbers_coded.specs.declared.Damage.{Damage}
use Rattle.numbers_coded.specs.At.{Number, plain}
use Rattle.numbers_coded.specs.At.Number.{Value, Fault}
use Rattle.numbers_coded.proofs.FromLaws.{good-is, bad-is, took}
use Rattle.image.specs.ImageFormat.{top_rlen, top_mlen, least_mlen}
use Rattle.image.proofs.ImageLaws.{top-rlen, top-mlen, least_above}
use Rattle.image_header.specs.declared.Fields.{Fields}
use Rattle.image_header.specs.declared.Row.TheVariants.{Span, Mtype, Count, Ranges}
use Rattle.image_header.specs.declared.Row.{Row}
use Rattle.image_header.specs.Fields.{onward, first_field, FieldsOk, Ready, least_rule, row_at, row_of, fields_with, RowOk, number_in, put_field, after, moved_to, field_read, with_row, field_from, fields_all, read_in, fields_in}
use Rattle.image_header.proofs.FieldLaws.{after_more}

pub row_ok : (t : Fields) → FieldsOk t → RowOk (row_of t)
unfolding row_at
row_ok t ok = go (eqb t.next 0) (eqb t.next 1) (eqb t.next 2) (eqb t.next 3) (eqb t.next 4) (eqb t.next 5) (eqb t.next 6) (eqb t.next 7) (eqb t.next 8) (eqb t.next 9) (eqb t.next 10)
  where
    go : (a b c d e f g h i j k : Bool) → RowOk (cond a (Span 1 4) (cond b (Span (least_rule t.version) 1) (cond c (Span 5 6) (cond d (Span (suc t.elen) (top_rlen t.version)) (cond e (Span (least_mlen t.version t.elen t.rlen) (top_mlen t.version)) (cond f (Mtype t.elen) (cond g (Span 0 (2 ^ (t.mlen - t.rlen))) (cond h (Span 0 (min (2 ^ (t.mlen - t.rlen)) (2 ^ (t.rlen - 3)))) (cond i (Span 0 (2 ^ (t.rlen - 3))) (cond j Count (cond k (Ranges t.seals) (Span 0 (2 ^ t.mlen)))))))))))))
    go true b c d e f g h i j k = tt
    go false true c d e f g h i j k = tt
    go false false true d e f g h i j k = tt
    go false false false true e f g h i j k = tt
    go false false false false true f g h i j k = tt
    go false false false false false true g h i j k = ok.elen-ok
    go false false false false false false true h i j k = tt
    go false false false false false false false true i j k = tt
    go false false false false false false false false true j k = tt
    go false false false false false false false false false true k = tt
    go false false false false false false false false false false true = tt
    go false false false false false false false false false false false = tt

module _ (s : List ℕ) (at : ℕ) (t : Fields) (low : t.next < 12) (ready : Ready t) (n a : ℕ) (read : number_in s at t.row ≡ Value n a) where
  ok : FieldsOk t
  ok = ready.sizes-ok

  q : number_in s at (row_of t) ≡ Value n a
  q = ap (number_in s at) (sym (ready.row_is low)) ∙ read

  elen-read : t.next ≡ 2 → (5 ≤ n) × (n ≤ 6)
  unfolding row_at number_in
  elen-read e = let w = took s at 5 6 n a (rw e at q) in (w.least, w.most)

  rlen-read : t.next ≡ 3 → (6 ≤ n) × (n ≤ 12)
  unfolding row_at number_in
  rlen-read e = let w = took s at (suc t.elen) (top_rlen t.version) n a (rw e at q) in (omega (arith, w.least, ok.elen-ok), omega (arith, w.most, top-rlen t.version))

  mlen-read : t.next ≡ 4 → (t.rlen < n) × (n ≤ 16)
  unfolding row_at number_in
  mlen-read e =
      let w = took s at (least_mlen t.version t.elen t.rlen) (top_mlen t.version) n a (rw e at q) in
      (omega (arith, w.least, least_above t.version t.elen t.rlen ok.rlen-ok.1), omega (arith, w.most, top-mlen t.version))

  pub put-ok : FieldsOk (field_read t n a)
  unfolding put_field
  put-ok = record {
    elen-ok = go-elen (eqb t.next 2) refl;
    rlen-ok = go-rlen (eqb t.next 3) refl;
    mlen-ok = go-mlen (eqb t.next 3) refl (eqb t.next 4) refl;
  }
    where
      go-elen : (u : Bool) → eqb t.next 2 ≡ u → (5 ≤ cond u n t.elen) × (cond u n t.elen ≤ 6)
      go-elen true e = elen-read (eqb-true t.next 2 e)
      go-elen false e = ok.elen-ok

      go-rlen : (u : Bool) → eqb t.next 3 ≡ u → (6 ≤ cond u n t.rlen) × (cond u n t.rlen ≤ 12)
      go-rlen true e = rlen-read (eqb-true t.next 3 e)
      go-rlen false e = ok.rlen-ok

      go-mlen : (u : Bool) → eqb t.next 3 ≡ u → (w : Bool) → eqb t.next 4 ≡ w → (cond u n t.rlen < cond w n t.mlen) × (cond w n t.mlen ≤ 16)
      go-mlen true e true i = absurd (omega (arith, eqb-true t.next 3 e, eqb-true t.next 4 i))
      go-mlen true e false i =
          let three : t.next ≡ 3 = eqb-true t.next 3 e in
          let m : t.mlen ≡ 16 = ready.mlen-most (omega arith) in
          (omega (arith, rlen-read three), ok.mlen-ok.1)
      go-mlen false e true i = mlen-read (eqb-true t.next 4 i)
      go-mlen false e false i = ok.mlen-ok

  put-ready : Ready (with_row (field_read t n a))
  unfolding put_field
  put-ready = record {
    sizes-ok = record { elen-ok = put-ok.elen-ok; rlen-ok = put-ok.rlen-ok; mlen-ok = put-ok.mlen-ok };
    mlen-most = λ l. go-most (eqb t.next 4) refl (omega (arith, l, after_more t.next (put_field t n).version));
    row_is = λ _. refl;
  }
    where
      go-most : (w : Bool) → eqb t.next 4 ≡ w → t.next ≤ 3 → cond w n t.mlen ≡ 16
      go-most true i l = absurd (omega (arith, eqb-true t.next 4 i))
      go-most false i l = ready.mlen-most (omega arith)

-- one field, as the code has it
module _ (s : List ℕ) (at : ℕ) (t : Fields) where
  pub field-bad : {d : Damage} → Err d ≡ plain (number_in s at t.row) → moved_to 13 d.at t ≡ field_from s at t
  unfolding field_from
  field-bad is = rw (bad-is (number_in s at t.row) is)

  module _ (n : Coded) (is : Ok n ≡ plain (number_in s at t.row)) (x : Fields) (ex : x ≡ put_field t n.value) (next : ℕ) (en : next ≡ after t.next x.version) where
    read_is : moved_to next n.at x ≡ field_read t n.value n.at
    read_is = rw (en, ex)

    pub field-sizes : t.next < 12 → Ready t → FieldsOk (moved_to next n.at x)
    field-sizes low ready = subst FieldsOk (sym read_is) (put-ok s at t low ready n.value n.at (good-is (number_in s at t.row) is))

    pub field-good : (w : Row) → w ≡ row_of (moved_to next n.at x) → fields_with w next n.at x.version x.rule x.elen x.rlen x.mlen x.mtype x.tile_m x.tile_k x.tile_n x.seals x.seals_at x.runs ≡ field_from s at t
    unfolding field_from
    field-good w ew = rw (good-is (number_in s at t.row) is, ew, en, ex)

pub field-ready : (s : List ℕ) (at : ℕ) (t : Fields) → t.next < 12 → Ready t → Ready (field_from s at t)
unfolding field_from
field-ready s at t low ready = go (number_in s at t.row) refl
  where
    go : (q : Number) → number_in s at t.row ≡ q → Ready (onward q (λ p. moved_to 13 p t) (λ n a. with_row (field_read t n a)))
    go (Value n a) e = put-ready s at t low ready n a e
    go (Fault p) e = record {
      sizes-ok = record { elen-ok = ready.sizes-ok.elen-ok; rlen-ok = ready.sizes-ok.rlen-ok; mlen-ok = ready.sizes-ok.mlen-ok };
      mlen-most = λ l. absurd (omega (arith, l));
      row_is = λ l. absurd (omega (arith, l));
    }

all-ready : (s : List ℕ) (k : ℕ) (t : Fields) → Ready t → Ready (fields_all s k t)
unfolding fields_all
all-ready s zero t ok = ok
all-ready s (suc k) t ok = go (ltb t.next 12) refl (λ l. all-ready s k (field_from s t.at t) (field-ready s t.at t l ok))
  where
    go : (u : Bool) → ltb t.next 12 ≡ u → (t.next < 12 → Ready (fields_all s k (field_from s t.at t))) → Ready (cond u (fields_all s k (field_from s t.at t)) t)
    go true e h = h (ltb-true t.next 12 e)
    go false e h = ok

pub first-ready : Ready first_field
first-ready = record {
  sizes-ok = record { elen-ok = (omega arith, omega arith); rlen-ok = (omega arith, omega arith); mlen-ok = (omega arith, omega arith) };
  mlen-most = λ l. refl;
  row_is = λ l. refl;
}

pub read_ok : (s : List ℕ) → FieldsOk (read_in s)
unfolding read_in
read_ok s = (all-ready s 12 first_field first-ready).sizes-ok

pub fields-ok : (s : List ℕ) → FieldsOk (fields_in s)
unfolding fields_in
fields-ok s = record { elen-ok = (read_ok s).elen-ok; rlen-ok = (read_ok s).rlen-ok; mlen-ok = (read_ok s).mlen-ok }
