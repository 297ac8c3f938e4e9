-- What the parts of a header are read as, from a place of the input on.
use Rattle.std.specs.Prelude.{Result, Ok, Err, ◌≡◌, ◌∷◌, ◌+◌, ◌-◌, ◌^◌, ◌≤◌, ◌<◌}
use Rattle.numbers.specs.Kit.{cond, List, [], ℕ, zero, suc, min, eqb, ltb, drop}
use Rattle.numbers_format.specs.Parser.{read_number, Parsed, from}
use Rattle.numbers_coded.specs.declared.Damage.{Damage}
use Rattle.numbers_coded.specs.At.{Number, found, number_at}
use Rattle.numbers_coded.specs.At.Number.{Value, Fault}
use Rattle.machine.specs.declared.Machine.{Machine}
use Rattle.image.specs.Cells.{Run}
use Rattle.machine.specs.Geometry.{range}
use Rattle.image.specs.Images.{Seals, Header}
use Rattle.image.specs.ImageFormat.{Described, top_rlen, top_mlen, least_mlen, mtypes, counts, runs_format}
use Rattle.image_header.specs.declared.Fields.{Fields}
use Rattle.image_header.specs.declared.Row.{Row}
use Rattle.image_header.specs.declared.Row.TheVariants.{Span, Mtype, Count, Ranges}
use Rattle.image_header.specs.declared.RangeRead.{RangeRead}

-- what follows a number and the place behind it, or the place of its fault
abbrev pub onward : {R : Type 0} → Number → (bad : ℕ → R) → (good : ℕ → ℕ → R) → R
onward (Value n at) bad good = good n at
onward (Fault p) bad good = bad p

-- ---- numbers that are not all those of a span

-- the mtype at a place, by the exponent of ELEN
unfoldable pub mtype_at : List ℕ → (elen at : ℕ) → Number
mtype_at s elen at = found at (read_number (mtypes elen) (drop at s))

-- how many ranges there are, as version 4 says
unfoldable pub count_at : List ℕ → (at : ℕ) → Number
count_at s at = found at (read_number counts (drop at s))

-- ---- ranges

-- two numbers and the place behind them, or the place of a fault
pub data Pair : Type 0 where
  Both : ℕ → ℕ → ℕ → Pair
  PairBad : ℕ → Pair

abbrev pub plain_range : Pair → Result RangeRead Damage
plain_range (Both start size at) = Ok (record { start = start; size = size; at = at })
plain_range (PairBad p) = Err (record { at = p })

-- two numbers, each up to its most; that of the second by the first
abbrev pub pair_at : List ℕ → (at most : ℕ) (most_of : ℕ → ℕ) → Pair
pair_at s at most most_of =
    onward (number_at s at 0 most) PairBad λ x a.
    onward (number_at s a 0 (most_of x)) PairBad λ y b.
    Both x y b

-- a range's start and length
unfoldable pub range_at : List ℕ → ℕ → Pair
range_at s at = pair_at s at (2 ^ 64 - 1) (λ start. 2 ^ 64 - 1 - start)

-- what follows a range and the place behind it, or the place of its fault
abbrev pub past : {R : Type 0} → Pair → (bad : ℕ → R) → (good : ℕ → ℕ → ℕ → R) → R
past (Both start size at) bad good = good start size at
past (PairBad p) bad good = bad p

-- the place behind so many ranges, or the place of a fault
pub data Place : Type 0 where
  Behind : ℕ → Place
  PlaceBad : ℕ → Place

unfoldable pub ranges_end : List ℕ → (count at : ℕ) → Place
ranges_end s zero at = Behind at
ranges_end s (suc n) at = past (range_at s at) PlaceBad λ start size a. ranges_end s n a

-- these ranges
unfoldable pub ranges_found : List ℕ → (count at : ℕ) → Seals
ranges_found s zero at = []
ranges_found s (suc n) at = past (range_at s at) (λ p. []) λ start size a. range start size ∷ ranges_found s n a

abbrev pub placed : ℕ → Place → Number
placed at (Behind a) = Value at a
placed at (PlaceBad p) = Fault p

-- as one number: their place
unfoldable pub ranges_at : List ℕ → (count at : ℕ) → Number
ranges_at s count at = placed at (ranges_end s count at)

-- ---- the fields of a header

abbrev pub least_rule : ℕ → ℕ
least_rule version = cond (eqb version 2) 1 0

-- what a field may be, by its number and by what was read
unfoldable pub row_at : (next version elen rlen mlen seals : ℕ) → Row
row_at next version elen rlen mlen seals =
    cond (eqb next 0) (Span 1 4)
    (cond (eqb next 1) (Span (least_rule version) 1)
    (cond (eqb next 2) (Span 5 6)
    (cond (eqb next 3) (Span (suc elen) (top_rlen version))
    (cond (eqb next 4) (Span (least_mlen version elen rlen) (top_mlen version))
    (cond (eqb next 5) (Mtype elen)
    (cond (eqb next 6) (Span 0 (2 ^ (mlen - rlen)))
    (cond (eqb next 7) (Span 0 (min (2 ^ (mlen - rlen)) (2 ^ (rlen - 3))))
    (cond (eqb next 8) (Span 0 (2 ^ (rlen - 3)))
    (cond (eqb next 9) Count
    (cond (eqb next 10) (Ranges seals)
    (Span 0 (2 ^ mlen))))))))))))

-- what the next field may be
abbrev pub row_of : Fields → Row
row_of t = row_at t.next t.version t.elen t.rlen t.mlen t.seals

abbrev pub fields_with : Row → (next at version rule elen rlen mlen mtype tile_m tile_k tile_n seals first runs : ℕ) → Fields
fields_with row next at version rule elen rlen mlen mtype tile_m tile_k tile_n seals first runs = record {
  row = row;
  next = next;
  at = at;
  version = version;
  rule = rule;
  elen = elen;
  rlen = rlen;
  mlen = mlen;
  mtype = mtype;
  tile_m = tile_m;
  tile_k = tile_k;
  tile_n = tile_n;
  seals = seals;
  seals_at = first;
  runs = runs;
}

-- with the row of the next
abbrev pub fields_of : (next at version rule elen rlen mlen mtype tile_m tile_k tile_n seals first runs : ℕ) → Fields
fields_of next at version rule elen rlen mlen mtype tile_m tile_k tile_n seals first runs =
    fields_with (row_at next version elen rlen mlen seals) next at version rule elen rlen mlen mtype tile_m tile_k tile_n seals first runs

-- before the first: what a version that has no such field has in its place, and else any numbers that are permitted
abbrev pub first_field : Fields
first_field = fields_of 0 0 0 0 5 6 16 0 0 0 0 1 0 0

-- the exponents are always some that are permitted
pub record FieldsOk (t : Fields) : Type 0 where
  pub elen-ok : (5 ≤ t.elen) × (t.elen ≤ 6)
  pub rlen-ok : (6 ≤ t.rlen) × (t.rlen ≤ 12)
  pub mlen-ok : (t.rlen < t.mlen) × (t.mlen ≤ 16)

-- and where a field is left, its row is there
pub record Ready (t : Fields) : Type 0 where
  pub sizes-ok : FieldsOk t
  pub mlen-most : t.next ≤ 4 → t.mlen ≡ 16
  pub row_is : t.next < 12 → t.row ≡ row_of t

-- the exponent of ELEN in the row of an mtype is one of its two
abbrev pub RowOk : Row → Type 0
RowOk (Span low high) = Unit {0}
RowOk (Mtype elen) = (5 ≤ elen) × (elen ≤ 6)
RowOk Count = Unit {0}
RowOk (Ranges count) = Unit {0}

-- the number at a place, of those of a row
unfoldable pub number_in : List ℕ → ℕ → Row → Number
number_in s at (Span low high) = number_at s at low high
number_in s at (Mtype elen) = mtype_at s elen at
number_in s at Count = count_at s at
number_in s at (Ranges count) = ranges_at s count at

-- the fields with n for the next
unfoldable pub put_field : Fields → ℕ → Fields
put_field t n =
    fields_with t.row t.next t.at (new 0 t.version) (new 1 t.rule) (new 2 t.elen) (new 3 t.rlen) (new 4 t.mlen) (new 5 t.mtype)
    (new 6 t.tile_m) (new 7 t.tile_k) (new 8 t.tile_n) (new 9 t.seals) (new 10 t.seals_at) (new 11 t.runs)
  where
    new : ℕ → ℕ → ℕ
    new f old = cond (eqb t.next f) n old

-- the field behind field f, of some version
unfoldable pub after : (f version : ℕ) → ℕ
after f version =
    cond (eqb f 0) (cond (eqb version 1) 3 1)
    (cond (eqb f 1) (cond (eqb version 2) 3 2)
    (cond (eqb f 8) (cond (eqb version 4) 9 10)
    (f + 1)))

abbrev pub moved_to : (next at : ℕ) → Fields → Fields
moved_to next at t = fields_with t.row next at t.version t.rule t.elen t.rlen t.mlen t.mtype t.tile_m t.tile_k t.tile_n t.seals t.seals_at t.runs

-- with n for the next, behind which is a place
abbrev pub field_read : Fields → (n at : ℕ) → Fields
field_read t n at = moved_to (after t.next (put_field t n).version) at (put_field t n)

-- with the row of the next
abbrev pub with_row : Fields → Fields
with_row t = fields_of t.next t.at t.version t.rule t.elen t.rlen t.mlen t.mtype t.tile_m t.tile_k t.tile_n t.seals t.seals_at t.runs

-- one field more, read at a place; 13 at a fault
unfoldable pub field_from : List ℕ → ℕ → Fields → Fields
field_from s at t = onward (number_in s at t.row) (λ p. moved_to 13 p t) (λ n a. with_row (field_read t n a))

-- all that are left, at most so many
unfoldable pub fields_all : List ℕ → (most : ℕ) → Fields → Fields
fields_all s zero t = t
fields_all s (suc n) t = cond (ltb t.next 12) (fields_all s n (field_from s t.at t)) t

unfoldable pub read_in : List ℕ → Fields
read_in s = fields_all s 12 first_field

-- without a row
abbrev pub rested : Fields → Fields
rested t = fields_with (Span 0 0) t.next t.at t.version t.rule t.elen t.rlen t.mlen t.mtype t.tile_m t.tile_k t.tile_n t.seals t.seals_at t.runs

unfoldable pub fields_in : List ℕ → Fields
fields_in s = rested (read_in s)

abbrev pub machine_of : Fields → Machine
machine_of t = record {
  rlen = 2 ^ t.rlen;
  mlen = 2 ^ t.mlen;
  mtype = t.mtype;
  tile_m = t.tile_m;
  tile_k = t.tile_k;
  tile_n = t.tile_n;
  rule = t.rule;
  elen = 2 ^ t.elen;
}

-- the parts put together: a machine and its ranges
abbrev pub numbers_of : (rule elen rlen mlen mtype tile_m tile_k tile_n : ℕ) → Seals → Header
numbers_of rule elen rlen mlen mtype tile_m tile_k tile_n seals =
    record { rlen = rlen; mlen = mlen; mtype = mtype; tile_m = tile_m; tile_k = tile_k; tile_n = tile_n; seals = seals; rule = rule; elen = elen }

-- ---- what follows the header

abbrev pub describe : Header → List Run → Described
describe h rs = record { header = h; body = rs }

-- a machine's numbers don't matter to its runs
abbrev pub no_header : Header
no_header = record { rlen = 0; mlen = 0; mtype = 0; tile_m = 0; tile_k = 0; tile_n = 0; seals = []; rule = 0; elen = 0 }

-- so many runs in room bytes, from a place of the input on
unfoldable pub runs_from : (s : List ℕ) (at count least room : ℕ) → Parsed Described
runs_from s at count least room = from (runs_format (describe no_header) count least room) s at
