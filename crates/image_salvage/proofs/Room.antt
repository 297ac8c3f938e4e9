-- A room as long as the input is enough: the fresh image ends at the place of the fault at the latest.
use mathlib.Core.Path.{◌≡◌, refl, sym, ap, ◌∙◌}
use mathlib.Core.Bool.{Bool, true, false}
use mathlib.Core.List.{List, ◌++◌}
use mathlib.Core.Logic.{inl, inr}
use Prim.Native.Nat.{ℕ, zero, suc, ◌+◌, ◌/◌, ◌≤◌}
use native.Mathlib.Omega.{arith}
use lib.Dec.{ltb}
use lib.ListN.{length, take, length-append}
use lib.Seq.{length-take-le}
use borrow.Author.Tests.{ltb-true, ltb-false}
use Rattle.numbers_format.specs.Numbers.{encode}
use Rattle.numbers_format.proofs.NumberLaws.{encode-last, encode-more}
use Rattle.image.specs.Cells.{Run}
use Rattle.image.specs.Images.{Header, runs_bytes, spelled}
use Rattle.image.specs.ImageFormat.{Described}
use Rattle.image_salvage.specs.Salvage.{place_in, kept_in, SalvageOutcome, salvage}
use Rattle.image_salvage.specs.Theorems.{end_of, fresh_of, EnoughRoom}
use Rattle.image_salvage.proofs.Keeps.{place-ends, runs-split, Exact, exact-of, keeps-every-run}
use Rattle.image_salvage.proofs.FreshLaws.{before, spelled-split}

-- a number takes no more bytes than a larger one
size-grows : (f a b : ℕ) → b ≤ f → a ≤ b → length (encode a) ≤ length (encode b)
size-grows zero a b h l = omega (arith, ap length (encode-last a (omega arith)), ap length (encode-last b (omega arith)))
size-grows (suc f) a b h l = go (λ k. size-grows f (a / 128) (b / 128) (omega arith) (omega arith)) (ltb a 128) refl (ltb b 128) refl
  where
    go : (128 ≤ b → length (encode (a / 128)) ≤ length (encode (b / 128))) → (t : Bool) → ltb a 128 ≡ t → (u : Bool) → ltb b 128 ≡ u → length (encode a) ≤ length (encode b)
    go ih t e true i = omega (arith, ltb-true b 128 i, ap length (encode-last a (omega (arith, ltb-true b 128 i))), ap length (encode-last b (ltb-true b 128 i)))
    go ih true e false i = omega (arith, ap length (encode-last a (ltb-true a 128 e)), ap length (encode-more b (ltb-false b 128 i)))
    go ih false e false i = omega (arith, ap length (encode-more a (ltb-false a 128 e)), ap length (encode-more b (ltb-false b 128 i)), ih (ltb-false b 128 i))

long : (h : Header) (rs : List Run) → length (spelled h rs) ≡ length (before h) + (length (encode (length rs)) + length (runs_bytes rs))
long h rs =
    ap length (spelled-split h rs) ∙ length-append (before h) (encode (length rs) ++ runs_bytes rs)
    ∙ ap (λ (x : ℕ). length (before h) + x) (length-append (encode (length rs)) (runs_bytes rs))

fresh-short : (d : Described) (n : ℕ) → n ≤ length d.body → length (fresh_of d n) ≤ end_of d n
fresh-short d n h =
    let all : length (take n d.body) ≡ n = length-take-le n d.body h in
    omega (
      arith,
      long d.header d.body,
      long d.header (take n d.body),
      runs-split n d.body,
      size-grows (length d.body) (length (take n d.body)) (length d.body) (omega arith) (omega arith),
    )

pub enough-room : EnoughRoom
enough-room s room b fits =
    let g = place-ends s b in
    let d : Described = g.goes_on.1.0 in
    by d (exact-of s room d (kept_in s) refl (keeps-every-run s b g.goes_on.0 d g.goes_on.1.1))
  where
    other : (o : SalvageOutcome) → salvage s room ≡ o → ¬ (o.answer.number ≡ 14) → ¬ ((salvage s room).answer.number ≡ 14)
    other o e n h = n (ap (λ (x : SalvageOutcome). x.answer.number) (sym e) ∙ h)

    by : (d : Described) → Exact s room d (place_in s) → ¬ ((salvage s room).answer.number ≡ 14)
    by d (inl h) = other _ h.1 (λ e. omega (arith, e))
    by d (inr (n, k)) = other _ (k.nought (omega (arith, fresh-short d n k.there, k.end_before, (place-ends s b).there, fits))) (λ e. omega (arith, e))
