-- Laws of formats: the parser finds what an input is read as, and else the place at which it leaves what is accepted.
use mathlib.Core.Path.{◌≡◌, refl, sym, ap, ap₂, ◌∙◌, subst}
use mathlib.Core.Bool.{Bool, true, false}
use mathlib.Core.List.{List, [], ◌∷◌, ◌++◌, append_assoc}
use Prim.Native.Nat.{ℕ, zero, suc, ◌+◌, ◌-◌, ◌≤◌, ◌<◌}
use native.Mathlib.Omega.{arith}
use lib.Dec.{ltb, leb}
use lib.Seq.{drop-append_seam, take_all, take_at, drop_at, take-append-add, take-take, length-take-le}
use lib.ListN.{length, take, drop, replicate, length-append, length-replicate, take-append-drop}
use borrow.Author.Tests.{ltb-true, ltb-false, leb-true, leb-false, le-leb}
use Rattle.numbers_format.specs.Numbers.{Interval, Among, encode, ByteString}
use Rattle.numbers_format.specs.Formats.{Ends, Format, Accepts, Accepted}
use Rattle.numbers_format.specs.Formats.Format.{done, number, bytes}
use Rattle.numbers_format.specs.Parser.{Live, Got, read_number, Parsed, later, parse}
use Rattle.numbers_format.specs.Parser.Got.{value, fault}
use Rattle.numbers_format.specs.Parser.Parsed.{whole, stopped}
use Rattle.numbers_format.specs.Theorems.{OnePlace, Right, ParserIsRight}
use Rattle.numbers_format.proofs.NumberLaws.{Read, Stuck, Found, nonempty-among, number-right, read_back, encode-apart}

bytes_drop : (n : ℕ) (s : List ℕ) → ByteString s → ByteString (drop n s)
bytes_drop zero s h = h
bytes_drop (suc n) [] h = h
bytes_drop (suc n) (b ∷ s) h = bytes_drop n s h.1

pub bytes_take : (n : ℕ) (s : List ℕ) → ByteString s → ByteString (take n s)
bytes_take zero s h = tt
bytes_take (suc n) [] h = h
bytes_take (suc n) (b ∷ s) h = (h.0, bytes_take n s h.1)

pub bytes-zeros : (n : ℕ) → ByteString (replicate n 0)
bytes-zeros zero = tt
bytes-zeros (suc n) = (omega arith, bytes-zeros n)

bytes-append : (s t : List ℕ) → ByteString s → ByteString t → ByteString (s ++ t)
bytes-append [] t hs ht = ht
bytes-append (b ∷ s) t hs ht = (hs.0, bytes-append s t hs.1 ht)

module _ {X : Type 0} where
  -- ---- a live format accepts something
  word : (f : Format X) → Live f → (s : List ℕ) × Accepted f s
  word (done x) h = ([], (x, (refl, refl)))
  word (number rs k) h =
      let w = nonempty-among rs h.0 in
      let v = word (k w.0) (h.1 w.0 w.1) in
      (encode w.0 ++ v.0, (v.1.0, (w.0, v.0, w.1, refl, v.1.1)))
  word (bytes m k) h =
      let b : List ℕ = replicate m 0 in
      let v = word (k b) (h b (length-replicate m 0)) in
      (b ++ v.0, (v.1.0, (b, v.0, (length-replicate m 0, bytes-zeros m), refl, v.1.1)))

  -- ---- what is accepted is parsed
  pub accepts-parse : (f : Format X) (s : List ℕ) (x : X) → Accepts f s x → parse f s ≡ whole x
  unfolding parse
  accepts-parse (done y) s x h = rw h.0 (ap whole h.1)
  accepts-parse (number rs k) s x h =
      let e : read_number rs s ≡ value h.0 (length (encode h.0)) = ap (read_number rs) h.3 ∙ read_back rs h.0 h.1 h.2 in
      let d : drop (length (encode h.0)) s ≡ h.1 = ap (drop (length (encode h.0))) h.3 ∙ drop-append_seam (encode h.0) h.1 in
      rw (e, parse, d, accepts-parse (k h.0) h.1 x h.4)
  accepts-parse (bytes m k) s x h =
      let n : m ≤ length s = omega (arith, ap length h.3 ∙ length-append h.0 h.1, h.2.0) in
      let a : take m s ≡ h.0 = ap (take m) h.3 ∙ take_at h.0 h.1 m h.2.0 in
      let d : drop m s ≡ h.1 = ap (drop m) h.3 ∙ drop_at h.0 h.1 m h.2.0 in
      rw (le-leb m (length s) n, parse, a, d, accepts-parse (k h.0) h.1 x h.4)

-- ---- what the parser finds is right

-- a field's bytes a, then t: the rest's place, behind them
ends-later : (L L' : List ℕ → Type 0) (a t s : List ℕ) (l p : ℕ) → s ≡ a ++ t → l ≡ length a
    → ((w : List ℕ) → L' w → L (a ++ w)) → ((w : List ℕ) → L (a ++ w) → L' w) → Ends L' t p → Ends L s (l + p)
ends-later L L' a t s l p e n into out h =
    let long : length s ≡ l + length t = ap length e ∙ length-append a t ∙ ap (λ (x : ℕ). x + length t) (sym n) in
    let front : (q : ℕ) → take (l + q) s ≡ a ++ take q t = λ q. ap₂ (λ (x : ℕ) (y : List ℕ). take (x + q) y) n e ∙ take-append-add a t q in
    let next : suc (l + p) ≡ l + suc p = omega arith in
    record {
      there = omega (arith, h.there);
      goes_on = (h.goes_on.0, subst L (sym (append_assoc a (take p t) h.goes_on.0) ∙ ap (λ (y : List ℕ). y ++ h.goes_on.0) (sym (front p))) (into _ h.goes_on.1));
      stops = λ k u w. h.stops (omega arith) u
          (out _ (subst L (ap (λ (x : ℕ). take x s ++ u) next ∙ ap (λ (y : List ℕ). y ++ u) (front (suc p)) ∙ append_assoc a (take (suc p) t) u) w));
    }

module _ {X : Type 0} where
  abbrev pub ParseRight : Format X → List ℕ → Parsed X → Type 0
  ParseRight f s (whole x) = Accepts f s x
  ParseRight f s (stopped p) = Ends (Accepted f) s p

  number-later : (rs : List Interval) (k : ℕ → Format X) (s : List ℕ) (n l : ℕ) → Read rs s n l → (q : Parsed X)
      → ParseRight (k n) (drop l s) q → ParseRight (number rs k) s (later l q)
  number-later rs k s n l r (whole x) h = (n, drop l s, r.permitted, r.starts, h)
  number-later rs k s n l r (stopped p) h =
      ends-later (Accepted (number rs k)) (Accepted (k n)) (encode n) (drop l s) s l p r.starts r.long
      (λ w a. (a.0, (n, w, r.permitted, refl, a.1)))
      (λ w a. let same = encode-apart n a.1.0 w a.1.1 a.1.3 in
      (a.0, subst (λ (z : ℕ). Accepts (k z) w a.0) (sym same.0) (subst (λ (z : List ℕ). Accepts (k a.1.0) z a.0) (sym same.1) a.1.4)))
      h

  bytes-later : (m : ℕ) (k : List ℕ → Format X) (s : List ℕ) → m ≤ length s → ByteString s → (q : Parsed X)
      → ParseRight (k (take m s)) (drop m s) q → ParseRight (bytes m k) s (later m q)
  bytes-later m k s e hs (whole x) h = (take m s, drop m s, (length-take-le m s e, bytes_take m s hs), sym (take-append-drop m s), h)
  bytes-later m k s e hs (stopped p) h =
      let long : length (take m s) ≡ m = length-take-le m s e in
      ends-later (Accepted (bytes m k)) (Accepted (k (take m s))) (take m s) (drop m s) s m p (sym (take-append-drop m s)) (sym long)
      (λ w a. (a.0, (take m s, w, (long, bytes_take m s hs), refl, a.1)))
      (λ w a.
      let one : take m s ≡ a.1.0 = sym (take_at (take m s) w m long) ∙ ap (take m) a.1.3 ∙ take_at a.1.0 a.1.1 m a.1.2.0 in
      let two : w ≡ a.1.1 = sym (drop_at (take m s) w m long) ∙ ap (drop m) a.1.3 ∙ drop_at a.1.0 a.1.1 m a.1.2.0 in
      (a.0, subst (λ (z : List ℕ). Accepts (k z) w a.0) (sym one) (subst (λ (z : List ℕ). Accepts (k a.1.0) z a.0) (sym two) a.1.4)))
      h

  number-stuck : (rs : List Interval) (k : ℕ → Format X) → ((n : ℕ) → Among n rs → Live (k n)) → (s : List ℕ) (p : ℕ) → Stuck rs s p → Ends (Accepted (number rs k)) s p
  number-stuck rs k live s p r =
      let n : ℕ = r.goes_on.0 in
      let v = word (k n) (live n r.goes_on.2) in
      record {
        there = r.there;
        goes_on = (r.goes_on.1 ++ v.0, (v.1.0, (n, v.0, r.goes_on.2, sym (append_assoc (take p s) r.goes_on.1 v.0) ∙ ap (λ (y : List ℕ). y ++ v.0) r.goes_on.3, v.1.1)));
        stops = λ h u a. r.stops h a.1.0 u a.1.1 a.1.2 a.1.3;
      }

  bytes-short : (m : ℕ) (k : List ℕ → Format X) → Live (bytes m k) → (s : List ℕ) → length s < m → ByteString s → Ends (Accepted (bytes m k)) s (length s)
  bytes-short m k live s e hs =
      let b : List ℕ = s ++ replicate (m - length s) 0 in
      let long : length b ≡ m = omega (arith, length-append s (replicate (m - length s) 0), length-replicate {A = ℕ} (m - length s) 0) in
      let v = word (k b) (live b long) in
      record {
        there = omega arith;
        goes_on = (replicate (m - length s) 0 ++ v.0, (v.1.0, (b, v.0, (long, bytes-append s (replicate (m - length s) 0) hs (bytes-zeros (m - length s))), ap (λ (y : List ℕ). y ++ (replicate (m - length s) 0 ++ v.0)) (take_all (length s) s (omega arith)) ∙ sym (append_assoc s (replicate (m - length s) 0) v.0), v.1.1)));
        stops = λ h. absurd (omega arith);
      }

  pub parse-right : (f : Format X) (s : List ℕ) → Live f → ByteString s → ParseRight f s (parse f s)
  unfolding parse
  parse-right (done x) [] live hs = (refl, refl)
  parse-right (done x) (b ∷ s) live hs = record { there = omega arith; goes_on = ([], (x, (refl, refl))); stops = λ h u a. never b u a.1.0 }
    where
      never : (b : ℕ) (u : List ℕ) → b ∷ u ≡ [] → ⊥
      never b u e = let z : ◌≡◌ {A = ℕ} 1 0 = ap length-of e in omega arith
        where
          length-of : List ℕ → ℕ
          length-of [] = 0
          length-of (x ∷ l) = 1
  parse-right (number rs k) s live hs = go (λ n l r. parse-right (k n) (drop l s) (live.1 n r.permitted) (bytes_drop l s hs)) (read_number rs s) (number-right rs s hs live.0)
    where
      go : ((n l : ℕ) → Read rs s n l → ParseRight (k n) (drop l s) (parse (k n) (drop l s))) → (g : Got) → Found rs s g
          → ParseRight (number rs k) s (elim g [ value n l ↦ later l (parse (k n) (drop l s)) | fault p ↦ stopped p ])
      go ih (value n l) r = number-later rs k s n l r (parse (k n) (drop l s)) (ih n l r)
      go ih (fault p) r = number-stuck rs k live.1 s p r
  parse-right (bytes m k) s live hs = go (λ e. parse-right (k (take m s)) (drop m s) (live (take m s) (length-take-le m s e)) (bytes_drop m s hs)) (leb m (length s)) refl
    where
      go : (m ≤ length s → ParseRight (k (take m s)) (drop m s) (parse (k (take m s)) (drop m s))) → (b : Bool) → leb m (length s) ≡ b
          → ParseRight (bytes m k) s (elim b [ true ↦ later m (parse (k (take m s)) (drop m s)) | false ↦ stopped (length s) ])
      go ih true e = bytes-later m k s (leb-true m (length s) e) hs (parse (k (take m s)) (drop m s)) (ih (leb-true m (length s) e))
      go ih false e = bytes-short m k live s (leb-false m (length s) e) hs

  -- what is accepted is not at fault
  pub parser-right : (f : Format X) → Live f → (s : List ℕ) → ByteString s → Right f s (parse f s)
  parser-right f live s hs = go (parse f s) refl (parse-right f s live hs)
    where
      apart : (p : ℕ) (x : X) → ¬ (stopped p ≡ whole x)
      apart p x e = let z : ◌≡◌ {A = ℕ} 0 1 = cc in absurd (omega arith)

      go : (q : Parsed X) → parse f s ≡ q → ParseRight f s q → Right f s q
      go (whole x) e h = h
      go (stopped p) e h = (h, λ a. apart p a.0 (sym e ∙ accepts-parse f s a.0 a.1))

  -- what is accepted is read as one thing
  pub accepts-one : (f : Format X) (s : List ℕ) (x y : X) → Accepts f s x → Accepts f s y → x ≡ y
  accepts-one f s x y hx hy = from (sym (accepts-parse f s x hx) ∙ accepts-parse f s y hy)
    where
      from : whole x ≡ whole y → x ≡ y
      from e = cc

pub parser-is-right : ParserIsRight
parser-is-right X f live s hs = parser-right f live s hs

-- there is one such place
pub ends-one : OnePlace
ends-one L s p q hp hq = go (ltb p q) refl (ltb q p) refl
  where
    before : (a b : ℕ) → Ends L s a → Ends L s b → a < b → ⊥
    before a b ha hb k =
        ha.stops (omega (arith, hb.there)) (drop (suc a) (take b s) ++ hb.goes_on.0)
        (subst L (ap (λ (z : List ℕ). z ++ hb.goes_on.0) (sym (take-append-drop (suc a) (take b s)) ∙ ap (λ (z : List ℕ). z ++ drop (suc a) (take b s)) (take-take (suc a) b s k))
        ∙ append_assoc (take (suc a) s) (drop (suc a) (take b s)) hb.goes_on.0) hb.goes_on.1)

    go : (c : Bool) → ltb p q ≡ c → (d : Bool) → ltb q p ≡ d → p ≡ q
    go true e d f = absurd (before p q hp hq (ltb-true p q e))
    go false e true f = absurd (before q p hq hp (ltb-true q p f))
    go false e false f = omega (arith, ltb-false p q e, ltb-false q p f)
