-- No word has the bits of two entries of section 4.5, ours or others.
use Rattle.numbers.proofs.Kit.{◌≡◌, refl, sym, ◌∙◌, Bool, true, false, not, ◌&&◌, ◌||◌, List, [], ◌∷◌, ℕ, eqb, eqb-true, eqb-false, not-true}
use Rattle.machine.proofs.TestLaws.{and_left, and_right, or-not, false-true}
use Rattle.machine.specs.Listing.{bits, Fixed, Code, Row, has, listing, others}

-- ---- one row each

-- the two fix the same bits differently
abbrev differs : Fixed → Fixed → Bool
differs f g = eqb f.high g.high && (eqb f.low g.low && not (eqb f.value g.value))

abbrev any_differs : Fixed → List Fixed → Bool
any_differs f [] = false
any_differs f (g ∷ gs) = differs f g || any_differs f gs

abbrev pub clash : List Fixed → List Fixed → Bool
clash [] gs = false
clash (f ∷ fs) gs = any_differs f gs || clash fs gs

abbrev pub clash_all : Code → List Code → Bool
clash_all c [] = true
clash_all c (d ∷ ds) = clash c.fixed d.fixed && clash_all c ds

abbrev pub pairwise : List Code → Bool
pairwise [] = true
pairwise (c ∷ cs) = clash_all c cs && pairwise cs

abbrev pub codes : List Row → List Code
codes [] = others
codes (r ∷ rs) = r.code ∷ codes rs

-- each two entries fix some bits differently
pub one-row-each : pairwise (codes listing) ≡ true
unfolding listing others
one-row-each = refl

-- and then no word has the bits of both
any-apart : (word : ℕ) (f : Fixed) (gs : List Fixed) → any_differs f gs ≡ true → eqb (bits f.high f.low word) f.value ≡ true → has word gs ≡ true → ⊥
any-apart word f [] d h k = false-true d
any-apart word f (g ∷ gs) d h k = go (differs f g) refl (λ d'. any-apart word f gs d' h (and_right (eqb (bits g.high g.low word) g.value) (has word gs) k))
  where
    go : (t : Bool) → differs f g ≡ t → (any_differs f gs ≡ true → ⊥) → ⊥
    go false e ih = ih (or-not (differs f g) (any_differs f gs) d e)
    go true e ih =
        let same-high : f.high ≡ g.high = eqb-true f.high g.high (and_left (eqb f.high g.high) (eqb f.low g.low && not (eqb f.value g.value)) e) in
        let e' = and_right (eqb f.high g.high) (eqb f.low g.low && not (eqb f.value g.value)) e in
        let same_low : f.low ≡ g.low = eqb-true f.low g.low (and_left (eqb f.low g.low) (not (eqb f.value g.value)) e') in
        let other = eqb-false f.value g.value (not-true (eqb f.value g.value) (and_right (eqb f.low g.low) (not (eqb f.value g.value)) e')) in
        let a : bits f.high f.low word ≡ f.value = eqb-true (bits f.high f.low word) f.value h in
        let b : bits g.high g.low word ≡ g.value =
        eqb-true (bits g.high g.low word) g.value (and_left (eqb (bits g.high g.low word) g.value) (has word gs) k) in
        other (sym a ∙ rw (same-high, same_low) b)

pub clash-apart : (word : ℕ) (fs gs : List Fixed) → clash fs gs ≡ true → has word fs ≡ true → has word gs ≡ true → ⊥
clash-apart word [] gs d h k = false-true d
clash-apart word (f ∷ fs) gs d h k = go (any_differs f gs) refl (λ d'. clash-apart word fs gs d' (and_right (eqb (bits f.high f.low word) f.value) (has word fs) h) k)
  where
    go : (t : Bool) → any_differs f gs ≡ t → (clash fs gs ≡ true → ⊥) → ⊥
    go true e ih = any-apart word f gs e (and_left (eqb (bits f.high f.low word) f.value) (has word fs) h) k
    go false e ih = ih (or-not (any_differs f gs) (clash fs gs) d e)
